-- A track among the tracks, and another in its place.
use Rattle.std.proofs.Common.{◌≡◌, ℕ, ◌≤◌, Bool, true, false, cond, ◌&&◌, ◌==◌, if◌then◌else◌, List, [], ◌++◌, length, get_or, set, Some, None, Option, nat_lt, sym, refl, ap, ◌∙◌, subst, inl, inr, ⊎_elim, Vec, Global, arith}
use Rattle.std.proofs.Props.{props}
use Rattle.std.proofs.lemmas.Grind.{common_steps}
use Rattle.std.specs.Option.{option_map}
use Rattle.std.specs.List.{All, slice_get}
use Rattle.std.specs.Vec.{with_item}
use mathlib.Core.HLevel.{Σ_prop_path}
use Rattle.std.proofs.lemmas.List.{append-nil, set-get_or}
use Rattle.std.proofs.lemmas.Option.{gets, slice_get_cases, slice_get_within}
use Rattle.std.proofs.lemmas.Bool.{cases_eq, eq-eqb, le-ltb, lt-ltb, ne_eqb}
use Rattle.sequencer.specs.Lists.{Fresh}
use Rattle.sequencer.specs.Records.{has_space, messages_of}
use Rattle.sequencer.specs.Tapes.{tape_fits, tape_lists}
use Rattle.sequencer.specs.Tracks.{fits_on, list_on, track_fits, track_lists}
use Rattle.sequencer.specs.declared.records.Records.{Records}
use Rattle.sequencer.specs.declared.tracks.Tracks.{Tracks}

-- a track is records of one group
module _ (t : Records 0) where
  pub track_list : tape_lists t 0 ≡ list_on (Some t)
  track_list = ap (λ n. cond (nat_lt 0 n) (messages_of 0 t.bytes.items 0) []) (t.single refl)

  pub track_space : (n : ℕ) → tape_fits t 0 n ≡ fits_on (Some t) n
  track_space n = ap (λ k. nat_lt 0 k && has_space 0 (length t.bytes.items) t.size n) (t.single refl)

-- tracks that are fresh, each by itself
pub fresh_tracks : (s : Tracks) (groups size : ℕ) → length s.tracks.items ≡ groups
    → All (Fresh tape_lists tape_fits 1 (has_space 0 0 size)) s.tracks.items
    → Fresh track_lists track_fits groups (has_space 0 0 size) s
fresh_tracks s groups size many fresh = record {
  none = λ g. elim (slice_get_cases s.tracks.items g).1 [
    | inl (t, l, is, at) ↦ ap list_on is ∙ sym (track_list t) ∙ subst (λ x. tape_lists x 0 ≡ []) at ((fresh g t l).none 0)
    | inr (l, is) ↦ ap list_on is
  ];
  empty = λ g n. elim (slice_get_cases s.tracks.items g).1 [
    | inl (t, l, is, at) ↦ ap (λ o. fits_on o n) is ∙ sym (track_space t n)
        ∙ subst (λ x. tape_fits x 0 n ≡ has_space 0 0 size n) at ((fresh g t l).empty 0 n)
        ∙ ap (λ b. b && has_space 0 0 size n) (sym (lt-ltb g groups (omega arith)))
    | inr (l, is) ↦ ap (λ o. fits_on o n) is ∙ ap (λ b. b && has_space 0 0 size n) (sym (le-ltb g groups (omega arith)))
  ];
}

-- what holds of the new element and the old one at their place, and of each other element and itself, holds everywhere
pub at_set : {X : Type 0} (P : Bool → Option X → Option X → Type 0) (xs : List X) (i : ℕ) (x y : X)
    → slice_get xs i ≡ Some x → P true (Some y) (Some x) → ((o : Option X) → P false o o)
    → (j : ℕ) → P (i == j) (slice_get (set xs i y) j) (slice_get xs j)
at_set P xs i x y e p q j =
    let within = slice_get_within xs i x e in
    let new : slice_get (set xs i y) i ≡ Some y = grind (arith, common_steps, gets) in
    ⊎_elim
    (λ s. subst (λ k. P (i == k) (slice_get (set xs i y) k) (slice_get xs k)) s (rw (eq-eqb i i refl) (rw new (rw e p))))
    (λ ne. let old : slice_get (set xs i y) j ≡ slice_get xs j = grind (arith, common_steps, gets) in
    rw (ne_eqb i j ne) (rw old (q (slice_get xs j)))) (cases_eq i j)

-- an element that is written back
pub restored : {X : Type 0} (v : Vec X Global) (i : ℕ) (x : X) → x ≡ get_or v.items i x → with_item v i x ≡ v
restored v i x e =
    let same : set v.items i x ≡ v.items = ap (set v.items i) e ∙ set-get_or v.items i x in
    let kept : Type 0 = (xs : List _) × ((v.len ≡ length xs) × (v.len ≤ v.cap)) in
    let pairs : ◌≡◌ {A = kept} (set v.items i x, (with_item v i x).ok) (v.items, v.ok) =
    Σ_prop_path (λ xs. Prim.hlevel props) same in
    λ k. record {
      ptr = v.ptr;
      len = v.len;
      cap = v.cap;
      alloc = v.alloc;
      items = (pairs k).0;
      ok = (pairs k).1;
      small = v.small;
    }

pub mapped_same : {X : Type 0} (o : Option X) → o ≡ option_map (λ x. x) o
mapped_same None = refl
mapped_same (Some x) = refl

pub none_more : {X : Type 0} (r : Bool) (xs ys : List X) → xs ≡ xs ++ (if r && false then ys else [])
none_more true xs ys = sym (append-nil xs)
none_more false xs ys = sym (append-nil xs)
