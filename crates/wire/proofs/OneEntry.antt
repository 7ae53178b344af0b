-- An entry has one writing.
use Rattle.std.proofs.Common.{◌≡◌, ℕ, ◌-◌, ◌<◌, ◌≤◌, List, [], ◌∷◌, ◌++◌, length, get_or, take, drop, sym, refl, ap, ◌∙◌, arith, length-append, w8, Fits}
use Rattle.octets.proofs.Begins.{begins}
use Rattle.envelope.proofs.Sequences.{Same}
use Rattle.votes.specs.Entries.{EntryFits, EntryModel, entry_bytes}
use Rattle.votes.specs.Marks.{largest_mark}
use Rattle.wire.proofs.SameFront.{same_front}

pub same_entry : (m : ℕ) → Same (EntryFits m) entry_bytes
same_entry m x y s t f g e =
    let a : x.group ≡ y.group = cc in
    let b : x.replica ≡ y.replica = cc in
    let h = same_front x.mark y.mark s t (f.mark_fits ∙ sym g.mark_fits) (cc) in
    ((λ i. record { group = a i; replica = b i; mark = h.0 i }), h.1)

-- the first two bytes and the rest, as a slice pattern cuts it off
pub two : (bs : List ℕ) → 2 ≤ length bs → bs ≡ get_or bs 0 0 ∷ get_or bs 1 0 ∷ take (length bs - 2) (drop 2 bs)
two bs l = begins bs (get_or bs 0 0 ∷ get_or bs 1 0 ∷ []) l (refl, (refl, tt))

-- too few bytes for a mark
pub no_entry : (m : ℕ) (bs : List ℕ) → 2 ≤ length bs → length (take (length bs - 2) (drop 2 bs)) < m
    → (e : EntryModel) (rest : List ℕ) → EntryFits m e → bs ≡ entry_bytes e ++ rest → ⊥
no_entry m bs l short e rest f w =
    let t = two bs l in
    let same : take (length bs - 2) (drop 2 bs) ≡ e.mark ++ rest = cc in
    omega (arith, ap length same, length-append e.mark rest, f.mark_fits)

-- a mark that is too large
pub too_wide : (m : ℕ) (mark bs : List ℕ) → length mark ≡ m → largest_mark < length mark
    → (e : EntryModel) (rest : List ℕ) → EntryFits m e → bs ≡ entry_bytes e ++ rest → ⊥
too_wide m mark bs size large e rest f w = omega (arith, f.small)

-- two bytes and a mark make an entry
pub the_entry : (m : ℕ) (bs : List ℕ) → 2 ≤ length bs → ((i : ℕ) → Fits w8 (get_or bs i 0)) → (mark after front : List ℕ)
    → length mark ≡ m → take (length bs - 2) (drop 2 bs) ≡ mark ++ after → front ≡ mark → length mark ≤ largest_mark
    → EntryFits m (record { group = get_or bs 0 0; replica = get_or bs 1 0; mark = front })
    × (bs ≡ get_or bs 0 0 ∷ get_or bs 1 0 ∷ (front ++ after))
the_entry m bs l typed mark after front size split is small =
    let a = typed 0 in
    let b = typed 1 in
    let same = ap length is in (
      record { group_fits = omega arith; replica_fits = omega arith; mark_fits = omega arith; small = omega arith },
      cc (two bs l, split, is),
    )
