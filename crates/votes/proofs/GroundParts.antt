-- A ground is told by its byte and by what the answer ends with.
use Rattle.std.proofs.Common.{◌≡◌, ℕ, ◌+◌, ◌<◌, Bool, true, false, cond, eqb, List, [], ◌∷◌, ◌++◌, length, get_or, take, drop, Some, None, sym, refl, ap, ◌∙◌, subst, ap₂, arith, length-append, take-append-drop}
use Rattle.std.specs.List.{AllByRecursion}
use Rattle.std.proofs.lemmas.List.{drop_at, get_or_at, get_or-drop, length-drop, take_at}
use Rattle.std.proofs.lemmas.Bool.{cond-false, cond-true, eq-eqb, eqb-true, ne_eqb}
use Rattle.votes.specs.Bytes.{with_byte}
use Rattle.votes.specs.Grounds.{GroundFits, blocked_by, ground_byte, ground_end, ground_of}
use Rattle.votes.specs.declared.ground.Ground.{Ground}
use Rattle.votes.specs.declared.ground.Ground.TheVariants.{Pending, NoRow, Blocked, NoPlace, Unequal, Proposed, Known}
use Rattle.votes.proofs.Tables.{with_byte_lem}

pub no_blocker : (end : List ℕ) → (length end ≡ 33 → ⊥) → None ≡ blocked_by end
no_blocker end other = sym (cond-false _ _ _ (ne_eqb _ _ other))

-- a name and one byte
pub the_blocker : (end name rest : List ℕ) → length name ≡ 32 → end ≡ name ++ rest → length rest ≡ 1
    → Some (Blocked (record { name = record { bytes = name }; groups = record { bits = get_or rest 0 0 } })) ≡ blocked_by end
the_blocker end name rest wide whole one =
    let front : name ≡ take 32 end = sym (ap (take 32) whole ∙ take_at name rest 32 wide) in
    let back : rest ≡ drop 32 end = sym (ap (drop 32) whole ∙ drop_at name rest 32 wide) in
    let bits : get_or rest 0 0 ≡ get_or end 32 0 = ap (λ l. get_or l 0 0) back ∙ get_or-drop 32 end 0 0 in
    let size = ap length whole ∙ length-append name rest in
    ap₂ (λ n b. Some (Blocked (record { name = record { bytes = n }; groups = record { bits = b } }))) front bits
    ∙ sym (cond-true _ _ _ (eq-eqb (length end) 33 (omega arith)))

-- the ground of a byte and an end that a ground has
pub ground_back : (g : Ground) → GroundFits g → ground_of (ground_byte g) (ground_end g) ≡ Some g
ground_back Pending f = refl
ground_back NoRow f = refl
ground_back (Blocked b) f =
    let end = b.name.bytes ++ (b.groups.bits ∷ []) in
    let size : length end ≡ 33 = length-append b.name.bytes (b.groups.bits ∷ []) ∙ ap (λ n. n + 1) f.0 in
    let name : take 32 end ≡ b.name.bytes = take_at b.name.bytes (b.groups.bits ∷ []) 32 f.0 in
    let bits : get_or end 32 0 ≡ b.groups.bits = get_or_at b.name.bytes b.groups.bits [] 0 32 f.0 in
    cond-true _ _ _ (eq-eqb (length end) 33 size)
    ∙ ap₂ (λ n k. Some (Blocked (record { name = record { bytes = n }; groups = record { bits = k } }))) name bits
ground_back NoPlace f = refl
ground_back Unequal f = refl
ground_back Proposed f = refl
ground_back Known f = refl

-- what holds of each of these things holds of the one that was found
found_among : {X : Type 0} (byte : X → ℕ) (P : X → Type 0) (xs : List X) (b : ℕ) (x : X) → AllByRecursion P xs
    → with_byte byte xs b ≡ Some x → P x
found_among byte P [] b x each e = absurd (let y : ◌≡◌ {A = ℕ} 0 1 = cc in omega arith)
found_among byte P (y ∷ ys) b x each e = at (eqb b (byte y)) refl (found_among byte P ys b x each.1) where
  at : (t : Bool) → eqb b (byte y) ≡ t → (with_byte byte ys b ≡ Some x → P x) → P x
  at true is next =
      let same : Some y ≡ Some x = sym (ap (λ t. cond t (Some y) (with_byte byte ys b)) is) ∙ e in
      let it : y ≡ x = cc in
      subst P it each.0
  at false is next = next (sym (ap (λ t. cond t (Some y) (with_byte byte ys b)) is) ∙ e)

blocked_end : (end : List ℕ) (g : Ground) → Some g ≡ blocked_by end → (ground_byte g ≡ 2) × (ground_end g ≡ end)
blocked_end end g e = at (eqb (length end) 33) refl where
  one : (rest : List ℕ) → length rest ≡ 1 → get_or rest 0 0 ∷ [] ≡ rest
  one [] l = absurd (omega arith)
  one (x ∷ []) l = refl
  one (x ∷ y ∷ rest) l = absurd (omega arith)

  at : (t : Bool) → eqb (length end) 33 ≡ t → (ground_byte g ≡ 2) × (ground_end g ≡ end)
  at true is =
      let size = eqb-true (length end) 33 is in
      let b : Ground = Blocked (record { name = record { bytes = take 32 end }; groups = record { bits = get_or end 32 0 } }) in
      let some : Some g ≡ Some b = e ∙ cond-true _ _ _ is in
      let same : g ≡ b = cc in
      let last = ap (λ k. k ∷ []) (sym (get_or-drop 32 end 0 0)) ∙ one (drop 32 end) (simp length-drop (omega arith)) in
      (ap ground_byte same, ap ground_end same ∙ ap (λ l. take 32 end ++ l) last ∙ take-append-drop 32 end)
  at false is =
      let none : Some g ≡ None = e ∙ cond-false _ _ _ is in
      let y : ◌≡◌ {A = ℕ} 0 1 = cc in
      absurd (omega arith)

abbrev plain : List Ground
plain = Pending ∷ NoRow ∷ NoPlace ∷ Unequal ∷ Proposed ∷ Known ∷ []

plain_end : (b : ℕ) (end : List ℕ) (g : Ground) → Some g ≡ cond (eqb (length end) 0) (with_byte ground_byte plain b) None
    → (ground_byte g ≡ b) × (ground_end g ≡ end)
plain_end b [] g e =
    let found : with_byte ground_byte plain b ≡ Some g = sym e in (
      sym (with_byte_lem ground_byte plain b g found),
      found_among ground_byte (λ h. ground_end h ≡ []) plain b g (refl, (refl, (refl, (refl, (refl, (refl, tt)))))) found,
    )
plain_end b (x ∷ end) g e =
    let none : Some g ≡ None = e ∙ cond-false _ _ _ (ne_eqb (length (x ∷ end)) 0 (omega arith)) in
    let y : ◌≡◌ {A = ℕ} 0 1 = cc in
    absurd (omega arith)

-- a ground that was found has this byte and this end
pub ground_is : (b : ℕ) (end : List ℕ) (g : Ground) → Some g ≡ ground_of b end → (ground_byte g ≡ b) × (ground_end g ≡ end)
ground_is b end g e = at (eqb b 2) refl where
  at : (t : Bool) → eqb b 2 ≡ t → (ground_byte g ≡ b) × (ground_end g ≡ end)
  at true is =
      let h = blocked_end end g (e ∙ cond-true _ _ _ is) in
      (h.0 ∙ sym (eqb-true b 2 is), h.1)
  at false is = plain_end b end g (e ∙ cond-false _ _ _ is)

pub ground_small : (g : Ground) → ground_byte g < 256
ground_small Pending = omega arith
ground_small NoRow = omega arith
ground_small (Blocked b) = omega arith
ground_small NoPlace = omega arith
ground_small Unequal = omega arith
ground_small Proposed = omega arith
ground_small Known = omega arith
