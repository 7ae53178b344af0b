-- What was written is read off again: numbers, names, and things one after another.
use Rattle.std.proofs.Common.{◌≡◌, ℕ, zero, suc, ◌+◌, ◌-◌, ◌*◌, ◌/◌, ◌%◌, ◌^◌, ◌<◌, ◌≤◌, List, [], ◌∷◌, ◌++◌, length, get_or, drop, Some, Option, unwrap_or, sym, refl, ap, ◌∙◌, ap₂, append_assoc, append-nil, mod-eq_of_lt, arith}
use Rattle.std.specs.List.{flat_map, AllByRecursion}
use Rattle.std.proofs.lemmas.List.{drop_at, drop-drop, get_or-append_right, take_at}
use Rattle.octets.specs.Numbers.{big_endian}
use Rattle.octets.proofs.OneWriting.{low_bytes}
use Rattle.envelope.specs.declared.name.Name.{Name}
use Rattle.wire.specs.Fields.{NameFits, name_bytes}
use Rattle.readings.specs.Parts.{in_order, name_at, number}

length_big : (w n : ℕ) → length (big_endian w n) ≡ w
length_big zero n = refl
length_big (suc w) n = ap suc (length_big w n)

number_low : (w n : ℕ) → number (big_endian w n) ≡ n % 256 ^ w
number_low zero n = omega arith
number_low (suc w) n =
    ap₂ (λ l k. (n / 256 ^ w % 256) * 256 ^ l + k) (length_big w n) (number_low w n) ∙ sym (low_bytes w n)

-- a number from its bytes
pub number_back : (w n : ℕ) → n < 256 ^ w → number (big_endian w n) ≡ n
number_back w n low = number_low w n ∙ mod-eq_of_lt low

-- a name from the bytes that begin with it
pub name_back : (x : Name) (t : List ℕ) → NameFits x → name_at 0 (name_bytes x ++ t) ≡ x
name_back x t fits = ap (λ bs. record { bytes = bs }) (take_at x.bytes t 32 fits)

-- what stands after a name
pub byte_after : (x : Name) (t : List ℕ) → NameFits x → (i : ℕ) → 32 ≤ i
    → get_or (name_bytes x ++ t) i 0 ≡ get_or t (i - 32) 0
byte_after x t fits i low = get_or-append_right x.bytes t 32 i 0 fits low

pub drop_after : (x : Name) (t : List ℕ) → NameFits x → (i : ℕ) → drop (32 + i) (name_bytes x ++ t) ≡ drop i t
drop_after x t fits i = sym (drop-drop i 32 (x.bytes ++ t)) ∙ ap (drop i) (drop_at x.bytes t 32 fits)

-- what was found under its byte
pub value_found : {X : Type 0} (o : Option X) (x d : X) → o ≡ Some x → unwrap_or o d ≡ x
value_found o x d is = ap (λ p. unwrap_or p d) is

module _ {X : Type 0} (Fits : X → Type 0) (writing : X → List ℕ) (first : List ℕ → X)
    (back : (x : X) (t : List ℕ) → Fits x → first (writing x ++ t) ≡ x) where
  -- things one after another, from their writings
  pub in_order_front : (xs : List X) (t : List ℕ) → AllByRecursion Fits xs
      → in_order first writing (length xs) (flat_map writing xs ++ t) ≡ xs
  in_order_front [] t fit = refl
  in_order_front (x ∷ xs) t fit =
      let bs = (writing x ++ flat_map writing xs) ++ t in
      let split : bs ≡ writing x ++ (flat_map writing xs ++ t) = append_assoc (writing x) (flat_map writing xs) t in
      let here : first bs ≡ x = ap first split ∙ back x _ fit.0 in
      let size : length (writing x) ≡ length (writing (first bs)) = ap (λ y. length (writing y)) (sym here) in
      let after : drop (length (writing (first bs))) bs ≡ flat_map writing xs ++ t =
      ap (drop _) split ∙ drop_at (writing x) (flat_map writing xs ++ t) _ size in
      ap₂ (λ y l. y ∷ l) here (ap (in_order first writing (length xs)) after ∙ in_order_front xs t fit.1)

  pub in_order_back : (xs : List X) → AllByRecursion Fits xs → in_order first writing (length xs) (flat_map writing xs) ≡ xs
  in_order_back xs fit =
      ap (in_order first writing (length xs)) (sym (append-nil (flat_map writing xs))) ∙ in_order_front xs [] fit
