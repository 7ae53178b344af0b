-- The turn of the loop that reads two digits at a time.
use Rattle.std.proofs.Common.{◌≡◌, ℕ, ◌+◌, ◌-◌, ◌*◌, ◌≤◌, List, [], ◌∷◌, ◌++◌, length, get_or, take, drop, Some, None, Option, sym, refl, ap, ◌∙◌, append_assoc}
use Rattle.std.specs.Option.{option_map}
use Rattle.octets.proofs.Begins.{begins}
use Rattle.text.specs.Hex.{before, byte_of, decoded, digit_value}

-- the bytes bs are decoded, and the rest of the text is to come
abbrev pub Sofar : List ℕ → List ℕ → List ℕ → Type 0
Sofar text bs rest = decoded text ≡ option_map (λ more. bs ++ more) (decoded rest)

after_byte : (bs : List ℕ) (b : ℕ) (o : Option (List ℕ))
    → option_map (λ more. bs ++ more) (before (Some b) o) ≡ option_map (λ more. (bs ++ b ∷ []) ++ more) o
after_byte bs b None = refl
after_byte bs b (Some more) = ap Some (sym (append_assoc bs (b ∷ []) more))

-- two digits more
pub sofar_more : (text bs bs' rest : List ℕ) (h l : ℕ) → Sofar text bs rest → 2 ≤ length rest
    → Some h ≡ digit_value (get_or rest 0 0) → Some l ≡ digit_value (get_or rest 1 0) → bs' ≡ bs ++ (h * 16 + l) ∷ []
    → Sofar text bs' (take (length rest - 2) (drop 2 rest))
sofar_more text bs bs' rest h l so long high low is =
    let a = get_or rest 0 0 in
    let b = get_or rest 1 0 in
    let after = take (length rest - 2) (drop 2 rest) in
    let split : rest ≡ a ∷ b ∷ after = begins rest (a ∷ b ∷ []) long (refl, (refl, tt)) in
    let byte : byte_of (digit_value a) (digit_value b) ≡ Some (h * 16 + l) = rw (← high, ← low) in
    so ∙ ap (λ t. option_map (λ more. bs ++ more) (decoded t)) split
    ∙ ap (λ o. option_map (λ more. bs ++ more) (before o (decoded after))) byte
    ∙ after_byte bs (h * 16 + l) (decoded after)
    ∙ ap (λ t. option_map (λ more. t ++ more) (decoded after)) (sym is)
