-- The bits of the groups that a transaction names, one more at each turn.
use Rattle.std.proofs.Common.{◌≡◌, ℕ, zero, suc, ◌+◌, ◌*◌, ◌%◌, ◌^◌, ◌<◌, ◌≤◌, Bool, true, false, cond, sym, ap, ◌∙◌, mod-eq_of_lt, one-mul, add-one, arith, lit<, pow_mono}
use native.Mathlib.Nat.{pow-succ'}
use Rattle.locks.specs.Groups.{bits_below}

pub bits_fit : (n : ℕ) (test : ℕ → Bool) → bits_below n test < 2 ^ n
bits_fit zero test = lit< tt
bits_fit (suc n) test = go (bits_fit n test) (test n)
  where
    go : bits_below n test < 2 ^ n → (b : Bool) → bits_below n test + cond b (2 ^ n) 0 < 2 ^ suc n
    go h true = omega (arith, pow-succ' 2 n)
    go h false = omega (arith, pow-succ' 2 n)

module _ (n : ℕ) (test : ℕ → Bool) (low : n < 8) where
  small : 2 ^ n ≤ 128
  small = pow_mono {i = n} {j = 7} (omega arith)

  -- the code's shift is exact
  shifted : (1 * 2 ^ n) % 256 ≡ 2 ^ n
  shifted = mod-eq_of_lt (omega (arith, small, one-mul (2 ^ n))) ∙ one-mul (2 ^ n)

  pub bit_fits : (bits : ℕ) → bits ≡ bits_below n test → bits + (1 * 2 ^ n) % 256 < 256
  bit_fits bits is = omega (arith, small, shifted, bits_fit n test)

  pub bit_set : (bits : ℕ) → bits ≡ bits_below n test → test n ≡ true → bits + (1 * 2 ^ n) % 256 ≡ bits_below (n + 1) test
  bit_set bits is hit =
      ap (λ x. x + (1 * 2 ^ n) % 256) is ∙ ap (λ x. bits_below n test + x) (shifted ∙ sym (ap (λ b. cond b (2 ^ n) 0) hit))
      ∙ ap (λ x. bits_below x test) (sym (add-one n))

  pub bit_left : (bits : ℕ) → bits ≡ bits_below n test → test n ≡ false → bits ≡ bits_below (n + 1) test
  bit_left bits is miss =
      is ∙ (let z : bits_below n test ≡ bits_below n test + 0 = omega arith in z)
      ∙ ap (λ x. bits_below n test + x) (sym (ap (λ b. cond b (2 ^ n) 0) miss)) ∙ ap (λ x. bits_below x test) (sym (add-one n))
