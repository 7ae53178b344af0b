-- Lists that grow: members, first parts, and earlier lists.
use Rattle.std.proofs.Common.{◌≡◌, ℕ, zero, suc, ◌<◌, ◌≤◌, ◌⊎◌, List, [], ◌∷◌, ◌++◌, length, take, sym, refl, ap, subst, inl, inr, le_of_suc-le-suc, not-suc-le-zero, arith}
use mathlib.Core.Bool.{false≢true}
use native.Mathlib.Decide.{dec_le, dec_lt, le_ind}
use Rattle.protocol.specs.Lists.{In, Since, now, newer}

pub either : (p q : ℕ) → (p ≤ q) ⊎ (q ≤ p)
either p q = elim (dec_le p q) [ yes h ↦ inl h | no h ↦ inr (omega arith) ]

module _ {A : Type 0} where
  -- members
  pub In-left : (x : A) (l r : List A) → In x l → In x (l ++ r)
  In-left x [] r h = elim h [ ]
  In-left x (y ∷ ys) r (inl e) = inl e
  In-left x (y ∷ ys) r (inr h) = inr (In-left x ys r h)

  pub In-right : (x : A) (l r : List A) → In x r → In x (l ++ r)
  In-right x [] r i = i
  In-right x (y ∷ l) r i = inr (In-right x l r i)

  pub In-split : (x : A) (l r : List A) → In x (l ++ r) → In x l ⊎ In x r
  In-split x [] r i = inr i
  In-split x (y ∷ l) r (inl e) = inl (inl e)
  In-split x (y ∷ l) r (inr i) = elim (In-split x l r i) [ inl j ↦ inl (inr j) | inr j ↦ inr j ]

  pub in_take : (m : A) (p : ℕ) (l : List A) → In m (take p l) → In m l
  in_take m zero l i = absurd i
  in_take m (suc p) [] i = absurd i
  in_take m (suc p) (x ∷ l) (inl e) = inl e
  in_take m (suc p) (x ∷ l) (inr i) = inr (in_take m p l i)

  -- first parts: the next member, where one waits
  pub take_next : (l : List A) (q : ℕ) → q < length l → (m : A) × In m l × (take (suc q) l ≡ take q l ++ (m ∷ []))
  take_next [] q h = absurd (not-suc-le-zero h)
  take_next (x ∷ xs) zero h = (x, inl refl, refl)
  take_next (x ∷ xs) (suc q) h =
      let r = take_next xs q (le_of_suc-le-suc h) in
      (r.0, inr r.1, ap (λ t. x ∷ t) r.2)

  take_past : (l : List A) (q : ℕ) → length l ≤ q → take (suc q) l ≡ take q l
  take_past [] zero h = refl
  take_past [] (suc q) h = refl
  take_past (x ∷ xs) zero h = absurd (not-suc-le-zero h)
  take_past (x ∷ xs) (suc q) h = ap (λ t. x ∷ t) (take_past xs q (le_of_suc-le-suc h))

  pub take_add : (l r : List A) (p : ℕ) → p ≤ length l → take p (l ++ r) ≡ take p l
  take_add l r zero h = refl
  take_add [] r (suc p) h = absurd (not-suc-le-zero h)
  take_add (x ∷ xs) r (suc p) h = ap (λ t. x ∷ t) (take_add xs r p (le_of_suc-le-suc h))

  -- what each member keeps is kept from one place to any later one
  pub along : (P : List A → Type 0) (l : List A) → ((h : List A) (m : A) → In m l → P h → P (h ++ (m ∷ []))) →
      (p q : ℕ) → p ≤ q → P (take p l) → P (take q l)
  along P l step p q pq base = le_ind (λ n. P (take n l)) base next q pq
    where
      next : (n : ℕ) → p ≤ n → P (take n l) → P (take (suc n) l)
      next n pn h =
          elim (dec_lt n (length l)) [
            | yes lt ↦ let r = take_next l n lt in subst P (sym r.2) (step (take n l) r.0 r.1 h)
            | no ge ↦ subst P (sym (take_past l n (omega arith))) h
          ]

  -- earlier lists
  since_cons : (x y : List A) → Since x y → (a : A) (l : List A) → y ≡ a ∷ l → (x ≡ a ∷ l) ⊎ Since x l
  since_cons x y now a l e = inl e
  since_cons x y (newer {a = b} {l = m} s) a l e = let ml : m ≡ l = cc in inr (subst (Since x) ml s)

  -- an earlier list is the whole, or one of the rest
  pub since_inv : (x : List A) (a : A) (l : List A) → Since x (a ∷ l) → (x ≡ a ∷ l) ⊎ Since x l
  since_inv x a l s = since_cons x (a ∷ l) s a l refl

  pub since_empty : (x y : List A) → Since x y → y ≡ [] → x ≡ []
  since_empty x y now e = e
  since_empty x y (newer {a = a} {l = l} s) e = cc

  pub since_nil : (a : A) (l : List A) → Since (a ∷ l) [] → ⊥
  since_nil a l s = let e = since_empty (a ∷ l) [] s refl in false≢true (cc)

  pub since_tail : (a : A) (l : List A) {y : List A} → Since (a ∷ l) y → Since l y
  since_tail a l now = newer now
  since_tail a l (newer s) = newer (since_tail a l s)

  pub since_in : (a : A) (l : List A) {y : List A} → Since (a ∷ l) y → In a y
  since_in a l now = inl refl
  since_in a l (newer s) = inr (since_in a l s)

  pub in_since : (a : A) (y : List A) → In a y → (l : List A) × Since (a ∷ l) y
  in_since a [] i = absurd i
  in_since a (b ∷ l) (inl e) = (l, subst (λ z. Since (z ∷ l) (b ∷ l)) (sym e) now)
  in_since a (b ∷ l) (inr i) = let r = in_since a l i in (r.0, newer r.1)

  pub since_trans : {x y z : List A} → Since x y → Since y z → Since x z
  since_trans p now = p
  since_trans p (newer s) = newer (since_trans p s)
