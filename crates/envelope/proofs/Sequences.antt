-- Things written one after another, where no writing begins another's.
use Rattle.std.proofs.Common.{◌≡◌, ℕ, suc, ◌<◌, ◌≤◌, List, [], ◌∷◌, ◌++◌, length, map, Some, None, Option, sym, refl, ap, ◌∙◌, subst, append_assoc, append-nil, arith, length-append}
use Rattle.std.specs.Borrow.{Bor}
use Rattle.std.specs.Fn.{FnReturnsAt, Shared}
use Rattle.std.specs.List.{flat_map, AllByRecursion, FoldsTo}
use Rattle.std.proofs.lemmas.List.{map-id}
use Rattle.octets.specs.Fronts.{Front}
use Rattle.envelope.specs.Many.{Leaves}

-- xs are the first n things of bs, and rest is what follows
pub record Sofar {X : Type 0} (Fits : X → Type 0) (writing : X → List ℕ) (bs : List ℕ) (n : ℕ) (xs : List X)
    (rest : List ℕ) : Type 0 where
  pub many : length xs ≡ n
  pub fit : AllByRecursion Fits xs
  pub split : bs ≡ flat_map writing xs ++ rest

module _ {X : Type 0} (Fits : X → Type 0) (writing : X → List ℕ) where
  -- no writing begins another's
  abbrev pub Same : Type 0
  Same = (x y : X) (s t : List ℕ) → Fits x → Fits y → writing x ++ s ≡ writing y ++ t → (x ≡ y) × (s ≡ t)

  -- ys are xs and then others, and the rest is the writing of these and a tail
  pub record Others (xs ys : List X) (rest tail : List ℕ) : Type 0 where
    pub zs : List X
    pub whole : ys ≡ xs ++ zs
    pub left : rest ≡ flat_map writing zs ++ tail
    pub fit_left : AllByRecursion Fits zs

  pub all_read : (bs : List ℕ) (n : ℕ) (xs : List X) (rest : List ℕ) → Sofar Fits writing bs n xs rest
      → length rest ≡ 0 → bs ≡ flat_map writing xs
  all_read bs n xs [] h l = h.split ∙ append-nil (flat_map writing xs)
  all_read bs n xs (b ∷ rest) h l = absurd (omega arith)

  module _ (same : Same) where
    others : (xs ys : List X) (rest tail : List ℕ) → AllByRecursion Fits xs → AllByRecursion Fits ys → length xs ≤ length ys
        → flat_map writing xs ++ rest ≡ flat_map writing ys ++ tail → Others xs ys rest tail
    others [] ys rest tail f g l e = record { zs = ys; whole = refl; left = e; fit_left = g }
    others (x ∷ xs) [] rest tail f g l e = absurd (omega arith)
    others (x ∷ xs) (y ∷ ys) rest tail f g l e =
        let front = sym (append_assoc (writing x) (flat_map writing xs) rest) in
        let back = append_assoc (writing y) (flat_map writing ys) tail in
        let h = same x y (flat_map writing xs ++ rest) (flat_map writing ys ++ tail) f.0 g.0 (front ∙ e ∙ back) in
        let r = others xs ys rest tail f.1 g.1 (omega arith) h.1 in
        record { zs = r.zs; whole = cc (h.0, r.whole); left = r.left; fit_left = r.fit_left }

    -- as many things, written alike, are the same, and so is what follows them
    pub same_fronts : (xs ys : List X) (s t : List ℕ) → AllByRecursion Fits xs → AllByRecursion Fits ys → length xs ≡ length ys
        → flat_map writing xs ++ s ≡ flat_map writing ys ++ t → (xs ≡ ys) × (s ≡ t)
    same_fronts xs ys s t f g l e = at r.zs r.whole r.left where
      r : Others xs ys s t
      r = others xs ys s t f g (omega arith) e

      at : (zs : List X) → ys ≡ xs ++ zs → s ≡ flat_map writing zs ++ t → (xs ≡ ys) × (s ≡ t)
      at [] a b = (sym (a ∙ append-nil xs), b)
      at (z ∷ zs) a b = absurd (omega (arith, ap length a, length-append xs (z ∷ zs)))

    pub same_all : (xs ys : List X) → AllByRecursion Fits xs → AllByRecursion Fits ys → length xs ≡ length ys
        → flat_map writing xs ≡ flat_map writing ys → xs ≡ ys
    same_all xs ys f g l e =
        (same_fronts xs ys [] [] f g l (append-nil (flat_map writing xs) ∙ e ∙ sym (append-nil (flat_map writing ys)))).0

    module _ (bs : List ℕ) (n : ℕ) (xs : List X) (rest : List ℕ) (h : Sofar Fits writing bs n xs rest)
        (ys : List X) (tail : List ℕ) (fit : AllByRecursion Fits ys) (e : bs ≡ flat_map writing ys ++ tail) where
      -- where ys are more, the rest begins with the next of them
      pub next : n < length ys
          → (y : X) × (zs : List X) × (ys ≡ xs ++ (y ∷ zs)) × (rest ≡ writing y ++ (flat_map writing zs ++ tail)) × Fits y
      next l = at r.zs r.whole r.left r.fit_left where
        r : Others xs ys rest tail
        r = others xs ys rest tail h.fit fit (omega (arith, h.many)) (sym h.split ∙ e)

        at : (zs : List X) → ys ≡ xs ++ zs → rest ≡ flat_map writing zs ++ tail → AllByRecursion Fits zs
            → (y : X) × (zs : List X) × (ys ≡ xs ++ (y ∷ zs)) × (rest ≡ writing y ++ (flat_map writing zs ++ tail)) × Fits y
        at [] a b f = absurd (omega (arith, h.many, ap length a, length-append xs []))
        at (z ∷ zs) a b f = (z, zs, a, b ∙ append_assoc (writing z) (flat_map writing zs) tail, f.0)

      -- where ys are as many, the tail is left
      pub ends : length ys ≡ n → rest ≡ tail
      ends l =
          (same_fronts xs ys rest tail h.fit fit (omega (arith, h.many)) (sym h.split ∙ e)).1

-- f reads things of the code off the front of bytes, and each shows another
module _ {F T X : Type 0} (shown : T → X) (Fits : X → Type 0) (writing : X → List ℕ)
    (g : Shared F (Bor (List ℕ) × Unit {0}) (Option (T × Bor (List ℕ)))) (f : F) where
  -- the bytes begin with the writing of what f reads
  abbrev pub Found : Type 0
  Found = (b : Bor (List ℕ)) (p : T × Bor (List ℕ)) → g.post f (b, tt) (Some p) → Fits (shown p.0) × (b.now ≡ writing (shown p.0) ++ p.1.now)

  -- where f reads none, they begin with no writing
  abbrev pub Nothing : Type 0
  Nothing = (b : Bor (List ℕ)) → g.post f (b, tt) None → (x : X) (t : List ℕ) → Fits x → b.now ≡ writing x ++ t → ⊥

  pub many_shown : (bs : List ℕ) (xs : List T) (rest : List ℕ) → FoldsTo (Leaves (FnReturnsAt g f)) bs xs rest → Found
      → Sofar Fits writing bs (length xs) (map shown xs) rest
  many_shown bs [] rest e found = record { many = refl; fit = tt; split = e }
  many_shown bs (x ∷ xs) rest (between, (b, call, is), more) found =
      let p = found call.shown (x, b) call.says.met in
      let h = many_shown between xs rest more found in
      record {
        many = ap suc h.many;
        fit = (p.0, h.fit);
        split =
            sym call.shows ∙ p.1 ∙ ap (λ l. writing (shown x) ++ l) (is ∙ h.split)
            ∙ sym (append_assoc (writing (shown x)) (flat_map writing (map shown xs)) rest);
      }

  -- where one was not read, before the n-th, no n things begin the bytes
  pub none_shown : Same Fits writing → (n : ℕ) (bs : List ℕ)
      → (xs : List T) × (rest : List ℕ) × (length xs < n) × FoldsTo (Leaves (FnReturnsAt g f)) bs xs rest × FnReturnsAt g f rest None
      → Found → Nothing → (ys : List X) (t : List ℕ) → length ys ≡ n → AllByRecursion Fits ys → bs ≡ flat_map writing ys ++ t → ⊥
  none_shown same n bs (xs, rest, few, reads, none) found nothing ys t l fit e =
      let y = next Fits writing same bs _ _ rest (many_shown bs xs rest reads found) ys t fit e (omega (arith, l)) in
      nothing none.shown none.says.met y.0 _ y.4 (none.shows ∙ y.3)

-- the same where each shows itself
module _ {F X : Type 0} (Fits : X → Type 0) (writing : X → List ℕ)
    (g : Shared F (Bor (List ℕ) × Unit {0}) (Option (X × Bor (List ℕ)))) (f : F) where
  abbrev pub Fronts : Type 0
  Fronts = (b : Bor (List ℕ)) (o : Option (X × Bor (List ℕ))) → g.post f (b, tt) o → Front Fits writing b.now o

  pub many_read : (bs : List ℕ) (xs : List X) (rest : List ℕ) → FoldsTo (Leaves (FnReturnsAt g f)) bs xs rest → Fronts
      → Sofar Fits writing bs (length xs) xs rest
  many_read bs xs rest h front =
      subst (λ ys. Sofar Fits writing bs (length xs) ys rest) (map-id xs)
      (many_shown (λ x. x) Fits writing g f bs xs rest h (λ b p. front b (Some p)))

  pub none_read : Same Fits writing → (n : ℕ) (bs : List ℕ)
      → (xs : List X) × (rest : List ℕ) × (length xs < n) × FoldsTo (Leaves (FnReturnsAt g f)) bs xs rest × FnReturnsAt g f rest None
      → Fronts → (ys : List X) (t : List ℕ) → length ys ≡ n → AllByRecursion Fits ys → bs ≡ flat_map writing ys ++ t → ⊥
  none_read same n bs h front = none_shown (λ x. x) Fits writing g f same n bs h (λ b p. front b (Some p)) (λ b. front b None)
