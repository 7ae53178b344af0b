-- One write after another, and a loop that writes the things of a list.
use Rattle.std.proofs.Common.{◌≡◌, ℕ, ◌+◌, ◌<◌, ◌≤◌, List, [], ◌∷◌, ◌++◌, length, get_or, take, refl, sym, ap, ◌∙◌, subst, arith, length-append}
use Rattle.std.specs.List.{flat_map}
use Rattle.std.proofs.lemmas.List.{take_all, take_more, flat_map_more}
use Rattle.std.proofs.lemmas.List.Folds.{length-flat_map-take}
use Rattle.octets.specs.Writers.{Room, Wrote}
use Rattle.octets.specs.declared.writer.Writer.{Writer}
use Rattle.octets.proofs.Overlays.{length_overlaid, overlaid_more}

module _ (a b : Writer) (xs : List ℕ) (h : Wrote a b xs) (ys : List ℕ) (room : Room a (xs ++ ys)) where
  -- what is left of the room
  pub room_left : Room b ys
  room_left =
      let long = length-append xs ys in
      omega (arith, ap length h.text, length_overlaid a.out.now xs a.at (omega arith), h.end)

-- two writes, one right after the other, are one
pub wrote_more : (a b c : Writer) (xs ys : List ℕ) → a.at ≤ length a.out.now → Wrote a b xs → Wrote b c ys → Wrote a c (xs ++ ys)
wrote_more a b c xs ys within h more =
    let long = length-append xs ys in
    record {
      same = more.same ∙ h.same;
      text = overlaid_more a.out.now xs ys _ _ _ a.at _ within h.text h.end refl more.text;
      end = omega (arith, h.end, more.end);
    }

-- the things of a list, written one after another, up to x, which is the next
module _ {X : Type 0} (writing : X → List ℕ) (xs : List X) where
  module _ (i : ℕ) (l : i < length xs) (x : X) (is : x ≡ get_or xs i x) where
    joined_next : flat_map writing (take (i + 1) xs) ≡ flat_map writing (take i xs) ++ writing x
    joined_next =
        ap (flat_map writing) (take_more xs i x l ∙ ap (λ y. take i xs ++ (y ∷ [])) (sym is))
        ∙ sym (flat_map_more writing [] (take i xs) x)

    size_within : length (flat_map writing (take i xs)) + length (writing x) ≤ length (flat_map writing xs)
    size_within = omega (arith, length-flat_map-take writing xs i x l, ap (λ y. length (writing y)) is)

    module _ (a b : Writer) (room : Room a (flat_map writing xs)) (h : Wrote a b (flat_map writing (take i xs))) where
      fits : Room a (flat_map writing (take i xs) ++ writing x)
      fits = omega (arith, size_within, length-append (flat_map writing (take i xs)) (writing x))

      pub room_next : Room b (writing x)
      room_next = room_left a b _ h _ fits

      pub wrote_next : (c : Writer) → Wrote b c (writing x) → Wrote a c (flat_map writing (take (i + 1) xs))
      wrote_next c more = subst (Wrote a c) (sym joined_next) (wrote_more a b c _ _ (omega arith) h more)

  pub wrote_all : (a b : Writer) (i : ℕ) → length xs ≤ i → Wrote a b (flat_map writing (take i xs))
      → Wrote a b (flat_map writing xs)
  wrote_all a b i l h = subst (λ ys. Wrote a b (flat_map writing ys)) (take_all i xs l) h
