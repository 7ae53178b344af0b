-- Bytes that are a message, by their first four; what reading contents gives for the reader of a kind of message; and
-- what one writing gives for every kind.
use Rattle.std.proofs.Common.{◌≡◌, ℕ, ◌+◌, ◌-◌, ◌*◌, ◌/◌, ◌%◌, ◌<◌, ◌≤◌, Bool, true, ◌&&◌, eqb, leb, List, [], ◌∷◌, length, get_or, take, drop, Some, None, Option, Ok, Err, Result, sym, refl, ap, ◌∙◌, subst, arith, w8, Fits}
use Rattle.std.specs.Borrow.{Bor}
use Rattle.std.proofs.lemmas.List.{take_all}
use Rattle.std.proofs.lemmas.Bool.{and_from, and_parts, eq-eqb, eqb-true, le-leb, leb-true}
use Rattle.octets.proofs.Begins.{begins}
use Rattle.envelope.specs.Formats.{Format, Opened, OneWriting, Reads, ReadsContents, RoundTrip, Writing, written}
use Rattle.envelope.specs.Messages.{Short, largest_message, message}
use Rattle.envelope.specs.declared.fault.ReadFault.{ReadFault}
use Rattle.envelope.specs.declared.fault.ReadFault.TheVariants.{Malformed}

-- what follows the first four bytes, as a slice pattern cuts it off
abbrev pub rest_of : List ℕ → List ℕ
rest_of bs = take (length bs - 4) (drop 4 bs)

-- the test of the length and the kind
abbrev pub is_message : List ℕ → ℕ → Bool
is_message bs kind =
    eqb (get_or bs 3 0) kind
    && (leb (length (rest_of bs) + 4) largest_message && eqb (get_or bs 0 0 * 256 + get_or bs 1 0) (length (rest_of bs) + 2))

-- a message has four bytes and then its contents
pub length_written : {X : Type 0} (F : Format X) (x : X) → length (written F x) ≡ 4 + length (F.contents x)
unfolding written
length_written F x = omega arith

-- messages of one kind that are written alike have the same contents
pub same_contents : {X : Type 0} (F : Format X) (x y : X) → written F x ≡ written F y → F.contents x ≡ F.contents y
unfolding written
same_contents F x y e = cc

-- the tests that open every reader
pub record Opens (kind : ℕ) (bs : List ℕ) : Type 0 where
  pub long : 4 ≤ length bs
  pub version : get_or bs 2 0 ≡ 1
  pub test : is_message bs kind ≡ true

-- a message that is not too long passes them
pub message_opens : (kind : ℕ) (t : List ℕ) → Short t → Opens kind (message kind t)
message_opens kind t short =
    let n : ℕ = length t in
    let rest : length (rest_of (message kind t)) ≡ n = ap length (take_all (length (message kind t) - 4) t (omega arith)) in
    let size : (n + 2) / 256 % 256 * 256 + (n + 2) / 1 % 256 ≡ n + 2 = omega arith in
    let fits : leb (length (rest_of (message kind t)) + 4) largest_message ≡ true = le-leb _ _ (omega arith) in
    record {
      long = omega arith;
      version = refl;
      test = and_from _ _ (eq-eqb kind kind refl) (and_from _ _ fits (eq-eqb _ _ (omega arith)));
    }

module _ {X : Type 0} (F : Format X) (bs : List ℕ) where
  pub opens : (x : X) → Writing F bs x → Opens F.kind bs
  unfolding written
  opens x w = subst (Opens F.kind) (sym w.whole) (message_opens F.kind (F.contents x) w.short)

  module _ (long : 4 ≤ length bs) (version : get_or bs 2 0 ≡ 1) where
    opened : bs ≡ get_or bs 0 0 ∷ get_or bs 1 0 ∷ 1 ∷ get_or bs 3 0 ∷ rest_of bs
    opened = begins bs (get_or bs 0 0 ∷ get_or bs 1 0 ∷ 1 ∷ get_or bs 3 0 ∷ []) long (refl, (refl, (version, (refl, tt))))

    -- what follows the first four bytes of a message is its contents
    pub contents_of : (x : X) → Writing F bs x → rest_of bs ≡ F.contents x
    unfolding written
    contents_of x w = let e = w.whole in cc (opened, e)

    -- bytes that pass the tests, and whose rest is the contents of something well formed, are its writing
    pub is_writing : ((i : ℕ) → get_or bs i 0 < 256) → true ≡ is_message bs F.kind → (x : X) → F.Fits x
        → rest_of bs ≡ F.contents x → Writing F bs x
    unfolding written
    is_writing typed test x fits same =
        let parts = and_parts (eqb (get_or bs 3 0) F.kind) _ (sym test) in
        let more = and_parts (leb (length (rest_of bs) + 4) largest_message) _ parts.1 in
        let kind = eqb-true _ _ parts.0 in
        let short : Short (rest_of bs) = leb-true _ _ more.0 in
        let size = eqb-true _ _ more.1 in
        let f = typed 0 in
        let g = typed 1 in
        let high : get_or bs 0 0 ≡ (length (rest_of bs) + 2) / 256 % 256 = omega arith in
        let low : get_or bs 1 0 ≡ (length (rest_of bs) + 2) / 1 % 256 = omega arith in
        let whole : bs ≡ message F.kind (rest_of bs) = cc (opened, kind, high, low) in
        record { fits = fits; short = subst Short same short; whole = whole ∙ ap (message F.kind) same }

    -- the contents that were read make the message, and where there are none, there is no message
    pub reads_some : {C : Type 0} (model : C → X) (c : C) → ((i : ℕ) → Fits w8 (get_or bs i 0))
        → true ≡ is_message bs F.kind → ReadsContents F model (rest_of bs) (Some c) → Reads F model bs (Ok c)
    reads_some model c typed test read =
        is_writing (λ i. let t = typed i in omega arith) test (model c) read.0 read.1

    pub reads_none : {C : Type 0} (model : C → X) → ReadsContents F model (rest_of bs) None
        → Reads F model bs (Err Malformed)
    reads_none model none = (refl, λ x w. none x w.fits (contents_of x w))

-- a reader of a kind of message by what reads its contents reads messages of the kind
pub reads : {C X : Type 0} (F : Format X) (model : C → X) (read : List ℕ → Option C → Type 0) (bs : List ℕ)
    (r : Result C ReadFault) → Opened F.kind read bs r
    → ((rest : List ℕ) (o : Option C) → read rest o
    → (at : Bor (List ℕ)) × ReadsContents F model at.now o × (at.now ≡ rest))
    → Reads F model bs r
unfolding written Opened
reads F model read bs (Ok c) o is =
    let at = is o.0 (Some c) o.3 in
    let same = sym at.2 ∙ at.1.1 in
    record { fits = at.1.0; short = subst Short same o.1; whole = o.2 ∙ ap (message F.kind) same }
reads F model read bs (Err f) o is =
    (o.0, λ x w. let at = is (F.contents x) None (o.1 (F.contents x) w.short w.whole) in at.1 x w.fits at.2)

-- one writing for each thing, so reading undoes writing
pub round_trip : {C X : Type 0} (F : Format X) (model : C → X) → OneWriting F → RoundTrip F model
round_trip F model one x bs (Ok c) w r = (c, refl, one (model c) x r.fits w.fits (sym r.whole ∙ w.whole))
round_trip F model one x bs (Err f) w r = absurd (r.1 x w)
