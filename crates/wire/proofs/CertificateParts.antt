-- What the parts that were read say of the certificate that the bytes are.
use Rattle.std.proofs.Common.{◌≡◌, ℕ, ◌<◌, ◌≤◌, List, ◌∷◌, ◌++◌, length, Some, None, Option, sym, ap, ◌∙◌, subst, arith}
use Rattle.std.specs.List.{flat_map, AllByRecursion}
use Rattle.envelope.specs.Formats.{OneWriting, ReadsContents}
use Rattle.envelope.specs.declared.name.Name.{Name}
use Rattle.envelope.proofs.Envelopes.{same_contents}
use Rattle.envelope.proofs.Sequences.{same_all}
use Rattle.wire.specs.Certificates.{CertificateFits, CertificateModel, MadeCertificate, certificate_contents, certificate_format, certificate_model}
use Rattle.votes.specs.Entries.{EntryFits, EntryModel, entry_bytes, most_entries, rises}
use Rattle.wire.specs.Fields.{NameFits, name_bytes}
use Rattle.votes.specs.Votes.{vote_byte, vote_of}
use Rattle.wire.specs.declared.certificate.Certificate.{Certificate}
use Rattle.votes.specs.declared.vote.Vote.{Vote}
use Rattle.wire.proofs.OneEntry.{same_entry}
use Rattle.wire.proofs.OneName.{same_name}
use Rattle.votes.proofs.Tables.{vote_back, vote_is}

-- bs is no certificate's contents
abbrev pub NoCertificate : ℕ → List ℕ → Type 0
NoCertificate m bs = (c : CertificateModel) → CertificateFits m c → bs ≡ certificate_contents c → ⊥

pub no_name : (m : ℕ) (bs : List ℕ) → ((x : Name) (t : List ℕ) → NameFits x → bs ≡ name_bytes x ++ t → ⊥) → NoCertificate m bs
no_name m bs h c f e = h c.name _ f.name_fits e

-- bs is a name and what follows it
module _ (m : ℕ) (bs : List ℕ) (x : Name) (fits : NameFits x) (after : List ℕ) (e : bs ≡ name_bytes x ++ after) where
  -- so are the contents of a certificate
  after_name : (c : CertificateModel) → CertificateFits m c → bs ≡ certificate_contents c
      → (x ≡ c.name) × (after ≡ vote_byte c.vote ∷ length c.entries ∷ flat_map entry_bytes c.entries)
  after_name c f w = same_name x c.name after _ fits f.name_fits (sym e ∙ w)

  pub too_short : length after < 2 → NoCertificate m bs
  too_short short c f w = omega (arith, ap length (after_name c f w).1)

  -- a byte for the vote, a count and the rest follow
  module _ (v n : ℕ) (rest : List ℕ) (e' : after ≡ v ∷ n ∷ rest) where
    parts : (c : CertificateModel) → CertificateFits m c → bs ≡ certificate_contents c
        → (v ≡ vote_byte c.vote) × (n ≡ length c.entries) × (rest ≡ flat_map entry_bytes c.entries)
    parts c f w = let h = (after_name c f w).1 in (cc (h, e'), cc (h, e'), cc (h, e'))

    pub no_vote : None ≡ vote_of v → NoCertificate m bs
    no_vote none c f w =
        let z : Some c.vote ≡ None = sym (vote_back c.vote) ∙ sym (ap vote_of (parts c f w).0) ∙ sym none in
        let y : ◌≡◌ {A = ℕ} 0 1 = cc in
        omega arith

    pub too_many : most_entries < n → NoCertificate m bs
    too_many many c f w = omega (arith, (parts c f w).1, f.few)

    pub no_entries : ((es : List EntryModel) → length es ≡ n → AllByRecursion (EntryFits m) es → rest ≡ flat_map entry_bytes es → ⊥)
        → NoCertificate m bs
    no_entries h c f w = let p = parts c f w in h c.entries (sym p.1) f.fit p.2

    -- the vote and the entries that were read
    module _ (vote : Vote) (is : Some vote ≡ vote_of v) (es : List EntryModel) (l : length es ≡ n)
        (fit : AllByRecursion (EntryFits m) es) (r : rest ≡ flat_map entry_bytes es) where
      whole : bs ≡ certificate_contents (record { name = x; vote = vote; entries = es })
      whole = cc (e, e', vote_is v vote (sym is))

      -- a certificate with these contents has these parts
      its_parts : (c : CertificateModel) → CertificateFits m c → bs ≡ certificate_contents c
          → record { name = x; vote = vote; entries = es } ≡ c
      its_parts c f w =
          let p = parts c f w in
          let names = (after_name c f w).0 in
          let entries = same_all (EntryFits m) entry_bytes (same_entry m) es c.entries fit f.fit (l ∙ p.1) (sym r ∙ p.2) in
          let some : Some vote ≡ Some c.vote = is ∙ ap vote_of p.0 ∙ vote_back c.vote in
          let votes : vote ≡ c.vote = cc in
          λ i. record { name = names i; vote = votes i; entries = entries i }

      -- the certificate of these parts, or none, is what was to be read
      pub made_of : n ≤ most_entries → (r : Option Certificate)
          → MadeCertificate m (record { name = x; vote = vote; entries = es }) r
          → ReadsContents (certificate_format m) certificate_model bs r
      made_of few (Some c) made =
          let same = made.0 in
          let list = ap (λ y. y.entries) same in
          let fit_all : CertificateFits m (record { name = x; vote = vote; entries = es }) =
          record {
            name_fits = fits;
            some = subst (λ k. 1 ≤ length k) list c.some;
            few = omega arith;
            fit = fit;
            rise = ap (rises 0) (sym list) ∙ c.rise;
          } in
          (subst (CertificateFits m) (sym same) fit_all, whole ∙ ap certificate_contents (sym same))
      made_of few None made = λ c f w. made (subst (CertificateFits m) (sym (its_parts c f w)) f)

pub one_writing : (m : ℕ) → OneWriting (certificate_format m)
one_writing m a b f g e =
    let s = same_contents (certificate_format m) a b e in
    let h = same_name a.name b.name _ _ f.name_fits g.name_fits s in
    let v : vote_byte a.vote ≡ vote_byte b.vote = cc h.1 in
    let n : length a.entries ≡ length b.entries = cc h.1 in
    let j : flat_map entry_bytes a.entries ≡ flat_map entry_bytes b.entries = cc h.1 in
    let es = same_all (EntryFits m) entry_bytes (same_entry m) a.entries b.entries f.fit g.fit n j in
    let vote : a.vote ≡ b.vote = cc (vote_back a.vote, vote_back b.vote, v) in
    λ i. record { name = h.0 i; vote = vote i; entries = es i }
