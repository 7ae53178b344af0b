-- Certificates are read by the function as by the relation.
use Rattle.std.proofs.Common.{◌≡◌, ℕ, ◌-◌, ◌≤◌, List, ◌∷◌, ◌++◌, length, get_or, Decides, refl, ap, ◌∙◌, ap₂, arith}
use Rattle.std.specs.List.{flat_map, list_all}
use Rattle.std.proofs.lemmas.List.{take_at}
use Rattle.std.proofs.lemmas.Bool.Decides.{Decides-and, Decides-eqb, Decides-like, Decides-ltb}
use Rattle.std.proofs.ByRecursion.{Decides-by_and}
use Rattle.envelope.specs.Formats.{written}
use Rattle.votes.specs.Entries.{EntryFits, EntryModel, entry_bytes, rises}
use Rattle.votes.specs.Votes.{vote_byte, vote_of}
use Rattle.votes.specs.declared.vote.Vote.TheVariants.{Abort}
use Rattle.votes.proofs.Tables.{vote_back}
use Rattle.wire.specs.Certificates.{CertificateFits, CertificateModel, certificate_format, certificate_model}
use Rattle.wire.specs.Fields.{name_bytes}
use Rattle.readings.specs.Certificates.{certificate_candidate, certificate_of, first_entry, fits_certificate, fits_entry}
use Rattle.readings.specs.Parts.{in_order}
use Rattle.readings.specs.Readings.{SameReading}
use Rattle.readings.proofs.PartsBack.{byte_after, drop_after, in_order_back, name_back, value_found}
use Rattle.readings.proofs.ProposalReading.{decides_name}
use Rattle.readings.proofs.Readings.{Suits, decides_leb, decides_self, same_reading}

decides_entry : (m : ℕ) (e : EntryModel) → Decides (fits_entry m e) (EntryFits m e)
decides_entry m e =
    Decides-like _
    (λ p. record { group_fits = p.0; replica_fits = p.1.0; mark_fits = p.1.1.0; small = p.1.1.1 })
    (λ f. (f.group_fits, (f.replica_fits, (f.mark_fits, f.small))))
    (Decides-and _ _ (Decides-ltb e.group _)
    (Decides-and _ _ (Decides-ltb e.replica _) (Decides-and _ _ (Decides-eqb _ _) (decides_leb _ _))))

decides_certificate : (m : ℕ) (c : CertificateModel) → Decides (fits_certificate m c) (CertificateFits m c)
decides_certificate m c =
    let es = c.entries in
    let all = list_all (fits_entry m) in
    let each = Decides-by_and (fits_entry m) (EntryFits m) all (decides_entry m) refl (λ _ _. refl) es in
    Decides-like _
    (λ p. record { name_fits = p.0; some = p.1.0; few = p.1.1.0; fit = p.1.1.1.0; rise = p.1.1.1.1 })
    (λ f. (f.name_fits, (f.some, (f.few, (f.fit, f.rise)))))
    (Decides-and _ _ (decides_name c.name)
    (Decides-and _ _ (decides_leb 1 _)
    (Decides-and _ _ (decides_leb _ _) (Decides-and _ _ each (decides_self (rises 0 es))))))

entry_back : (m : ℕ) (e : EntryModel) (t : List ℕ) → EntryFits m e → first_entry m (entry_bytes e ++ t) ≡ e
entry_back m e t fits =
    ap (λ mark. record { group = e.group; replica = e.replica; mark = mark }) (take_at e.mark t m fits.mark_fits)

module _ (m : ℕ) (c : CertificateModel) (fits : CertificateFits m c) where
  -- what follows the name
  abbrev after : List ℕ
  after = vote_byte c.vote ∷ length c.entries ∷ flat_map entry_bytes c.entries

  abbrev bs : List ℕ
  bs = name_bytes c.name ++ after

  byte : (i : ℕ) → 32 ≤ i → get_or bs i 0 ≡ get_or after (i - 32) 0
  byte = byte_after c.name after fits.name_fits

  certificate_back : certificate_candidate m (written (certificate_format m) c) ≡ c
  unfolding written
  certificate_back =
      let name = name_back c.name after fits.name_fits in
      let vote = value_found _ c.vote Abort (ap vote_of (byte 32 (omega arith)) ∙ vote_back c.vote) in
      let entries =
      ap₂ (in_order (first_entry m) entry_bytes) (byte 33 (omega arith)) (drop_after c.name after fits.name_fits 2)
      ∙ in_order_back (EntryFits m) entry_bytes (first_entry m) (entry_back m) c.entries fits.fit in
      λ i. record { name = name i; vote = vote i; entries = entries i }

suits : (m : ℕ) → Suits (certificate_format m) (fits_certificate m) (certificate_candidate m)
suits m = record { decides = decides_certificate m; back = certificate_back m }

pub certificate_reading : (m : ℕ) → SameReading (certificate_format m) certificate_model (certificate_of m)
unfolding certificate_of
certificate_reading m =
    same_reading (certificate_format m) (fits_certificate m) (certificate_candidate m) (suits m) certificate_model
