-- What bytes are parsed as.
use Rattle.std.proofs.Common.{◌≡◌, ℕ, ◌≤◌, List, length, get_or, Some, None, Option, sym, refl, ap, ◌∙◌, subst, arith}
use Rattle.bodies.specs.Bodies.{BodyModel, body_format, body_model}
use Rattle.bodies.specs.Naming.{name_of}
use Rattle.digest.specs.Hash.{bytes_of, sha256}
use Rattle.digest.specs.declared.block.State.{State}
use Rattle.envelope.specs.Formats.{Format}
use Rattle.envelope.specs.Messages.{body_kind, certificate_kind, proposal_kind, version}
use Rattle.envelope.specs.declared.name.Name.{Name}
use Rattle.wire.specs.Certificates.{CertificateModel, certificate_format, certificate_model}
use Rattle.wire.specs.Proposals.{proposal_format, proposed}
use Rattle.readings.specs.Bodies.{body_of}
use Rattle.readings.specs.Certificates.{certificate_of}
use Rattle.readings.specs.Kinds.{HasKind}
use Rattle.readings.specs.Messages.{Message, MessageFits, NoWriting, ParsedIsSaid, Says, named, parsed, read_or}
use Rattle.readings.specs.Messages.Message.{body, certificate, proposal, other}
use Rattle.readings.specs.Proposals.{proposal_of}
use Rattle.readings.specs.Readings.{SameReading}
use Rattle.readings.proofs.BodyReading.{body_reading}
use Rattle.readings.proofs.CertificateReading.{certificate_reading}
use Rattle.readings.proofs.KindBytes.{body_kind_lem, certificate_kind_lem, has_kind, proposal_kind_lem}
use Rattle.readings.proofs.ProposalReading.{proposal_reading}
use Rattle.readings.proofs.Readings.{nothing_read}

module _ (m : ℕ) (bs : List ℕ) where
  -- by what each of the three kinds is read as
  parsed_is : (b : Option BodyModel) (c : Option CertificateModel) (x : Option Name) → body_of bs ≡ b
      → certificate_of m bs ≡ c → proposal_of bs ≡ x
      → parsed m bs ≡ read_or (named bs) b (read_or certificate c (read_or proposal x other))
  unfolding parsed
  parsed_is b c x e₁ e₂ e₃ = λ i. read_or (named bs) (e₁ i) (read_or certificate (e₂ i) (read_or proposal (e₃ i) other))

  -- bytes of one kind begin as no other
  other_kind : (j k : ℕ) → get_or bs 3 0 ≡ j → (j ≡ k → ⊥) → HasKind k bs → ⊥
  other_kind j k is apart h = apart (sym is ∙ h.next)

  -- under the kind byte of a body only a body is read, and so for the others
  pub parsed_as_body : get_or bs 3 0 ≡ body_kind → parsed m bs ≡ read_or (named bs) (body_of bs) other
  parsed_as_body is =
      parsed_is _ None None refl (certificate_kind_lem m bs (other_kind 1 2 is (omega arith)))
      (proposal_kind_lem bs (other_kind 1 3 is (omega arith)))

  pub parsed_as_certificate : get_or bs 3 0 ≡ certificate_kind
      → parsed m bs ≡ read_or certificate (certificate_of m bs) other
  parsed_as_certificate is =
      parsed_is None _ None (body_kind_lem bs (other_kind 2 1 is (omega arith))) refl
      (proposal_kind_lem bs (other_kind 2 3 is (omega arith)))

  pub parsed_as_proposal : get_or bs 3 0 ≡ proposal_kind → parsed m bs ≡ read_or proposal (proposal_of bs) other
  parsed_as_proposal is =
      parsed_is None None _ (body_kind_lem bs (other_kind 3 1 is (omega arith)))
      (certificate_kind_lem m bs (other_kind 3 2 is (omega arith))) refl

  -- what begins as none of the three is something else
  parsed_none : (HasKind body_kind bs → ⊥) → (HasKind certificate_kind bs → ⊥) → (HasKind proposal_kind bs → ⊥)
      → parsed m bs ≡ other
  parsed_none a b c = parsed_is None None None (body_kind_lem bs a) (certificate_kind_lem m bs b) (proposal_kind_lem bs c)

  pub parsed_no_kind : (get_or bs 3 0 ≡ body_kind → ⊥) → (get_or bs 3 0 ≡ certificate_kind → ⊥)
      → (get_or bs 3 0 ≡ proposal_kind → ⊥) → parsed m bs ≡ other
  parsed_no_kind a b c = parsed_none (λ h. a h.next) (λ h. b h.next) (λ h. c h.next)

  pub parsed_no_message : (4 ≤ length bs → get_or bs 2 0 ≡ version → ⊥) → parsed m bs ≡ other
  parsed_no_message none =
      parsed_none (λ h. none h.long h.first) (λ h. none h.long h.first) (λ h. none h.long h.first)

  no_writing : {C X : Type 0} (F : Format X) (model : C → X) (read : List ℕ → Option X) → SameReading F model read
      → read bs ≡ None → NoWriting F bs
  no_writing F model read same none x w =
      let some = same.writings bs x w in
      let z : ◌≡◌ {A = ℕ} 0 1 = cc in
      omega arith

  says_parsed : Says m bs (parsed m bs)
  says_parsed = at (body_of bs) (certificate_of m bs) (proposal_of bs) refl refl refl where
    says_at : (b : Option BodyModel) (c : Option CertificateModel) (x : Option Name) → body_of bs ≡ b
        → certificate_of m bs ≡ c → proposal_of bs ≡ x
        → Says m bs (read_or (named bs) b (read_or certificate c (read_or proposal x other)))
    says_at (Some b) c x e₁ e₂ e₃ = (body_reading.only bs b e₁, refl)
    says_at None (Some c) x e₁ e₂ e₃ = (certificate_reading m).only bs c e₂
    says_at None None (Some x) e₁ e₂ e₃ = proposal_reading.only bs x e₃
    says_at None None None e₁ e₂ e₃ = (
      no_writing body_format body_model body_of body_reading e₁,
      no_writing (certificate_format m) certificate_model (certificate_of m) (certificate_reading m) e₂,
      no_writing proposal_format proposed proposal_of proposal_reading e₃,
    )

    at : (b : Option BodyModel) (c : Option CertificateModel) (x : Option Name) → body_of bs ≡ b
        → certificate_of m bs ≡ c → proposal_of bs ≡ x → Says m bs (parsed m bs)
    at b c x e₁ e₂ e₃ = subst (Says m bs) (sym (parsed_is b c x e₁ e₂ e₃)) (says_at b c x e₁ e₂ e₃)

  only_parsed : (x : Message) → Says m bs x → parsed m bs ≡ x
  only_parsed (body b x) says =
      parsed_as_body (has_kind body_format bs b says.0).next
      ∙ ap (λ o. read_or (named bs) o other) (body_reading.writings bs b says.0)
      ∙ ap (λ n. body b (record { bytes = n })) (sym says.1)
  only_parsed (certificate c) says =
      parsed_as_certificate (has_kind (certificate_format m) bs c says).next
      ∙ ap (λ o. read_or certificate o other) ((certificate_reading m).writings bs c says)
  only_parsed (proposal x) says =
      parsed_as_proposal (has_kind proposal_format bs x says).next
      ∙ ap (λ o. read_or proposal o other) (proposal_reading.writings bs x says)
  only_parsed other says =
      parsed_is None None None
      (nothing_read _ (λ b e. says.0 b (body_reading.only bs b e)))
      (nothing_read _ (λ c e. says.1 c ((certificate_reading m).only bs c e)))
      (nothing_read _ (λ x e. says.2 x (proposal_reading.only bs x e)))

length_hash : (s : State) → length (bytes_of s) ≡ 32
unfolding bytes_of
length_hash s = refl

-- the name of any bytes has 32 bytes
pub length_name : (bs : List ℕ) → length (name_of bs) ≡ 32
unfolding sha256
length_name bs = length_hash _

-- what is said is well formed
pub said_fits : (m : ℕ) (bs : List ℕ) (x : Message) → Says m bs x → MessageFits m x
said_fits m bs (body b x) says = (says.0.fits, ap length says.1 ∙ length_name bs)
said_fits m bs (certificate c) says = says.fits
said_fits m bs (proposal x) says = says.fits
said_fits m bs other says = tt

pub parsed_is_said : (m : ℕ) → ParsedIsSaid m
parsed_is_said m =
    record { says = says_parsed m; only = only_parsed m; fits = λ bs. said_fits m bs (parsed m bs) (says_parsed m bs) }
