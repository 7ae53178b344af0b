use Rattle.std.proofs.Common.{Ok, Err, sym, refl, ap, ◌∙◌}
use Rattle.std.proofs.lemmas.Result.{err_from_is_err_and}
use Rattle.readings.specs.Certificates.{certificate_of}
use Rattle.readings.proofs.Readers.{read_body, read_proposal}
use Rattle.votes.specs.declared.fault.DeliveryFault.TheVariants.{Certificate}
use Rattle.replica.specs.Endings.{certificate_outcome}
use Rattle.replica.specs.Views.{config, outcome, view}
use Rattle.replica.proofs.Parsings.{outcome_on, parsed_body, parsed_certificate, parsed_other, parsed_proposal, state_on}
use Rattle.replica.proofs.state.Replica.act.Goals as goal

pub returns-in-Ok : goal.returns-in-Ok
returns-in-Ok g c =
    let bs = c.args.message.now in
    let C = config c.args.self.now in
    let is = g.K.MarkScheme.genuine c.args.scheme.now in
    let m = view c.args.self.now in
    let w = g.K.MarkScheme.SIZE in
    let e = parsed_body w bs _ _ (read_body bs (Ok c.in-Ok.body) c.in-Ok.ensures) c.name_of-name.ensures in
    record {
      after = record { state = state_on C is m w bs _ e _ c.take_body.ensures.after.state; fixed = c.take_body.ensures.after.fixed };
      outcome = outcome_on C is m w bs _ e _ c.take_body.ensures.outcome;
    }

pub returns-in-Ok-read_proposal : goal.returns-in-Ok-read_proposal
returns-in-Ok-read_proposal g c =
    let bs = c.args.message.now in
    let C = config c.args.self.now in
    let is = g.K.MarkScheme.genuine c.args.scheme.now in
    let m = view c.args.self.now in
    let w = g.K.MarkScheme.SIZE in
    let none = read_body bs (Err c.in_default.field-0) c.in_default.ensures in
    let e = parsed_proposal w bs none _ (read_proposal bs (Ok c.in-Ok-read_proposal.name) c.in-Ok-read_proposal.ensures) in
    record {
      after = record { state = state_on C is m w bs _ e _ c.take_proposal.ensures.after.state; fixed = c.take_proposal.ensures.after.fixed };
      outcome = outcome_on C is m w bs _ e _ c.take_proposal.ensures.outcome;
    }

pub returns-in_err-certificate : goal.returns-in_err-certificate
returns-in_err-certificate g c =
    let bs = c.args.message.now in
    let C = config c.args.self.now in
    let is = g.K.MarkScheme.genuine c.args.scheme.now in
    let m = view c.args.self.now in
    let w = g.K.MarkScheme.SIZE in
    let none = read_body bs (Err c.in_default.field-0) c.in_default.ensures in
    let none' = read_proposal bs (Err c.in_default-read_proposal.field-0) c.in_default-read_proposal.ensures in
    let wide = ap (λ n. certificate_of n bs) (sym c.SIZE.ensures) in
    let e = parsed_other w bs none none' (wide ∙ c.in_err-certificate.ensures.0) in
    let p = err_from_is_err_and c.from_residual.result c.from_residual.ensures.1 in
    record {
      after = record { state = state_on C is m w bs _ e _ refl; fixed = refl };
      outcome =
          outcome_on C is m w bs _ e _
          (ap outcome p.1 ∙ ap Err (p.2 ∙ ap Certificate c.in_err-certificate.ensures.1));
    }

pub returns-in_err-take_certificate : goal.returns-in_err-take_certificate
returns-in_err-take_certificate g c =
    let bs = c.args.message.now in
    let C = config c.args.self.now in
    let is = g.K.MarkScheme.genuine c.args.scheme.now in
    let m = view c.args.self.now in
    let w = g.K.MarkScheme.SIZE in
    let none = read_body bs (Err c.in_default.field-0) c.in_default.ensures in
    let wide = ap (λ n. certificate_of n bs) (sym c.SIZE.ensures) in
    let e = parsed_certificate w bs none _ (wide ∙ c.in_ok-certificate.ensures) in
    let p = err_from_is_err_and c.from_residual-in_err-take_certificate.result
    c.from_residual-in_err-take_certificate.ensures.1 in
    record {
      after = record { state = state_on C is m w bs _ e _ c.take_certificate.ensures.after.state; fixed = c.take_certificate.ensures.after.fixed };
      outcome =
          outcome_on C is m w bs _ e _
          (ap outcome p.1 ∙ ap Err p.2
          ∙ ap certificate_outcome (sym c.in_err-take_certificate.was) ∙ c.take_certificate.ensures.outcome);
    }

pub returns : goal.returns
returns g c =
    let bs = c.args.message.now in
    let C = config c.args.self.now in
    let is = g.K.MarkScheme.genuine c.args.scheme.now in
    let m = view c.args.self.now in
    let w = g.K.MarkScheme.SIZE in
    let none = read_body bs (Err c.in_default.field-0) c.in_default.ensures in
    let wide = ap (λ n. certificate_of n bs) (sym c.SIZE.ensures) in
    let e = parsed_certificate w bs none _ (wide ∙ c.in_ok-certificate.ensures) in
    record {
      after = record { state = state_on C is m w bs _ e _ c.take_certificate.ensures.after.state; fixed = c.take_certificate.ensures.after.fixed };
      outcome =
          outcome_on C is m w bs _ e _
          (ap certificate_outcome (sym c.in_ok-take_certificate.was) ∙ c.take_certificate.ensures.outcome);
    }
