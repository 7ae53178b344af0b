use Rattle.std.proofs.Common.{Ok, Err, ap, ◌∙◌}
use Rattle.std.proofs.lemmas.Result.{err_from_is_err_and}
use Rattle.readings.proofs.Readers.{read_certificate}
use Rattle.votes.specs.declared.fault.CertificateFault.TheVariants.{Read}
use Rattle.replica.proofs.step.read.Goals as goal

pub returns-in_err-certificate : goal.returns-in_err-certificate
returns-in_err-certificate c =
    let p = err_from_is_err_and c.from_residual.result c.from_residual.ensures.1 in
    let fault = c.in_err-certificate.field-0.0 in
    rw p.1 (
      read_certificate c.args.width c.args.message.now (Err fault) c.in_err-certificate.ensures,
      p.2 ∙ ap Read c.in_err-certificate.ensures.0,
    )

pub returns : goal.returns
returns c =
    read_certificate c.args.width c.args.message.now (Ok c.in_ok-certificate.certificate)
    c.in_ok-certificate.ensures
