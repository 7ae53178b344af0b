use Rattle.std.proofs.Common.{refl}
use Rattle.wire.proofs.export.club_register_name.Goals as goal

pub returns-in-Ok : goal.returns-in-Ok
returns-in-Ok c =
    let w = c.in-Ok.ensures in
    record { named = λ _. (refl, c.name_of.ensures); refused = λ none. absurd (none (_, w)) }
