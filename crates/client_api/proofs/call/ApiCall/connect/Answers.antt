use Rattle.std.proofs.Common.{sym, subst}
use Rattle.client_api.specs.Machine.{Going}
use Rattle.client_api.specs.Steps.{IsOn}
use Rattle.client_api.proofs.Starting.{connects_on}
use Rattle.client_api.proofs.call.ApiCall.connect.Goals as goal

pub returns-in-Ok-clause-on : goal.returns-in-Ok-clause-on
returns-in-Ok-clause-on c cards all =
    subst (λ (z : Going). IsOn cards z) (sym c.connect_to.ensures)
    (connects_on cards c.args.readers.now.readers c.in-Ok.name.now c.args.shared all)

pub returns-in-Err-clause-on : goal.returns-in-Err-clause-on
returns-in-Err-clause-on c cards all = subst (λ (z : Going). IsOn cards z) (sym c.decided.ensures) tt
