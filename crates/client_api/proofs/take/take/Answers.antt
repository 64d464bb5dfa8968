use Rattle.std.proofs.Common.{ℕ, ◌<◌, ◌∙◌, ap, sym, List, Option, Some, None, subst}
use Rattle.card_acts.specs.Acts.{answer_of}
use Rattle.client_api.specs.declared.state.State.{State}
use Rattle.client_api.specs.Calls.{Handle, Admin}
use Rattle.client_api.specs.Machine.{next}
use Rattle.client_api.specs.Steps.{IsOn}
use Rattle.client_api.specs.States.{going_of, admin_at, switch_of}
use Rattle.client_api.proofs.take.take.Goals as goal

admin_on : (cards : ℕ) (h : Handle) (a : ℕ) (k : List ℕ) (o : Option (List ℕ)) → IsOn cards (admin_at (Admin h a k) o) → h.card < cards
admin_on cards h a k None on = on
admin_on cards h a k (Some body) on = on

pub returns-in-LogIn-clause-on : goal.returns-in-LogIn-clause-on
returns-in-LogIn-clause-on c cards h = c.take_log_in.ensures.on cards (subst (λ (s : State). IsOn cards (going_of s)) c.in-LogIn.is h)

pub returns-in-LogOut-clause-on : goal.returns-in-LogOut-clause-on
returns-in-LogOut-clause-on c cards h = c.take_log_out.ensures.on cards (subst (λ (s : State). IsOn cards (going_of s)) c.in-LogOut.is h)

pub returns-in-Get-clause-on : goal.returns-in-Get-clause-on
returns-in-Get-clause-on c cards h = c.take_get.ensures.on cards (subst (λ (s : State). IsOn cards (going_of s)) c.in-Get.is h)

pub returns-in-Put-clause-on : goal.returns-in-Put-clause-on
returns-in-Put-clause-on c cards h = c.take_put.ensures.on cards (subst (λ (s : State). IsOn cards (going_of s)) c.in-Put.is h)

pub returns-in-Admin-clause-on : goal.returns-in-Admin-clause-on
returns-in-Admin-clause-on c cards h = c.take_admin.ensures.on cards
    (admin_on cards c.in-Admin.handle c.in-Admin.algorithm c.in-Admin.key c.in-Admin.first
    (subst (λ (s : State). IsOn cards (going_of s)) c.in-Admin.is h))

pub returns-in-Switch-clause-next : goal.returns-in-Switch-clause-next
returns-in-Switch-clause-next c =
    c.take_switch.ensures.next c.in-Switch.card (switch_of c.in-Switch.switch)
    ∙ ap (λ (s : State). next (going_of s) (answer_of c.args.answer)) (sym c.in-Switch.is)

pub returns-in-Switch-clause-on : goal.returns-in-Switch-clause-on
returns-in-Switch-clause-on c cards h = c.take_switch.ensures.on cards
