use Rattle.std.proofs.Common.{inl, inr, List, Some, refl, ap, ◌∙◌, false, []}
use Rattle.piv_model.specs.declared.answers.ApiAnswer.TheVariants as api
use Rattle.piv_objects.specs.Authenticators.{Credential}
use Rattle.client_api.specs.Calls.{Decided, LogIn}
use Rattle.client_api.specs.Machine.{At}
use Rattle.client_api.proofs.Making.{log_in_starts}
use Rattle.client_api.proofs.call.ApiCall.log_in.Goals as goal

pub returns-in-Err-clause-made : goal.returns-in-Err-clause-made
returns-in-Err-clause-made c = (Decided api.AuthenticatorMalformed (Some c.args.handle), inr (c.in-Err.ensures.err, refl), c.decided.ensures)

pub returns-in-Ok-copy_pins-clause-made : goal.returns-in-Ok-copy_pins-clause-made
returns-in-Ok-copy_pins-clause-made c = (
  LogIn c.args.handle c.in-Ok.list,
  inl (c.in-Ok.list, c.in-Ok.ensures.ok, refl),
  c.of.ensures
      ∙ (ap (λ (l : List Credential). At (LogIn c.args.handle l) 0 [] false) c.in-Ok-copy_pins.ensures
      ∙ log_in_starts c.args.handle c.in-Ok.list c.in-Ok.ensures.ok.some),
)
