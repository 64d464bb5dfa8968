use Rattle.std.proofs.lemmas.Result.{on_ok_weaker, on_err_weaker}
use Rattle.nvm_slots.proofs.LayingLaws.{laying_more, fell_more}
use Rattle.nvm_slots.proofs.laying.lay.Goals as goal

pub returns-clause-laid : goal.returns-clause-laid
returns-clause-laid g c = on_ok_weaker c.write.result (λ ok area pieces end s behind within after laying. laying_more area pieces end _ _ s _ _ behind within after laying ok) c.write.ensures.ok

pub returns-clause-fell : goal.returns-clause-fell
returns-clause-fell g c = on_err_weaker c.write.result (λ lost area pieces end s behind within laying. fell_more area pieces end _ _ s _ _ behind within laying lost) c.write.ensures.lost
