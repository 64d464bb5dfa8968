use Rattle.client_api.specs.Players.{IsReady, steps_left}
use Rattle.client_api.proofs.player_tests.play.Given as goal

abbrev pub invariant-steps : goal.invariant-steps
invariant-steps l = IsReady 1 l.player

abbrev pub decreases-steps : goal.decreases-steps
decreases-steps l = steps_left l.player
