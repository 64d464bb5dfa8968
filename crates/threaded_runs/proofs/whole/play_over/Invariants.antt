use Rattle.std.proofs.Common.{map}
use Rattle.turnstile.specs.Known.{first_pass, split_off}
use Rattle.threaded_runs.proofs.whole.play_over.Given as goal

abbrev pub ghosts-play_stood : goal.ghosts-play_stood
ghosts-play_stood g a = record { gates = a.turnstiles.now; passes = map split_off (map first_pass a.turnstiles.now) }
