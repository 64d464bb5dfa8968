use Rattle.turnstile.proofs.pass.Turnstile.turn.Given as goal

abbrev pub ghosts-give_back : goal.ghosts-give_back
ghosts-give_back g a = record { made = g.J.Job.made a.job.value a.answer.now a.left }
