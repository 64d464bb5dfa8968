use Rattle.std.proofs.Common.{Ok, map}
use Rattle.std.specs.List.{zip}
use Rattle.piv_ports.specs.Writes.{Writes}
use Rattle.run_text.specs.RunTexts.{script_text}
use Rattle.run_text.proofs.Pieces.{up_to}
use Rattle.run_text.proofs.run.print_scripts.Given as goal

abbrev pub invariant-scripts : goal.invariant-scripts
invariant-scripts g l =
    Writes g.K.Sink.taken g.K.Sink.flushed g.K.Sink.faults (up_to (λ s. script_text s.0.name s.1) (zip l.scene.scripts (map (λ a. a.items) l.answers)) l.k)
    l.initial.sink l.sink (Ok tt)
