use Rattle.std.proofs.Common.{Ok}
use Rattle.std.specs.List.{enumerate_from}
use Rattle.entry_text.specs.AnswerTexts.{answer_line}
use Rattle.piv_ports.specs.Writes.{Writes}
use Rattle.run_text.proofs.Pieces.{up_to}
use Rattle.run_text.proofs.run.print_answers.Given as goal

abbrev pub invariant-answers : goal.invariant-answers
invariant-answers g l =
    Writes g.K.Sink.taken g.K.Sink.flushed g.K.Sink.faults (up_to (λ a. answer_line a.0 a.1) (enumerate_from 1 l.answers) l.k) l.initial.sink l.sink (Ok tt)
