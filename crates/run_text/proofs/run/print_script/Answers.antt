use Rattle.std.proofs.Common.{codes, refl}
use Rattle.std.proofs.lemmas.Result.{err_from_is_err_and}
use Rattle.run_text.specs.RunTexts.{heading, answers_text}
use Rattle.piv_ports.proofs.Writing.{Writes-then, Writes-stopped}
use Rattle.run_text.proofs.run.print_script.Goals as goal

pub returns-in_err-print_heading : goal.returns-in_err-print_heading
returns-in_err-print_heading g c =
    let p = err_from_is_err_and c.from_residual.result c.from_residual.ensures.1 in
    rw (p.1, p.2) (Writes-stopped g.K.Sink.taken g.K.Sink.flushed g.K.Sink.faults (heading (codes "script ") c.args.name.now) (answers_text c.args.answers.now) _ c.args.sink.now _ _
    c.in_err-print_heading.ensures refl)

pub returns : goal.returns
returns g c =
    Writes-then g.K.Sink.taken g.K.Sink.flushed g.K.Sink.faults (heading (codes "script ") c.args.name.now) (answers_text c.args.answers.now) c.args.sink.now c.print_heading.new.sink _ c.print_answers.result
    c.in_ok-print_heading.ensures c.print_answers.ensures
