use Rattle.std.proofs.Common.{codes, refl}
use Rattle.std.proofs.lemmas.Result.{err_from_is_err_and}
use Rattle.entry_text.specs.EntryTexts.{history_text}
use Rattle.run_text.specs.RunTexts.{heading}
use Rattle.piv_ports.proofs.Writing.{Writes-then, Writes-stopped}
use Rattle.run_text.proofs.run.print_card.Goals as goal

pub returns-in_err-print_heading : goal.returns-in_err-print_heading
returns-in_err-print_heading g c =
    let p = err_from_is_err_and c.from_residual.result c.from_residual.ensures.1 in
    rw (p.1, p.2) (Writes-stopped g.K.Sink.taken g.K.Sink.flushed g.K.Sink.faults (heading (codes "card ") c.args.name.now) (history_text c.args.history.now.past) _ c.args.sink.now _ _
    c.in_err-print_heading.ensures refl)

pub returns : goal.returns
returns g c =
    Writes-then g.K.Sink.taken g.K.Sink.flushed g.K.Sink.faults (heading (codes "card ") c.args.name.now) (history_text c.args.history.now.past) c.args.sink.now c.print_heading.new.sink _ c.print_history.result
    c.in_ok-print_heading.ensures c.print_history.ensures.text
