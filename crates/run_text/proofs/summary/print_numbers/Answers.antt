use Rattle.std.proofs.Common.{◌++◌, codes}
use Rattle.std.proofs.lemmas.Result.{err_from_is_err_and}
use Rattle.piv_ports.proofs.Writing.{Writes-then}
use Rattle.entry_text.specs.LineParts.{number_line}
use Rattle.run_text.proofs.Pieces.{stopped-before}
use Rattle.run_text.proofs.summary.print_numbers.Goals as goal

pub returns-in_err-print_number : goal.returns-in_err-print_number
returns-in_err-print_number g c =
    let p = err_from_is_err_and c.from_residual.result c.from_residual.ensures.1 in
    rw (p.1, p.2) (stopped-before g.K.Sink.taken g.K.Sink.flushed g.K.Sink.faults ((((number_line (codes "lines") c.args.lines) ++ number_line (codes "entries") c.args.entries) ++ number_line (codes "calls") c.args.calls) ++ number_line (codes "granted") c.args.granted) (number_line (codes "refused") c.args.refused) c.args.sink.now _ _ (stopped-before g.K.Sink.taken g.K.Sink.flushed g.K.Sink.faults (((number_line (codes "lines") c.args.lines) ++ number_line (codes "entries") c.args.entries) ++ number_line (codes "calls") c.args.calls) (number_line (codes "granted") c.args.granted) c.args.sink.now _ _ (stopped-before g.K.Sink.taken g.K.Sink.flushed g.K.Sink.faults ((number_line (codes "lines") c.args.lines) ++ number_line (codes "entries") c.args.entries) (number_line (codes "calls") c.args.calls) c.args.sink.now _ _ (stopped-before g.K.Sink.taken g.K.Sink.flushed g.K.Sink.faults (number_line (codes "lines") c.args.lines) (number_line (codes "entries") c.args.entries) c.args.sink.now _ _ c.in_err-print_number.ensures))))

pub returns-in_err-print_number-2 : goal.returns-in_err-print_number-2
returns-in_err-print_number-2 g c =
    let p = err_from_is_err_and c.from_residual-in_err-print_number-2.result c.from_residual-in_err-print_number-2.ensures.1 in
    rw (p.1, p.2) (stopped-before g.K.Sink.taken g.K.Sink.flushed g.K.Sink.faults ((((number_line (codes "lines") c.args.lines) ++ number_line (codes "entries") c.args.entries) ++ number_line (codes "calls") c.args.calls) ++ number_line (codes "granted") c.args.granted) (number_line (codes "refused") c.args.refused) c.args.sink.now _ _ (stopped-before g.K.Sink.taken g.K.Sink.flushed g.K.Sink.faults (((number_line (codes "lines") c.args.lines) ++ number_line (codes "entries") c.args.entries) ++ number_line (codes "calls") c.args.calls) (number_line (codes "granted") c.args.granted) c.args.sink.now _ _ (stopped-before g.K.Sink.taken g.K.Sink.flushed g.K.Sink.faults ((number_line (codes "lines") c.args.lines) ++ number_line (codes "entries") c.args.entries) (number_line (codes "calls") c.args.calls) c.args.sink.now _ _ (Writes-then g.K.Sink.taken g.K.Sink.flushed g.K.Sink.faults (number_line (codes "lines") c.args.lines) (number_line (codes "entries") c.args.entries) c.args.sink.now c.print_number.new.sink _ _ c.in_ok-print_number.ensures
    c.in_err-print_number-2.ensures))))

pub returns-in_err-print_number-3 : goal.returns-in_err-print_number-3
returns-in_err-print_number-3 g c =
    let p = err_from_is_err_and c.from_residual-in_err-print_number-3.result c.from_residual-in_err-print_number-3.ensures.1 in
    rw (p.1, p.2) (stopped-before g.K.Sink.taken g.K.Sink.flushed g.K.Sink.faults ((((number_line (codes "lines") c.args.lines) ++ number_line (codes "entries") c.args.entries) ++ number_line (codes "calls") c.args.calls) ++ number_line (codes "granted") c.args.granted) (number_line (codes "refused") c.args.refused) c.args.sink.now _ _ (stopped-before g.K.Sink.taken g.K.Sink.flushed g.K.Sink.faults (((number_line (codes "lines") c.args.lines) ++ number_line (codes "entries") c.args.entries) ++ number_line (codes "calls") c.args.calls) (number_line (codes "granted") c.args.granted) c.args.sink.now _ _ (Writes-then g.K.Sink.taken g.K.Sink.flushed g.K.Sink.faults ((number_line (codes "lines") c.args.lines) ++ number_line (codes "entries") c.args.entries) (number_line (codes "calls") c.args.calls) c.args.sink.now c.print_number-2.new.sink _ _ (Writes-then g.K.Sink.taken g.K.Sink.flushed g.K.Sink.faults (number_line (codes "lines") c.args.lines) (number_line (codes "entries") c.args.entries) c.args.sink.now c.print_number.new.sink _ _ c.in_ok-print_number.ensures
    c.in_ok-print_number-2.ensures)
    c.in_err-print_number-3.ensures)))

pub returns-in_err-print_number-4 : goal.returns-in_err-print_number-4
returns-in_err-print_number-4 g c =
    let p = err_from_is_err_and c.from_residual-in_err-print_number-4.result c.from_residual-in_err-print_number-4.ensures.1 in
    rw (p.1, p.2) (stopped-before g.K.Sink.taken g.K.Sink.flushed g.K.Sink.faults ((((number_line (codes "lines") c.args.lines) ++ number_line (codes "entries") c.args.entries) ++ number_line (codes "calls") c.args.calls) ++ number_line (codes "granted") c.args.granted) (number_line (codes "refused") c.args.refused) c.args.sink.now _ _ (Writes-then g.K.Sink.taken g.K.Sink.flushed g.K.Sink.faults (((number_line (codes "lines") c.args.lines) ++ number_line (codes "entries") c.args.entries) ++ number_line (codes "calls") c.args.calls) (number_line (codes "granted") c.args.granted) c.args.sink.now c.print_number-3.new.sink _ _ (Writes-then g.K.Sink.taken g.K.Sink.flushed g.K.Sink.faults ((number_line (codes "lines") c.args.lines) ++ number_line (codes "entries") c.args.entries) (number_line (codes "calls") c.args.calls) c.args.sink.now c.print_number-2.new.sink _ _ (Writes-then g.K.Sink.taken g.K.Sink.flushed g.K.Sink.faults (number_line (codes "lines") c.args.lines) (number_line (codes "entries") c.args.entries) c.args.sink.now c.print_number.new.sink _ _ c.in_ok-print_number.ensures
    c.in_ok-print_number-2.ensures)
    c.in_ok-print_number-3.ensures)
    c.in_err-print_number-4.ensures))

pub returns : goal.returns
returns g c = Writes-then g.K.Sink.taken g.K.Sink.flushed g.K.Sink.faults ((((number_line (codes "lines") c.args.lines) ++ number_line (codes "entries") c.args.entries) ++ number_line (codes "calls") c.args.calls) ++ number_line (codes "granted") c.args.granted) (number_line (codes "refused") c.args.refused) c.args.sink.now c.print_number-4.new.sink _ _ (Writes-then g.K.Sink.taken g.K.Sink.flushed g.K.Sink.faults (((number_line (codes "lines") c.args.lines) ++ number_line (codes "entries") c.args.entries) ++ number_line (codes "calls") c.args.calls) (number_line (codes "granted") c.args.granted) c.args.sink.now c.print_number-3.new.sink _ _ (Writes-then g.K.Sink.taken g.K.Sink.flushed g.K.Sink.faults ((number_line (codes "lines") c.args.lines) ++ number_line (codes "entries") c.args.entries) (number_line (codes "calls") c.args.calls) c.args.sink.now c.print_number-2.new.sink _ _ (Writes-then g.K.Sink.taken g.K.Sink.flushed g.K.Sink.faults (number_line (codes "lines") c.args.lines) (number_line (codes "entries") c.args.entries) c.args.sink.now c.print_number.new.sink _ _ c.in_ok-print_number.ensures
    c.in_ok-print_number-2.ensures)
    c.in_ok-print_number-3.ensures)
    c.in_ok-print_number-4.ensures)
    c.print_number-5.ensures
