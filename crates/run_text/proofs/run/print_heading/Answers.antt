use Rattle.std.proofs.Common.{◌≡◌, [], ◌∷◌, ◌++◌, ap, List, ℕ, sym}
use Rattle.std.proofs.lemmas.Result.{err_from_is_err_and}
use Rattle.piv_ports.proofs.Writing.{Writes-then, Writes-stopped}
use Rattle.run_text.proofs.run.print_heading.Goals as goal

pub returns-in_err-write_all-2 : goal.returns-in_err-write_all-2
returns-in_err-write_all-2 g c =
    let p = err_from_is_err_and c.from_residual-in_err-write_all-2.result c.from_residual-in_err-write_all-2.ensures.1 in
    let whole : c.args.word.now ++ c.args.name.now ++ 10 ∷ [] ≡ c.args.word.now ++ c.as_bytes.result.now ++ 10 ∷ [] =
    ap (λ (l : List ℕ). c.args.word.now ++ l ++ 10 ∷ []) (sym c.as_bytes.ensures.value) in
    rw (p.1, p.2) (Writes-stopped g.K.Sink.taken g.K.Sink.flushed g.K.Sink.faults (c.args.word.now ++ c.as_bytes.result.now) (10 ∷ []) _ c.args.sink.now _ _
    (Writes-then g.K.Sink.taken g.K.Sink.flushed g.K.Sink.faults c.args.word.now c.as_bytes.result.now c.args.sink.now c.write_all.new.sink _ _ c.in_ok-write_all.ensures c.in_err-write_all-2.ensures) whole)

pub returns : goal.returns
returns g c =
    let whole = Writes-then g.K.Sink.taken g.K.Sink.flushed g.K.Sink.faults (c.args.word.now ++ c.as_bytes.result.now) (10 ∷ []) c.args.sink.now c.write_all-2.new.sink _ c.write_all-3.result
    (Writes-then g.K.Sink.taken g.K.Sink.flushed g.K.Sink.faults c.args.word.now c.as_bytes.result.now c.args.sink.now c.write_all.new.sink _ _ c.in_ok-write_all.ensures c.in_ok-write_all-2.ensures)
    c.write_all-3.ensures in
    rw (← c.as_bytes.ensures.value) whole
