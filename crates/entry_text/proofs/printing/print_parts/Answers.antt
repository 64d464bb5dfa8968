use Rattle.std.proofs.Common.{◌++◌, ◌∙◌, sym, ap, List, ℕ}
use Rattle.std.proofs.lemmas.List.{append_assoc}
use Rattle.std.proofs.lemmas.Result.{err_from_is_err_and}
use Rattle.hex.specs.Hex.{encode_upper}
use Rattle.piv_ports.proofs.Writing.{Writes-then, Writes-stopped}
use Rattle.entry_text.proofs.printing.print_parts.Goals as goal

pub returns-in_err-write_all : goal.returns-in_err-write_all
returns-in_err-write_all g c =
    let p = err_from_is_err_and c.from_residual.result c.from_residual.ensures.1 in
    rw (p.1, p.2) (Writes-stopped g.K.Sink.taken g.K.Sink.flushed g.K.Sink.faults c.deref.result.now _ _ c.args.sink.now _ _ c.in_err-write_all.ensures
    (append_assoc c.args.parts.now.front.items (encode_upper c.args.parts.now.body.now) c.args.parts.now.back.items
    ∙ ap (λ (l : List ℕ). l ++ (encode_upper c.args.parts.now.body.now ++ c.args.parts.now.back.items)) (sym c.deref.ensures.0)))

pub returns-in_err-write_hex : goal.returns-in_err-write_hex
returns-in_err-write_hex g c =
    let p = err_from_is_err_and c.from_residual-in_err-write_hex.result c.from_residual-in_err-write_hex.ensures.1 in
    rw (p.1, p.2) (Writes-stopped g.K.Sink.taken g.K.Sink.flushed g.K.Sink.faults (c.deref.result.now ++ encode_upper c.args.parts.now.body.now) c.args.parts.now.back.items _ c.args.sink.now _ _
    (Writes-then g.K.Sink.taken g.K.Sink.flushed g.K.Sink.faults c.deref.result.now (encode_upper c.args.parts.now.body.now) c.args.sink.now c.write_all.new.sink _ _ c.in_ok-write_all.ensures c.in_err-write_hex.ensures)
    (ap (λ (l : List ℕ). (l ++ encode_upper c.args.parts.now.body.now) ++ c.args.parts.now.back.items) (sym c.deref.ensures.0)))

pub returns : goal.returns
returns g c =
    let whole = Writes-then g.K.Sink.taken g.K.Sink.flushed g.K.Sink.faults (c.deref.result.now ++ encode_upper c.args.parts.now.body.now) c.deref-2.result.now c.args.sink.now c.write_hex.new.sink _ c.write_all-2.result
    (Writes-then g.K.Sink.taken g.K.Sink.flushed g.K.Sink.faults c.deref.result.now (encode_upper c.args.parts.now.body.now) c.args.sink.now c.write_all.new.sink _ _ c.in_ok-write_all.ensures c.in_ok-write_hex.ensures)
    c.write_all-2.ensures in
    rw (← c.deref.ensures.0, ← c.deref-2.ensures.0) whole
