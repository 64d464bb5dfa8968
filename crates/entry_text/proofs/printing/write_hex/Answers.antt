use Rattle.std.proofs.Common.{◌≡◌, ◌++◌, [], ◌∙◌, refl, ap, List, ℕ}
use Rattle.std.proofs.lemmas.Result.{err_from_is_err_and}
use Rattle.hex.specs.Hex.{encode_upper}
use Rattle.entry_text.proofs.HexSteps.{encode_upper-none}
use Rattle.piv_ports.proofs.Writing.{Writes-nothing}
use Rattle.entry_text.proofs.PrintSteps.{hex-next, hex-stopped, whole-cut}
use Rattle.entry_text.proofs.printing.write_hex.Goals as goal

pub pieces-init : goal.pieces-init
pieces-init g c = ([], refl, rw encode_upper-none (Writes-nothing g.K.Sink.taken g.K.Sink.flushed g.K.Sink.faults c.args.sink.now))

pub returns-in_err-write_all : goal.returns-in_err-write_all
returns-in_err-write_all g c =
    let p = err_from_is_err_and c.from_residual.result c.from_residual.ensures.1 in
    let is : c.deref.result.now ≡ encode_upper c.split_at.result.0.now =
    c.deref.ensures.0 ∙ c.put_bytes.ensures.items ∙ ap (λ (l : List ℕ). l ++ encode_upper c.split_at.result.0.now) c.new-text.ensures in
    let before = c.pieces.invariant in
    let whole = whole-cut c.args.bytes.now before.0 c.pieces.rest.now c.split_at.result.0.now c.split_at.result.1.now _ before.1 c.split_at.ensures.front c.split_at.ensures.back in
    rw (p.1, p.2) (hex-stopped g.K.Sink.taken g.K.Sink.flushed g.K.Sink.faults c.args.bytes.now (before.0 ++ c.split_at.result.0.now) c.split_at.result.1.now _ _ _ whole
    (hex-next g.K.Sink.taken g.K.Sink.flushed g.K.Sink.faults before.0 c.split_at.result.0.now c.deref.result.now _ c.pieces.sink _ _ is before.2 c.in_err-write_all.ensures))

pub pieces-preserved : goal.pieces-preserved
pieces-preserved g c =
    let is : c.deref.result.now ≡ encode_upper c.split_at.result.0.now =
    c.deref.ensures.0 ∙ c.put_bytes.ensures.items ∙ ap (λ (l : List ℕ). l ++ encode_upper c.split_at.result.0.now) c.new-text.ensures in
    let before = c.pieces.invariant in (
      before.0 ++ c.split_at.result.0.now,
      whole-cut c.args.bytes.now before.0 c.pieces.rest.now c.split_at.result.0.now c.split_at.result.1.now _ before.1 c.split_at.ensures.front c.split_at.ensures.back,
      hex-next g.K.Sink.taken g.K.Sink.flushed g.K.Sink.faults before.0 c.split_at.result.0.now c.deref.result.now _ c.pieces.sink _ _ is before.2 c.in_ok-write_all.ensures,
    )
