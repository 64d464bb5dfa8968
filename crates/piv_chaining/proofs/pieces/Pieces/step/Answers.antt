use Rattle.std.proofs.Common.{◌≡◌, ap, sym, arith, length, ◌-◌, ◌≤◌, rules}
use Rattle.piv_chaining.specs.Waiting.{Waiting}
use Rattle.piv_chaining.proofs.Parts.{stepped, left-over}
use Rattle.piv_chaining.proofs.pieces.Pieces.step.Goals as goal

pub returns-clause-given : goal.returns-clause-given
returns-clause-given c =
    let l : c.len.result ≡ length c.self.inside.bytes.items = search rules in
    stepped c.self.inside.bytes.items c.self.inside.given c.min-size.result c.args.most c.piece_word.result c.args.self.now
    c.self.invariant.1 (rw (← l) c.min-size.ensures) (omega arith)
    (sym (ap (λ (w : Waiting). w.waiting) c.self.view_is)) (sym (ap (λ (w : Waiting). w.used) c.self.view_is)) (rw (← l) c.piece_word.ensures)

pub returns-clause-left : goal.returns-clause-left
returns-clause-left c =
    let l : c.len.result ≡ length c.self.inside.bytes.items = search rules in
    let few : c.min-size.result ≤ length c.self.inside.bytes.items - c.self.inside.given = omega arith in
    left-over c.self.inside.bytes.items c.self.inside.given c.min-size.result c.args.self.now.waiting few (sym (ap (λ (w : Waiting). w.waiting) c.self.view_is))
