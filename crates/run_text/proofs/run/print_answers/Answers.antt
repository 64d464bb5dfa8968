use Rattle.std.proofs.Common.{◌≤◌, ◌+◌, length, refl, arith}
use Rattle.std.specs.List.{enumerate_from}
use Rattle.std.proofs.lemmas.List.FromFn.{length-enumerate_from}
use Rattle.std.proofs.lemmas.Option.{slice_get_read}
use Rattle.std.proofs.lemmas.Result.{err_from_is_err_and}
use Rattle.entry_text.specs.AnswerTexts.{answer_line}
use Rattle.run_text.proofs.Pieces.{numbered-at, piece-next, piece-stopped, pieces-end}
use Rattle.run_text.proofs.run.print_answers.Goals as goal

pub returns-in_err-print_answer : goal.returns-in_err-print_answer
returns-in_err-print_answer g c =
    let p = err_from_is_err_and c.from_residual.result c.from_residual.ensures.1 in
    let at = numbered-at 1 c.args.answers.now c.answers.k c.index-answers-k.result
    (slice_get_read c.args.answers.now (length c.args.answers.now) c.answers.k c.index-answers-k.result refl c.answers-test.true c.index-answers-k.is) in
    rw (p.1, p.2) (piece-stopped g.K.Sink.taken g.K.Sink.flushed g.K.Sink.faults (λ a. answer_line a.0 a.1) (enumerate_from 1 c.args.answers.now) c.answers.k (c.answers.k + 1, c.index-answers-k.result) c.args.sink.now c.answers.sink _ _ at
    c.answers.invariant c.in_err-print_answer.ensures)

pub answers-preserved : goal.answers-preserved
answers-preserved g c =
    let at = numbered-at 1 c.args.answers.now c.answers.k c.index-answers-k.result
    (slice_get_read c.args.answers.now (length c.args.answers.now) c.answers.k c.index-answers-k.result refl c.answers-test.true c.index-answers-k.is) in
    piece-next g.K.Sink.taken g.K.Sink.flushed g.K.Sink.faults (λ a. answer_line a.0 a.1) (enumerate_from 1 c.args.answers.now) c.answers.k (c.answers.k + 1, c.index-answers-k.result) c.args.sink.now c.answers.sink _ _ at
    c.answers.invariant c.in_ok-print_answer.ensures

pub returns : goal.returns
returns g c =
    let past : length (enumerate_from 1 c.args.answers.now) ≤ c.answers.k =
    let same = length-enumerate_from 1 c.args.answers.now in let end = c.answers-test.false in omega (arith, same, end) in
    pieces-end g.K.Sink.taken g.K.Sink.flushed g.K.Sink.faults (λ a. answer_line a.0 a.1) (enumerate_from 1 c.args.answers.now) c.answers.k c.args.sink.now c.answers.sink _ past c.answers.invariant
