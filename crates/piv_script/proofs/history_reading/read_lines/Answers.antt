use Rattle.std.proofs.Common.{rules, ◌∙◌, sym, Some, None}
use Rattle.std.proofs.lemmas.Result.{err_from_is_err_and}
use Rattle.line_words.specs.Words.{words}
use Rattle.std.specs.List.{slice_split}
use Rattle.piv_script.specs.EntryReading.{entry_of_words}
use Rattle.piv_script.specs.HistoryReading.{after_lines, is_line_feed, history_of}
use Rattle.piv_script.proofs.HistoryLaws.{lines-step, lines-end, first-cut, step-pushed, step-stopped, end-empty, end-open}
use Rattle.piv_script.proofs.history_reading.read_lines.Goals as goal

pub returns-in_err-push_text-in-Some : goal.returns-in_err-push_text-in-Some
returns-in_err-push_text-in-Some c =
    let p = err_from_is_err_and c.from_residual.result c.from_residual.ensures.1 in
    let cut = first-cut c.lines.rest.now (Some (c.in-Some.line, c.in-Some.more)) c.in-Some.ensures.cases in
    rw (p.1, p.2) (step-stopped (history_of c.args.text.now) (after_lines (slice_split is_line_feed c.in-Some.more.now)) (entry_of_words (words c.in-Some.line.now)) _ c.lines.h.past _
    (c.lines.invariant.so_far ∙ lines-step c.lines.rest.now c.in-Some.line.now c.in-Some.more.now c.lines.h.past cut.0) c.in_err-push_text-in-Some.ensures)

pub lines-preserved : goal.lines-preserved
lines-preserved c =
    let cut = first-cut c.lines.rest.now (Some (c.in-Some.line, c.in-Some.more)) c.in-Some.ensures.cases in
    record {
      text = search rules;
      so_far = step-pushed (history_of c.args.text.now) (after_lines (slice_split is_line_feed c.in-Some.more.now)) (entry_of_words (words c.in-Some.line.now)) c.lines.h.past _
          (c.lines.invariant.so_far ∙ lines-step c.lines.rest.now c.in-Some.line.now c.in-Some.more.now c.lines.h.past cut.0) c.in_ok-push_text-in-Some.ensures;
    }

pub returns-then-is_empty : goal.returns-then-is_empty
returns-then-is_empty c =
    let cut = first-cut c.lines.rest.now None c.in-None.ensures.cases in
    end-empty _ c.lines.h.past c.lines.rest.now (c.lines.invariant.so_far ∙ lines-end c.lines.rest.now c.lines.h.past cut) (sym c.is_empty.ensures ∙ c.if-is_empty.true)

pub returns-in-None : goal.returns-in-None
returns-in-None c =
    let cut = first-cut c.lines.rest.now None c.in-None.ensures.cases in
    end-open _ c.lines.h.past c.lines.rest.now (c.lines.invariant.so_far ∙ lines-end c.lines.rest.now c.lines.h.past cut) (sym c.is_empty.ensures ∙ c.if-is_empty.false)
