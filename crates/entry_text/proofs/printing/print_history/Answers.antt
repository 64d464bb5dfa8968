use Rattle.std.proofs.Common.{◌<◌, ◌+◌, ◌++◌, ◌∙◌, refl, ap, List, ℕ, arith, take, drop, length}
use Rattle.std.specs.Prelude.{reverse}
use Rattle.std.specs.List.{flat_map}
use Rattle.std.proofs.lemmas.List.{length-reverse}
use Rattle.std.proofs.lemmas.Result.{err_from_is_err_and}
use Rattle.piv_model.specs.Entries.{entry_of}
use Rattle.entry_text.specs.EntryTexts.{entry_line}
use Rattle.piv_ports.proofs.Writing.{Writes-then, Writes-stopped}
use Rattle.entry_text.proofs.PrintSteps.{one-more, rest-after, one_more-fits, all-fit}
use Rattle.entry_text.proofs.printing.print_history.Goals as goal

pub returns-in_err-print_entry-clause-text : goal.returns-in_err-print_entry-clause-text
returns-in_err-print_entry-clause-text g c =
    let p = err_from_is_err_and c.from_residual.result c.from_residual.ensures.1 in
    let H = c.args.h.now.past in
    let within : c.entries.k < length (reverse H) = let n = length-reverse H in let end = c.len-k-end.ensures in omega (arith, n, end) in
    let more = one-more H c.entries.k (entry_of c.entry.result) within c.entry.ensures in
    rw (p.1, p.2) (Writes-stopped g.K.Sink.taken g.K.Sink.flushed g.K.Sink.faults (flat_map entry_line (take c.entries.k (reverse H)) ++ entry_line (entry_of c.entry.result)) (flat_map entry_line (drop (c.entries.k + 1) (reverse H))) _ c.args.sink.now _ _
    (Writes-then g.K.Sink.taken g.K.Sink.flushed g.K.Sink.faults (flat_map entry_line (take c.entries.k (reverse H))) (entry_line (entry_of c.entry.result)) c.args.sink.now c.entries.sink _ _ c.entries.invariant.0 c.in_err-print_entry.ensures.text)
    (rest-after H (c.entries.k + 1) ∙ ap (λ (l : List ℕ). l ++ flat_map entry_line (drop (c.entries.k + 1) (reverse H))) more))

pub entries-preserved : goal.entries-preserved
entries-preserved g c =
    let H = c.args.h.now.past in
    let within : c.entries.k < length (reverse H) = let n = length-reverse H in let end = c.len-k-end.ensures in omega (arith, n, end) in
    let more = one-more H c.entries.k (entry_of c.entry.result) within c.entry.ensures in (
      rw more
          (Writes-then g.K.Sink.taken g.K.Sink.flushed g.K.Sink.faults (flat_map entry_line (take c.entries.k (reverse H))) (entry_line (entry_of c.entry.result)) c.args.sink.now c.entries.sink _ _ c.entries.invariant.0 c.in_ok-print_entry.ensures.text),
      one_more-fits H c.entries.k (entry_of c.entry.result) within c.entry.ensures c.entries.invariant.1 c.in_ok-print_entry.ensures.fits,
    )

pub returns-clause-readable : goal.returns-clause-readable
returns-clause-readable g c =
    let H = c.args.h.now.past in
    let n = length-reverse H in
    let end = c.len-k-end.ensures in
    let passed = c.entries-test.false in
    (all-fit H c.entries.k (omega (arith, n, end, passed)) c.entries.invariant.1, refl)
