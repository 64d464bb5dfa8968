use Rattle.std.proofs.Common.{◌≡◌, ◌≤◌}
use Rattle.run_text.specs.Summaries.{is_granted, is_refused}
use Rattle.run_text.proofs.Counting.{counted}
use Rattle.run_text.proofs.summary.count_calls.Given as goal

abbrev pub invariant-entries : goal.invariant-entries
invariant-entries l = record {
  granted : l.granted ≡ counted is_granted l.history.past l.k;
  refused : l.refused ≡ counted is_refused l.history.past l.k;
  few_granted : l.granted ≤ l.k;
  few_refused : l.refused ≤ l.k;
}
