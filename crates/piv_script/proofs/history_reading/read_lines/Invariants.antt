use Rattle.std.proofs.Common.{◌≡◌, length}
use Rattle.std.specs.List.{slice_split}
use denote.Shadow.{shadow}
use denote.Text.{Utf8}
use Rattle.piv_script.specs.HistoryReading.{after_lines, history_of, is_line_feed}
use Rattle.piv_script.proofs.history_reading.read_lines.Given as goal

abbrev pub invariant-lines : goal.invariant-lines
invariant-lines l = record {
  text : shadow (Utf8 l.rest);
  so_far : history_of l.fn.text ≡ after_lines (slice_split is_line_feed l.rest) l.h.past;
}

abbrev pub decreases-lines : goal.decreases-lines
decreases-lines l = length l.rest
