-- The history that a text is, line by line (this project's own).
use Rattle.std.specs.Prelude.{◌==◌, ℕ, Bool, List, [], ◌∷◌, Option, Some, None}
use Rattle.std.specs.List.{slice_split}
use Rattle.piv_model.specs.Entries.{CardEntry, Past}
use Rattle.line_words.specs.Words.{words}
use Rattle.piv_script.specs.EntryReading.{entry_of_words}

abbrev pub is_line_feed : ℕ → Bool
is_line_feed b = b == 10

abbrev pub ended : Past → List ℕ → Option Past
ended H [] = Some H
ended H (b ∷ rest) = None

abbrev pub line_then : (Past → Option Past) → Past → Option CardEntry → Option Past
line_then more H None = None
line_then more H (Some e) = more (e ∷ H)

-- the history after these lines, of which the last one is what follows the last line feed
abbrev pub last_or : {A : Type 0} → List (List ℕ) → A → A → A
last_or [] here further = here
last_or (line ∷ lines) here further = further

unfoldable pub after_lines : List (List ℕ) → Past → Option Past
after_lines [] H = None
after_lines (line ∷ lines) H = last_or lines (ended H line) (line_then (after_lines lines) H (entry_of_words (words line)))

abbrev pub history_of : List ℕ → Option Past
history_of text = after_lines (slice_split is_line_feed text) []
