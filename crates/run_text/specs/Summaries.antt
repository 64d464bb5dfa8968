-- The summary of a run (this project's own).
use Rattle.std.specs.Prelude.{ℕ, ◌==◌, not, Bool, false, List, ◌++◌, length, codes, Option, Some, None, is_some}
use Rattle.std.specs.List.{filter}
use Rattle.piv_model.specs.Entries.{CardEntry, Past, Call}
use Rattle.entry_text.specs.LineParts.{number_line}

-- the word that a command was answered; no other entry has one
abbrev pub word_of : CardEntry → Option ℕ
word_of (Call c k sw block) = Some sw
word_of _ = None

-- the commands that were executed; those that were answered 90 00 (ISO/IEC 7816-4), and the others
abbrev pub is_call : CardEntry → Bool
is_call e = is_some (word_of e)

abbrev pub grants : Option ℕ → Bool
grants None = false
grants (Some sw) = sw == 0x9000

abbrev pub refuses : Option ℕ → Bool
refuses None = false
refuses (Some sw) = not (sw == 0x9000)

abbrev pub is_granted : CardEntry → Bool
is_granted e = grants (word_of e)

abbrev pub is_refused : CardEntry → Bool
is_refused e = refuses (word_of e)

-- how many entries pass a test
abbrev pub number_of : (CardEntry → Bool) → Past → ℕ
number_of test H = length (filter test H)

-- the lines of these numbers
abbrev pub numbers_text : ℕ → ℕ → ℕ → ℕ → ℕ → List ℕ
numbers_text lines entries calls granted refused =
    number_line (codes "lines") lines ++ number_line (codes "entries") entries ++ number_line (codes "calls") calls
    ++ number_line (codes "granted") granted ++ number_line (codes "refused") refused

abbrev pub summary_text : ℕ → Past → List ℕ
summary_text lines H = numbers_text lines (length H) (number_of is_call H) (number_of is_granted H) (number_of is_refused H)
