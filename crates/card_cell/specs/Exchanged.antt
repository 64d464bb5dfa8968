-- What an exchange that reached the card came to, and what it left.
use Rattle.std.specs.Prelude.{◌≡◌, ◌≤◌, ◌+◌, ℕ, Bool, true, false, [], ◌∷◌, Option, None, is_some}
use Rattle.piv_model.specs.declared.kinds.Took.{Took}
use Rattle.piv_model.specs.declared.kinds.Took.TheVariants.{Nothing}
use Rattle.piv_model.specs.Base.{Profile}
use Rattle.piv_model.specs.Entries.{CardEntry, Past, Closed, Call, Part, Rest, Bad, Cut}
use Rattle.piv_model.specs.Written.{Written}
use Rattle.piv_rules.specs.Acts.{CardAnswer, Replied, Mute}
use Rattle.piv_rules.specs.Asks.{ask}
use Rattle.piv_rules.specs.Effects.{took_by}
use Rattle.card_cell.specs.declared.compared.Comparison.{Comparison}
use Rattle.card_cell.specs.declared.exchanging.Exchanged.{Exchanged}
use Rattle.card_cell.specs.declared.exchanging.Exchanged.TheVariants as made
use Rattle.card_cell.specs.Counts.{comparison_of}

-- the newest entry
abbrev pub latest : Past → CardEntry
latest [] = Closed 0
latest (e ∷ H) = e

-- the answer; `told` is the epoch before
abbrev pub answer_made : ℕ → Exchanged → CardAnswer
answer_made told (made.Replied body sw drew compared took) = Replied body sw
answer_made told made.Mute = Mute (told + 1)

abbrev pub is_mute : Exchanged → Bool
is_mute made.Mute = true
is_mute _ = false

abbrev pub has_drawn : Exchanged → Bool
has_drawn (made.Replied body sw drew compared took) = drew
has_drawn made.Mute = false

-- the comparison of its command, and how far that came
abbrev pub compared_by : Exchanged → Option Comparison
compared_by (made.Replied body sw drew compared took) = compared
compared_by made.Mute = None

abbrev pub came_in : Exchanged → Took
came_in (made.Replied body sw drew compared took) = took
came_in made.Mute = Nothing

-- One entry more, which took at most one row. The bytes of its command, and those that the card still holds, are at most
-- those that it held before and those of one APDU.
pub record IsNoted (old new : Written) (held now : ℕ) : Type 0 where
  pub past : new.past ≡ latest new.past ∷ old.past
  pub entries : old.entries ≤ new.entries + 1
  pub bytes : old.bytes + now ≤ new.bytes + held + 255

-- The entry is one of an exchange, on a card that has a Global PIN or hasn't: a Cut with its command where nothing was answered, with a block
-- where one was drawn, and with the comparison of its command where it is a Call.
abbrev pub IsEntryOf : Bool → Exchanged → CardEntry → Type 0
IsEntryOf global r (Call c k word block) =
    (is_mute r ≡ false) × (is_some block ≡ has_drawn r)
    × ((m : Profile) → m.has_global ≡ global → compared_by r ≡ comparison_of (ask m k))
    × (came_in r ≡ took_by word)
IsEntryOf global r (Part c) = (is_mute r ≡ false) × (has_drawn r ≡ false) × (compared_by r ≡ None)
IsEntryOf global r (Rest c) = (is_mute r ≡ false) × (has_drawn r ≡ false) × (compared_by r ≡ None)
IsEntryOf global r (Bad c word) = (is_mute r ≡ false) × (has_drawn r ≡ false) × (compared_by r ≡ None)
IsEntryOf global r (Cut run) =
    (is_mute r ≡ true) × (has_drawn r ≡ false) × (compared_by r ≡ None) × (is_some run ≡ true)
IsEntryOf global r _ = ⊥
