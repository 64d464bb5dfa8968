-- The data of a reply that wait to be fetched (ISO/IEC 7816-4, GET RESPONSE).
use Rattle.std.specs.Prelude.{◌≡◌, ℕ, ◌-◌, List, [], length, take, drop, Option, Some, None}
use Rattle.std.specs.Borrow.{Bor}
use Rattle.piv_model.specs.StatusWords.{piece_word}

-- what waits, the piece that was given last, and the room that is used
pub record Waiting : Type 0 where
  pub waiting : List ℕ
  pub piece : List ℕ
  pub used : ℕ

abbrev pub nothing : Waiting
nothing = record { waiting = []; piece = []; used = 0 }

-- the next piece is given, at most so many bytes; none where nothing waits
abbrev pub IsGiven : ℕ → Option ℕ → Waiting → Waiting → Type 0
IsGiven most None old new = (old.waiting ≡ []) × (new ≡ record old { waiting = []; piece = [] })
IsGiven most (Some word) old new =
    (old.waiting ≡ [] → ⊥) × (word ≡ piece_word (length old.waiting - most))
    × (new ≡ record old { waiting = drop most old.waiting; piece = take most old.waiting })

-- the word of a piece that is lent
abbrev pub word_given : Option (Bor (List ℕ) × ℕ) → Option ℕ
word_given None = None
word_given (Some given) = Some given.1
