-- What a step of a call does (this project's own).
use Rattle.std.specs.Prelude.{◌≡◌, ℕ, ◌<◌, suc, ◌-◌, ◌/◌, Bool, true, false, length, None, IsSome, is_some, MatchOption, IfSome, [], ◌∷◌, if◌then◌else◌}
use Rattle.piv_model.specs.declared.answers.ApiAnswer.{ApiAnswer}
use Rattle.piv_model.specs.declared.answers.ApiAnswer.TheVariants as api
use Rattle.card_acts.specs.Acts.{Heard, is_answer_to}
use Rattle.client_api.specs.declared.call.Step.{Step}
use Rattle.client_api.specs.declared.call.Step.TheVariants as step
use Rattle.client_api.specs.Calls.{Call, Decided, Connect, Disconnect, Select, LogIn, LogOut, Get, Put, Crypt, Admin, Transmit, Switch, Replies, Asked, sends}
use Rattle.client_api.specs.Answers.{api_answer, handle_after}
use Rattle.client_api.specs.Machine.{Going, At, Ended, Over, after}
use Rattle.client_api.specs.Ports.{Log, TurnedPort}

-- each reply was asked for
abbrev pub IsRun : Call → Replies → Type 0
IsRun call [] = Unit {0}
IsRun call (r ∷ rs) = IsRun call rs × IsSome (sends call rs)

-- the card of a call, if it has one, is one of the port's
abbrev pub HasCard : ℕ → Call → Type 0
HasCard cards (Decided a h) = IfSome h (λ x. x.card < cards)
HasCard cards (Connect card interface shared) = card < cards
HasCard cards (Disconnect h) = h.card < cards
HasCard cards (Select h aid) = h.card < cards
HasCard cards (LogIn h list) = h.card < cards
HasCard cards (LogOut h) = h.card < cards
HasCard cards (Get h place) = h.card < cards
HasCard cards (Put h element) = h.card < cards
HasCard cards (Crypt h algorithm key input) = h.card < cards
HasCard cards (Admin h algorithm key) = h.card < cards
HasCard cards (Transmit h bytes) = h.card < cards
HasCard cards (Switch card act) = card < cards

-- a call in progress is on one of the port's cards, and wasn't Done
abbrev pub IsOn : ℕ → Going → Type 0
IsOn cards (At call k body idle) = HasCard cards call
IsOn cards (Ended a h) = IfSome h (λ x. x.card < cards)
IsOn cards Over = ⊥

-- so is the handle that is handed back
abbrev pub GivesOn : ℕ → Step → Type 0
GivesOn cards step.More = Unit {0}
GivesOn cards (step.Done a h) = IfSome h (λ x. x.card < cards)

-- a call in progress is this call after these replies
pub record IsAt (going : Going) (call : Call) (replies : Replies) : Type 0 where
  pub place : going ≡ after call replies
  pub run : IsRun call replies

-- the act was made on the port, and was answered so; Full comes only where all turns of the card are seen
pub record Sent (old now : Log → Type 0) (seen turns : ℕ → ℕ) (x : Asked) (heard : Heard) : Type 0 where
  pub turned : (log : Log) → old log → TurnedPort now log x.card x.act heard
  pub full : heard ≡ None → seen x.card ≡ turns x.card

-- what is given after these replies: More where the call has a further act, else its answer and handle
abbrev pub given : Call → Replies → Step
given call rs = if is_some (sends call rs) then step.More else step.Done (api_answer call rs) (handle_after call rs)

-- one turn, of act x, which had this answer, one that such an act can have
pub record Went (old now : Log → Type 0) (seen turns : ℕ → ℕ) (call : Call) (replies : Replies) (x : Asked) (result : Step) (going : Going) (heard : Heard) : Type 0 where
  pub sent : Sent old now seen turns x heard
  pub fits : is_answer_to x.act heard ≡ true
  pub gives : result ≡ given call (heard ∷ replies)
  pub goes : IsSome (sends call (heard ∷ replies)) → IsAt going call (heard ∷ replies)

-- one turn, which is the act that the call sends; or none, where it sends none
abbrev pub Stepped : (Log → Type 0) → (Log → Type 0) → (ℕ → ℕ) → (ℕ → ℕ) → Call → Replies → Step → Going → Type 0
Stepped old now seen turns call replies result going =
    MatchOption (sends call replies)
    ((result ≡ given call replies) × ((log : Log) → old log → now log))
    (λ x. (heard : Heard) × Went old now seen turns call replies x result going heard)

-- what is given at a place of a call
abbrev pub given_at : Going → Step
given_at (Ended a h) = step.Done a h
given_at _ = step.More

-- ---- the handle that is handed back

abbrev pub is_ok : ApiAnswer → Bool
is_ok (api.Ok body) = true
is_ok _ = false

-- a connect has one exactly where it is answered PIV_OK, and another call of the API always
abbrev pub has_handle : Call → ApiAnswer → Bool
has_handle (Decided b h) a = is_some h
has_handle (Connect card interface shared) a = is_ok a
has_handle (Switch card act) a = false
has_handle call a = true

-- the one that a step hands back
abbrev pub HandsBack : Going → Step → Type 0
HandsBack going step.More = Unit {0}
HandsBack (At call k body idle) (step.Done a h) = is_some h ≡ has_handle call a
HandsBack (Ended b kept) (step.Done a h) = h ≡ kept
HandsBack Over (step.Done a h) = ⊥

-- ---- how many turns are left

-- the turns of a call at most
abbrev pub most_turns : Call → ℕ
most_turns (LogIn h list) = length list
most_turns (LogOut h) = 3
most_turns (Get h place) = 65
most_turns (Put h element) = suc (length element / 255)
most_turns (Admin h algorithm key) = 2
most_turns call = 1

abbrev pub left : Going → ℕ
left (At call k body idle) = most_turns call - k
left (Ended a h) = 0
left Over = 0
