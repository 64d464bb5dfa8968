-- A call as a whole (this project's own).
use Rattle.std.specs.Prelude.{◌≡◌, ℕ, List, [], ◌∷◌, ◌++◌, Option, Some, None, is_some}
use Rattle.piv_model.specs.declared.answers.ApiAnswer.{ApiAnswer}
use Rattle.piv_model.specs.declared.answers.ApiAnswer.TheVariants as api
use Rattle.client_api.specs.Calls.{Handle, Call, Replies, Asked, sends}
use Rattle.client_api.specs.Answers.{api_answer, handle_after}
use Rattle.client_api.specs.Ports.{Log}
use Rattle.client_api.specs.Steps.{IsRun, has_handle}

-- the call was made to its end with these replies, and answered by the tables
pub record IsMade (call : Call) (answer : ApiAnswer) (handle : Option Handle) (replies : Replies) : Type 0 where
  pub run : IsRun call replies
  pub last : sends call replies ≡ None
  pub answered : answer ≡ api_answer call replies
  pub handed : handle ≡ handle_after call replies
  -- none exactly where a connect failed
  pub has : is_some handle ≡ has_handle call answer

-- the own records of these replies, the newest first: one for each answer of the card, of the act that the call sends
-- there; Full has none
abbrev pub AreOwnOf : Call → Replies → Log → Type 0
AreOwnOf call [] own = own ≡ []
AreOwnOf call (None ∷ replies) own = AreOwnOf call replies own
AreOwnOf call (Some told ∷ replies) [] = ⊥
AreOwnOf call (Some told ∷ replies) (o ∷ own) =
    (o.did.answer ≡ told) × (sends call replies ≡ Some (record { card = o.card; act = o.did.act }))
    × AreOwnOf call replies own

-- what a port stands for after these replies: these own records more
abbrev pub HasAdded : (Log → Type 0) → (Log → Type 0) → Call → Replies → Type 0
HasAdded old now call replies = (log : Log) → old log → (own : Log) × AreOwnOf call replies own × now (own ++ log)

-- the call was made to its end on a port
pub record IsMadeOn (old now : Log → Type 0) (seen turns : ℕ → ℕ) (call : Call) (answer : ApiAnswer) (handle : Option Handle) (replies : Replies) : Type 0 where
  pub made : IsMade call answer handle replies
  pub added : HasAdded old now call replies
  -- only where all turns of its card are seen
  pub full : answer ≡ api.TranscriptFull → (x : Asked) → sends call [] ≡ Some x → seen x.card ≡ turns x.card
