-- The record of an exchange, by what it came to.
use Rattle.std.specs.Prelude.{◌≡◌, ◌≤◌, ◌+◌, ℕ, Bool, true, false, List, [], length, Option, Some, None, if◌then◌else◌}
use Rattle.piv_model.specs.declared.history.ActKind.TheVariants as kind
use Rattle.piv_model.specs.declared.history.Refusal.TheVariants as why
use Rattle.piv_model.specs.Commands.{CardCommand, command_of}
use Rattle.piv_model.specs.Entries.{CardEntry, Call, Part, Rest, Bad, Cut, Note}
use Rattle.piv_model.specs.Stores.{StoreState}
use Rattle.piv_rules.specs.Acts.{CardAnswer, Exchange, Replied, Mute, CardRecord}
use Rattle.piv_rules.specs.Frames.{Frame, BadFrame, PartFrame, RestFrame, WholeFrame}
use Rattle.card_app.specs.declared.exchanging.Exchanged.{Exchanged}
use Rattle.card_app.specs.declared.exchanging.Exchanged.TheVariants as made
use Rattle.card_app.specs.declared.card.Outcome.{Outcome}
use Rattle.card_app.specs.declared.card.Outcome.TheVariants as outcome
use Rattle.card_app.specs.Exchanges.{IsCutOff, IsKeptOn}

-- the entry and the answer of an exchange on a card that is on, by what it came to; `run` is the command in flight
-- afterwards, and `told` the epoch before
abbrev pub entry_by : ℕ → List ℕ → Option (ℕ × CardCommand) → Outcome → CardEntry
entry_by c block run outcome.Part = Part c
entry_by c block run (outcome.Call command sw body last drew) = Call c (command_of command) sw (if drew then Some block else None)
entry_by c block run (outcome.Rest body last) = Rest c
entry_by c block run (outcome.Bad sw) = Bad c sw
entry_by c block run outcome.Mute = Cut run

abbrev pub answer_by : ℕ → Outcome → CardAnswer
answer_by told outcome.Part = Replied [] 0x9000
answer_by told (outcome.Call command sw body last drew) = Replied body.now last
answer_by told (outcome.Rest body last) = Replied body.now last
answer_by told (outcome.Bad sw) = Replied [] sw
answer_by told outcome.Mute = Mute (told + 1)

abbrev pub exchange_by : ℕ → ℕ → List ℕ → List ℕ → Option (ℕ × CardCommand) → ℕ → Outcome → CardRecord
exchange_by c known bytes block run told outcome =
    record { act = Exchange c known bytes; entry = entry_by c block run outcome; answer = answer_by told outcome }

-- an exchange on a card that is off
abbrev pub muted : ℕ → ℕ → List ℕ → ℕ → CardRecord
muted c known bytes told = record { act = Exchange c known bytes; entry = Note (kind.Exchange c) why.Mute; answer = Mute told }

abbrev pub is_mute : Outcome → Bool
is_mute outcome.Mute = true
is_mute _ = false

-- It came to what its bytes are on that connection (a frame): a part, a piece with its word, a refusal, or a whole command,
-- which was executed or is in flight.
abbrev pub IsFramed : Frame → ℕ → Option (ℕ × CardCommand) → Outcome → Type 0
IsFramed f c run outcome.Part = f ≡ PartFrame
IsFramed f c run (outcome.Rest body last) = f ≡ RestFrame body.now last
IsFramed f c run (outcome.Bad sw) = f ≡ BadFrame sw
IsFramed f c run (outcome.Call command sw body last drew) = (most : ℕ) × (f ≡ WholeFrame (command_of command) most)
IsFramed f c run outcome.Mute = (k : CardCommand) × (most : ℕ) × (f ≡ WholeFrame k most) × (run ≡ Some (c, k))

-- what is lent has at most 256 bytes
abbrev pub IsSmall : Outcome → Type 0
IsSmall (outcome.Call command sw body last drew) = length body.now ≤ 256
IsSmall (outcome.Rest body last) = length body.now ≤ 256
IsSmall _ = Unit {0}

-- the store after an exchange on a card that was on, whatever it tells
abbrev pub LeavesOf : Outcome → StoreState → StoreState → Type 0
LeavesOf outcome.Mute old new = IsCutOff old new
LeavesOf (outcome.Call command sw body last drew) old new = IsKeptOn old new
LeavesOf _ old new = new ≡ old

-- ---- the same before anything is lent, with the executed command and the piece that is given

abbrev pub entry_of_made : ℕ → List ℕ → Option (ℕ × CardCommand) → Exchanged → CardCommand → CardEntry
entry_of_made c block run made.Part k = Part c
entry_of_made c block run (made.Call done last) k = Call c k done.sw (if done.drew then Some block else None)
entry_of_made c block run (made.Rest last) k = Rest c
entry_of_made c block run (made.Bad sw) k = Bad c sw
entry_of_made c block run (made.Lost broken) k = Cut run

abbrev pub answer_of_made : ℕ → Exchanged → List ℕ → CardAnswer
answer_of_made told made.Part piece = Replied [] 0x9000
answer_of_made told (made.Call done last) piece = Replied piece last
answer_of_made told (made.Rest last) piece = Replied piece last
answer_of_made told (made.Bad sw) piece = Replied [] sw
answer_of_made told (made.Lost broken) piece = Mute (told + 1)

abbrev pub exchange_made : ℕ → ℕ → List ℕ → List ℕ → Option (ℕ × CardCommand) → ℕ → Exchanged → CardCommand → List ℕ → CardRecord
exchange_made c known bytes block run told e k piece =
    record { act = Exchange c known bytes; entry = entry_of_made c block run e k; answer = answer_of_made told e piece }

abbrev pub IsFramedMade : Frame → ℕ → Option (ℕ × CardCommand) → Exchanged → CardCommand → List ℕ → Type 0
IsFramedMade f c run made.Part k piece = f ≡ PartFrame
IsFramedMade f c run (made.Rest last) k piece = f ≡ RestFrame piece last
IsFramedMade f c run (made.Bad sw) k piece = f ≡ BadFrame sw
IsFramedMade f c run (made.Call done last) k piece = (most : ℕ) × (f ≡ WholeFrame k most)
IsFramedMade f c run (made.Lost broken) k piece = (j : CardCommand) × (most : ℕ) × (f ≡ WholeFrame j most) × (run ≡ Some (c, j))
