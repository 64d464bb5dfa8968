-- Challenges and Witnesses: each block is drawn in its turn, and answered by the next command of its connection or never
-- (SP 800-73-4 part 2, GENERAL AUTHENTICATE; the order of the blocks is this project's own).
use Rattle.std.specs.Prelude.{◌≡◌, ◌↔◌, ◌⊎◌, ℕ, Bool, true, false, List, ◌∷◌, ◌++◌, count_by, Option, Some}
use Rattle.piv_model.specs.declared.kinds.Interface.TheVariants.{Contact}
use Rattle.piv_model.specs.Commands.{CardCommand}
use Rattle.piv_model.specs.Entries.{CardEntry, Past, ◌▸◌, Call}
use Rattle.piv_model.specs.Base.{Base, profile}
use Rattle.piv_rules.specs.Asks.{Ask, AskChallenge, External, AskWitness, Mutual, ask}
use Rattle.piv_rules.specs.Connections.{breaks, side, is_call_on}
use Rattle.piv_rules.specs.Logins.{Challenge, Witness, pending}
use Rattle.piv_rules.specs.RandomBlocks.{random_block}
use Rattle.piv_rules.specs.Answers.{enciphered}
use Rattle.piv_rules.specs.Legal.{IsLegal}
use Rattle.piv_rules.specs.Lookback.{none_since}
use Rattle.login_laws.specs.LoginLaws.{requests}

-- the last command of c, with no break of c since, was this request; it was granted, and bore this block
pub record FollowsRequest (B : Base) (H : Past) (c : ℕ) (request : Ask) (block : List ℕ) : Type 0 where
  pub since : Past
  pub command : CardCommand
  pub before : Past
  pub whole : H ≡ since ++ Call c command 0x9000 (Some block) ∷ before
  pub asks : ask (profile B) command ≡ request
  pub last : none_since (λ G e. is_call_on c e) since (Call c command 0x9000 (Some block) ∷ before) ≡ true
  pub unbroken : none_since (breaks c) since (Call c command 0x9000 (Some block) ∷ before) ≡ true

abbrev pub ChallengesFollowRequests : Type 0
ChallengesFollowRequests = (B : Base) (H : Past) (c : ℕ) (block : List ℕ) → IsLegal B H
    → (pending B H c ≡ Challenge block) ↔ FollowsRequest B H c AskChallenge block

abbrev pub WitnessesFollowRequests : Type 0
WitnessesFollowRequests = (B : Base) (H : Past) (c : ℕ) (block : List ℕ) → IsLegal B H
    → (pending B H c ≡ Witness block) ↔ FollowsRequest B H c AskWitness block

-- the answer was compared: it was right, or it was wrong and the connection is on contact
abbrev pub WasCompared : Base → Past → ℕ → ℕ → Type 0
WasCompared B H c word = (word ≡ 0x9000) ⊎ ((word ≡ 0x6982) × (side H c ≡ Contact))

-- it answers a block of a request that it follows, and is granted exactly where it is right for that block
pub record IsResponse (B : Base) (H : Past) (c : ℕ) (request : Ask) (word : ℕ) (IsRight : List ℕ → Type 0) : Type 0 where
  pub block : List ℕ
  pub follows : FollowsRequest B H c request block
  pub right : (word ≡ 0x9000) ↔ IsRight block

-- a right response is the block under the key of administration
abbrev pub ResponsesAnswerChallenges : Type 0
ResponsesAnswerChallenges = (B : Base) (H : Past) (c : ℕ) (k : CardCommand) (word : ℕ) (block : Option (List ℕ)) (x : List ℕ)
    → IsLegal B (H ▸ Call c k word block) → ask (profile B) k ≡ External x → WasCompared B H c word
    → IsResponse B H c AskChallenge word (λ b. x ≡ enciphered B.memory.admin b)

-- a right Witness is the block itself
abbrev pub MutualsAnswerWitnesses : Type 0
MutualsAnswerWitnesses = (B : Base) (H : Past) (c : ℕ) (k : CardCommand) (word : ℕ) (block : Option (List ℕ)) (w x : List ℕ)
    → IsLegal B (H ▸ Call c k word block) → ask (profile B) k ≡ Mutual w x → WasCompared B H c word
    → IsResponse B H c AskWitness word (λ b. w ≡ b)

-- a command that bears a block
abbrev pub bears : CardEntry → Bool
bears (Call c k word (Some block)) = true
bears _ = false

-- a command that bears a block is a granted request, and its block is the one whose number is that of those borne before
abbrev pub BlocksComeInTurn : Type 0
BlocksComeInTurn = (B : Base) (L G : Past) (c : ℕ) (k : CardCommand) (word : ℕ) (block : List ℕ)
    → IsLegal B (L ++ Call c k word (Some block) ∷ G)
    → (requests (ask (profile B) k) ≡ true) × (word ≡ 0x9000) × (block ≡ random_block B.random (count_by bears G))

-- every granted request bears one
abbrev pub RequestsBearBlocks : Type 0
RequestsBearBlocks = (B : Base) (L G : Past) (c : ℕ) (k : CardCommand) (block : Option (List ℕ))
    → IsLegal B (L ++ Call c k 0x9000 block ∷ G) → requests (ask (profile B) k) ≡ true
    → block ≡ Some (random_block B.random (count_by bears G))
