-- What a list of APDUs makes of a joiner, and a list of GET RESPONSEs of a reply (ISO/IEC 7816-4).
use Rattle.std.specs.Prelude.{◌≡◌, ℕ, ◌≤◌, List, [], ◌∷◌, ◌++◌, length, flat_map, replicate, false, Some}
use Rattle.std.specs.List.{AllByRecursion}
use Rattle.piv_model.specs.Commands.{CardCommand, CardApdu}
use Rattle.piv_model.specs.Chains.{linked}
use Rattle.piv_model.specs.StatusWords.{piece_word}
use Rattle.piv_chaining.specs.declared.joiner.Joining.{Joining}
use Rattle.piv_chaining.specs.declared.joiner.Joining.TheVariants.{Part, Whole}
use Rattle.piv_chaining.specs.Chains.{Chain, chain_of}
use Rattle.piv_chaining.specs.Fed.{IsFed}
use Rattle.piv_chaining.specs.Waiting.{Waiting, IsGiven}

-- these APDUs, fed one after the other, each with what it came to
abbrev pub AreFed : List CardApdu → List Joining → Chain → Chain → Type 0
AreFed [] [] old new = new ≡ old
AreFed (a ∷ apdus) (j ∷ js) old new = (mid : Chain) × IsFed (linked (chain_of old) a) j mid × AreFed apdus js mid new
AreFed _ _ old new = ⊥

-- an APDU of this class with the header of a command
pub record HasHeader (number : ℕ) (k : CardCommand) (a : CardApdu) : Type 0 where
  pub class : a.class ≡ number
  pub header : a.command ≡ record k { body = a.command.body }

-- a command of at most 16,640 bytes, cut in any way into parts with its header, of which all but the last have class 10:
-- where no chain is open each makes a part, and the last makes the whole command
abbrev pub CuttingsAreJoined : Type 0
CuttingsAreJoined = (k : CardCommand) (parts : List CardApdu) (last : CardApdu) (js : List Joining) (old new : Chain)
    → AllByRecursion (HasHeader 0x10 k) parts → HasHeader 0x00 k last
    → flat_map (λ a. a.command.body) parts ++ last.command.body ≡ k.body → length k.body ≤ 16640
    → old.is_chain ≡ false → AreFed (parts ++ last ∷ []) js old new
    → (js ≡ replicate (length parts) Part ++ Whole ∷ []) × (new ≡ record { command = k; is_chain = false })

-- a piece with its word
pub record Piece : Type 0 where
  pub bytes : List ℕ
  pub word : ℕ

-- these pieces were given one after the other, each of at most so many bytes
abbrev pub AreGiven : List ℕ → List Piece → Waiting → Waiting → Type 0
AreGiven [] [] old new = new ≡ old
AreGiven (most ∷ mosts) (p ∷ ps) old new =
    (mid : Waiting) × IsGiven most (Some p.word) old mid × (mid.piece ≡ p.bytes) × AreGiven mosts ps mid new
AreGiven _ _ old new = ⊥

abbrev pub all_bytes : List Piece → List ℕ
all_bytes ps = flat_map (λ p. p.bytes) ps

-- each word tells how many bytes come in later pieces
abbrev pub AreWorded : List Piece → Type 0
AreWorded [] = Unit {0}
AreWorded (p ∷ ps) = (p.word ≡ piece_word (length (all_bytes ps))) × AreWorded ps

-- pieces of any lengths, given until nothing waits, are what waited
abbrev pub PiecesAreWhole : Type 0
PiecesAreWhole = (mosts : List ℕ) (ps : List Piece) (old new : Waiting) → AreGiven mosts ps old new → new.waiting ≡ []
    → (all_bytes ps ≡ old.waiting) × AreWorded ps
