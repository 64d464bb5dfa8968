-- What a card acknowledged lasts: of one history and its memory (this project's own).
use Rattle.std.specs.Prelude.{◌≡◌, ◌≤◌, ℕ, List, true, ◌++◌, Option, IsTrue}
use Rattle.piv_model.specs.declared.kinds.RefId.{RefId}
use Rattle.piv_model.specs.declared.kinds.RefId.TheVariants.{Pin}
use Rattle.piv_model.specs.Commands.{CardCommand}
use Rattle.piv_model.specs.Entries.{Past, ◌▸◌, Call}
use Rattle.piv_model.specs.Memory.{Memory, has, reference, stored}
use Rattle.piv_model.specs.Base.{Base, profile}
use Rattle.piv_rules.specs.StatusWords.{is_granted}
use Rattle.piv_rules.specs.Asks.{Put, Compare, Change, Unblock, ask}
use Rattle.piv_rules.specs.Lookback.{none_since}
use Rattle.command_laws.specs.LastingLaws.{gives_object, gives_secret}

-- The memory m after the history H has what a command was granted, whatever entries L came later, losses of power too,
-- unless an accepted command among them gave another value.
pub record HasAcknowledged (B : Base) (H : Past) (m : Memory) : Type 0 where
  -- an object that was put
  pub objects : (L G : Past) (c : ℕ) (k : CardCommand) (word : ℕ) (block : Option (List ℕ)) (id : ℕ) (v : List ℕ)
      → H ≡ L ++ (G ▸ Call c k word block)
      → ask (profile B) k ≡ Put id v → is_granted word ≡ true → id ≤ 32
      → none_since (gives_object B id) L (G ▸ Call c k word block) ≡ true
      → stored m id ≡ v
  -- a new value of a reference
  pub secrets : (L G : Past) (c : ℕ) (k : CardCommand) (word : ℕ) (block : Option (List ℕ)) (r : RefId) (p n : List ℕ)
      → H ≡ L ++ (G ▸ Call c k word block)
      → ask (profile B) k ≡ Compare r p (Change n) → is_granted word ≡ true
      → IsTrue (has B.memory r)
      → none_since (gives_secret B r) L (G ▸ Call c k word block) ≡ true
      → (reference m r).secret ≡ n
  -- the PIN of an unblocking
  pub unblocked : (L G : Past) (c : ℕ) (k : CardCommand) (word : ℕ) (block : Option (List ℕ)) (r : RefId) (p n : List ℕ)
      → H ≡ L ++ (G ▸ Call c k word block)
      → ask (profile B) k ≡ Compare r p (Unblock n) → is_granted word ≡ true
      → none_since (gives_secret B Pin) L (G ▸ Call c k word block) ≡ true
      → (reference m Pin).secret ≡ n
