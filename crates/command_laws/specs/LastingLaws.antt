-- What was acknowledged lasts, over any loss of power, until a command changes it (this project's own).
use Rattle.std.specs.Prelude.{◌≡◌, ◌≤◌, ℕ, ◌-◌, Bool, true, List, ◌++◌, Option, is_some, IsTrue}
use Rattle.piv_model.specs.declared.kinds.RefId.{RefId}
use Rattle.piv_model.specs.declared.kinds.RefId.TheVariants.{Pin}
use Rattle.piv_model.specs.Commands.{CardCommand}
use Rattle.piv_model.specs.Entries.{CardEntry, Past, ◌▸◌, Call}
use Rattle.piv_model.specs.Memory.{has, reference, stored}
use Rattle.piv_model.specs.Base.{Base, profile}
use Rattle.piv_rules.specs.StatusWords.{is_granted}
use Rattle.piv_rules.specs.Asks.{Put, Compare, Change, Unblock, ask}
use Rattle.piv_rules.specs.Memories.{gave, secret_by, object_by, mem}
use Rattle.piv_rules.specs.Lookback.{none_since}

-- a command that was accepted and gives the object of a place, or a reference, a new value
abbrev pub gives_object : Base → ℕ → Past → CardEntry → Bool
gives_object B id G e = is_some (gave (profile B) (object_by id) G e)

abbrev pub gives_secret : Base → RefId → Past → CardEntry → Bool
gives_secret B r G e = is_some (gave (profile B) (secret_by r) G e)

-- an object that was acknowledged is in the memory, whatever comes, until an accepted command puts another value there
abbrev pub ObjectsLast : Type 0
ObjectsLast = (B : Base) (H L : Past) (c : ℕ) (k : CardCommand) (word : ℕ) (block : Option (List ℕ)) (id : ℕ) (v : List ℕ)
    → ask (profile B) k ≡ Put id v → is_granted word ≡ true → id ≤ 32
    → none_since (gives_object B id) L (H ▸ Call c k word block) ≡ true
    → stored (mem B (L ++ (H ▸ Call c k word block))) id ≡ v

-- a new value of a reference likewise
abbrev pub SecretsLast : Type 0
SecretsLast = (B : Base) (H L : Past) (c : ℕ) (k : CardCommand) (word : ℕ) (block : Option (List ℕ)) (r : RefId) (p n : List ℕ)
    → ask (profile B) k ≡ Compare r p (Change n) → is_granted word ≡ true
    → IsTrue (has B.memory r)
    → none_since (gives_secret B r) L (H ▸ Call c k word block) ≡ true
    → (reference (mem B (L ++ (H ▸ Call c k word block))) r).secret ≡ n

abbrev pub UnblockedPinsLast : Type 0
UnblockedPinsLast = (B : Base) (H L : Past) (c : ℕ) (k : CardCommand) (word : ℕ) (block : Option (List ℕ)) (r : RefId) (p n : List ℕ)
    → ask (profile B) k ≡ Compare r p (Unblock n) → is_granted word ≡ true
    → none_since (gives_secret B Pin) L (H ▸ Call c k word block) ≡ true
    → (reference (mem B (L ++ (H ▸ Call c k word block))) Pin).secret ≡ n
