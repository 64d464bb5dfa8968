-- The memory of a card over a history stays one that a card can have (SP 800-73-4 part 1).
use Rattle.std.specs.Prelude.{◌≡◌}
use Rattle.piv_model.specs.declared.kinds.KeyId.{KeyId}
use Rattle.piv_model.specs.Entries.{Past}
use Rattle.piv_model.specs.Memory.{key_at}
use Rattle.piv_model.specs.Sound.{IsSound}
use Rattle.piv_model.specs.Base.{Base, profile, profile_of}
use Rattle.piv_rules.specs.Memories.{mem}
use Rattle.piv_rules.specs.Legal.{IsLegal}

abbrev pub MemoriesAreSound : Type 0
MemoriesAreSound = (B : Base) (H : Past) → IsSound B.memory → IsLegal B H → IsSound (mem B H)

-- no command changes a key, the budget, or what the meaning of a command depends on
pub record IsLasting (B : Base) (H : Past) : Type 0 where
  pub keys : (key : KeyId) → key_at (mem B H) key ≡ key_at B.memory key
  pub budget : (mem B H).budget ≡ B.memory.budget
  pub profile : profile_of (mem B H) ≡ profile B

abbrev pub SomeThingsLast : Type 0
SomeThingsLast = (B : Base) (H : Past) → IsLasting B H
