-- The memory of a card: its limits, tries and secrets, keys, budget and objects are what a card can have (SP 800-73-4 part
-- 1; SP 800-78-4 for the algorithms; the numbers of blocks and bytes are this project's own).
use Rattle.std.specs.Prelude.{◌≡◌, ℕ, Bool, true, not, ◌&&◌, ◌||◌, ◌==◌, nat_le, List, length, is_some, Option, Some, None, IsTrue, if◌then◌else◌}
use Rattle.std.specs.List.{list_all}
use Rattle.piv_model.specs.declared.kinds.RefId.{RefId}
use Rattle.piv_model.specs.declared.kinds.KeyId.{KeyId}
use Rattle.piv_model.specs.declared.limits.TheConstants.{MOST_BLOCKS, OBJECTS}
use Rattle.piv_model.specs.Forms.{is_secret, is_discovery}
use Rattle.piv_model.specs.Objects.{discovery_place}
use Rattle.piv_model.specs.Memory.{Memory, Reference, CardKey, has, reference, key_at, stored, is_short, blocks_used}

-- a limit is 1 to 15, and the tries are at most it
abbrev pub is_limited : Reference → Bool
is_limited x = nat_le 1 x.limit && nat_le x.limit 15 && nat_le x.tries x.limit

abbrev pub is_limited_if_any : Option Reference → Bool
is_limited_if_any None = true
is_limited_if_any (Some x) = is_limited x

-- an algorithm of a key, and the bytes that its keys have: AES-128, AES-192 or AES-256
abbrev pub is_algorithm : ℕ → Bool
is_algorithm a = (a == 0x08) || (a == 0x0A) || (a == 0x0C)

abbrev pub key_size : ℕ → ℕ
key_size a = if a == 0x08 then 16 else if a == 0x0A then 24 else 32

abbrev pub is_card_key : CardKey → Bool
is_card_key k = is_algorithm k.algorithm && (length k.key == key_size k.algorithm)

-- a value that the object of a place may have
abbrev pub may_stand : Bool → ℕ → List ℕ → Bool
may_stand has_global place v = not (place == discovery_place) || (length v == 0) || is_discovery has_global v

pub record IsSound (m : Memory) : Type 0 where
  pub limits : (r : RefId) → IsTrue (has m r) → IsTrue (is_limited (reference m r))
  pub secrets : (r : RefId) → IsTrue (has m r) → IsTrue (is_secret r (reference m r).secret)
  pub keys : (key : KeyId) → IsTrue (is_card_key (key_at m key))
  pub budget : IsTrue (nat_le 1 m.budget && nat_le m.budget MOST_BLOCKS)
  pub places : length m.objects ≡ OBJECTS
  pub lengths : IsTrue (list_all is_short m.objects)
  pub room : IsTrue (nat_le (blocks_used m.objects) m.budget)
  pub discovery : IsTrue (may_stand (is_some m.global) discovery_place (stored m discovery_place))
