-- The card at the beginning: its memory and its random bytes (this project's own; the memory's parts are those of
-- SP 800-73-4 part 1).
use Rattle.std.specs.Prelude.{ℕ, Bool, ◌&&◌, ◌==◌, List, length, is_some}
use Rattle.piv_model.specs.Memory.{Memory}
use Rattle.piv_model.specs.Sound.{is_limited, is_limited_if_any}

pub record Base : Type 0 where
  pub memory : Memory
  pub random : List ℕ

-- what no command changes of a card, as far as the meaning of a command depends on it: whether it has a Global PIN,
-- and the algorithms of its two keys
pub record Profile : Type 0 where
  pub has_global : Bool
  pub admin_algorithm : ℕ
  pub card_algorithm : ℕ

abbrev pub profile_of : Memory → Profile
profile_of m = record {
  has_global = is_some m.global;
  admin_algorithm = m.admin.algorithm;
  card_algorithm = m.card_auth.algorithm;
}

abbrev pub profile : Base → Profile
profile B = profile_of B.memory

-- the limits and tries of a base, and the numbers of its objects and of its random bytes, are those of a card
unfoldable pub is_valid : Base → Bool
is_valid B =
    is_limited B.memory.pin && is_limited B.memory.puk && is_limited_if_any B.memory.global
    && (length B.memory.objects == 33) && (length B.random == 32)
