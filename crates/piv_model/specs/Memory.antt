-- What a card's memory holds (SP 800-73-4 part 1; the budget in blocks is this project's own).
use Rattle.std.specs.Prelude.{ℕ, ◌+◌, ◌/◌, Bool, true, ◌&&◌, nat_le, List, [], length, sum_by, Option, is_some, slice_index_or, unwrap_or}
use Rattle.piv_model.specs.declared.kinds.RefId.{RefId}
use Rattle.piv_model.specs.declared.kinds.RefId.TheVariants.{Pin, Puk, GlobalPin}
use Rattle.piv_model.specs.declared.kinds.KeyId.{KeyId}
use Rattle.piv_model.specs.declared.kinds.KeyId.TheVariants.{AdminKey, CardAuth}
use Rattle.piv_model.specs.declared.limits.TheConstants.{LONGEST_OBJECT}

-- a reference: its retry limit, the tries left, and its secret
pub record Reference : Type 0 where
  pub limit : ℕ
  pub tries : ℕ
  pub secret : List ℕ

-- a key and its algorithm: 08, 0A or 0C (SP 800-78-4)
pub record CardKey : Type 0 where
  pub algorithm : ℕ
  pub key : List ℕ

-- what a card's memory holds. The objects stand at their places; an empty one is absent.
pub record Memory : Type 0 where
  pub pin : Reference
  pub puk : Reference
  pub global : Option Reference
  pub admin : CardKey
  pub card_auth : CardKey
  pub budget : ℕ
  pub objects : List (List ℕ)

abbrev pub no_reference : Reference
no_reference = record { limit = 0; tries = 0; secret = [] }

-- whether the card has this reference
abbrev pub has : Memory → RefId → Bool
has m Pin = true
has m Puk = true
has m GlobalPin = is_some m.global

-- a reference that the card has
abbrev pub reference : Memory → RefId → Reference
reference m Pin = m.pin
reference m Puk = m.puk
reference m GlobalPin = unwrap_or m.global no_reference

abbrev pub key_at : Memory → KeyId → CardKey
key_at m AdminKey = m.admin
key_at m CardAuth = m.card_auth

-- the object of a place
abbrev pub stored : Memory → ℕ → List ℕ
stored m place = slice_index_or m.objects place []

-- blocks of 64 bytes
abbrev pub blocks : ℕ → ℕ
blocks n = (n + 63) / 64

-- the blocks of all objects present
abbrev pub blocks_used : List (List ℕ) → ℕ
blocks_used objects = sum_by (λ o. blocks (length o)) objects

-- no value has more bytes
abbrev pub is_short : List ℕ → Bool
is_short v = nat_le (length v) LONGEST_OBJECT

-- there is room for one more value beside all objects present
unfoldable pub fits : Memory → List ℕ → Bool
fits m v = is_short v && nat_le (blocks (length v) + blocks_used m.objects) m.budget
