-- The memory that a card begins with (this project's own; its parts are those of SP 800-73-4 part 1).
use Rattle.std.specs.Prelude.{ℕ, Bool, true, not, ◌&&◌, ◌==◌, if◌then◌else◌, IsTrue, List, [], ◌∷◌, map, take, Option, Some, None}
use Rattle.std.specs.List.{range_with_len, list_any}
use Rattle.piv_model.specs.declared.start.KeyBytes.{KeyBytes}
use Rattle.piv_model.specs.declared.start.StartGlobal.{StartGlobal}
use Rattle.piv_model.specs.declared.start.Start.{Start}
use Rattle.piv_model.specs.declared.limits.TheConstants.{OBJECTS}
use Rattle.piv_model.specs.Memory.{Memory, Reference, CardKey}
use Rattle.piv_model.specs.Sound.{key_size, IsSound}

-- the value of a place, none where no pair has it
abbrev pub value_at : List (ℕ × List ℕ) → ℕ → List ℕ
value_at [] place = []
value_at (pair ∷ pairs) place = if pair.0 == place then pair.1 else value_at pairs place

-- no place stands in two pairs
abbrev pub are_once : List (ℕ × List ℕ) → Bool
are_once [] = true
are_once (pair ∷ pairs) = not (list_any (λ p. p.0 == pair.0) pairs) && are_once pairs

abbrev pub key_of : KeyBytes → CardKey
key_of k = record { algorithm = k.algorithm; key = take (key_size k.algorithm) k.bytes }

abbrev pub global_of : StartGlobal → Option Reference
global_of g = if g.limit == 0 then None else Some (record { limit = g.limit; tries = g.limit; secret = g.pin })

-- full counters, and each object that has a pair
abbrev pub memory_of_start : Start → Memory
memory_of_start start = record {
  pin = record { limit = start.limit_pin; tries = start.limit_pin; secret = start.pin };
  puk = record { limit = start.limit_puk; tries = start.limit_puk; secret = start.puk };
  global = global_of start.global;
  admin = key_of start.admin;
  card_auth = key_of start.card_auth;
  budget = start.budget;
  objects = map (value_at start.objects) (range_with_len 0 OBJECTS);
}

-- a start spells a memory that a card can have
pub record SpellsMemory (start : Start) : Type 0 where
  pub sound : IsSound (memory_of_start start)
  pub once : IsTrue (are_once start.objects)
