-- A memory that is told stays one that a card can have, whatever change is made of it.
use Rattle.std.proofs.Common.{◌≤◌, ◌<◌, ◌+◌, ℕ, zero, suc, Bool, true, false, List, length, map, inl, inr, IsTrue, IfSome, arith}
use Rattle.std.specs.Prelude.{is_some}
use Rattle.std.specs.List.{list_all, range_with_len}
use Rattle.std.proofs.lemmas.Bool.{cases_eq, and_parts}
use Rattle.std.proofs.lemmas.Bool.Decides.{nat_tests}
use Rattle.piv_model.specs.Memory.{Memory, fits, is_short}
use Rattle.piv_model.specs.Sound.{IsSound, may_stand}
use Rattle.piv_model.proofs.Soundness.{sound_spent, sound_filled, sound_renewed, sound_unblocked, sound_put}
use Rattle.memory_store.specs.declared.memory.Change.{Change}
use Rattle.memory_store.specs.declared.memory.Change.TheVariants.{Spend, Restore, Renew, Unblock, Put}
use Rattle.memory_store.specs.Changes.{changed_by, may_be_made}
use Rattle.memory_store.specs.Told.{told as told_if}

sound_changed : (change : Change) (m : Memory) → IsTrue (may_be_made change m) → IsSound m → IsSound (changed_by change m)
sound_changed (Spend r) m may sound = sound_spent r m sound
sound_changed (Restore r) m may sound = sound_filled r m sound
sound_changed (Renew r secret) m may sound = sound_renewed r secret.now m may sound
sound_changed (Unblock pin) m may sound = sound_unblocked pin.now m may sound
sound_changed (Put place value) m may sound =
    let parts = and_parts (fits m value.now) (may_stand (is_some m.global) place value.now) may in
    sound_put place value.now m parts.0 parts.1 sound

pub told_changed : (change : Change) (told : Bool) (m : Memory) → IfSome (told_if told m) (λ m. IsTrue (may_be_made change m))
    → IfSome (told_if told m) IsSound → IfSome (told_if told (changed_by change m)) IsSound
told_changed change false m may sound = tt
told_changed change true m may sound = sound_changed change m may sound

-- each of a row of values is short
pub short-at : (f : ℕ → List ℕ) (from n k : ℕ) → IsTrue (list_all is_short (map f (range_with_len from n))) → from ≤ k → k < from + n → length (f k) ≤ 16384
short-at f from zero k all le lt = absurd (omega arith)
short-at f from (suc n) k all le lt =
    let parts = and_parts (is_short (f from)) (list_all is_short (map f (range_with_len (from + 1) n))) all in
    elim (cases_eq k from) [
      | inl here ↦ let first = parts.0 in rw here (grind (arith, nat_tests))
      | inr differs ↦ short-at f (from + 1) n k parts.1 (omega arith) (omega arith)
    ]
