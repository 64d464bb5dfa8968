-- Calls on a device, one after the other.
use Rattle.std.proofs.Common.{◌≡◌, ℕ, ◌+◌, ◌≤◌, Bool, true, false, List, length, Some, None, IfSome, sym, ◌∙◌, subst, refl, arith}
use Rattle.std.specs.declared.option.Option.{Option}
use Rattle.power_loss.specs.Power.{RisesWithin}
use Rattle.power_loss.specs.Told.{Each}
use Rattle.power_loss.proofs.EachLaws.{each_self, each_changed, each_then}
use Rattle.power_loss.proofs.PowerLaws.{IsDueIn, power_after-none, power_after-after, lost_later, lost_first, due_later}
use Rattle.nvm_device.specs.Bytes.{overwrite}
use Rattle.nvm_device.specs.Device.{DeviceState, written, Torn}
use Rattle.nvm_slots.specs.Slots.{Leaves, Kept, Cut}
use Rattle.nvm_slots.proofs.KeptLaws.{leaves_implies}

leaves_then : (P : List ℕ → Type 0) (R Q S : List ℕ → List ℕ → Type 0) → ((a b c : List ℕ) → P a → R a b → Q b c → S a c)
    → (s t u : DeviceState) → IfSome s.bytes P → Leaves R s t → Leaves Q t u → Leaves S s u
leaves_then P R Q S implies s t u told first second = record {
  size = second.size ∙ first.size;
  bytes = each_then P R Q S implies s.bytes t.bytes u.bytes told first.bytes second.bytes;
}

-- no call
pub kept_none : (R : List ℕ → List ℕ → Type 0) (s : DeviceState) → IfSome s.bytes (λ row. R row row) → RisesWithin s.power.span s.power.due → Kept 0 R s s
kept_none R s self rises = record {
  left = record { size = refl; bytes = each_self R s.bytes self };
  power = sym (power_after-none s.power rises);
}

module _ (n m : ℕ) (P : List ℕ → Type 0) (R Q S : List ℕ → List ℕ → Type 0) (implies : (a b c : List ℕ) → P a → R a b → Q b c → S a c)
    (s t u : DeviceState) (told : IfSome s.bytes P) (first : Kept n R s t) (none : IsDueIn n false s.power) where
  pub kept_kept : Kept m Q t u → Kept (n + m) S s u
  kept_kept second = record {
    left = leaves_then P R Q S implies s t u told first.left second.left;
    power = second.power ∙ power_after-after n m s.power t.power first.power none;
  }

  pub kept_cut : Cut m Q t u → Cut (n + m) S s u
  kept_cut second = lost_later n m s.power t.power first.power none (Leaves Q t u) (Leaves S s u) (leaves_then P R Q S implies s t u told first.left) u.power second

-- the first of two calls was lost
pub cut_first : (n m : ℕ) (R S : List ℕ → List ℕ → Type 0) → ((a b : List ℕ) → R a b → S a b) → (s t : DeviceState) → IsDueIn n true s.power → Cut n R s t → Cut (n + m) S s t
cut_first n m R S implies s t now cut =
    lost_first n m (Leaves R s t) (Leaves S s t) (leaves_implies (λ row. Unit {0}) R S (λ a b any r. implies a b r) s t (any s.bytes)) s.power t.power now cut
  where
    any : (told : Option (List ℕ)) → IfSome told (λ row. Unit {0})
    any None = tt
    any (Some row) = tt

-- one write
pub kept_write : (place : ℕ) (bytes : List ℕ) (s t : DeviceState) → t ≡ written 1 place bytes s → Kept 1 (λ old new. new ≡ overwrite old place bytes) s t
kept_write place bytes s t is = subst (λ (t : DeviceState). Kept 1 (λ old new. new ≡ overwrite old place bytes) s t) (sym is) record {
  left = record { size = refl; bytes = each_changed (λ old new. new ≡ overwrite old place bytes) (λ row. overwrite row place bytes) (λ row. refl) s.bytes };
  power = refl;
}

-- a row in which any n bytes stand from a place on
pub record WroteAny (place n : ℕ) (old new : List ℕ) : Type 0 where
  pub torn : List ℕ
  pub size : length torn ≡ n
  pub is : new ≡ overwrite old place torn

-- one write that was lost
pub cut_write : (place n : ℕ) (s t : DeviceState) → Torn place n s t → Cut 1 (WroteAny place n) s t
cut_write place n s t lost = record {
  left = record {
    size = lost.left.size;
    bytes = subst (λ told. Each (WroteAny place n) s.bytes told) (sym lost.left.bytes)
        (each_changed (WroteAny place n) (λ row. overwrite row place lost.left.torn) (λ row. record { torn = lost.left.torn; size = lost.left.same_size; is = refl }) s.bytes);
  };
  rose = lost.rose;
  power = lost.power;
}

-- whether one of the next calls' writes is due, told before the first of them
pub due_next : (n m : ℕ) (b : Bool) (R : List ℕ → List ℕ → Type 0) (s t : DeviceState) → Kept n R s t → IsDueIn n false s.power → IsDueIn m b t.power → IsDueIn (n + m) b s.power
due_next n m b R s t kept none now = due_later n m s.power t.power kept.power none b now

-- a row that is told is as long as the device
pub rows_enough : (n size : ℕ) (told : Option (List ℕ)) → n ≤ size → IfSome told (λ row. length row ≡ size) → IfSome told (λ row. n ≤ length row)
rows_enough n size None le is = tt
rows_enough n size (Some row) le is = omega arith

pub ruleset call_steps = (kept_none, kept_kept, kept_cut, cut_first, kept_write, cut_write, due_next, rows_enough)
