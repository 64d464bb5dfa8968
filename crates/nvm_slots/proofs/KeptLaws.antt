-- What follows of the rows follows of the devices.
use Rattle.std.proofs.Common.{ℕ, List, IfSome}
use Rattle.power_loss.proofs.EachLaws.{each_implies}
use Rattle.nvm_device.specs.Device.{DeviceState}
use Rattle.nvm_slots.specs.Slots.{Leaves, Kept, Cut}

pub leaves_implies : (P : List ℕ → Type 0) (R S : List ℕ → List ℕ → Type 0) → ((a b : List ℕ) → P a → R a b → S a b) → (old new : DeviceState) → IfSome old.bytes P → Leaves R old new → Leaves S old new
leaves_implies P R S implies old new p leaves = record { size = leaves.size; bytes = each_implies P R S implies old.bytes new.bytes p leaves.bytes }

pub kept_implies : (n : ℕ) (P : List ℕ → Type 0) (R S : List ℕ → List ℕ → Type 0) → ((a b : List ℕ) → P a → R a b → S a b) → (old new : DeviceState) → IfSome old.bytes P → Kept n R old new → Kept n S old new
kept_implies n P R S implies old new p kept = record { left = leaves_implies P R S implies old new p kept.left; power = kept.power }

pub cut_implies : (n : ℕ) (P : List ℕ → Type 0) (R S : List ℕ → List ℕ → Type 0) → ((a b : List ℕ) → P a → R a b → S a b) → (old new : DeviceState) → IfSome old.bytes P → Cut n R old new → Cut n S old new
cut_implies n P R S implies old new p cut = record { left = leaves_implies P R S implies old new p cut.left; rose = cut.rose; power = cut.power }
