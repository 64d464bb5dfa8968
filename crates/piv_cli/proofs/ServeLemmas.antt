-- What a device holds that was personalised as the plain card and served an input.
use Rattle.std.specs.Prelude.{Option, IfSome, IfOk, Ok, Result, option_map, not}
use Rattle.std.proofs.Common.{◌≡◌, arith, ℕ, Bool, true, false, List, [], ◌∷◌, Some, None, refl, ap, sym, subst, ◌∙◌}
use Rattle.power_loss.specs.Told.{Each, Rose}
use Rattle.piv_model.specs.declared.start.Start.{Start}
use Rattle.piv_model.specs.Memory.{Memory}
use Rattle.piv_model.specs.PlainCard.{plain_base, plain_memory}
use Rattle.piv_model.specs.Starts.{memory_of_start}
use Rattle.piv_model.specs.Stores.{StoreState}
use Rattle.nvm_device.specs.Device.{DeviceState}
use Rattle.card_image.specs.Images.{IsImage, StandsOn, memory_of}
use Rattle.card_image.specs.Laying.{Done, Personal}
use Rattle.block_store.specs.Blocks.{block_form}
use Rattle.block_store.specs.Devices.{IsReady, Spells}
use Rattle.piv_cli.specs.Devices.{AreReady, first_of}
use Rattle.piv_cli.specs.Lines.{has_dash}
use Rattle.piv_cli.specs.Outputs.{Serves}
use Rattle.piv_cli.specs.Sessions.{LinesLeave, LosesOnce}
use Rattle.piv_cli.proofs.DashLaws.{on-by}

if-told : {A : Type 0} {P Q : A → Type 0} (told : Option A) → IfSome told P → ((x : A) → P x → Q x) → IfSome told Q
if-told None some then = tt
if-told (Some x) some then = then x some

personal : (start : Start) (before now : Option (List ℕ)) → memory_of_start start ≡ plain_memory
    → Each (Personal block_form false start) before now
    → IfSome before (λ row. option_map (memory_of block_form) now ≡ Some plain_memory)
personal start None None same left = tt
personal start None (Some new) same left = tt
personal start (Some old) None same left = absurd left
personal start (Some old) (Some new) same left = ap Some (left.memory ∙ same)

spells : (told : Option (List ℕ)) (m : Memory) → option_map (memory_of block_form) told ≡ Some m
    → IfSome told (λ row. IsImage block_form row) → IfSome told (λ row. IsImage block_form row × (memory_of block_form row ≡ m))
spells None m same image = tt
spells (Some row) m same image = (image, cc)

-- a store that has this memory is on a device that spells it
spelled-on : (device : DeviceState) (store : StoreState) (m : Memory) → StandsOn block_form device store → store.mem ≡ Some m → Spells m device
spelled-on device store m holds same = spells device.bytes m (sym (ap (λ s. s.mem) holds.state) ∙ same) holds.image

not-off : (a b : Bool) → a ≡ not b → a ≡ true → b ≡ false
not-off a true is h = absurd (cc)
not-off a false is h = refl

not-on : (a b : Bool) → a ≡ not b → a ≡ false → b ≡ true
not-on a true is h = refl
not-on a false is h = absurd (cc)

-- the store began with the plain card, and the device has what it was left with
pub serves : (start : Start) (before device after : DeviceState) (store left : StoreState) (input out : List ℕ)
    → before.power.on ≡ true → memory_of_start start ≡ plain_memory → Done (Personal block_form false start) before device
    → StandsOn block_form device store → LosesOnce store left → has_dash out ≡ not left.power.on
    → (store.mem ≡ Some plain_memory → LinesLeave plain_base input out store left)
    → StandsOn block_form after left → Serves input out before after
serves start before device after store left input out ready same done stands loses dash answered holds = record {
  dash = λ some. subst (λ n. Rose n after.power.losses) losses_before
      (subst (λ n. Rose store.power.losses n) (sym losses_after) (loses.lost on_before (not-off (has_dash out) left.power.on dash some)));
  no_dash = λ none. losses_after ∙ (loses.kept (not-on (has_dash out) left.power.on dash none)).1 ∙ losses_before;
  power = ap (λ s. s.power.on) (sym holds.state) ∙ on-by (has_dash out) left.power.on dash;
  is_served = if-told before.bytes known (λ row mem. let all = answered (ap (λ s. s.mem) stands.state ∙ mem) in record {
    records = all.records;
    lines = all.lines;
    left = record {
      powered = λ is_on. spelled-on after left _ holds (all.left.powered is_on);
      lost = λ is_off. let then = all.left.lost is_off in (then.0, then.1, spelled-on after left _ holds then.2);
    };
  });
  steady = if-told before.bytes known (λ row mem none.
      let all = answered (ap (λ s. s.mem) stands.state ∙ mem) in
      let steady = all.steady (record { on = on_before; due = ap (λ s. s.power.due) stands.state ∙ done.due none }) in
      dash ∙ ap not steady.on);
}
  where
    known : IfSome before.bytes (λ row. option_map (memory_of block_form) device.bytes ≡ Some plain_memory)
    known = personal start before.bytes device.bytes same done.left.bytes

    on_before : store.power.on ≡ true
    on_before = ap (λ s. s.power.on) stands.state ∙ ap (λ p. p.on) done.same ∙ ready

    losses_before : store.power.losses ≡ before.power.losses
    losses_before = ap (λ s. s.power.losses) stands.state ∙ ap (λ p. p.losses) done.same

    losses_after : after.power.losses ≡ left.power.losses
    losses_after = sym (ap (λ s. s.power.losses) holds.state)

-- the output that was answered
pub answered-in : {V E : Type 0} (P : V → Type 0) (r : Result V E) (v : V) → r ≡ Ok v → IfOk r P → P v
answered-in P r v is left = subst (λ r. IfOk r P) is left

-- device 0 is ready
pub first-ready : {N : Type 0} (state : N → DeviceState) (devices : List N) → AreReady state devices → IsReady (first_of state devices)
first-ready state [] ready = absurd (let few = ready.eight in omega arith)
first-ready state (device ∷ devices) ready = ready.each 0 device (omega arith)

-- what was read is what the source had
pub read-as : (left : Option (List ℕ)) (input seen : List ℕ) → IfSome left (λ bytes. input ≡ bytes) → seen ≡ input
    → IfSome left (λ bytes. bytes ≡ seen)
read-as None input seen read same = tt
read-as (Some bytes) input seen read same = sym (same ∙ read)
