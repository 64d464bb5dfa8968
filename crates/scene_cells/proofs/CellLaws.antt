-- What a new cell is to its card, by the device that it stands on.
use Rattle.std.specs.Prelude.{Option, option_map, is_some, min}
use Rattle.std.proofs.Common.{◌≡◌, ℕ, ◌≤◌, ◌<◌, ◌+◌, ◌-◌, ◌^◌, true, false, List, [], ◌∷◌, length, Some, None, IfSome, refl, ap, sym, ◌∙◌, subst, arith}
use Rattle.std.proofs.lemmas.List.{length-map}
use Rattle.power_loss.specs.declared.loss.Loss.{Loss}
use Rattle.power_loss.specs.Plans.{write_numbers, whole}
use Rattle.power_loss.specs.Power.{Power}
use Rattle.power_loss.specs.Told.{Each}
use Rattle.piv_model.specs.declared.start.Start.{Start}
use Rattle.piv_model.specs.declared.store.Store.{Ghosts}
use Rattle.piv_model.specs.Memory.{Memory}
use Rattle.piv_model.specs.Starts.{memory_of_start}
use Rattle.piv_model.specs.Stores.{StoreState}
use Rattle.nvm_device.specs.declared.loss.How.{How}
use Rattle.nvm_device.specs.Device.{DeviceState}
use Rattle.nvm_device.specs.UnderPlan.{due_under, under_plan, unspoiled}
use Rattle.card_image.specs.Images.{IsImage, StandsOn, memory_of}
use Rattle.card_image.specs.Laying.{Personal}
use Rattle.block_store.specs.Blocks.{block_form}
use Rattle.block_store.specs.Devices.{IsReady}
use Rattle.card_cell.specs.declared.base.CellBase.{CellBase}
use Rattle.card_cell.specs.declared.cell.CardCell.{CardCell}
use Rattle.card_cell.specs.Cells.{store_in, store_of}
use Rattle.card_cell.specs.Holds.{BeginsWith, IsHeld}
use Rattle.scene_cells.specs.Raised.{IsCellOf, IsPersonal, IsRaised, cell_base}

-- ---- a cell over a device under a plan

told-due : (nums : List ℕ) (told : Option (List ℕ)) (L : List ℕ) → L ≡ nums → IfSome (due_under false nums told) (λ due. due ≡ L)
told-due nums None L same = tt
told-due nums (Some []) L same = sym same
told-due nums (Some (first ∷ later)) L same = tt

told-memory : (told : Option (List ℕ)) (m : Memory) → IfSome told (λ row. memory_of block_form row ≡ m)
    → IfSome (option_map (memory_of block_form) told) (λ now. now ≡ m)
told-memory None m same = tt
told-memory (Some row) m same = same

told-row : (told : Option (List ℕ)) (mem : Option Memory) → mem ≡ option_map (memory_of block_form) told
    → IfSome told (λ row. mem ≡ Some (memory_of block_form row))
told-row None mem same = tt
told-row (Some row) mem same = same

no-more : (n own : ℕ) → own < 2 ^ 64 → min (own + (n - n)) (2 ^ 64 - 1) ≡ own
no-more n own few = omega arith

begins : (random : List ℕ) (plan : List (Loss How)) (turns : ℕ) (device under : DeviceState) (store : StoreState)
    → under ≡ under_plan (whole plan) (unspoiled device) → StandsOn block_form under store
    → (base : CellBase) → base.start.random ≡ random → base.turns ≡ turns → base.plan ≡ write_numbers plan
    → base.losses ≡ device.power.losses → base.losses < 2 ^ 64
    → IfSome device.bytes (λ row. memory_of block_form row ≡ memory_of_start base.start) → BeginsWith base random turns store
begins random plan turns device under store is stands base same_random same_turns same_plan same_losses few memory =
    let low : device.power.losses < 2 ^ 64 = subst (λ (n : ℕ). n < 2 ^ 64) same_losses few in
    record {
      memory = subst (λ (o : Option Memory). IfSome o (λ m. m ≡ memory_of_start base.start))
          (sym (ap (λ (s : StoreState). s.mem) stands.state ∙ ap (λ (s : DeviceState). option_map (memory_of block_form) s.bytes) is))
          (told-memory device.bytes (memory_of_start base.start) memory);
      random = same_random;
      turns = same_turns;
      due = subst (λ (o : Option (List ℕ)). IfSome o (λ due. due ≡ base.plan))
          (sym (ap (λ (s : StoreState). s.power.due) stands.state ∙ ap (λ (s : DeviceState). s.power.due) is))
          (told-due (write_numbers plan) device.power.due base.plan same_plan);
      span = ap (λ (s : StoreState). s.power.span) stands.state ∙ ap (λ (s : DeviceState). s.power.span) is
          ∙ sym (ap (λ (l : List ℕ). length l) same_plan ∙ length-map plan (λ (l : Loss How). l.write));
      losses = ap (λ (s : StoreState). s.power.losses) stands.state ∙ ap (λ (s : DeviceState). s.power.losses) is
          ∙ no-more (length plan) device.power.losses low ∙ sym same_losses;
    }

pub cell-of : {S T : Type 0} {meaning : Ghosts S T} (random : List ℕ) (plan : List (Loss How)) (turns : ℕ) (device under : DeviceState)
    (s : S) (cell : CardCell S T meaning)
    → under ≡ under_plan (whole plan) (unspoiled device) → StandsOn block_form under (meaning.state s)
    → store_of cell ≡ s → device.power.on ≡ true
    → ((base : CellBase) → BeginsWith base random turns (meaning.state s) → IsHeld block_form.put_cost cell base [])
    → IsCellOf random (write_numbers plan) turns device cell
cell-of {meaning = meaning} random plan turns device under s cell is stands kept on held =
    let same : store_in cell ≡ meaning.state s = ap meaning.state kept in
    record {
      on = ap (λ (s : StoreState). s.power.on) (same ∙ stands.state) ∙ ap (λ (s : DeviceState). s.power.on) is ∙ on;
      due = λ none. ap (λ (s : StoreState). s.power.due) (same ∙ stands.state) ∙ ap (λ (s : DeviceState). s.power.due) is
          ∙ ap (due_under false (write_numbers plan)) none;
      held = λ base same_random same_turns same_plan same_losses few memory.
          held base (begins random plan turns device under (meaning.state s) is stands base same_random same_turns same_plan same_losses few memory);
      told = told-row device.bytes (store_in cell).mem (ap (λ (s : StoreState). s.mem) (same ∙ stands.state)
          ∙ ap (λ (s : DeviceState). option_map (memory_of block_form) s.bytes) is);
    }

-- ---- a device that was personalised

personal-memory : (start : Start) (before now : Option (List ℕ)) → Each (Personal block_form false start) before now
    → IfSome now (λ row. memory_of block_form row ≡ memory_of_start start)
personal-memory start None None left = tt
personal-memory start (Some old) (Some row) left = left.memory
personal-memory start None (Some row) left = absurd left
personal-memory start (Some old) None left = absurd left

pub personal-image : (start : Start) (before now : Option (List ℕ)) → Each (Personal block_form false start) before now
    → IfSome now (λ row. IsImage block_form row)
personal-image start None None left = tt
personal-image start (Some old) (Some row) left = left.image
personal-image start None (Some row) left = absurd left
personal-image start (Some old) None left = absurd left

personal-told : (start : Start) (before now : Option (List ℕ)) (mem : Option Memory) → Each (Personal block_form false start) before now
    → IfSome now (λ row. mem ≡ Some (memory_of block_form row)) → IfSome before (λ row. is_some mem ≡ true)
personal-told start None None mem left told = tt
personal-told start (Some old) (Some row) mem left told = ap is_some told
personal-told start None (Some row) mem left told = absurd left
personal-told start (Some old) None mem left told = absurd left

if-told : {A : Type 0} {P Q : A → Type 0} (told : Option A) → IfSome told P → ((x : A) → P x → Q x) → IfSome told Q
if-told None some then = tt
if-told (Some x) some then = then x some

pub personal-ready : (start : Start) (before now : DeviceState) → IsReady before → IsPersonal start before now → IsReady now
personal-ready start before now ready done = record {
  on = ap (λ (p : Power). p.on) done.same ∙ ready.on;
  size = subst (λ (n : ℕ). 1114112 ≤ n) (sym done.left.size) ready.size;
}

pub raised : {S T : Type 0} {meaning : Ghosts S T} (start : Start) (plan : List (Loss How)) (turns lost : ℕ) (before now : DeviceState)
    (cell : CardCell S T meaning) → lost ≡ before.power.losses → lost < 2 ^ 64 → IsPersonal start before now
    → IsCellOf start.random (write_numbers plan) turns now cell → IsRaised start plan turns lost before cell
raised start plan turns lost before now cell same few done over =
    let kept : now.power.losses ≡ before.power.losses = ap (λ (p : Power). p.losses) done.same in
    let held : IsHeld block_form.put_cost cell (cell_base start plan turns lost) [] =
    over.held (cell_base start plan turns lost) refl refl refl (same ∙ sym kept) few (personal-memory start before.bytes now.bytes done.left.bytes) in
    record {
      count = same;
      on = over.on;
      due = λ none. over.due (done.due none);
      held = held;
      stands = if-told before.bytes (personal-told start before.bytes now.bytes (store_in cell).mem done.left.bytes over.told) (λ row told. held.stands told);
    }
