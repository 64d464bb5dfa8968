-- A device that lost a write is none that never loses one.
use Rattle.std.proofs.Common.{◌≡◌, ℕ, true, List, [], ◌∷◌, length, Some, None, IfSome, refl, ap, sym, ◌∙◌, arith}
use Rattle.std.specs.declared.option.Option.{Option}
use Rattle.std.specs.Option.{option_map}
use Rattle.power_loss.specs.Due.{is_due, due_after}
use Rattle.power_loss.specs.Power.{Power, RisesWithin, LostIn, power_after}
use Rattle.nvm_device.specs.declared.loss.How.{How}
use Rattle.nvm_device.specs.Device.{DeviceState, written}
use Rattle.nvm_device.specs.UnderPlan.{NeverLoses, LeavesAsPlanned}

-- one of the next writes is due, so there is a number
some-due : (span : ℕ) (told : Option (List ℕ)) → RisesWithin span told → IfSome told (λ due. is_due 1 due ≡ true)
    → option_map (due_after 1) told ≡ Some [] → span ≡ 0 → ⊥
some-due span None rises now after none = cc
some-due span (Some []) rises now after none = cc
some-due span (Some (d ∷ later)) rises now after none = let fits = rises.1 in omega arith

pub lost-itself : (Left : Type 0) (s t : Power) → LostIn 1 Left s t → RisesWithin s.span s.due
    → IfSome s.due (λ due. is_due 1 due ≡ true) → NeverLoses t → ⊥
lost-itself Left s t lost rises now never =
    some-due s.span s.due rises now (sym (ap (λ (p : Power). p.due) lost.power) ∙ never.due) (sym (ap (λ (p : Power). p.span) lost.power) ∙ never.span)

-- no write that was made brings it about
no-number : (span n : ℕ) (told : Option (List ℕ)) → RisesWithin span told → option_map (due_after n) told ≡ Some [] → span ≡ 0 → told ≡ Some []
no-number span n None rises after none = absurd (cc)
no-number span n (Some []) rises after none = refl
no-number span n (Some (d ∷ later)) rises after none = absurd (let fits = rises.1 in omega arith)

pub never-before : (place : ℕ) (bytes : List ℕ) (s t : DeviceState) → t ≡ written 1 place bytes s → RisesWithin s.power.span s.power.due
    → NeverLoses t.power → NeverLoses s.power
never-before place bytes s t is rises never =
    let span : s.power.span ≡ 0 = sym (ap (λ (v : DeviceState). v.power.span) is) ∙ never.span in
    record { due = no-number s.power.span 1 s.power.due rises (sym (ap (λ (v : DeviceState). v.power.due) is) ∙ never.due) span; span = span }

pub never-planned : (how : How) (place : ℕ) (bytes : List ℕ) (s t : DeviceState) → LeavesAsPlanned how place bytes s t → NeverLoses t.power → NeverLoses s.power
never-planned how place bytes s t leaves never =
    record { due = leaves.none_due.1 never.due; span = sym (ap (λ (p : Power). p.span) leaves.power) ∙ never.span }
