-- What a write makes of a device under a plan.
use Rattle.std.proofs.Common.{◌≡◌, ◌↔◌, ℕ, ◌+◌, ◌-◌, ◌^◌, ◌≤◌, min, Bool, true, false, List, [], ◌∷◌, length, Some, None, IfSome, refl, ap, sym, ◌∙◌, arith}
use Rattle.std.specs.declared.option.Option.{Option}
use Rattle.std.specs.Option.{option_map}
use Rattle.power_loss.specs.Due.{is_due, due_after}
use Rattle.power_loss.specs.Told.{Rose}
use Rattle.power_loss.specs.Power.{Power}
use Rattle.nvm_device.specs.declared.loss.How.{How}
use Rattle.nvm_device.specs.declared.loss.How.TheVariants.{Before, Torn as TornBy, After}
use Rattle.nvm_device.specs.Bytes.{bytes_at, overwrite}
use Rattle.nvm_device.specs.Device.{DeviceState, written, Torn}
use Rattle.power_loss.specs.Plans.{PlanState, write_numbers, planned_in, plan_after}
use Rattle.power_loss.proofs.PlanLaws.{numbers_after, length_planned, length_kept}
use Rattle.nvm_device.specs.Losses.{left_by}
use Rattle.nvm_device.specs.UnderPlan.{due_under, under_plan, LeavesAsPlanned, LeavesAny}
use Rattle.nvm_device.proofs.Tearing.{part, length-part, length-repeated, still_none}

not_told : (due : List ℕ) (told : Option (List ℕ)) → (told ≡ Some [] → ⊥) → due_under false due told ≡ None
not_told due None none = refl
not_told due (Some []) none = absurd (none refl)
not_told due (Some (first ∷ later)) none = refl

due_kept : (spoiled : Bool) (due after : List ℕ) (told now : Option (List ℕ)) → after ≡ due_after 1 due → ((told ≡ Some []) ↔ (now ≡ Some [])) → due_under spoiled after now ≡ option_map (due_after 1) (due_under spoiled due told)
due_kept true due after told now is same = refl
due_kept false due after None now is same = not_told after now (λ none. let some : None ≡ Some [] = same.1 none in cc)
due_kept false due after (Some (first ∷ later)) now is same = not_told after now (λ none. let some : Some (first ∷ later) ≡ Some [] = same.1 none in cc)
due_kept false due after (Some []) now is same = rw (same.0 refl) (ap Some is)

due_lost : (spoiled : Bool) (due : List ℕ) (told : Option (List ℕ)) → (told ≡ Some [] → ⊥) → None ≡ option_map (due_after 1) (due_under spoiled due told)
due_lost true due told none = refl
due_lost false due told none = ap (option_map (due_after 1)) (sym (not_told due told none))

torn_of : How → Option (List ℕ) → ℕ → List ℕ → List ℕ
torn_of how told place bytes = left_by how (part told place (length bytes)) bytes

length-torn_of : (how : How) (told : Option (List ℕ)) (place : ℕ) (bytes : List ℕ) (size : ℕ) → place + length bytes ≤ size → IfSome told (λ row. length row ≡ size) → length (torn_of how told place bytes) ≡ length bytes
unfolding torn_of
length-torn_of Before told place bytes size within row_size = length-part told place (length bytes) size within row_size
length-torn_of (TornBy pattern) told place bytes size within row_size = length-repeated pattern (length bytes)
length-torn_of After told place bytes size within row_size = refl

row_of : (how : How) (told : Option (List ℕ)) (place : ℕ) (bytes : List ℕ) → option_map (λ row. overwrite row place (left_by how (bytes_at row place (length bytes)) bytes)) told ≡ option_map (λ row. overwrite row place (torn_of how told place bytes)) told
unfolding torn_of part
row_of how None place bytes = refl
row_of how (Some row) place bytes = refl

same_power : (a b : Power) → a.on ≡ b.on → a.losses ≡ b.losses → a.span ≡ b.span → a.due ≡ b.due → a ≡ b
same_power a b on losses span due = λ j. record { on = on j; losses = losses j; span = span j; due = due j }

same_state : (a b : DeviceState) → a.size ≡ b.size → a.bytes ≡ b.bytes → a.power ≡ b.power → a ≡ b
same_state a b size bytes power = λ j. record { size = size j; bytes = bytes j; power = power j }

rose_planned : (a b span n m : ℕ) → a ≤ b → n ≤ span → n ≡ m + 1 → Rose (min (a + (span - n)) (2 ^ 64 - 1)) (min (b + (span - m)) (2 ^ 64 - 1))
rose_planned a b span n m le within more = (omega arith, omega arith)

module _ (plan now : PlanState How) (spoiled : Bool) (s t : DeviceState) (place : ℕ) (bytes : List ℕ) (is : now ≡ plan_after 1 plan) (within : length plan.to_come ≤ plan.span) where
  span_same : now.span ≡ plan.span
  span_same = ap (λ (p : PlanState How). p.span) is

  due_now : write_numbers now.to_come ≡ due_after 1 (write_numbers plan.to_come)
  due_now = ap (λ (p : PlanState How). write_numbers p.to_come) is ∙ numbers_after 1 plan.to_come

  one_less : (how : How) → planned_in 1 plan.to_come ≡ Some how → length plan.to_come ≡ length now.to_come + 1
  one_less how planned = rw is (length_planned 1 plan.to_come how planned)

  as_many : planned_in 1 plan.to_come ≡ None → now.span - length now.to_come ≡ plan.span - length plan.to_come
  as_many other = rw is (ap (λ n. plan.span - n) (length_kept 1 plan.to_come other))

  planned_rose : (how : How) → planned_in 1 plan.to_come ≡ Some how → s.power.losses ≤ t.power.losses → Rose (min (s.power.losses + (plan.span - length plan.to_come)) (2 ^ 64 - 1)) (min (t.power.losses + (now.span - length now.to_come)) (2 ^ 64 - 1))
  planned_rose how planned le = rw span_same (rose_planned s.power.losses t.power.losses plan.span (length plan.to_come) (length now.to_come) le within (one_less how planned))

  -- the plan's loss alone
  pub lost_as_planned : (how : How) → planned_in 1 plan.to_come ≡ Some how → LeavesAsPlanned how place bytes s t → place + length bytes ≤ s.size → IfSome s.bytes (λ row. length row ≡ s.size)
      → Torn place (length bytes) (under_plan plan record { state = s; spoiled = spoiled }) (under_plan now record { state = t; spoiled = spoiled })
  lost_as_planned how planned leaves fits row_size = record {
    left = record {
      torn = torn_of how s.bytes place bytes;
      same_size = length-torn_of how s.bytes place bytes s.size fits row_size;
      size = leaves.size;
      bytes = leaves.row ∙ row_of how s.bytes place bytes;
    };
    rose = planned_rose how planned (omega (arith, ap (λ (p : Power). p.losses) leaves.power));
    power = same_power _ _ (ap (λ (p : Power). p.on) leaves.power) refl span_same (due_kept spoiled (write_numbers plan.to_come) (write_numbers now.to_come) s.power.due t.power.due due_now leaves.none_due);
  }

  -- with one of the inner device too
  pub lost_both : (how : How) → planned_in 1 plan.to_come ≡ Some how → LeavesAny place (length bytes) s t → Torn place (length bytes) (under_plan plan record { state = s; spoiled = spoiled }) (under_plan now record { state = t; spoiled = true })
  lost_both how planned leaves = record {
    left = let left = leaves.lost.left in record { torn = left.torn; same_size = left.same_size; size = left.size; bytes = left.bytes };
    rose = planned_rose how planned leaves.lost.rose.0;
    power = same_power _ _ (ap (λ (p : Power). p.on) leaves.lost.power) refl span_same (due_lost spoiled (write_numbers plan.to_come) s.power.due leaves.was_due);
  }

  -- no loss
  pub not_lost : planned_in 1 plan.to_come ≡ None → t ≡ written 1 place bytes s → IfSome s.power.due (λ due. is_due 1 due ≡ false) → under_plan now record { state = t; spoiled = spoiled } ≡ written 1 place bytes (under_plan plan record { state = s; spoiled = spoiled })
  not_lost other written_is kept =
      let due = ap (λ (v : DeviceState). v.power.due) written_is in
      same_state _ _ (ap (λ (v : DeviceState). v.size) written_is) (ap (λ (v : DeviceState). v.bytes) written_is)
      (same_power _ _ (ap (λ (v : DeviceState). v.power.on) written_is) (λ j. min ((written_is j).power.losses + as_many other j) (2 ^ 64 - 1)) span_same
      (due_kept spoiled (write_numbers plan.to_come) (write_numbers now.to_come) s.power.due t.power.due due_now (λ none. due ∙ ap (option_map (due_after 1)) none, λ none. still_none s.power.due kept (sym due ∙ none))))
