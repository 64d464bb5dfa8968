-- What a planned loss makes of the inner device.
use Rattle.std.proofs.Common.{◌≡◌, ℕ, ◌+◌, ◌≤◌, false, List, length, Some, None, IfSome, refl, ap, sym, ◌∙◌, arith}
use Rattle.std.specs.declared.option.Option.{Option}
use Rattle.std.specs.Option.{option_map}
use Rattle.power_loss.specs.Due.{is_due, due_after}
use Rattle.power_loss.specs.Power.{Power, switched_off}
use Rattle.nvm_device.specs.declared.loss.How.{How}
use Rattle.nvm_device.specs.Bytes.{bytes_at, overwrite}
use Rattle.nvm_device.specs.Device.{DeviceState, written}
use Rattle.nvm_device.specs.Losses.{repeated, left_by}
use Rattle.nvm_device.specs.UnderPlan.{left_at, LeavesAsPlanned, Tore}
use Rattle.nvm_device.proofs.Row.{overwrite_same}
use Rattle.nvm_device.proofs.Tearing.{still_none}

same_row : (told : Option (List ℕ)) (place n size : ℕ) → place + n ≤ size → IfSome told (λ row. length row ≡ size) → told ≡ option_map (λ row. overwrite row place (bytes_at row place n)) told
same_row None place n size within is = refl
same_row (Some row) place n size within is = ap Some (sym (overwrite_same row place n (omega arith)))

-- where these bytes are what the loss leaves
as_left : (how : How) (place : ℕ) (bytes : List ℕ) (left : List ℕ → List ℕ) (told : Option (List ℕ)) → ((was : List ℕ) → left_by how was bytes ≡ left was)
    → option_map (λ row. overwrite row place (left (bytes_at row place (length bytes)))) told ≡ option_map (left_at how place bytes) told
as_left how place bytes left None leaves = refl
as_left how place bytes left (Some row) leaves = ap Some (ap (overwrite row place) (sym (leaves (bytes_at row place (length bytes)))))

pub leaves_before : (how : How) (place : ℕ) (bytes : List ℕ) (s : DeviceState) → ((was : List ℕ) → left_by how was bytes ≡ was) → place + length bytes ≤ s.size → IfSome s.bytes (λ row. length row ≡ s.size) → LeavesAsPlanned how place bytes s (record s { power = switched_off s.power })
leaves_before how place bytes s leaves within row_size = record {
  size = refl;
  row = same_row s.bytes place (length bytes) s.size within row_size ∙ as_left how place bytes (λ was. was) s.bytes leaves;
  power = refl;
  none_due = (λ none. none, λ none. none);
}

pub leaves_torn : (how : How) (pattern : List ℕ) (place : ℕ) (bytes : List ℕ) (s t : DeviceState) → ((was : List ℕ) → left_by how was bytes ≡ repeated pattern (length bytes)) → Tore place (length bytes) pattern s t → LeavesAsPlanned how place bytes s (record t { power = switched_off t.power })
leaves_torn how pattern place bytes s t leaves tore = record {
  size = tore.size;
  row = tore.row ∙ as_left how place bytes (λ was. repeated pattern (length bytes)) s.bytes leaves;
  power = ap (λ (p : Power). switched_off p) tore.power;
  none_due = (tore.forth, tore.back);
}

pub leaves_after : (how : How) (place : ℕ) (bytes : List ℕ) (s t : DeviceState) → ((was : List ℕ) → left_by how was bytes ≡ bytes) → t ≡ written 1 place bytes s → IfSome s.power.due (λ due. is_due 1 due ≡ false) → LeavesAsPlanned how place bytes s (record t { power = switched_off t.power })
leaves_after how place bytes s t leaves is kept =
    let due = ap (λ (v : DeviceState). v.power.due) is in
    record {
      size = ap (λ (v : DeviceState). v.size) is;
      row = ap (λ (v : DeviceState). v.bytes) is ∙ as_left how place bytes (λ was. bytes) s.bytes leaves;
      power = ap (λ (v : DeviceState). switched_off v.power) is ∙ (λ j. record s.power { on = false; due = sym due j });
      none_due = (λ none. due ∙ ap (option_map (due_after 1)) none, λ none. still_none s.power.due kept (sym due ∙ none));
    }
