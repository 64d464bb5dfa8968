-- Bytes of a pattern, one behind the other.
use Rattle.std.proofs.Common.{◌≡◌, ℕ, ◌+◌, ◌-◌, ◌<◌, ◌≤◌, ◌%◌, true, false, List, [], ◌∷◌, ◌++◌, length, get_or, replicate, Some, None, IfSome, refl, ap, sym, ◌∙◌, arith, length-append}
use Rattle.std.proofs.lemmas.List.{length-replicate}
use Rattle.std.proofs.lemmas.List.FromFn.{map-range_with_len_more, length-map-range_with_len}
use Rattle.std.specs.declared.option.Option.{Option}
use Rattle.std.specs.Option.{option_map}
use Rattle.power_loss.specs.Due.{is_due, due_after, after_writes}
use Rattle.power_loss.specs.Power.{Power, RisesWithin, power_after}
use Rattle.nvm_device.specs.Bytes.{bytes_at, overwrite}
use Rattle.nvm_device.specs.Device.{DeviceState, written, Torn}
use Rattle.nvm_device.specs.Losses.{repeated}
use Rattle.nvm_device.specs.UnderPlan.{LeavesAny, Tore}
use Rattle.nvm_device.proofs.OwnLosses.{lost-itself}
use Rattle.nvm_device.proofs.Row.{length-bytes_at, length-overwrite, overwrite_same, overwrite_none, overwrite_more, bytes_at-overwrite_above}

-- n bytes that may stand in a range
unfoldable pub part : Option (List ℕ) → ℕ → ℕ → List ℕ
part None place n = replicate n 0
part (Some row) place n = bytes_at row place n

pub length-part : (told : Option (List ℕ)) (place n size : ℕ) → place + n ≤ size → IfSome told (λ row. length row ≡ size) → length (part told place n) ≡ n
unfolding part
length-part None place n size within is = length-replicate n 0
length-part (Some row) place n size within is = length-bytes_at row place n (omega arith)

-- what stands there, written again
pub part_same : (told : Option (List ℕ)) (place n size : ℕ) → place + n ≤ size → IfSome told (λ row. length row ≡ size) → told ≡ option_map (λ row. overwrite row place (part told place n)) told
unfolding part
part_same None place n size within is = refl
part_same (Some row) place n size within is = ap Some (sym (overwrite_same row place n (omega arith)))

-- a write that was lost by nobody told of no loss then, if it does now
pub still_none : (told : Option (List ℕ)) → IfSome told (λ due. is_due 1 due ≡ false) → option_map (due_after 1) told ≡ Some [] → told ≡ Some []
still_none None kept none = cc
still_none (Some []) kept none = refl
still_none (Some (d ∷ later)) kept none = let some : Some ((d - 1) ∷ after_writes 1 later) ≡ Some [] = rw kept at none in cc

pub length-repeated : (pattern : List ℕ) (n : ℕ) → length (repeated pattern n) ≡ n
unfolding repeated
length-repeated pattern n = length-map-range_with_len (λ i. get_or pattern (i % length pattern) 0) 0 n

repeated_more : (pattern : List ℕ) (n : ℕ) → repeated pattern (n + 1) ≡ repeated pattern n ++ get_or pattern (n % length pattern) 0 ∷ []
unfolding repeated
repeated_more pattern n = map-range_with_len_more (λ i. get_or pattern (i % length pattern) 0) 0 n n (omega arith)

pub tore_none : (place : ℕ) (pattern : List ℕ) (s : DeviceState) → Tore place 0 pattern s s
unfolding repeated
tore_none place pattern s = record { size = refl; row = by_told s.bytes; power = refl; forth = λ none. none; back = λ none. none }
  where
    by_told : (told : Option (List ℕ)) → told ≡ option_map (λ row. overwrite row place []) told
    by_told None = refl
    by_told (Some row) = ap Some (sym (overwrite_none row place))

joined : (told : Option (List ℕ)) (place size at : ℕ) (a b ab : List ℕ) → at ≡ place + length a → at + length b ≤ size → IfSome told (λ row. length row ≡ size) → ab ≡ a ++ b
    → option_map (λ row. overwrite row at b) (option_map (λ row. overwrite row place a) told) ≡ option_map (λ row. overwrite row place ab) told
joined None place size at a b ab is within row_size both = refl
joined (Some row) place size at a b ab is within row_size both = ap Some (overwrite_more row place a b at is (omega arith) ∙ ap (overwrite row place) (sym both))

-- what stands behind it, written again
padded : (told : Option (List ℕ)) (place size : ℕ) (a : List ℕ) (at n : ℕ) → at ≡ place + length a → at + n ≤ size → IfSome told (λ row. length row ≡ size)
    → option_map (λ row. overwrite row place a) told ≡ option_map (λ row. overwrite row place (a ++ part told at n)) told
unfolding part
padded None place size a at n is within row_size = refl
padded (Some row) place size a at n is within row_size =
    let fits : place + length a ≤ length row = omega arith in
    let here : at + n ≤ length row = omega arith in
    let long = length-bytes_at row at n here in
    let wide = length-overwrite row place a fits in
    let kept = bytes_at-overwrite_above row place a at n (omega arith) here fits in
    ap Some (sym (ap (overwrite (overwrite row place a) at) (sym kept) ∙ overwrite_same (overwrite row place a) at n (omega arith)) ∙ overwrite_more row place a (bytes_at row at n) at is (omega arith))

module _ (place i : ℕ) (pattern : List ℕ) (s t : DeviceState) (tore : Tore place i pattern s t) (row_size : IfSome s.bytes (λ row. length row ≡ s.size)) where
  pub tore_more : (u : DeviceState) → u ≡ written 1 (place + i) (get_or pattern (i % length pattern) 0 ∷ []) t → place + (i + 1) ≤ s.size → IfSome t.power.due (λ due. is_due 1 due ≡ false) → Tore place (i + 1) pattern s u
  tore_more u is within kept =
      let bytes = ap (λ (v : DeviceState). v.bytes) is in
      let due = ap (λ (v : DeviceState). v.power.due) is in
      let one = get_or pattern (i % length pattern) 0 ∷ [] in
      let here : place + i ≡ place + length (repeated pattern i) = omega (arith, length-repeated pattern i) in
      record {
        size = ap (λ (v : DeviceState). v.size) is ∙ tore.size;
        row = bytes ∙ ap (option_map (λ row. overwrite row (place + i) one)) tore.row ∙ joined s.bytes place s.size (place + i) (repeated pattern i) one (repeated pattern (i + 1)) here (omega arith) row_size (repeated_more pattern i);
        power = ap (λ (v : DeviceState). v.power) is ∙ ap (λ (p : Power). power_after 1 p) tore.power ∙ (λ j. record s.power { due = sym due j });
        forth = λ none. due ∙ ap (option_map (due_after 1)) (tore.forth none);
        back = λ none. tore.back (still_none t.power.due kept (sym due ∙ none));
      }

  pub tore_itself : (n : ℕ) (u : DeviceState) → i < n → place + n ≤ s.size → Torn (place + i) 1 t u → IfSome t.power.due (λ due. is_due 1 due ≡ true) → RisesWithin t.power.span t.power.due → LeavesAny place n s u
  tore_itself n u below within lost now rises =
      let left = lost.left in
      let due = ap (λ (p : Power). p.due) lost.power in
      let front = repeated pattern i in
      let rest = part s.bytes (place + (i + 1)) (n - (i + 1)) in
      let here : place + i ≡ place + length front = omega (arith, length-repeated pattern i) in
      let rest_size = length-part s.bytes (place + (i + 1)) (n - (i + 1)) s.size (omega arith) row_size in
      record {
        lost = record {
          left = record {
            torn = (front ++ left.torn) ++ rest;
            same_size = omega (arith, length-append (front ++ left.torn) rest, length-append front left.torn, length-repeated pattern i, left.same_size, rest_size);
            size = left.size ∙ tore.size;
            bytes = left.bytes ∙ ap (option_map (λ row. overwrite row (place + i) left.torn)) tore.row ∙ joined s.bytes place s.size (place + i) front left.torn (front ++ left.torn) here (omega (arith, left.same_size)) row_size refl
                ∙ padded s.bytes place s.size (front ++ left.torn) (place + (i + 1)) (n - (i + 1)) (omega (arith, length-append front left.torn, length-repeated pattern i, left.same_size)) (omega arith) row_size;
          };
          rose = rw (← ap (λ (p : Power). p.losses) tore.power) lost.rose;
          power = lost.power ∙ ap (λ (p : Power). record p { on = false; losses = u.power.losses; due = option_map (due_after 1) t.power.due }) tore.power ∙ (λ j. record s.power { on = false; losses = u.power.losses; due = sym due j });
        };
        was_due = λ none. let told = tore.forth none in let both : false ≡ true = rw told at now in cc;
        loses = lost-itself _ t.power u.power lost rises now;
      }
