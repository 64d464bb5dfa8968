-- The devices of the program: those that a command may use, and the others.
use Rattle.std.specs.List.{All}
use Rattle.std.proofs.Common.{◌≡◌, ◌≤◌, ◌+◌, ◌-◌, ℕ, List, drop, sym, ap, subst, ◌∙◌, arith}
use Rattle.std.proofs.lemmas.List.{drop-drop}
use Rattle.nvm_device.specs.Device.{DeviceState}
use Rattle.block_store.specs.Devices.{OthersStand}
use Rattle.piv_cli.specs.Devices.{AreReady}

-- each device has room for a card
pub ready-sizes : {N : Type 0} (state : N → DeviceState) (devices : List N) → AreReady state devices
    → All (λ device. 1114112 ≤ (state device).size) devices
ready-sizes state devices ready = λ i device within. (ready.each i device within).size

-- more of the first ones are left out
pub others-more : {N : Type 0} (n m : ℕ) (old new : List N) → n ≤ m → OthersStand n old new → OthersStand m old new
others-more {N} n m old new more stand = record {
  count = stand.count;
  others = let whole : n + (m - n) ≡ m = omega (arith, more) in
      subst (λ (k : ℕ). drop k new ≡ drop k old) whole
      (sym (drop-drop (m - n) n new) ∙ ap (drop (m - n)) stand.others ∙ drop-drop (m - n) n old);
}
