-- Devices keep their size under every answer.
use Rattle.std.specs.Prelude.{slice_get}
use Rattle.std.specs.List.{All}
use Rattle.std.proofs.Common.{◌≡◌, ℕ, ◌<◌, ◌≤◌, ◌+◌, ◌-◌, inl, inr, ⊎_elim, Option, List, ◌++◌, length, map, drop, Some, sym, ap, subst, ◌∙◌, arith}
use Rattle.std.proofs.lemmas.Bool.{cases_lt}
use Rattle.std.proofs.lemmas.List.Elements.{All-append, All-map}
use Rattle.std.proofs.lemmas.Option.{get_or_from_slice_get, slice_get_within}
use Rattle.piv_model.specs.declared.start.Start.{Start}
use Rattle.nvm_device.specs.Device.{DeviceState}
use Rattle.block_store.specs.Devices.{IsReady}
use Rattle.scene_cards.specs.CardValues.{CardValue}
use Rattle.cell_port.specs.OwnedLaws.{found}
use Rattle.scene_cells.specs.declared.fault.RunFault.{RunFault}
use Rattle.scene_cells.specs.Raised.{AreBack, IsBack, IsSpared}
use Rattle.scene_cells.proofs.Places.{place-in-drop}

abbrev pub HasRoom : DeviceState → Type 0
HasRoom device = 1114112 ≤ device.size

spared-size : (start : Start) (before now : DeviceState) → HasRoom before → IsSpared start before now → HasRoom now
spared-size start before now room (inl same) = subst HasRoom (sym same) room
spared-size start before now room (inr done) = subst (λ (n : ℕ). 1114112 ≤ n) (sym done.left.size) room

back-size : (fault : RunFault) (start : Start) (before now : DeviceState) → HasRoom before → IsBack fault start before now → HasRoom now
back-size fault start before now room (inl spared) = spared-size start before now room spared
back-size fault start before now room (inr faulted) = subst (λ (n : ℕ). 1114112 ≤ n) (sym faulted.1.size) room

pub all-from-places : {A : Type 0} (P : A → Type 0) (xs : List A) → ((k : ℕ) (x : A) → slice_get xs k ≡ Some x → P x) → All P xs
all-from-places P xs each = λ k d lt.
    let f = found xs k lt in
    subst P (sym (get_or_from_slice_get xs k f.0 d f.1)) (each k f.0 f.1)

pub all-at : {A : Type 0} (P : A → Type 0) (xs : List A) (k : ℕ) (x : A) → All P xs → k < length xs → slice_get xs k ≡ Some x → P x
all-at P xs k x all lt at = subst P (get_or_from_slice_get xs k x x at) (all k x lt)

-- a place beyond the first n is as it was
beyond : {A : Type 0} (n : ℕ) (old new : List A) (k : ℕ) → drop n new ≡ drop n old → n ≤ k → slice_get new k ≡ slice_get old k
beyond {A} n old new k same le =
    let at : n + (k - n) ≡ k = omega (arith, le) in
    sym (ap (λ (i : ℕ). slice_get new i) at) ∙ sym (place-in-drop n new (k - n)) ∙ ap (λ (l : List A). slice_get l (k - n)) same
    ∙ place-in-drop n old (k - n) ∙ ap (λ (i : ℕ). slice_get old i) at

pub sizes-back : {N : Type 0} (state : N → DeviceState) (cards : List CardValue) (fault : RunFault) (old new : List N) → length cards ≤ length old
    → All (λ device. IsReady (state device)) old → AreBack state cards fault old new → All (λ device. 1114112 ≤ (state device).size) new
sizes-back {N} state cards fault old new enough ready back =
    all-from-places (λ (device : N). 1114112 ≤ (state device).size) new (λ k now at.
    let low : k < length new = slice_get_within new k now at in
    let same = back.stand.count in
    let before = found old k (omega (arith, low, same)) in
    let room = (all-at (λ (device : N). IsReady (state device)) old k before.0 ready (omega (arith, low, same)) before.1).size in
    ⊎_elim
    (λ lt. let card = found cards k lt in back-size fault card.0.start (state before.0) (state now) room (back.each k card.0 before.0 now card.1 before.1 at))
    (λ le. let is : now ≡ before.0 = one (beyond (length cards) old new k back.stand.others le) at before.1 in
    subst (λ (d : N). 1114112 ≤ (state d).size) (sym is) room)
    (cases_lt k (length cards)))
  where
    one : {A : Type 0} {a b : Option A} {x y : A} → a ≡ b → a ≡ Some x → b ≡ Some y → x ≡ y
    one same p q = cc

pub ready-sizes : {N : Type 0} (state : N → DeviceState) (devices : List N) → All (λ device. IsReady (state device)) devices
    → All (λ device. 1114112 ≤ (state device).size) devices
ready-sizes state devices all = λ k d lt. (all k d lt).size

pub sizes-front : {N C : Type 0} (state : N → DeviceState) (device : C → N) (cells : List C) (old new : List N) → new ≡ map device cells ++ old
    → All (λ cell. 1114112 ≤ (state (device cell)).size) cells → All (λ d. 1114112 ≤ (state d).size) old → All (λ d. 1114112 ≤ (state d).size) new
sizes-front {N} {C} state device cells old new is front back =
    subst (λ (l : List N). All (λ d. 1114112 ≤ (state d).size) l) (sym is)
    (All-append (λ (d : N). 1114112 ≤ (state d).size) (map device cells) old (All-map (λ (d : N). 1114112 ≤ (state d).size) device cells front) back)
