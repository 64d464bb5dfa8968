-- Calls of a store, one after the other.
use Rattle.std.proofs.Common.{◌≡◌, ◌⊎◌, inl, inr, ℕ, Bool, true, false, List, Option, Some, None, IfSome, refl, ap, sym, ◌∙◌, subst}
use Rattle.std.specs.Prelude.{◌↔◌, option_map}
use Rattle.power_loss.specs.Due.{is_due, due_after, after_loss}
use Rattle.power_loss.specs.Told.{Rose}
use Rattle.power_loss.specs.Power.{RisesWithin}
use Rattle.power_loss.proofs.PowerLaws.{due_later}
use Rattle.power_loss.proofs.DueLaws.{is_due-after, told_after-after, told_after-none}
use Rattle.piv_model.specs.declared.kinds.RefId.{RefId}
use Rattle.piv_model.specs.declared.kinds.RefId.TheVariants.{Pin, Puk, GlobalPin}
use Rattle.piv_model.specs.declared.kinds.Took.TheVariants.{Spent, Done}
use Rattle.piv_model.specs.Memory.{Memory, Reference}
use Rattle.piv_model.specs.Changes.{change_reference, one_less, full, renewed}
use Rattle.piv_model.specs.Stores.{StoreState, changed, CutShort}
use Rattle.piv_rules.specs.Asks.{Compare, Purpose, Verify, Change, Unblock}
use Rattle.piv_rules.specs.Effects.{after_match}
use Rattle.card_commands.specs.Carried.{LostBetween}

-- a change that changes nothing
map-same : (change : Memory → Memory) → ((m : Memory) → change m ≡ m) → (mem : Option Memory) → option_map change mem ≡ mem
map-same change same None = refl
map-same change same (Some m) = ap Some (same m)

-- no call was made
pub unchanged : (s : StoreState) (change : Memory → Memory) → ((m : Memory) → change m ≡ m)
    → RisesWithin s.power.span s.power.due → s ≡ changed 0 change s
unchanged s change same rises =
    let mem = sym (map-same change same s.mem) in
    let due = sym (told_after-none s.power.due s.power.span rises) in
    λ i. record { mem = mem i; power = record s.power { due = due i } }

-- a match makes no difference between a spent try and none
match-global : (f : Reference → Reference) → ((x : Reference) → f (one_less x) ≡ f x) → (g : Option Reference)
    → option_map f (option_map one_less g) ≡ option_map f g
match-global f same None = refl
match-global f same (Some x) = ap Some (same x)

match-spent : (r : RefId) (purpose : Purpose) (m : Memory) → after_match r purpose (change_reference r one_less m) ≡ after_match r purpose m
match-spent Pin Verify m = refl
match-spent Pin (Change n) m = refl
match-spent Pin (Unblock n) m = refl
match-spent Puk Verify m = refl
match-spent Puk (Change n) m = refl
match-spent Puk (Unblock n) m = refl
match-spent GlobalPin Verify m = ap (λ g. record m { global = g }) (match-global full (λ x. refl) m.global)
match-spent GlobalPin (Change n) m = ap (λ g. record m { global = g }) (match-global (renewed n) (λ x. refl) m.global)
match-spent GlobalPin (Unblock n) m =
    ap (λ g. record m { pin = renewed n m.pin; global = g }) (match-global full (λ x. refl) m.global)

map-match : (r : RefId) (purpose : Purpose) (mem : Option Memory)
    → option_map (after_match r purpose) (option_map (change_reference r one_less) mem) ≡ option_map (after_match r purpose) mem
map-match r purpose None = refl
map-match r purpose (Some m) = ap Some (match-spent r purpose m)

-- what an answer tells of the writes that were due
abbrev pub IsNoneDue : ℕ → Option (List ℕ) → Type 0
IsNoneDue n told = IfSome told (λ due. (false ≡ true) ↔ (is_due n due ≡ true))

abbrev pub IsOneDue : ℕ → Option (List ℕ) → Type 0
IsOneDue n told = IfSome told (λ due. (true ≡ true) ↔ (is_due n due ≡ true))

pub not_due : (n : ℕ) (told : Option (List ℕ)) → IsNoneDue n told → IfSome told (λ due. is_due n due ≡ false)
not_due n None h = tt
not_due n (Some due) h = go (is_due n due) h.1
  where
    go : (b : Bool) → (b ≡ true → false ≡ true) → b ≡ false
    go true f = sym (f refl)
    go false f = refl

one_due : (n : ℕ) (told : Option (List ℕ)) → IsOneDue n told → IfSome told (λ due. is_due n due ≡ true)
one_due n None h = tt
one_due n (Some due) h = h.0 refl

-- what was due in the second of two calls, told before the first
pub later_none : (change : Memory → Memory) (first second : StoreState) → second ≡ changed 2 change first
    → IsNoneDue 2 first.power.due → IsNoneDue 2 second.power.due → IfSome first.power.due (λ due. is_due 4 due ≡ false)
later_none change first second is none later =
    due_later 2 2 first.power second.power (ap (λ (s : StoreState). s.power) is) (not_due 2 first.power.due none) false
    (not_due 2 second.power.due later)

pub later_one : (change : Memory → Memory) (first second : StoreState) → second ≡ changed 2 change first
    → IsNoneDue 2 first.power.due → IsOneDue 2 second.power.due → IfSome first.power.due (λ due. is_due 4 due ≡ true)
later_one change first second is none later =
    due_later 2 2 first.power second.power (ap (λ (s : StoreState). s.power) is) (not_due 2 first.power.due none) true
    (one_due 2 second.power.due later)

-- a try was spent, and then the counter was filled
pub filled_after : (r : RefId) (purpose : Purpose) (first second third : StoreState)
    → second ≡ changed 2 (change_reference r one_less) first → IsNoneDue 2 first.power.due
    → third ≡ changed 2 (after_match r purpose) second
    → third ≡ changed 4 (after_match r purpose) first
filled_after r purpose first second third spent due filled =
    filled ∙ ap (changed 2 (after_match r purpose)) spent
    ∙ (λ i. record {
      mem = map-match r purpose first.mem i;
      power = record first.power { due = told_after-after 2 2 first.power.due (not_due 2 first.power.due due) i };
    })

-- the first loss came in the second of two calls
lost_second : (told : Option (List ℕ)) → IsNoneDue 2 told → IsOneDue 2 (option_map (due_after 2) told)
    → option_map (due_after 2) (option_map (due_after 2) told) ≡ option_map after_loss told
lost_second None ok lost = refl
lost_second (Some due) ok lost =
    let none = not_due 2 (Some due) ok in
    let now = lost.0 refl in
    let four : is_due 4 due ≡ true = sym (is_due-after 2 2 due none) ∙ now in
    told_after-after 2 2 (Some due) none ∙ ap Some (rw four refl)

-- a try was spent, and power was lost while the counter was filled
pub lost_after : (r : RefId) (p : List ℕ) (purpose : Purpose) (first second third : StoreState)
    → second ≡ changed 2 (change_reference r one_less) first → IsNoneDue 2 first.power.due
    → CutShort 2 (after_match r purpose) second third → IsOneDue 2 second.power.due
    → LostBetween Spent Done (Compare r p purpose) first third
lost_after r p purpose first second third spent due cut lost =
    let told = ap (λ (s : StoreState). s.power.due) spent in
    record {
      left = go cut.left;
      rose = subst (λ (s : StoreState). Rose s.power.losses third.power.losses) spent cut.rose;
      power = cut.power ∙ ap (λ (s : StoreState). record s.power {
        on = false;
        losses = third.power.losses;
        due = option_map (due_after 2) s.power.due;
      }) spent
          ∙ ap (λ (due : Option (List ℕ)). record first.power { on = false; losses = third.power.losses; due = due })
          (lost_second first.power.due due (subst (IsOneDue 2) told lost));
    }
  where
    go : (third.mem ≡ second.mem) ⊎ (third.mem ≡ option_map (after_match r purpose) second.mem)
        → (third.mem ≡ option_map (change_reference r one_less) first.mem) ⊎ (third.mem ≡ option_map (after_match r purpose) first.mem)
    go (inl old) = inl (old ∙ ap (λ (s : StoreState). s.mem) spent)
    go (inr new) = inr (new ∙ ap (λ (s : StoreState). option_map (after_match r purpose) s.mem) spent ∙ map-match r purpose first.mem)
