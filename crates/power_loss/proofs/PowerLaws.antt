-- The power over calls of several writes, one after the other.
use Rattle.std.proofs.Common.{◌≡◌, ℕ, ◌+◌, ◌≤◌, Bool, true, false, List, [], ◌∷◌, Some, None, IfSome, refl, ap, sym, ◌∙◌, subst, arith}
use Rattle.std.proofs.lemmas.Bool.Decides.{nat_tests}
use Rattle.std.specs.declared.option.Option.{Option}
use Rattle.std.specs.Option.{option_map}
use Rattle.power_loss.specs.Due.{is_due, due_after}
use Rattle.power_loss.specs.Told.{Rose}
use Rattle.power_loss.specs.Power.{Power, RisesWithin, power_after, LostIn}
use Rattle.power_loss.proofs.DueLaws.{is_due-after, told_after-after, told_after-lost, told_after-none}

-- whether one of the next n writes is due, where that is told
abbrev pub IsDueIn : ℕ → Bool → Power → Type 0
IsDueIn n b p = IfSome p.due (λ due. is_due n due ≡ b)

-- no write
pub power_after-none : (p : Power) → RisesWithin p.span p.due → power_after 0 p ≡ p
power_after-none p rises = ap (λ (due : Option (List ℕ)). record p { due = due }) (told_after-none p.due p.span rises)

pub none_due : (p : Power) → RisesWithin p.span p.due → IsDueIn 0 false p
none_due p rises = go p.due rises
  where
    go : (told : Option (List ℕ)) → RisesWithin p.span told → IfSome told (λ due. is_due 0 due ≡ false)
    go None rises = tt
    go (Some []) rises = refl
    go (Some (d ∷ later)) rises = let more = rises.0.0 in grind (arith, nat_tests)

-- one of n writes is due, so one of more
pub due_more : (n m : ℕ) (p : Power) → n ≤ m → IsDueIn n true p → IsDueIn m true p
due_more n m p le now = go p.due now
  where
    go : (told : Option (List ℕ)) → IfSome told (λ due. is_due n due ≡ true) → IfSome told (λ due. is_due m due ≡ true)
    go None now = tt
    go (Some []) now = now
    go (Some (d ∷ later)) now = grind (arith, nat_tests)

module _ (n m : ℕ) (s t : Power) (first : t ≡ power_after n s) (none : IsDueIn n false s) where
  due_both : option_map (due_after m) t.due ≡ option_map (due_after (n + m)) s.due
  due_both = ap (λ (p : Power). option_map (due_after m) p.due) first ∙ told_after-after n m s.due none

  pub power_after-after : power_after m t ≡ power_after (n + m) s
  power_after-after = λ i. record (first i) { due = due_both i }

  -- the first call lost none, and the second one did
  pub lost_later : (Left Now : Type 0) → (Left → Now) → (u : Power) → LostIn m Left t u → LostIn (n + m) Now s u
  lost_later Left Now implies u lost = record {
    left = implies lost.left;
    rose = subst (λ (p : Power). Rose p.losses u.losses) first lost.rose;
    power = lost.power ∙ (λ i. record (first i) { on = false; losses = u.losses; due = due_both i });
  }

  -- what is due in the second call, told before the first
  pub due_later : (b : Bool) → IsDueIn m b t → IsDueIn (n + m) b s
  due_later b now = go s.due none (subst (λ (p : Power). IsDueIn m b p) first now)
    where
      go : (told : Option (List ℕ)) → IfSome told (λ due. is_due n due ≡ false) → IfSome (option_map (due_after n) told) (λ due. is_due m due ≡ b) → IfSome told (λ due. is_due (n + m) due ≡ b)
      go None none now = tt
      go (Some due) none now = sym (is_due-after n m due none) ∙ now

-- the first of two calls was lost
pub lost_first : (n m : ℕ) (Left Now : Type 0) → (Left → Now) → (s t : Power) → IsDueIn n true s → LostIn n Left s t → LostIn (n + m) Now s t
lost_first n m Left Now implies s t now lost = record {
  left = implies lost.left;
  rose = lost.rose;
  power = lost.power ∙ (λ i. record s { on = false; losses = t.losses; due = told_after-lost n m s.due now i });
}

pub ruleset power_steps = (power_after-none, none_due, due_more, power_after-after, lost_later, due_later, lost_first)
