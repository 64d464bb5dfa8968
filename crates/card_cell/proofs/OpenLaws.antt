-- The connections that a cell keeps, after one entry more.
use Rattle.std.specs.Prelude.{not, ◌&&◌, ◌||◌, ◌==◌, find, option_map, unwrap_or, count_by, IsSome, if◌then◌else◌}
use Rattle.std.proofs.Common.{◌≡◌, ◌≤◌, ◌+◌, ℕ, Bool, true, false, List, ◌∷◌, Option, Some, None, refl, ap, sym, ◌∙◌, subst, arith, eqb-true}
use Rattle.std.proofs.lemmas.List.Sums.{sum_by-cons}
use mathlib.Core.Bool.{cond}
use Rattle.piv_model.specs.declared.kinds.Interface.{Interface}
use Rattle.piv_model.specs.Entries.{CardEntry, Past, Opened, Closed}
use Rattle.piv_rules.specs.Connections.{side, is_exclusive, opens, closes}
use Rattle.piv_rules.specs.Legal.{is_opening, opened_count}
use Rattle.piv_rules.specs.Lookback.{some_entry}
use Rattle.card_cell.specs.declared.connections.Open.{Open}
use Rattle.card_cell.specs.declared.connections.Connections.{Connections}
use Rattle.card_cell.specs.Kept.{has_number, kept_in, kept_as, kept_of, are_below, without}
use Rattle.card_cell.specs.Opened.{open_in, opened_in, AreThoseOf}
use Rattle.card_cell.proofs.KeptLaws.{find-others, find-own}

-- one entry more in a count
pub count-step : (p : CardEntry → Bool) (e : CardEntry) (H : Past) → count_by p (e ∷ H) ≡ count_by p H + (if p e then 1 else 0)
count-step p e H = one (p e) (count_by p (e ∷ H)) (count_by p H) (sum_by-cons (λ x. cond (p x) 1 0) e H)
  where
    one : (b : Bool) (m n : ℕ) → m ≡ (if b then 1 else 0) + n → m ≡ n + (if b then 1 else 0)
    one true m n h = omega arith
    one false m n h = omega arith

pub nought : (n : ℕ) → n + 0 ≡ n
nought n = omega arith

-- ---- what is kept

twice : (b : Bool) → not (not b) ≡ b
twice true = refl
twice false = refl

and-false : (b : Bool) → (b && false) ≡ false
and-false true = refl
and-false false = refl

opened-kept : (H : Past) (o : Open) (os : List Open) → some_entry (closes o.c) H ≡ false → ((d : ℕ) → kept_in os d ≡ kept_of H d)
    → (d : ℕ) → kept_in (o ∷ os) d ≡ kept_of (Opened o.c o.interface o.shared ∷ H) d
opened-kept H o os unused kept d = go (o.c == d) refl
  where
    go : (b : Bool) → (o.c == d) ≡ b
        → option_map (λ (x : Open). (x.interface, x.shared)) (if b then Some o else find (has_number d) os)
        ≡ (if ((if b then true else some_entry (opens d) H) && not (some_entry (closes d) H))
        then kept_as (unwrap_or (if b then Some o.interface else None) (side H d)) (not (unwrap_or (if b then Some (not o.shared) else None) (is_exclusive H d)))
        else None)
    go true e =
        let shut : some_entry (closes d) H ≡ false = subst (λ (n : ℕ). some_entry (closes n) H ≡ false) (eqb-true o.c d e) unused in
        (λ j. if not (sym shut j) then kept_as o.interface (sym (twice o.shared) j) else None)
    go false e = kept d

closed-kept : (H : Past) (c n : ℕ) (os : List Open) → are_below n os ≡ true → ((d : ℕ) → kept_in os d ≡ kept_of H d)
    → (d : ℕ) → kept_in (without c os) d ≡ kept_of (Closed c ∷ H) d
closed-kept H c n os below kept d = go (c == d) refl
  where
    look : Option Open → Option (Interface × Bool)
    look o = option_map (λ (x : Open). (x.interface, x.shared)) o

    go : (b : Bool) → (c == d) ≡ b
        → kept_in (without c os) d
        ≡ (if (some_entry (opens d) H && not (if b then true else some_entry (closes d) H)) then kept_as (side H d) (not (is_exclusive H d)) else None)
    go true e =
        let own : find (has_number d) (without c os) ≡ None = subst (λ (m : ℕ). find (has_number m) (without c os) ≡ None) (eqb-true c d e) (find-own c n os below) in
        ap look own ∙ (λ j. if sym (and-false (some_entry (opens d) H)) j then kept_as (side H d) (not (is_exclusive H d)) else None)
    go false e = ap look (find-others c d os e) ∙ kept d

-- ---- the relation to a history

pub those-opened : (H : Past) (i : Interface) (shared : Bool) (old new : Connections) → AreThoseOf H old
    → some_entry (closes (opened_count H + 1)) H ≡ false
    → open_in new ≡ record { c = opened_in old + 1; interface = i; shared = shared } ∷ open_in old → opened_in new ≡ opened_in old + 1
    → AreThoseOf (Opened (opened_count H + 1) i shared ∷ H) new
those-opened H i shared old new those unused now opened =
    let n : opened_in old + 1 ≡ opened_count H + 1 = ap (λ k. k + 1) those.opened in
    let o : Open = record { c = opened_count H + 1; interface = i; shared = shared } in
    let is : open_in new ≡ o ∷ open_in old = now ∙ (λ j. record { c = n j; interface = i; shared = shared } ∷ open_in old) in
    record {
      opened = opened ∙ n ∙ sym (count-step is_opening (Opened (opened_count H + 1) i shared) H);
      kept = λ d. (λ j. kept_in (is j) d) ∙ opened-kept H (record { c = opened_count H + 1; interface = i; shared = shared }) (open_in old) unused those.kept d;
    }

pub those-closed : (H : Past) (c n : ℕ) (old new : Connections) → AreThoseOf H old → are_below n (open_in old) ≡ true
    → open_in new ≡ without c (open_in old) → opened_in new ≡ opened_in old → AreThoseOf (Closed c ∷ H) new
those-closed H c n old new those below now opened = record {
  opened = opened ∙ those.opened ∙ sym (count-step is_opening (Closed c) H ∙ nought (opened_count H));
  kept = λ d. (λ j. kept_in (now j) d) ∙ closed-kept H c n (open_in old) below those.kept d;
}

pub those-same : (H : Past) (e : CardEntry) (old new : Connections) → AreThoseOf H old → new ≡ old → is_opening e ≡ false
    → ((c : ℕ) → kept_of (e ∷ H) c ≡ kept_of H c) → AreThoseOf (e ∷ H) new
those-same H e old new those same shuts kept =
    subst (λ (k : Connections). AreThoseOf (e ∷ H) k) (sym same) (record {
      opened = those.opened ∙ sym (count-step is_opening e H ∙ (λ j. opened_count H + (if shuts j then 1 else 0)) ∙ nought (opened_count H));
      kept = λ c. those.kept c ∙ sym (kept c);
    })

-- ---- who is attached

pub unattached : (b : Bool) → (b ≡ true → ⊥) → b ≡ false
unattached false never = refl
unattached true never = absurd (never refl)

pub attached-with : (o : Open) (os : List Open) (old new : ℕ → Bool) → ((d : ℕ) → new d ≡ ((o.c == d) || old d))
    → ((d : ℕ) → IsSome (find (has_number d) os) → old d ≡ true) → (d : ℕ) → IsSome (find (has_number d) (o ∷ os)) → new d ≡ true
attached-with o os old new grows was d some = grows d ∙ go (o.c == d) some
  where
    go : (b : Bool) → IsSome (if b then Some o else find (has_number d) os) → (b || old d) ≡ true
    go true some = refl
    go false some = was d some

pub numbered-with : (c : ℕ) (old new : ℕ → Bool) → ((d : ℕ) → new d ≡ ((c == d) || old d))
    → ((d : ℕ) → old d ≡ true → d + 1 ≤ c) → (d : ℕ) → new d ≡ true → d ≤ c
numbered-with c old new grows low d h = go (c == d) refl (sym (grows d) ∙ h)
  where
    go : (b : Bool) → (c == d) ≡ b → (b || old d) ≡ true → d ≤ c
    go true e h = let n : c ≡ d = eqb-true c d e in omega arith
    go false e h = let l = low d h in omega arith

pub attached-without : (c n : ℕ) (os : List Open) (old new : ℕ → Bool) → are_below n os ≡ true → ((d : ℕ) → (c == d) ≡ false → new d ≡ old d)
    → ((d : ℕ) → IsSome (find (has_number d) os) → old d ≡ true) → (d : ℕ) → IsSome (find (has_number d) (without c os)) → new d ≡ true
attached-without c n os old new below same was d some = go (c == d) refl
  where
    go : (b : Bool) → (c == d) ≡ b → new d ≡ true
    go false e = same d e ∙ was d (subst (λ (o : Option Open). IsSome o) (find-others c d os e) some)
    go true e = absurd (let f : IsSome (find (has_number c) (without c os)) = subst (λ (m : ℕ). IsSome (find (has_number m) (without c os))) (sym (eqb-true c d e)) some in
        let t : IsSome {T = Open} None = subst (λ (o : Option Open). IsSome o) (find-own c n os below) f in cc)

pub numbered-without : (c m : ℕ) (old new : ℕ → Bool) → ((d : ℕ) → (c == d) ≡ false → new d ≡ old d)
    → ((d : ℕ) → old d ≡ true → d ≤ m) → old c ≡ true → (d : ℕ) → new d ≡ true → d ≤ m
numbered-without c m old new same low was d h = go (c == d) refl
  where
    go : (b : Bool) → (c == d) ≡ b → d ≤ m
    go true e = let n : c ≡ d = eqb-true c d e in let l = low c was in omega arith
    go false e = low d (sym (same d e) ∙ h)
