-- Dashes in an output, and what a loss of power leaves of a store.
use Rattle.std.specs.Prelude.{◌==◌, ◌||◌, ◌/◌, ◌%◌, not, slice_index}
use Rattle.std.proofs.Common.{◌≡◌, ℕ, suc, zero, Bool, true, false, List, [], ◌∷◌, ◌++◌, refl, ap, sym, ◌∙◌, subst}
use Rattle.std.proofs.lemmas.List.Folds.{list_any-append}
use Rattle.hex.specs.Hex.{encode_with, encode_upper, upper_digits}
use Rattle.power_loss.specs.Told.{Rose}
use Rattle.piv_model.specs.Stores.{StoreState}
use Rattle.piv_cli.specs.Lines.{has_dash}
use Rattle.piv_cli.specs.Sessions.{LosesOnce}

-- ---- dashes

pub neither-first : (a b : Bool) → (a || b) ≡ false → a ≡ false
neither-first false b h = refl
neither-first true b h = absurd (cc)

pub neither-second : (a b : Bool) → (a || b) ≡ false → b ≡ false
neither-second false b h = h
neither-second true b h = absurd (cc)

digit-no-dash : (t : List ℕ) (i : ℕ) → has_dash t ≡ false → (slice_index t i == 45) ≡ false
digit-no-dash [] i none = refl
digit-no-dash (x ∷ t) zero none = neither-first (x == 45) (has_dash t) none
digit-no-dash (x ∷ t) (suc i) none = digit-no-dash t i (neither-second (x == 45) (has_dash t) none)

-- hexadecimal digits have none
pub encode-no-dash : (xs : List ℕ) → has_dash (encode_upper xs) ≡ false
unfolding encode_with
encode-no-dash [] = refl
encode-no-dash (x ∷ xs) =
    rw (digit-no-dash upper_digits (x / 16) refl, digit-no-dash upper_digits (x % 16) refl) (encode-no-dash xs)

pub dash-append : (xs ys : List ℕ) → has_dash (xs ++ ys) ≡ (has_dash xs || has_dash ys)
dash-append xs ys = list_any-append (λ b. b == 45) xs ys

or-none : (a : Bool) → (a || false) ≡ a
or-none true = refl
or-none false = refl

-- a line of the output without a dash
pub line-no-dash : (out line now : List ℕ) → now ≡ out ++ line → has_dash line ≡ false → has_dash now ≡ has_dash out
line-no-dash out line now is none = ap has_dash is ∙ dash-append out line ∙ ap (λ b. has_dash out || b) none ∙ or-none (has_dash out)

pub reply-no-dash : (bytes : List ℕ) → has_dash (encode_upper bytes ++ 10 ∷ []) ≡ false
reply-no-dash bytes = dash-append (encode_upper bytes) (10 ∷ []) ∙ ap (λ b. b || false) (encode-no-dash bytes)

or-all : (a : Bool) → (a || true) ≡ true
or-all true = refl
or-all false = refl

-- a line that is a dash
pub line-dash : (out now : List ℕ) → now ≡ out ++ 45 ∷ 10 ∷ [] → has_dash now ≡ true
line-dash out now is = ap has_dash is ∙ dash-append out (45 ∷ 10 ∷ []) ∙ or-all (has_dash out)

-- ---- losses

pub loses-none : (s : StoreState) → LosesOnce s s
loses-none s = record {
  kept = λ is_on. (is_on, refl);
  lost = λ is_on is_off. absurd (cc);
  off = λ is_off. refl;
}

pub loses-then : (a b c : StoreState) → LosesOnce a b → LosesOnce b c → LosesOnce a c
loses-then a b c first second = record {
  kept = λ is_on. let then = second.kept is_on in let before = first.kept then.0 in (before.0, then.1 ∙ before.1);
  lost = λ was_on is_off. by-middle b.power.on refl was_on is_off;
  off = λ was_off. second.off (ap (λ (s : StoreState). s.power.on) (first.off was_off) ∙ was_off) ∙ first.off was_off;
}
  where
    by-middle : (m : Bool) → b.power.on ≡ m → a.power.on ≡ true → c.power.on ≡ false → Rose a.power.losses c.power.losses
    by-middle true is was_on is_off =
        subst (λ n. Rose n c.power.losses) (first.kept is).1 (second.lost is is_off)
    by-middle false is was_on is_off =
        subst (λ (s : StoreState). Rose a.power.losses s.power.losses) (sym (second.off is)) (first.lost was_on is)

-- a reply was given exactly where the card has power afterwards
pub on-by : (mute on : Bool) → mute ≡ not on → on ≡ not mute
on-by true true h = absurd (cc)
on-by true false h = refl
on-by false true h = refl
on-by false false h = absurd (cc)
