-- Decimal numbers without leading zeros.
use Rattle.std.proofs.Common.{◌≡◌, ◌<◌, ◌^◌, ℕ, zero, suc, Bool, true, false, ◌&&◌, List, [], ◌∷◌, length, get_or, Some, None, Result, Ok, Err, refl, sym, ap, arith, lit<}
use Rattle.std.specs.Prelude.{◌≢◌, nat_lt, MatchResult, if◌then◌else◌}
use Rattle.std.specs.Result.{OkIff}
use Rattle.std.specs.Str.{all_ascii_digits}
use Rattle.std.specs.Str.Parse.{digits_value, ParsesUnsigned}
use Rattle.std.specs.Fmt.{decimal}
use Rattle.std.proofs.lemmas.Bool.{and_parts, lt-ltb, ltb-true}
use Rattle.std.proofs.lemmas.Option.{cond_some}
use Rattle.std.proofs.lemmas.Bool.Decides.{nat_tests}
use Rattle.std.proofs.lemmas.Str.Parse.{IsNumeralModel, numerals_by_value, tells_all_ascii_digits, parse_plain}
use Rattle.std.proofs.lemmas.Fmt.{decimal-digits_value, digits_decimal, digits_value-decimal, first_decimal, decimal_digit}
use Rattle.line_words.specs.Words.{is_plain, number_word}

own : IsNumeralModel (λ ds. all_ascii_digits ds ≡ true) (digits_value 10)
own = numerals_by_value (λ ds. all_ascii_digits ds ≡ true) tells_all_ascii_digits

none-unless : (a b : Bool) (n : ℕ) → (a ≡ true → b ≡ true → ⊥) → (if a && b then Some n else None) ≡ None
none-unless true true n h = absurd (h refl refl)
none-unless true false n h = refl
none-unless false b n h = refl

no_plus : (w : List ℕ) → is_plain w ≡ true → get_or w 0 0 ≢ 43
no_plus [] h = cc
no_plus (b ∷ rest) h = λ e. grind (arith, nat_tests, h, e)

not_empty : (w : List ℕ) → is_plain w ≡ true → 0 < length w
not_empty [] h = cc
not_empty (b ∷ rest) h = omega arith

one_zero : (w : List ℕ) → is_plain w ≡ true → get_or w 0 0 ≡ 48 → length w ≡ 1
one_zero [] h e = cc
one_zero (b ∷ []) h e = refl
one_zero (b ∷ c ∷ rest) h e = grind (arith, nat_tests, h, e)

above_zero : (w : List ℕ) → 48 < get_or w 0 0 → is_plain w ≡ true
above_zero [] h = absurd (omega arith)
above_zero (b ∷ rest) h = grind (arith, nat_tests, h)

abbrev digits_fit : List ℕ → Type 0
digits_fit w = (all_ascii_digits w ≡ true) × (0 < length w) × (digits_value 10 w < 2 ^ 64)

by_result : {E : Type 0} (w : List ℕ) (r : Result ℕ E) → is_plain w ≡ true → OkIff r (digits_fit w) (digits_value 10 w)
    → MatchResult r (λ n. number_word w ≡ Some n) (λ _. number_word w ≡ None)
unfolding number_word
by_result w (Ok n) plain h = rw (plain, h.0.0, lt-ltb (digits_value 10 w) (2 ^ 64) h.0.2) (ap Some (sym h.1))
by_result w (Err e) plain h = rw plain (none-unless (all_ascii_digits w) (nat_lt (digits_value 10 w) (2 ^ 64)) (digits_value 10 w)
    (λ d l. h (d, not_empty w plain, ltb-true (digits_value 10 w) (2 ^ 64) l)))

-- what `parse` answers
pub number-parsed : {E : Type 0} (w : List ℕ) (r : Result ℕ E) → is_plain w ≡ true → ParsesUnsigned 64 10 w r
    → MatchResult r (λ n. number_word w ≡ Some n) (λ _. number_word w ≡ None)
number-parsed w r plain h = by_result w r plain (parse_plain own 64 w r h (no_plus w plain))

-- no number at a word that isn't plain
pub number-not_plain : (w : List ℕ) → is_plain w ≡ false → number_word w ≡ None
unfolding number_word
number-not_plain w h = rw h refl

-- a word that is a number is its spelling
pub number-spelled : (w : List ℕ) (n : ℕ) → number_word w ≡ Some n → (w ≡ decimal n) × (n < 2 ^ 64)
unfolding number_word
number-spelled w n h =
    let chosen = cond_some (is_plain w && all_ascii_digits w && nat_lt (digits_value 10 w) (2 ^ 64)) (digits_value 10 w) n h in
    let parts = and_parts (is_plain w && all_ascii_digits w) (nat_lt (digits_value 10 w) (2 ^ 64)) chosen.0 in
    let more = and_parts (is_plain w) (all_ascii_digits w) parts.0 in
    let small : digits_value 10 w < 2 ^ 64 = ltb-true (digits_value 10 w) (2 ^ 64) parts.1 in
    let same : decimal (digits_value 10 w) ≡ w = decimal-digits_value own w more.1 (not_empty w more.0) (one_zero w more.0) small in
    rw (← chosen.1) (sym same, small)

plain_decimal : (n : ℕ) → n < 2 ^ 64 → is_plain (decimal n) ≡ true
plain_decimal zero h = rw (decimal_digit 0 (lit< tt)) refl
plain_decimal (suc n) h = above_zero (decimal (suc n)) (first_decimal (suc n) (omega arith) h)

pub number-again : (n : ℕ) → n < 2 ^ 64 → number_word (decimal n) ≡ Some n
unfolding number_word
number-again n h =
    let value : digits_value 10 (decimal n) ≡ n = digits_value-decimal own n h in
    rw (plain_decimal n h, digits_decimal own n h, value, lt-ltb n (2 ^ 64) h) refl
