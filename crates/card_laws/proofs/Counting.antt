-- How many connections are open.
use Rattle.std.specs.Prelude.{◌==◌, ◌||◌, nat_le, if◌then◌else◌}
use Rattle.std.proofs.Common.{◌≡◌, ◌≤◌, ◌<◌, ◌+◌, ℕ, zero, suc, Bool, true, false, List, [], ◌∷◌, refl, ap, sym, ◌∙◌, eq-eqb, eqb-true, subst, arith, length}
use Rattle.std.proofs.lemmas.Bool.Decides.{nat_tests}
use Rattle.piv_model.specs.Base.{Base}
use Rattle.piv_model.specs.Entries.{Past, Opened, Closed, Call, Part, Rest, Bad, Reset, Cut, Up, Note}
use Rattle.piv_rules.specs.Connections.{is_open, opens}
use Rattle.piv_rules.specs.Lookback.{some_entry}
use Rattle.piv_rules.specs.Legal.{IsLegal, open_among, opened_count}
use Rattle.card_laws.specs.NumberLaws.{OpenAreCounted, OpenAreAsListed, AreDistinct, is_listed}
use Rattle.card_laws.proofs.Numbers.{unused-above}

-- how many of the numbers 1 to n pass
pub upto : (ℕ → Bool) → ℕ → ℕ
upto p zero = 0
upto p (suc n) = if p (suc n) then suc (upto p n) else upto p n

pub upto-same : (p q : ℕ → Bool) → ((c : ℕ) → p c ≡ q c) → (n : ℕ) → upto p n ≡ upto q n
unfolding upto
upto-same p q same zero = refl
upto-same p q same (suc n) = λ j. if same (suc n) j then suc (upto-same p q same n j) else upto-same p q same n j

pub upto-none : (n : ℕ) → upto (λ c. false) n ≡ 0
unfolding upto
upto-none zero = refl
upto-none (suc n) = upto-none n

-- a number past the end adds nothing
pub upto-past : (p : ℕ → Bool) (d n : ℕ) → n < d → upto (λ c. (d == c) || p c) n ≡ upto p n
unfolding upto
upto-past p d zero above = refl
upto-past p d (suc n) above =
    let other : (d == suc n) ≡ false = grind (arith, nat_tests) in
    let ih = upto-past p d n (omega arith) in
    λ j. if (other j || p (suc n)) then suc (ih j) else ih j

-- one more number
pub upto-more : (p : ℕ → Bool) (d n : ℕ) → 1 ≤ d → d ≤ n → p d ≡ false → upto (λ c. (d == c) || p c) n ≡ suc (upto p n)
unfolding upto
upto-more p d zero low high new = absurd (omega arith)
upto-more p d (suc n) low high new = go (d == suc n) refl (upto-past p d n) (λ (h : d ≤ n). upto-more p d n low h new)
  where
    go : (b : Bool) → (d == suc n) ≡ b → (n < d → upto (λ c. (d == c) || p c) n ≡ upto p n)
        → (d ≤ n → upto (λ c. (d == c) || p c) n ≡ suc (upto p n))
        → (if ((d == suc n) || p (suc n)) then suc (upto (λ c. (d == c) || p c) n) else upto (λ c. (d == c) || p c) n)
        ≡ suc (if p (suc n) then suc (upto p n) else upto p n)
    go true e past more =
        let is : d ≡ suc n = eqb-true d (suc n) e in
        let free : p (suc n) ≡ false = subst (λ (k : ℕ). p k ≡ false) is new in
        let same = past (omega arith) in
        (λ j. if (e j || p (suc n)) then suc (same j) else same j) ∙ sym (λ j. suc (if free j then suc (upto p n) else upto p n))
    go false e past more =
        let below : d ≤ n = let apart : (d == suc n) ≡ false = e in grind (arith, nat_tests) in
        let ih = more below in
        (λ j. if (e j || p (suc n)) then suc (ih j) else ih j) ∙ by (p (suc n)) (upto p n)
      where
        by : (b : Bool) (k : ℕ) → (if b then suc (suc k) else suc k) ≡ suc (if b then suc k else k)
        by true k = refl
        by false k = refl

-- ---- the history

pub open-upto : (H : Past) (n : ℕ) → length (open_among H n) ≡ upto (is_open H) n
unfolding upto
open-upto H zero = refl
open-upto H (suc n) = go (is_open H (suc n)) (open-upto H n)
  where
    go : (b : Bool) → length (open_among H n) ≡ upto (is_open H) n
        → length (if b then suc n ∷ open_among H n else open_among H n) ≡ (if b then suc (upto (is_open H) n) else upto (is_open H) n)
    go true ih = ap suc ih
    go false ih = ih

-- numbers begin with 1
opens-zero : (B : Base) (H : Past) → IsLegal B H → some_entry (opens 0) H ≡ false
opens-zero B [] legal = refl
opens-zero B (Opened d i shared ∷ H) legal =
    let n : d ≡ opened_count H + 1 = legal.1.1 in
    let e : (d == 0) ≡ false = grind (arith, nat_tests) in
    (λ j. if e j then true else some_entry (opens 0) H) ∙ opens-zero B H legal.0
opens-zero B (Closed d ∷ H) legal = opens-zero B H legal.0
opens-zero B (Call d k word block ∷ H) legal = opens-zero B H legal.0
opens-zero B (Part d ∷ H) legal = opens-zero B H legal.0
opens-zero B (Rest d ∷ H) legal = opens-zero B H legal.0
opens-zero B (Bad d word ∷ H) legal = opens-zero B H legal.0
opens-zero B (Reset i ∷ H) legal = opens-zero B H legal.0
opens-zero B (Cut r ∷ H) legal = opens-zero B H legal.0
opens-zero B (Up t ∷ H) legal = opens-zero B H legal.0
opens-zero B (Note a w ∷ H) legal = opens-zero B H legal.0

pub open-within : OpenAreCounted
open-within B H c legal opened = (low c opened, high (nat_le c (opened_count H)) refl)
  where
    low : (c : ℕ) → is_open H c ≡ true → 1 ≤ c
    low zero h = absurd (let e : is_open H 0 ≡ false = rw (opens-zero B H legal) refl in let f : true ≡ false = sym h ∙ e in cc)
    low (suc c) h = omega arith

    high : (b : Bool) → nat_le c (opened_count H) ≡ b → c ≤ opened_count H
    high true e = grind (arith, nat_tests)
    high false e =
        let above : opened_count H < c = grind (arith, nat_tests) in
        let unused = unused-above B H c legal above in
        absurd (let e : is_open H c ≡ false = rw unused.0 refl in let f : true ≡ false = sym opened ∙ e in cc)

-- ---- a list of numbers

or-true : (a b : Bool) → b ≡ true → (a || b) ≡ true
or-true true b h = refl
or-true false b h = h

abbrev AreWithin : ℕ → List ℕ → Type 0
AreWithin n cs = (c : ℕ) → is_listed cs c ≡ true → (1 ≤ c) × (c ≤ n)

listed-upto : (n : ℕ) (cs : List ℕ) → AreDistinct cs → AreWithin n cs → upto (is_listed cs) n ≡ length cs
listed-upto n [] apart within = upto-none n
listed-upto n (d ∷ cs) apart within =
    let w = within d (λ j. (eq-eqb d d refl) j || is_listed cs d) in
    upto-more (is_listed cs) d n w.0 w.1 apart.0
    ∙ ap suc (listed-upto n cs apart.1 (λ c h. within c (or-true (d == c) (is_listed cs c) h)))

pub open-listed : OpenAreAsListed
open-listed B H cs legal apart same =
    open-upto H (opened_count H) ∙ upto-same (is_open H) (is_listed cs) same (opened_count H)
    ∙ listed-upto (opened_count H) cs apart (λ c listed. open-within B H c legal (same c ∙ listed))

pub ruleset counting_laws = (open-within, open-listed)
