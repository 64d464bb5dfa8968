-- How many connections are open: as many as there are slots with one.
use Rattle.std.specs.Prelude.{◌==◌, ◌||◌, if◌then◌else◌, position, is_some, nat_lt}
use Rattle.std.specs.List.{position_or_len}
use Rattle.std.proofs.Common.{◌≡◌, ◌≤◌, ◌<◌, ◌+◌, ℕ, suc, Bool, true, false, List, [], ◌∷◌, Option, Some, None, refl, ap, sym, ◌∙◌, eq-eqb, arith, length, length-set, set}
use Rattle.std.proofs.lemmas.Bool.Decides.{nat_tests}
use Rattle.piv_model.specs.Base.{Base}
use Rattle.piv_rules.specs.Acts.{Records, entries}
use Rattle.piv_rules.specs.Connections.{is_open}
use Rattle.piv_rules.specs.Legal.{open_ones, is_full}
use Rattle.piv_rules.proofs.Legality.{IsLegal-runs}
use Rattle.card_laws.specs.NumberLaws.{is_listed, AreDistinct}
use Rattle.card_laws.specs.StandsFor.{Attached, attached_of, CardState, StandsFor}
use Rattle.card_laws.proofs.Counting.{open-listed}
use Rattle.card_app.specs.declared.slot.Connection.{Connection}
use Rattle.card_app.specs.declared.slot.Slot.{Slot}
use Rattle.card_app.specs.Held.{taken_in, weight}
use Rattle.card_app.specs.Kept.{is_numbered, is_at, attached_in, is_among, AreApart, is_free}
use Rattle.card_app.proofs.HeldLaws.{among-some, taken-more, taken-bound}
use Rattle.card_app.proofs.SlotLaws.{IsFree}

-- the numbers of the connections
abbrev with_number : Option Connection → List ℕ → List ℕ
with_number None cs = cs
with_number (Some x) cs = x.c ∷ cs

abbrev numbers_in : List Slot → List ℕ
numbers_in [] = []
numbers_in (s ∷ ss) = with_number s.connection (numbers_in ss)

numbers-length : (ss : List Slot) → length (numbers_in ss) ≡ taken_in ss
numbers-length [] = refl
numbers-length (s ∷ ss) = go s.connection (numbers-length ss)
  where
    go : (o : Option Connection) → length (numbers_in ss) ≡ taken_in ss → length (with_number o (numbers_in ss)) ≡ weight o + taken_in ss
    go None h = omega arith
    go (Some x) h = omega arith

numbers-listed : (ss : List Slot) (c : ℕ) → is_listed (numbers_in ss) c ≡ is_among ss c
numbers-listed [] c = refl
numbers-listed (s ∷ ss) c = go s.connection (numbers-listed ss c)
  where
    go : (o : Option Connection) → is_listed (numbers_in ss) c ≡ is_among ss c
        → is_listed (with_number o (numbers_in ss)) c ≡ (is_numbered c o || is_among ss c)
    go None h = h
    go (Some x) h = ap (λ b. (x.c == c) || b) h

numbers-distinct : (ss : List Slot) → AreApart ss → AreDistinct (numbers_in ss)
numbers-distinct [] apart = tt
numbers-distinct (s ∷ ss) apart = go s.connection refl (numbers-distinct ss apart.1)
  where
    go : (o : Option Connection) → s.connection ≡ o → AreDistinct (numbers_in ss) → AreDistinct (with_number o (numbers_in ss))
    go None e h = h
    go (Some x) e h =
        let at : is_at s x.c ≡ true = ap (is_numbered x.c) e ∙ eq-eqb x.c x.c refl in
        (numbers-listed ss x.c ∙ apart.0 x.c at, h)

open-taken : (B : Base) (R : Records) (card : CardState) (ss : List Slot) → AreApart ss → StandsFor B R card (attached_in ss)
    → length (open_ones (entries R)) ≡ taken_in ss
open-taken B R card ss apart stands =
    open-listed B (entries R) (numbers_in ss) (IsLegal-runs B R stands.runs) (numbers-distinct ss apart)
    (λ c. opened c ∙ among-some ss c ∙ sym (numbers-listed ss c)) ∙ numbers-length ss
  where
    some : (b : Bool) (x : Attached) → b ≡ is_some (if b then Some x else None)
    some true x = refl
    some false x = refl

    opened : (c : ℕ) → is_open (entries R) c ≡ is_some (attached_in ss c)
    opened c = some (is_open (entries R) c) (attached_of B R c) ∙ sym (ap (λ (o : Option Attached). is_some o) (stands.connections c))

-- where no place is free all are taken
pub taken-all : (ss : List Slot) → position is_free ss ≡ None → taken_in ss ≡ length ss
taken-all ss h = walk ss (nowhere (nat_lt (position_or_len is_free ss) (length ss)) refl h)
  where
    nowhere : (b : Bool) → nat_lt (position_or_len is_free ss) (length ss) ≡ b
        → (if b then Some (position_or_len is_free ss) else None) ≡ None → length ss ≤ position_or_len is_free ss
    nowhere true e h = absurd (cc)
    nowhere false e h = grind (arith, nat_tests)

    walk : (ss : List Slot) → length ss ≤ position_or_len is_free ss → taken_in ss ≡ length ss
    walk [] h = refl
    walk (s ∷ ss) h = here (is_free s) refl h (walk ss)
      where
        one : (o : Option Connection) → is_free (record s { connection = o }) ≡ false → weight o ≡ 1
        one None e = absurd (cc)
        one (Some x) e = refl

        here : (b : Bool) → is_free s ≡ b → suc (length ss) ≤ position_or_len is_free (s ∷ ss)
            → (length ss ≤ position_or_len is_free ss → taken_in ss ≡ length ss) → weight s.connection + taken_in ss ≡ suc (length ss)
        here true e h ih = absurd (let k : suc (length ss) ≤ 0 = rw e at h in omega arith)
        here false e h ih =
            let k : suc (length ss) ≤ 1 + position_or_len is_free ss = rw e at h in
            let w : weight s.connection ≡ 1 = one s.connection e in
            let n = ih (omega arith) in
            omega arith

-- sixteen are open exactly where no slot is free
pub full-none : (B : Base) (R : Records) (card : CardState) (ss : List Slot) → AreApart ss → length ss ≡ 16 → StandsFor B R card (attached_in ss)
    → position is_free ss ≡ None → is_full (entries R) ≡ true
full-none B R card ss apart sixteen stands none =
    let n = open-taken B R card ss apart stands in
    let t = taken-all ss none in
    grind (arith, nat_tests)

pub full-free : (B : Base) (R : Records) (card : CardState) (ss : List Slot) (i c : ℕ) (t : Slot) → AreApart ss → length ss ≡ 16 → StandsFor B R card (attached_in ss)
    → IsFree ss i → is_at t c ≡ true → is_full (entries R) ≡ false
full-free B R card ss i c t apart sixteen stands free at =
    let n = open-taken B R card ss apart stands in
    let more = taken-more ss i c t free at in
    let most = taken-bound (set ss i t) in
    let l = length-set ss i t in
    let k : length (open_ones (entries R)) < 16 = omega arith in
    grind (arith, nat_tests)
