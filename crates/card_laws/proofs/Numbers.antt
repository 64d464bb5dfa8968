-- Numbers of connections that were never used, and what follows where no connection is open.
use Rattle.std.specs.Prelude.{◌==◌, cond}
use Rattle.std.proofs.Common.{◌≡◌, ◌+◌, ℕ, zero, suc, Bool, true, false, [], ◌∷◌, refl, subst, sym, ◌∙◌, arith}
use Rattle.std.proofs.lemmas.Bool.Decides.{nat_tests}
use Rattle.std.proofs.lemmas.List.Recursion.{is_count_by}
use Rattle.piv_model.specs.declared.kinds.Interface.{Interface}
use Rattle.piv_model.specs.Entries.{Past, Opened, Closed, Call, Part, Rest, Bad, Reset, Cut, Up, Note}
use Rattle.piv_rules.specs.Connections.{is_open}
use Rattle.piv_rules.specs.Legal.{opened_count, open_among, is_opening}
use Rattle.card_laws.specs.NumberLaws.{IsUnused, HigherAreUnused}

-- the same count, entry by entry
counted : Past → ℕ
counted [] = 0
counted (e ∷ H) = cond (is_opening e) (1 + counted H) (counted H)

counted-is : (H : Past) → counted H ≡ opened_count H
unfolding counted
counted-is H = is_count_by counted is_opening refl (λ e G. refl) H

pub opened_count-opened : (H : Past) (c : ℕ) (i : Interface) (shared : Bool) → opened_count (Opened c i shared ∷ H) ≡ opened_count H + 1
unfolding counted
opened_count-opened H c i shared =
    let h : counted H ≡ opened_count H = counted-is H in
    let k : counted (Opened c i shared ∷ H) ≡ opened_count (Opened c i shared ∷ H) = counted-is (Opened c i shared ∷ H) in
    sym k ∙ (let l : 1 + counted H ≡ opened_count H + 1 = omega arith in l)

-- an open connection has another number
closed-apart : (H : Past) (d c : ℕ) → is_open H d ≡ true → IsUnused H c → (d == c) ≡ false
closed-apart H d c opened unused = go (d == c) refl
  where
    never : is_open H c ≡ false
    never = rw unused.0 refl

    go : (b : Bool) → (d == c) ≡ b → (d == c) ≡ false
    go false is = is
    go true is =
        let same : d ≡ c = grind (arith, nat_tests) in
        let both : is_open H c ≡ true = subst (λ (n : ℕ). is_open H n ≡ true) same opened in
        absurd (let h : true ≡ false = sym both ∙ never in cc)

-- the numbers above those that were opened are unused
pub unused-above : HigherAreUnused
unused-above B [] c legal above = (refl, refl)
unused-above B (Opened d i shared ∷ H) c legal above =
    let more : opened_count (Opened d i shared ∷ H) ≡ opened_count H + 1 = opened_count-opened H d i shared in
    let number : d ≡ opened_count H + 1 = legal.1.1 in
    let before = unused-above B H c legal.0 (omega arith) in
    let apart : (d == c) ≡ false = grind (arith, nat_tests) in
    (rw apart before.0, before.1)
unused-above B (Closed d ∷ H) c legal above =
    let before = unused-above B H c legal.0 above in
    (before.0, rw (closed-apart H d c legal.1 before) before.1)
unused-above B (Call d k word block ∷ H) c legal above = unused-above B H c legal.0 above
unused-above B (Part d ∷ H) c legal above = unused-above B H c legal.0 above
unused-above B (Rest d ∷ H) c legal above = unused-above B H c legal.0 above
unused-above B (Bad d word ∷ H) c legal above = unused-above B H c legal.0 above
unused-above B (Reset i ∷ H) c legal above = unused-above B H c legal.0 above
unused-above B (Cut r ∷ H) c legal above = unused-above B H c legal.0 above
unused-above B (Up t ∷ H) c legal above = unused-above B H c legal.0 above
unused-above B (Note a w ∷ H) c legal above = unused-above B H c legal.0 above

-- where none is open, none is
pub open_among-none : (H : Past) (n : ℕ) → ((c : ℕ) → is_open H c ≡ false) → open_among H n ≡ []
open_among-none H zero none = refl
open_among-none H (suc n) none = rw (none (suc n)) (open_among-none H n none)

pub ruleset number_laws = (unused-above)
