-- Who logs in knew the reference.
use Rattle.std.specs.Prelude.{IsTrue, ◌&&◌, ◌==◌}
use Rattle.std.proofs.Common.{◌≡◌, ℕ, true, List, Option, ap, sym, ◌∙◌}
use Rattle.std.proofs.lemmas.Slice.Eq.{bytes_eq-Decides}
use Rattle.piv_model.specs.declared.kinds.RefId.{RefId}
use Rattle.piv_model.specs.declared.kinds.RefId.TheVariants.{Pin, GlobalPin}
use Rattle.piv_model.specs.Commands.{CardCommand}
use Rattle.piv_model.specs.Entries.{Past, Call}
use Rattle.piv_model.specs.Base.{Base, profile, is_valid}
use Rattle.piv_rules.specs.Asks.{Ask, Compare, Purpose, Verify, Change, Unblock, ask}
use Rattle.piv_rules.specs.Legal.{IsAllowed}
use Rattle.command_laws.proofs.WordLaws.{CompareWords-law}
use Rattle.command_laws.proofs.Limits.{same-reference}
use Rattle.login_laws.specs.LoginLaws.{presents, IsPresented, PinsArePresented, GlobalPinsArePresented}
use Rattle.login_laws.proofs.Asking.{compare-has}
use Rattle.login_laws.proofs.Bools.{and-first, and-last, granted-word}
use Rattle.login_laws.proofs.Tries.{compare-answer}

-- what presents a reference compares with it
record IsOf (r : RefId) (a : Ask) : Type 0 where
  candidate : List ℕ
  purpose : Purpose
  compares : a ≡ Compare r candidate purpose

presented-of : (r : RefId) (a : Ask) → presents r a ≡ true → IsOf r a
presented-of r (Compare s p Verify) h =
    record { candidate = p; purpose = Verify; compares = ap (λ x. Compare x p Verify) (sym (same-reference r s h)) }
presented-of r (Compare s p (Change n)) h =
    record { candidate = p; purpose = Change n; compares = ap (λ x. Compare x p (Change n)) (sym (same-reference r s h)) }
presented-of r (Compare s p (Unblock n)) h = absurd (cc)
presented-of r a h = absurd (cc)

presented : (B : Base) (G : Past) (c : ℕ) (k : CardCommand) (word : ℕ) (block : Option (List ℕ)) (r : RefId)
    → IsTrue (is_valid B) → IsAllowed B G (Call c k word block) → (presents r (ask (profile B) k) && (word == 0x9000)) ≡ true
    → IsPresented B G c r k
presented B G c k word block r valid allowed h =
    let p = presented-of r (ask (profile B) k) (and-first (presents r (ask (profile B) k)) _ h) in
    let granted : word ≡ 0x9000 = granted-word word (and-last (presents r (ask (profile B) k)) _ h) in
    let reply = CompareWords-law B G c r p.candidate p.purpose k valid (compare-has B k r p.candidate p.purpose p.compares)
    ((compare-answer B G c k r p.candidate p.purpose p.compares).0, p.compares) in
    let served = reply.served.0 (sym allowed.2 ∙ granted) in
    record {
      candidate = p.candidate;
      purpose = p.purpose;
      asks = p.compares;
      right = (bytes_eq-Decides p.candidate _).0 served.2;
      left = served.1;
      contact = served.0.1;
    }

pub PinsArePresented-law : PinsArePresented
PinsArePresented-law B G c k word block valid allowed h = presented B G c k word block Pin valid allowed h

pub GlobalPinsArePresented-law : GlobalPinsArePresented
GlobalPinsArePresented-law B G c k word block valid allowed h = presented B G c k word block GlobalPin valid allowed h

pub ruleset presented_laws = (PinsArePresented-law, GlobalPinsArePresented-law)
