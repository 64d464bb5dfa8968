-- When losses are due after an exchange, and how a plan goes on.
use Rattle.std.specs.Prelude.{option_map, if◌then◌else◌}
use Rattle.std.proofs.Common.{◌≡◌, ℕ, true, false, List, ◌∷◌, Option, Some, None, IfSome, refl, ap, sym, ◌∙◌, subst}
use Rattle.power_loss.specs.Due.{is_due, due_after, after_writes, after_loss}
use Rattle.piv_model.specs.Base.{Base}
use Rattle.piv_model.specs.Commands.{CardCommand}
use Rattle.piv_model.specs.Entries.{CardEntry, Past, Call, Cut}
use Rattle.piv_model.specs.Stores.{StoreState}
use Rattle.piv_rules.specs.Acts.{Records, entries}
use Rattle.piv_rules.specs.Memories.{mem}
use Rattle.piv_rules.specs.Plans.{IsPlanOf, cost, cost_of}
use Rattle.piv_rules.specs.RandomBlocks.{next_block}
use Rattle.card_laws.specs.PlanSteps.{IsToldAfter}
use Rattle.card_laws.specs.StandsFor.{Attached, CardState, StandsFor}
use Rattle.card_laws.proofs.PlanLaws.{PlansGoOn-law}
use Rattle.card_commands.specs.declared.executed.Broken.{Broken}
use Rattle.card_commands.specs.declared.executed.Executed.{Executed}
use Rattle.card_commands.specs.Executes.{asked, replied}
use Rattle.card_commands.proofs.LossLemmas.{lost-due}
use Rattle.card_app.specs.Exchanges.{IsCall, IsLost}
use Rattle.card_app.specs.Plans.{DueFollows, GoesOn}
use Rattle.card_app.proofs.ExchangeLaws.{answer-kept, asked-kept}

-- the numbers become these, where they are such and both are told
by-told : (f : List ℕ → List ℕ) (P : List ℕ → Type 0) (Q : List ℕ → List ℕ → Type 0) (o n : Option (List ℕ)) → n ≡ option_map f o
    → IfSome o P → ((told : List ℕ) → P told → Q told (f told)) → IfSome o (λ told. IfSome n (λ later. Q told later))
by-told f P Q None n is p step = tt
by-told f P Q (Some told) n is p step = subst (λ (m : Option (List ℕ)). IfSome m (λ later. Q told later)) (sym is) (step told p)

writes-only : (n : ℕ) (told : List ℕ) → is_due n told ≡ false → due_after n told ≡ after_writes n told
writes-only n told none = λ j. if none j then after_loss told else after_writes n told

pub due-call : (put_cost : ℕ → ℕ) (B : Base) (R : Records) (old : CardState) (attached : ℕ → Option Attached) (so sn : StoreState) (c last : ℕ) (done : Executed) (bytes block piece : List ℕ) (k : CardCommand) (x y : Attached) (bears : Option (List ℕ))
    → StandsFor B R old attached → old.on ≡ true → attached c ≡ Some x → block ≡ next_block B (entries R)
    → IsCall put_cost bytes block done last k piece x y so sn → old.memory ≡ so.mem
    → DueFollows put_cost B (entries R) (Call c k done.sw bears) so sn
unfolding cost
due-call put_cost B R old attached so sn c last done bytes block piece k x y bears stands is_on is next call was =
    let H : Past = entries R in
    let told = sym was ∙ stands.memory is_on in
    let answered = call.answered (mem B H) told in
    let says = answer-kept B R old attached c x k block stands is next ∙ answered.says in
    let n : cost_of put_cost (asked (mem B H) k) done.sw ≡ cost put_cost B H c k = λ j. cost_of put_cost (asked-kept B H k j) (sym says j).word in
    by-told (due_after (cost_of put_cost (asked (mem B H) k) done.sw)) (λ due. is_due (cost_of put_cost (asked (mem B H) k) done.sw) due ≡ false)
    (IsToldAfter put_cost B H (Call c k done.sw bears)) so.power.due sn.power.due
    (ap (λ (s : StoreState). s.power.due) answered.memory) (call.due (mem B H) told)
    (λ due none. (sym (ap (λ (m : ℕ). is_due m due) n) ∙ none, writes-only _ due none ∙ ap (λ (m : ℕ). after_writes m due) n))

pub due-lost : (put_cost : ℕ → ℕ) (B : Base) (R : Records) (old : CardState) (attached : ℕ → Option Attached) (so sn : StoreState) (c : ℕ) (broken : Broken) (bytes block : List ℕ) (k : CardCommand) (x : Attached)
    → StandsFor B R old attached → old.on ≡ true → attached c ≡ Some x → block ≡ next_block B (entries R)
    → IsLost put_cost bytes block broken k x so sn → old.memory ≡ so.mem
    → DueFollows put_cost B (entries R) (Cut (Some (c, k))) so sn
unfolding cost
due-lost put_cost B R old attached so sn c broken bytes block k x stands is_on is next lost was =
    let H : Past = entries R in
    let told = sym was ∙ stands.memory is_on in
    let says = answer-kept B R old attached c x k block stands is next in
    let n : cost_of put_cost (asked (mem B H) k) (replied (mem B H) x.side block x.channel k).word ≡ cost put_cost B H c k =
    λ j. cost_of put_cost (asked-kept B H k j) (sym says j).word in
    by-told after_loss (λ due. is_due (cost_of put_cost (asked (mem B H) k) (replied (mem B H) x.side block x.channel k).word) due ≡ true)
    (IsToldAfter put_cost B H (Cut (Some (c, k)))) so.power.due sn.power.due
    (lost-due put_cost (asked (mem B H) k) broken so sn (lost.broke (mem B H) told).breaks) (lost.due (mem B H) told)
    (λ due one. (sym (ap (λ (m : ℕ). is_due m due) n) ∙ one, refl))

-- where the store is as before
pub due-same : (put_cost : ℕ → ℕ) (B : Base) (H : Past) (e : CardEntry) (so sn : StoreState) → sn ≡ so
    → ((told : List ℕ) → IsToldAfter put_cost B H e told told) → DueFollows put_cost B H e so sn
due-same put_cost B H e so sn same step = subst (λ (s : StoreState). DueFollows put_cost B H e so s) (sym same) (go so.power.due)
  where
    go : (o : Option (List ℕ)) → IfSome o (λ told. IfSome o (λ later. IsToldAfter put_cost B H e told later))
    go None = tt
    go (Some told) = step told

-- so a plan goes on
pub due-plan : (put_cost : ℕ → ℕ) (B : Base) (L : List ℕ) (H : Past) (e : CardEntry) (so sn : StoreState) → DueFollows put_cost B H e so sn
    → GoesOn put_cost B L H e so sn
due-plan put_cost B L H e so sn follows = go so.power.due sn.power.due follows
  where
    go : (o n : Option (List ℕ)) → IfSome o (λ told. IfSome n (λ later. IsToldAfter put_cost B H e told later))
        → IfSome o (λ told. IsPlanOf put_cost B L H told → IfSome n (λ later. IsPlanOf put_cost B L (e ∷ H) later))
    go None n f = tt
    go (Some told) None f = λ plan. tt
    go (Some told) (Some later) f = λ plan. PlansGoOn-law put_cost B L H e told later plan f
