-- One turn of a cell.
use Rattle.std.specs.Prelude.{nat_lt, if◌then◌else◌}
use Rattle.std.proofs.Common.{◌≡◌, ◌<◌, ◌+◌, ℕ, Bool, true, false, List, ◌∷◌, Option, Some, None, IfSome, refl, ap, sym, ◌∙◌, subst, arith, length}
use Rattle.std.proofs.lemmas.Bool.Decides.{nat_tests}
use Rattle.std.proofs.lemmas.List.Sums.{count_by-le-length}
use Rattle.piv_model.specs.declared.store.Store.{Ghosts}
use Rattle.piv_model.specs.declared.kinds.Interface.{Interface}
use Rattle.piv_model.specs.declared.history.Refusal.{Refusal}
use Rattle.piv_model.specs.declared.history.Refusal.TheVariants as why
use Rattle.piv_model.specs.Base.{Base}
use Rattle.piv_model.specs.Entries.{CardEntry, Past, Note}
use Rattle.piv_model.specs.Stores.{StoreState}
use Rattle.piv_rules.specs.Acts.{CardAct, Connect, Disconnect, Exchange, ResetSide, CutPower, PowerOn, CardAnswer, Records, entries}
use Rattle.piv_rules.specs.Connections.{on, is_open, side, epoch, is_epoch_end}
use Rattle.piv_rules.specs.Legal.{is_locked}
use Rattle.piv_rules.specs.Plans.{IsPlanOf}
use Rattle.piv_rules.specs.RandomBlocks.{draws, draws_count}
use Rattle.piv_rules.specs.Turns.{refused, kind_of, answer_of, epoch_told}
use Rattle.card_laws.specs.PlanSteps.{IsToldAfter}
use Rattle.card_laws.proofs.PlanLaws.{PlansGoOn-law}
use Rattle.card_laws.proofs.StandsLaws.{stands-noted}
use Rattle.challenge_blocks.specs.Next.{IsNext}
use Rattle.challenge_blocks.specs.declared.blocks.Blocks.{Blocks}
use Rattle.card_app.specs.declared.card.Card.{Card}
use Rattle.card_app.specs.Plans.{DueFollows, GoesOn}
use Rattle.card_app.specs.Stands.{CardStandsFor, state_of, attached_to}
use Rattle.card_cell.specs.declared.cell.CardCell.{CardCell}
use Rattle.card_cell.specs.declared.epochs.Epochs.{Epochs}
use Rattle.card_cell.specs.Cells.{CellStandsFor, TurnsOnce, IsNotedOnly, HasTurn, answers_mute, store_in, turned_as}
use Rattle.card_cell.specs.Epochs.{epoch_in}
use Rattle.card_cell.specs.Exchanged.{latest}
use Rattle.card_cell.specs.Losses.{is_loss, IsCounted}
use Rattle.card_cell.specs.Opened.{AreThoseOf}
use Rattle.card_cell.specs.Tally.{AreCounted}
use Rattle.card_cell.proofs.CountLaws.{counted-same}
use Rattle.card_cell.proofs.NotedLaws.{same-counted}
use Rattle.card_cell.proofs.OpenLaws.{count-step, nought, those-same}

-- ---- what a cell stands for

-- the power of a cell's card is that of its history
pub cell-power : {S T : Type 0} {meaning : Ghosts S T} (cell : CardCell S T meaning) (B : Base) (R : Records) → CellStandsFor cell B R
    → (store_in cell).power.on ≡ on (entries R)
cell-power cell B R stands = stands.card.stands.power

-- fewer blocks are drawn than there are turns
pub few-draws : {S T : Type 0} {meaning : Ghosts S T} (cell : CardCell S T meaning) (B : Base) (R : Records) → CellStandsFor cell B R
    → HasTurn cell → draws_count (entries R) < 16777216
few-draws cell B R stands left =
    let n = count_by-le-length draws (entries R) in
    let l : length cell.history.past ≡ length (entries R) = ap (λ (H : Past). length H) stands.past in
    let f = cell.few in
    omega arith

pub stands-after : {S T : Type 0} {meaning : Ghosts S T} (old new : CardCell S T meaning) (B : Base) (R : Records) (act : CardAct)
    (e : CardEntry) (a : CardAnswer)
    → CellStandsFor old B R → CardStandsFor new.card B (record { act = act; entry = e; answer = a } ∷ R)
    → new.history.past ≡ e ∷ old.history.past
    → ((i : Interface) → epoch_in new.epochs i ≡ epoch_in old.epochs i + (if is_epoch_end i e then 1 else 0))
    → AreThoseOf (e ∷ entries R) new.connections
    → IsNext B.random (draws_count (entries R) + (if draws e then 1 else 0)) new.blocks
    → new.has_global ≡ old.has_global → AreCounted B (e ∷ entries R) new.tally
    → CellStandsFor new B (turned_as act new a ∷ R)
stands-after old new B R act e a stands card past epochs those blocks global counted =
    let newest : e ≡ latest new.history.past = ap latest (sym past) in
    subst (λ (f : CardEntry). CellStandsFor new B (record { act = act; entry = f; answer = a } ∷ R)) newest (record {
      card = card;
      past = past ∙ ap (λ (H : Past). e ∷ H) stands.past;
      epochs = λ i. epochs i ∙ ap (λ n. n + (if is_epoch_end i e then 1 else 0)) (stands.epochs i) ∙ sym (count-step (is_epoch_end i) e (entries R));
      connections = those;
      blocks = subst (λ (n : ℕ). IsNext B.random n new.blocks) (sym (count-step draws e (entries R))) blocks;
      sound = stands.sound;
      global = global ∙ stands.global;
      compared = counted;
    })

-- an entry that draws no block
pub undrawn : (random : List ℕ) (n : ℕ) (old new : Blocks) → IsNext random n old → new ≡ old → IsNext random (n + 0) new
undrawn random n old new next same =
    subst (λ (b : Blocks). IsNext random (n + 0) b) (sym same) (subst (λ (m : ℕ). IsNext random m old) (sym (nought n)) next)

-- epochs that stand
pub lasting : (old new : Epochs) → new ≡ old → (i : Interface) → epoch_in new i ≡ epoch_in old i + 0
lasting old new same i = (λ j. epoch_in (same j) i) ∙ sym (nought (epoch_in old i))

-- ---- one turn

pub once : {S T : Type 0} {meaning : Ghosts S T} (put_cost : ℕ → ℕ) (old new : CardCell S T meaning) (act : CardAct) (e : CardEntry) (a : CardAnswer)
    → new.turns ≡ old.turns → new.history.past ≡ e ∷ old.history.past → IsCounted (is_loss e) (store_in old) (store_in new)
    → ((B : Base) (R : Records) → CellStandsFor old B R → CellStandsFor new B (turned_as act new a ∷ R))
    → ((B : Base) (R : Records) (L : List ℕ) → CellStandsFor old B R → GoesOn put_cost B L (entries R) e (store_in old) (store_in new))
    → ((B : Base) (R : Records) → CellStandsFor old B R → DueFollows put_cost B (entries R) e (store_in old) (store_in new))
    → (answers_mute a ≡ true → (store_in old).power.on ≡ true → is_loss e ≡ true)
    → TurnsOnce put_cost old new act a
once put_cost old new act e a turns past counted stands plan due mute =
    let newest : e ≡ latest new.history.past = ap latest (sym past) in
    record {
      turns = turns;
      past = past ∙ (λ j. newest j ∷ old.history.past);
      counted = subst (λ (f : CardEntry). IsCounted (is_loss f) (store_in old) (store_in new)) newest counted;
      mute = λ h is_on. subst (λ (f : CardEntry). is_loss f ≡ true) newest (mute h is_on);
      stands = stands;
      due = λ B R s. subst (λ (f : CardEntry). DueFollows put_cost B (entries R) f (store_in old) (store_in new)) newest (due B R s);
      plan = λ B R L s. subst (λ (f : CardEntry). GoesOn put_cost B L (entries R) f (store_in old) (store_in new)) newest (plan B R L s);
    }

-- an entry that no plan speaks of, in which what is due stands
pub plan-same : (put_cost : ℕ → ℕ) (B : Base) (L : List ℕ) (G : Past) (e : CardEntry) (so sn : StoreState) → sn.power.due ≡ so.power.due
    → ((told : List ℕ) → IsToldAfter put_cost B G e told told) → GoesOn put_cost B L G e so sn
plan-same put_cost B L G e so sn due step = go so.power.due sn.power.due due
  where
    go : (o n : Option (List ℕ)) → n ≡ o → IfSome o (λ told. IsPlanOf put_cost B L G told → IfSome n (λ later. IsPlanOf put_cost B L (e ∷ G) later))
    go None n same = tt
    go (Some told) n same = λ plan. subst (λ (q : Option (List ℕ)). IfSome q (λ later. IsPlanOf put_cost B L (e ∷ G) later)) (sym same)
        (PlansGoOn-law put_cost B L G e told told plan (step told))

pub due-same : (put_cost : ℕ → ℕ) (B : Base) (G : Past) (e : CardEntry) (so sn : StoreState) → sn.power.due ≡ so.power.due
    → ((told : List ℕ) → IsToldAfter put_cost B G e told told) → DueFollows put_cost B G e so sn
due-same put_cost B G e so sn due step = go so.power.due sn.power.due due
  where
    go : (o n : Option (List ℕ)) → n ≡ o → IfSome o (λ told. IfSome n (λ later. IsToldAfter put_cost B G e told later))
    go None n same = tt
    go (Some told) n same = subst (λ (q : Option (List ℕ)). IfSome q (λ later. IsToldAfter put_cost B G e told later)) (sym same) (step told)

-- ---- notes

card-noted : {S T : Type 0} {meaning : Ghosts S T} (card : Card S T meaning) (B : Base) (R : Records) (act : CardAct) (w : Refusal)
    → CardStandsFor card B R → refused (entries R) act ≡ Some w
    → CardStandsFor card B (record { act = act; entry = Note (kind_of act) w; answer = answer_of (epoch_told (entries R) act) w } ∷ R)
card-noted card B R act w stands refuses = record {
  apart = stands.apart;
  stands = stands-noted B R (state_of card) (attached_to card) act w stands.stands refuses;
}

-- a note of an act that the card itself recorded as refused
pub noted-by : {S T : Type 0} {meaning : Ghosts S T} (put_cost : ℕ → ℕ) (old new : CardCell S T meaning) (act : CardAct) (w : Refusal) (a : CardAnswer)
    → IsNotedOnly (kind_of act) w old new → (answers_mute a ≡ true → (store_in old).power.on ≡ true → ⊥)
    → ((B : Base) (R : Records) → CellStandsFor old B R → CardStandsFor new.card B (record { act = act; entry = Note (kind_of act) w; answer = a } ∷ R))
    → TurnsOnce put_cost old new act a
noted-by {meaning = meaning} put_cost old new act w a noted mutes card =
    once put_cost old new act (Note (kind_of act) w) a noted.turns noted.past (same-counted (store_in old) (store_in new) (ap (λ k. meaning.state k.store) noted.card))
    (λ B R s. stands-after old new B R act (Note (kind_of act) w) a s (card B R s) noted.past (lasting old.epochs new.epochs noted.epochs)
    (those-same (entries R) (Note (kind_of act) w) old.connections new.connections s.connections noted.connections refl (λ c. refl))
    (undrawn B.random (draws_count (entries R)) old.blocks new.blocks s.blocks noted.blocks)
    noted.global (counted-same B (entries R) (Note (kind_of act) w) old.tally new.tally s.compared noted.tally refl refl))
    (λ B R L s. plan-same put_cost B L (entries R) (Note (kind_of act) w) (store_in old) (store_in new) (ap (λ k. (meaning.state k.store).power.due) noted.card) (λ told. refl))
    (λ B R s. due-same put_cost B (entries R) (Note (kind_of act) w) (store_in old) (store_in new) (ap (λ k. (meaning.state k.store).power.due) noted.card) (λ told. refl)) (λ h is_on. absurd (mutes h is_on))

-- a note of an act that the rules refuse
pub noted-once : {S T : Type 0} {meaning : Ghosts S T} (put_cost : ℕ → ℕ) (old new : CardCell S T meaning) (act : CardAct) (w : Refusal) (a : CardAnswer)
    → IsNotedOnly (kind_of act) w old new → (answers_mute a ≡ true → (store_in old).power.on ≡ true → ⊥)
    → ((B : Base) (R : Records) → CellStandsFor old B R → (refused (entries R) act ≡ Some w) × (answer_of (epoch_told (entries R) act) w ≡ a))
    → TurnsOnce put_cost old new act a
noted-once put_cost old new act w a noted mutes refuses =
    noted-by put_cost old new act w a noted mutes
    (λ B R s. let r = refuses B R s in
    subst (λ (b : CardAnswer). CardStandsFor new.card B (record { act = act; entry = Note (kind_of act) w; answer = b } ∷ R)) r.1
    (subst (λ k. CardStandsFor k B (record { act = act; entry = Note (kind_of act) w; answer = answer_of (epoch_told (entries R) act) w } ∷ R)) (sym noted.card)
    (card-noted old.card B R act w s.card r.0)))

-- ---- why an act is refused

pub connect-off : (H : Past) (i : Interface) (shared : Bool) → on H ≡ false → refused H (Connect i shared) ≡ Some why.Off
connect-off H i shared off = rw off refl

pub connect-locked : (H : Past) (i : Interface) (shared : Bool) → on H ≡ true → is_locked H i shared ≡ true → refused H (Connect i shared) ≡ Some why.Locked
connect-locked H i shared is_on locked = rw is_on (rw locked refl)

pub disconnect-none : (H : Past) (c : ℕ) → is_open H c ≡ false → refused H (Disconnect c) ≡ Some why.NoConnection
disconnect-none H c shut = rw shut refl

pub exchange-none : (H : Past) (c known : ℕ) (bytes : List ℕ) → is_open H c ≡ false → refused H (Exchange c known bytes) ≡ Some why.NoConnection
exchange-none H c known bytes shut = rw shut refl

pub exchange-mute : (H : Past) (c known : ℕ) (bytes : List ℕ) → is_open H c ≡ true → on H ≡ false → refused H (Exchange c known bytes) ≡ Some why.Mute
exchange-mute H c known bytes opened off = rw opened (rw off refl)

pub exchange-stale : (H : Past) (c known told : ℕ) (bytes : List ℕ) → is_open H c ≡ true → on H ≡ true → told ≡ epoch H (side H c) → known < told
    → refused H (Exchange c known bytes) ≡ Some why.Stale
exchange-stale H c known told bytes opened is_on is low =
    let l : nat_lt known (epoch H (side H c)) ≡ true = grind (arith, nat_tests) in
    rw opened (rw is_on (rw l refl))

pub reset-off : (H : Past) (i : Interface) → on H ≡ false → refused H (ResetSide i) ≡ Some why.Off
reset-off H i off = rw off refl

pub cut-off : (H : Past) → on H ≡ false → refused H CutPower ≡ Some why.Off
cut-off H off = rw off refl

pub power-on : (H : Past) → on H ≡ true → refused H PowerOn ≡ Some why.On
power-on H is_on = rw is_on refl
