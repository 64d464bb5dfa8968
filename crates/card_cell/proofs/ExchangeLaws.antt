-- What a cell stands for after an exchange that reached the card.
use Rattle.std.specs.Prelude.{not, find, option_map, is_some, if◌then◌else◌}
use Rattle.std.proofs.Common.{◌≡◌, ◌+◌, ℕ, Bool, true, false, ◌∷◌, Option, Some, None, refl, ap, sym, ◌∙◌, subst, arith}
use Rattle.piv_model.specs.declared.store.Store.{Ghosts}
use Rattle.piv_model.specs.declared.kinds.Interface.{Interface}
use Rattle.piv_model.specs.declared.kinds.RefId.{RefId}
use Rattle.piv_model.specs.declared.kinds.Took.{Took}
use Rattle.piv_model.specs.Base.{Base, profile}
use Rattle.piv_model.specs.Sound.{IsSound}
use Rattle.piv_model.specs.Entries.{CardEntry, Past, Opened, Closed, Call, Part, Rest, Bad, Reset, Cut, Up, Note}
use Rattle.piv_rules.specs.Acts.{CardAct, CardAnswer, Records, entries}
use Rattle.piv_rules.specs.Connections.{is_open, side, is_exclusive, epoch, is_epoch_end}
use Rattle.piv_rules.specs.Legal.{is_opening, IsLegal}
use Rattle.piv_rules.specs.Memories.{did, is_call}
use Rattle.piv_rules.specs.RandomBlocks.{draws, draws_count}
use Rattle.piv_rules.proofs.Legality.{IsLegal-runs}
use Rattle.challenge_blocks.specs.Next.{IsNext}
use Rattle.card_app.specs.Stands.{CardStandsFor}
use Rattle.card_cell.specs.declared.compared.Comparison.{Comparison}
use Rattle.card_cell.specs.declared.tally.Tally.{Tally}
use Rattle.card_cell.specs.Counts.{after_call}
use Rattle.card_cell.specs.Tally.{count_in, AreCounted}
use Rattle.card_cell.specs.declared.cell.CardCell.{CardCell}
use Rattle.card_cell.specs.declared.connections.Open.{Open}
use Rattle.card_cell.specs.declared.exchanging.Exchanged.{Exchanged}
use Rattle.card_cell.specs.Cells.{CellStandsFor, turned_as}
use Rattle.card_cell.specs.Epochs.{epoch_in}
use Rattle.card_cell.specs.Exchanged.{latest, is_mute, has_drawn, compared_by, came_in, IsEntryOf}
use Rattle.card_cell.specs.Kept.{has_number, kept_as, kept_of}
use Rattle.card_cell.specs.Losses.{is_loss}
use Rattle.card_cell.specs.Opened.{open_in}
use Rattle.card_cell.proofs.CountLaws.{same-count, counted-call}
use Rattle.card_cell.proofs.OpenLaws.{those-same}
use Rattle.card_cell.proofs.TurnLaws.{stands-after}

-- ---- one entry of an exchange

entry-kept : (global : Bool) (r : Exchanged) (e : CardEntry) (H : Past) (c : ℕ) → IsEntryOf global r e → kept_of (e ∷ H) c ≡ kept_of H c
entry-kept global r (Call d k word block) H c kind = refl
entry-kept global r (Part d) H c kind = refl
entry-kept global r (Rest d) H c kind = refl
entry-kept global r (Bad d word) H c kind = refl
entry-kept global r (Cut run) H c kind = refl
entry-kept global r (Opened d i shared) H c kind = absurd kind
entry-kept global r (Closed d) H c kind = absurd kind
entry-kept global r (Reset i) H c kind = absurd kind
entry-kept global r (Up t) H c kind = absurd kind
entry-kept global r (Note a w) H c kind = absurd kind

entry-opens : (global : Bool) (r : Exchanged) (e : CardEntry) → IsEntryOf global r e → is_opening e ≡ false
entry-opens global r (Call d k word block) kind = refl
entry-opens global r (Part d) kind = refl
entry-opens global r (Rest d) kind = refl
entry-opens global r (Bad d word) kind = refl
entry-opens global r (Cut run) kind = refl
entry-opens global r (Opened d i shared) kind = absurd kind
entry-opens global r (Closed d) kind = refl
entry-opens global r (Reset i) kind = refl
entry-opens global r (Up t) kind = refl
entry-opens global r (Note a w) kind = refl

entry-ends : (global : Bool) (r : Exchanged) (e : CardEntry) (i : Interface) → IsEntryOf global r e → is_epoch_end i e ≡ is_mute r
entry-ends global r (Call d k word block) i kind = sym kind.0
entry-ends global r (Part d) i kind = sym kind.0
entry-ends global r (Rest d) i kind = sym kind.0
entry-ends global r (Bad d word) i kind = sym kind.0
entry-ends global r (Cut run) i kind = sym kind.0
entry-ends global r (Opened d j shared) i kind = absurd kind
entry-ends global r (Closed d) i kind = absurd kind
entry-ends global r (Reset j) i kind = absurd kind
entry-ends global r (Up t) i kind = absurd kind
entry-ends global r (Note a w) i kind = absurd kind

entry-draw : (global : Bool) (r : Exchanged) (e : CardEntry) → IsEntryOf global r e → draws e ≡ has_drawn r
entry-draw global r (Call d k word block) kind = kind.1
entry-draw global r (Part d) kind = sym kind.1
entry-draw global r (Rest d) kind = sym kind.1
entry-draw global r (Bad d word) kind = sym kind.1
entry-draw global r (Cut run) kind = sym kind.1
entry-draw global r (Opened d i shared) kind = absurd kind
entry-draw global r (Closed d) kind = absurd kind
entry-draw global r (Reset i) kind = absurd kind
entry-draw global r (Up t) kind = absurd kind
entry-draw global r (Note a w) kind = absurd kind

more-if : (b d : Bool) (n : ℕ) → b ≡ d → (if d then n + 1 else n) ≡ n + (if b then 1 else 0)
more-if true true n same = refl
more-if false false n same = omega arith
more-if true false n same = absurd (cc)
more-if false true n same = absurd (cc)

-- the comparisons after it
uncompared : (e : CardEntry) (B : Base) (H : Past) (cmp : Option Comparison) (took : Took) (old new : Tally) → cmp ≡ None → is_call e ≡ false → did H e ≡ None
    → AreCounted B H old → ((s : RefId) → count_in new s ≡ after_call s cmp took (count_in old s)) → AreCounted B (e ∷ H) new
uncompared e B H cmp took old new no_cmp calls none counted goes =
    λ s h. goes s ∙ (λ j. after_call s (no_cmp j) took (count_in old s)) ∙ counted s h ∙ same-count B H e s calls none

entry-counted : (global : Bool) (r : Exchanged) (e : CardEntry) (B : Base) (H : Past) (old new : Tally) → IsEntryOf global r e
    → IsSound B.memory → IsLegal B H → global ≡ is_some B.memory.global → AreCounted B H old
    → ((s : RefId) → count_in new s ≡ after_call s (compared_by r) (came_in r) (count_in old s)) → AreCounted B (e ∷ H) new
entry-counted global r (Call d k word block) B H old new kind sound legal is counted goes =
    counted-call B H d k word block (compared_by r) (came_in r) old new sound legal counted goes (kind.2 (profile B) (sym is)) kind.3
entry-counted global r (Part d) B H old new kind sound legal is counted goes = uncompared (Part d) B H (compared_by r) (came_in r) old new kind.2 refl refl counted goes
entry-counted global r (Rest d) B H old new kind sound legal is counted goes = uncompared (Rest d) B H (compared_by r) (came_in r) old new kind.2 refl refl counted goes
entry-counted global r (Bad d word) B H old new kind sound legal is counted goes = uncompared (Bad d word) B H (compared_by r) (came_in r) old new kind.2 refl refl counted goes
entry-counted global r (Cut run) B H old new kind sound legal is counted goes = uncompared (Cut run) B H (compared_by r) (came_in r) old new kind.2 refl refl counted goes
entry-counted global r (Opened d i shared) B H old new kind sound legal is counted goes = absurd kind
entry-counted global r (Closed d) B H old new kind sound legal is counted goes = absurd kind
entry-counted global r (Reset i) B H old new kind sound legal is counted goes = absurd kind
entry-counted global r (Up t) B H old new kind sound legal is counted goes = absurd kind
entry-counted global r (Note a w) B H old new kind sound legal is counted goes = absurd kind

-- a loss where the card is mute
pub entry-lost : (global : Bool) (r : Exchanged) (e : CardEntry) → IsEntryOf global r e → is_mute r ≡ true → is_loss e ≡ true
entry-lost global r (Call d k word block) kind mute = absurd (let t : true ≡ false = sym mute ∙ kind.0 in cc)
entry-lost global r (Part d) kind mute = absurd (let t : true ≡ false = sym mute ∙ kind.0 in cc)
entry-lost global r (Rest d) kind mute = absurd (let t : true ≡ false = sym mute ∙ kind.0 in cc)
entry-lost global r (Bad d word) kind mute = absurd (let t : true ≡ false = sym mute ∙ kind.0 in cc)
entry-lost global r (Cut None) kind mute = absurd (let t : false ≡ true = kind.3 in cc)
entry-lost global r (Cut (Some run)) kind mute = refl
entry-lost global r (Opened d i shared) kind mute = absurd kind
entry-lost global r (Closed d) kind mute = absurd kind
entry-lost global r (Reset i) kind mute = absurd kind
entry-lost global r (Up t) kind mute = absurd kind
entry-lost global r (Note a w) kind mute = absurd kind

pub exchanged-stands : {S T : Type 0} {meaning : Ghosts S T} (old new : CardCell S T meaning) (B : Base) (R : Records) (act : CardAct)
    (r : Exchanged) (a : CardAnswer)
    → CellStandsFor old B R → IsEntryOf old.has_global r (latest new.history.past) → new.history.past ≡ latest new.history.past ∷ old.history.past
    → CardStandsFor new.card B (turned_as act new a ∷ R) → new.connections ≡ old.connections
    → ((i : Interface) → epoch_in new.epochs i ≡ epoch_in old.epochs i + (if is_mute r then 1 else 0))
    → IsNext B.random (if has_drawn r then draws_count (entries R) + 1 else draws_count (entries R)) new.blocks
    → new.has_global ≡ old.has_global
    → ((s : RefId) → count_in new.tally s ≡ after_call s (compared_by r) (came_in r) (count_in old.tally s))
    → CellStandsFor new B (turned_as act new a ∷ R)
exchanged-stands old new B R act r a stands kind past card kept epochs blocks global counts =
    stands-after old new B R act (latest new.history.past) a stands card past
    (λ i. epochs i ∙ (λ j. epoch_in old.epochs i + (if sym (entry-ends old.has_global r (latest new.history.past) i kind) j then 1 else 0)))
    (those-same (entries R) (latest new.history.past) old.connections new.connections stands.connections kept (entry-opens old.has_global r (latest new.history.past) kind)
    (λ c. entry-kept old.has_global r (latest new.history.past) (entries R) c kind))
    (subst (λ (n : ℕ). IsNext B.random n new.blocks) (more-if (draws (latest new.history.past)) (has_drawn r) (draws_count (entries R)) (entry-draw old.has_global r (latest new.history.past) kind)) blocks)
    global (entry-counted old.has_global r (latest new.history.past) B (entries R) old.tally new.tally kind stands.sound (IsLegal-runs B R stands.card.stands.runs)
    stands.global stands.compared counts)

-- ---- what is kept of a connection

pub cell-unopened : {S T : Type 0} {meaning : Ghosts S T} (cell : CardCell S T meaning) (B : Base) (R : Records) (c : ℕ) → CellStandsFor cell B R
    → find (has_number c) (open_in cell.connections) ≡ None → is_open (entries R) c ≡ false
cell-unopened cell B R c stands none = go (is_open (entries R) c) (sym (ap (option_map (λ o. (o.interface, o.shared))) none) ∙ stands.connections.kept c)
  where
    go : (b : Bool) → None ≡ (if b then kept_as (side (entries R) c) (not (is_exclusive (entries R) c)) else None) → b ≡ false
    go false h = refl
    go true h = absurd (cc)

pub cell-opened : {S T : Type 0} {meaning : Ghosts S T} (cell : CardCell S T meaning) (B : Base) (R : Records) (c : ℕ) (o : Open) → CellStandsFor cell B R
    → find (has_number c) (open_in cell.connections) ≡ Some o → (is_open (entries R) c ≡ true) × (side (entries R) c ≡ o.interface)
cell-opened cell B R c o stands some = go (is_open (entries R) c) (sym (ap (option_map (λ o. (o.interface, o.shared))) some) ∙ stands.connections.kept c)
  where
    first : Option (Interface × Bool) → Interface
    first None = o.interface
    first (Some p) = p.0

    go : (b : Bool) → kept_as o.interface o.shared ≡ (if b then kept_as (side (entries R) c) (not (is_exclusive (entries R) c)) else None)
        → (b ≡ true) × (side (entries R) c ≡ o.interface)
    go false h = absurd (cc)
    go true h = (refl, ap first (sym h))

-- the epoch of a connection's side
pub cell-told : {S T : Type 0} {meaning : Ghosts S T} (cell : CardCell S T meaning) (B : Base) (R : Records) (c told : ℕ) (o : Open) → CellStandsFor cell B R
    → find (has_number c) (open_in cell.connections) ≡ Some o → told ≡ epoch_in cell.epochs o.interface → told ≡ epoch (entries R) (side (entries R) c)
cell-told cell B R c told o stands some is =
    is ∙ stands.epochs o.interface ∙ ap (epoch (entries R)) (sym (cell-opened cell B R c o stands some).1)
