-- A turn at a turnstile is a turn at a card.
use Rattle.std.specs.List.{slice_get}
use Rattle.std.proofs.Common.{◌≡◌, ◌∙◌, ℕ, List, length, set, Option, Some, sym, ap}
use Rattle.turnstile.specs.Turns.{Turned}
use Rattle.turnstile.specs.Known.{after_turn}
use Rattle.piv_model.specs.declared.store.Store.{Ghosts}
use Rattle.piv_rules.specs.Acts.{CardAct, CardRecord}
use Rattle.card_acts.specs.declared.answer.Answer.{Answer}
use Rattle.card_acts.specs.Acts.{answer_of}
use Rattle.card_cell.specs.Cells.{history_of}
use Rattle.card_cell.specs.Exchanged.{latest}
use Rattle.client_threads.specs.Held.{cell_of, HoldsAll, holds_as_many, record_made, Ran}
use Rattle.client_threads.specs.Passes.{CellGate, CellPass, TurnedAt}

module _ {S T : Type 0} {meaning : Ghosts S T} (put_cost : ℕ → ℕ) where
  pub turned_at : (gates : List CellGate) (passes : List CellPass) (card : ℕ) (gate : CellGate) (pass after : CellPass) (act : CardAct) (answer : Answer)
      → slice_get gates card ≡ Some gate → slice_get passes card ≡ Some pass
      → Turned (HoldsAll {S = S} {T = T} {meaning = meaning} put_cost) (λ act found answer left. Ran act (answer_of answer) found) (λ act answer left. record_made act (answer_of answer) left) gate.base act answer pass after
      → TurnedAt gates card act (answer_of answer) passes (set passes card after)
  turned_at gates passes card gate pass after act answer here there t = record {
    gate = gate;
    pass = pass;
    found = length t.records;
    entry = latest (history_of (cell_of t.left));
    gate_is = here;
    pass_is = there;
    seen = t.seen;
    rises = t.rises;
    answers = t.run.answers;
    full = λ none. holds_as_many put_cost t.found gate.base t.records t.stood ∙ (t.run.full.0 none ∙ t.stood.turns);
    knows = ap (set passes card) t.knows;
  }

pub turned_still : (pass after : CellPass) (n : ℕ) (made : Option CardRecord) → after ≡ after_turn pass n made → after ≡ record pass { seen = after.seen; own = after.own }
turned_still pass after n made knows = knows ∙ ap (λ (q : CellPass). record pass { seen = q.seen; own = q.own }) (sym knows)
