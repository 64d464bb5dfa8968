use Rattle.std.proofs.Common.{◌≡◌, [], ◌∷◌, false, refl, arith, Vec, Global}
use Rattle.std.proofs.lemmas.List.Elements.{All-nil, All-cons, All-append}
use Rattle.piv_model.specs.declared.answers.ApiAnswer.{ApiAnswer}
use Rattle.client_threads.specs.Passes.{CellPass}
use Rattle.threaded_runs.specs.declared.worker.Worker.{Worker}
use Rattle.threaded_runs.proofs.Mapped.{mapped_more}
use Rattle.threaded_runs.proofs.stood.part.Goals as goal

pub loop-worker-preserved : goal.loop-worker-preserved
loop-worker-preserved g c =
    let W : Type 0 = Worker g.row.S.Denot g.row.S-Ticket.Denot g.S.Store in
    let rows_cap = c.push_reserved.ensures.capacity in
    let answers_cap = c.push_reserved-in-loop-worker.ensures.capacity in
    let rows_room = c.loop-worker.invariant.rows_room in
    let answers_room = c.loop-worker.invariant.answers_room in
    record {
      rows = mapped_more (λ (v : Vec CellPass Global). v.items) (λ (w : W). w.passes.items) c.loop-worker.rows.items c.push_reserved.new.self.items c.in-Some.worker.passes c.loop-worker.yielded c.in-Some.worker
          c.push_reserved.ensures.items c.loop-worker.invariant.rows refl;
      answers = mapped_more (λ (v : Vec ApiAnswer Global). v.items) (λ (w : W). w.player.answers) c.loop-worker.answers.items c.push_reserved-in-loop-worker.new.self.items c.into_answers.result c.loop-worker.yielded c.in-Some.worker
          c.push_reserved-in-loop-worker.ensures.items c.loop-worker.invariant.answers c.into_answers.ensures;
      refused = λ e. All-append (λ (w : W). w.refused ≡ false) c.loop-worker.yielded (c.in-Some.worker ∷ []) (c.loop-worker.invariant.refused c.if-any.false)
          (All-cons (λ (w : W). w.refused ≡ false) c.in-Some.worker [] e (All-nil (λ (w : W). w.refused ≡ false)));
      rows_room = omega (arith, rows_cap, rows_room);
      answers_room = omega (arith, answers_cap, answers_room);
    }
