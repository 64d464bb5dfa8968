use Rattle.std.specs.Prelude.{IfSome, slice_index_or}
use Rattle.std.specs.List.{slice_get}
use Rattle.std.proofs.Common.{◌≡◌, ◌∙◌, List, set, refl, ap, subst, arith}
use Rattle.turnstile_rows.proofs.Lists.{read_at}
use Rattle.turnstile_rows.proofs.Passes.{passes_set}
use Rattle.piv_rules.specs.Acts.{CardAct}
use Rattle.card_acts.specs.Acts.{act_of, answer_of}
use Rattle.client_threads.specs.Passes.{CellGate, CellPass, TurnedAt}
use Rattle.client_threads.proofs.Taking.{turned_at, turned_still}
use Rattle.client_threads.proofs.Owning.{still_set}
use Rattle.client_threads.proofs.client.Client.take_turn.Goals as goal

pub invariant_of-self : goal.invariant_of-self
invariant_of-self g c =
    let gates : List CellGate = g.G.Gates.gates in
    let inside = c.self.invariant in
    let lt = c.requires.card in
    let many = inside.own.many in
    let read = subst (λ o. IfSome o (λ x. x.now ≡ slice_index_or c.self.inside.turnstiles.now c.args.card x.now)) c.unwrap-turnstile.ensures c.get.ensures.lookup.1 in
    let gate = read_at c.self.inside.turnstiles.now gates c.args.card c.unwrap-turnstile.result.now lt (ap (λ (l : List CellGate). slice_get l c.args.card) inside.gates_are) read in
    let pass = read_at c.self.inside.passes.items c.self.inside.passes.items c.args.card c.index_mut-pass.result.now (omega (arith, lt, many)) refl c.index_mut-pass.ensures.value in
    let of = inside.own.each c.args.card c.unwrap-turnstile.result.now c.index_mut-pass.result.now gate pass in
    let knows = c.turn.ensures.turned.knows in
    record {
      gates_are = inside.gates_are;
      own = passes_set gates c.self.inside.passes.items c.args.card c.unwrap-turnstile.result.now c.turn.new.pass inside.own gate
          (ap (λ (q : CellPass). q.table) knows ∙ of.0, ap (λ (q : CellPass). q.base) knows ∙ of.1);
      still = still_set g.G.Gates.passes c.self.inside.passes.items c.args.card c.index_mut-pass.result.now c.turn.new.pass inside.still pass (turned_still c.index_mut-pass.result.now c.turn.new.pass _ _ knows);
    }

pub returns : goal.returns
returns g c =
    let gates : List CellGate = g.G.Gates.gates in
    let inside = c.self.invariant in
    let lt = c.requires.card in
    let many = inside.own.many in
    let read = subst (λ o. IfSome o (λ x. x.now ≡ slice_index_or c.self.inside.turnstiles.now c.args.card x.now)) c.unwrap-turnstile.ensures c.get.ensures.lookup.1 in
    let gate = read_at c.self.inside.turnstiles.now gates c.args.card c.unwrap-turnstile.result.now lt (ap (λ (l : List CellGate). slice_get l c.args.card) inside.gates_are) read in
    let pass = read_at c.self.inside.passes.items c.self.inside.passes.items c.args.card c.index_mut-pass.result.now (omega (arith, lt, many)) refl c.index_mut-pass.ensures.value in
    subst (λ (l : List CellPass). TurnedAt gates c.args.card (act_of c.args.act) (answer_of c.turn.result) l (set c.self.inside.passes.items c.args.card c.turn.new.pass)) c.self.view_is
    (subst (λ (a : CardAct). TurnedAt gates c.args.card a (answer_of c.turn.result) c.self.inside.passes.items (set c.self.inside.passes.items c.args.card c.turn.new.pass)) c.new.ensures
    (turned_at {S = g.row.S.Denot} {T = g.row.S-Ticket.Denot} {meaning = g.S.Store} g.S.Store.put_cost gates c.self.inside.passes.items c.args.card c.unwrap-turnstile.result.now c.index_mut-pass.result.now c.turn.new.pass c.new.result c.turn.result gate pass c.turn.ensures.turned))
