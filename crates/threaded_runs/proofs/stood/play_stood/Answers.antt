use Rattle.std.proofs.Common.{◌≡◌, ◌∙◌, ℕ, false, List, [], ◌++◌, length, map, take, drop, replicate, All, sym, ap, subst, arith, Vec, Global}
use Rattle.std.proofs.lemmas.List.{length-map, length-replicate}
use Rattle.turnstile.specs.Known.{first_pass, split_off}
use Rattle.turnstile_rows.specs.Rows.{ArePassesOf, AreRowsOf, HaveOut, with_out}
use Rattle.turnstile_rows.specs.Gathered.{AreGathered}
use Rattle.turnstile_rows.proofs.Rows.{have_out}
use Rattle.piv_model.specs.declared.answers.ApiAnswer.{ApiAnswer}
use Rattle.client_api.specs.Players.{Played}
use Rattle.client_threads.specs.Passes.{CellGate, CellPass, StandsOwn}
use Rattle.threaded_runs.specs.declared.worker.Worker.{Worker}
use Rattle.threaded_runs.specs.Workers.{IsHired}
use Rattle.threaded_runs.proofs.Mapped.{lent_back}
use Rattle.threaded_runs.proofs.Dealt.{dealt_own, dealt_new}
use Rattle.threaded_runs.proofs.Played.{all_hired, rows_back, shared, Done}
use Rattle.threaded_runs.proofs.stood.play_stood.Goals as goal

pub deal_all-requires-clause-out : goal.deal_all-requires-clause-out
deal_all-requires-clause-out g c = c.requires.out

pub hire-workers-requires-clause-many : goal.hire-workers-requires-clause-many
hire-workers-requires-clause-many g c =
    let n = sym (length-map c.in-Ok-deal_all.rows.items (λ (v : Vec CellPass Global). v.items)) ∙ (ap (λ (l : List (List CellPass)). length l) c.in-Ok-deal_all.ensures.rows ∙ length-replicate c.len-count.result (map split_off c.args.firsts.now.items)) in
    omega (arith, n, c.len-count.ensures, c.args.players.ok)

pub play_beside-requires-clause-own : goal.play_beside-requires-clause-own
play_beside-requires-clause-own g c κs outs = subst (λ (l : List CellPass). ArePassesOf g.G.Gates.gates l) (sym c.requires.passes) (dealt_own g.G.Gates.gates)

pub play_beside-requires-clause-new : goal.play_beside-requires-clause-new
play_beside-requires-clause-new g c κs outs = subst (λ (l : List CellPass). StandsOwn l []) (sym c.requires.passes) (dealt_new (map first_pass g.G.Gates.gates))

pub play_beside-requires-clause-hired : goal.play_beside-requires-clause-hired
play_beside-requires-clause-hired g c κs outs =
    let W : Type 0 = Worker g.row.S.Denot g.row.S-Ticket.Denot g.S.Store in
    let dealt = sym (c.requires.passes ∙ ap (λ (l : List CellPass). map split_off l) (sym c.requires.firsts)) in
    let rows : map (λ (w : W). w.passes.items) c.hire-workers.result.items ≡ replicate c.len-count.result g.G.Gates.passes =
    c.hire-workers.ensures.rows ∙ (c.in-Ok-deal_all.ensures.rows ∙ ap (λ (l : List CellPass). replicate c.len-count.result l) dealt) in
    let hired : All (λ (w : W). IsHired g.G.Gates.passes w.player w.passes.items) c.hire-workers.result.items =
    all_hired (λ (w : W). w.player) (λ (w : W). w.passes.items) (λ (w : W). w.refused) c.hire-workers.result.items c.args.players.items g.G.Gates.passes c.len-count.result c.hire-workers.ensures.players c.requires.begun rows in
    subst (λ (l : List W). All (λ (w : W). IsHired g.G.Gates.passes w.player w.passes.items) l) (sym c.deref_mut.ensures.value) hired

pub gather_all-requires-clause-out : goal.gather_all-requires-clause-out
gather_all-requires-clause-out g c =
    let W : Type 0 = Worker g.row.S.Denot g.row.S-Ticket.Denot g.S.Store in
    let old : List W = c.hire-workers.result.items in
    let new : List W = c.play_beside.new.workers in
    let many : length new ≡ length old = c.play_beside.ensures.many ∙ ap (λ (l : List W). length l) c.deref_mut.ensures.value in
    let len : c.hire-workers.result.len ≡ length old = omega (arith, c.hire-workers.result.ok) in
    let whole : take c.hire-workers.result.len (new ++ drop (length new) old) ≡ new = ap (λ (n : ℕ). take n (new ++ drop (length new) old)) len ∙ lent_back old new many in
    let rows : map (λ (v : Vec CellPass Global). v.items) c.part-refused.new.rows.items ≡ map (λ (w : W). w.passes.items) new = c.part-refused.ensures.rows ∙ ap (λ (l : List W). map (λ w. w.passes.items) l) whole in
    let n = sym (length-map c.part-refused.new.rows.items (λ (v : Vec CellPass Global). v.items)) ∙ (ap (λ (l : List (List CellPass)). length l) rows ∙ (length-map new (λ (w : W). w.passes.items) ∙ many)) in
    let m = sym (length-map old (λ (w : W). w.player)) ∙ ap (λ (l : List Played). length l) c.hire-workers.ensures.players in
    let count : c.len-count.result ≡ length c.part-refused.new.rows.items = omega (arith, n, m, c.len-count.ensures, c.args.players.ok) in
    subst (λ (k : ℕ). HaveOut k c.deal_all.new.firsts.items) count
    (subst (λ (l : List CellPass). HaveOut c.len-count.result l) (sym c.in-Ok-deal_all.ensures.out) (have_out c.len-count.result c.args.firsts.now.items))

pub gather_all-requires-clause-rows : goal.gather_all-requires-clause-rows
gather_all-requires-clause-rows g c =
    let W : Type 0 = Worker g.row.S.Denot g.row.S-Ticket.Denot g.S.Store in
    let old : List W = c.hire-workers.result.items in
    let new : List W = c.play_beside.new.workers in
    let many : length new ≡ length old = c.play_beside.ensures.many ∙ ap (λ (l : List W). length l) c.deref_mut.ensures.value in
    let len : c.hire-workers.result.len ≡ length old = omega (arith, c.hire-workers.result.ok) in
    let whole : take c.hire-workers.result.len (new ++ drop (length new) old) ≡ new = ap (λ (n : ℕ). take n (new ++ drop (length new) old)) len ∙ lent_back old new many in
    let rows : map (λ (v : Vec CellPass Global). v.items) c.part-refused.new.rows.items ≡ map (λ (w : W). w.passes.items) new = c.part-refused.ensures.rows ∙ ap (λ (l : List W). map (λ w. w.passes.items) l) whole in
    let done : Done (λ (w : W). w.player) (λ (w : W). w.passes.items) (λ (w : W). w.refused) c.args.readers.now g.G.Gates.gates (map split_off (map first_pass g.G.Gates.gates)) old new =
    subst (λ (l : List W). Done (λ (w : W). w.player) (λ (w : W). w.passes.items) (λ (w : W). w.refused) c.args.readers.now g.G.Gates.gates (map split_off (map first_pass g.G.Gates.gates)) l new) c.deref_mut.ensures.value
    (subst (λ (d : List CellPass). Done (λ (w : W). w.player) (λ (w : W). w.passes.items) (λ (w : W). w.refused) c.args.readers.now g.G.Gates.gates d c.deref_mut.result.now new) c.requires.passes c.play_beside.ensures.played) in
    subst (λ (l : List (List CellPass)). AreRowsOf c.args.turnstiles.now l) (sym rows)
    (subst (λ (l : List CellGate). AreRowsOf l (map (λ (w : W). w.passes.items) new)) (sym c.requires.gates)
    (rows_back (λ (w : W). w.player) (λ (w : W). w.passes.items) (λ (w : W). w.refused) c.args.readers.now g.G.Gates.gates (map first_pass g.G.Gates.gates) old new many done))

pub returns-clause-shared : goal.returns-clause-shared
returns-clause-shared g c =
    let W : Type 0 = Worker g.row.S.Denot g.row.S-Ticket.Denot g.S.Store in
    let old : List W = c.hire-workers.result.items in
    let new : List W = c.play_beside.new.workers in
    let many : length new ≡ length old = c.play_beside.ensures.many ∙ ap (λ (l : List W). length l) c.deref_mut.ensures.value in
    let len : c.hire-workers.result.len ≡ length old = omega (arith, c.hire-workers.result.ok) in
    let whole : take c.hire-workers.result.len (new ++ drop (length new) old) ≡ new = ap (λ (n : ℕ). take n (new ++ drop (length new) old)) len ∙ lent_back old new many in
    let rows : map (λ (v : Vec CellPass Global). v.items) c.part-refused.new.rows.items ≡ map (λ (w : W). w.passes.items) new = c.part-refused.ensures.rows ∙ ap (λ (l : List W). map (λ w. w.passes.items) l) whole in
    let given : map (λ (v : Vec ApiAnswer Global). v.items) c.part-refused.new.answers.items ≡ map (λ (w : W). w.player.answers) new = c.part-refused.ensures.answers ∙ ap (λ (l : List W). map (λ w. w.player.answers) l) whole in
    let fine : All (λ (w : W). w.refused ≡ false) new = subst (λ (l : List W). All (λ (w : W). w.refused ≡ false) l) whole (c.part-refused.ensures.refused c.if-refused.false) in
    let done : Done (λ (w : W). w.player) (λ (w : W). w.passes.items) (λ (w : W). w.refused) c.args.readers.now g.G.Gates.gates g.G.Gates.passes old new =
    subst (λ (l : List W). Done (λ (w : W). w.player) (λ (w : W). w.passes.items) (λ (w : W). w.refused) c.args.readers.now g.G.Gates.gates g.G.Gates.passes l new) c.deref_mut.ensures.value c.play_beside.ensures.played in
    let gathered : AreGathered (map (λ (w : W). w.passes.items) new) (map (with_out c.len-count.result) (map first_pass g.G.Gates.gates)) c.gather_all.new.firsts.items =
    subst (λ (l : List (List CellPass)). AreGathered l (map (with_out c.len-count.result) (map first_pass g.G.Gates.gates)) c.gather_all.new.firsts.items) rows
    (subst (λ (l : List CellPass). AreGathered (map (λ (v : Vec CellPass Global). v.items) c.part-refused.new.rows.items) l c.gather_all.new.firsts.items)
    (c.in-Ok-deal_all.ensures.out ∙ ap (λ (l : List CellPass). map (with_out c.len-count.result) l) c.requires.firsts) c.gather_all.ensures.gathered) in
    shared (λ (w : W). w.player) (λ (w : W). w.passes.items) (λ (w : W). w.refused) c.args.readers.now g.G.Gates.gates g.G.Gates.passes c.args.players.items c.len-count.result c.gather_all.new.firsts.items
    (map (λ (v : Vec ApiAnswer Global). v.items) c.part-refused.new.answers.items) old new c.hire-workers.ensures.players many done fine gathered given
