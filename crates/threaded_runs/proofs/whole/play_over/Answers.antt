use Rattle.std.proofs.Common.{List, map, sym, subst, Vec, Global}
use Rattle.turnstile.specs.Known.{first_pass}
use Rattle.turnstile_rows.specs.Rows.{ArePassesOf, AreFirst, HaveOut, bases_of}
use Rattle.piv_model.specs.declared.answers.ApiAnswer.{ApiAnswer}
use Rattle.card_cell.specs.declared.cell.CardCell.{CardCell}
use Rattle.script_runs.specs.Progress.{scripts_of}
use Rattle.client_threads.specs.Passes.{CellGate, CellPass}
use Rattle.threaded_runs.specs.Shared.{AreShared}
use Rattle.threaded_runs.specs.AtOnce.{HasRun, StillHold}
use Rattle.threaded_runs.proofs.Dealt.{firsts_own, firsts_first, firsts_out}
use Rattle.threaded_runs.proofs.Taking.{has_run, still_hold}
use Rattle.threaded_runs.proofs.whole.play_over.Goals as goal

pub play_stood-played-requires-clause-own : goal.play_stood-played-requires-clause-own
play_stood-played-requires-clause-own g c κs outs =
    subst (λ (l : List CellPass). ArePassesOf c.as_slice.result.now l) (sym c.requires.firsts)
    (subst (λ (l : List CellGate). ArePassesOf l (map first_pass c.args.stood.turnstiles.items)) (sym c.as_slice.ensures.value) (firsts_own c.args.stood.turnstiles.items))

pub play_stood-played-requires-clause-first : goal.play_stood-played-requires-clause-first
play_stood-played-requires-clause-first g c κs outs = subst (λ (l : List CellPass). AreFirst l) (sym c.requires.firsts) (firsts_first c.args.stood.turnstiles.items)

pub play_stood-played-requires-clause-out : goal.play_stood-played-requires-clause-out
play_stood-played-requires-clause-out g c κs outs = subst (λ (l : List CellPass). HaveOut 0 l) (sym c.requires.firsts) (firsts_out c.args.stood.turnstiles.items)

pub returns-in-Ok-clause-ok : goal.returns-in-Ok-clause-ok
returns-in-Ok-clause-ok g c =
    let own = subst (λ (l : List CellGate). ArePassesOf l c.play_stood-played.new.firsts.items) c.as_slice.ensures.value c.in-Ok.ensures.own in
    let shared = subst (λ (l : List CellGate). AreShared c.args.readers.now (scripts_of c.args.players.items) l c.play_stood-played.new.firsts.items (map (λ (v : Vec ApiAnswer Global). v.items) c.in-Ok.answers.items)) c.as_slice.ensures.value c.in-Ok.ensures.shared in
    subst (λ (l : List (CardCell g.row.S.Denot g.row.S-Ticket.Denot g.S.Store)). HasRun g.S.Store.put_cost c.args.readers.now (scripts_of c.args.players.items) (bases_of c.args.stood.turnstiles.items) l (map (λ (v : Vec ApiAnswer Global). v.items) c.in-Ok.answers.items)) (sym c.release-cells.ensures)
    (has_run {S = g.row.S.Denot} {T = g.row.S-Ticket.Denot} {meaning = g.S.Store} g.S.Store.put_cost c.args.stood.turnstiles.items c.play_stood-played.new.firsts.items c.close_all.result.items own c.close_all.ensures.closed c.args.readers.now (scripts_of c.args.players.items)
    (map (λ (v : Vec ApiAnswer Global). v.items) c.in-Ok.answers.items) shared)

pub returns-in-Err-clause-err : goal.returns-in-Err-clause-err
returns-in-Err-clause-err g c =
    let own = subst (λ (l : List CellGate). ArePassesOf l c.play_stood-played.new.firsts.items) c.as_slice.ensures.value c.in-Err.ensures.own in
    subst (λ (l : List (CardCell g.row.S.Denot g.row.S-Ticket.Denot g.S.Store)). StillHold g.S.Store.put_cost (bases_of c.args.stood.turnstiles.items) l) (sym c.release-cells.ensures)
    (still_hold {S = g.row.S.Denot} {T = g.row.S-Ticket.Denot} {meaning = g.S.Store} g.S.Store.put_cost c.args.stood.turnstiles.items c.play_stood-played.new.firsts.items c.close_all.result.items own c.close_all.ensures.closed)
