use Rattle.std.specs.Prelude.{IfOk, IfErr}
use Rattle.std.proofs.Common.{List, map, sym, subst}
use Rattle.card_cell.specs.declared.base.CellBase.{CellBase}
use Rattle.card_cell.specs.declared.cell.CardCell.{CardCell}
use Rattle.script_runs.specs.Progress.{scripts_of}
use Rattle.threaded_runs.specs.AtOnce.{HasRun, StillHold}
use Rattle.threaded_runs.proofs.Taking.{stand_at_start, back_at_start}
use Rattle.threaded_runs.proofs.whole.play_at_once.Goals as goal

pub stand-requires : goal.stand-requires
stand-requires g c = record {
  start = stand_at_start {S = g.row.S.Denot} {T = g.row.S-Ticket.Denot} {meaning = g.S.Store} g.S.Store.put_cost c.args.cells.items c.args.bases.now c.hold-held.result.items c.hold-held.ensures.held c.requires.held;
}

pub returns-in-Ok-stand-clause-ok : goal.returns-in-Ok-stand-clause-ok
returns-in-Ok-stand-clause-ok g c =
    subst (λ (b : List CellBase). IfOk c.play_over.result (λ run. HasRun g.S.Store.put_cost c.args.readers.now (scripts_of c.args.players.items) b run.cells.items (map (λ v. v.items) run.answers.items)))
    c.in-Ok-stand.ensures.bases c.play_over.ensures.ok

pub returns-in-Ok-stand-clause-err : goal.returns-in-Ok-stand-clause-err
returns-in-Ok-stand-clause-err g c =
    subst (λ (b : List CellBase). IfErr c.play_over.result (λ back. StillHold g.S.Store.put_cost b back.items)) c.in-Ok-stand.ensures.bases c.play_over.ensures.err

pub returns-in-Err-clause-err : goal.returns-in-Err-clause-err
returns-in-Err-clause-err g c =
    subst (λ (l : List (CardCell g.row.S.Denot g.row.S-Ticket.Denot g.S.Store)). StillHold g.S.Store.put_cost c.args.bases.now l) (sym c.release.ensures)
    (back_at_start {S = g.row.S.Denot} {T = g.row.S-Ticket.Denot} {meaning = g.S.Store} g.S.Store.put_cost c.args.bases.now c.in-Err.held.items c.in-Err.ensures.err)
