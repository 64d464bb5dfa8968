use Rattle.std.proofs.Common.{◌≡◌, length, refl, sym, ap, subst, ◌∙◌}
use Rattle.block_store.specs.Blocks.{block_form}
use Rattle.client_api.specs.Ports.{records_of}
use Rattle.script_runs.specs.Runs.{Scripts, log_of}
use Rattle.script_runs.specs.Turns.{AllPlayable, HasTurns, all_turns}
use Rattle.cell_port.specs.Owned.{OwnerStandsFor, turns_at}
use Rattle.cell_port.specs.OwnedLaws.{seen-recorded}
use Rattle.scene_runs.proofs.Lines.{all-playable}
use Rattle.piv_bench.proofs.Ending.{enough-turns, on-ok, played-on, players-many}
use Rattle.piv_bench.proofs.play.play_on.Goals as goal

pub returns-clause-players : goal.returns-clause-players
returns-clause-players g c =
    on-ok c.play_all-played.result c.play_all-played.ensures.run (λ ran.
    let r = ran (c.new-port.ensures.stands c.requires.held c.requires.told) in
    players-many _ c.args.players.now.items c.play_all-played.new.players.items r.0 refl r.1.answered)

pub returns-clause-played : goal.returns-clause-played
returns-clause-played g c =
    let new = c.play_all-played.new.port.cells.items in
    let count : length c.into_cells.result.items ≡ length c.args.scene.now.cards =
    ap length c.into_cells.ensures.cells ∙ c.play_all-played.ensures.cards ∙ ap length c.new-port.ensures.cells ∙ c.requires.many in
    on-ok c.play_all-played.result c.play_all-played.ensures.run (λ ran.
    let r = ran (c.new-port.ensures.stands c.requires.held c.requires.told) in
    let stood = r.1.port_at.stands in
    let turns = enough-turns block_form.put_cost c.args.scene.now.scripts new g.L.Beginnings.bases (λ k. records_of k (log_of r.0)) stood.held c.requires.turns in (
      r.0,
      played-on c.args.scene.now _ _ _ c.play_all-played.new.players.items g.L.Beginnings.bases g.L.Beginnings.tells c.into_cells.result.items r.0
          c.requires.names c.requires.scripts c.schedule.ensures count r.1 (record {
            owns = λ log card stands. seen-recorded block_form.put_cost new g.L.Beginnings.bases g.L.Beginnings.tells log card stands;
            turns_of = subst (λ (s : Scripts). HasTurns (length new) (turns_at new) (all_turns s)) (sym c.requires.scripts) turns;
            playable = subst (λ (s : Scripts). AllPlayable s) (sym c.requires.scripts) (all-playable _ _ c.args.scene.now.scripts c.holds.ensures.scripts);
          })
          (subst (λ cells. OwnerStandsFor block_form.put_cost cells g.L.Beginnings.bases g.L.Beginnings.tells (log_of r.0)) (sym c.into_cells.ensures.cells) stood),
    ))
