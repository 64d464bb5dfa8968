use Rattle.std.specs.Prelude.{reverse}
use Rattle.std.proofs.Common.{◌++◌, []}
use Rattle.script_runs.specs.Progress.{scripts_of}
use Rattle.script_runs.proofs.Rounds.{begins, ready_begun, port_begins}
use Rattle.script_runs.proofs.Whole.{whole}
use Rattle.script_runs.proofs.scheduled.play_all.Goals as goal

pub by_schedule-requires-clause-ready : goal.by_schedule-requires-clause-ready
by_schedule-requires-clause-ready g c = ready_begun (g.P.Port.cards c.args.port.now) c.args.players.now.items c.requires.begun

pub returns-clause-run : goal.returns-clause-run
returns-clause-run g c h =
    let scripts = scripts_of c.args.players.now.items in
    let begin = begins c.args.readers.now c.args.players.now.items c.requires.begun in
    let port = port_begins (g.P.Port.stands c.args.port.now) (g.P.Port.cards c.args.port.now) (g.P.Port.seen c.args.port.now) (g.P.Port.turns c.args.port.now) h in
    let a = c.in_ok-by_schedule.ensures.stands scripts [] [] begin port in
    let b = c.in_ok-rounds_to_end.ensures.stands scripts (reverse c.args.schedule.now ++ []) a.0 a.1 a.2 in
    whole (g.P.Port.stands c.rounds_to_end.new.port) (g.P.Port.cards c.rounds_to_end.new.port) (g.P.Port.seen c.rounds_to_end.new.port) (g.P.Port.turns c.rounds_to_end.new.port)
    c.args.readers.now scripts c.args.schedule.now c.rounds_to_end.new.players.items b
