use Rattle.std.specs.Prelude.{min}
use Rattle.std.proofs.Common.{◌≡◌, length}
use Rattle.card_cell.specs.Cells.{history_of, turns_of}
use Rattle.cell_bench.proofs.turns.count.Given as goal

abbrev pub invariant-loop-turn : goal.invariant-loop-turn
invariant-loop-turn l = (turns_of l.cell ≡ l.most) × (length (history_of l.cell) ≡ min l.turn l.most)
