use Rattle.std.specs.Prelude.{vec_capacity}
use Rattle.std.proofs.Common.{◌≡◌, ◌≤◌, length, take}
use Rattle.scene_cells.specs.Raised.{cell_bases}
use Rattle.piv_runners.proofs.bases.bases_of.Given as goal

abbrev pub invariant-loop-card : goal.invariant-loop-card
invariant-loop-card l = record {
  many : length l.bases.items ≡ l.card;
  bases : l.bases.items ≡ cell_bases l.turns (take l.card l.scene.cards) (take l.card l.losses);
  room : length l.losses ≤ vec_capacity l.bases;
}
