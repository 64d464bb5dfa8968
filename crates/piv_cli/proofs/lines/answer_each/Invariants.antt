use Rattle.std.specs.Prelude.{not}
use Rattle.std.proofs.Common.{◌≡◌, true, length}
use Rattle.piv_model.specs.Base.{Base}
use Rattle.card_app.specs.Stands.{IsAttached, store_state}
use Rattle.piv_cli.specs.Lines.{has_dash, opened_first}
use Rattle.piv_cli.specs.Sessions.{IsAfter, LosesOnce}
use Rattle.piv_cli.proofs.LineLemmas.{SoFar}
use Rattle.piv_cli.proofs.lines.answer_each.Given as goal

abbrev pub invariant-lines : goal.invariant-lines
invariant-lines g l = record {
  attached : IsAttached l.card 1;
  losses : LosesOnce (store_state l.initial.card) (store_state l.card);
  dash : (store_state l.initial.card).power.on ≡ true → has_dash l.out.items ≡ not (store_state l.card).power.on;
  so_far : (B : Base) → IsAfter l.initial.card l.initial.blocks B opened_first
      → SoFar B l.initial.card l.card l.blocks l.input l.rest l.out.items;
}

abbrev pub decreases-lines : goal.decreases-lines
decreases-lines g l = length l.rest
