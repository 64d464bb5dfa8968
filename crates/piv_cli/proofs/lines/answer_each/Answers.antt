use Rattle.std.specs.Prelude.{not}
use Rattle.std.proofs.Common.{◌≡◌, Bool, ap, sym, subst}
use Rattle.piv_cli.specs.Lines.{has_dash}
use Rattle.piv_cli.proofs.DashLaws.{loses-none, loses-then}
use Rattle.piv_cli.proofs.LineLemmas.{draws-few, so-far-begins, so-far-more, so-far-ends}
use Rattle.piv_cli.proofs.lines.answer_each.Goals as goal

pub lines-init : goal.lines-init
lines-init g c = record {
  attached = c.requires.attached;
  losses = loses-none _;
  dash = λ is_on. subst (λ (b : Bool). has_dash c.new-out.result.items ≡ not b) (sym is_on) (ap has_dash c.new-out.ensures.items);
  so_far = λ B stands. so-far-begins B _ _ _ _ c.new-out.ensures.items stands;
}

pub lines-preserved : goal.lines-preserved
lines-preserved g c = record {
  attached = c.in_ok-answer_line-in-Some.ensures.attached;
  losses = loses-then _ _ _ c.lines.invariant.losses c.in_ok-answer_line-in-Some.ensures.losses;
  dash = λ is_on. c.in_ok-answer_line-in-Some.ensures.dash (c.lines.invariant.dash is_on);
  so_far = λ B stands.
      let so_far = c.lines.invariant.so_far B stands in
      so-far-more B _ _ _ _ _ _ _ _ _ _ _ so_far c.in-Some.ensures.first c.in-Some.ensures.shorter
      (c.in_ok-answer_line-in-Some.ensures.answered B so_far.records so_far.stands (draws-few so_far.records _ _ so_far.few c.requires.few));
}

pub returns-in-None-clause-answered : goal.returns-in-None-clause-answered
returns-in-None-clause-answered g c B stands =
    let so_far = c.lines.invariant.so_far B stands in
    so-far-ends B _ _ _ _ _ _ _ _ _ so_far c.in-None.ensures.one
    (c.in_ok-answer_line-in-None.ensures.answered B so_far.records so_far.stands (draws-few so_far.records _ _ so_far.few c.requires.few))
