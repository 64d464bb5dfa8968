use Rattle.std.proofs.Common.{◌≡◌, true, false, sym, ap, ◌∙◌, length, ◌<◌, arith}
use Rattle.std.specs.Prelude.{nat_lt}
use Rattle.std.proofs.lemmas.Bool.{lt-ltb, le-ltb}
use Rattle.piv_scene.specs.SceneLimits.{size_of}
use Rattle.piv_scene.proofs.SizeLaws.{above-next, above-found}
use Rattle.piv_scene.proofs.sizes.script_above.Goals as goal

pub returns-then-size_of-most : goal.returns-then-size_of-most
returns-then-size_of-most c =
    let within : c.loop-k.k < length c.args.script.now.lines = let end = c.len-k-end.ensures in omega (arith, end) in
    let large : nat_lt c.args.most (size_of c.args.kind c.line.result.now) ≡ true = ap (nat_lt c.args.most) (sym c.size_of.ensures) ∙ lt-ltb c.args.most c.size_of.result c.if-size_of-most.true in
    sym (c.loop-k.invariant ∙ above-found c.args.most c.args.kind c.args.script.now.lines c.loop-k.k c.line.result.now within c.line.ensures large)

pub loop-k-preserved : goal.loop-k-preserved
loop-k-preserved c =
    let within : c.loop-k.k < length c.args.script.now.lines = let end = c.len-k-end.ensures in omega (arith, end) in
    let small : nat_lt c.args.most (size_of c.args.kind c.line.result.now) ≡ false = ap (nat_lt c.args.most) (sym c.size_of.ensures) ∙ le-ltb c.args.most c.size_of.result c.if-size_of-most.false in
    c.loop-k.invariant ∙ above-next c.args.most c.args.kind c.args.script.now.lines c.loop-k.k c.line.result.now within c.line.ensures small
