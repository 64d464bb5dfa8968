use Rattle.std.proofs.Common.{◌≡◌, ◌<◌, nat_lt, true, ℕ, List, ◌∙◌, arith}
use Rattle.std.proofs.lemmas.Bool.Decides.{nat_tests}
use Rattle.std.proofs.lemmas.List.{length-set}
use Rattle.block_store.proofs.Decided.{below_step, count_step}
use Rattle.block_store.proofs.deciding.add_chain.Goals as goal

pub loop-i-preserved : goal.loop-i-preserved
loop-i-preserved c =
    let d : List ℕ = c.args.directory.now in
    let block : ℕ = c.loop-i.block in
    let budget : ℕ = c.args.budget in
    let lower : block < budget = c.if-block-budget.false in
    let passes : nat_lt block budget ≡ true = grind (arith, nat_tests) in
    let size = c.loop-i.invariant.size in
    let few = c.requires.few in
    record {
      few = c.next_in-block.ensures.few;
      size = length-set c.loop-i.used block true ∙ size;
      below = below_step (λ b. nat_lt b budget) d c.args.count c.loop-i._i block c.next_in-block.result c.loop-i-test.true passes c.next_in-block.ensures.next ∙ c.loop-i.invariant.below;
      counts = λ b low. count_step d c.loop-i.used c.args.count c.loop-i._i block c.next_in-block.result b c.loop-i-test.true (omega (arith, size, lower, few)) c.if-used-block.false c.next_in-block.ensures.next ∙ c.loop-i.invariant.counts b low;
    }
