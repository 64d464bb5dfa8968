use Rattle.std.proofs.Common.{◌≡◌, ◌+◌, ◌*◌, List, ℕ, length, sym, ◌∙◌, ap, subst, arith}
use Rattle.piv_model.specs.Memory.{blocks}
use Rattle.piv_model.specs.Starts.{value_at}
use Rattle.block_store.specs.Writes.{with_number}
use Rattle.block_store.specs.Runs.{IsFresh}
use Rattle.block_store.proofs.Runs.{run_none, run_more, run_within, fresh_none, fresh_more}
use Rattle.block_store.proofs.laying.fresh_directory.Goals as goal

pub loop-place-init : goal.loop-place-init
loop-place-init c = record { first = sym (run_none c.args.objects.now); fresh = fresh_none c.args.objects.now c.linked_directory-directory.result c.linked_directory-directory.ensures.size c.linked_directory-directory.ensures.nexts }

pub put_number-requires-in-loop-place-clause-few : goal.put_number-requires-in-loop-place-clause-few
put_number-requires-in-loop-place-clause-few c =
    let inv = c.loop-place.invariant in
    let is = inv.first in
    let within = run_within c.args.objects.now c.loop-place.place c.loop-place-test.true in
    let room = c.requires.room in
    omega (arith, is, within, room)

pub overflow_add-first : goal.overflow_add-first
overflow_add-first c =
    let inv = c.loop-place.invariant in
    let is = inv.first in
    let within = run_within c.args.objects.now c.loop-place.place c.loop-place-test.true in
    let room = c.requires.room in
    let count = c.blocks-count.ensures.few in
    omega (arith, is, within, room, count)

pub loop-place-preserved : goal.loop-place-preserved
loop-place-preserved c =
    let pairs = c.args.objects.now in
    let k : ℕ = c.loop-place.place in
    let d : List ℕ = c.loop-place.directory in
    let first : ℕ = c.loop-place.first in
    let v : List ℕ = c.find-value.result.now in
    let is_n : length v ≡ length (value_at pairs k) = ap (λ (l : List ℕ). length l) c.find-value.ensures in
    let is : c.put_number-in-loop-place.new.directory ≡ with_number (with_number d (4 * k) (length v)) (4 * k + 2) first = c.put_number-in-loop-place.ensures ∙ ap (λ (l : List ℕ). with_number l (4 * k + 2) first) c.put_number.ensures in
    record {
      first = (λ i. c.loop-place.invariant.first i + (c.blocks-count.ensures.blocks ∙ ap blocks is_n) i) ∙ sym (run_more pairs k);
      fresh = subst (IsFresh pairs (k + 1)) (sym is) (fresh_more pairs k (length v) first d c.loop-place-test.true is_n c.loop-place.invariant.first c.loop-place.invariant.fresh);
    }
