use Rattle.std.proofs.Common.{◌≡◌, ◌+◌, ◌*◌, List, ℕ, length, refl, sym, ◌∙◌, ap, subst, OnErr, Result, Ok, Err, arith}
use Rattle.nvm_slots.specs.Laying.{Piece, Laying}
use Rattle.piv_model.specs.Memory.{blocks}
use Rattle.piv_model.specs.Starts.{value_at}
use Rattle.card_image.specs.Laying.{objects_area}
use Rattle.block_store.specs.Runs.{run, run_pieces}
use Rattle.block_store.proofs.Runs.{run_none, run_more, run_within, pieces_none, values_more, values_done}
use Rattle.block_store.proofs.laying.lay_values.Goals as goal

on_err : {T E P : Type 0} → (r : Result T E) → P → OnErr r P
on_err (Ok x) p = tt
on_err (Err e) p = p

pub loop-place-init : goal.loop-place-init
loop-place-init g c = record {
  first = sym (run_none c.args.objects.now);
  laid = λ pieces s laying. subst (λ (ps : List Piece). Laying objects_area ps 8768 s (g.N.Nvm.state c.args.nvm.now)) (sym (pieces_none c.args.objects.now pieces)) laying;
  on = c.requires.on;
  size = refl;
}

pub overflow_mul-first : goal.overflow_mul-first
overflow_mul-first g c =
    let inv = c.loop-place.invariant in
    let is = inv.first in
    let within = run_within c.args.objects.now c.loop-place.place c.loop-place-test.true in
    let room = c.requires.room in
    omega (arith, is, within, room)

pub overflow_add-first : goal.overflow_add-first
overflow_add-first g c =
    let inv = c.loop-place.invariant in
    let is = inv.first in
    let within = run_within c.args.objects.now c.loop-place.place c.loop-place-test.true in
    let room = c.requires.room in
    omega (arith, is, within, room)

pub lay_value-requires-clause-range : goal.lay_value-requires-clause-range
lay_value-requires-clause-range g c =
    let inv = c.loop-place.invariant in
    let is = inv.first in
    let within = run_within c.args.objects.now c.loop-place.place c.loop-place-test.true in
    let room = c.requires.room in
    let is_v = ap (λ (l : List ℕ). length l) c.find-value.ensures in
    let size = inv.size in
    let enough = c.requires.size in
    omega (arith, is, within, room, is_v, size, enough)

pub overflow_add-first-in-loop-place : goal.overflow_add-first-in-loop-place
overflow_add-first-in-loop-place g c =
    let inv = c.loop-place.invariant in
    let is = inv.first in
    let within = run_within c.args.objects.now c.loop-place.place c.loop-place-test.true in
    let room = c.requires.room in
    let count = c.blocks-count.ensures.few in
    omega (arith, is, within, room, count)

pub returns-in_err-lay_value-clause-fell : goal.returns-in_err-lay_value-clause-fell
returns-in_err-lay_value-clause-fell g c =
    let inv = c.loop-place.invariant in
    let is = inv.first in
    let within = run_within c.args.objects.now c.loop-place.place c.loop-place-test.true in
    let room = c.requires.room in
    let is_v = ap (λ (l : List ℕ). length l) c.find-value.ensures in
    on_err c.from_residual.result (λ pieces s laying. c.in_err-lay_value.ensures.fell objects_area (run_pieces c.args.objects.now pieces c.loop-place.place) (8768 + 64 * c.loop-place.first) s (omega arith) (omega (arith, is, within, room, is_v)) (inv.laid pieces s laying))

pub loop-place-preserved : goal.loop-place-preserved
loop-place-preserved g c =
    let inv = c.loop-place.invariant in
    let is = inv.first in
    let within = run_within c.args.objects.now c.loop-place.place c.loop-place-test.true in
    let room = c.requires.room in
    let pairs = c.args.objects.now in
    let k : ℕ = c.loop-place.place in
    let v : List ℕ = c.find-value.result.now in
    let is_n : length v ≡ length (value_at pairs k) = ap (λ (l : List ℕ). length l) c.find-value.ensures in
    let count = c.blocks-count.ensures.blocks in
    let same_count = ap blocks is_n in
    record {
      first = (λ i. inv.first i + (count ∙ same_count) i) ∙ sym (run_more pairs k);
      laid = λ pieces s laying. values_more pairs pieces k c.loop-place.first c.blocks-count.result v s (g.N.Nvm.state c.loop-place.nvm) (g.N.Nvm.state c.lay_value.new.nvm) inv.first c.find-value.ensures count (omega (arith, is, within, room, count, same_count)) c.in_ok-lay_value.ensures.laid (inv.laid pieces s laying);
      on = c.in_ok-lay_value.ensures.on;
      size = c.in_ok-lay_value.ensures.size ∙ inv.size;
    }

pub returns-clause-laid : goal.returns-clause-laid
returns-clause-laid g c =
    let inv = c.loop-place.invariant in
    let is = inv.first in
    let last : c.loop-place.place ≡ 33 = omega arith in
    let e = ap (run c.args.objects.now) last in
    let room = c.requires.room in
    λ pieces s laying. values_done c.args.objects.now pieces c.loop-place.place c.loop-place.first s (g.N.Nvm.state c.loop-place.nvm) last (omega (arith, is, e, room)) (inv.laid pieces s laying)
