use Rattle.std.proofs.Common.{◌≡◌, ap, ◌∙◌, arith, map}
use Rattle.std.specs.List.{range_with_len}
use Rattle.std.proofs.lemmas.Grind.{common_steps}
use Rattle.std.proofs.lemmas.List.FromFn.{map-range_with_len_more}
use Rattle.piv_model.specs.Starts.{value_at}
use Rattle.memory_store.proofs.Sounds.{short-at}
use Rattle.memory_store.proofs.memory.placed_objects.Goals as goal

pub new-requires : goal.new-requires
new-requires c =
    let start = c.args.start.now in
    let short = short-at (value_at start.objects) 0 33 c.loop-place.place c.requires.sound.lengths (omega arith) (omega arith) in
    rw c.find.ensures short

pub loop-place-preserved : goal.loop-place-preserved
loop-place-preserved c =
    let place = c.loop-place.place in
    let values = value_at c.args.start.now.objects in
    let pushed = rw c.unwrap.ensures at c.push.ensures.items in
    let more = map-range_with_len_more values 0 place place (omega arith) in
    record {
      placed = cc (pushed, more, c.in_ok-new.ensures, c.find.ensures, c.loop-place.invariant.placed);
      number = grind (arith, common_steps);
      room = omega (arith, c.push.ensures.capacity, c.loop-place.invariant.room);
    }

pub returns : goal.returns
returns c =
    let all : c.loop-place.place ≡ 33 = omega arith in
    c.loop-place.invariant.placed ∙ ap (λ n. map (value_at c.args.start.now.objects) (range_with_len 0 n)) all
