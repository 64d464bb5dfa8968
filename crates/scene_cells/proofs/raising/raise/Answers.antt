use Rattle.std.specs.Prelude.{vec_len}
use Rattle.std.proofs.Common.{◌≡◌, ◌≤◌, ◌<◌, ◌∙◌, length, drop, sym, ap, subst}
use Rattle.scene_cells.specs.Cells.{device_in}
use Rattle.scene_cells.proofs.Placing.{AreSoFar, end-of, first-taken, grown, ready-at, step-back, step-more}
use Rattle.scene_cells.proofs.raising.raise.Goals as goal

pub raise_card-requires-clause-ready : goal.raise_card-requires-clause-ready
raise_card-requires-clause-ready g c =
    let taken = first-taken c.loop-card.card c.args.devices.now.items _ _ c.take_first-nvm.result c.loop-card.invariant.rest c.take_first-nvm.ensures.items in
    ready-at g.N.Nvm.state c.args.devices.now.items c.loop-card.card c.take_first-nvm.result c.requires.ready taken.0

pub returns-in-Err-clause-back : goal.returns-in-Err-clause-back
returns-in-Err-clause-back g c =
    let so_far = c.loop-card.invariant in
    let taken = first-taken c.loop-card.card c.args.devices.now.items _ _ c.take_first-nvm.result so_far.rest c.take_first-nvm.ensures.items in
    let within : c.loop-card.card < length c.args.scene.now.cards = subst (λ n. c.loop-card.card < n) c.cards-cards.ensures.count c.loop-card-test.true in
    step-back g.N.Nvm.state (λ cell. device_in cell) c.scene_turns-turns.result c.args.scene.now.cards c.in-Err.refused.fault c.args.devices.now.items
    c.take_first-nvm.new.list.items _ c.hand_back.new.devices.items c.loop-card.losses.items c.loop-card.cells.items c.loop-card.card
    c.start.result.now c.take_first-nvm.result c.in-Err.refused.nvm within c.requires.enough so_far.cells so_far.counts c.start.ensures.value
    taken.0 taken.1 c.put_first.ensures.items c.hand_back.ensures.devices c.in-Err.ensures.spared c.in-Err.ensures.device so_far.raised

pub loop-card-preserved : goal.loop-card-preserved
loop-card-preserved g c =
    let so_far = c.loop-card.invariant in
    let taken = first-taken c.loop-card.card c.args.devices.now.items _ _ c.take_first-nvm.result so_far.rest c.take_first-nvm.ensures.items in
    let within : c.loop-card.card < length c.args.scene.now.cards = subst (λ n. c.loop-card.card < n) c.cards-cards.ensures.count c.loop-card-test.true in
    record {
      cells = grown c.loop-card.cells.items _ _ c.loop-card.card c.push_reserved.ensures.items so_far.cells;
      counts = grown c.loop-card.losses.items _ _ c.loop-card.card c.push_reserved-in-Ok-raise_card.ensures.items so_far.counts;
      raised = step-more g.N.Nvm.state (λ cell. device_in cell) c.scene_turns-turns.result c.args.scene.now.cards c.args.devices.now.items
          c.loop-card.losses.items c.push_reserved-in-Ok-raise_card.new.self.items c.loop-card.cells.items c.push_reserved.new.self.items c.loop-card.card
          c.start.result.now c.plan.result.now c.take_first-nvm.result c.in-Ok-raise_card.made.1 c.in-Ok-raise_card.made.0 within so_far.cells so_far.counts
          c.start.ensures.value c.plan.ensures.value taken.0 c.in-Ok-raise_card.ensures.ok c.in-Ok-raise_card.ensures.personal
          c.push_reserved-in-Ok-raise_card.ensures.items c.push_reserved.ensures.items so_far.raised;
      rest = taken.1;
      place = subst (λ n. vec_len c.args.devices.now ≤ n) (sym c.take_first-nvm.ensures.capacity) so_far.place;
      empty = so_far.empty;
      cell_room = subst (λ n. c.cards-cards.result ≤ n) (sym c.push_reserved.ensures.capacity) so_far.cell_room;
      count_room = subst (λ n. c.cards-cards.result ≤ n) (sym c.push_reserved-in-Ok-raise_card.ensures.capacity) so_far.count_room;
      room = so_far.room;
    }

pub returns-clause-ok : goal.returns-clause-ok
returns-clause-ok g c =
    let so_far = c.loop-card.invariant in
    let all : c.loop-card.card ≡ length c.args.scene.now.cards = end-of _ _ _ c.loop-card-test.false c.loop-card.auto.card-end c.cards-cards.ensures.count in
    record { many = so_far.cells ∙ all; counts = so_far.counts ∙ all; each = subst (λ n. AreSoFar g.N.Nvm.state (λ cell. device_in cell) n c.args.scene.now.cards c.args.devices.now.items c.loop-card.losses.items c.loop-card.cells.items) c.scene_turns-turns.ensures.turns so_far.raised }

pub returns-clause-rest : goal.returns-clause-rest
returns-clause-rest g c =
    let all : c.loop-card.card ≡ length c.args.scene.now.cards = end-of _ _ _ c.loop-card-test.false c.loop-card.auto.card-end c.cards-cards.ensures.count in
    c.loop-card.invariant.rest ∙ ap (λ n. drop n c.args.devices.now.items) all
