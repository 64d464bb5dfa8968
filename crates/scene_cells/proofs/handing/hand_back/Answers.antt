use Rattle.std.proofs.Common.{◌≤◌, [], ◌∷◌, ◌++◌, map, refl, sym, ap, subst, ◌∙◌, append_assoc}
use Rattle.std.proofs.lemmas.List.{append-nil}
use Rattle.std.proofs.lemmas.List.Elements.{All-nil, All-cons}
use Rattle.scene_cells.specs.Cells.{device_in}
use Rattle.scene_cells.proofs.Placing.{left-all, left-more, left-none, none-left, room-kept}
use Rattle.scene_cells.proofs.handing.hand_back.Goals as goal

pub loop-cell-init : goal.loop-cell-init
loop-cell-init g c = record {
  down = [];
  split = append-nil _;
  devices = refl;
  histories = refl;
  sizes = All-nil (λ cell. 1114112 ≤ (g.N.Nvm.state (device_in cell)).size);
  left = left-none _ _;
  place = c.requires.place;
  room = c.requires.room;
}

pub loop-cell-preserved : goal.loop-cell-preserved
loop-cell-preserved g c =
    let so_far = c.loop-cell.invariant in
    record {
      down = c.in-Some.cell ∷ so_far.down;
      split = sym (append_assoc c.pop.new.self.items (c.in-Some.cell ∷ []) so_far.down) ∙ ap (λ l. l ++ so_far.down) (sym c.in-Some.ensures.items) ∙ so_far.split;
      devices = c.put_first.ensures.items ∙ (λ i. c.lower-nvm.ensures.device i ∷ so_far.devices i);
      histories = ap (map (λ h. h.past)) c.put_first-in-Some.ensures.items ∙ (λ i. c.lower-nvm.ensures.history i ∷ so_far.histories i);
      sizes = All-cons (λ cell. 1114112 ≤ (g.N.Nvm.state (device_in cell)).size) c.in-Some.cell so_far.down
          (subst (λ device. 1114112 ≤ (g.N.Nvm.state device).size) c.lower-nvm.ensures.device c.lower-nvm.ensures.size) so_far.sizes;
      left = left-more _ _ c.in-Some.cell so_far.down c.lower-nvm.ensures.left so_far.left;
      place = room-kept c.loop-cell.cells.items c.in-Some.cell c.pop.new.self.items _ _ _ _ c.in-Some.ensures.items
          c.put_first.ensures.len c.put_first.ensures.capacity so_far.place;
      room = room-kept c.loop-cell.cells.items c.in-Some.cell c.pop.new.self.items _ _ _ _ c.in-Some.ensures.items
          c.put_first-in-Some.ensures.len c.put_first-in-Some.ensures.capacity so_far.room;
    }

pub returns-clause-sizes : goal.returns-clause-sizes
returns-clause-sizes g c =
    none-left (λ cell. 1114112 ≤ (g.N.Nvm.state (device_in cell)).size) c.loop-cell.cells.items c.loop-cell.invariant.down _
    (sym c.loop-cell.cells.ok.0 ∙ c.in_default.ensures.cases.0) c.loop-cell.invariant.split c.loop-cell.invariant.sizes

pub returns-clause-left : goal.returns-clause-left
returns-clause-left g c =
    left-all _ _ c.loop-cell.cells.items c.loop-cell.invariant.down _
    (sym c.loop-cell.cells.ok.0 ∙ c.in_default.ensures.cases.0) c.loop-cell.invariant.split c.loop-cell.invariant.left
