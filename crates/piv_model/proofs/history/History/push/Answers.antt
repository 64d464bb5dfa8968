use Rattle.std.proofs.Common.{ap, ◌∙◌, arith, map, ◌∷◌}
use Rattle.std.specs.Prelude.{reverse}
use Rattle.piv_model.specs.Written.{entry_in}
use Rattle.piv_model.proofs.WrittenLaws.{past-pushed}
use Rattle.piv_model.proofs.history.History.push.Goals as goal

pub returns : goal.returns
returns c =
    let pushed = rw c.unwrap.ensures at c.push.ensures.items in
    let more = rw c.unwrap.ensures at c.push.ensures.len in
    rw (← c.self.view_is) (record {
      past = rw (pushed, c.stored_entry-row.ensures.items) (past-pushed c.self.inside.bytes.items _ c.self.inside.rows.items _ c.self.invariant
          ∙ ap (λ e. e ∷ reverse (map (entry_in c.self.inside.bytes.items) c.self.inside.rows.items)) (rw c.stored_entry-row.ensures.items at c.stored_entry-row.ensures.row));
      entries = let larger = c.push.ensures.capacity in omega (arith, more, larger);
      bytes = let larger = c.stored_entry-row.ensures.capacity in let longer = c.stored_entry-row.ensures.len in omega (arith, longer, larger);
    })
