use Rattle.std.proofs.Common.{◌≡◌, ◌<◌, ap, sym, ◌∙◌, arith, length, map}
use Rattle.std.specs.Prelude.{Some, reverse}
use Rattle.std.proofs.lemmas.List.{length-reverse, length-map}
use Rattle.piv_model.specs.Written.{entry_in}
use Rattle.piv_model.proofs.WrittenLaws.{at_place-stored}
use Rattle.piv_model.proofs.history.History.entry.Goals as goal

pub returns : goal.returns
returns c =
    let size : length (reverse (map (entry_in c.self.inside.bytes.items) c.self.inside.rows.items)) ≡ length c.self.inside.rows.items =
    length-reverse (map (entry_in c.self.inside.bytes.items) c.self.inside.rows.items)
    ∙ length-map c.self.inside.rows.items (entry_in c.self.inside.bytes.items) in
    let within = rw (← c.self.view_is) at c.requires in
    let below : c.args.k < length c.self.inside.rows.items = omega (arith, size, within) in
    rw (← c.self.view_is)
    (at_place-stored c.self.inside.bytes.items c.self.inside.rows.items c.args.k c.index.result.now below c.index.ensures
    ∙ ap Some (sym (c.entry_at.ensures ∙ ap (λ bytes. entry_in bytes c.index.result.now) c.deref.ensures.value)))
