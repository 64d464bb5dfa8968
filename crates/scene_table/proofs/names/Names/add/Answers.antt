use Rattle.std.proofs.Common.{ℕ, List, Bor, map, ap, ◌∙◌}
use Rattle.scene_table.specs.Names.{is_among}
use Rattle.scene_table.proofs.NameLaws.{among-insert}
use Rattle.scene_table.proofs.names.Names.add.Goals as goal

pub returns : goal.returns
returns c = λ name. rw (← c.self.view_is) (
    ap (λ (ks : List (Bor (List ℕ))). is_among (map (λ k. k.now) ks) name) c.in_ok-insert.ensures.keys
    ∙ among-insert c.self.inside.sorted.keys c.args.name name)
