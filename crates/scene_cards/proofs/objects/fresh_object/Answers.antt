use Rattle.std.proofs.Common.{sym, ◌∙◌}
use Rattle.scene_cards.proofs.ObjectLaws.{fresh-taken, fresh-free}
use Rattle.scene_cards.proofs.objects.fresh_object.Goals as goal

pub returns-then-has_place : goal.returns-then-has_place
returns-then-has_place c = sym (fresh-taken c.args.before.now c.args.tag.now c.in-Some.id c.place.result c.has_place.result (sym c.object_by_tag.ensures ∙ c.in-Some.is) c.place.ensures.value c.has_place.ensures c.if-has_place.true)

pub returns-else-has_place : goal.returns-else-has_place
returns-else-has_place c = sym (fresh-free c.args.before.now c.args.tag.now c.in-Some.id c.place.result c.has_place.result (sym c.object_by_tag.ensures ∙ c.in-Some.is) c.place.ensures.value c.has_place.ensures c.if-has_place.false)
