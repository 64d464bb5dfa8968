use Rattle.card_image.proofs.ObjectsPut.{room_by, no_room}
use Rattle.card_image.proofs.room.has_room.Goals as goal

pub returns-then-value-gt-LONGEST_OBJECT-clause-told : goal.returns-then-value-gt-LONGEST_OBJECT-clause-told
returns-then-value-gt-LONGEST_OBJECT-clause-told g c = no_room g.O.Objects.form c.args.value.now (g.N.Nvm.state c.args.nvm.now).bytes c.if-value-gt-LONGEST_OBJECT.true

pub returns-clause-told : goal.returns-clause-told
returns-clause-told g c = room_by g.O.Objects.form c.args.value.now c.blocks-2.result c.blocks_of_all.result c.read_budget.result (g.N.Nvm.state c.args.nvm.now).bytes c.if-value-gt-LONGEST_OBJECT.false c.blocks-2.ensures.blocks c.blocks_of_all.ensures.told c.read_budget.ensures
