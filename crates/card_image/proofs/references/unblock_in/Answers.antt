use Rattle.std.proofs.Common.{refl}
use Rattle.card_image.proofs.Counters.{unblocked_in}
use Rattle.piv_model.specs.declared.kinds.RefId.TheVariants.{Puk}
use Rattle.piv_model.specs.Changes.{change_reference, full}
use Rattle.card_image.proofs.references.unblock_in.Goals as goal

pub returns : goal.returns
returns c = λ m spells. unblocked_in c.fill_in.new.bytes c.renew_in.new.bytes c.args.pin.now m (c.fill_in.ensures m spells refl) (λ here. c.renew_in.ensures (change_reference Puk full m) here refl)
