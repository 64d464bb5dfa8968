use Rattle.card_image.proofs.WrittenReferences.{global_added}
use Rattle.card_image.proofs.references.add_global.Goals as goal

pub returns : goal.returns
returns c m spells = global_added c.args.bytes.now c.write_reference.new.bytes c.args.pin.now c.args.limit m c.write_reference.ensures.here c.write_reference.ensures.others spells
