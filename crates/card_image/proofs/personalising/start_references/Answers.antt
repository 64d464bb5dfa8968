use Rattle.std.proofs.Common.{inl, ◌∙◌, arith}
use Rattle.card_image.proofs.WrittenReferences.{global_is}
use Rattle.card_image.proofs.personalising.start_references.Goals as goal

pub returns : goal.returns
returns c = record {
  size = c.write_reference-3.ensures.size;
  pin = c.write_reference-3.ensures.others 0 (inl (omega arith)) ∙ c.write_reference-2.ensures.others 0 (inl (omega arith)) ∙ c.write_reference.ensures.here;
  puk = c.write_reference-3.ensures.others 10 (inl (omega arith)) ∙ c.write_reference-2.ensures.here;
  global = global_is c.write_reference-3.new.bytes c.args.start.now.global.limit c.args.start.now.global.pin c.write_reference-3.ensures.here;
}
