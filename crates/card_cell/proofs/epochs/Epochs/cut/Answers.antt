use Rattle.std.proofs.Common.{◌<◌, ◌-◌, ◌^◌, refl, rules}
use Rattle.piv_model.specs.declared.kinds.Interface.TheVariants.{Contact, Contactless}
use Rattle.card_cell.proofs.epochs.Epochs.cut.Goals as goal

pub returns : goal.returns
returns c Contact = refl
returns c Contactless = refl

pub overflow_add-self : goal.overflow_add-self
overflow_add-self c = let few : c.args.self.now.contact < 2 ^ 32 - 1 = c.requires Contact in search rules

pub overflow_add-self-2 : goal.overflow_add-self-2
overflow_add-self-2 c = let few : c.args.self.now.contactless < 2 ^ 32 - 1 = c.requires Contactless in search rules
