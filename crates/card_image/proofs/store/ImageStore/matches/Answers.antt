use Rattle.card_image.proofs.Changing.{matched}
use Rattle.card_image.proofs.store.ImageStore.matches.Goals as goal

pub returns : goal.returns
returns g c = matched g.O.Objects.form (g.N.Nvm.state c.args.self.now.nvm).bytes c.read_references.result c.has_secret.result c.args.t.reference c.args.candidate.now c.read_references.ensures.references c.has_secret.ensures
