use Rattle.std.proofs.Common.{◌∙◌}
use Rattle.aes_block.proofs.WordsOfKeys.{expanded}
use Rattle.aes_block.proofs.key.Key.encrypt.Goals as goal

pub returns : goal.returns
returns c =
    let key = expanded c.self.inside.nk c.self.inside.words c.args.self.now c.self.invariant.0 c.self.told c.self.invariant.1 c.self.view_is in
    c.forward.ensures ∙ key.cipher c.args.block.now
