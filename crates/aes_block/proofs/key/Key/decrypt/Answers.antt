use Rattle.std.proofs.Common.{sym, ◌∙◌}
use Rattle.piv_model.specs.Cipher.{Deciphers}
use Rattle.aes_block.proofs.Inverse.{only_source}
use Rattle.aes_block.proofs.WordsOfKeys.{expanded}
use Rattle.aes_block.proofs.key.Key.decrypt.Goals as goal

pub returns-clause-value : goal.returns-clause-value
returns-clause-value c =
    let key = expanded c.self.inside.nk c.self.inside.words c.args.self.now c.self.invariant.0 c.self.told c.self.invariant.1 c.self.view_is in
    record { block = c.backward.ensures.block; back = sym (key.cipher c.backward.result) ∙ c.backward.ensures.back }

pub returns-clause-only : goal.returns-clause-only
returns-clause-only c = λ x d.
    let key = expanded c.self.inside.nk c.self.inside.words c.args.self.now c.self.invariant.0 c.self.told c.self.invariant.1 c.self.view_is in
    let own : Deciphers c.args.self.now c.args.block.now c.backward.result = record { block = c.backward.ensures.block; back = sym (key.cipher c.backward.result) ∙ c.backward.ensures.back } in
    only_source c.args.self.now c.args.block.now x c.backward.result key.is_key d own
