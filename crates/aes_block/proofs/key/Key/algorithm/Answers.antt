use Rattle.std.proofs.Common.{arith}
use Rattle.aes_block.proofs.WordsOfKeys.{expanded}
use Rattle.aes_block.proofs.key.Key.algorithm.Goals as goal

pub returns-in-4-clause-key : goal.returns-in-4-clause-key
returns-in-4-clause-key c = (expanded c.self.inside.nk c.self.inside.words c.args.self.now c.self.invariant.0 c.self.told c.self.invariant.1 c.self.view_is).is_key

pub returns-in-4-clause-aes_192 : goal.returns-in-4-clause-aes_192
returns-in-4-clause-aes_192 c = λ e. let key = expanded c.self.inside.nk c.self.inside.words c.args.self.now c.self.invariant.0 c.self.told c.self.invariant.1 c.self.view_is in let is = c.self.invariant in absurd (omega (arith, c.in-4))

pub returns-in-4-clause-aes_256 : goal.returns-in-4-clause-aes_256
returns-in-4-clause-aes_256 c = λ e. let key = expanded c.self.inside.nk c.self.inside.words c.args.self.now c.self.invariant.0 c.self.told c.self.invariant.1 c.self.view_is in let is = c.self.invariant in absurd (omega (arith, c.in-4))

pub returns-in-6-clause-key : goal.returns-in-6-clause-key
returns-in-6-clause-key c = (expanded c.self.inside.nk c.self.inside.words c.args.self.now c.self.invariant.0 c.self.told c.self.invariant.1 c.self.view_is).is_key

pub returns-in-6-clause-aes_128 : goal.returns-in-6-clause-aes_128
returns-in-6-clause-aes_128 c = λ e. let key = expanded c.self.inside.nk c.self.inside.words c.args.self.now c.self.invariant.0 c.self.told c.self.invariant.1 c.self.view_is in let is = c.self.invariant in absurd (omega (arith, c.in-6))

pub returns-in-6-clause-aes_256 : goal.returns-in-6-clause-aes_256
returns-in-6-clause-aes_256 c = λ e. let key = expanded c.self.inside.nk c.self.inside.words c.args.self.now c.self.invariant.0 c.self.told c.self.invariant.1 c.self.view_is in let is = c.self.invariant in absurd (omega (arith, c.in-6))

pub returns-in_default-clause-key : goal.returns-in_default-clause-key
returns-in_default-clause-key c = (expanded c.self.inside.nk c.self.inside.words c.args.self.now c.self.invariant.0 c.self.told c.self.invariant.1 c.self.view_is).is_key

pub returns-in_default-clause-aes_128 : goal.returns-in_default-clause-aes_128
returns-in_default-clause-aes_128 c = λ e. let key = expanded c.self.inside.nk c.self.inside.words c.args.self.now c.self.invariant.0 c.self.told c.self.invariant.1 c.self.view_is in let is = c.self.invariant in absurd (omega (arith, c.in_default))

pub returns-in_default-clause-aes_192 : goal.returns-in_default-clause-aes_192
returns-in_default-clause-aes_192 c = λ e. let key = expanded c.self.inside.nk c.self.inside.words c.args.self.now c.self.invariant.0 c.self.told c.self.invariant.1 c.self.view_is in let is = c.self.invariant in absurd (omega (arith, c.in_default))
