use Rattle.std.proofs.Common.{◌+◌, ◌*◌, arith}
use Rattle.challenge_blocks.proofs.BlockLaws.{four-words, at-place}
use Rattle.challenge_blocks.proofs.blocks.block_from.Goals as goal

pub returns-clause-block : goal.returns-clause-block
returns-clause-block c key n few at =
    let p = c.word_from.ensures.moved key (4 * n) (omega arith) at in
    let q = at-place _ key (4 * n + 1 + 1) (4 * n + 2) (c.word_from-2.ensures.moved key (4 * n + 1) (omega arith) p) (omega arith) in
    let r = at-place _ key (4 * n + 2 + 1) (4 * n + 3) (c.word_from-3.ensures.moved key (4 * n + 2) (omega arith) q) (omega arith) in
    four-words key (4 * n) c.word_from.result c.word_from-2.result c.word_from-3.result c.word_from-4.result
    (c.word_from.ensures.word key (4 * n) (omega arith) at) (c.word_from-2.ensures.word key (4 * n + 1) (omega arith) p) (c.word_from-3.ensures.word key (4 * n + 2) (omega arith) q) (c.word_from-4.ensures.word key (4 * n + 3) (omega arith) r)

pub returns-clause-moved : goal.returns-clause-moved
returns-clause-moved c key n few at =
    let p = c.word_from.ensures.moved key (4 * n) (omega arith) at in
    let q = c.word_from-2.ensures.moved key (4 * n + 1) (omega arith) p in
    let r = c.word_from-3.ensures.moved key (4 * n + 1 + 1) (omega arith) q in
    at-place _ key (4 * n + 1 + 1 + 1 + 1) (4 * (n + 1)) (c.word_from-4.ensures.moved key (4 * n + 1 + 1 + 1) (omega arith) r) (omega arith)
