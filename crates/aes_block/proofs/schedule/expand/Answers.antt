use Rattle.std.proofs.Common.{◌≡◌, [], refl, ◌∙◌, arith, length-set}
use Rattle.aes_block.proofs.WordsOfKeys.{words-zero, words-more, early_word, late_word, key_bytes-zero, key_bytes-more, key_bytes-whole, key_bytes-kept}
use Rattle.aes_block.proofs.schedule.expand.Goals as goal

pub given-init : goal.given-init
given-init c = record { all = words-zero c.args.nk c.args.key.now []; key = key_bytes-zero c.args.key.now []; size = refl }

pub given-preserved : goal.given-preserved
given-preserved c =
    let size = c.given.invariant.size in
    record {
      all = words-more c.args.nk c.args.key.now c.given.i c.given.words c.key_word.result (omega arith) c.given.invariant.all
          (c.key_word.ensures ∙ early_word c.args.nk c.args.key.now c.given.i _ c.given-test.true);
      key = key_bytes-more c.args.key.now c.given.i c.given.words c.key_word.result (omega arith) (omega arith) c.given.invariant.key c.key_word.ensures;
      size = rw length-set size;
    }

pub derived-init : goal.derived-init
derived-init c =
    let end : c.given.i ≡ c.args.nk = omega arith in
    record {
      all = rw end at c.given.invariant.all;
      key = key_bytes-whole c.args.nk c.args.key.now c.given.words c.requires.long (rw end at c.given.invariant.key);
      size = c.given.invariant.size;
    }

pub derived-preserved : goal.derived-preserved
derived-preserved c =
    let size = c.derived.invariant.size in
    let past = c.derived.auto.i in
    record {
      all = words-more c.args.nk c.args.key.now c.derived.i c.derived.words _ (omega arith) c.derived.invariant.all
          (late_word c.args.nk c.args.key.now c.derived.i c.derived.words c.term.result (omega arith) past (omega arith) c.derived.invariant.all c.term.ensures);
      key = key_bytes-kept c.args.nk c.args.key.now c.derived.i c.derived.words _ past c.derived.invariant.key;
      size = rw length-set size;
    }
