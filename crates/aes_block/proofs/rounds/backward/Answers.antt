use Rattle.std.proofs.Common.{◌≡◌, ◌+◌, ◌-◌, ◌*◌, arith, rules, ap, sym, ◌∙◌}
use Rattle.piv_model.specs.Cipher.{add_bytes, state_after}
use Rattle.piv_model.proofs.CipherBytes.{block_of}
use Rattle.aes_block.specs.Words.{all_bytes_of, schedule_of}
use Rattle.aes_block.proofs.WordLemmas.{sized, all_bytes_of-bytes, add_words-twice}
use Rattle.aes_block.proofs.RoundSteps.{round_key_of, state-first, undo_step, undo_last}
use Rattle.aes_block.proofs.rounds.backward.Goals as goal

pub loop-undone-init : goal.loop-undone-init
loop-undone-init c = record {
  size = search rules;
  back = λ x at.
      let key = ap all_bytes_of c.round_key.ensures ∙ round_key_of (4 * (c.args.nk + 7)) c.args.words.now (c.args.nk + 6) (omega arith) (omega arith) in
      let twice = add_words-twice (sized 4 c.load.result (search rules)) (sized 4 c.round_key.result (search rules)) in
      let whole : c.args.nk + 5 - 0 ≡ c.args.nk + 5 = omega arith in
      undo_last c.args.nk _ x _ _ _ _ key twice c.add.ensures c.unsubstituted_rows-state.ensures (rw whole at at)
      ∙ c.load.ensures;
}

pub loop-undone-preserved : goal.loop-undone-preserved
loop-undone-preserved c = record {
  size = search rules;
  back = λ x at.
      let key = ap all_bytes_of c.round_key-in-loop-undone.ensures ∙ round_key_of (4 * (c.args.nk + 7)) c.args.words.now (c.args.nk + 5 - c.loop-undone.undone) (omega arith) (omega arith) in
      let twice = add_words-twice (sized 4 c.loop-undone.state c.loop-undone.invariant.size) (sized 4 c.round_key-in-loop-undone.result (search rules)) in
      let next : c.args.nk + 5 - c.loop-undone.undone ≡ c.args.nk + 5 - (c.loop-undone.undone + 1) + 1 = omega arith in
      c.loop-undone.invariant.back x (undo_step _ x _ _ _ _ _ _ _ next key twice c.add-mixed.ensures c.unmixed_columns.ensures c.unsubstituted_rows-earlier.ensures at);
}

pub returns-clause-block : goal.returns-clause-block
returns-clause-block c = rw c.store.ensures (block_of (all_bytes_of-bytes (sized 4 c.add-2.result (search rules))))

pub returns-clause-back : goal.returns-clause-back
returns-clause-back c =
    let ws = schedule_of c.args.nk c.args.words.now in
    let end : c.args.nk + 5 - c.loop-undone.undone ≡ 0 = omega arith in
    let key = ap all_bytes_of c.round_key-2.ensures ∙ round_key_of (4 * (c.args.nk + 7)) c.args.words.now 0 (omega arith) (omega arith) in
    let twice = add_words-twice (sized 4 c.loop-undone.state c.loop-undone.invariant.size) (sized 4 c.round_key-2.result (search rules)) in
    c.loop-undone.invariant.back c.store.result
    (ap (state_after ws c.store.result) end ∙ state-first ws c.store.result
    ∙ (λ i. add_bytes ((c.store.ensures ∙ c.add-2.ensures) i) ((sym key) i)) ∙ twice)
