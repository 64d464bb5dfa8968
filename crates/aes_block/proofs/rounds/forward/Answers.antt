use Rattle.std.proofs.Common.{◌≡◌, ◌+◌, ◌*◌, arith, ap, sym, ◌∙◌}
use Rattle.piv_model.specs.Cipher.{add_bytes, sub_bytes, shift_rows, mix_columns, state_after}
use Rattle.aes_block.specs.Words.{all_bytes_of, schedule_of}
use Rattle.aes_block.proofs.RoundSteps.{round_key_of, state-first, state-next, all_rounds-last}
use Rattle.aes_block.proofs.rounds.forward.Goals as goal

pub loop-done-init : goal.loop-done-init
loop-done-init c =
    let key = ap all_bytes_of c.round_key.ensures ∙ round_key_of (4 * (c.args.nk + 7)) c.args.words.now 0 (omega arith) (omega arith) in
    c.add-state.ensures ∙ (λ i. add_bytes (c.load.ensures i) (key i)) ∙ sym (state-first (schedule_of c.args.nk c.args.words.now) c.args.block.now)

pub loop-done-preserved : goal.loop-done-preserved
loop-done-preserved c =
    let key = ap all_bytes_of c.round_key-in-loop-done.ensures ∙ round_key_of (4 * (c.args.nk + 7)) c.args.words.now (c.loop-done.done + 1) (omega arith) (omega arith) in
    c.mixed_round-next.ensures ∙ (λ i. add_bytes (mix_columns (shift_rows (sub_bytes (c.loop-done.invariant i)))) (key i))
    ∙ sym (state-next (schedule_of c.args.nk c.args.words.now) c.args.block.now c.loop-done.done)

pub returns : goal.returns
returns c =
    let ws = schedule_of c.args.nk c.args.words.now in
    let end : c.loop-done.done ≡ c.args.nk + 5 = let upper = c.loop-done.auto.done-end in omega arith in
    let key = ap all_bytes_of c.round_key-2.ensures ∙ round_key_of (4 * (c.args.nk + 7)) c.args.words.now (c.args.nk + 6) (omega arith) (omega arith) in
    let last = c.loop-done.invariant ∙ ap (state_after ws c.args.block.now) end in
    c.store.ensures ∙ c.last_round.ensures ∙ (λ i. add_bytes (shift_rows (sub_bytes (last i))) (key i)) ∙ sym (all_rounds-last c.args.nk ws c.args.block.now)
