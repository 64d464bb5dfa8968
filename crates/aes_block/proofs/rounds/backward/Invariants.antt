use Rattle.std.proofs.Common.{◌≡◌, ◌+◌, ◌-◌, List, ℕ, length}
use Rattle.piv_model.specs.Cipher.{state_after, all_rounds}
use Rattle.aes_block.specs.Words.{all_bytes_of, schedule_of}
use Rattle.aes_block.proofs.rounds.backward.Given as goal

-- a block that comes to this state is the one that is looked for
abbrev pub invariant-loop-undone : goal.invariant-loop-undone
invariant-loop-undone l =
    let ws = schedule_of l.nk l.words in
    record {
      size : length l.state ≡ 4;
      back : (x : List ℕ) → state_after ws x (l.nk + 5 - l.undone) ≡ all_bytes_of l.state → all_rounds l.nk ws x ≡ l.block;
    }
