use Rattle.std.proofs.Common.{◌≡◌}
use Rattle.piv_model.specs.Cipher.{state_after}
use Rattle.aes_block.specs.Words.{all_bytes_of, schedule_of}
use Rattle.aes_block.proofs.rounds.forward.Given as goal

abbrev pub invariant-loop-done : goal.invariant-loop-done
invariant-loop-done l = all_bytes_of l.state ≡ state_after (schedule_of l.nk l.words) l.block l.done
