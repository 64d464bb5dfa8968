use Rattle.std.proofs.Common.{sym}
use Rattle.std.proofs.lemmas.List.{append-nil}
use Rattle.piv_cli.proofs.TextLemmas.{encode_upper-none, encode_upper_more}
use Rattle.piv_cli.proofs.hexadecimal.add_line.Goals as goal

pub loop-b-init : goal.loop-b-init
loop-b-init c = rw encode_upper-none (sym (append-nil c.args.out.now.items))

pub loop-b-preserved : goal.loop-b-preserved
loop-b-preserved c = encode_upper_more c.args.out.now.items c.loop-b.out.items _ c.args.bytes.now c.loop-b.b-index 0 c.loop-b-test.true c.loop-b.invariant c.in_ok-push_byte.ensures
