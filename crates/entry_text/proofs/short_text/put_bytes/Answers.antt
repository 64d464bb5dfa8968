use Rattle.std.proofs.Common.{sym, arith}
use Rattle.std.proofs.lemmas.List.{append-nil}
use Rattle.entry_text.proofs.HexSteps.{encode_upper-none, encode_upper_more}
use Rattle.entry_text.proofs.short_text.put_bytes.Goals as goal

pub loop-byte-init : goal.loop-byte-init
loop-byte-init c = record { items = rw encode_upper-none (sym (append-nil c.args.out.now.items)); len = omega arith }

pub loop-byte-preserved : goal.loop-byte-preserved
loop-byte-preserved c = record {
  items = encode_upper_more c.args.out.now.items c.loop-byte.out.items _ c.args.bytes.now c.loop-byte.byte-index 0 c.loop-byte-test.true c.loop-byte.invariant.items c.put_byte.ensures.items;
  len = let more = c.put_byte.ensures.len in let before = c.loop-byte.invariant.len in omega (arith, more, before);
}

pub returns-clause-bytes : goal.returns-clause-bytes
returns-clause-bytes c = λ i. let fits = c.type_inv.bytes i in omega (arith, fits)
