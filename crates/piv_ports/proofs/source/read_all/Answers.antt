use Rattle.std.proofs.Common.{◌≡◌, ◌<◌, ◌≤◌, ◌+◌, ◌++◌, length, take, drop, ap, ◌∙◌, arith, rules, length-append}
use Rattle.std.proofs.lemmas.List.{length-take, take-append-le}
use Rattle.std.proofs.lemmas.Result.{err_from_is_err_and}
use Rattle.piv_ports.proofs.Pieces.{AreFirst_twice, TakesAtMost-twice, after_first_bytes_twice, all_read, none_left}
use Rattle.piv_ports.proofs.source.read_all.Goals as goal
use Rattle.piv_ports.proofs.source.read_all.Goals.{then-room-lt-CHUNK, else-room-lt-CHUNK}

pub returns-then-n-eq0-clause-bytes : goal.returns-then-n-eq0-clause-bytes
returns-then-n-eq0-clause-bytes g c =
    let some : 0 < c.if-room-lt-CHUNK.want = elim c.if-room-lt-CHUNK.branch [ then-room-lt-CHUNK w ↦ omega arith | else-room-lt-CHUNK w ↦ omega arith ] in
    let room : 0 < length (take c.if-room-lt-CHUNK.want c.reads.chunk) = simp length-take (omega arith) in
    all_read _ _ c.reads.invariant.read (rw (← c.reads.invariant.rest)
    (none_left _ _ _ c.in-Ok.ensures.end room c.if-n-eq0.true))

pub reads-preserved : goal.reads-preserved
reads-preserved g c =
    let n = c.in-Ok.n in
    let fits : n ≤ length c.read.new.out = grind (arith, c.in-Ok.ensures.fits) in
    let items : c.extend_from_slice.new.self.items ≡ c.reads.bytes.items ++ take n c.read.new.out =
    c.in_ok-extend_from_slice-in-Ok.ensures.items
    ∙ ap (λ t. c.reads.bytes.items ++ t) (take-append-le n c.read.new.out (drop c.if-room-lt-CHUNK.want c.reads.chunk) fits) in
    let long : length c.extend_from_slice.new.self.items ≡ length c.reads.bytes.items + n = rw items (simp (length-append, length-take) (omega arith)) in
    record {
      room = grind (arith, c.in_ok-extend_from_slice-in-Ok.ensures.len);
      read = rw items (AreFirst_twice _ _ _ n fits c.reads.invariant.read (rw c.reads.invariant.rest at c.in-Ok.ensures.first));
      rest = rw (c.in-Ok.ensures.rest, c.reads.invariant.rest, long) (after_first_bytes_twice _ _ n);
      count = rw (c.in-Ok.ensures.count, c.reads.invariant.count, long) (omega arith);
      no_fault = search rules;
    }

pub returns-then-n-room-clause-taken : goal.returns-then-n-room-clause-taken
returns-then-n-room-clause-taken g c =
    let fits : c.in-Ok.n ≤ c.if-room-lt-CHUNK.want = grind (arith, c.in-Ok.ensures.fits, length-take) in
    let within : length c.reads.bytes.items + c.in-Ok.n ≤ c.args.most + 1 =
    elim c.if-room-lt-CHUNK.branch [ then-room-lt-CHUNK w ↦ grind (arith, fits, w.want-is, c.reads.invariant.room) | else-room-lt-CHUNK w ↦ grind (arith, fits, w.want-is, w.if-room-lt-CHUNK.false, c.reads.invariant.room) ] in
    TakesAtMost-twice _ _ _ _ _ _ _ _ _ within c.reads.invariant.rest c.in-Ok.ensures.rest c.reads.invariant.count c.in-Ok.ensures.count

pub returns-in_err-extend_from_slice-in-Ok-clause-taken : goal.returns-in_err-extend_from_slice-in-Ok-clause-taken
returns-in_err-extend_from_slice-in-Ok-clause-taken g c =
    let stop = err_from_is_err_and c.from_residual.result c.from_residual.ensures.1 in
    let within : length c.reads.bytes.items + c.in-Ok.n ≤ c.args.most = grind (arith, c.if-n-room.false, c.reads.invariant.room) in
    rw (stop.1, stop.2)
    (TakesAtMost-twice _ _ _ _ _ _ _ _ _ within c.reads.invariant.rest c.in-Ok.ensures.rest c.reads.invariant.count c.in-Ok.ensures.count)
