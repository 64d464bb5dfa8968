use Rattle.std.proofs.Common.{◌≡◌, drop}
use Rattle.client_api.specs.Readers.{reader_of}
use Rattle.client_api.proofs.readers.Readers.find.Given as goal

abbrev pub invariant-loop-r : goal.invariant-loop-r
invariant-loop-r l = reader_of l.r-items l.name ≡ reader_of (drop l.r-index l.r-items) l.name
