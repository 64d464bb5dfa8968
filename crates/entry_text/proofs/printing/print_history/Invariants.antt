use Rattle.std.proofs.Common.{Ok, take}
use Rattle.std.specs.Prelude.{reverse}
use Rattle.std.specs.List.{flat_map, AllByRecursion}
use Rattle.entry_text.specs.EntryTexts.{IsEntry, entry_line}
use Rattle.piv_ports.specs.Writes.{Writes}
use Rattle.entry_text.proofs.printing.print_history.Given as goal

abbrev pub invariant-entries : goal.invariant-entries
invariant-entries g l =
    Writes g.K.Sink.taken g.K.Sink.flushed g.K.Sink.faults (flat_map entry_line (take l.k (reverse l.h.past))) l.initial.sink l.sink (Ok tt)
    × AllByRecursion IsEntry (take l.k (reverse l.h.past))
