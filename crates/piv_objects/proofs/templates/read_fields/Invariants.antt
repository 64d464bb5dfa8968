-- What is left holds what is still to be added, and falls.
use Rattle.std.proofs.Common.{length}
use Rattle.std.specs.Prelude.{◌↔◌}
use Rattle.ber_tlv.specs.Cursors.{left}
use Rattle.piv_objects.specs.Templates.{Fields, fields_of}
use Rattle.piv_objects.proofs.Onward.{Reads, nothing}
use Rattle.piv_objects.proofs.templates.read_fields.Given as goal

abbrev pub invariant-loop-field : goal.invariant-loop-field
invariant-loop-field l = (fields : Fields) → Reads (left l.cursor) (fields_of l.found) fields ↔ Reads l.bytes nothing fields

abbrev pub decreases-loop-field : goal.decreases-loop-field
decreases-loop-field l = length (left l.cursor)
