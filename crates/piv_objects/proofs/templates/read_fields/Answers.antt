-- One element after the other, to the end or to the first that can't be added.
use Rattle.std.proofs.Common.{◌≡◌, ◌≢◌, [], refl}
use Rattle.ber_tlv.specs.Cursors.{left, element_of}
use Rattle.piv_objects.specs.Templates.{fields_of}
use Rattle.piv_objects.proofs.Begins.{err_ok}
use Rattle.piv_objects.proofs.Onward.{Holds-Reads, reads_more, reads_end, reads_no_more, reads_none}
use Rattle.piv_objects.proofs.templates.read_fields.Goals as goal

pub loop-field-preserved : goal.loop-field-preserved
loop-field-preserved c = λ fields.
    let begins = rw c.in-Ok-Some.field-0-is at c.in-Ok-Some.ensures.found in
    let step = reads_more (left c.loop-field.cursor) (element_of c.in-Ok-Some.field) (left c.next.new.self) (fields_of c.loop-field.found) (fields_of c.in-Ok.fields) begins c.in-Ok.ensures.ok fields in
    let so_far = c.loop-field.invariant fields in
    (λ h. so_far.0 (step.1 h), λ h. step.0 (so_far.1 h))

pub returns-in-Err-with_field-clause-err : goal.returns-in-Err-with_field-clause-err
returns-in-Err-with_field-clause-err c = λ fields h.
    let begins = rw c.in-Ok-Some.field-0-is at c.in-Ok-Some.ensures.found in
    reads_no_more (left c.loop-field.cursor) (element_of c.in-Ok-Some.field) (left c.next.new.self) (fields_of c.loop-field.found) begins c.in-Err-with_field.ensures.err fields ((c.loop-field.invariant fields).1 ((Holds-Reads c.args.bytes.now fields).0 h))

pub returns-in-Ok-None-clause-ok : goal.returns-in-Ok-None-clause-ok
returns-in-Ok-None-clause-ok c =
    let found = fields_of c.loop-field.found in
    let ended : left c.loop-field.cursor ≡ [] = c.in-Ok-None.ensures.end.0 (rw c.in-Ok-None.field-0-is refl) in
    (Holds-Reads c.args.bytes.now found).1 ((c.loop-field.invariant found).0 (reads_end (left c.loop-field.cursor) found ended))

pub returns-in-Err-clause-err : goal.returns-in-Err-clause-err
returns-in-Err-clause-err c = λ fields h.
    let some : left c.loop-field.cursor ≢ [] = λ e. err_ok _ _ (c.in-Err.ensures.end.1 e) in
    reads_none (left c.loop-field.cursor) (fields_of c.loop-field.found) some c.in-Err.ensures.err fields ((c.loop-field.invariant fields).1 ((Holds-Reads c.args.bytes.now fields).0 h))
