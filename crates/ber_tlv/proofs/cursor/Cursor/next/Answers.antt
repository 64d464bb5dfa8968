-- What is read begins at the cursor's place, and what follows it is what the cursor has left.
use Rattle.std.proofs.Common.{refl, ◌∙◌}
use Rattle.ber_tlv.specs.Cursors.{element_of}
use Rattle.ber_tlv.proofs.Places.{Stands, stands, rest_at, value_at_place}
use Rattle.ber_tlv.proofs.cursor.Cursor.next.Goals as goal

stood : (c : goal.After-self-1) → Stands c.self.inside.bytes.now c.in-Ok.tlv.value.now c.in-Ok.rest.now
stood c = stands c.self.inside.bytes.now c.rest-bytes.result.now c.self.inside.at (element_of c.in-Ok.tlv) c.in-Ok.rest.now (c.rest-bytes.ensures ∙ rw (← c.self.view_is) refl) c.in-Ok.ensures.found

pub returns-in-Ok-clause-found : goal.returns-in-Ok-clause-found
returns-in-Ok-clause-found c =
    rw (rest_at c.self.inside.bytes.now c.in-Ok.tlv.value.now c.in-Ok.rest.now (stood c), ← c.rest-bytes.ensures) c.in-Ok.ensures.found

pub returns-in-Ok-clause-lent : goal.returns-in-Ok-clause-lent
returns-in-Ok-clause-lent c =
    value_at_place c.self.inside.bytes.now c.in-Ok.tlv.value.now c.in-Ok.rest.now _ (stood c) refl

pub returns-in-Err-clause-err : goal.returns-in-Err-clause-err
returns-in-Err-clause-err c = rw (← c.rest-bytes.ensures) c.in-Err.ensures.none
