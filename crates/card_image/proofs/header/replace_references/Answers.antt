use Rattle.std.proofs.Common.{List, ℕ, sym, subst}
use Rattle.nvm_slots.specs.Slots.{IsRecordIn, IsDisjoint}
use Rattle.card_image.proofs.Heads.{has_references, may_have_references, before_by, record_in, disjoint}
use Rattle.card_image.proofs.header.replace_references.Goals as goal

pub replace-requires-clause-record_in : goal.replace-requires-clause-record_in
replace-requires-clause-record_in g c = subst (IsRecordIn _) (sym c.references-twin.ensures) (record_in c.has_first_layout.result _ c.requires.size)

pub replace-requires-clause-disjoint : goal.replace-requires-clause-disjoint
replace-requires-clause-disjoint g c = subst IsDisjoint (sym c.references-twin.ensures) (disjoint c.has_first_layout.result)

pub returns-in-Ok-clause-ok : goal.returns-in-Ok-clause-ok
returns-in-Ok-clause-ok g c =
    let s = g.N.Nvm.state c.args.nvm.now in
    let bytes : List ℕ = c.args.bytes.now in
    let before = before_by c.has_first_layout.result bytes s.size s.bytes (g.met.N.Nvm.row_size c.args.nvm.now) c.has_first_layout.ensures c.requires.layout in
    has_references c.has_first_layout.result bytes c.told-bytes s (g.N.Nvm.state c.replace.new.nvm) c.requires.size before c.references-twin.result c.references-twin.ensures c.in-Ok.ensures.ok

pub returns-in-Err-clause-lost : goal.returns-in-Err-clause-lost
returns-in-Err-clause-lost g c =
    let s = g.N.Nvm.state c.args.nvm.now in
    let bytes : List ℕ = c.args.bytes.now in
    let before = before_by c.has_first_layout.result bytes s.size s.bytes (g.met.N.Nvm.row_size c.args.nvm.now) c.has_first_layout.ensures c.requires.layout in
    may_have_references c.has_first_layout.result bytes c.told-bytes s (g.N.Nvm.state c.replace.new.nvm) c.requires.size before c.references-twin.result c.references-twin.ensures c.in-Err.ensures.lost
