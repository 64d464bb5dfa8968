use Rattle.std.proofs.Common.{◌≡◌, ◌≤◌, ℕ, List, arith, length, ap, ◌∙◌, subst}
use Rattle.nvm_device.specs.Device.{Torn, written}
use Rattle.nvm_slots.proofs.LayingLaws.{laying_none}
use Rattle.card_image.specs.Laying.{header_area, header_pieces, header_end}
use Rattle.nvm_slots.proofs.Calls.{rows_enough}
use Rattle.card_image.proofs.Marked.{fell_head, fell_objects, marked, mark_lost, values_short, values_room}
use Rattle.card_image.proofs.personalising.lay_start.Goals as goal

pub lay_objects-requires-clause-short : goal.lay_objects-requires-clause-short
lay_objects-requires-clause-short g c = values_short c.args.start.now c.requires.spells

pub lay_objects-requires-clause-room : goal.lay_objects-requires-clause-room
lay_objects-requires-clause-room g c = values_room c.args.start.now c.requires.spells

enough_header : (n : ℕ) → 1114112 ≤ n → 256 ≤ n
enough_header n le = omega arith

pub returns-in-Err-clause-fell : goal.returns-in-Err-clause-fell
returns-in-Err-clause-fell g c =
    let s = g.N.Nvm.state c.args.nvm.now in
    let start = c.args.start.now in
    let form = g.O.Objects.form in
    let is_form = g.met.O.Objects.is_form in
    let none = laying_none header_area s (enough_header s.size c.requires.size) (g.met.N.Nvm.row_size c.args.nvm.now) in
    fell_head form is_form start s (g.N.Nvm.state c.lay_header.new.nvm) (c.in-Err.ensures.fell s none)

pub returns-in-Err-lay_objects-clause-fell : goal.returns-in-Err-lay_objects-clause-fell
returns-in-Err-lay_objects-clause-fell g c =
    let s = g.N.Nvm.state c.args.nvm.now in
    let start = c.args.start.now in
    let form = g.O.Objects.form in
    let is_form = g.met.O.Objects.is_form in
    let none = laying_none header_area s (enough_header s.size c.requires.size) (g.met.N.Nvm.row_size c.args.nvm.now) in
    fell_objects form is_form start (header_pieces c.args.first start c.start_references-references.result) (header_end c.args.first) s (g.N.Nvm.state c.lay_header.new.nvm) (g.N.Nvm.state c.lay_objects.new.nvm) (c.in-Ok.ensures.laid s none) c.in-Err-lay_objects.ensures.fell

pub returns-in-Err-write-clause-fell : goal.returns-in-Err-write-clause-fell
returns-in-Err-write-clause-fell g c =
    let s = g.N.Nvm.state c.args.nvm.now in
    let start = c.args.start.now in
    let form = g.O.Objects.form in
    let is_form = g.met.O.Objects.is_form in
    let none = laying_none header_area s (enough_header s.size c.requires.size) (g.met.N.Nvm.row_size c.args.nvm.now) in
    mark_lost form is_form start c.args.first c.start_references-references.result c.in-Ok.ensures.lengths c.start_references-references.ensures c.requires.none c.requires.spells (header_end c.args.first) s (g.N.Nvm.state c.lay_header.new.nvm) (g.N.Nvm.state c.lay_objects.new.nvm) (g.N.Nvm.state c.write.new.self) (rows_enough 1114112 s.size s.bytes c.requires.size (g.met.N.Nvm.row_size c.args.nvm.now)) (c.in-Ok.ensures.laid s none) c.in-Ok-lay_objects.ensures.laid
    (subst (λ n. Torn 0 n (g.N.Nvm.state c.lay_objects.new.nvm) (g.N.Nvm.state c.write.new.self)) (ap (λ (l : List ℕ). length l) c.mark.ensures ∙ is_form.mark_size) c.in-Err-write.ensures.lost)

pub returns-in-Ok-write-clause-personal : goal.returns-in-Ok-write-clause-personal
returns-in-Ok-write-clause-personal g c =
    let s = g.N.Nvm.state c.args.nvm.now in
    let start = c.args.start.now in
    let form = g.O.Objects.form in
    let is_form = g.met.O.Objects.is_form in
    let none = laying_none header_area s (enough_header s.size c.requires.size) (g.met.N.Nvm.row_size c.args.nvm.now) in
    marked form is_form start c.args.first c.start_references-references.result c.in-Ok.ensures.lengths c.start_references-references.ensures c.requires.none c.requires.spells (header_end c.args.first) s (g.N.Nvm.state c.lay_header.new.nvm) (g.N.Nvm.state c.lay_objects.new.nvm) (g.N.Nvm.state c.write.new.self) (rows_enough 1114112 s.size s.bytes c.requires.size (g.met.N.Nvm.row_size c.args.nvm.now)) (c.in-Ok.ensures.laid s none) c.in-Ok-lay_objects.ensures.laid
    (subst (λ (m : List ℕ). g.N.Nvm.state c.write.new.self ≡ written 1 0 m (g.N.Nvm.state c.lay_objects.new.nvm)) c.mark.ensures c.in-Ok-write.ensures.ok)
