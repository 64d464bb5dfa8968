use Rattle.std.proofs.Common.{List, ℕ, subst}
use Rattle.nvm_slots.specs.Slots.{Kept, Cut, Replaced, ReplacedOrNot}
use Rattle.nvm_slots.specs.declared.twin.Twin.{Twin}
use Rattle.twin_store.specs.Twins.{object_twin}
use Rattle.twin_store.proofs.Objects.{has_object, may_have_object, before_put}
use Rattle.twin_store.proofs.records.put_value.Goals as goal

pub returns-in-Ok-clause-ok : goal.returns-in-Ok-clause-ok
returns-in-Ok-clause-ok g c =
    let s = g.N.Nvm.state c.args.nvm.now in
    let t = g.N.Nvm.state c.replace.new.nvm in
    let v : List ℕ = c.args.value.now in
    let before = before_put s.bytes s.size c.requires.size (g.met.N.Nvm.row_size c.args.nvm.now) c.requires.keeps in
    has_object c.args.place v s t c.requires.place c.requires.short before
    (subst (λ (b : List ℕ). Kept 2 (Replaced (object_twin c.args.place) b) s t) c.spell-bytes.ensures (subst (λ (twin : Twin). Kept 2 (Replaced twin c.spell-bytes.result.now) s t) c.object-twin.ensures c.in-Ok.ensures.ok))

pub returns-in-Err-clause-lost : goal.returns-in-Err-clause-lost
returns-in-Err-clause-lost g c =
    let s = g.N.Nvm.state c.args.nvm.now in
    let t = g.N.Nvm.state c.replace.new.nvm in
    let v : List ℕ = c.args.value.now in
    let before = before_put s.bytes s.size c.requires.size (g.met.N.Nvm.row_size c.args.nvm.now) c.requires.keeps in
    may_have_object c.args.place v s t c.requires.place c.requires.short before
    (subst (λ (b : List ℕ). Cut 2 (ReplacedOrNot (object_twin c.args.place) b) s t) c.spell-bytes.ensures (subst (λ (twin : Twin). Cut 2 (ReplacedOrNot twin c.spell-bytes.result.now) s t) c.object-twin.ensures c.in-Err.ensures.lost))
