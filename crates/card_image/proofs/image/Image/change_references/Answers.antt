use Rattle.std.proofs.Common.{◌⊎◌, ℕ, List, ◌≤◌, subst, sym}
use Rattle.nvm_slots.specs.Slots.{Kept, Cut}
use Rattle.card_image.specs.Images.{HasReferences, MayHaveReferences}
use Rattle.card_image.proofs.Changing.{on_either, size_kept, references_stand, references_keys, references_changed, references_cut}
use Rattle.card_image.proofs.image.Image.change_references.Goals as goal

pub invariant_of-self : goal.invariant_of-self
invariant_of-self g c =
    let s = g.N.Nvm.state c.args.self.now.nvm in
    let t = g.N.Nvm.state c.replace_references.new.nvm in
    let bytes : List ℕ = c.args.bytes.now in
    let done : Kept 2 (HasReferences bytes) s t ⊎ Cut 2 (MayHaveReferences bytes) s t = on_either c.replace_references.result (Kept 2 (HasReferences bytes) s t) (Cut 2 (MayHaveReferences bytes) s t) c.replace_references.ensures.ok c.replace_references.ensures.lost in
    record {
      size = subst (λ n. 1114112 ≤ n) (sym (size_kept 2 2 (HasReferences bytes) (MayHaveReferences bytes) s t done)) c.args.self.now.size;
      keys = references_keys g.O.Objects.form g.met.O.Objects.is_form c.args.self.now.admin c.args.self.now.card_auth 2 s t c.args.self.now.keys bytes done;
      stands = references_stand g.O.Objects.form g.met.O.Objects.is_form bytes 2 s t c.requires.sound c.args.self.now.stands done;
    }

pub returns-in-Ok-clause-ok : goal.returns-in-Ok-clause-ok
returns-in-Ok-clause-ok g c = references_changed g.O.Objects.form g.met.O.Objects.is_form c.args.bytes.now 2 (g.N.Nvm.state c.args.self.now.nvm) (g.N.Nvm.state c.replace_references.new.nvm) c.in-Ok.ensures.ok

pub returns-in-Err-clause-lost : goal.returns-in-Err-clause-lost
returns-in-Err-clause-lost g c = references_cut g.O.Objects.form g.met.O.Objects.is_form c.args.bytes.now 2 (g.N.Nvm.state c.args.self.now.nvm) (g.N.Nvm.state c.replace_references.new.nvm) c.in-Err.ensures.lost
