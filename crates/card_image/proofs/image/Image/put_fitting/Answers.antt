use Rattle.std.proofs.Common.{◌⊎◌, ℕ, List, ◌≤◌, length, subst, sym}
use Rattle.nvm_slots.specs.Slots.{Kept, Cut}
use Rattle.card_image.specs.Images.{HasObject, MayHaveObject}
use Rattle.card_image.proofs.Changing.{on_either, size_kept, put_keys}
use Rattle.card_image.proofs.ObjectsPut.{put_stands, room_told}
use Rattle.card_image.proofs.image.Image.put_fitting.Goals as goal

pub put-requires-clause-room : goal.put-requires-clause-room
put-requires-clause-room g c = room_told g.O.Objects.form c.args.value.now (g.N.Nvm.state c.args.self.now.nvm).bytes c.requires.fits

pub invariant_of-self : goal.invariant_of-self
invariant_of-self g c =
    let form = g.O.Objects.form in
    let s = g.N.Nvm.state c.args.self.now.nvm in
    let t = g.N.Nvm.state c.put.new.nvm in
    let value : List ℕ = c.args.value.now in
    let n = form.put_cost (length value) in
    let done : Kept n (HasObject form c.args.place value) s t ⊎ Cut n (MayHaveObject form c.args.place value) s t = on_either c.put.result (Kept n (HasObject form c.args.place value) s t) (Cut n (MayHaveObject form c.args.place value) s t) c.put.ensures.ok c.put.ensures.lost in
    record {
      size = subst (λ n. 1114112 ≤ n) (sym (size_kept n n (HasObject form c.args.place value) (MayHaveObject form c.args.place value) s t done)) c.args.self.now.size;
      keys = put_keys form g.met.O.Objects.is_form c.args.self.now.admin c.args.self.now.card_auth n s t c.args.self.now.keys c.args.place value done;
      stands = put_stands form c.args.place value n s t c.requires.fits c.requires.form c.args.self.now.stands done;
    }
