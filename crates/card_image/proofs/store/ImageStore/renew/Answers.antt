use Rattle.std.proofs.Common.{IsTrue, List, ℕ}
use Rattle.piv_model.specs.Memory.{has}
use Rattle.piv_model.specs.Changes.{change_reference, renewed}
use Rattle.piv_model.proofs.Soundness.{sound_renewed}
use Rattle.card_image.proofs.Changing.{alike, sound_there, fits_there, none_kept}
use Rattle.card_image.proofs.store.ImageStore.renew.Goals as goal

pub change_references-requires-clause-sound : goal.change_references-requires-clause-sound
change_references-requires-clause-sound g c =
    let form = g.O.Objects.form in
    let told = (g.N.Nvm.state c.args.self.now.nvm).bytes in
    let old : List ℕ = c.read_references-bytes.result in
    let new : List ℕ = c.renew_in.new.bytes in
    let read = c.read_references-bytes.ensures.references in
    let same = alike form told old new (change_reference c.args.r (renewed c.args.new.now)) read (λ m. IsTrue (has m c.args.r)) c.requires.has c.renew_in.ensures in
    sound_there form told old new (change_reference c.args.r (renewed c.args.new.now)) read (λ m. sound_renewed c.args.r c.args.new.now m c.requires.form) same c.args.self.now.stands

pub change_references-requires-clause-layout : goal.change_references-requires-clause-layout
change_references-requires-clause-layout g c =
    let form = g.O.Objects.form in
    let told = (g.N.Nvm.state c.args.self.now.nvm).bytes in
    let old : List ℕ = c.read_references-bytes.result in
    let new : List ℕ = c.renew_in.new.bytes in
    let read = c.read_references-bytes.ensures.references in
    let same = alike form told old new (change_reference c.args.r (renewed c.args.new.now)) read (λ m. IsTrue (has m c.args.r)) c.requires.has c.renew_in.ensures in
    fits_there form told old new (change_reference c.args.r (renewed c.args.new.now)) read (none_kept c.args.r (renewed c.args.new.now)) same c.args.self.now.stands
