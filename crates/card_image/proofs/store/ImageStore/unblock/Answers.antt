use Rattle.std.proofs.Common.{◌≡◌, List, ℕ}
use Rattle.card_image.specs.Header.{with_references}
use Rattle.card_image.specs.Images.{store_state}
use Rattle.piv_model.specs.Changes.{unblocked}
use Rattle.piv_model.proofs.Soundness.{sound_unblocked}
use Rattle.card_image.proofs.Changing.{alike, sound_there, fits_there, any_told, on_memory, changed_alike, cut_alike}
use Rattle.card_image.proofs.store.ImageStore.unblock.Goals as goal

pub change_references-requires-clause-sound : goal.change_references-requires-clause-sound
change_references-requires-clause-sound g c =
    let form = g.O.Objects.form in
    let told = (g.N.Nvm.state c.args.self.now.nvm).bytes in
    let old : List ℕ = c.read_references-bytes.result in
    let new : List ℕ = c.unblock_in.new.bytes in
    let read = c.read_references-bytes.ensures.references in
    let same = alike form told old new (unblocked c.args.new.now) read (λ m. Unit {0}) (any_told form told) (λ m spells any. c.unblock_in.ensures m spells) in
    sound_there form told old new (unblocked c.args.new.now) read (λ m. sound_unblocked c.args.new.now m c.requires.form) same c.args.self.now.stands

pub change_references-requires-clause-layout : goal.change_references-requires-clause-layout
change_references-requires-clause-layout g c =
    let form = g.O.Objects.form in
    let told = (g.N.Nvm.state c.args.self.now.nvm).bytes in
    let old : List ℕ = c.read_references-bytes.result in
    let new : List ℕ = c.unblock_in.new.bytes in
    let read = c.read_references-bytes.ensures.references in
    let same = alike form told old new (unblocked c.args.new.now) read (λ m. Unit {0}) (any_told form told) (λ m spells any. c.unblock_in.ensures m spells) in
    fits_there form told old new (unblocked c.args.new.now) read (λ m none. none) same c.args.self.now.stands

pub returns-in-Ok-clause-ok : goal.returns-in-Ok-clause-ok
returns-in-Ok-clause-ok g c =
    let form = g.O.Objects.form in
    let told = (g.N.Nvm.state c.args.self.now.nvm).bytes in
    let old : List ℕ = c.read_references-bytes.result in
    let new : List ℕ = c.unblock_in.new.bytes in
    let read = c.read_references-bytes.ensures.references in
    let same = alike form told old new (unblocked c.args.new.now) read (λ m. Unit {0}) (any_told form told) (λ m spells any. c.unblock_in.ensures m spells) in
    changed_alike 2 (with_references new) (unblocked c.args.new.now) (store_state form (g.N.Nvm.state c.args.self.now.nvm)) (store_state form (g.N.Nvm.state c.change_references.new.self.nvm)) (on_memory form (λ m. with_references new m ≡ unblocked c.args.new.now m) told same) c.in-Ok.ensures.ok

pub returns-in-Err-clause-lost : goal.returns-in-Err-clause-lost
returns-in-Err-clause-lost g c =
    let form = g.O.Objects.form in
    let told = (g.N.Nvm.state c.args.self.now.nvm).bytes in
    let old : List ℕ = c.read_references-bytes.result in
    let new : List ℕ = c.unblock_in.new.bytes in
    let read = c.read_references-bytes.ensures.references in
    let same = alike form told old new (unblocked c.args.new.now) read (λ m. Unit {0}) (any_told form told) (λ m spells any. c.unblock_in.ensures m spells) in
    cut_alike 2 (with_references new) (unblocked c.args.new.now) (store_state form (g.N.Nvm.state c.args.self.now.nvm)) (store_state form (g.N.Nvm.state c.change_references.new.self.nvm)) (on_memory form (λ m. with_references new m ≡ unblocked c.args.new.now m) told same) c.in-Err.ensures.lost
