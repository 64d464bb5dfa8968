use Rattle.std.proofs.Common.{◌≡◌, ◌⊎◌, ◌≤◌, inl, inr, List, ℕ, subst, sym}
use Rattle.nvm_slots.specs.Slots.{Kept, Cut}
use Rattle.card_image.specs.Header.{with_references, with_global, full_global}
use Rattle.card_image.specs.Images.{store_state, HasReferences, MayHaveReferences, Migrated}
use Rattle.card_image.proofs.Changing.{alike, any_told, on_memory, on_either, changed_alike, cut_alike, size_kept, references_stand, references_keys, references_changed, references_cut}
use Rattle.card_image.proofs.GlobalPins.{first_told, global_sound, migrated_has, migrated_second}
use Rattle.card_image.proofs.image.Image.migrate.Goals as goal

pub migrate_references-requires-clause-first : goal.migrate_references-requires-clause-first
migrate_references-requires-clause-first g c = first_told (g.N.Nvm.state c.args.self.now.nvm).bytes c.requires.first

pub invariant_of-self : goal.invariant_of-self
invariant_of-self g c =
    let form = g.O.Objects.form in
    let s = g.N.Nvm.state c.args.self.now.nvm in
    let t = g.N.Nvm.state c.migrate_references.new.nvm in
    let old : List ℕ = c.read_references-bytes.result in
    let new : List ℕ = c.add_global.new.bytes in
    let limit : ℕ = c.args.global.now.limit in
    let pin : List ℕ = c.args.global.now.pin in
    let change = with_global (full_global limit pin) in
    let read = c.read_references-bytes.ensures.references in
    let same = alike form s.bytes old new change read (λ m. Unit {0}) (any_told form s.bytes) (λ m spells any. c.add_global.ensures m spells) in
    let sound = global_sound form limit pin new s.bytes c.requires.limit c.requires.form c.requires.first c.args.self.now.stands same in
    let done : Kept 3 (HasReferences new) s t ⊎ Cut 3 (MayHaveReferences new) s t = elim (on_either c.migrate_references.result (Kept 3 (Migrated new) s t) (Cut 3 (MayHaveReferences new) s t) c.migrate_references.ensures.ok c.migrate_references.ensures.lost) [ inl kept ↦ inl (migrated_has form g.met.O.Objects.is_form new s t kept) | inr cut ↦ inr cut ] in
    record {
      size = subst (λ n. 1114112 ≤ n) (sym (size_kept 3 3 (HasReferences new) (MayHaveReferences new) s t done)) c.args.self.now.size;
      keys = references_keys g.O.Objects.form g.met.O.Objects.is_form c.args.self.now.admin c.args.self.now.card_auth 3 s t c.args.self.now.keys new done;
      stands = references_stand form g.met.O.Objects.is_form new 3 s t sound c.args.self.now.stands done;
    }

pub returns-in-Ok-clause-ok : goal.returns-in-Ok-clause-ok
returns-in-Ok-clause-ok g c =
    let form = g.O.Objects.form in
    let s = g.N.Nvm.state c.args.self.now.nvm in
    let t = g.N.Nvm.state c.migrate_references.new.nvm in
    let old : List ℕ = c.read_references-bytes.result in
    let new : List ℕ = c.add_global.new.bytes in
    let limit : ℕ = c.args.global.now.limit in
    let pin : List ℕ = c.args.global.now.pin in
    let change = with_global (full_global limit pin) in
    let read = c.read_references-bytes.ensures.references in
    let same = alike form s.bytes old new change read (λ m. Unit {0}) (any_told form s.bytes) (λ m spells any. c.add_global.ensures m spells) in
    changed_alike 3 (with_references new) change (store_state form s) (store_state form t) (on_memory form (λ m. with_references new m ≡ change m) s.bytes same) (references_changed form g.met.O.Objects.is_form new 3 s t (migrated_has form g.met.O.Objects.is_form new s t c.in-Ok.ensures.ok))

pub returns-in-Ok-clause-second : goal.returns-in-Ok-clause-second
returns-in-Ok-clause-second g c = migrated_second g.O.Objects.form g.met.O.Objects.is_form c.add_global.new.bytes (g.N.Nvm.state c.args.self.now.nvm) (g.N.Nvm.state c.migrate_references.new.nvm) c.in-Ok.ensures.ok

pub returns-in-Err-clause-lost : goal.returns-in-Err-clause-lost
returns-in-Err-clause-lost g c =
    let form = g.O.Objects.form in
    let s = g.N.Nvm.state c.args.self.now.nvm in
    let t = g.N.Nvm.state c.migrate_references.new.nvm in
    let old : List ℕ = c.read_references-bytes.result in
    let new : List ℕ = c.add_global.new.bytes in
    let limit : ℕ = c.args.global.now.limit in
    let pin : List ℕ = c.args.global.now.pin in
    let change = with_global (full_global limit pin) in
    let read = c.read_references-bytes.ensures.references in
    let same = alike form s.bytes old new change read (λ m. Unit {0}) (any_told form s.bytes) (λ m spells any. c.add_global.ensures m spells) in
    cut_alike 3 (with_references new) change (store_state form s) (store_state form t) (on_memory form (λ m. with_references new m ≡ change m) s.bytes same) (references_cut form g.met.O.Objects.is_form new 3 s t c.in-Err.ensures.lost)
