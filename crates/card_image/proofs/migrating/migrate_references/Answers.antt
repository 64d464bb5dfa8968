use Rattle.std.proofs.Common.{◌≡◌, ℕ, List, [], ◌∷◌, length, IfSome, true, false, rules, refl, sym, subst}
use Rattle.power_loss.specs.Due.{is_due}
use Rattle.nvm_device.specs.Bytes.{overwrite}
use Rattle.nvm_slots.proofs.KeptLaws.{kept_implies, cut_implies}
use Rattle.card_image.specs.Images.{MayHaveReferences, Migrated}
use Rattle.nvm_slots.proofs.Calls.{kept_kept, kept_cut, kept_write, cut_write, cut_first, due_next, rows_enough, WroteAny}
use Rattle.card_image.proofs.Layouts.{BeforeMigrating, before_migrating, SlotWritten, SecondWritten, slot_written, second_written, migrated, slot_lost, selector_lost, version_lost}
use Rattle.card_image.proofs.migrating.migrate_references.Goals as goal

pub returns-in-Err-clause-lost : goal.returns-in-Err-clause-lost
returns-in-Err-clause-lost g c =
    let s = g.N.Nvm.state c.args.nvm.now in
    let t = g.N.Nvm.state c.write.new.self in
    let bytes : List ℕ = c.args.bytes.now in
    let known = before_migrating s.bytes (rows_enough 1114112 s.size s.bytes c.requires.size (g.met.N.Nvm.row_size c.args.nvm.now)) c.requires.first in
    let now_due : IfSome s.power.due (λ due. is_due 1 due ≡ true) = search rules in
    cut_first 1 2 (MayHaveReferences bytes) (MayHaveReferences bytes) (λ a b m. m) s t now_due (cut_implies 1 BeforeMigrating (WroteAny 116 (length bytes)) (MayHaveReferences bytes) (λ a b p any. slot_lost bytes a b c.told-bytes p any) s t known (cut_write 116 (length bytes) s t c.in-Err.ensures.lost))

pub returns-in-Err-write-clause-lost : goal.returns-in-Err-write-clause-lost
returns-in-Err-write-clause-lost g c =
    let s = g.N.Nvm.state c.args.nvm.now in
    let t = g.N.Nvm.state c.write.new.self in
    let bytes : List ℕ = c.args.bytes.now in
    let known = before_migrating s.bytes (rows_enough 1114112 s.size s.bytes c.requires.size (g.met.N.Nvm.row_size c.args.nvm.now)) c.requires.first in
    let none : IfSome s.power.due (λ due. is_due 1 due ≡ false) = search rules in
    let kept = kept_implies 1 BeforeMigrating (λ old new. new ≡ overwrite old 116 bytes) (SlotWritten bytes) (λ a b p e. subst (SlotWritten bytes a) (sym e) (slot_written bytes a c.told-bytes p.enough)) s t known (kept_write 116 bytes s t c.in-Ok.ensures.ok) in
    let u = g.N.Nvm.state c.write-in-Ok.new.self in
    let due_one : IfSome t.power.due (λ due. is_due 1 due ≡ true) = search rules in
    let now_due = due_next 1 1 true (SlotWritten bytes) s t kept none due_one in
    cut_first 2 1 (MayHaveReferences bytes) (MayHaveReferences bytes) (λ a b m. m) s u now_due (kept_cut 1 1 BeforeMigrating (SlotWritten bytes) (WroteAny 115 1) (MayHaveReferences bytes) (λ a b d p w any. selector_lost bytes a b d p w any) s t u known kept none (cut_write 115 1 t u c.in-Err-write.ensures.lost))

pub returns-in-Err-write-2-clause-lost : goal.returns-in-Err-write-2-clause-lost
returns-in-Err-write-2-clause-lost g c =
    let s = g.N.Nvm.state c.args.nvm.now in
    let t = g.N.Nvm.state c.write.new.self in
    let bytes : List ℕ = c.args.bytes.now in
    let known = before_migrating s.bytes (rows_enough 1114112 s.size s.bytes c.requires.size (g.met.N.Nvm.row_size c.args.nvm.now)) c.requires.first in
    let none : IfSome s.power.due (λ due. is_due 1 due ≡ false) = search rules in
    let kept = kept_implies 1 BeforeMigrating (λ old new. new ≡ overwrite old 116 bytes) (SlotWritten bytes) (λ a b p e. subst (SlotWritten bytes a) (sym e) (slot_written bytes a c.told-bytes p.enough)) s t known (kept_write 116 bytes s t c.in-Ok.ensures.ok) in
    let u = g.N.Nvm.state c.write-in-Ok.new.self in
    let none_one : IfSome t.power.due (λ due. is_due 1 due ≡ false) = search rules in
    let none_two = due_next 1 1 false (SlotWritten bytes) s t kept none none_one in
    let kept_two = kept_kept 1 1 BeforeMigrating (SlotWritten bytes) (λ old new. new ≡ overwrite old 115 (0 ∷ [])) (SecondWritten bytes) (λ a b d p w e. subst (SecondWritten bytes a) (sym e) (second_written bytes a b p.enough w)) s t u known kept none (kept_write 115 (0 ∷ []) t u c.in-Ok-write.ensures.ok) in
    let w = g.N.Nvm.state c.write-in-Ok-write.new.self in
    kept_cut 2 1 BeforeMigrating (SecondWritten bytes) (WroteAny 4 1) (MayHaveReferences bytes) (λ a b d p w any. version_lost bytes a b d p w any) s u w known kept_two none_two (cut_write 4 1 u w c.in-Err-write-2.ensures.lost)

pub returns-in-Ok-write-2-clause-ok : goal.returns-in-Ok-write-2-clause-ok
returns-in-Ok-write-2-clause-ok g c =
    let s = g.N.Nvm.state c.args.nvm.now in
    let t = g.N.Nvm.state c.write.new.self in
    let bytes : List ℕ = c.args.bytes.now in
    let known = before_migrating s.bytes (rows_enough 1114112 s.size s.bytes c.requires.size (g.met.N.Nvm.row_size c.args.nvm.now)) c.requires.first in
    let none : IfSome s.power.due (λ due. is_due 1 due ≡ false) = search rules in
    let kept = kept_implies 1 BeforeMigrating (λ old new. new ≡ overwrite old 116 bytes) (SlotWritten bytes) (λ a b p e. subst (SlotWritten bytes a) (sym e) (slot_written bytes a c.told-bytes p.enough)) s t known (kept_write 116 bytes s t c.in-Ok.ensures.ok) in
    let u = g.N.Nvm.state c.write-in-Ok.new.self in
    let none_one : IfSome t.power.due (λ due. is_due 1 due ≡ false) = search rules in
    let none_two = due_next 1 1 false (SlotWritten bytes) s t kept none none_one in
    let kept_two = kept_kept 1 1 BeforeMigrating (SlotWritten bytes) (λ old new. new ≡ overwrite old 115 (0 ∷ [])) (SecondWritten bytes) (λ a b d p w e. subst (SecondWritten bytes a) (sym e) (second_written bytes a b p.enough w)) s t u known kept none (kept_write 115 (0 ∷ []) t u c.in-Ok-write.ensures.ok) in
    let w = g.N.Nvm.state c.write-in-Ok-write.new.self in
    kept_kept 2 1 BeforeMigrating (SecondWritten bytes) (λ old new. new ≡ overwrite old 4 (2 ∷ [])) (Migrated bytes) (λ a b d p w e. subst (Migrated bytes a) (sym e) (migrated bytes a b 2 p.enough p.first w refl)) s u w known kept_two none_two (kept_write 4 (2 ∷ []) u w c.in-Ok-write-2.ensures.ok)
