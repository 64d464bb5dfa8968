use Rattle.std.proofs.Common.{◌≡◌, ◌<◌, ◌+◌, ℕ, List, length, take, get_or, IfSome, true, false, rules, subst}
use Rattle.power_loss.specs.Due.{is_due}
use Rattle.nvm_slots.specs.Slots.{Kept, Cut, Replaced, ReplacedOrNot}
use Rattle.nvm_slots.proofs.KeptLaws.{cut_implies}
use Rattle.nvm_slots.specs.declared.twin.Twin.{Twin}
use Rattle.piv_model.specs.Memory.{blocks}
use Rattle.card_image.specs.Images.{HasObject, MayHaveObject, budget_of}
use Rattle.block_store.specs.Blocks.{block_form, directory_twin}
use Rattle.block_store.specs.Writes.{WroteParts, KeepsOthers}
use Rattle.nvm_slots.proofs.Calls.{kept_kept, kept_cut, cut_first, rows_enough}
use Rattle.block_store.proofs.Choosing.{chosen_told, chosen_long, chosen_low}
use Rattle.block_store.proofs.Entering.{Chosen, has_object, may_have_object, lost_a_block}
use Rattle.block_store.proofs.putting.put_object.Goals as goal

pub returns-in-Err-clause-lost : goal.returns-in-Err-clause-lost
returns-in-Err-clause-lost g c =
    let s = g.N.Nvm.state c.args.nvm.now in
    let t = g.N.Nvm.state c.write_blocks.new.nvm in
    let v : List ℕ = c.args.value.now in
    let k : ℕ = c.args.place in
    let all : List ℕ = c.choose-all.result in
    let count : ℕ = c.blocks-count.result in
    let chosen : List ℕ = take count all in
    let now : List ℕ = c.enter.new.directory in
    let enough = rows_enough 1114112 s.size s.bytes c.requires.size (g.met.N.Nvm.row_size c.args.nvm.now) in
    let known = chosen_told k count v c.read_directory-directory.result all now s.bytes c.blocks-count.ensures.blocks enough c.read_directory-directory.ensures.told c.requires.keeps c.requires.room c.choose-all.ensures.free c.enter.ensures in
    let long : length chosen ≡ blocks (length v) = chosen_long count all (length v) c.choose-all.ensures.size c.blocks-count.ensures.blocks c.requires.short in
    let low : (j : ℕ) → j < length chosen → get_or chosen j 0 < 2048 = λ j below. chosen_low count all c.choose-all.ensures.size c.choose-all.ensures.low j below in
    let now_due : IfSome s.power.due (λ due. is_due (length chosen) due ≡ true) = search rules in
    let cut = cut_implies (length chosen) (λ row. Chosen (budget_of row) k v chosen now row) (KeepsOthers chosen) (MayHaveObject block_form k v) (λ a b p keeps. lost_a_block (budget_of a) k v chosen now c.requires.place c.requires.short long low c.enter.array_long a b p keeps) s t known c.in-Err.ensures.lost in
    subst (λ n. Cut (n + 2) (MayHaveObject block_form k v) s t) long (cut_first (length chosen) 2 (MayHaveObject block_form k v) (MayHaveObject block_form k v) (λ a b m. m) s t now_due cut)

pub returns-in-Err-replace-clause-lost : goal.returns-in-Err-replace-clause-lost
returns-in-Err-replace-clause-lost g c =
    let s = g.N.Nvm.state c.args.nvm.now in
    let t = g.N.Nvm.state c.write_blocks.new.nvm in
    let v : List ℕ = c.args.value.now in
    let k : ℕ = c.args.place in
    let all : List ℕ = c.choose-all.result in
    let count : ℕ = c.blocks-count.result in
    let chosen : List ℕ = take count all in
    let now : List ℕ = c.enter.new.directory in
    let enough = rows_enough 1114112 s.size s.bytes c.requires.size (g.met.N.Nvm.row_size c.args.nvm.now) in
    let known = chosen_told k count v c.read_directory-directory.result all now s.bytes c.blocks-count.ensures.blocks enough c.read_directory-directory.ensures.told c.requires.keeps c.requires.room c.choose-all.ensures.free c.enter.ensures in
    let long : length chosen ≡ blocks (length v) = chosen_long count all (length v) c.choose-all.ensures.size c.blocks-count.ensures.blocks c.requires.short in
    let low : (j : ℕ) → j < length chosen → get_or chosen j 0 < 2048 = λ j below. chosen_low count all c.choose-all.ensures.size c.choose-all.ensures.low j below in
    let u = g.N.Nvm.state c.replace.new.nvm in
    let none : IfSome s.power.due (λ due. is_due (length chosen) due ≡ false) = search rules in
    let lost : Cut 2 (ReplacedOrNot directory_twin now) t u = subst (λ (twin : Twin). Cut 2 (ReplacedOrNot twin now) t u) c.directory_twin.ensures c.in-Err-replace.ensures.lost in
    subst (λ n. Cut (n + 2) (MayHaveObject block_form k v) s u) long
    (kept_cut (length chosen) 2 (λ row. Chosen (budget_of row) k v chosen now row) (WroteParts (length chosen) chosen v) (ReplacedOrNot directory_twin now) (MayHaveObject block_form k v)
    (λ a b d p wrote r. may_have_object (budget_of a) k v chosen now c.requires.place c.requires.short long low c.enter.array_long a b d p wrote r) s t u known c.in-Ok.ensures.ok none lost)

pub returns-in-Ok-replace-clause-ok : goal.returns-in-Ok-replace-clause-ok
returns-in-Ok-replace-clause-ok g c =
    let s = g.N.Nvm.state c.args.nvm.now in
    let t = g.N.Nvm.state c.write_blocks.new.nvm in
    let v : List ℕ = c.args.value.now in
    let k : ℕ = c.args.place in
    let all : List ℕ = c.choose-all.result in
    let count : ℕ = c.blocks-count.result in
    let chosen : List ℕ = take count all in
    let now : List ℕ = c.enter.new.directory in
    let enough = rows_enough 1114112 s.size s.bytes c.requires.size (g.met.N.Nvm.row_size c.args.nvm.now) in
    let known = chosen_told k count v c.read_directory-directory.result all now s.bytes c.blocks-count.ensures.blocks enough c.read_directory-directory.ensures.told c.requires.keeps c.requires.room c.choose-all.ensures.free c.enter.ensures in
    let long : length chosen ≡ blocks (length v) = chosen_long count all (length v) c.choose-all.ensures.size c.blocks-count.ensures.blocks c.requires.short in
    let low : (j : ℕ) → j < length chosen → get_or chosen j 0 < 2048 = λ j below. chosen_low count all c.choose-all.ensures.size c.choose-all.ensures.low j below in
    let u = g.N.Nvm.state c.replace.new.nvm in
    let none : IfSome s.power.due (λ due. is_due (length chosen) due ≡ false) = search rules in
    let done : Kept 2 (Replaced directory_twin now) t u = subst (λ (twin : Twin). Kept 2 (Replaced twin now) t u) c.directory_twin.ensures c.in-Ok-replace.ensures.ok in
    subst (λ n. Kept (n + 2) (HasObject block_form k v) s u) long
    (kept_kept (length chosen) 2 (λ row. Chosen (budget_of row) k v chosen now row) (WroteParts (length chosen) chosen v) (Replaced directory_twin now) (HasObject block_form k v)
    (λ a b d p wrote r. has_object (budget_of a) k v chosen now c.requires.place c.requires.short long low c.enter.array_long a b d p wrote r) s t u known c.in-Ok.ensures.ok none done)
