use Rattle.std.proofs.Common.{◌+◌, List, ℕ, [], ◌∷◌, length, arith}
use Rattle.nvm_slots.proofs.LayingLaws.{laying_none, laying_later}
use Rattle.card_image.specs.Laying.{objects_area}
use Rattle.block_store.proofs.Runs.{run_is_used, first_pieces, laid_all}
use Rattle.block_store.proofs.laying.lay_runs.Goals as goal

pub fresh_directory-directory-requires-clause-room : goal.fresh_directory-directory-requires-clause-room
fresh_directory-directory-requires-clause-room g c = let used = run_is_used c.args.objects.now in let room = c.requires.room in omega (arith, used, room)

pub lay_values-requires-clause-room : goal.lay_values-requires-clause-room
lay_values-requires-clause-room g c = let used = run_is_used c.args.objects.now in let room = c.requires.room in omega (arith, used, room)

pub returns-in-Err-lay-clause-fell : goal.returns-in-Err-lay-clause-fell
returns-in-Err-lay-clause-fell g c =
    let s = g.N.Nvm.state c.args.nvm.now in
    let pairs = c.args.objects.now in
    let d : List ℕ = c.fresh_directory-directory.result in
    let fresh = c.fresh_directory-directory.ensures in
    let whole = fresh.size in
    let none = laying_none objects_area s c.requires.size (g.met.N.Nvm.row_size c.args.nvm.now) in
    let first = c.in-Ok.ensures.laid objects_area [] 256 s (omega arith) (omega arith) (omega arith) none in
    c.in-Err-lay.ensures.fell objects_area ((256, 0 ∷ []) ∷ []) 257 s (omega arith) (omega (arith, whole)) first

pub returns-in-Err-lay_values-clause-fell : goal.returns-in-Err-lay_values-clause-fell
returns-in-Err-lay_values-clause-fell g c =
    let s = g.N.Nvm.state c.args.nvm.now in
    let pairs = c.args.objects.now in
    let d : List ℕ = c.fresh_directory-directory.result in
    let fresh = c.fresh_directory-directory.ensures in
    let whole = fresh.size in
    let none = laying_none objects_area s c.requires.size (g.met.N.Nvm.row_size c.args.nvm.now) in
    let first = c.in-Ok.ensures.laid objects_area [] 256 s (omega arith) (omega arith) (omega arith) none in
    let second = c.in-Ok-lay.ensures.laid objects_area ((256, 0 ∷ []) ∷ []) 257 s (omega arith) (omega (arith, whole)) (omega arith) first in
    let later = laying_later objects_area (first_pieces d) (257 + length d) 8768 s (g.N.Nvm.state c.lay-in-Ok.new.nvm) (omega (arith, whole)) second in
    c.in-Err-lay_values.ensures.fell (first_pieces d) s later

pub returns-in-Ok-lay_values-clause-laid : goal.returns-in-Ok-lay_values-clause-laid
returns-in-Ok-lay_values-clause-laid g c =
    let s = g.N.Nvm.state c.args.nvm.now in
    let pairs = c.args.objects.now in
    let d : List ℕ = c.fresh_directory-directory.result in
    let fresh = c.fresh_directory-directory.ensures in
    let whole = fresh.size in
    let none = laying_none objects_area s c.requires.size (g.met.N.Nvm.row_size c.args.nvm.now) in
    let first = c.in-Ok.ensures.laid objects_area [] 256 s (omega arith) (omega arith) (omega arith) none in
    let second = c.in-Ok-lay.ensures.laid objects_area ((256, 0 ∷ []) ∷ []) 257 s (omega arith) (omega (arith, whole)) (omega arith) first in
    let later = laying_later objects_area (first_pieces d) (257 + length d) 8768 s (g.N.Nvm.state c.lay-in-Ok.new.nvm) (omega (arith, whole)) second in
    let used = run_is_used pairs in
    let room = c.requires.room in
    laid_all pairs d s (g.N.Nvm.state c.lay_values.new.nvm) fresh c.requires.short (omega (arith, used, room)) (c.in-Ok-lay_values.ensures.laid (first_pieces d) s later)

pub returns-in-Err-clause-fell : goal.returns-in-Err-clause-fell
returns-in-Err-clause-fell g c =
    let s = g.N.Nvm.state c.args.nvm.now in
    let none = laying_none objects_area s c.requires.size (g.met.N.Nvm.row_size c.args.nvm.now) in
    c.in-Err.ensures.fell objects_area [] 256 s (omega arith) (omega arith) none
