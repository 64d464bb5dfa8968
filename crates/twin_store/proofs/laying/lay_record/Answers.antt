use Rattle.std.proofs.Common.{◌≡◌, ◌+◌, ◌*◌, ◌∷◌, ℕ, List, length, subst, arith}
use Rattle.nvm_slots.specs.Laying.{Piece, Laying}
use Rattle.nvm_slots.proofs.LayingLaws.{laying_later}
use Rattle.card_image.specs.Laying.{objects_area}
use Rattle.twin_store.specs.Twins.{record_front}
use Rattle.twin_store.proofs.laying.lay_record.Goals as goal

pub returns-clause-laid : goal.returns-clause-laid
returns-clause-laid g c = λ pieces s laying.
    let k = c.args.k in
    let low = c.requires.place in
    let short = c.requires.short in
    let t = g.N.Nvm.state c.lay_value.new.nvm in
    let v : List ℕ = c.args.value.now in
    let front : Piece = (256 + 32773 * k, record_front v) in
    let first = c.in_ok-lay.ensures.laid objects_area pieces (256 + 32773 * k) s (omega arith) (omega (arith, low)) (omega arith) laying in
    let second = c.in_ok-lay_value.ensures.laid objects_area (front ∷ pieces) (256 + 32773 * k + 3) s (omega arith) (omega (arith, low, short)) (omega arith) first in
    let at : 256 + 32773 * k + 3 ≡ 259 + 32773 * k = omega arith in
    let here = subst (λ n. Laying objects_area ((n, v) ∷ front ∷ pieces) (n + length v) s t) at second in
    laying_later objects_area ((259 + 32773 * k, v) ∷ front ∷ pieces) (259 + 32773 * k + length v) (256 + 32773 * (k + 1)) s t (omega (arith, short)) here
