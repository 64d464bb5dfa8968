use Rattle.std.proofs.Common.{rules, ◌≡◌, ◌-◌, ◌*◌, ◌<◌, ℕ, List, length, take, drop, arith}
use Rattle.card_image.proofs.Compared.{part_of, part_differs, part_same, all_same}
use Rattle.card_image.proofs.comparing.has_value.Goals as goal

pub returns-then-not-same : goal.returns-then-not-same
returns-then-not-same g c =
    let size : ℕ = c.length-size.result in
    let number : ℕ = c.loop-number.number in
    let value : List ℕ = c.args.value.now in
    let from : ℕ = 64 * number in
    let to : ℕ = c.min-to.result in
    let same_size : size ≡ length value = omega arith in
    let below : 64 * number < size = omega arith in
    let part = part_of value from to (omega arith) (omega arith) in
    part_differs g.O.Objects.form c.args.place value size (g.N.Nvm.state c.args.nvm.now).bytes c.length-size.ensures.told number
    (take (to - from) (drop from value)) c.has_part-same.result same_size (let long = part.0 in omega (arith, long)) part.1 c.has_part-same.ensures (search rules)

pub loop-number-preserved : goal.loop-number-preserved
loop-number-preserved g c =
    let size : ℕ = c.length-size.result in
    let number : ℕ = c.loop-number.number in
    let value : List ℕ = c.args.value.now in
    let from : ℕ = 64 * number in
    let to : ℕ = c.min-to.result in
    let same_size : size ≡ length value = omega arith in
    let below : 64 * number < size = omega arith in
    let part = part_of value from to (omega arith) (omega arith) in
    part_same g.O.Objects.form c.args.place value size (g.N.Nvm.state c.args.nvm.now).bytes c.length-size.ensures.told number
    (take (to - from) (drop from value)) c.has_part-same.result same_size (let long = part.0 in omega (arith, long)) part.1 c.has_part-same.ensures (search rules)
    (let long = part.0 in omega (arith, long)) c.loop-number.invariant

pub returns : goal.returns
returns g c =
    let size : ℕ = c.length-size.result in
    let value : List ℕ = c.args.value.now in
    let same_size : size ≡ length value = omega arith in
    all_same g.O.Objects.form c.args.place value size (g.N.Nvm.state c.args.nvm.now).bytes c.length-size.ensures.told (64 * c.loop-number.number)
    same_size (omega arith) c.loop-number.invariant
