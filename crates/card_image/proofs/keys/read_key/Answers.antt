use Rattle.std.proofs.Common.{◌≡◌, ◌+◌, ◌-◌, ℕ, List, take, drop, rules}
use Rattle.card_image.proofs.KeysRead.{key_told}
use Rattle.card_image.proofs.keys.read_key.Goals as goal

pub returns : goal.returns
returns g c =
    let at : ℕ = c.place_of_key-at.result in
    let size : ℕ = c.size_of_key-size.result in
    let keys : List ℕ = c.read_keys-keys.result in
    let key : List ℕ = c.unwrap.result in
    let is : key ≡ take ((at + 1 + size) - (at + 1)) (drop (at + 1) keys) = search rules in
    key_told (g.N.Nvm.state c.args.nvm.now).bytes c.args.key keys key at size c.read_keys-keys.ensures.keys c.place_of_key-at.ensures c.size_of_key-size.ensures is
