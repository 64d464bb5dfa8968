use Rattle.std.proofs.Common.{◌≡◌, ℕ, List, Option, Some, None, option_map, IfSome}
use Rattle.piv_model.specs.declared.kinds.KeyId.{KeyId}
use Rattle.piv_model.specs.declared.kinds.KeyId.TheVariants.{AdminKey, CardAuth}
use Rattle.piv_model.specs.Memory.{Memory, key_at}
use Rattle.piv_model.specs.Cipher.{encipher}
use Rattle.auth_protocol.specs.Keys.{enciphered, keys_in}
use Rattle.auth_protocol.proofs.encipher.StoreKeysEncipher.encipher.Goals as goal

of-memory : (told : Option Memory) (key : KeyId) (block r : List ℕ) → IfSome told (λ m. r ≡ encipher (key_at m key).key block)
    → IfSome (option_map keys_in told) (λ keys. r ≡ enciphered keys key block)
of-memory None key block r h = tt
of-memory (Some m) AdminKey block r h = h
of-memory (Some m) CardAuth block r h = h

pub returns : goal.returns
returns g c =
    of-memory (g.S.Store.state c.args.self.now.store.now).mem c.args.key c.args.block.now c.encipher.result c.encipher.ensures
