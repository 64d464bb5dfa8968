-- The keys of a card, as far as GENERAL AUTHENTICATE uses them.
use Rattle.std.specs.Prelude.{ℕ, List}
use Rattle.piv_model.specs.declared.kinds.KeyId.{KeyId}
use Rattle.piv_model.specs.declared.kinds.KeyId.TheVariants.{AdminKey, CardAuth}
use Rattle.piv_model.specs.Memory.{Memory, CardKey}
use Rattle.piv_model.specs.Cipher.{encipher}

pub record Keys : Type 0 where
  pub admin : CardKey
  pub card_auth : CardKey

abbrev pub key_of : Keys → KeyId → CardKey
key_of keys AdminKey = keys.admin
key_of keys CardAuth = keys.card_auth

-- the block enciphered under a key (FIPS 197)
abbrev pub enciphered : Keys → KeyId → List ℕ → List ℕ
enciphered keys id block = encipher (key_of keys id).key block

abbrev pub keys_in : Memory → Keys
keys_in m = record { admin = m.admin; card_auth = m.card_auth }
