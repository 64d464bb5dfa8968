-- The authenticators of a login (SP 800-73-4 part 3, pivLogIntoCardApplication).
use Rattle.std.specs.Prelude.{◌≡◌, ◌⊎◌, ℕ, ◌≤◌, List, [], ◌∷◌, length}
use Rattle.std.specs.List.{AllByRecursion}
use Rattle.ber_tlv.specs.Elements.{element, AreElements, BeginsWith}
use Rattle.piv_objects.specs.Forms.{IsPartOf}
use Rattle.piv_objects.specs.declared.logins.Authenticator.{Authenticator}

-- an authenticator without where it lies in memory
pub record Credential : Type 0 where
  pub pin : List ℕ
  pub reference : ℕ

abbrev pub credential_of : Authenticator → Credential
credential_of a = record { pin = a.pin.now; reference = a.reference }

-- One element 81, the PIN, and one element 83, the key reference, in either order.
abbrev pub AreParts : List ℕ → List ℕ → List ℕ → Type 0
AreParts bytes pin reference =
    AreElements bytes (element 0x81 pin ∷ element 0x83 reference ∷ [])
    ⊎ AreElements bytes (element 0x83 reference ∷ element 0x81 pin ∷ [])

abbrev pub IsPin : List ℕ → Type 0
IsPin pin = (1 ≤ length pin) × (length pin ≤ 255)

-- A PIN of 1 to 255 bytes and a key reference of one.
pub record IsAuthenticator (bytes : List ℕ) (c : Credential) : Type 0 where
  pub parts : AreParts bytes c.pin (c.reference ∷ [])
  pub is_pin : IsPin c.pin

-- An element 67 with the authenticator, and this follows it.
pub record BeginsWithOne (bytes : List ℕ) (c : Credential) (rest : List ℕ) : Type 0 where
  pub inside : List ℕ
  pub begins : BeginsWith bytes (element 0x67 inside) rest
  pub is_authenticator : IsAuthenticator inside c

-- The bytes are these authenticators, one after the other.
abbrev pub AreAuthenticators : List ℕ → List Credential → Type 0
AreAuthenticators bytes [] = bytes ≡ []
AreAuthenticators bytes (c ∷ list) =
    (rest : List ℕ) × BeginsWithOne bytes c rest × AreAuthenticators rest list

-- There are 1 to 8 of them.
pub record IsAuthenticatorList (bytes : List ℕ) (list : List Credential) : Type 0 where
  pub are_authenticators : AreAuthenticators bytes list
  pub some : 1 ≤ length list
  pub most : length list ≤ 8

-- Each PIN stands in the bytes.
abbrev pub ArePinsIn : List ℕ → List Credential → Type 0
ArePinsIn bytes list = AllByRecursion (λ c. IsPartOf bytes c.pin) list
