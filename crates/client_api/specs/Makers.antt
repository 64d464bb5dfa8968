-- The calls that the makers make. Those that are answered without a turn are decided here (SP 800-73-4 part 3).
use Rattle.std.specs.Prelude.{◌≡◌, ◌⊎◌, ◌==◌, ℕ, Bool, List, ◌++◌, length, Option, Some, None, if◌then◌else◌}
use Rattle.ber_tlv.specs.Elements.{header_of, spell}
use Rattle.piv_model.specs.declared.kinds.Interface.{Interface}
use Rattle.piv_model.specs.declared.answers.ApiAnswer.TheVariants as api
use Rattle.piv_model.specs.Objects.{discovery_place, row_at, place_of_oid}
use Rattle.piv_objects.specs.Authenticators.{Credential, IsAuthenticatorList}
use Rattle.piv_objects.specs.Connections.{IsConnectionDescription}
use Rattle.client_api.specs.Calls.{Handle, Call, Decided, Connect, LogIn, Get, Put}
use Rattle.client_api.specs.Machine.{Going, start}
use Rattle.client_api.specs.Readers.{NamedReader, reader_of}

-- no reader has the name: no turn
abbrev pub connect_to : Option (ℕ × Interface) → Bool → Call
connect_to None shared = Decided api.ConnectionFailure None
connect_to (Some r) shared = Connect r.0 r.1 shared

-- the description isn't of its form: no turn
abbrev pub Connects : List NamedReader → List ℕ → Bool → Going → Type 0
Connects readers description shared going =
    ((name : List ℕ) × IsConnectionDescription description name
    × (going ≡ start (connect_to (reader_of readers name) shared)))
    ⊎ (((name : List ℕ) → ¬ IsConnectionDescription description name)
    × (going ≡ start (Decided api.ConnectionDescriptionMalformed None)))

-- the authenticators aren't of their form: no turn
abbrev pub LogsIn : Handle → List ℕ → Call → Type 0
LogsIn h auth call =
    ((list : List Credential) × IsAuthenticatorList auth list × (call ≡ LogIn h list))
    ⊎ (((list : List Credential) → ¬ IsAuthenticatorList auth list)
    × (call ≡ Decided api.AuthenticatorMalformed (Some h)))

-- no object has the identifier: no turn
abbrev pub get_at : Handle → Option ℕ → Call
get_at h None = Decided api.InvalidOid (Some h)
get_at h (Some place) = Get h place

-- the beginning of the element that puts a value of so many bytes: the Discovery Object is sent alone, another object
-- behind its tag list
abbrev pub put_header : ℕ → ℕ → List ℕ
put_header place size =
    if place == discovery_place then header_of 0x7E size
    else spell 0x5C (row_at place).tag ++ header_of 0x53 size

abbrev pub put_element : ℕ → List ℕ → List ℕ
put_element place value = put_header place (length value) ++ value

abbrev pub put_at : Handle → List ℕ → Option ℕ → Call
put_at h value None = Decided api.InvalidOid (Some h)
put_at h value (Some place) = Put h (put_element place value)

-- get_data and put_data of an object identifier
abbrev pub get_of : Handle → List ℕ → Call
get_of h oid = get_at h (place_of_oid oid)

abbrev pub put_of : Handle → List ℕ → List ℕ → Call
put_of h oid value = put_at h value (place_of_oid oid)
