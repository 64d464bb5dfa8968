-- What each end of the program is told as: its number, its name, and what a person may do (this project's own).
use Rattle.std.specs.Prelude.{ℕ, List, ◌++◌, codes, Option, Some, None}
use Rattle.std.specs.Fmt.{decimal}
use Rattle.piv_model.specs.declared.places.Limit.{Limit}
use Rattle.piv_model.specs.declared.places.Limit.TheVariants as limit
use Rattle.piv_model.specs.declared.places.Where.{Where}
use Rattle.piv_model.specs.declared.places.Where.TheVariants as place
use Rattle.piv_cli.specs.declared.status.Status.{Status}
use Rattle.piv_cli.specs.declared.status.Status.TheVariants.{Done, Usage, BadScene, TooLarge, ReadFault, WriteFault, DeviceFault, NoMemory}

abbrev pub number_of : Status → ℕ
number_of Done = 0
number_of Usage = 2
number_of (BadScene at) = 3
number_of (TooLarge what) = 4
number_of ReadFault = 5
number_of WriteFault = 6
number_of DeviceFault = 7
number_of NoMemory = 8

abbrev pub name_of : Status → List ℕ
name_of Done = codes "Done"
name_of Usage = codes "Usage"
name_of (BadScene at) = codes "BadScene"
name_of (TooLarge what) = codes "TooLarge"
name_of ReadFault = codes "ReadFault"
name_of WriteFault = codes "WriteFault"
name_of DeviceFault = codes "DeviceFault"
name_of NoMemory = codes "NoMemory"

-- where a scene is wrong; cards and scripts are counted from 0, lines from 1
abbrev pub place_text : Where → List ℕ
place_text place.NotToml = codes "the bytes are no TOML"
place_text place.Cards = codes "cards"
place_text (place.Card card) = codes "card " ++ decimal card
place_text (place.Script script) = codes "script " ++ decimal script
place_text (place.Line script line) = codes "script " ++ decimal script ++ codes ", line " ++ decimal line
place_text place.Schedule = codes "schedule"

-- which limit was passed
abbrev pub limit_text : Limit → List ℕ
limit_text limit.Input = codes "the input has more than 8388608 bytes"
limit_text limit.Cards = codes "cards"
limit_text limit.Scripts = codes "scripts"
limit_text limit.Lines = codes "lines"
limit_text limit.Schedule = codes "schedule"
limit_text limit.LimitPin = codes "limit_pin"
limit_text limit.LimitPuk = codes "limit_puk"
limit_text limit.LimitGlobal = codes "limit_global"
limit_text limit.Budget = codes "budget"
limit_text limit.Losses = codes "losses"
limit_text limit.Object = codes "object"
limit_text limit.Room = codes "room"
limit_text limit.Put = codes "put"
limit_text limit.Puts = codes "puts"
limit_text limit.Crypt = codes "crypt"
limit_text limit.Apdu = codes "apdu"
limit_text limit.Login = codes "login"
limit_text limit.Aid = codes "aid"

-- the second line on standard error, where there is one
abbrev pub hint_of : Status → Option (List ℕ)
hint_of Done = None
hint_of Usage = Some (codes "see piv --help")
hint_of (BadScene at) = Some (place_text at)
hint_of (TooLarge what) = Some (limit_text what)
hint_of ReadFault = None
hint_of WriteFault = None
hint_of DeviceFault = Some (codes "the device lost power before the card stood on it")
hint_of NoMemory = None
