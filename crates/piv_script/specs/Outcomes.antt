-- What reading leaves: a history that grew by the entry, or none and a fault (this project's own).
use Rattle.std.specs.Prelude.{◌≡◌, ⊤, ◌∷◌, Option, Some, None, option_map, Result, Ok, Err}
use Rattle.piv_model.specs.Entries.{CardEntry, Past}
use Rattle.piv_model.specs.Written.{Written}
use Rattle.line_words.specs.declared.fault.LineFault.{LineFault}
use Rattle.line_words.specs.declared.fault.LineFault.TheVariants.{Malformed, NoMemory}

-- the history grew by the entry that is read, if any is; after a fault it is as before
abbrev pub Pushes : Result (Unit {0}) LineFault → Option CardEntry → Past → Past → Type 0
Pushes (Ok u) read old new = option_map (λ e. e ∷ old) read ≡ Some new
Pushes (Err Malformed) read old new = (read ≡ None) × (new ≡ old)
Pushes (Err NoMemory) read old new = new ≡ old

-- the history that is read, unless memory was wanting
abbrev pub GivesPast : Result Written LineFault → Option Past → Type 0
GivesPast (Ok h) read = read ≡ Some h.past
GivesPast (Err Malformed) read = read ≡ None
GivesPast (Err NoMemory) read = ⊤
