-- What the code's readers return, as lists.
use Rattle.std.specs.Prelude.{◌≡◌, ℕ, List, Result, Ok, Err}
use Rattle.std.specs.Borrow.{Bor}
use Rattle.ber_tlv.specs.declared.fault.TlvKind.{TlvKind}
use Rattle.ber_tlv.specs.Reading.{Read}

-- What was returned is what reading gives.
abbrev pub Gives : Result (ℕ × Bor (List ℕ)) TlvKind → Read ℕ → Type 0
Gives (Ok x) read = read ≡ Ok (x.0, x.1.now)
Gives (Err kind) read = read ≡ Err kind

abbrev pub GivesParts : Result (ℕ × Bor (List ℕ) × Bor (List ℕ)) TlvKind → Read (ℕ × List ℕ) → Type 0
GivesParts (Ok x) read = read ≡ Ok ((x.0, x.1.now), x.2.now)
GivesParts (Err kind) read = read ≡ Err kind
