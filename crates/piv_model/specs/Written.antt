-- What contracts see of a stored history: its entries, and the room that is left (this project's own).
use Rattle.std.specs.Prelude.{◌≡◌, ◌≤◌, ℕ, ◌+◌, List, [], ◌∷◌, length, take, drop, reverse, slice_get, Option, Some, option_map}
use Rattle.piv_model.specs.declared.stored.StoredCommand.{StoredCommand}
use Rattle.piv_model.specs.declared.stored.StoredEntry.{StoredEntry}
use Rattle.piv_model.specs.declared.stored.StoredEntry.TheVariants as row
use Rattle.piv_model.specs.Commands.{CardCommand}
use Rattle.piv_model.specs.Entries.{CardEntry, Past, Opened, Closed, Call, Part, Rest, Bad, Reset, Cut, Up, Note}

-- the entries, the newest first, and how many more entries and command bytes have room
pub record Written : Type 0 where
  pub past : Past
  pub entries : ℕ
  pub bytes : ℕ

-- the bytes of an entry's command
abbrev pub command_bytes : CardEntry → List ℕ
command_bytes (Call c k word block) = k.body
command_bytes (Cut (Some r)) = r.1.body
command_bytes _ = []

abbrev pub command_length : CardEntry → ℕ
command_length e = length (command_bytes e)

-- the entry at a place, counted from the oldest
abbrev pub at_place : Past → ℕ → Option CardEntry
at_place H k = slice_get (reverse H) k

-- at least this room
abbrev pub HasRoom : ℕ → ℕ → Written → Type 0
HasRoom entries bytes w = (entries ≤ w.entries) × (bytes ≤ w.bytes)

-- the history has grown by this entry, and has lost no more room than it takes
pub record IsPushed (entry : CardEntry) (old new : Written) : Type 0 where
  pub past : new.past ≡ entry ∷ old.past
  pub entries : old.entries ≤ new.entries + 1
  pub bytes : old.bytes ≤ new.bytes + command_length entry

-- ---- a row of the store

-- the command whose data stand in the buffer
abbrev pub command_in : List ℕ → StoredCommand → CardCommand
command_in bytes s = record { ins = s.ins; p1 = s.p1; p2 = s.p2; body = take s.size (drop s.from bytes) }

abbrev pub entry_in : List ℕ → StoredEntry → CardEntry
entry_in bytes (row.Opened c interface shared) = Opened c interface shared
entry_in bytes (row.Closed c) = Closed c
entry_in bytes (row.Call c span sw block) = Call c (command_in bytes span) sw block
entry_in bytes (row.Part c) = Part c
entry_in bytes (row.Rest c) = Rest c
entry_in bytes (row.Bad c sw) = Bad c sw
entry_in bytes (row.Reset interface) = Reset interface
entry_in bytes (row.Cut running) = Cut (option_map (λ r. (r.0, command_in bytes r.1)) running)
entry_in bytes (row.Up took) = Up took
entry_in bytes (row.Note act answer) = Note act answer

-- its bytes lie in a buffer of this length
abbrev pub IsWithin : ℕ → StoredEntry → Type 0
IsWithin n (row.Call c span sw block) = span.from + span.size ≤ n
IsWithin n (row.Cut (Some r)) = r.1.from + r.1.size ≤ n
IsWithin n _ = Unit {0}
