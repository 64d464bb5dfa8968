-- What a command can ask of a card: its references are the card's, and its values have their forms (SP 800-73-4 part 1, data
-- objects; part 2, the commands of the card edge).
use Rattle.std.specs.Prelude.{◌≡◌, ◌≢◌, ◌≤◌, length, is_some, IsTrue}
use Rattle.piv_model.specs.declared.kinds.RefId.{RefId}
use Rattle.piv_model.specs.declared.kinds.RefId.TheVariants.{Puk}
use Rattle.piv_model.specs.Commands.{CardCommand}
use Rattle.piv_model.specs.Forms.{is_pin, is_secret}
use Rattle.piv_model.specs.Memory.{Memory, has}
use Rattle.piv_model.specs.Sound.{may_stand}
use Rattle.piv_model.specs.Base.{Base, profile}
use Rattle.piv_rules.specs.Asks.{Ask, Get, Put, Logout, Query, Compare, Internal, External, Mutual, Purpose, Verify, Change, Unblock, ask}

-- the new value that a comparison bears has the form of its reference; RESET RETRY COUNTER presents the PUK
abbrev pub HasForm : RefId → Purpose → Type 0
HasForm r Verify = Unit {0}
HasForm r (Change n) = IsTrue (is_secret r n)
HasForm r (Unblock n) = (r ≡ Puk) × IsTrue (is_pin n)

-- a place is one of the 33, a value may stand there, and the blocks of authentication have 16 bytes
abbrev pub IsProper : Memory → Ask → Type 0
IsProper m (Get id) = id ≤ 32
IsProper m (Put id v) = (id ≤ 32) × IsTrue (may_stand (is_some m.global) id v)
IsProper m (Logout r) = IsTrue (has m r) × (r ≢ Puk)
IsProper m (Query r) = IsTrue (has m r) × (r ≢ Puk)
IsProper m (Compare r p purpose) = IsTrue (has m r) × IsTrue (is_secret r p) × HasForm r purpose
IsProper m (Internal x) = length x ≡ 16
IsProper m (External x) = length x ≡ 16
IsProper m (Mutual w x) = (length w ≡ 16) × (length x ≡ 16)
IsProper m _ = Unit {0}

abbrev pub AsksAreProper : Type 0
AsksAreProper = (B : Base) (k : CardCommand) → IsProper B.memory (ask (profile B) k)
