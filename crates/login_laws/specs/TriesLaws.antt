-- The tries of a reference over a history (SP 800-73-4 part 1, retry counters; part 2, VERIFY, CHANGE REFERENCE DATA and
-- RESET RETRY COUNTER).
use Rattle.std.specs.Prelude.{◌≡◌, ◌⊎◌, ◌≤◌, ◌<◌, ℕ, ◌+◌, ◌-◌, Bool, true, false, ◌&&◌, ◌||◌, List, Option, Some, None, IsTrue}
use Rattle.std.specs.Str.{bytes_eq}
use Rattle.piv_model.specs.declared.kinds.RefId.{RefId}
use Rattle.piv_model.specs.declared.kinds.RefId.TheVariants.{Pin}
use Rattle.piv_model.specs.declared.kinds.Took.TheVariants.{Nothing, Spent, Done}
use Rattle.piv_model.specs.Commands.{CardCommand}
use Rattle.piv_model.specs.Entries.{CardEntry, Past, ◌▸◌, Call, Cut, Up}
use Rattle.piv_model.specs.Memory.{reference}
use Rattle.piv_model.specs.Base.{Base, profile, is_valid}
use Rattle.piv_rules.specs.Asks.{Ask, Compare, Purpose, Unblock, ask}
use Rattle.piv_rules.specs.Memories.{running, is_unblock, same_reference, spends, tries, tries_at_first, spends_since, mem}
use Rattle.piv_rules.specs.Legal.{IsLegal, IsAllowed}
use Rattle.login_laws.specs.LoginLaws.{is_miss}

-- the tries left and those spent since the last filling are those that the reference had then
abbrev pub TriesAddUp : Type 0
TriesAddUp = (B : Base) (H : Past) (r : RefId) → IsLegal B H → tries B H r + spends_since B H r ≡ tries_at_first B H r

abbrev pub TriesAreWithin : Type 0
TriesAreWithin = (B : Base) (H : Past) (r : RefId)
    → (reference B.memory r).tries ≤ (reference B.memory r).limit → tries B H r ≤ (reference B.memory r).limit

-- the command compares its candidate with a secret, and finds it equal: that of r, or, for the PIN, the PUK with a new PIN
pub record IsMatch (B : Base) (G : Past) (r : RefId) (k : CardCommand) : Type 0 where
  pub compared : RefId
  pub candidate : List ℕ
  pub purpose : Purpose
  pub asks : ask (profile B) k ≡ Compare compared candidate purpose
  pub equal : bytes_eq candidate (reference (mem B G) compared).secret ≡ true
  pub fills : (compared ≡ r) ⊎ ((is_unblock purpose ≡ true) × (r ≡ Pin))

-- an entry by which such a command was done: its Call, or the Up that tells that it was
pub record IsDoneInFlight (B : Base) (G : Past) (r : RefId) : Type 0 where
  pub sender : ℕ
  pub command : CardCommand
  pub was : running G ≡ Some (sender, command)
  pub match : IsMatch B G r command

abbrev pub IsMatched : Base → Past → RefId → CardEntry → Type 0
IsMatched B G r (Call c k word block) = (word ≡ 0x9000) × IsMatch B G r k
IsMatched B G r (Up t) = (t ≡ Done) × IsDoneInFlight B G r
IsMatched B G r _ = ⊥

abbrev pub OnlyMatchesRaise : Type 0
OnlyMatchesRaise = (B : Base) (H : Past) (e : CardEntry) (r : RefId) → IsTrue (is_valid B) → IsAllowed B H e
    → tries B H r < tries B (H ▸ e) r → IsMatched B H r e

-- a mismatch takes one try of the reference that is compared, and its word tells those that are left
abbrev pub MissesTakeOne : Type 0
MissesTakeOne = (B : Base) (H : Past) (c : ℕ) (k : CardCommand) (word : ℕ) (block : Option (List ℕ)) (r : RefId) (p : List ℕ)
    (purpose : Purpose)
    → IsTrue (is_valid B) → IsAllowed B H (Call c k word block) → ask (profile B) k ≡ Compare r p purpose → is_miss word ≡ true
    → (tries B (H ▸ Call c k word block) r + 1 ≡ tries B H r) × (word ≡ 0x63C0 + tries B (H ▸ Call c k word block) r)

-- a match fills the counter of the reference that is compared
abbrev pub MatchesFill : Type 0
MatchesFill = (B : Base) (H : Past) (c : ℕ) (k : CardCommand) (block : Option (List ℕ)) (r : RefId) (p : List ℕ) (purpose : Purpose)
    → ask (profile B) k ≡ Compare r p purpose → tries B (H ▸ Call c k 0x9000 block) r ≡ (reference B.memory r).limit

-- an unblocking fills that of the PIN too
abbrev pub UnblockingsFillThePin : Type 0
UnblockingsFillThePin = (B : Base) (H : Past) (c : ℕ) (k : CardCommand) (block : Option (List ℕ)) (r : RefId) (p n : List ℕ)
    → ask (profile B) k ≡ Compare r p (Unblock n) → tries B (H ▸ Call c k 0x9000 block) Pin ≡ (reference B.memory Pin).limit

-- when the power comes back after a comparison in flight: a try is gone where this was spent, and the counter is full where
-- it was done
abbrev pub UpsTellTheTries : Type 0
UpsTellTheTries = (B : Base) (H : Past) (c : ℕ) (k : CardCommand) (r : RefId) (p : List ℕ) (purpose : Purpose)
    → running H ≡ Some (c, k) → ask (profile B) k ≡ Compare r p purpose
    → (tries B (H ▸ Up Nothing) r ≡ tries B H r) × (tries B (H ▸ Up Spent) r ≡ tries B H r - 1)
    × (tries B (H ▸ Up Done) r ≡ (reference B.memory r).limit)

-- a mismatch leaves those of every other reference, a wrong PUK those of the PIN
abbrev pub MissesLeaveOthers : Type 0
MissesLeaveOthers = (B : Base) (H : Past) (c : ℕ) (k : CardCommand) (word : ℕ) (block : Option (List ℕ)) (r s : RefId) (p : List ℕ)
    (purpose : Purpose)
    → ask (profile B) k ≡ Compare s p purpose → same_reference r s ≡ false → is_miss word ≡ true
    → tries B (H ▸ Call c k word block) r ≡ tries B H r

-- all else leaves them: entries that are no command, and commands that neither compare r nor unblock it
abbrev pub concerns : RefId → Ask → Bool
concerns r (Compare s p purpose) = same_reference r s || (is_unblock purpose && same_reference r Pin)
concerns r _ = false

abbrev pub in_flight_concerns : Base → RefId → Option (ℕ × CardCommand) → Bool
in_flight_concerns B r None = false
in_flight_concerns B r (Some command) = concerns r (ask (profile B) command.1)

abbrev pub entry_concerns : Base → RefId → Past → CardEntry → Bool
entry_concerns B r G (Call c k word block) = concerns r (ask (profile B) k)
entry_concerns B r G (Up t) = in_flight_concerns B r (running G)
entry_concerns B r G _ = false

abbrev pub OthersLeaveTheTries : Type 0
OthersLeaveTheTries = (B : Base) (H : Past) (e : CardEntry) (r : RefId) → entry_concerns B r H e ≡ false → tries B (H ▸ e) r ≡ tries B H r

-- a try is spent only where one is left
abbrev pub SpendsHadATry : Type 0
SpendsHadATry = (B : Base) (H : Past) (e : CardEntry) (r : RefId) → IsAllowed B H e → spends (profile B) r H e ≡ true
    → 1 ≤ tries B H r

-- a comparison that lost power had one to spend
abbrev pub LossesHadATry : Type 0
LossesHadATry = (B : Base) (H : Past) (c : ℕ) (k : CardCommand) (r : RefId) (p : List ℕ) (purpose : Purpose)
    → ask (profile B) k ≡ Compare r p purpose → IsAllowed B H (Cut (Some (c, k))) → 1 ≤ tries B H r
