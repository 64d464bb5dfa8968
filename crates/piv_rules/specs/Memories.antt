-- The memory after a history: tries, secrets and objects (SP 800-73-4 part 1, retry counters; part 2, VERIFY, CHANGE
-- REFERENCE DATA, RESET RETRY COUNTER and PUT DATA; what a loss of power leaves is this project's own).
use Rattle.std.specs.Prelude.{ℕ, ◌-◌, Bool, true, false, ◌&&◌, ◌||◌, ◌==◌, List, map, Option, Some, None, option_map, option_and_then, if◌then◌else◌}
use Rattle.std.specs.List.{range_with_len}
use Rattle.piv_model.specs.declared.kinds.RefId.{RefId}
use Rattle.piv_model.specs.declared.kinds.RefId.TheVariants.{Pin, Puk, GlobalPin}
use Rattle.piv_model.specs.declared.kinds.Took.{Took}
use Rattle.piv_model.specs.declared.kinds.Took.TheVariants.{Spent, Done}
use Rattle.piv_model.specs.Commands.{CardCommand}
use Rattle.piv_model.specs.Entries.{CardEntry, Past, Call, Cut, Up}
use Rattle.piv_model.specs.Memory.{Memory, Reference, has, reference, stored}
use Rattle.piv_model.specs.Base.{Base, Profile, profile}
use Rattle.piv_rules.specs.Effects.{took_by}
use Rattle.piv_rules.specs.Lookback.{last_of, count_after, some_entry}
use Rattle.piv_rules.specs.Asks.{Ask, Put, Compare, Purpose, Change, Unblock, ask}

abbrev pub same_reference : RefId → RefId → Bool
same_reference Pin Pin = true
same_reference Puk Puk = true
same_reference GlobalPin GlobalPin = true
same_reference _ _ = false

-- what the last loss of power had running
abbrev pub cut_short : Past → CardEntry → Option (Option (ℕ × CardCommand))
cut_short G (Cut command) = Some command
cut_short G _ = None

abbrev pub running : Past → Option (ℕ × CardCommand)
running H = last_of cut_short None H

-- what an entry did to the memory: a command, and how far it came, which a Call's word tells; an Up tells of the command
-- of the last Cut
abbrev pub did : Past → CardEntry → Option (CardCommand × Took)
did G (Call c k word block) = Some (k, took_by word)
did G (Up took) = option_map (λ r. (r.1, took)) (running G)
did G _ = None

-- the comparisons that fill a counter, and those that spend a try; an unblocking fills the PIN's too
abbrev pub is_unblock : Purpose → Bool
is_unblock (Unblock n) = true
is_unblock _ = false

abbrev pub filled_by : RefId → Ask → Took → Bool
filled_by r (Compare s p purpose) Done = same_reference r s || (is_unblock purpose && same_reference r Pin)
filled_by r _ _ = false

abbrev pub spent_by : RefId → Ask → Took → Bool
spent_by r (Compare s p purpose) Spent = same_reference r s
spent_by r _ _ = false

abbrev pub did_so : Profile → (Ask → Took → Bool) → Option (CardCommand × Took) → Bool
did_so m is None = false
did_so m is (Some d) = is (ask m d.0) d.1

abbrev pub fills : Profile → RefId → Past → CardEntry → Bool
fills m r G e = did_so m (filled_by r) (did G e)

abbrev pub spends : Profile → RefId → Past → CardEntry → Bool
spends m r G e = did_so m (spent_by r) (did G e)

-- the tries that a reference began with: the limit where its counter was ever filled, else the base's
abbrev pub tries_at_first : Base → Past → RefId → ℕ
tries_at_first B H r =
    if some_entry (fills (profile B) r) H then (reference B.memory r).limit else (reference B.memory r).tries

-- the entries that spent a try after the last filling
abbrev pub spends_since : Base → Past → RefId → ℕ
spends_since B H r = count_after (fills (profile B) r) (spends (profile B) r) H

unfoldable pub tries : Base → Past → RefId → ℕ
tries B H r = tries_at_first B H r - spends_since B H r

-- the Calls among them
abbrev pub is_call : CardEntry → Bool
is_call (Call c k word block) = true
is_call _ = false

unfoldable pub comparisons : Base → Past → RefId → ℕ
comparisons B H r =
    if has B.memory r
    then count_after (fills (profile B) r) (λ G e. is_call e && spends (profile B) r G e) H
    else 0

-- the new value that an accepted command gives
abbrev pub secret_by : RefId → Ask → Took → Option (List ℕ)
secret_by r (Compare s p (Change n)) Done = if same_reference r s then Some n else None
secret_by r (Compare s p (Unblock n)) Done = if same_reference r Pin then Some n else None
secret_by r _ _ = None

abbrev pub object_by : ℕ → Ask → Took → Option (List ℕ)
object_by id (Put place v) Done = if id == place then Some v else None
object_by id _ _ = None

abbrev pub gave : {A : Type 0} → Profile → (Ask → Took → Option A) → Past → CardEntry → Option A
gave m by G e = option_and_then (λ d. by (ask m d.0) d.1) (did G e)

abbrev pub secret : Base → Past → RefId → List ℕ
secret B H r = last_of (gave (profile B) (secret_by r)) (reference B.memory r).secret H

abbrev pub object : Base → Past → ℕ → List ℕ
object B H id = last_of (gave (profile B) (object_by id)) (stored B.memory id) H

abbrev pub reference_now : Base → Past → RefId → Reference
reference_now B H r = record {
  limit = (reference B.memory r).limit;
  tries = tries B H r;
  secret = secret B H r;
}

-- the memory after a history; an object stands at each of the 33 places
unfoldable pub mem : Base → Past → Memory
mem B H = record {
  pin = reference_now B H Pin;
  puk = reference_now B H Puk;
  global = option_map (λ g. reference_now B H GlobalPin) B.memory.global;
  admin = B.memory.admin;
  card_auth = B.memory.card_auth;
  budget = B.memory.budget;
  objects = map (object B H) (range_with_len 0 33);
}
