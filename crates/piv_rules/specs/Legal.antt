-- Which histories are legal: each entry is allowed after those before it (this project's own; the answers of the calls
-- are those of the ordered table).
use Rattle.std.specs.Prelude.{◌≡◌, ℕ, zero, suc, ◌+◌, ◌≤◌, Bool, true, false, not, ◌&&◌, ◌||◌, nat_lt, nat_le, List, [], ◌∷◌, length, count_by, Option, Some, None, option_map, IsTrue, if◌then◌else◌}
use Rattle.std.specs.List.{list_any}
use Rattle.piv_model.specs.declared.kinds.Interface.{Interface}
use Rattle.piv_model.specs.declared.history.ActKind.{ActKind}
use Rattle.piv_model.specs.declared.history.ActKind.TheVariants as act
use Rattle.piv_model.specs.declared.history.Refusal.{Refusal}
use Rattle.piv_model.specs.declared.history.Refusal.TheVariants as why
use Rattle.piv_model.specs.Commands.{CardCommand}
use Rattle.piv_model.specs.Entries.{CardEntry, Past, Opened, Closed, Call, Part, Rest, Bad, Reset, Cut, Up, Note}
use Rattle.piv_model.specs.Base.{Base, profile}
use Rattle.piv_rules.specs.StatusWords.{is_granted, is_mismatched, is_framing_word}
use Rattle.piv_rules.specs.Asks.{Ask, Put, Compare, AskChallenge, AskWitness, ask}
use Rattle.piv_rules.specs.Connections.{same_side, on, is_open, side, is_exclusive, epoch, by_exchange}
use Rattle.piv_rules.specs.RandomBlocks.{next_block}
use Rattle.piv_rules.specs.Answers.{answer}
use Rattle.piv_rules.specs.Losses.{MayTake}

-- the number of connections opened so far; they are numbered from 1
abbrev pub is_opening : CardEntry → Bool
is_opening (Opened c interface shared) = true
is_opening _ = false

abbrev pub opened_count : Past → ℕ
opened_count H = count_by is_opening H

-- the numbers of those that are open
abbrev pub open_among : Past → ℕ → List ℕ
open_among H zero = []
open_among H (suc n) = if is_open H (suc n) then suc n ∷ open_among H n else open_among H n

abbrev pub open_ones : Past → List ℕ
open_ones H = open_among H (opened_count H)

-- sixteen are open
abbrev pub is_full : Past → Bool
is_full H = nat_le 16 (length (open_ones H))

-- another connection is open on the interface, and it or the new one is exclusive
abbrev pub is_locked : Past → Interface → Bool → Bool
is_locked H i shared = list_any (λ d. same_side i (side H d) && (not shared || is_exclusive H d)) (open_ones H)

-- a request for a challenge or a Witness
abbrev pub asks_block : Ask → Bool
asks_block AskChallenge = true
asks_block AskWitness = true
asks_block _ = false

-- the block that a call bears: the next one, where it grants such a request
abbrev pub block_borne : Base → Past → CardCommand → ℕ → Option (List ℕ)
block_borne B G k word = if asks_block (ask (profile B) k) && is_granted word then Some (next_block B G) else None

-- the granted Call and the Rests after it in which what c exchanged after its last break ends: how many bytes of data the
-- Call has, and how many Rests there were
pub record Fetched : Type 0 where
  pub size : ℕ
  pub rests : ℕ

abbrev pub with_rest : Fetched → Fetched
with_rest f = record f { rests = f.rests + 1 }

abbrev pub fetch_step : Base → Past → ℕ → CardEntry → Option Fetched → Option Fetched
fetch_step B G c (Call d k word block) before =
    if is_granted word then Some (record { size = length (answer B G c k).body; rests = 0 }) else None
fetch_step B G c (Rest d) before = option_map with_rest before
fetch_step B G c e before = None

abbrev pub fetched : Base → Past → ℕ → Option Fetched
fetched B [] c = None
fetched B (e ∷ G) c = by_exchange c None (fetch_step B G c e) G e (fetched B G c)

-- after n Rests one more may come where the data have at least n + 2 bytes, since the Call and each Rest gave one at least
abbrev pub MayFetch : Option Fetched → Type 0
MayFetch None = ⊥
MayFetch (Some f) = f.rests + 2 ≤ f.size

-- a command that writes: only such a one can lose power
abbrev pub is_writer : Ask → Bool
is_writer (Compare r p purpose) = true
is_writer (Put id v) = true
is_writer _ = false

-- what is noted of an act that changed nothing
abbrev pub is_noted : Past → ActKind → Refusal → Bool
is_noted G (act.Connect i) why.Off = not (on G)
is_noted G (act.Connect i) why.Locked = on G && list_any (λ d. same_side i (side G d)) (open_ones G)
is_noted G (act.Connect i) why.NoChannel = on G && is_full G
is_noted G (act.Disconnect c) why.NoConnection = not (is_open G c)
is_noted G (act.Exchange c) why.NoConnection = not (is_open G c)
is_noted G (act.Exchange c) why.Mute = is_open G c && not (on G)
is_noted G (act.Exchange c) why.Stale = is_open G c && on G && nat_lt 0 (epoch G (side G c))
is_noted G (act.Reset i) why.Off = not (on G)
is_noted G act.Cut why.Off = not (on G)
is_noted G act.Power why.On = on G
is_noted G _ _ = false

-- the entry may come after these
abbrev pub IsAllowed : Base → Past → CardEntry → Type 0
IsAllowed B G (Opened c i shared) =
    IsTrue (on G) × (c ≡ opened_count G + 1) × IsTrue (not (is_full G)) × IsTrue (not (is_locked G i shared))
IsAllowed B G (Closed c) = IsTrue (is_open G c)
IsAllowed B G (Call c k word block) =
    IsTrue (on G) × IsTrue (is_open G c) × (word ≡ (answer B G c k).word) × (block ≡ block_borne B G k word)
IsAllowed B G (Part c) = IsTrue (on G) × IsTrue (is_open G c)
IsAllowed B G (Bad c word) = IsTrue (on G) × IsTrue (is_open G c) × IsTrue (is_framing_word word)
IsAllowed B G (Rest c) = IsTrue (on G) × IsTrue (is_open G c) × MayFetch (fetched B G c)
IsAllowed B G (Reset i) = IsTrue (on G)
IsAllowed B G (Cut None) = IsTrue (on G)
IsAllowed B G (Cut (Some r)) =
    IsTrue (on G) × IsTrue (is_open G r.0) × IsTrue (is_writer (ask (profile B) r.1))
    × IsTrue (is_granted (answer B G r.0 r.1).word || is_mismatched (answer B G r.0 r.1).word)
IsAllowed B G (Up t) = IsTrue (not (on G)) × MayTake B G t
IsAllowed B G (Note a w) = IsTrue (is_noted G a w)

abbrev pub IsLegal : Base → Past → Type 0
IsLegal B [] = Unit {0}
IsLegal B (e ∷ G) = IsLegal B G × IsAllowed B G e
