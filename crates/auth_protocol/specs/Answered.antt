-- What GENERAL AUTHENTICATE answers, by the pending block (SP 800-73-4 part 2).
use Rattle.std.specs.Prelude.{ℕ, Bool, true, false, List, Option, Some, None, if◌then◌else◌}
use Rattle.std.specs.Str.{bytes_eq}
use Rattle.piv_model.specs.declared.kinds.KeyId.TheVariants.{AdminKey, CardAuth}
use Rattle.auth_protocol.specs.Keys.{Keys, enciphered}
use Rattle.auth_protocol.specs.declared.form.AuthAsk.{AuthAsk}
use Rattle.auth_protocol.specs.declared.form.AuthAsk.TheVariants as auth
use Rattle.auth_protocol.specs.declared.exchange.Pending.{Pending}
use Rattle.auth_protocol.specs.declared.exchange.Pending.TheVariants as pending
use Rattle.auth_protocol.specs.declared.exchange.AuthOut.{AuthOut}
use Rattle.auth_protocol.specs.declared.exchange.AuthOut.TheVariants as out

-- an answer to a challenge or to a Witness, where no such block is pending
abbrev pub lacks_pending : Pending → AuthAsk → Bool
lacks_pending (pending.Challenge c) (auth.External x) = false
lacks_pending _ (auth.External x) = true
lacks_pending (pending.Witness b) (auth.Mutual w x) = false
lacks_pending _ (auth.Mutual w x) = true
lacks_pending _ _ = false

-- the right answer to a challenge is the challenge enciphered
abbrev pub external_answer : Keys → Pending → List ℕ → AuthOut
external_answer keys (pending.Challenge c) x =
    if bytes_eq x (enciphered keys AdminKey c) then out.Granted else out.Wrong
external_answer keys _ x = out.NoPending

-- the right answer to a Witness is the block of which it was made
abbrev pub mutual_answer : Keys → Pending → List ℕ → List ℕ → AuthOut
mutual_answer keys (pending.Witness b) w x =
    if bytes_eq w b then out.Mutual (enciphered keys AdminKey x) else out.Wrong
mutual_answer keys _ w x = out.NoPending

-- the answer with the card's next random block
abbrev pub answered : Keys → Pending → AuthAsk → List ℕ → AuthOut
answered keys p (auth.Internal x) block = out.Internal (enciphered keys CardAuth x)
answered keys p auth.Challenge block = out.Challenge
answered keys p (auth.External x) block = external_answer keys p x
answered keys p auth.Witness block = out.Cipher (enciphered keys AdminKey block)
answered keys p (auth.Mutual w x) block = mutual_answer keys p w x

-- what is pending afterwards: the block of a challenge or of a Witness that was granted
abbrev pub left_by : AuthAsk → List ℕ → Pending
left_by auth.Challenge block = pending.Challenge block
left_by auth.Witness block = pending.Witness block
left_by _ block = pending.None

-- the same for fields, which ask something or are no form
abbrev pub answered_to : Keys → Pending → Option AuthAsk → List ℕ → AuthOut
answered_to keys p None block = out.NoForm
answered_to keys p (Some a) block = answered keys p a block

abbrev pub left_by_any : Option AuthAsk → List ℕ → Pending
left_by_any None block = pending.None
left_by_any (Some a) block = left_by a block
