-- How a connection changes by one entry.
use Rattle.std.proofs.Common.{◌≡◌, ℕ, true, false, List, ◌∷◌, Option, refl}
use Rattle.std.proofs.Common.{eq-eqb}
use Rattle.std.specs.Prelude.{◌==◌}
use Rattle.piv_model.specs.declared.kinds.Took.{Took}
use Rattle.piv_model.specs.Commands.{CardCommand}
use Rattle.piv_model.specs.Entries.{CardEntry, Past, Call, Part, Up}
use Rattle.piv_model.specs.Base.{profile, Base}
use Rattle.piv_rules.specs.Asks.{ask}
use Rattle.piv_rules.specs.Connections.{breaks}
use Rattle.piv_rules.specs.Channels.{channel, fresh, after_call}

-- an entry that breaks c puts it back
pub channel-break : (B : Base) (H : Past) (c : ℕ) (e : CardEntry) → breaks c H e ≡ true → channel B (e ∷ H) c ≡ fresh
unfolding channel
channel-break B H c e h = rw h

-- a call on c
pub channel-call : (B : Base) (H : Past) (c : ℕ) (k : CardCommand) (word : ℕ) (block : Option (List ℕ))
    → channel B (Call c k word block ∷ H) c ≡ after_call (ask (profile B) k) word block (channel B H c)
unfolding channel
channel-call B H c k word block = rw (eq-eqb c c refl)

-- a call on another connection
pub channel-other : (B : Base) (H : Past) (c d : ℕ) (k : CardCommand) (word : ℕ) (block : Option (List ℕ))
    → (d == c) ≡ false → channel B (Call d k word block ∷ H) c ≡ channel B H c
unfolding channel
channel-other B H c d k word block h = rw h

-- a Part, Rest, Bad, Closed, Up or Note
pub channel-part : (B : Base) (H : Past) (c d : ℕ) → channel B (Part d ∷ H) c ≡ channel B H c
unfolding channel
channel-part B H c d = refl

pub channel-up : (B : Base) (H : Past) (c : ℕ) (t : Took) → channel B (Up t ∷ H) c ≡ channel B H c
unfolding channel
channel-up B H c t = refl

-- these laws, as one list
pub ruleset channel_steps = (channel-break, channel-call, channel-other, channel-part, channel-up)
