-- A connection, as the rules see it.
use Rattle.std.specs.Prelude.{Bool, false, Option, unwrap_or}
use Rattle.piv_model.specs.declared.kinds.RefId.{RefId}
use Rattle.piv_model.specs.declared.kinds.RefId.TheVariants.{Pin, Puk, GlobalPin}
use Rattle.access_rules.specs.declared.decision.Status.{Status}
use Rattle.auth_protocol.specs.declared.exchange.Pending.{Pending}
use Rattle.auth_protocol.specs.declared.exchange.Pending.TheVariants as kept
use Rattle.card_commands.specs.declared.connection.Conn.{Conn}
use Rattle.piv_rules.specs.Channels as rules
use Rattle.piv_rules.specs.Logins as logins

abbrev pub pending_of : Pending → logins.Pending
pending_of kept.None = logins.NonePending
pending_of (kept.Challenge block) = logins.Challenge block
pending_of (kept.Witness block) = logins.Witness block

abbrev pub channel_of : Conn → rules.Channel
channel_of x = record { piv = x.piv; pin = x.pin; global = x.global; admin = x.admin; pending = pending_of x.exchange }

abbrev pub status_of : rules.Channel → Status
status_of x = record { piv = x.piv; pin = x.pin; global = x.global; admin = x.admin }

-- the login by a reference; the PUK gives none
abbrev pub status_on : Conn → RefId → Bool
status_on x Pin = x.pin
status_on x GlobalPin = x.global
status_on x Puk = false

-- a login that is set, or stays
abbrev pub with_status : RefId → Option Bool → Conn → Conn
with_status Pin b x = record x { pin = unwrap_or b x.pin }
with_status GlobalPin b x = record x { global = unwrap_or b x.global }
with_status Puk b x = x
