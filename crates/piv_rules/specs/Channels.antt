-- What a history says of one connection's application, logins and pending block, as one value, and what a break and a
-- call make of it (this project's own).
use Rattle.std.specs.Prelude.{ℕ, Bool, false, List, Option, unwrap_or}
use Rattle.piv_model.specs.Entries.{Past}
use Rattle.piv_model.specs.Base.{Base}
use Rattle.piv_rules.specs.declared.lookback.Login.TheVariants as login
use Rattle.piv_rules.specs.Asks.{Ask}
use Rattle.piv_rules.specs.Connections.{selected, selected_after}
use Rattle.piv_rules.specs.Logins.{in_force, pin_after, global_after, admin_after, Pending, NonePending, pending, pending_by}

pub record Channel : Type 0 where
  pub piv : Bool
  pub pin : Bool
  pub global : Bool
  pub admin : Bool
  pub pending : Pending

-- after a break
abbrev pub fresh : Channel
fresh = record { piv = false; pin = false; global = false; admin = false; pending = NonePending }

unfoldable pub channel : Base → Past → ℕ → Channel
channel B H c = record {
  piv = selected B H c;
  pin = in_force B H c login.Pin;
  global = in_force B H c login.Global;
  admin = in_force B H c login.Admin;
  pending = pending B H c;
}

-- after a call
abbrev pub after_call : Ask → ℕ → Option (List ℕ) → Channel → Channel
after_call a word block s = record {
  piv = unwrap_or (selected_after a word block) s.piv;
  pin = unwrap_or (pin_after a word block) s.pin;
  global = unwrap_or (global_after a word block) s.global;
  admin = unwrap_or (admin_after a word block) s.admin;
  pending = pending_by a block;
}
