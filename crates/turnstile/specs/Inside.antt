-- A pass is a seat at the table which has taken nothing.
use Rattle.std.specs.Prelude.{◌≡◌, [], Option, None}
use Rattle.atomic_table.specs.declared.shared.Seat.{Seat}
use Rattle.turnstile.specs.declared.view.View.{View}
use Rattle.turnstile.specs.Known.{Known}

module _ {X B E : Type 0} where
  abbrev pub known : Seat (Option X) (View X B E) → Known B E
  known seat = let v = seat.me.0 in record { table = seat.table_id; base = v.base; is_first = v.is_first; seen = v.seen; own = v.own; out = v.out }

  abbrev pub IsIdle : Seat (Option X) (View X B E) → Type 0
  IsIdle seat = (seat.me.1 ≡ []) × (seat.me.0.taken ≡ None)
