-- What each step on the table changes in a pass, and what it tells.
use Rattle.std.specs.Prelude.{◌≡◌, ◌≢◌, ℕ, ◌+◌, ◌-◌, ◌≤◌, max, false, List, [], ◌∷◌, length, Option, Some, None}
use Rattle.atomic_table.specs.Table.{Me, rest}
use Rattle.turnstile.specs.declared.view.View.{View}
use Rattle.turnstile.specs.Records.{InPlace, Rises, merged}
use Rattle.turnstile.specs.Known.{seen_after, own_after}

module _ {X B E : Type 0} where
  -- A step that finds 0 takes the slot, whose value stands for the base and a list of records that has all that
  -- the pass knows. A look finds another number, and changes nothing
  abbrev pub Takes : (X → B → List E → Type 0) → Me (Option X) (View X B E) → ℕ → Me (Option X) (View X B E) → Type 0
  Takes stands_for m found w =
      (found ≡ 0 → (b : B) → m.0.base ≡ Some b
      → (x : X) × (records : List E) × stands_for x b records
      × (m.0.seen ≤ length records) × InPlace m.0.own records × Rises m.0.seen m.0.own
      × (w ≡ (record m.0 { taken = Some x }, (0, Some x) ∷ m.1)))
      × (found ≢ 0 → w ≡ m)

  -- the view after a turn that found n records
  abbrev pub given : View X B E → ℕ → Option E → View X B E
  given v n made = record v { seen = seen_after n made; own = own_after v.own n made; taken = None }

  -- the slot goes home, and the record that was made is the pass's own
  abbrev pub GivesBack : (X → ℕ) → Option E → Me (Option X) (View X B E) → Me (Option X) (View X B E) → Type 0
  GivesBack record_count made m w = (x : X) → m.0.taken ≡ Some x → w ≡ (given m.0 (record_count x) made, rest m.1)

  -- a load after a join: the places of the own records rise
  abbrev pub Looks : Me (Option X) (View X B E) → Me (Option X) (View X B E) → Type 0
  Looks m w = (w ≡ m) × Rises m.0.seen m.0.own

  -- the first pass after a split, and the new one
  abbrev pub split_from : View X B E → View X B E
  split_from v = record v { out = v.out + 1 }

  abbrev pub newcomer : View X B E → View X B E
  newcomer v = record v { is_first = false; own = []; out = 0 }

  -- the first pass after a join, and the other, which is joined away
  abbrev pub both : View X B E → View X B E → View X B E
  both v w = record v { seen = max v.seen w.seen; own = merged v.own w.own; out = v.out - 1 }

  abbrev pub joined_away : View X B E
  joined_away = record { is_first = false; base = None; seen = 0; own = []; out = 0; taken = None }
