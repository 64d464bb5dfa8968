-- What is kept of the connections that are open (this project's own).
use Rattle.std.specs.Prelude.{ℕ, ◌==◌, Bool, true, not, ◌&&◌, ◌||◌, nat_lt, List, [], ◌∷◌, Option, Some, None, option_map, find, if◌then◌else◌}
use Rattle.piv_model.specs.declared.kinds.Interface.{Interface}
use Rattle.piv_model.specs.Entries.{Past}
use Rattle.piv_rules.specs.Connections.{is_open, side, is_exclusive, same_side}
use Rattle.card_cell.specs.declared.connections.Open.{Open}

abbrev pub has_number : ℕ → Open → Bool
has_number c o = o.c == c

-- its interface, and whether it is shared
abbrev pub kept_as : Interface → Bool → Option (Interface × Bool)
kept_as i shared = Some (i, shared)

abbrev pub kept_in : List Open → ℕ → Option (Interface × Bool)
kept_in os c = option_map (λ o. (o.interface, o.shared)) (find (has_number c) os)

-- what a history says of them
abbrev pub kept_of : Past → ℕ → Option (Interface × Bool)
kept_of H c = if is_open H c then kept_as (side H c) (not (is_exclusive H c)) else None

-- a connection bars a new one: they are on one interface, and one of them is exclusive
abbrev pub bars : Interface → Bool → Open → Bool
bars i shared o = same_side i o.interface && (not shared || not o.shared)

-- the numbers fall, and the first is below n; so none stands twice
abbrev pub are_below : ℕ → List Open → Bool
are_below n [] = true
are_below n (o ∷ os) = nat_lt o.c n && are_below o.c os

-- without the first connection of this number
abbrev pub without : ℕ → List Open → List Open
without c [] = []
without c (o ∷ os) = if o.c == c then os else o ∷ without c os
