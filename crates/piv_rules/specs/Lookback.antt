-- Looking back through a history for the last entry that matters. A history has its newest entry first.
use Rattle.std.specs.Prelude.{ℕ, ◌+◌, Bool, true, false, [], ◌∷◌, Option, unwrap_or, if◌then◌else◌, not, ◌&&◌, ◌++◌}
use Rattle.piv_model.specs.Entries.{CardEntry, Past}

-- what the last entry says of which `f` says something, else `start`; `f` also has the entries before it
abbrev pub last_of : {A : Type 0} → (Past → CardEntry → Option A) → A → Past → A
last_of f start [] = start
last_of f start (e ∷ H) = unwrap_or (f H e) (last_of f start H)

-- the number of entries that count, after the last one that begins anew
abbrev pub count_after : (Past → CardEntry → Bool) → (Past → CardEntry → Bool) → Past → ℕ
count_after anew counts [] = 0
count_after anew counts (e ∷ H) =
    if anew H e then 0
    else if counts H e then count_after anew counts H + 1
    else count_after anew counts H

-- whether some entry is of a kind
abbrev pub some_entry : (Past → CardEntry → Bool) → Past → Bool
some_entry is [] = false
some_entry is (e ∷ H) = if is H e then true else some_entry is H

-- none of the entries L, which follow H, is of this kind
abbrev pub none_since : (Past → CardEntry → Bool) → Past → Past → Bool
none_since is [] H = true
none_since is (e ∷ L) H = not (is (L ++ H) e) && none_since is L H
