-- The status words of a command, by its instruction (SP 800-73-4 part 2, the status words of the commands).
use Rattle.std.specs.Prelude.{ℕ, Bool, false, ◌==◌, ◌||◌, List, [], ◌∷◌, if◌then◌else◌}
use Rattle.std.specs.List.{list_any}
use Rattle.piv_rules.specs.Asks.{Ask, Refused, Select, Get, Put, Logout, Query, Compare, Internal, AskChallenge, External, AskWitness, Mutual}
use Rattle.piv_rules.specs.StatusWords.{is_mismatched}

abbrev pub is_among : List ℕ → ℕ → Bool
is_among words sw = list_any (λ x. x == sw) words

abbrev pub is_select_word : ℕ → Bool
is_select_word sw = is_among (0x6A82 ∷ 0x6A86 ∷ 0x9000 ∷ []) sw

-- GET DATA, where PIV is selected
abbrev pub is_get_word : ℕ → Bool
is_get_word sw = is_among (0x6982 ∷ 0x6A80 ∷ 0x6A82 ∷ 0x6A86 ∷ 0x9000 ∷ []) sw

-- PUT DATA
abbrev pub is_put_word : ℕ → Bool
is_put_word sw = is_among (0x6982 ∷ 0x6A80 ∷ 0x6A82 ∷ 0x6A84 ∷ 0x6A86 ∷ 0x9000 ∷ []) sw

-- VERIFY, CHANGE REFERENCE DATA and RESET RETRY COUNTER: 63 CX too
abbrev pub is_compare_word : ℕ → Bool
is_compare_word sw =
    is_mismatched sw || is_among (0x6982 ∷ 0x6983 ∷ 0x6A80 ∷ 0x6A86 ∷ 0x6A88 ∷ 0x9000 ∷ []) sw

-- GENERAL AUTHENTICATE
abbrev pub is_auth_word : ℕ → Bool
is_auth_word sw = is_among (0x6982 ∷ 0x6A80 ∷ 0x6A86 ∷ 0x9000 ∷ []) sw

-- 6D 00 tells that another application is selected, or that the card has no such command
abbrev pub or_unserved : (ℕ → Bool) → ℕ → Bool
or_unserved is_word sw = (sw == 0x6D00) || is_word sw

abbrev pub is_served_word : ℕ → ℕ → Bool
is_served_word ins sw =
    if ins == 0xCB then is_get_word sw
    else if ins == 0xDB then is_put_word sw
    else if (ins == 0x20) || (ins == 0x24) || (ins == 0x2C) then is_compare_word sw
    else if ins == 0x87 then is_auth_word sw
    else false

-- the word is one that a command with this instruction is answered
abbrev pub is_word_of : ℕ → ℕ → Bool
is_word_of ins sw = if ins == 0xA4 then is_select_word sw else or_unserved (is_served_word ins) sw

-- by what it asks, where PIV is selected
abbrev pub is_word_for : Ask → ℕ → Bool
is_word_for (Refused w) sw = w == sw
is_word_for (Select a) sw = is_select_word sw
is_word_for (Get id) sw = is_get_word sw
is_word_for (Put id v) sw = is_put_word sw
is_word_for (Logout r) sw = is_compare_word sw
is_word_for (Query r) sw = is_compare_word sw
is_word_for (Compare r p purpose) sw = is_compare_word sw
is_word_for (Internal x) sw = is_auth_word sw
is_word_for AskChallenge sw = is_auth_word sw
is_word_for (External x) sw = is_auth_word sw
is_word_for AskWitness sw = is_auth_word sw
is_word_for (Mutual w x) sw = is_auth_word sw
