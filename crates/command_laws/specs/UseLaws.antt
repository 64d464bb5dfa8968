-- A command is granted by its access rule alone (SP 800-73-4 part 1, access rules).
use Rattle.std.specs.Prelude.{◌≡◌, ℕ, ◌-◌, true, false, List, Option, None, IsTrue}
use Rattle.piv_model.specs.Commands.{CardCommand}
use Rattle.piv_model.specs.Entries.{Past, ◌▸◌, Call}
use Rattle.piv_model.specs.Base.{Base, profile, is_valid}
use Rattle.piv_rules.specs.StatusWords.{is_granted}
use Rattle.piv_rules.specs.Asks.{ask}
use Rattle.piv_rules.specs.Connections.{side}
use Rattle.piv_rules.specs.Logins.{pending}
use Rattle.piv_rules.specs.Memories.{mem}
use Rattle.piv_rules.specs.Answers.{answer, situation_of, holds, rule_of, is_select, is_wrong, refusal}
use Rattle.piv_rules.specs.Legal.{IsLegal}
use Rattle.piv_rules.specs.Entitled.{IsEntitled}

-- every command but SELECT that was answered 90 00 had its rule: an object is given, and a key used, by it alone
abbrev pub UsesAreEntitled : Type 0
UsesAreEntitled = (B : Base) (H : Past) (c : ℕ) (k : CardCommand) (word : ℕ) (block : Option (List ℕ))
    → IsLegal B (H ▸ Call c k word block) → is_granted word ≡ true → is_select k ≡ false
    → IsEntitled B H c (rule_of (side H c) (ask (profile B) k))

-- where the rule holds, 69 82 is the word of a wrong response alone
abbrev pub OnlyWrongResponsesAreDenied : Type 0
OnlyWrongResponsesAreDenied = (B : Base) (H : Past) (c : ℕ) (k : CardCommand)
    → IsTrue (is_valid B) → is_select k ≡ false → refusal (ask (profile B) k) ≡ None
    → holds (situation_of B H c) (rule_of (side H c) (ask (profile B) k)) ≡ true
    → (answer B H c k).word ≡ 0x6982
    → is_wrong (mem B H).admin (pending B H c) (ask (profile B) k) ≡ true
