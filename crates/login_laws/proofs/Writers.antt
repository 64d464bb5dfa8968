-- The answers to comparisons and to puts are those of the table.
use Rattle.std.proofs.Common.{◌≡◌, ℕ, Bool, true, false, Option, Some, None, refl, ap}
use Rattle.std.specs.Prelude.{if◌then◌else◌, not}
use Rattle.piv_model.specs.declared.kinds.Application.{Application}
use Rattle.piv_model.specs.ApplicationNames.{application_named}
use Rattle.piv_model.specs.Commands.{CardCommand}
use Rattle.piv_model.specs.Entries.{Past}
use Rattle.piv_model.specs.Base.{Base, Profile, profile}
use Rattle.piv_rules.specs.Asks.{Ask, Refused, Select, Put, Compare, ask, is_at, named}
use Rattle.piv_rules.specs.Legal.{is_writer}
use Rattle.piv_rules.specs.Answers.{answer, answer_in, answer_to, situation_of, is_select}

-- what only SELECT asks, and what any command may be refused
abbrev pub is_selecting : Ask → Bool
is_selecting (Refused w) = true
is_selecting (Select a) = true
is_selecting _ = false

named-selects : (o : Option Application) → is_selecting (named o) ≡ true
named-selects None = refl
named-selects (Some a) = refl

select-asks : (m : Profile) (k : CardCommand) → is_select k ≡ true → is_selecting (ask m k) ≡ true
unfolding ask
select-asks m k h = rw h (go (is_at k 0x04 0x00))
  where
    go : (at : Bool) → is_selecting (if not at then Refused 0x6A86 else named (application_named k.body)) ≡ true
    go false = refl
    go true = named-selects (application_named k.body)

-- what asks something else is no SELECT
pub other-command : (m : Profile) (k : CardCommand) (a : Ask) → ask m k ≡ a → is_selecting a ≡ false → is_select k ≡ false
other-command m k a asks other = go (is_select k) refl
  where
    go : (b : Bool) → is_select k ≡ b → b ≡ false
    go true is = absurd (let e = select-asks m k is in let f = ap is_selecting asks in cc)
    go false is = refl

pub asked-answer : (B : Base) (H : Past) (c : ℕ) (k : CardCommand) (a : Ask) → ask (profile B) k ≡ a → is_selecting a ≡ false
    → answer B H c k ≡ answer_to (situation_of B H c) a
unfolding answer answer_in
asked-answer B H c k a asks other = rw (other-command (profile B) k a asks other, asks) refl

writer-other : (a : Ask) → is_writer a ≡ true → is_selecting a ≡ false
writer-other (Compare r p purpose) h = refl
writer-other (Put id v) h = refl
writer-other a h = absurd (cc)

-- a comparison or a put
pub writer-answer : (B : Base) (H : Past) (c : ℕ) (k : CardCommand) → is_writer (ask (profile B) k) ≡ true
    → answer B H c k ≡ answer_to (situation_of B H c) (ask (profile B) k)
writer-answer B H c k h = asked-answer B H c k (ask (profile B) k) refl (writer-other (ask (profile B) k) h)
