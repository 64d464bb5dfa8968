-- What VERIFY, CHANGE REFERENCE DATA and RESET RETRY COUNTER, each a comparison, and PUT DATA answer and leave, once their
-- form and access rule are tested (SP 800-73-4 part 2; what a loss of power leaves is this project's own).
use Rattle.std.specs.Prelude.{◌≡◌, ◌⊎◌, ℕ, ◌≤◌, Bool, true, false, List, length, Result, IsTrue, IfSome, IfOk, IfErr}
use Rattle.std.specs.declared.option.Option.{Option}
use Rattle.std.specs.Option.{option_map}
use Rattle.std.specs.Str.{bytes_eq}
use Rattle.power_loss.specs.Due.{is_due, after_loss}
use Rattle.power_loss.specs.Told.{LostWhereDue}
use Rattle.power_loss.specs.Power.{PowerLost}
use Rattle.piv_model.specs.declared.kinds.Took.{Took}
use Rattle.piv_model.specs.declared.kinds.Took.TheVariants.{Nothing, Spent, Done}
use Rattle.piv_model.specs.Memory.{Memory, stored}
use Rattle.piv_model.specs.Stores.{StoreState, changed}
use Rattle.piv_rules.specs.Asks.{Ask, Put, Compare}
use Rattle.piv_rules.specs.Answers.{is_blocked, tries_left, memory_conditions, word_by}
use Rattle.piv_rules.specs.Effects.{memory_after, took_by}
use Rattle.piv_rules.specs.Plans.{cost_of}
use Rattle.card_commands.specs.Words.{is_word_for}
use Rattle.card_commands.specs.declared.executed.Broken.{Broken}
use Rattle.card_commands.specs.declared.executed.Broken.TheVariants.{Spending, Filling, Putting}

-- the word, by the lines of the table of answers that the memory decides
abbrev pub last_lines_word : Memory → Ask → ℕ
last_lines_word m a = word_by (memory_conditions m a)

-- so many tries there were, at least the one that was spent
abbrev pub AreTries : ℕ → Type 0
AreTries n = (1 ≤ n) × (n ≤ 15)

-- the memory after the command came so far, or further
abbrev pub IsBetween : Took → Took → Ask → Option Memory → Option Memory → Type 0
IsBetween first second a old new =
    (new ≡ option_map (memory_after a first) old) ⊎ (new ≡ option_map (memory_after a second) old)

-- a command that lost power there: the first loss that was due has come
abbrev pub LostBetween : Took → Took → Ask → StoreState → StoreState → Type 0
LostBetween first second a old new =
    PowerLost (option_map after_loss old.power.due) (IsBetween first second a old.mem new.mem) old.power new.power

-- power was lost in the two writes that spend a try of a reference that isn't blocked
pub record LostSpending (a : Ask) (told : ℕ) (old new : StoreState) : Type 0 where
  pub leaves : LostBetween Nothing Spent a old new
  pub moment : IfSome old.power.due (λ due. is_due 2 due ≡ true)
  pub cause : IfSome old.mem (λ m. is_blocked m a ≡ false)
  pub few : AreTries told
  pub tries : IfSome old.mem (λ m. told ≡ tries_left m a)

-- power was lost in the two later writes of a comparison that matched
pub record LostFilling (a : Ask) (told : ℕ) (old new : StoreState) : Type 0 where
  pub leaves : LostBetween Spent Done a old new
  pub spent : IfSome old.power.due (λ due. is_due 2 due ≡ false)
  pub moment : IfSome old.power.due (λ due. is_due 4 due ≡ true)
  pub cause : IfSome old.mem (λ m. last_lines_word m a ≡ 0x9000)
  pub few : AreTries told
  pub tries : IfSome old.mem (λ m. told ≡ tries_left m a)

-- power was lost in the writes that put a value in place, which has room
pub record LostPutting (writes place : ℕ) (v : List ℕ) (told : Bool) (old new : StoreState) : Type 0 where
  pub leaves : LostBetween Nothing Done (Put place v) old new
  pub moment : IfSome old.power.due (λ due. is_due writes due ≡ true)
  pub cause : IfSome old.mem (λ m. last_lines_word m (Put place v) ≡ 0x9000)
  pub same : IfSome old.mem (λ m. told ≡ bytes_eq (stored m place) v)

-- by the call that lost power
abbrev pub Breaks : (ℕ → ℕ) → Ask → Broken → StoreState → StoreState → Type 0
Breaks put_cost (Compare r p purpose) (Spending tries) old new = LostSpending (Compare r p purpose) tries old new
Breaks put_cost (Compare r p purpose) (Filling tries) old new = LostFilling (Compare r p purpose) tries old new
Breaks put_cost (Put place v) (Putting same) old new = LostPutting (put_cost (length v)) place v same old new
Breaks put_cost _ _ old new = ⊥

-- what a command that asks this answers and leaves
pub record Carries (put_cost : ℕ → ℕ) (a : Ask) (result : Result ℕ Broken) (old new : StoreState) : Type 0 where
  -- the word is that of the table of answers
  pub word : IfOk result (λ sw. IfSome old.mem (λ m. sw ≡ last_lines_word m a))
  -- whatever the memory holds it is one of theirs
  pub kind : IfOk result (λ sw. IsTrue (is_word_for a sw))
  -- the memory is as far as the word tells, after so many writes
  pub carried : IfOk result (λ sw. new ≡ changed (cost_of put_cost a sw) (memory_after a (took_by sw)) old)
  -- where power was lost, the answer is the call that lost it
  pub broken : IfErr result (λ broken. Breaks put_cost a broken old new)
  -- none of the writes that were made was due
  pub none_due : IfOk result (λ sw. IfSome old.power.due (λ due. is_due (cost_of put_cost a sw) due ≡ false))
  -- power is lost exactly where a loss is due within the command's writes
  pub due : IfSome old.mem (λ m. LostWhereDue (cost_of put_cost a (last_lines_word m a)) old.power.due result)
