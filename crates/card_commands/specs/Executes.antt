-- What executing a command answers and leaves, by the table of answers and the memory that the store tells (SP 800-73-4
-- part 2; what a loss of power leaves is this project's own).
use Rattle.std.specs.Prelude.{◌≡◌, ℕ, false, ◌&&◌, List, Option, Some, None, is_some, Result, IfOk, IfErr, OnOk, OnErr, if◌then◌else◌}
use Rattle.power_loss.specs.Power.{Power}
use Rattle.power_loss.specs.Told.{Rose, LostWhereDue}
use Rattle.piv_model.specs.declared.kinds.Interface.{Interface}
use Rattle.piv_model.specs.Commands.{CardCommand}
use Rattle.piv_model.specs.Memory.{Memory}
use Rattle.piv_model.specs.Stores.{StoreState, changed}
use Rattle.piv_model.specs.Base.{profile_of}
use Rattle.piv_rules.specs.Asks.{Ask, ask}
use Rattle.piv_rules.specs.Answers.{Reply, situation, answer_in, answer_to}
use Rattle.piv_rules.specs.Channels.{Channel, after_call}
use Rattle.piv_rules.specs.Effects.{memory_after, took_by}
use Rattle.piv_rules.specs.Legal.{asks_block}
use Rattle.piv_rules.specs.Plans.{cost_of}
use Rattle.piv_rules.specs.StatusWords.{is_granted}
use Rattle.card_commands.specs.declared.executed.Broken.{Broken}
use Rattle.card_commands.specs.declared.executed.Executed.{Executed}
use Rattle.card_commands.specs.Carried.{Breaks, last_lines_word}
use Rattle.card_commands.specs.Tells.{IsApt}

-- what a command asks, and its answer, over a memory and on a connection
abbrev pub asked : Memory → CardCommand → Ask
asked m k = ask (profile_of m) k

abbrev pub replied : Memory → Interface → List ℕ → Channel → CardCommand → Reply
replied m i block x k = answer_in (profile_of m) (situation m i block x) k

-- the block that it bears
abbrev pub borne : Ask → ℕ → List ℕ → Option (List ℕ)
borne a word block = if asks_block a && is_granted word then Some block else None

-- It was answered: the word and the data, whether the block was drawn, what the connection keeps, and the memory after
-- so many writes.
pub record IsAnswered (put_cost : ℕ → ℕ) (a : Ask) (reply : Reply) (block : List ℕ) (done : Executed) (body : List ℕ) (before after : Channel) (old new : StoreState) : Type 0 where
  pub says : reply ≡ record { word = done.sw; body = body }
  pub draws : done.drew ≡ (asks_block a && is_granted done.sw)
  pub channel : after ≡ after_call a done.sw (borne a done.sw block) before
  pub memory : new ≡ changed (cost_of put_cost a done.sw) (memory_after a (took_by done.sw)) old

-- It lost power: what the call that lost it leaves and tells, and no earlier line of the table would have refused it.
pub record IsBroken (put_cost : ℕ → ℕ) (a : Ask) (reply : Reply) (m : Memory) (broken : Broken) (old new : StoreState) : Type 0 where
  pub breaks : Breaks put_cost a broken old new
  pub word : reply.word ≡ last_lines_word m a
  pub apt : IsApt m a

-- the power is as before, but for the losses that are due
abbrev pub KeepsPower : Power → Power → Type 0
KeepsPower old new = new ≡ record old { due = new.due }

-- the memory, and when losses are due, are told where they were
abbrev pub TellsAlike : StoreState → StoreState → Type 0
TellsAlike old new = (is_some new.mem ≡ is_some old.mem) × (is_some new.power.due ≡ is_some old.power.due)

-- what executing comes to, where a command asks this of each memory, and each memory answers it so
pub record Executes (put_cost : ℕ → ℕ) (asks : Memory → Ask) (says : Memory → Reply) (block : List ℕ) (result : Result Executed Broken) (body : List ℕ) (before after : Channel) (old new : StoreState) : Type 0 where
  pub answered : IfOk result (λ done. (m : Memory) → old.mem ≡ Some m
      → IsAnswered put_cost (asks m) (says m) block done body before after old new)
  pub others : OnOk result (KeepsPower old.power new.power)
  pub broken : IfErr result (λ b. (m : Memory) → old.mem ≡ Some m → IsBroken put_cost (asks m) (says m) m b old new)
  pub off : OnErr result (new.power.on ≡ false)
  pub rose : OnErr result (Rose old.power.losses new.power.losses)
  pub due : (m : Memory) → old.mem ≡ Some m
      → LostWhereDue (cost_of put_cost (asks m) (says m).word) old.power.due result
  pub span : new.power.span ≡ old.power.span
  pub told : TellsAlike old new

-- a command that makes no write was answered
pub record IsReply (a : Ask) (reply : Reply) (block : List ℕ) (done : Executed) (body : List ℕ) (before after : Channel) : Type 0 where
  pub says : reply ≡ record { word = done.sw; body = body }
  pub draws : done.drew ≡ (asks_block a && is_granted done.sw)
  pub channel : after ≡ after_call a done.sw (borne a done.sw block) before

abbrev pub Replies : Ask → Interface → List ℕ → Executed → List ℕ → Channel → Channel → Option Memory → Type 0
Replies a i block done body before after mem =
    (m : Memory) → mem ≡ Some m → IsReply a (answer_to (situation m i block before) a) block done body before after
