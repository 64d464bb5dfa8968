-- What is said of a command that lost power.
use Rattle.std.proofs.Common.{◌≡◌, ◌∙◌, Option, Some, None, IfSome, refl, ap, sym}
use Rattle.piv_model.specs.declared.kinds.Took.{Took}
use Rattle.piv_model.specs.declared.kinds.Took.TheVariants.{Nothing}
use Rattle.piv_model.specs.Commands.{CardCommand}
use Rattle.piv_model.specs.Base.{Profile, profile_of}
use Rattle.piv_model.specs.Memory.{Memory}
use Rattle.piv_rules.specs.Asks.{Ask, Refused, Select, Get, Put, Logout, Query, Compare, Internal, AskChallenge, External, AskWitness, Mutual, ask, select_ask}
use Rattle.card_commands.specs.declared.executed.Broken.{Broken}
use Rattle.card_commands.specs.Tells.{tells}
use Rattle.card_commands.specs.declared.traits.Traits.{Traits}
use Rattle.card_commands.specs.Asking.{profile_by}
use Rattle.card_commands.specs.Executes.{asked}
use Rattle.card_commands.proofs.Dispatching.{IsQuiet, ask-select, select-quiet}

quiet-tells : (a : Ask) → IsQuiet a → (b : Broken) (m : Memory) → Nothing ≡ tells a b m
quiet-tells (Refused w) q b m = refl
quiet-tells (Select x) q b m = refl
quiet-tells (Get id) q b m = refl
quiet-tells (Put id v) q b m = absurd q
quiet-tells (Logout r) q b m = refl
quiet-tells (Query r) q b m = refl
quiet-tells (Compare r p purpose) q b m = absurd q
quiet-tells (Internal x) q b m = refl
quiet-tells AskChallenge q b m = refl
quiet-tells (External x) q b m = refl
quiet-tells AskWitness q b m = refl
quiet-tells (Mutual w x) q b m = refl

pub nothing-told : (mem : Option Memory) (a b : Ask) (broken : Broken) → a ≡ b → IsQuiet b → IfSome mem (λ m. Nothing ≡ tells a broken m)
nothing-told None a b broken e q = tt
nothing-told (Some m) a b broken e q = quiet-tells b q broken m ∙ sym (ap (λ (z : Ask). tells z broken m) e)

pub as-told : (mem : Option Memory) (a b : Ask) (broken : Broken) (result : Took) → a ≡ b → IfSome mem (λ m. result ≡ tells b broken m) → IfSome mem (λ m. result ≡ tells a broken m)
as-told None a b broken result e h = tt
as-told (Some m) a b broken result e h = h ∙ sym (ap (λ (z : Ask). tells z broken m) e)

pub command-told : (mem : Option Memory) (a : Ask) (k : CardCommand) (t : Traits) (broken : Broken) (result : Took)
    → IfSome mem (λ m. profile_by t ≡ profile_of m) → a ≡ ask (profile_by t) k
    → IfSome mem (λ m. result ≡ tells a broken m) → IfSome mem (λ m. result ≡ tells (asked m k) broken m)
command-told None a k t broken result traits is h = tt
command-told (Some m) a k t broken result traits is h = h ∙ ap (λ (z : Ask). tells z broken m) (is ∙ ap (λ (p : Profile). ask p k) traits)

pub select-told : (mem : Option Memory) (k : CardCommand) (broken : Broken) → k.ins ≡ 0xA4 → IfSome mem (λ m. Nothing ≡ tells (asked m k) broken m)
select-told None k broken is = tt
select-told (Some m) k broken is = quiet-tells (select_ask k) (select-quiet k) broken m ∙ ap (λ (z : Ask). tells z broken m) (ask-select (profile_of m) m k is)
