-- From what is asked to what a command asks.
use Rattle.std.proofs.Common.{◌≡◌, ◌∙◌, ℕ, Bool, true, false, List, Option, Some, None, IfSome, IsTrue, Result, Ok, Err, refl, ap, sym, subst}
use Rattle.std.specs.Prelude.{◌==◌, not, is_some, if◌then◌else◌}
use Rattle.power_loss.specs.Power.{RisesWithin}
use Rattle.piv_model.specs.declared.kinds.Interface.{Interface}
use Rattle.piv_model.specs.declared.kinds.Application.{Application}
use Rattle.piv_model.specs.declared.kinds.RefId.{RefId}
use Rattle.piv_model.specs.declared.kinds.RefId.TheVariants.{Pin, Puk, GlobalPin}
use Rattle.piv_model.specs.declared.kinds.Took.{Took}
use Rattle.piv_model.specs.Commands.{CardCommand}
use Rattle.piv_model.specs.Base.{Profile, profile_of}
use Rattle.piv_model.specs.ApplicationNames.{application_named}
use Rattle.piv_model.specs.Memory.{Memory, has}
use Rattle.piv_model.specs.Sound.{may_stand}
use Rattle.piv_model.specs.Stores.{StoreState}
use Rattle.piv_rules.specs.Asks.{Ask, named, Refused, Select, Get, Put, Logout, Query, Compare, Internal, AskChallenge, External, AskWitness, Mutual, ask, select_ask, is_at}
use Rattle.piv_rules.specs.Answers.{Reply, situation, answer_to, answer_in, select_reply}
use Rattle.piv_rules.specs.Channels.{Channel}
use Rattle.piv_rules.specs.Effects.{memory_after, took_by}
use Rattle.piv_rules.specs.Plans.{cost_of}
use Rattle.card_commands.specs.declared.executed.Broken.{Broken}
use Rattle.auth_protocol.specs.declared.form.AuthAsk.{AuthAsk}
use Rattle.auth_protocol.specs.declared.form.AuthAsk.TheVariants as auth
use Rattle.card_commands.specs.declared.executed.Executed.{Executed}
use Rattle.card_commands.specs.Asking.{IsKept, auth_of}
use Rattle.card_commands.specs.Executes.{Executes, IsReply, Replies, asked, replied}
use Rattle.card_commands.proofs.Carrying.{still}

-- a reference that the card has, where the store tells
has-kept : (g : Bool) (r : RefId) (m : Memory) → g ≡ is_some m.global → IsKept g r → IsTrue (has m r)
has-kept g Pin m e k = refl
has-kept g Puk m e k = refl
has-kept g GlobalPin m e k = sym e ∙ k

pub told-kept : (g : Bool) (r : RefId) (mem : Option Memory) → IfSome mem (λ m. g ≡ is_some m.global) → IsKept g r → IfSome mem (λ m. IsTrue (has m r))
told-kept g r None e k = tt
told-kept g r (Some m) e k = has-kept g r m e k

pub told-stands : (g : Bool) (id : ℕ) (v : List ℕ) (mem : Option Memory) → IfSome mem (λ m. g ≡ is_some m.global) → IsTrue (may_stand g id v)
    → IfSome mem (λ m. IsTrue (may_stand (is_some m.global) id v))
told-stands g id v None e k = tt
told-stands g id v (Some m) e k = subst (λ (b : Bool). IsTrue (may_stand b id v)) e k

pub ruleset kept = (told-kept, told-stands)

-- an ask that makes no write
abbrev pub IsQuiet : Ask → Type 0
IsQuiet (Put id v) = ⊥
IsQuiet (Compare r p purpose) = ⊥
IsQuiet _ = Unit {0}

quiet-cost : (put_cost : ℕ → ℕ) (a : Ask) (n : ℕ) → IsQuiet a → cost_of put_cost a n ≡ 0
quiet-cost put_cost (Refused w) n q = refl
quiet-cost put_cost (Select x) n q = refl
quiet-cost put_cost (Get id) n q = refl
quiet-cost put_cost (Logout r) n q = refl
quiet-cost put_cost (Query r) n q = refl
quiet-cost put_cost (Internal x) n q = refl
quiet-cost put_cost AskChallenge n q = refl
quiet-cost put_cost (External x) n q = refl
quiet-cost put_cost AskWitness n q = refl
quiet-cost put_cost (Mutual y x) n q = refl
quiet-cost put_cost (Put id v) n q = absurd q
quiet-cost put_cost (Compare r p purpose) n q = absurd q

quiet-memory : (a : Ask) (t : Took) (m : Memory) → IsQuiet a → memory_after a t m ≡ m
quiet-memory (Refused w) t m q = refl
quiet-memory (Select x) t m q = refl
quiet-memory (Get id) t m q = refl
quiet-memory (Logout r) t m q = refl
quiet-memory (Query r) t m q = refl
quiet-memory (Internal x) t m q = refl
quiet-memory AskChallenge t m q = refl
quiet-memory (External x) t m q = refl
quiet-memory AskWitness t m q = refl
quiet-memory (Mutual y x) t m q = refl
quiet-memory (Put id v) t m q = absurd q
quiet-memory (Compare r p purpose) t m q = absurd q

pub auth-quiet : (a : AuthAsk) → IsQuiet (auth_of a)
auth-quiet (auth.Internal x) = tt
auth-quiet auth.Challenge = tt
auth-quiet (auth.External x) = tt
auth-quiet auth.Witness = tt
auth-quiet (auth.Mutual w x) = tt

pub select-quiet : (k : CardCommand) → IsQuiet (select_ask k)
select-quiet k = go (not (is_at k 0x04 0x00)) (application_named k.body)
  where
    go : (a : Bool) (o : Option Application) → IsQuiet (if a then Refused 0x6A86 else named o)
    go true o = tt
    go false None = tt
    go false (Some x) = tt

-- a command that makes no write
pub quiet : (put_cost : ℕ → ℕ) (a : Ask) (says : Memory → Reply) (block : List ℕ) (done : Executed) (body : List ℕ) (x y : Channel) (s : StoreState)
    → RisesWithin s.power.span s.power.due → IsQuiet a
    → ((m : Memory) → s.mem ≡ Some m → IsReply a (says m) block done body x y)
    → Executes put_cost (λ m. a) says block (Ok done) body x y s s
quiet put_cost a says block done body x y s rises q replies =
    still put_cost a says block done body x y s rises (quiet-cost put_cost a done.sw q) (λ m. quiet-memory a (took_by done.sw) m q) replies

-- the same ask, over each memory that is told
pub transfer : (put_cost : ℕ → ℕ) (asks asked : Memory → Ask) (says said : Memory → Reply) (block : List ℕ) (result : Result Executed Broken) (body : List ℕ) (x y : Channel) (old new : StoreState)
    → ((m : Memory) → old.mem ≡ Some m → asks m ≡ asked m) → ((m : Memory) → old.mem ≡ Some m → says m ≡ said m)
    → Executes put_cost asks says block result body x y old new → Executes put_cost asked said block result body x y old new
transfer put_cost asks asked says said block (Ok done) body x y old new same says_same h = record {
  answered = λ m told. let a = same m told in let r = says_same m told in
      rw (← a, ← r) (h.answered m told);
  others = h.others;
  broken = tt;
  off = tt;
  rose = tt;
  due = λ m told. let a = same m told in let r = says_same m told in rw (← a, ← r) (h.due m told);
  span = h.span;
  told = h.told;
}
transfer put_cost asks asked says said block (Err b) body x y old new same says_same h = record {
  answered = tt;
  others = tt;
  broken = λ m told. let a = same m told in let r = says_same m told in rw (← a, ← r) (h.broken m told);
  off = h.off;
  rose = h.rose;
  due = λ m told. let a = same m told in let r = says_same m told in rw (← a, ← r) (h.due m told);
  span = h.span;
  told = h.told;
}

-- a SELECT
pub ask-select : (p : Profile) (m : Memory) (k : CardCommand) → k.ins ≡ 0xA4 → select_ask k ≡ asked m k
unfolding ask
ask-select p m k is = rw is refl

says-select : (m : Memory) (i : Interface) (block : List ℕ) (x : Channel) (k : CardCommand) → k.ins ≡ 0xA4
    → select_reply (situation m i block x) (asked m k) ≡ replied m i block x k
unfolding answer_in
says-select m i block x k is = rw is refl

pub selected : (put_cost : ℕ → ℕ) (k : CardCommand) (i : Interface) (block : List ℕ) (done : Executed) (body : List ℕ) (x y : Channel) (s : StoreState)
    → k.ins ≡ 0xA4 → RisesWithin s.power.span s.power.due
    → ((m : Memory) → IsReply (select_ask k) (select_reply (situation m i block x) (select_ask k)) block done body x y)
    → Executes put_cost (λ m. asked m k) (λ m. replied m i block x k) block (Ok done) body x y s s
selected put_cost k i block done body x y s is rises replies =
    let asks = λ (m : Memory) (told : s.mem ≡ Some m). ask-select (profile_of m) m k is in
    transfer put_cost (λ m. select_ask k) (λ m. asked m k) (λ m. select_reply (situation m i block x) (select_ask k)) (λ m. replied m i block x k) block (Ok done) body x y s s
    asks (λ m told. ap (select_reply (situation m i block x)) (asks m told) ∙ says-select m i block x k is)
    (quiet put_cost (select_ask k) (λ m. select_reply (situation m i block x) (select_ask k)) block done body x y s rises (select-quiet k) (λ m told. replies m))

-- any other command
says-other : (m : Memory) (i : Interface) (block : List ℕ) (x : Channel) (k : CardCommand) → (k.ins == 0xA4) ≡ false
    → answer_to (situation m i block x) (asked m k) ≡ replied m i block x k
unfolding answer_in
says-other m i block x k other = rw other refl

pub other : (put_cost : ℕ → ℕ) (a : Ask) (k : CardCommand) (i : Interface) (block : List ℕ) (result : Result Executed Broken) (body : List ℕ) (x y : Channel) (old new : StoreState)
    → (k.ins == 0xA4) ≡ false → ((m : Memory) → old.mem ≡ Some m → a ≡ asked m k)
    → Executes put_cost (λ m. a) (λ m. answer_to (situation m i block x) a) block result body x y old new
    → Executes put_cost (λ m. asked m k) (λ m. replied m i block x k) block result body x y old new
other put_cost a k i block result body x y old new apart asks h =
    transfer put_cost (λ m. a) (λ m. asked m k) (λ m. answer_to (situation m i block x) a) (λ m. replied m i block x k) block result body x y old new
    asks (λ m told. ap (answer_to (situation m i block x)) (asks m told) ∙ says-other m i block x k apart) h

-- what is asked, as the code carries it
pub carried-asked : (put_cost : ℕ → ℕ) (a b : Ask) (i : Interface) (block : List ℕ) (result : Result Executed Broken) (body given : List ℕ) (x y : Channel) (old new : StoreState)
    → a ≡ b → body ≡ given
    → Executes put_cost (λ m. b) (λ m. answer_to (situation m i block x) b) block result given x y old new
    → Executes put_cost (λ m. a) (λ m. answer_to (situation m i block x) a) block result body x y old new
carried-asked put_cost a b i block result body given x y old new e none h =
    subst (λ (z : Ask). Executes put_cost (λ m. z) (λ m. answer_to (situation m i block x) z) block result body x y old new) (sym e)
    (subst (λ (z : List ℕ). Executes put_cost (λ m. b) (λ m. answer_to (situation m i block x) b) block result z x y old new) (sym none) h)

pub quiet-asked : (put_cost : ℕ → ℕ) (a b : Ask) (i : Interface) (block : List ℕ) (done : Executed) (body given : List ℕ) (x y : Channel) (s : StoreState)
    → RisesWithin s.power.span s.power.due → a ≡ b → body ≡ given → IsQuiet b → Replies b i block done given x y s.mem
    → Executes put_cost (λ m. a) (λ m. answer_to (situation m i block x) a) block (Ok done) body x y s s
quiet-asked put_cost a b i block done body given x y s rises e none q replies =
    carried-asked put_cost a b i block (Ok done) body given x y s s e none
    (quiet put_cost b (λ m. answer_to (situation m i block x) b) block done given x y s rises q replies)
