-- What executing comes to, where it makes no write, and where the store carries it.
use Rattle.std.proofs.Common.{◌≡◌, ◌∙◌, inl, inr, ◌∷◌, ℕ, true, false, List, [], Option, Some, None, IfSome, Result, Ok, Err, refl, ap, sym, subst, arith}
use Rattle.std.specs.Prelude.{◌&&◌, nat_le, is_some, option_map}
use Rattle.std.proofs.lemmas.Bool.Decides.{nat_tests}
use Rattle.power_loss.specs.Due.{due_after, after_loss}
use Rattle.power_loss.specs.Power.{Power, RisesWithin}
use Rattle.power_loss.specs.Told.{LostWhereDue}
use Rattle.piv_model.specs.declared.kinds.Interface.{Interface}
use Rattle.piv_model.specs.declared.kinds.Application.TheVariants.{Piv, Idle}
use Rattle.piv_model.specs.declared.kinds.RefId.{RefId}
use Rattle.piv_model.specs.declared.kinds.RefId.TheVariants.{Pin, Puk, GlobalPin}
use Rattle.piv_model.specs.declared.kinds.Took.{Took}
use Rattle.piv_model.specs.declared.kinds.Took.TheVariants.{Nothing, Spent, Done}
use Rattle.piv_model.specs.Memory.{Memory}
use Rattle.piv_model.specs.Stores.{StoreState, changed}
use Rattle.piv_rules.specs.Asks.{Ask, Purpose, Verify, Change, Unblock, Refused, Select, Get, Put, Logout, Query, Compare, Internal, AskChallenge, External, AskWitness, Mutual}
use Rattle.piv_rules.specs.declared.table.Conditions.{Conditions}
use Rattle.piv_rules.specs.Answers.{Situation, situation, Reply, only, holds, rule_of, refusal, conditions, by_table, word_by, answer_to}
use Rattle.piv_rules.proofs.TableLaws.{by_table-map}
use Rattle.piv_rules.specs.Channels.{Channel, after_call}
use Rattle.piv_rules.specs.Effects.{memory_after, took_by}
use Rattle.piv_rules.specs.Legal.{asks_block}
use Rattle.piv_rules.specs.Logins.{NonePending}
use Rattle.piv_rules.specs.StatusWords.{is_granted}
use Rattle.piv_rules.specs.Plans.{cost_of}
use Rattle.card_commands.specs.declared.executed.Broken.{Broken}
use Rattle.card_commands.specs.declared.executed.Broken.TheVariants.{Spending, Filling, Putting}
use Rattle.card_commands.specs.Carried.{Carries, Breaks, LostBetween, IsBetween, last_lines_word}
use Rattle.card_commands.specs.Tells.{IsApt}
use Rattle.card_commands.proofs.Calls.{unchanged}
use Rattle.card_commands.specs.declared.executed.Executed.{Executed}
use Rattle.card_commands.specs.Executes.{Executes, IsReply, KeepsPower, TellsAlike}

-- PIV is selected, and the access rule holds
abbrev pub IsByTable : Ask → Type 0
IsByTable a = (s : Situation) → s.channel.piv ≡ true → holds s (rule_of s.interface a) ≡ true
    → answer_to s a ≡ only (last_lines_word s.memory a)

-- an ask whose granted reply has no data
only-word : (t : Conditions) → by_table only (only 0x9000) t ≡ only (word_by t)
only-word t = sym (by_table-map only (λ w. w) 0x9000 t)

pub compare-table : (r : RefId) (p : List ℕ) (purpose : Purpose) → IsByTable (Compare r p purpose)
unfolding answer_to
compare-table r p purpose s piv rule = only-word (conditions s (Compare r p purpose)) ∙ rw (piv, rule) refl

pub put-table : (id : ℕ) (v : List ℕ) → IsByTable (Put id v)
unfolding answer_to
put-table id v s piv rule = only-word (conditions s (Put id v)) ∙ rw (piv, rule) refl

-- no write is due among none
none-due : (told : Option (List ℕ)) (span : ℕ) → RisesWithin span told → (done : Executed)
    → LostWhereDue {E = Broken} 0 told (Ok done)
none-due None span rises done = tt
none-due (Some []) span rises done = ((λ x. x), (λ x. x))
none-due (Some (d ∷ due)) span rises done =
    let more = rises.0.0 in
    let no : nat_le d 0 ≡ false = grind (arith, nat_tests) in
    rw no ((λ x. x), (λ x. x))

-- it makes no write
pub still : (put_cost : ℕ → ℕ) (a : Ask) (says : Memory → Reply) (block : List ℕ) (done : Executed) (body : List ℕ) (x y : Channel) (s : StoreState)
    → RisesWithin s.power.span s.power.due
    → cost_of put_cost a done.sw ≡ 0 → ((m : Memory) → memory_after a (took_by done.sw) m ≡ m)
    → ((m : Memory) → s.mem ≡ Some m → IsReply a (says m) block done body x y)
    → Executes put_cost (λ m. a) says block (Ok done) body x y s s
still put_cost a says block done body x y s rises none same replies = record {
  answered = λ m told. record {
    says = (replies m told).says;
    draws = (replies m told).draws;
    channel = (replies m told).channel;
    memory = rw none (unchanged s (memory_after a (took_by done.sw)) same rises);
  };
  others = refl;
  broken = tt;
  off = tt;
  rose = tt;
  due = λ m told.
      let word = ap (λ (r : Reply). r.word) ((replies m told).says) in
      rw word (rw none (none-due s.power.due s.power.span rises done));
  span = refl;
  told = (refl, refl);
}

-- what was told is told afterwards
map-told : {A C : Type 0} (f : A → C) (o : Option A) → is_some (option_map f o) ≡ is_some o
map-told f None = refl
map-told f (Some x) = refl

pub changed-told : (n : ℕ) (f : Memory → Memory) (old new : StoreState) → new ≡ changed n f old → TellsAlike old new
changed-told n f old new is = (
  ap (λ (s : StoreState). is_some s.mem) is ∙ map-told f old.mem,
  ap (λ (s : StoreState). is_some s.power.due) is ∙ map-told (due_after n) old.power.due,
)

-- what a loss leaves
pub record IsLost (a : Ask) (old new : StoreState) : Type 0 where
  pub first : Took
  pub second : Took
  pub leaves : LostBetween first second a old new

pub broken-lost : (put_cost : ℕ → ℕ) (a : Ask) (b : Broken) (old new : StoreState) → Breaks put_cost a b old new → IsLost a old new
broken-lost put_cost (Compare r p purpose) (Spending tries) old new c = record { first = Nothing; second = Spent; leaves = c.leaves }
broken-lost put_cost (Compare r p purpose) (Filling tries) old new c = record { first = Spent; second = Done; leaves = c.leaves }
broken-lost put_cost (Put id v) (Putting same) old new c = record { first = Nothing; second = Done; leaves = c.leaves }
broken-lost put_cost (Compare r p purpose) (Putting same) old new c = elim c [ ]
broken-lost put_cost (Put id v) (Spending tries) old new c = elim c [ ]
broken-lost put_cost (Put id v) (Filling tries) old new c = elim c [ ]
broken-lost put_cost (Refused w) b old new c = elim c [ ]
broken-lost put_cost (Select x) b old new c = elim c [ ]
broken-lost put_cost (Get id) b old new c = elim c [ ]
broken-lost put_cost (Logout r) b old new c = elim c [ ]
broken-lost put_cost (Query r) b old new c = elim c [ ]
broken-lost put_cost (Internal x) b old new c = elim c [ ]
broken-lost put_cost AskChallenge b old new c = elim c [ ]
broken-lost put_cost (External x) b old new c = elim c [ ]
broken-lost put_cost AskWitness b old new c = elim c [ ]
broken-lost put_cost (Mutual w x) b old new c = elim c [ ]

lost-tells : (a : Ask) (old new : StoreState) → IsLost a old new → TellsAlike old new
lost-tells a old new l =
    (go l.leaves.left, ap (λ (p : Power). is_some p.due) l.leaves.power ∙ map-told after_loss old.power.due)
  where
    go : IsBetween l.first l.second a old.mem new.mem → is_some new.mem ≡ is_some old.mem
    go (inl h) = ap (λ (o : Option Memory). is_some o) h ∙ map-told (memory_after a l.first) old.mem
    go (inr h) = ap (λ (o : Option Memory). is_some o) h ∙ map-told (memory_after a l.second) old.mem

-- the store carries it
pub carried : (put_cost : ℕ → ℕ) (a : Ask) (i : Interface) (block : List ℕ) (done : Executed) (result : Result ℕ Broken) (sw : ℕ) (x y : Channel) (old new : StoreState)
    → IsByTable a → asks_block a ≡ false → x.piv ≡ true → ((m : Memory) → old.mem ≡ Some m → holds (situation m i block x) (rule_of i a) ≡ true)
    → Carries put_cost a result old new → result ≡ Ok sw → done ≡ record { sw = sw; drew = false } → y ≡ after_call a sw None x
    → Executes put_cost (λ m. a) (λ m. answer_to (situation m i block x) a) block (Ok done) [] x y old new
carried put_cost a i block done result sw x y old new table none piv rule carries is done_is after =
    let c : Carries put_cost a (Ok sw) old new = subst (λ (r : Result ℕ Broken). Carries put_cost a r old new) is carries in
    subst (λ (d : Executed). Executes put_cost (λ m. a) (λ m. answer_to (situation m i block x) a) block (Ok d) [] x y old new) (sym done_is) (record {
      answered = λ m told.
          let says : answer_to (situation m i block x) a ≡ only (last_lines_word m a) = table (situation m i block x) piv (rule m told) in
          let word : sw ≡ last_lines_word m a = rw told at c.word in
          record {
            says = says ∙ ap only (sym word);
            draws = rw none refl;
            channel = rw none after;
            memory = c.carried;
          };
      others = subst (λ (s : StoreState). KeepsPower old.power s.power) (sym c.carried) refl;
      broken = tt;
      off = tt;
      rose = tt;
      due = λ m told.
          let says = ap (λ (r : Reply). r.word) (table (situation m i block x) piv (rule m told)) in
          rw says (due-some a sw old m told c.due);
      span = ap (λ (s : StoreState). s.power.span) c.carried;
      told = changed-told (cost_of put_cost a sw) (memory_after a (took_by sw)) old new c.carried;
    })
  where
    due-some : (a : Ask) (sw : ℕ) (old : StoreState) (m : Memory) → old.mem ≡ Some m
        → IfSome old.mem (λ m. LostWhereDue {E = Broken} (cost_of put_cost a (last_lines_word m a)) old.power.due (Ok sw))
        → LostWhereDue {E = Broken} (cost_of put_cost a (last_lines_word m a)) old.power.due (Ok done)
    due-some a sw old m told due = rw told at due

-- the store lost power
pub lost : (put_cost : ℕ → ℕ) (a : Ask) (i : Interface) (block : List ℕ) (result : Result ℕ Broken) (b : Broken) (x y : Channel) (old new : StoreState)
    → IsByTable a → x.piv ≡ true → ((m : Memory) → old.mem ≡ Some m → holds (situation m i block x) (rule_of i a) ≡ true)
    → Carries put_cost a result old new → result ≡ Err b → ((m : Memory) → old.mem ≡ Some m → IsApt m a)
    → Executes put_cost (λ m. a) (λ m. answer_to (situation m i block x) a) block (Err b) [] x y old new
lost put_cost a i block result b x y old new table piv rule carries is apt =
    let c : Carries put_cost a (Err b) old new = subst (λ (r : Result ℕ Broken). Carries put_cost a r old new) is carries in
    let loss = broken-lost put_cost a b old new c.broken in
    record {
      answered = tt;
      others = tt;
      broken = λ m told. record {
        breaks = c.broken;
        word = ap (λ (r : Reply). r.word) (table (situation m i block x) piv (rule m told));
        apt = apt m told;
      };
      off = ap (λ (p : Power). p.on) loss.leaves.power;
      rose = loss.leaves.rose;
      due = λ m told.
          let says = ap (λ (r : Reply). r.word) (table (situation m i block x) piv (rule m told)) in
          rw says (rw told at c.due);
      span = ap (λ (p : Power). p.span) loss.leaves.power;
      told = lost-tells a old new loss;
    }

-- an access rule fails
denied : (a : Ask) (i : Interface) (block : List ℕ) (x y : Channel) (m : Memory)
    → refusal a ≡ None → asks_block a ≡ false → x.piv ≡ true
    → holds (situation m i block x) (rule_of i a) ≡ false
    → y ≡ after_call a 0x6982 None x
    → IsReply a (answer_to (situation m i block x) a) block (record { sw = 0x6982; drew = false }) [] x y
unfolding answer_to
denied a i block x y m served none piv rule after = record {
  says = rw (piv, served, rule) refl;
  draws = rw none refl;
  channel = rw none after;
}

pub forbidden : (put_cost : ℕ → ℕ) (a : Ask) (i : Interface) (block : List ℕ) (done : Executed) (x y : Channel) (s : StoreState)
    → RisesWithin s.power.span s.power.due
    → cost_of put_cost a 0x6982 ≡ 0 → ((m : Memory) → memory_after a Nothing m ≡ m)
    → refusal a ≡ None → asks_block a ≡ false → x.piv ≡ true
    → ((m : Memory) → s.mem ≡ Some m → holds (situation m i block x) (rule_of i a) ≡ false)
    → done ≡ record { sw = 0x6982; drew = false } → y ≡ after_call a 0x6982 None x
    → Executes put_cost (λ m. a) (λ m. answer_to (situation m i block x) a) block (Ok done) [] x y s s
forbidden put_cost a i block done x y s rises none same served draws piv rule is after =
    subst (λ (d : Executed). Executes put_cost (λ m. a) (λ m. answer_to (situation m i block x) a) block (Ok d) [] x y s s) (sym is)
    (still put_cost a (λ m. answer_to (situation m i block x) a) block (record { sw = 0x6982; drew = false }) [] x y s rises none same
    (λ m told. denied a i block x y m served draws piv (rule m told) after))

-- a refused comparison leaves each login
pub compare-still : (r : RefId) (p : List ℕ) (purpose : Purpose) (x : Channel) → record x { pending = NonePending } ≡ after_call (Compare r p purpose) 0x6982 None x
compare-still Pin p Verify x = refl
compare-still Pin p (Change n) x = refl
compare-still Pin p (Unblock n) x = refl
compare-still Puk p Verify x = refl
compare-still Puk p (Change n) x = refl
compare-still Puk p (Unblock n) x = refl
compare-still GlobalPin p Verify x = refl
compare-still GlobalPin p (Change n) x = refl
compare-still GlobalPin p (Unblock n) x = refl

-- a word that is neither 90 00 nor 63 CX moves nothing; each ask alone
pub record IsUnmoved (put_cost : ℕ → ℕ) (a : Ask) (sw : ℕ) : Type 0 where
  pub cost : cost_of put_cost a sw ≡ 0
  pub memory : (m : Memory) → memory_after a (took_by sw) m ≡ m
  pub draws : (asks_block a && is_granted sw) ≡ false
  pub channel : (x : Channel) → after_call a sw None x ≡ record x { pending = NonePending }

pub unmoved-6D00 : (put_cost : ℕ → ℕ) (a : Ask) → IsUnmoved put_cost a 0x6D00
unmoved-6D00 put_cost (Refused w) = record { cost = refl; memory = λ m. refl; draws = refl; channel = λ x. refl }
unmoved-6D00 put_cost (Select Piv) = record { cost = refl; memory = λ m. refl; draws = refl; channel = λ x. refl }
unmoved-6D00 put_cost (Select Idle) = record { cost = refl; memory = λ m. refl; draws = refl; channel = λ x. refl }
unmoved-6D00 put_cost (Get id) = record { cost = refl; memory = λ m. refl; draws = refl; channel = λ x. refl }
unmoved-6D00 put_cost (Put id v) = record { cost = refl; memory = λ m. refl; draws = refl; channel = λ x. refl }
unmoved-6D00 put_cost (Logout Pin) = record { cost = refl; memory = λ m. refl; draws = refl; channel = λ x. refl }
unmoved-6D00 put_cost (Logout Puk) = record { cost = refl; memory = λ m. refl; draws = refl; channel = λ x. refl }
unmoved-6D00 put_cost (Logout GlobalPin) = record { cost = refl; memory = λ m. refl; draws = refl; channel = λ x. refl }
unmoved-6D00 put_cost (Query r) = record { cost = refl; memory = λ m. refl; draws = refl; channel = λ x. refl }
unmoved-6D00 put_cost (Compare Pin p Verify) = record { cost = refl; memory = λ m. refl; draws = refl; channel = λ x. refl }
unmoved-6D00 put_cost (Compare Pin p (Change n)) = record { cost = refl; memory = λ m. refl; draws = refl; channel = λ x. refl }
unmoved-6D00 put_cost (Compare Pin p (Unblock n)) = record { cost = refl; memory = λ m. refl; draws = refl; channel = λ x. refl }
unmoved-6D00 put_cost (Compare Puk p Verify) = record { cost = refl; memory = λ m. refl; draws = refl; channel = λ x. refl }
unmoved-6D00 put_cost (Compare Puk p (Change n)) = record { cost = refl; memory = λ m. refl; draws = refl; channel = λ x. refl }
unmoved-6D00 put_cost (Compare Puk p (Unblock n)) = record { cost = refl; memory = λ m. refl; draws = refl; channel = λ x. refl }
unmoved-6D00 put_cost (Compare GlobalPin p Verify) = record { cost = refl; memory = λ m. refl; draws = refl; channel = λ x. refl }
unmoved-6D00 put_cost (Compare GlobalPin p (Change n)) = record { cost = refl; memory = λ m. refl; draws = refl; channel = λ x. refl }
unmoved-6D00 put_cost (Compare GlobalPin p (Unblock n)) = record { cost = refl; memory = λ m. refl; draws = refl; channel = λ x. refl }
unmoved-6D00 put_cost (Internal x) = record { cost = refl; memory = λ m. refl; draws = refl; channel = λ x. refl }
unmoved-6D00 put_cost AskChallenge = record { cost = refl; memory = λ m. refl; draws = refl; channel = λ x. refl }
unmoved-6D00 put_cost (External x) = record { cost = refl; memory = λ m. refl; draws = refl; channel = λ x. refl }
unmoved-6D00 put_cost AskWitness = record { cost = refl; memory = λ m. refl; draws = refl; channel = λ x. refl }
unmoved-6D00 put_cost (Mutual w x) = record { cost = refl; memory = λ m. refl; draws = refl; channel = λ x. refl }

-- another application is selected
not-piv : (a : Ask) (i : Interface) (block : List ℕ) (x : Channel) (m : Memory) → x.piv ≡ false → answer_to (situation m i block x) a ≡ only 0x6D00
unfolding answer_to
not-piv a i block x m piv = rw piv refl

pub unserved : (put_cost : ℕ → ℕ) (a : Ask) (i : Interface) (block : List ℕ) (done : Executed) (x y : Channel) (s : StoreState)
    → RisesWithin s.power.span s.power.due
    → x.piv ≡ false → done ≡ record { sw = 0x6D00; drew = false } → y ≡ record x { pending = NonePending }
    → Executes put_cost (λ m. a) (λ m. answer_to (situation m i block x) a) block (Ok done) [] x y s s
unserved put_cost a i block done x y s rises piv is after =
    let u = unmoved-6D00 put_cost a in
    subst (λ (d : Executed). Executes put_cost (λ m. a) (λ m. answer_to (situation m i block x) a) block (Ok d) [] x y s s) (sym is)
    (still put_cost a (λ m. answer_to (situation m i block x) a) block (record { sw = 0x6D00; drew = false }) [] x y s rises u.cost u.memory
    (λ m told. record {
      says = not-piv a i block x m piv;
      draws = sym u.draws;
      channel = let none = u.draws in rw none (after ∙ sym (u.channel x));
    }))
