-- What the plain programs' types say: a lent ask, lent entries and a situation (this project's own).
use Rattle.std.specs.Prelude.{◌≡◌, ◌≤◌, List, length, map, sum_by}
use Rattle.piv_model.specs.declared.kinds.RefId.TheVariants.{GlobalPin}
use Rattle.piv_model.specs.declared.history.Entry.{Entry}
use Rattle.piv_model.specs.Entries.{Past, entry_of}
use Rattle.piv_model.specs.Memory.{Reference, reference, blocks}
use Rattle.piv_rules.specs.declared.asked.Asked.{Asked}
use Rattle.piv_rules.specs.declared.asked.Asked.TheVariants as asked
use Rattle.piv_rules.specs.declared.asked.Purpose.{Purpose}
use Rattle.piv_rules.specs.declared.asked.Purpose.TheVariants as purpose
use Rattle.piv_rules.specs.declared.seen.Counter.{Counter}
use Rattle.piv_rules.specs.declared.seen.Seen.{Seen}
use Rattle.piv_rules.specs.declared.lookback.Pending as lookback
use Rattle.piv_rules.specs.declared.lookback.Pending.TheVariants as lent
use Rattle.piv_rules.specs.Asks.{Ask, Refused, Select, Get, Put, Logout, Query, Compare, Internal, AskChallenge, External, AskWitness, Mutual}
use Rattle.piv_rules.specs.Asks as asks
use Rattle.piv_rules.specs.Logins.{Pending, NonePending, Challenge, Witness}
use Rattle.piv_rules.specs.Answers.{Situation, global_counts}

abbrev pub purpose_of : Purpose → asks.Purpose
purpose_of purpose.Verify = asks.Verify
purpose_of (purpose.Change n) = asks.Change n
purpose_of (purpose.Unblock n) = asks.Unblock n

abbrev pub ask_of : Asked → Ask
ask_of (asked.Refused w) = Refused w
ask_of (asked.Select a) = Select a
ask_of (asked.Get id) = Get id
ask_of (asked.Put id v) = Put id v.now
ask_of (asked.Logout r) = Logout r
ask_of (asked.Query r) = Query r
ask_of (asked.Compare r p a) = Compare r p (purpose_of a)
ask_of (asked.Internal x) = Internal x
ask_of asked.AskChallenge = AskChallenge
ask_of (asked.External x) = External x
ask_of asked.AskWitness = AskWitness
ask_of (asked.Mutual w x) = Mutual w x

-- lent entries, the newest first, as a history
abbrev pub past_of : List Entry → Past
past_of entries = map entry_of entries

-- a pending block as the plain programs give it
abbrev pub pending_of : lookback.Pending → Pending
pending_of lent.None = NonePending
pending_of (lent.Challenge block) = Challenge block
pending_of (lent.Witness block) = Witness block

-- a counter and a secret, as a plain program is given them
abbrev pub counter_of : Counter → Reference → Type 0
counter_of counter x = (counter.tries ≡ x.tries) × (counter.secret.now ≡ x.secret)

-- no counter has more tries than a limit may be
abbrev pub AreFew : Seen → Type 0
AreFew seen = (seen.pin_counter.tries ≤ 15) × (seen.puk_counter.tries ≤ 15) × (seen.global_counter.tries ≤ 15)

-- a situation, as a plain program is given it
pub record IsSeen (seen : Seen) (s : Situation) : Type 0 where
  pub interface : seen.interface ≡ s.interface
  pub piv : seen.piv ≡ s.channel.piv
  pub pin : seen.pin ≡ s.channel.pin
  pub global : seen.global ≡ s.channel.global
  pub admin : seen.admin ≡ s.channel.admin
  pub pending : pending_of seen.pending ≡ s.channel.pending
  pub global_counts : seen.global_counts ≡ global_counts s.memory
  pub pin_counter : counter_of seen.pin_counter s.memory.pin
  pub puk_counter : counter_of seen.puk_counter s.memory.puk
  pub global_counter : counter_of seen.global_counter (reference s.memory GlobalPin)
  pub objects : map (λ o. o.now) seen.objects.now ≡ s.memory.objects
  pub used : seen.used ≡ sum_by (λ o. blocks (length o)) s.memory.objects
  pub budget : seen.budget ≡ s.memory.budget
