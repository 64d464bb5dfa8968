-- A refusal has no data.
use Rattle.std.specs.Prelude.{if◌then◌else◌, not}
use Rattle.std.proofs.Common.{◌≡◌, ℕ, Bool, true, false, List, [], Option, Some, None, refl}
use Rattle.piv_model.specs.Base.{profile}
use Rattle.piv_rules.specs.declared.table.Conditions.{Conditions}
use Rattle.piv_rules.specs.Asks.{Ask, Refused, Select, Get, Put, Logout, Query, Compare, Internal, AskChallenge, External, AskWitness, Mutual, ask}
use Rattle.piv_rules.specs.Answers.{Situation, situation_of, Reply, only, data_of, conditions, unless, by_table, answer, answer_in, answer_to, select_reply, is_select}
use Rattle.command_laws.specs.AnswerWords.{RefusalsHaveNoData}

abbrev HasNoData : Reply → Type 0
HasNoData r = (r.word ≡ 0x9000 → ⊥) → r.body ≡ []

either : (b : Bool) (x y : Reply) → HasNoData x → HasNoData y → HasNoData (if b then x else y)
either true x y h k = h
either false x y h k = k

alone : (w : ℕ) → HasNoData (only w)
alone w other = refl

no-data-select : (s : Situation) (a : Ask) → HasNoData (select_reply s a)
no-data-select s (Refused w) other = refl
no-data-select s (Select x) other = absurd (other refl)
no-data-select s (Get id) other = absurd (other refl)
no-data-select s (Put id v) other = absurd (other refl)
no-data-select s (Logout r) other = absurd (other refl)
no-data-select s (Query r) other = absurd (other refl)
no-data-select s (Compare r p purpose) other = absurd (other refl)
no-data-select s (Internal x) other = absurd (other refl)
no-data-select s AskChallenge other = absurd (other refl)
no-data-select s (External x) other = absurd (other refl)
no-data-select s AskWitness other = absurd (other refl)
no-data-select s (Mutual w x) other = absurd (other refl)

none-unless : (o : Option ℕ) (x : Reply) → HasNoData x → HasNoData (unless o only x)
none-unless None x h = h
none-unless (Some w) x h = alone w

no-data-by : (t : Conditions) (body : List ℕ) → HasNoData (by_table only (record { word = 0x9000; body = body }) t)
no-data-by t body =
    either (not t.piv) (only 0x6D00) _ (alone 0x6D00)
    (none-unless t.refusal _
    (either (not t.permitted) (only 0x6982) _ (alone 0x6982)
    (either t.lacks_pending (only 0x6A80) _ (alone 0x6A80)
    (either t.wrong (only 0x6982) _ (alone 0x6982)
    (either t.blocked (only 0x6983) _ (alone 0x6983)
    (either t.differs _ _ (alone _)
    (either t.unknown_login _ _ (alone _)
    (either t.absent (only 0x6A82) _ (alone 0x6A82)
    (either t.no_room (only 0x6A84) _ (alone 0x6A84)
    (λ other. absurd (other refl)))))))))))

no-data-to : (s : Situation) (a : Ask) → HasNoData (answer_to s a)
unfolding answer_to
no-data-to s a = no-data-by (conditions s a) (data_of s a)

pub RefusalsHaveNoData-law : RefusalsHaveNoData
unfolding answer answer_in
RefusalsHaveNoData-law B H c k =
    either (is_select k) (select_reply (situation_of B H c) (ask (profile B) k)) (answer_to (situation_of B H c) (ask (profile B) k))
    (no-data-select (situation_of B H c) (ask (profile B) k)) (no-data-to (situation_of B H c) (ask (profile B) k))
