-- Which replies have data.
use Rattle.std.proofs.Common.{◌≡◌, ℕ, Bool, true, false, List, [], Option, Some, None, refl, ap, ◌∙◌}
use Rattle.std.specs.Prelude.{if◌then◌else◌}
use Rattle.piv_model.specs.declared.kinds.Application.TheVariants.{Piv}
use Rattle.piv_model.specs.Base.{profile}
use Rattle.piv_rules.specs.declared.table.Conditions.{Conditions}
use Rattle.piv_rules.specs.Asks.{Ask, Refused, Select, Get, Put, Logout, Query, Compare, Internal, AskChallenge, External, AskWitness, Mutual, ask}
use Rattle.piv_rules.specs.Answers.{Situation, situation_of, Reply, only, data_of, conditions, by_table, answer, answer_in, answer_to, select_reply, is_select}
use Rattle.piv_rules.proofs.TableLaws.{by_table-map}
use Rattle.history_laws.specs.DataLaws.{gives_data, OthersHaveNoData}

quiet : (s : Situation) (a : Ask) → gives_data a ≡ false → data_of s a ≡ []
quiet s (Select Piv) h = absurd (cc)
quiet s (Get id) h = absurd (cc)
quiet s (Internal x) h = absurd (cc)
quiet s AskChallenge h = absurd (cc)
quiet s AskWitness h = absurd (cc)
quiet s (Mutual w x) h = absurd (cc)
quiet s a h = refl

-- each line of the table gives no data
by-lines : (t : Conditions) → by_table {A = List ℕ} (λ w. []) [] t ≡ []
by-lines t = go t.piv t.refusal t.permitted t.lacks_pending t.wrong t.blocked t.differs t.unknown_login t.absent t.no_room
  where
    go : (piv : Bool) (refusal : Option ℕ) (permitted lacks wrong blocked differs unknown absent full : Bool)
        → by_table {A = List ℕ} (λ w. []) [] (record {
          piv = piv;
          refusal = refusal;
          permitted = permitted;
          lacks_pending = lacks;
          wrong = wrong;
          blocked = blocked;
          differs = differs;
          unknown_login = unknown;
          absent = absent;
          no_room = full;
          tries = t.tries;
        }) ≡ []
    go false r p l w b d u a f = refl
    go true (Some x) p l w b d u a f = refl
    go true None false l w b d u a f = refl
    go true None true true w b d u a f = refl
    go true None true false true b d u a f = refl
    go true None true false false true d u a f = refl
    go true None true false false false true u a f = refl
    go true None true false false false false true a f = refl
    go true None true false false false false false true f = refl
    go true None true false false false false false false true = refl
    go true None true false false false false false false false = refl

table-quiet : (s : Situation) (a : Ask) → data_of s a ≡ [] → (answer_to s a).body ≡ []
unfolding answer_to
table-quiet s a h =
    by_table-map (λ (r : Reply). r.body) only (record { word = 0x9000; body = data_of s a }) (conditions s a)
    ∙ ap (λ (x : List ℕ). by_table (λ w. []) x (conditions s a)) h ∙ by-lines (conditions s a)

select-quiet : (s : Situation) (a : Ask) → data_of s a ≡ [] → (select_reply s a).body ≡ []
select-quiet s (Refused w) h = refl
select-quiet s (Select x) h = h
select-quiet s (Get id) h = h
select-quiet s (Put id v) h = h
select-quiet s (Logout r) h = h
select-quiet s (Query r) h = h
select-quiet s (Compare r p purpose) h = h
select-quiet s (Internal x) h = h
select-quiet s AskChallenge h = h
select-quiet s (External x) h = h
select-quiet s AskWitness h = h
select-quiet s (Mutual w x) h = h

pub OthersHaveNoData-law : OthersHaveNoData
unfolding answer answer_in
OthersHaveNoData-law B H c k h = go (is_select k)
  where
    q : data_of (situation_of B H c) (ask (profile B) k) ≡ []
    q = quiet (situation_of B H c) (ask (profile B) k) h

    go : (b : Bool) → (if b then select_reply (situation_of B H c) (ask (profile B) k) else answer_to (situation_of B H c) (ask (profile B) k)).body ≡ []
    go true = select-quiet (situation_of B H c) (ask (profile B) k) q
    go false = table-quiet (situation_of B H c) (ask (profile B) k) q

pub ruleset data_laws = (OthersHaveNoData-law)
