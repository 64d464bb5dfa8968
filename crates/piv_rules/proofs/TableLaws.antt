-- The word of a reply by the table.
use Rattle.std.proofs.Common.{◌≡◌, ℕ, Bool, true, false, Option, Some, None, refl}
use Rattle.std.specs.Prelude.{if◌then◌else◌, not}
use Rattle.piv_rules.specs.declared.table.Conditions.{Conditions}
use Rattle.piv_rules.specs.Asks.{Ask}
use Rattle.piv_rules.specs.Answers.{Situation, Reply, only, conditions, data_of, unless, by_table, word_by, answer_to}

-- a map goes into each line of the table
map-if : {A C : Type 0} (f : A → C) (b : Bool) (x y : A) (z : C) → f y ≡ z → f (if b then x else y) ≡ (if b then f x else z)
map-if f true x y z h = refl
map-if f false x y z h = h

map-unless : {A C : Type 0} (f : A → C) (o : Option ℕ) (refused : ℕ → A) (x : A) (z : C) → f x ≡ z
    → f (unless o refused x) ≡ unless o (λ w. f (refused w)) z
map-unless f None refused x z h = h
map-unless f (Some w) refused x z h = refl

pub by_table-map : {A C : Type 0} (f : A → C) (refused : ℕ → A) (granted : A) (t : Conditions)
    → f (by_table refused granted t) ≡ by_table (λ w. f (refused w)) (f granted) t
by_table-map f refused granted t =
    map-if f (not t.piv) _ _ _ (map-unless f t.refusal refused _ _
    (map-if f (not t.permitted) _ _ _ (map-if f t.lacks_pending _ _ _ (map-if f t.wrong _ _ _ (map-if f t.blocked _ _ _
    (map-if f t.differs _ _ _ (map-if f t.unknown_login _ _ _ (map-if f t.absent _ _ _ (map-if f t.no_room _ _ _ refl)))))))))

pub answer_to-word : (s : Situation) (a : Ask) → (answer_to s a).word ≡ word_by (conditions s a)
unfolding answer_to
answer_to-word s a = by_table-map (λ (r : Reply). r.word) only (record { word = 0x9000; body = data_of s a }) (conditions s a)

pub ruleset table_words = (answer_to-word)
