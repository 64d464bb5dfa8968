-- What the program knows of a card after an exchange.
use Rattle.std.specs.Prelude.{not, is_some, if◌then◌else◌}
use Rattle.std.proofs.Common.{◌≡◌, ◌≤◌, ◌+◌, ℕ, Bool, true, false, List, [], ◌∷◌, Option, Some, None, IfSome, refl, ap, sym, ◌∙◌, subst, arith}
use Rattle.std.proofs.lemmas.List.Sums.{sum_by-cons}
use mathlib.Core.Bool.{cond}
use Rattle.hex.specs.Hex.{encode_upper}
use Rattle.piv_model.specs.declared.store.Store.{Ghosts}
use Rattle.piv_model.specs.declared.kinds.Interface.{Interface}
use Rattle.piv_model.specs.declared.history.ActKind.TheVariants as kind
use Rattle.piv_model.specs.declared.history.Refusal.TheVariants as why
use Rattle.piv_model.specs.Base.{Base}
use Rattle.piv_model.specs.Commands.{CardCommand}
use Rattle.piv_model.specs.Entries.{CardEntry, Past, Part, Rest, Bad, Cut, Note}
use Rattle.piv_model.specs.Framing.{reply_bytes}
use Rattle.piv_model.specs.Stores.{StoreState}
use Rattle.piv_rules.specs.Acts.{Records, entries}
use Rattle.piv_rules.specs.Connections.{on, side, epoch, is_epoch_end}
use Rattle.piv_rules.specs.RandomBlocks.{draws, draws_count, next_block}
use Rattle.card_laws.specs.PlanSteps.{IsToldAfter}
use Rattle.challenge_blocks.specs.declared.blocks.Blocks.{Blocks}
use Rattle.challenge_blocks.specs.Next.{IsNext}
use Rattle.card_app.specs.declared.card.Card.{Card}
use Rattle.card_app.specs.declared.card.Outcome.{Outcome}
use Rattle.card_app.specs.declared.card.Outcome.TheVariants as outcome
use Rattle.card_app.specs.After.{IsExchanged, epoch_at, record_left}
use Rattle.card_app.specs.Outcomes.{entry_by, answer_by, muted, is_mute, LeavesOf}
use Rattle.card_app.specs.Plans.{DueFollows}
use Rattle.card_app.specs.Stands.{store_state, state_of}
use Rattle.piv_cli.specs.Lines.{spelled}
use Rattle.piv_cli.specs.Sessions.{IsAfter, IsSteady, LosesOnce, Replies}
use Rattle.piv_cli.proofs.DashLaws.{loses-none}

-- whether an outcome drew a block, and the bytes of its reply
abbrev pub drew_by : Outcome → Bool
drew_by (outcome.Call command sw body last drew) = drew
drew_by _ = false

abbrev pub reply_of : Outcome → List ℕ
reply_of outcome.Part = reply_bytes [] 0x9000
reply_of (outcome.Call command sw body last drew) = reply_bytes body.now last
reply_of (outcome.Rest body last) = reply_bytes body.now last
reply_of (outcome.Bad sw) = reply_bytes [] sw
reply_of outcome.Mute = []

said : (told : ℕ) (o : Outcome) → spelled (answer_by told o) ≡ (if not (is_mute o) then encode_upper (reply_of o) else 45 ∷ [])
said told outcome.Part = refl
said told (outcome.Call command sw body last drew) = refl
said told (outcome.Rest body last) = refl
said told (outcome.Bad sw) = refl
said told outcome.Mute = refl

mute-draws-none : (o : Outcome) → is_mute o ≡ true → drew_by o ≡ false
mute-draws-none outcome.Part h = refl
mute-draws-none (outcome.Call command sw body last drew) h = absurd (cc)
mute-draws-none (outcome.Rest body last) h = refl
mute-draws-none (outcome.Bad sw) h = refl
mute-draws-none outcome.Mute h = refl

-- ---- the entry of an exchange

same-count : (b : Bool) (m n : ℕ) → m ≡ (if b then 1 else 0) + n → b ≡ false → m ≡ n
same-count false m n is none = omega arith
same-count true m n is none = absurd (cc)

pub epoch-kept : (e : CardEntry) (H : Past) (i : Interface) → is_epoch_end i e ≡ false → epoch (e ∷ H) i ≡ epoch H i
epoch-kept e H i none =
    same-count (is_epoch_end i e) (epoch (e ∷ H) i) (epoch H i) (sum_by-cons (λ x. cond (is_epoch_end i x) 1 0) e H) none

-- an entry of an exchange leaves the epoch, or ends the power
fresh-left : (o : Outcome) (H : Past) (block : List ℕ) (run : Option (ℕ × CardCommand)) → epoch H (side H 1) ≤ 0
    → on (entry_by 1 block run o ∷ H) ≡ true
    → epoch (entry_by 1 block run o ∷ H) (side (entry_by 1 block run o ∷ H) 1) ≤ 0
fresh-left outcome.Part H block run low is_on = subst (λ n. n ≤ 0) (sym (epoch-kept (Part 1) H (side H 1) refl)) low
fresh-left (outcome.Call command sw body last drew) H block run low is_on =
    subst (λ n. n ≤ 0) (sym (epoch-kept (entry_by 1 block run (outcome.Call command sw body last drew)) H (side H 1) refl)) low
fresh-left (outcome.Rest body last) H block run low is_on = subst (λ n. n ≤ 0) (sym (epoch-kept (Rest 1) H (side H 1) refl)) low
fresh-left (outcome.Bad sw) H block run low is_on = subst (λ n. n ≤ 0) (sym (epoch-kept (Bad 1 sw) H (side H 1) refl)) low
fresh-left outcome.Mute H block run low is_on = absurd (cc)

more-if : (b d : Bool) (m n : ℕ) → m ≡ (if b then 1 else 0) + n → b ≡ d → m ≡ (if d then n + 1 else n)
more-if true true m n is same = omega arith
more-if false false m n is same = omega arith
more-if true false m n is same = absurd (cc)
more-if false true m n is same = absurd (cc)

draws-by : (o : Outcome) (block : List ℕ) (run : Option (ℕ × CardCommand)) → draws (entry_by 1 block run o) ≡ drew_by o
draws-by outcome.Part block run = refl
draws-by (outcome.Call command sw body last true) block run = refl
draws-by (outcome.Call command sw body last false) block run = refl
draws-by (outcome.Rest body last) block run = refl
draws-by (outcome.Bad sw) block run = refl
draws-by outcome.Mute block run = refl

draws-left : (o : Outcome) (H : Past) (block : List ℕ) (run : Option (ℕ × CardCommand))
    → draws_count (entry_by 1 block run o ∷ H) ≡ (if drew_by o then draws_count H + 1 else draws_count H)
draws-left o H block run =
    more-if (draws (entry_by 1 block run o)) (drew_by o) _ (draws_count H)
    (sum_by-cons (λ x. cond (draws x) 1 0) (entry_by 1 block run o) H) (draws-by o block run)

draws-noted : (H : Past) → draws_count (Note (kind.Exchange 1) why.Mute ∷ H) ≡ draws_count H
draws-noted H = same-count false _ (draws_count H) (sum_by-cons (λ x. cond (draws x) 1 0) (Note (kind.Exchange 1) why.Mute) H) refl

-- ---- a store that won't lose power

told-on : (now : Option (List ℕ)) (P : List ℕ → Type 0) → is_some now ≡ true → IfSome now P → (later : List ℕ) × (now ≡ Some later) × P later
told-on None P told all = absurd (cc)
told-on (Some later) P told all = (later, refl, all)

due-on : (put_cost : ℕ → ℕ) (B : Base) (H : Past) (e : CardEntry) (old new : StoreState) → old.power.due ≡ Some []
    → is_some new.power.due ≡ is_some old.power.due → DueFollows put_cost B H e old new
    → (later : List ℕ) × (new.power.due ≡ Some later) × IsToldAfter put_cost B H e [] later
due-on put_cost B H e old new none told follows =
    told-on new.power.due (IsToldAfter put_cost B H e []) (told ∙ ap is_some none)
    (subst (λ (d : Option (List ℕ)). IfSome d (λ told. IfSome new.power.due (λ later. IsToldAfter put_cost B H e told later))) none follows)

some-run : (run : Option (ℕ × CardCommand)) → is_some run ≡ true → (r : ℕ × CardCommand) × (run ≡ Some r)
some-run None h = absurd (cc)
some-run (Some r) h = (r, refl)

steady-left : (put_cost : ℕ → ℕ) (B : Base) (H : Past) (o : Outcome) (block : List ℕ) (run : Option (ℕ × CardCommand)) (old new : StoreState)
    → LeavesOf o old new → is_some run ≡ is_mute o → DueFollows put_cost B H (entry_by 1 block run o) old new
    → IsSteady old → IsSteady new
steady-left put_cost B H outcome.Part block run old new left flight follows steady = subst IsSteady (sym left) steady
steady-left put_cost B H (outcome.Rest body last) block run old new left flight follows steady = subst IsSteady (sym left) steady
steady-left put_cost B H (outcome.Bad sw) block run old new left flight follows steady = subst IsSteady (sym left) steady
steady-left put_cost B H (outcome.Call command sw body last drew) block run old new left flight follows steady =
    let e = entry_by 1 block run (outcome.Call command sw body last drew) in
    let later = due-on put_cost B H e old new steady.due left.told.1 follows in record {
      on = ap (λ p. p.on) left.power ∙ steady.on;
      due = later.1 ∙ ap Some later.2.1;
    }
steady-left put_cost B H outcome.Mute block run old new left flight follows steady =
    let r = some-run run flight in
    let later = due-on put_cost B H (Cut run) old new steady.due left.told.1 follows in
    absurd (let both : IsToldAfter put_cost B H (Cut (Some r.0)) [] later.0 = subst (λ (x : Option (ℕ × CardCommand)). IsToldAfter put_cost B H (Cut x) [] later.0) r.1 later.2 in
    let due : false ≡ true = both.0 in cc)

-- ---- the losses of an exchange

same-losses : (old new : StoreState) → new ≡ old → LosesOnce old new
same-losses old new same = subst (λ (s : StoreState). LosesOnce old s) (sym same) (loses-none old)

loses-left : (o : Outcome) (old new : StoreState) → old.power.on ≡ true → LeavesOf o old new → LosesOnce old new
loses-left outcome.Part old new was_on left = same-losses old new left
loses-left (outcome.Rest body last) old new was_on left = same-losses old new left
loses-left (outcome.Bad sw) old new was_on left = same-losses old new left
loses-left (outcome.Call command sw body last drew) old new was_on left = record {
  kept = λ is_on. (was_on, ap (λ p. p.losses) left.power);
  lost = λ is_on is_off. absurd (let same : new.power.on ≡ old.power.on = ap (λ p. p.on) left.power in cc);
  off = λ was_off. absurd (cc);
}
loses-left outcome.Mute old new was_on left = record {
  kept = λ is_on. absurd (let off = left.off in cc);
  lost = λ is_on is_off. left.rose;
  off = λ was_off. absurd (cc);
}

-- whatever the store tells
pub loses-by : {S T : Type 0} {meaning : Ghosts S T} (put_cost : ℕ → ℕ) (old new : Card S T meaning) (c : ℕ) (bytes block : List ℕ) (o : Outcome)
    → IsExchanged put_cost old new c bytes block o → LosesOnce (store_state old) (store_state new)
loses-by put_cost old new c bytes block o made = by-power (store_state old).power.on refl
  where
    by-power : (b : Bool) → (store_state old).power.on ≡ b → LosesOnce (store_state old) (store_state new)
    by-power true is = loses-left o (store_state old) (store_state new) is (made.on is).store
    by-power false is = same-losses (store_state old) (store_state new) (ap store_state (made.off is))

-- ---- the records go on

pub replies-by : {S T : Type 0} {meaning : Ghosts S T} (put_cost : ℕ → ℕ) (old new : Card S T meaning) (before after : Blocks)
    (B : Base) (R : Records) (bytes block : List ℕ) (o : Outcome) (replied : Bool) (reply : List ℕ)
    → IsExchanged put_cost old new 1 bytes block o → IsAfter old before B R → block ≡ next_block B (entries R)
    → replied ≡ not (is_mute o) → (is_mute o ≡ false → reply ≡ reply_of o)
    → IsNext B.random (if drew_by o then draws_count (entries R) + 1 else draws_count (entries R)) after
    → Replies B R bytes old new after replied reply
replies-by put_cost old new before after B R bytes block o replied reply made known next given wrote drawn =
    by-power (store_state old).power.on refl
  where
    run : Option (ℕ × CardCommand)
    run = (state_of new).running

    words : (m : Bool) → is_mute o ≡ m
        → (if not m then encode_upper (reply_of o) else 45 ∷ []) ≡ (if not m then encode_upper reply else 45 ∷ [])
    words true is = refl
    words false is = ap encode_upper (sym (wrote is))

    spelled-by : (told : ℕ) → spelled (answer_by told o) ≡ (if replied then encode_upper reply else 45 ∷ [])
    spelled-by told = said told o ∙ words (is_mute o) refl ∙ ap (λ (b : Bool). if b then encode_upper reply else 45 ∷ []) (sym given)

    dash-by : (m : Bool) → is_mute o ≡ m → m ≡ true → 45 ∷ [] ≡ (if not m then encode_upper reply else 45 ∷ [])
    dash-by true is h = refl
    dash-by false is h = absurd (cc)

    by-power : (b : Bool) → (store_state old).power.on ≡ b → Replies B R bytes old new after replied reply
    by-power true is =
        let on_made = made.on is in
        let was_on : on (entries R) ≡ true = sym known.stands.stands.power ∙ is in
        let low = known.fresh was_on in record {
          made = record_left new R 1 0 bytes block o;
          act = refl;
          stands = record {
            stands = on_made.stands B R 0 known.stands low next;
            fresh = λ is_on. fresh-left o (entries R) block run low is_on;
            next = subst (λ n. IsNext B.random n after) (sym (draws-left o (entries R) block run)) drawn;
          };
          spelled = spelled-by (epoch_at R 1);
          steady = steady-left put_cost B (entries R) o block run (store_state old) (store_state new) on_made.store on_made.flight
              (on_made.due B R known.stands next);
        }
    by-power false is =
        let mute : is_mute o ≡ true = made.mute ∙ ap (λ (k : Card _ _ _). not (store_state k).power.on) (made.off is) ∙ ap not is in
        record {
          made = muted 1 0 bytes (epoch_at R 1);
          act = refl;
          stands = record {
            stands = made.muted B R 0 is known.stands;
            fresh = λ is_on. absurd (let was : (store_state old).power.on ≡ on (entries R) = known.stands.stands.power in cc);
            next = subst (λ n. IsNext B.random n after) (sym (draws-noted (entries R)))
                (subst (λ (b : Bool). IsNext B.random (if b then draws_count (entries R) + 1 else draws_count (entries R)) after) (mute-draws-none o mute) drawn);
          };
          spelled = dash-by (is_mute o) refl mute ∙ ap (λ (b : Bool). if b then encode_upper reply else 45 ∷ []) (sym given);
          steady = λ steady. absurd (let is_on = steady.on in cc);
        }
