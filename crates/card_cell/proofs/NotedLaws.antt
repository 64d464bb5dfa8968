-- One entry that is pushed, and what it says.
use Rattle.std.specs.Prelude.{is_some, IsSome, if◌then◌else◌}
use Rattle.std.proofs.Common.{◌≡◌, ◌≤◌, ◌+◌, ℕ, List, ◌∷◌, refl, ap, sym, ◌∙◌, subst, arith, Bool, true, false, Option, Some, None}
use Rattle.power_loss.specs.Power.{switched_off, switched_on}
use Rattle.piv_model.specs.declared.store.Store.{Ghosts}
use Rattle.piv_model.specs.Base.{Base}
use Rattle.piv_model.specs.Commands.{CardCommand}
use Rattle.piv_model.specs.Entries.{CardEntry, Past, Cut}
use Rattle.piv_model.specs.Stores.{StoreState}
use Rattle.piv_model.specs.Written.{Written, IsPushed, command_length}
use Rattle.piv_rules.specs.Acts.{CardAct, CardAnswer, CardRecord, Records}
use Rattle.card_app.specs.declared.card.Card.{Card}
use Rattle.card_app.specs.Exchanges.{IsCutOff, IsKeptOn}
use Rattle.card_app.specs.Plans.{DueFollows, GoesOn}
use Rattle.card_app.specs.Stands.{CardStandsFor}
use Rattle.card_cell.specs.declared.exchanging.Exchanged.{Exchanged}
use Rattle.card_cell.specs.Exchanged.{latest, IsNoted, IsEntryOf}
use Rattle.card_cell.specs.Losses.{is_loss, IsCounted}

newest : (e : CardEntry) (old new : Written) → IsPushed e old new → latest new.past ≡ e
newest e old new pushed = ap latest pushed.past

pub noted : (e f : CardEntry) (old new : Written) (held now : ℕ) → IsPushed e old new → e ≡ f
    → command_length f + now ≤ held + 255 → IsNoted old new held now
noted e f old new held now pushed same keeps =
    let n = newest e old new pushed in
    let l : command_length e ≡ command_length f = ap command_length same in
    let b = pushed.bytes in
    record {
      past = pushed.past ∙ (λ j. sym n j ∷ old.past);
      entries = pushed.entries;
      bytes = omega arith;
    }

pub noted-stands : {S T : Type 0} {meaning : Ghosts S T} (card : Card S T meaning) (B : Base) (R : Records) (act : CardAct)
    (e f : CardEntry) (old new : Written) (a b : CardAnswer)
    → IsPushed e old new → e ≡ f → a ≡ b → CardStandsFor card B (record { act = act; entry = f; answer = a } ∷ R)
    → CardStandsFor card B (record { act = act; entry = latest new.past; answer = b } ∷ R)
noted-stands card B R act e f old new a b pushed same said stands =
    let n : latest new.past ≡ f = newest e old new pushed ∙ same in
    subst (λ (r : CardRecord). CardStandsFor card B (r ∷ R)) (λ j. record { act = act; entry = sym n j; answer = said j }) stands

pub noted-plan : (put_cost : ℕ → ℕ) (B : Base) (L : List ℕ) (G : Past) (so sn : StoreState) (e f : CardEntry) (old new : Written)
    → IsPushed e old new → e ≡ f → GoesOn put_cost B L G f so sn → GoesOn put_cost B L G (latest new.past) so sn
noted-plan put_cost B L G so sn e f old new pushed same plan =
    subst (λ (h : CardEntry). GoesOn put_cost B L G h so sn) (sym (newest e old new pushed ∙ same)) plan

pub noted-due : (put_cost : ℕ → ℕ) (B : Base) (G : Past) (so sn : StoreState) (e f : CardEntry) (old new : Written)
    → IsPushed e old new → e ≡ f → DueFollows put_cost B G f so sn → DueFollows put_cost B G (latest new.past) so sn
noted-due put_cost B G so sn e f old new pushed same due =
    subst (λ (h : CardEntry). DueFollows put_cost B G h so sn) (sym (newest e old new pushed ∙ same)) due

pub noted-kind : (global : Bool) (r : Exchanged) (e : CardEntry) (old new : Written) → IsPushed e old new → IsEntryOf global r e → IsEntryOf global r (latest new.past)
noted-kind global r e old new pushed kind = subst (λ (h : CardEntry). IsEntryOf global r h) (sym (newest e old new pushed)) kind

pub bears : (b : Bool) (block : List ℕ) → is_some (if b then Some block else None) ≡ b
bears true block = refl
bears false block = refl

-- ---- the losses that are counted

pub noted-counted : (e : CardEntry) (old new : Written) (so sn : StoreState) → IsPushed e old new → IsCounted (is_loss e) so sn
    → IsCounted (is_loss (latest new.past)) so sn
noted-counted e old new so sn pushed counted =
    subst (λ (h : CardEntry). IsCounted (is_loss h) so sn) (sym (newest e old new pushed)) counted

pub same-counted : (so sn : StoreState) → sn ≡ so → IsCounted false so sn
same-counted so sn same = (
  ap (λ (s : StoreState). s.power.losses) same,
  ap (λ (s : StoreState). s.power.span) same,
  (ap (λ (s : StoreState). is_some s.mem) same, ap (λ (s : StoreState). is_some s.power.due) same),
)

pub off-counted : (so sn : StoreState) → sn ≡ record so { power = switched_off so.power } → IsCounted false so sn
off-counted so sn same = (
  ap (λ (s : StoreState). s.power.losses) same,
  ap (λ (s : StoreState). s.power.span) same,
  (ap (λ (s : StoreState). is_some s.mem) same, ap (λ (s : StoreState). is_some s.power.due) same),
)

pub on-counted : (so sn : StoreState) → sn ≡ record so { power = switched_on so.power } → IsCounted false so sn
on-counted so sn same = (
  ap (λ (s : StoreState). s.power.losses) same,
  ap (λ (s : StoreState). s.power.span) same,
  (ap (λ (s : StoreState). is_some s.mem) same, ap (λ (s : StoreState). is_some s.power.due) same),
)

pub kept-counted : (so sn : StoreState) → IsKeptOn so sn → IsCounted false so sn
kept-counted so sn kept = (ap (λ p. p.losses) kept.power, ap (λ p. p.span) kept.power, kept.told)

pub lost-counted : (run : Option (ℕ × CardCommand)) (so sn : StoreState) → IsSome run → IsCutOff so sn → IsCounted (is_loss (Cut run)) so sn
lost-counted None so sn some off = absurd (cc)
lost-counted (Some r) so sn some off = (off.rose, off.span, off.told)

pub some-is : {A : Type 0} (o : Option A) → is_some o ≡ true → IsSome o
some-is o h = h
