-- What was set and not ended since is what the last entry says.
use Rattle.std.specs.Prelude.{if◌then◌else◌, not, ◌↔◌}
use Rattle.std.proofs.Common.{◌≡◌, Bool, true, false, [], ◌∷◌, ◌++◌, Option, Some, None, refl, ap, sym, ◌∙◌, unwrap_or, subst}
use Rattle.piv_model.specs.Entries.{CardEntry, Past}
use Rattle.piv_rules.specs.Lookback.{last_of, none_since}
use Rattle.login_laws.specs.Lasts.{Lasts}
use Rattle.login_laws.proofs.Bools.{and-first, and-last, not-true}

-- set, ended, or left
abbrev pub said : Bool → Bool → Option Bool
said sets over = if sets then Some true else if over then Some false else None

-- what each entry of a history says is that it sets, or else that it ends
abbrev pub Agrees : (Past → CardEntry → Option Bool) → (CardEntry → Bool) → (Past → CardEntry → Bool) → Past → Type 0
Agrees f sets ends [] = Unit {0}
Agrees f sets ends (e ∷ H) = Agrees f sets ends H × (f H e ≡ said (sets e) (ends H e))

lasts-now : (sets : CardEntry → Bool) (ends : Past → CardEntry → Bool) (H : Past) (e : CardEntry) → sets e ≡ true → Lasts sets ends (e ∷ H)
lasts-now sets ends H e h = record { since = []; entry = e; before = H; whole = refl; set = h; lasts = refl }

lasts-more : (sets : CardEntry → Bool) (ends : Past → CardEntry → Bool) (H : Past) (e : CardEntry) → ends H e ≡ false → Lasts sets ends H
    → Lasts sets ends (e ∷ H)
lasts-more sets ends H e left l = record {
  since = e ∷ l.since;
  entry = l.entry;
  before = l.before;
  whole = ap (λ G. e ∷ G) l.whole;
  set = l.set;
  lasts = rw (← l.whole, left) l.lasts;
}

it-lasts : (f : Past → CardEntry → Option Bool) (sets : CardEntry → Bool) (ends : Past → CardEntry → Bool) (H : Past) → Agrees f sets ends H
    → last_of f false H ≡ true → Lasts sets ends H
it-lasts f sets ends [] agrees h = absurd (cc)
it-lasts f sets ends (e ∷ H) agrees h =
    go (sets e) (ends H e) refl refl (sym (ap (λ o. unwrap_or o (last_of f false H)) agrees.1) ∙ h) (it-lasts f sets ends H agrees.0)
  where
    go : (s o : Bool) → sets e ≡ s → ends H e ≡ o → unwrap_or (said s o) (last_of f false H) ≡ true
        → (last_of f false H ≡ true → Lasts sets ends H) → Lasts sets ends (e ∷ H)
    go true o is left h ih = lasts-now sets ends H e is
    go false true is left h ih = absurd (cc)
    go false false is left h ih = lasts-more sets ends H e left (ih h)

still-so : (f : Past → CardEntry → Option Bool) (sets : CardEntry → Bool) (ends : Past → CardEntry → Bool) (L G : Past) (e : CardEntry)
    → Agrees f sets ends (L ++ e ∷ G) → sets e ≡ true → none_since ends L (e ∷ G) ≡ true → last_of f false (L ++ e ∷ G) ≡ true
still-so f sets ends [] G e agrees set lasts = ap (λ o. unwrap_or o (last_of f false G)) agrees.1 ∙ rw set refl
still-so f sets ends (d ∷ L) G e agrees set lasts =
    let ih = still-so f sets ends L G e agrees.0 set (and-last (not (ends (L ++ e ∷ G) d)) _ lasts) in
    ap (λ o. unwrap_or o (last_of f false (L ++ e ∷ G))) agrees.1
    ∙ go (sets d) (ends (L ++ e ∷ G) d) (not-true _ (and-first (not (ends (L ++ e ∷ G) d)) _ lasts)) ih
  where
    go : (s o : Bool) → o ≡ false → last_of f false (L ++ e ∷ G) ≡ true → unwrap_or (said s o) (last_of f false (L ++ e ∷ G)) ≡ true
    go true o left ih = refl
    go false true left ih = absurd (cc)
    go false false left ih = ih

pub lasts-exactly : (f : Past → CardEntry → Option Bool) (sets : CardEntry → Bool) (ends : Past → CardEntry → Bool) (H : Past) → Agrees f sets ends H
    → (last_of f false H ≡ true) ↔ Lasts sets ends H
lasts-exactly f sets ends H agrees = (
  it-lasts f sets ends H agrees,
  (λ l. ap (last_of f false) l.whole
      ∙ still-so f sets ends l.since l.before l.entry (subst (Agrees f sets ends) l.whole agrees) l.set l.lasts),
)
