-- What an accepted command gave lasts until another one gives anew.
use Rattle.std.specs.Prelude.{not, ◌&&◌, is_some}
use Rattle.std.proofs.Common.{ap, ◌≡◌, true, [], ◌∷◌, ◌++◌, Option, Some, None, refl, ◌∙◌, unwrap_or, eq-eqb}
use Rattle.piv_model.specs.declared.kinds.RefId.{RefId}
use Rattle.piv_model.specs.declared.kinds.RefId.TheVariants.{Pin, Puk, GlobalPin}
use Rattle.piv_model.specs.Entries.{CardEntry, Past}
use Rattle.piv_model.specs.Base.{profile}
use Rattle.piv_rules.specs.Lookback.{last_of, none_since}
use Rattle.piv_rules.specs.Memories.{gave, secret_by, object_by, same_reference}
use Rattle.piv_rules.proofs.Memories.{stored-mem, reference-mem}
use Rattle.command_laws.specs.LastingLaws.{ObjectsLast, SecretsLast, UnblockedPinsLast}

-- entries of which `f` says nothing leave what the last one said
last_of-keeps : {A : Type 0} (f : Past → CardEntry → Option A) (start : A) (L H : Past)
    → none_since (λ G e. is_some (f G e)) L H ≡ true → last_of f start (L ++ H) ≡ last_of f start H
last_of-keeps f start [] H h = refl
last_of-keeps {A} f start (e ∷ L) H h = go (f (L ++ H) e) (last_of-keeps f start L H) h
  where
    go : (o : Option A) → (none_since (λ G d. is_some (f G d)) L H ≡ true → last_of f start (L ++ H) ≡ last_of f start H)
        → (not (is_some o) && none_since (λ G d. is_some (f G d)) L H) ≡ true
        → unwrap_or o (last_of f start (L ++ H)) ≡ last_of f start H
    go None ih k = ih k
    go (Some x) ih k = absurd (cc)

pub ObjectsLast-law : ObjectsLast
ObjectsLast-law B H L c k word block id v asks granted small since =
    stored-mem B _ id small ∙ last_of-keeps (gave (profile B) (object_by id)) _ L _ since ∙ rw (granted, asks, eq-eqb id id refl) refl

same-same : (r : RefId) → same_reference r r ≡ true
same-same Pin = refl
same-same Puk = refl
same-same GlobalPin = refl

pub SecretsLast-law : SecretsLast
SecretsLast-law B H L c k word block r p n asks granted have since =
    ap (λ x. x.secret) (reference-mem B _ r have)
    ∙ last_of-keeps (gave (profile B) (secret_by r)) _ L _ since ∙ rw (granted, asks, same-same r) refl

pub UnblockedPinsLast-law : UnblockedPinsLast
UnblockedPinsLast-law B H L c k word block r p n asks granted since =
    ap (λ x. x.secret) (reference-mem B _ Pin refl)
    ∙ last_of-keeps (gave (profile B) (secret_by Pin)) _ L _ since ∙ rw (granted, asks) refl

pub ruleset lasting_laws = (ObjectsLast-law, SecretsLast-law, UnblockedPinsLast-law)
