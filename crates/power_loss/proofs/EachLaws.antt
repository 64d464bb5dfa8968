-- What holds of both values, where they are told.
use Rattle.std.proofs.Common.{Some, None, IfSome}
use Rattle.std.specs.declared.option.Option.{Option}
use Rattle.std.specs.Option.{option_map}
use Rattle.power_loss.specs.Told.{Each}

pub each_implies : {A : Type 0} (P : A → Type 0) (R S : A → A → Type 0) → ((a b : A) → P a → R a b → S a b) → (old new : Option A) → IfSome old P → Each R old new → Each S old new
each_implies P R S implies None None p each = tt
each_implies P R S implies (Some a) (Some b) p each = implies a b p each
each_implies P R S implies None (Some b) p each = each
each_implies P R S implies (Some a) None p each = each

pub each_map : {A : Type 0} (R S : A → A → Type 0) (f : A → A) → ((a b : A) → R a b → S a (f b)) → (old new : Option A) → Each R old new → Each S old (option_map f new)
each_map R S f implies None None each = tt
each_map R S f implies (Some a) (Some b) each = implies a b each
each_map R S f implies None (Some b) each = each
each_map R S f implies (Some a) None each = each

pub each_self : {A : Type 0} (R : A → A → Type 0) (told : Option A) → IfSome told (λ a. R a a) → Each R told told
each_self R None self = tt
each_self R (Some a) self = self

-- a change of what is told
pub each_changed : {A : Type 0} (R : A → A → Type 0) (f : A → A) → ((a : A) → R a (f a)) → (told : Option A) → Each R told (option_map f told)
each_changed R f changes None = tt
each_changed R f changes (Some a) = changes a

-- one after the other
pub each_then : {A : Type 0} (P : A → Type 0) (R Q S : A → A → Type 0) → ((a b c : A) → P a → R a b → Q b c → S a c) → (a b c : Option A) → IfSome a P → Each R a b → Each Q b c → Each S a c
each_then P R Q S implies None None None p r q = tt
each_then P R Q S implies (Some a) (Some b) (Some c) p r q = implies a b c p r q
each_then P R Q S implies None None (Some c) p r q = absurd q
each_then P R Q S implies None (Some b) c p r q = absurd r
each_then P R Q S implies (Some a) None c p r q = absurd r
each_then P R Q S implies (Some a) (Some b) None p r q = absurd q

-- what holds of all
pub told_all : {A : Type 0} (P : A → Type 0) → ((a : A) → P a) → (told : Option A) → IfSome told P
told_all P all None = tt
told_all P all (Some a) = all a
