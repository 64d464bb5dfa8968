-- What the fields of a dynamic authentication template ask (SP 800-73-4 part 2, GENERAL AUTHENTICATE).
use Rattle.std.specs.Prelude.{◌≡◌, ◌⊎◌, ℕ, List, [], ◌∷◌, length, Option, Some, None}
use Rattle.std.specs.Option.{option_copied}
use Rattle.std.specs.Borrow.{Bor}
use Rattle.piv_model.specs.declared.command.AuthFields.{AuthFields}
use Rattle.piv_model.specs.declared.kinds.KeyId.{KeyId}
use Rattle.piv_model.specs.declared.kinds.KeyId.TheVariants.{AdminKey, CardAuth}
use Rattle.auth_protocol.specs.declared.form.AuthAsk.{AuthAsk}
use Rattle.auth_protocol.specs.declared.form.AuthAsk.TheVariants as auth

-- a field has 16 bytes or none
abbrev pub HasFieldSize : Option (Bor (List ℕ)) → Type 0
HasFieldSize None = Unit {0}
HasFieldSize (Some x) = (length x.now ≡ 0) ⊎ (length x.now ≡ 16)

-- by the Witness (80), the Challenge (81) and the Response (82); any other set of fields asks nothing
abbrev pub meant : KeyId → Option (List ℕ) → Option (List ℕ) → Option (List ℕ) → Option AuthAsk
meant CardAuth None (Some (b ∷ x)) (Some []) = Some (auth.Internal (b ∷ x))
meant AdminKey None (Some []) None = Some auth.Challenge
meant AdminKey None None (Some (b ∷ x)) = Some (auth.External (b ∷ x))
meant AdminKey (Some []) None None = Some auth.Witness
meant AdminKey (Some (a ∷ w)) (Some (b ∷ x)) None = Some (auth.Mutual (a ∷ w) (b ∷ x))
meant AdminKey (Some (a ∷ w)) (Some (b ∷ x)) (Some []) = Some (auth.Mutual (a ∷ w) (b ∷ x))
meant _ _ _ _ = None

abbrev pub asked_by : KeyId → AuthFields → Option AuthAsk
asked_by key fields = meant key (option_copied fields.f80) (option_copied fields.f81) (option_copied fields.f82)
