-- What a command asks, by the traits of the card, and what the readers of its data keep to.
use Rattle.std.specs.Prelude.{◌≡◌, ◌≢◌, ◌∷◌, [], ℕ, Bool, true, List, Option, Some, None, option_map, IsTrue, if◌then◌else◌}
use Rattle.std.specs.Borrow.{Bor}
use Rattle.piv_objects.specs.declared.put.PutFields.{PutFields}
use Rattle.piv_objects.specs.declared.put.PutFields.TheVariants as fields
use Rattle.piv_rules.specs.Forms.{PutForm, ObjectForm, DiscoveryForm}
use Rattle.piv_model.specs.declared.kinds.RefId.{RefId}
use Rattle.piv_model.specs.declared.kinds.RefId.TheVariants.{Pin, Puk, GlobalPin}
use Rattle.piv_model.specs.Base.{Profile}
use Rattle.piv_model.specs.Forms.{is_pin, is_secret, is_discovery}
use Rattle.piv_model.specs.Sound.{may_stand}
use Rattle.piv_rules.specs.Asks.{Ask, Internal, AskChallenge, External, AskWitness, Mutual}
use Rattle.auth_protocol.specs.declared.form.AuthAsk.{AuthAsk}
use Rattle.auth_protocol.specs.declared.form.AuthAsk.TheVariants as auth
use Rattle.piv_rules.specs.declared.asked.Purpose.{Purpose}
use Rattle.piv_rules.specs.declared.asked.Purpose.TheVariants as purpose
use Rattle.piv_rules.specs.declared.asked.Asked.{Asked}
use Rattle.piv_rules.specs.declared.asked.Asked.TheVariants as asked
use Rattle.card_commands.specs.declared.traits.Traits.{Traits}

abbrev pub profile_by : Traits → Profile
profile_by t = record {
  has_global = t.has_global;
  admin_algorithm = t.admin_algorithm;
  card_algorithm = t.card_algorithm;
}

-- a GENERAL AUTHENTICATE
abbrev pub auth_of : AuthAsk → Ask
auth_of (auth.Internal x) = Internal x
auth_of auth.Challenge = AskChallenge
auth_of (auth.External x) = External x
auth_of auth.Witness = AskWitness
auth_of (auth.Mutual w x) = Mutual w x

-- what any ask but SELECT of a card with these traits keeps to: its references are the card's, its values have their forms
abbrev pub IsKept : Bool → RefId → Type 0
IsKept global Pin = Unit {0}
IsKept global Puk = Unit {0}
IsKept global GlobalPin = global ≡ true

abbrev pub Suits : RefId → Purpose → Type 0
Suits r purpose.Verify = Unit {0}
Suits r (purpose.Change n) = IsTrue (is_secret r n)
Suits r (purpose.Unblock n) = (r ≡ Puk) × IsTrue (is_pin n)

abbrev pub IsMeet : Bool → Asked → Type 0
IsMeet global (asked.Put id v) = IsTrue (may_stand global id v.now)
IsMeet global (asked.Query r) = IsKept global r
IsMeet global (asked.Logout r) = IsKept global r
IsMeet global (asked.Compare r p aim) = IsKept global r × Suits r aim
IsMeet global (asked.Select a) = ⊥
IsMeet global _ = Unit {0}

-- the bytes that are lent, if any
abbrev pub shown : Option (Bor (List ℕ)) → Option (List ℕ)
shown lent = option_map (λ bytes. bytes.now) lent

-- what PUT DATA names, by the fields that were read
abbrev pub put_formed : Bool → PutFields → Option PutForm
put_formed global (fields.Object tag value) = Some (ObjectForm tag.now value.now)
put_formed global (fields.Discovery value) = if is_discovery global value.now then Some (DiscoveryForm value.now) else None

-- the tag isn't that of the Discovery Object, which is put by its own form
abbrev pub IsApart : PutFields → Type 0
IsApart (fields.Object tag value) = tag.now ≢ 0x7E ∷ []
IsApart (fields.Discovery value) = Unit {0}
