-- The access rules of the keys (SP 800-73-4 part 1).
use Rattle.piv_model.specs.declared.kinds.Rule.{Rule}
use Rattle.piv_model.specs.declared.kinds.Rule.TheVariants as rule
use Rattle.piv_model.specs.declared.kinds.KeyId.{KeyId}
use Rattle.piv_model.specs.declared.kinds.KeyId.TheVariants.{AdminKey, CardAuth}

-- the rule for the use of a key
abbrev pub use_rule_of : KeyId → Rule
use_rule_of AdminKey = rule.ContactUse
use_rule_of CardAuth = rule.Always
