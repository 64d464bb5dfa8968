-- The access table (SP 800-73-4 part 1, access rules).
use Rattle.std.specs.Prelude.{Bool, true, false, ◌&&◌, ◌||◌, if◌then◌else◌}
use Rattle.piv_model.specs.declared.kinds.Interface.{Interface}
use Rattle.piv_model.specs.declared.kinds.Interface.TheVariants.{Contact, Contactless}
use Rattle.piv_model.specs.declared.kinds.Rule.{Rule}
use Rattle.piv_model.specs.declared.kinds.Rule.TheVariants as rule
use Rattle.access_rules.specs.declared.decision.Status.{Status}
use Rattle.access_rules.specs.declared.decision.Verdict.{Verdict}
use Rattle.access_rules.specs.declared.decision.Verdict.TheVariants as verdict

abbrev pub is_contact : Interface → Bool
is_contact Contact = true
is_contact Contactless = false

-- whether a rule holds on an interface with these logins; that of the Global PIN may count as one by a PIN
abbrev pub permits : Rule → Interface → Status → Bool → Bool
permits rule.Always i s counts = true
permits rule.Pin i s counts = is_contact i && (s.pin || (s.global && counts))
permits rule.Never i s counts = false
permits rule.Admin i s counts = is_contact i && s.admin
permits rule.ContactUse i s counts = is_contact i
permits rule.Response i s counts = false

-- what denies has the word 69 82
abbrev pub verdict_of : Rule → Bool → Verdict
verdict_of r holds = if holds then verdict.Permit else verdict.Deny r 0x6982
