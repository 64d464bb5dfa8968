-- Worked examples on connections: one on contactless, a Global PIN, and exclusive ones (this project's own).
use Rattle.std.specs.Prelude.{◌≡◌, ℕ, true, false, List, [], ◌∷◌, ◌++◌, Some, None}
use Rattle.piv_model.specs.declared.history.ActKind.TheVariants as kind
use Rattle.piv_model.specs.declared.history.Refusal.TheVariants as why
use Rattle.piv_model.specs.declared.kinds.Interface.TheVariants.{Contact, Contactless}
use Rattle.piv_model.specs.ApplicationNames.{full_aid, idle_aid}
use Rattle.piv_model.specs.Base.{Base}
use Rattle.piv_model.specs.Changes.{with_object}
use Rattle.piv_model.specs.Commands.{CardCommand}
use Rattle.piv_model.specs.Entries.{Past, ◌▸◌, Opened, Closed, Note}
use Rattle.piv_model.specs.Forms.{discovery_head}
use Rattle.piv_model.specs.Objects.{discovery_place}
use Rattle.piv_model.specs.PlainCard.{plain_memory, plain_pin}
use Rattle.piv_rules.specs.Acts.{Connect}
use Rattle.piv_rules.specs.Legal.{IsAllowed}
use Rattle.piv_rules.specs.Turns.{refused}
use Rattle.history_examples.specs.Examples.{plain, start, words, select, get_chuid, get_printed, verify, query, wrong_pin, ask_challenge, put_chuid, counting}

-- ---- contactless

abbrev pub held_near : Past
held_near = Opened 1 Contactless true ∷ []

abbrev pub short_pin : List ℕ
short_pin = 0x31 ∷ 0x32 ∷ 0x33 ∷ []

-- GENERAL AUTHENTICATE with the card's own key
abbrev pub use_card_key : List ℕ → CardCommand
use_card_key x = record { ins = 0x87; p1 = 0x08; p2 = 0x9E; body = 0x7C ∷ 0x14 ∷ 0x81 ∷ 0x10 ∷ x ++ 0x82 ∷ 0x00 ∷ [] }

-- the free objects and the card's own key serve there; no PIN, no key of administration and no object of a PIN does. The
-- form comes before the interface.
abbrev pub ContactlessServesLittle : Type 0
ContactlessServesLittle = words plain held_near
    (select full_aid ∷ get_chuid ∷ get_printed ∷ verify plain_pin ∷ verify short_pin ∷ query ∷ ask_challenge ∷ put_chuid
    ∷ use_card_key counting ∷ [])
    ≡ 0x9000 ∷ 0x9000 ∷ 0x6982 ∷ 0x6982 ∷ 0x6A80 ∷ 0x6982 ∷ 0x6982 ∷ 0x6982 ∷ 0x9000 ∷ []

-- ---- a Global PIN

abbrev pub global_pin : List ℕ
global_pin = 0x37 ∷ 0x37 ∷ 0x37 ∷ 0x37 ∷ 0x37 ∷ 0x37 ∷ 0xFF ∷ 0xFF ∷ []

-- the plain card with a Global PIN, which its Discovery Object lets count
abbrev pub with_global : Base
with_global = record plain {
  memory = with_object discovery_place (discovery_head ++ 0x60 ∷ 0x10 ∷ [])
      (record plain_memory { global = Some (record { limit = 3; tries = 3; secret = global_pin }) });
}

abbrev pub verify_global : List ℕ → CardCommand
verify_global p = record { ins = 0x20; p1 = 0x00; p2 = 0x00; body = p }

-- it opens what the PIN opens, stays in force under the idle application, and ends with a wrong one; a card without it
-- has no such reference
abbrev pub GlobalPinOpens : Type 0
GlobalPinOpens =
    (words with_global start
    (select full_aid ∷ get_printed ∷ verify_global global_pin ∷ get_printed ∷ select idle_aid ∷ select full_aid ∷ get_printed
    ∷ verify_global wrong_pin ∷ get_printed ∷ [])
    ≡ 0x9000 ∷ 0x6982 ∷ 0x9000 ∷ 0x9000 ∷ 0x9000 ∷ 0x9000 ∷ 0x9000 ∷ 0x63C2 ∷ 0x6982 ∷ [])
    × (words plain start (select full_aid ∷ verify_global global_pin ∷ []) ≡ 0x9000 ∷ 0x6A88 ∷ [])

-- ---- exclusive connections

abbrev pub alone : Past
alone = Opened 1 Contact false ∷ []

-- an exclusive connection locks its interface, and a shared one locks it for an exclusive one
abbrev pub ExclusiveLocks : Type 0
ExclusiveLocks =
    (refused alone (Connect Contact true) ≡ Some why.Locked)
    × (refused start (Connect Contact false) ≡ Some why.Locked)
    × (refused start (Connect Contact true) ≡ None)
    × (refused alone (Connect Contactless false) ≡ None)
    × (refused (alone ▸ Closed 1) (Connect Contact true) ≡ None)
    × IsAllowed plain alone (Note (kind.Connect Contact) why.Locked)
    × ¬ (IsAllowed plain (alone ▸ Closed 1) (Note (kind.Connect Contact) why.Locked))
