-- Laws about elements alone: a list of elements has one reading, and what is spelled is an element.
use Rattle.std.specs.Prelude.{◌≡◌, ℕ, ◌≤◌, ◌↔◌, List, length, Some}
use Rattle.ber_tlv.specs.Elements.{Element, element, IsElement, AreElements, IsTagNumber, elements_of, spell}

-- The reading gives the list that the bytes are, and gives one exactly where they are one.
abbrev pub ReadsElements : Type 0
ReadsElements =
    (bytes : List ℕ) (list : List Element) → (elements_of bytes ≡ Some list) ↔ AreElements bytes list

-- The bytes are elements in one way at most.
abbrev pub HasOneReading : Type 0
HasOneReading =
    (bytes : List ℕ) (list other : List Element)
    → AreElements bytes list → AreElements bytes other → list ≡ other

-- What is spelled is the element.
abbrev pub SpellsElements : Type 0
SpellsElements =
    (tag : ℕ) (value : List ℕ)
    → IsTagNumber tag → length value ≤ 65535 → IsElement (spell tag value) (element tag value)
