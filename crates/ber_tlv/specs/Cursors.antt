-- What a cursor over elements shows: the bytes that it was given, and its place among them.
use Rattle.std.specs.Prelude.{ℕ, ◌-◌, List, drop, slice_range}
use Rattle.ber_tlv.specs.declared.cursor.Tlv.{Tlv}
use Rattle.ber_tlv.specs.declared.fault.TlvFault.{TlvFault}
use Rattle.ber_tlv.specs.declared.fault.TlvKind.{TlvKind}
use Rattle.ber_tlv.specs.Elements.{Element, element}

pub record Reading : Type 0 where
  pub bytes : List ℕ
  pub at : ℕ

-- the bytes that are left
abbrev pub left : Reading → List ℕ
left reading = drop reading.at reading.bytes

-- so many bytes right before the place
abbrev pub before : Reading → ℕ → List ℕ
before reading n = slice_range reading.bytes (reading.at - n) reading.at

-- an element that is lent
abbrev pub element_of : Tlv → Element
element_of tlv = element tlv.tag tlv.value.now

abbrev pub fault_at : ℕ → TlvKind → TlvFault
fault_at at kind = record { at = at; kind = kind }
