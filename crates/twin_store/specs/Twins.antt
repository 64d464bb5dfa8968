-- Objects as twin records (this project's own): each slot has a length of two bytes and the value.
use Rattle.std.specs.Prelude.{ℕ, zero, suc, ◌+◌, ◌*◌, ◌/◌, ◌%◌, Bool, nat_le, List, [], ◌∷◌, length, map, codes}
use Rattle.std.specs.List.{range_with_len, list_all}
use Rattle.nvm_device.specs.Bytes.{bytes_at}
use Rattle.nvm_slots.specs.Slots.{record_of}
use Rattle.nvm_slots.specs.declared.twin.Twin.{Twin}
use Rattle.card_image.specs.Header.{number_in}
use Rattle.nvm_slots.specs.Laying.{Piece}
use Rattle.piv_model.specs.Starts.{value_at}
use Rattle.card_image.specs.Forms.{Form}

abbrev pub object_twin : ℕ → Twin
object_twin k = record { selector = 256 + 32773 * k; slot = (257 + 32773 * k) ∷ (16643 + 32773 * k) ∷ []; size = 16386 }

-- the slots without their lengths
abbrev pub value_twin : ℕ → Twin
value_twin k = record { selector = 256 + 32773 * k; slot = (259 + 32773 * k) ∷ (16645 + 32773 * k) ∷ []; size = 16384 }

-- the slots from byte 64 j of their values on
abbrev pub part_twin : ℕ → ℕ → Twin
part_twin k j = record {
  selector = 256 + 32773 * k;
  slot = (259 + 32773 * k + 64 * j) ∷ (16645 + 32773 * k + 64 * j) ∷ [];
  size = 64;
}

abbrev pub length_at : List ℕ → ℕ → ℕ
length_at row k = number_in (record_of (object_twin k) row) 0

abbrev pub value_in : List ℕ → List ℕ
value_in part = bytes_at part 2 (number_in part 0)

abbrev pub object_at : List ℕ → ℕ → List ℕ
object_at row k = value_in (record_of (object_twin k) row)

unfoldable pub objects_of : List ℕ → List (List ℕ)
objects_of row = map (object_at row) (range_with_len 0 33)

unfoldable pub are_short : List ℕ → Bool
are_short row = list_all (λ k. nat_le (length_at row k) 16384) (range_with_len 0 33)

-- length and value, as they are written
abbrev pub spelled : List ℕ → List ℕ
spelled v = length v / 256 ∷ length v % 256 ∷ v

abbrev pub twin_form : Form
twin_form = record { mark = codes "PIVT"; are_objects = λ budget row. are_short row; objects_of = objects_of; put_cost = λ n. 2 }

-- the selector of slot 0, and a length, as they are laid
abbrev pub record_front : List ℕ → List ℕ
record_front v = 0 ∷ length v / 256 ∷ length v % 256 ∷ []

-- the records of the objects of the first n places, over other pieces
unfoldable pub twin_pieces : List (ℕ × List ℕ) → List Piece → ℕ → List Piece
twin_pieces pairs pieces zero = pieces
twin_pieces pairs pieces (suc k) =
    (259 + 32773 * k, value_at pairs k) ∷ (256 + 32773 * k, record_front (value_at pairs k)) ∷ twin_pieces pairs pieces k
