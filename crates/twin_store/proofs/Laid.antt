-- Records that were laid.
use Rattle.std.proofs.Common.{◌≡◌, inl, inr, ℕ, zero, suc, ◌+◌, ◌*◌, ◌%◌, ◌<◌, ◌≤◌, List, [], ◌∷◌, length, get_or, refl, ap, sym, ◌∙◌, subst, arith}
use Rattle.std.proofs.lemmas.Bool.{cases_eq}
use Rattle.std.proofs.lemmas.List.{same_lists}
use Rattle.power_loss.proofs.EachLaws.{told_all}
use Rattle.nvm_device.specs.Bytes.{bytes_at}
use Rattle.nvm_device.specs.Device.{DeviceState}
use Rattle.nvm_device.proofs.Row.{get_or-part, bytes_at-bytes_at, get_or-bytes_at, length-bytes_at}
use Rattle.nvm_slots.specs.Slots.{slot_of, record_of}
use Rattle.nvm_slots.specs.Laying.{Piece, Holds, Laid, Laying}
use Rattle.piv_model.specs.Starts.{value_at}
use Rattle.card_image.specs.Laying.{objects_area, values, LaidObjects, Done}
use Rattle.nvm_slots.proofs.KeptLaws.{leaves_implies}
use Rattle.twin_store.specs.Twins.{object_twin, object_at, objects_of, spelled, record_front, twin_pieces, twin_form}
use Rattle.twin_store.proofs.Objects.{short_by, spelled_length, spelled_value, map_same}

pub pieces_none : (pairs : List (ℕ × List ℕ)) (pieces : List Piece) → twin_pieces pairs pieces 0 ≡ pieces
unfolding twin_pieces
pieces_none pairs pieces = refl

pub pieces_more : (pairs : List (ℕ × List ℕ)) (pieces : List Piece) (k : ℕ) → twin_pieces pairs pieces (k + 1) ≡ (259 + 32773 * k, value_at pairs k) ∷ (256 + 32773 * k, record_front (value_at pairs k)) ∷ twin_pieces pairs pieces k
unfolding twin_pieces
pieces_more pairs pieces k = ap (twin_pieces pairs pieces) (let e : k + 1 ≡ suc k = omega arith in e)

record Stands (pairs : List (ℕ × List ℕ)) (row : List ℕ) (k : ℕ) : Type 0 where
  value : bytes_at row (259 + 32773 * k) (length (value_at pairs k)) ≡ value_at pairs k
  front : bytes_at row (256 + 32773 * k) 3 ≡ record_front (value_at pairs k)

stands : (pairs : List (ℕ × List ℕ)) (pieces : List Piece) (row : List ℕ) (n k : ℕ) → k < n → Holds (twin_pieces pairs pieces n) row → Stands pairs row k
unfolding twin_pieces
stands pairs pieces row zero k below holds = absurd (omega arith)
stands pairs pieces row (suc n) k below holds = elim (cases_eq k n) [
  | inl same ↦ subst (λ j. Stands pairs row j) (sym same) (record { value = holds.0; front = holds.1.0 })
  | inr differs ↦ stands pairs pieces row n k (omega arith) holds.1.1
]

any_default : (v : List ℕ) (i d : ℕ) → i < length v → get_or v i d ≡ get_or v i 0
any_default [] i d below = absurd (omega arith)
any_default (x ∷ v) zero d below = refl
any_default (x ∷ v) (suc i) d below = any_default v i d (omega arith)

begins : (pairs : List (ℕ × List ℕ)) (row : List ℕ) (k : ℕ) → length (value_at pairs k) ≤ 16384 → 1114112 ≤ length row → k < 33 → Stands pairs row k
    → bytes_at (record_of (object_twin k) row) 0 (length (value_at pairs k) + 2) ≡ spelled (value_at pairs k)
begins pairs row k short enough low there =
    let v = value_at pairs k in
    let byte : (i : ℕ) → i < 3 → get_or row (256 + 32773 * k + i) 0 ≡ get_or (record_front v) i 0 =
    λ i below. get_or-part row (record_front v) (256 + 32773 * k) i (omega arith) there.front in
    let here : 256 + 32773 * k ≡ 256 + 32773 * k + 0 = omega arith in
    let selector : get_or row (256 + 32773 * k) 0 ≡ 0 = ap (λ a. get_or row a 0) here ∙ byte 0 (omega arith) in
    let at : 257 + 32773 * k + 0 ≡ 257 + 32773 * k = omega arith in
    let n = length v + 2 in
    let part = bytes_at row (257 + 32773 * k) n in
    let size : length part ≡ n = length-bytes_at row (257 + 32773 * k) n (omega (arith, short, enough, low)) in
    ap (λ b. bytes_at (bytes_at row (slot_of (object_twin k) (b % 2)) 16386) 0 n) selector
    ∙ bytes_at-bytes_at row (257 + 32773 * k) 16386 0 n (omega (arith, short)) ∙ ap (λ a. bytes_at row a n) at
    ∙ same_lists part (spelled v) (omega (arith, size)) (λ i d h. at_place v short size byte there.value i d (omega (arith, size, h)))
  where
    at_place : (v : List ℕ) → length v ≤ 16384 → length (bytes_at row (257 + 32773 * k) (length v + 2)) ≡ length v + 2
        → ((i : ℕ) → i < 3 → get_or row (256 + 32773 * k + i) 0 ≡ get_or (record_front v) i 0)
        → bytes_at row (259 + 32773 * k) (length v) ≡ v
        → (i d : ℕ) → i < length v + 2 → get_or (bytes_at row (257 + 32773 * k) (length v + 2)) i d ≡ get_or (spelled v) i d
    at_place v short size byte value zero d below =
        let e : 257 + 32773 * k + 0 ≡ 256 + 32773 * k + 1 = omega arith in
        any_default (bytes_at row (257 + 32773 * k) (length v + 2)) 0 d (omega (arith, size))
        ∙ get_or-bytes_at row (257 + 32773 * k) (length v + 2) 0 0 (omega arith) ∙ ap (λ a. get_or row a 0) e ∙ byte 1 (omega arith)
    at_place v short size byte value (suc zero) d below =
        let e : 257 + 32773 * k + 1 ≡ 256 + 32773 * k + 2 = omega arith in
        any_default (bytes_at row (257 + 32773 * k) (length v + 2)) 1 d (omega (arith, size))
        ∙ get_or-bytes_at row (257 + 32773 * k) (length v + 2) 1 0 (omega arith) ∙ ap (λ a. get_or row a 0) e ∙ byte 2 (omega arith)
    at_place v short size byte value (suc (suc i)) d below =
        let e : 257 + 32773 * k + suc (suc i) ≡ 259 + 32773 * k + i = omega arith in
        get_or-bytes_at row (257 + 32773 * k) (length v + 2) (suc (suc i)) d (omega (arith, below)) ∙ ap (λ a. get_or row a d) e
        ∙ sym (get_or-bytes_at row (259 + 32773 * k) (length v) i d (omega (arith, below))) ∙ ap (λ (l : List ℕ). get_or l i d) value

laid_objects : (pairs : List (ℕ × List ℕ)) (old new : List ℕ) (end : ℕ) → ((k : ℕ) → k < 33 → length (value_at pairs k) ≤ 16384) → Laid objects_area (twin_pieces pairs [] 33) end old new → LaidObjects twin_form pairs old new
unfolding objects_of values
laid_objects pairs old new end short laid =
    let front : (k : ℕ) → k < 33 → bytes_at (record_of (object_twin k) new) 0 (length (value_at pairs k) + 2) ≡ spelled (value_at pairs k) = λ k low. begins pairs new k (short k low) (omega (arith, laid.enough, laid.kept.size)) low (stands pairs [] new 33 k low laid.holds) in
    record {
      kept = laid.kept;
      are = λ budget fits few. short_by new (λ k low. let is = spelled_length (record_of (object_twin k) new) (value_at pairs k) (front k low) in let s = short k low in omega (arith, is, s));
      objects = map_same (object_at new) (value_at pairs) 33 (λ k low. spelled_value (record_of (object_twin k) new) (value_at pairs k) (front k low));
    }

pub laid_all : (pairs : List (ℕ × List ℕ)) (k end : ℕ) (s u : DeviceState) → k ≡ 33 → ((k : ℕ) → k < 33 → length (value_at pairs k) ≤ 16384) → Laying objects_area (twin_pieces pairs [] k) end s u → Done (LaidObjects twin_form pairs) s u
laid_all pairs k end s u last short start =
    let laying = subst (λ j. Laying objects_area (twin_pieces pairs [] j) end s u) last start in
    record {
      left = leaves_implies (λ row. Unit {0}) (Laid objects_area (twin_pieces pairs [] 33) end) (LaidObjects twin_form pairs)
          (λ old new any laid. laid_objects pairs old new end short laid) s u (told_all (λ row. Unit {0}) (λ row. tt) s.bytes) laying.left;
      same = laying.same;
      due = laying.due;
    }
