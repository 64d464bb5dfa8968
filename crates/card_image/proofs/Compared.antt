-- An object that is compared with a value, part by part.
use Rattle.std.proofs.Common.{◌≡◌, ◌≢◌, inl, inr, ℕ, zero, suc, ◌+◌, ◌-◌, ◌*◌, ◌<◌, ◌≤◌, min, Bool, true, false, List, [], ◌∷◌, length, take, drop, get_or, IfSome, Option, Some, None, refl, ap, sym, ◌∙◌, arith, length-take}
use Rattle.std.specs.Str.{bytes_eq}
use Rattle.std.proofs.lemmas.Bool.{cases_lt}
use Rattle.std.proofs.lemmas.List.{same_lists, length-drop}
use Rattle.std.proofs.lemmas.Slice.Eq.{bytes_eq-Decides}
use Rattle.nvm_device.specs.Bytes.{bytes_at}
use Rattle.nvm_device.proofs.Row.{get_or-bytes_at}
use Rattle.card_image.specs.Forms.{Form}
use Rattle.card_image.specs.Images.{KeepsObjects, object_in}

-- the bytes below a place are the same
pub record SameTo (n : ℕ) (object value : List ℕ) : Type 0 where
  pub bytes : (i : ℕ) → i < n → i < length value → get_or object i 0 ≡ get_or value i 0

not_true : (b : Bool) → (b ≡ true → ⊥) → false ≡ b
not_true true no_way = absurd (no_way refl)
not_true false no_way = refl

equal_then : (a b : List ℕ) (r : Bool) → r ≡ bytes_eq a b → r ≡ true → a ≡ b
equal_then a b r is true_there = (bytes_eq-Decides a b).0 (sym is ∙ true_there)

then_equal : (a b : List ℕ) → a ≡ b → true ≡ bytes_eq a b
then_equal a b same = sym ((bytes_eq-Decides a b).1 same)

module _ (form : Form) (place : ℕ) (value : List ℕ) (size : ℕ) (told : Option (List ℕ))
    (sized : IfSome told (λ row. KeepsObjects form row → size ≡ length (object_in form row place))) where
  pub size_differs : size ≢ length value
      → IfSome told (λ row. KeepsObjects form row → false ≡ bytes_eq (object_in form row place) value)
  size_differs differs = go told sized
    where
      go : (told : Option (List ℕ)) → IfSome told (λ row. KeepsObjects form row → size ≡ length (object_in form row place))
          → IfSome told (λ row. KeepsObjects form row → false ≡ bytes_eq (object_in form row place) value)
      go None sized = tt
      go (Some row) sized = λ keeps. not_true (bytes_eq (object_in form row place) value) (λ true_there.
          differs (sized keeps ∙ ap (λ (l : List ℕ). length l) (equal_then (object_in form row place) value true (sym true_there) refl)))

  -- one part, and what its comparison says
  module _ (number : ℕ) (part : List ℕ) (result : Bool) (same_size : size ≡ length value) (within : 64 * number + length part ≤ size)
      (part_is : part ≡ bytes_at value (64 * number) (length part))
      (compared : IfSome told (λ row. KeepsObjects form row → 64 * number + length part ≤ length (object_in form row place)
      → result ≡ bytes_eq (bytes_at (object_in form row place) (64 * number) (length part)) part)) where
    pub part_differs : result ≡ false
        → IfSome told (λ row. KeepsObjects form row → false ≡ bytes_eq (object_in form row place) value)
    part_differs false_there = go told sized compared
      where
        go : (told : Option (List ℕ)) → IfSome told (λ row. KeepsObjects form row → size ≡ length (object_in form row place))
            → IfSome told (λ row. KeepsObjects form row → 64 * number + length part ≤ length (object_in form row place)
            → result ≡ bytes_eq (bytes_at (object_in form row place) (64 * number) (length part)) part)
            → IfSome told (λ row. KeepsObjects form row → false ≡ bytes_eq (object_in form row place) value)
        go None sized compared = tt
        go (Some row) sized compared = λ keeps. not_true (bytes_eq (object_in form row place) value) (λ true_there.
            let object = object_in form row place in
            let long = sized keeps in
            let same : object ≡ value = equal_then object value true (sym true_there) refl in
            let both : true ≡ bytes_eq (bytes_at object (64 * number) (length part)) part =
            then_equal (bytes_at object (64 * number) (length part)) part (ap (λ (l : List ℕ). bytes_at l (64 * number) (length part)) same ∙ sym part_is) in
            let no_way : true ≡ false = both ∙ sym (compared keeps (omega (arith, long, within))) ∙ false_there in
            cc)

    pub part_same : result ≡ true → (64 * number + length part ≡ min size (64 * number + 64))
        → IfSome told (λ row. KeepsObjects form row → SameTo (64 * number) (object_in form row place) value)
        → IfSome told (λ row. KeepsObjects form row → SameTo (64 * (number + 1)) (object_in form row place) value)
    part_same true_there end so_far = go told sized compared so_far
      where
        go : (told : Option (List ℕ)) → IfSome told (λ row. KeepsObjects form row → size ≡ length (object_in form row place))
            → IfSome told (λ row. KeepsObjects form row → 64 * number + length part ≤ length (object_in form row place)
            → result ≡ bytes_eq (bytes_at (object_in form row place) (64 * number) (length part)) part)
            → IfSome told (λ row. KeepsObjects form row → SameTo (64 * number) (object_in form row place) value)
            → IfSome told (λ row. KeepsObjects form row → SameTo (64 * (number + 1)) (object_in form row place) value)
        go None sized compared so_far = tt
        go (Some row) sized compared so_far = λ keeps.
            let object = object_in form row place in
            let long = sized keeps in
            let same : bytes_at object (64 * number) (length part) ≡ bytes_at value (64 * number) (length part) =
            equal_then (bytes_at object (64 * number) (length part)) part result (compared keeps (omega (arith, long, within))) true_there ∙ part_is in
            record {
              bytes = λ i below inside. elim (cases_lt i (64 * number)) [
                | inl before ↦ (so_far keeps).bytes i before inside
                | inr here ↦ (let e : 64 * number + (i - 64 * number) ≡ i = omega (arith, here) in
                    let k : i - 64 * number < length part = omega (arith, here, below, inside, end, same_size) in
                    ap (λ j. get_or object j 0) (sym e) ∙ sym (get_or-bytes_at object (64 * number) (length part) (i - 64 * number) 0 k)
                    ∙ ap (λ (l : List ℕ). get_or l (i - 64 * number) 0) same
                    ∙ get_or-bytes_at value (64 * number) (length part) (i - 64 * number) 0 k ∙ ap (λ j. get_or value j 0) e)
              ];
            }

  pub all_same : (n : ℕ) → size ≡ length value → size ≤ n
      → IfSome told (λ row. KeepsObjects form row → SameTo n (object_in form row place) value)
      → IfSome told (λ row. KeepsObjects form row → true ≡ bytes_eq (object_in form row place) value)
  all_same n same_size enough so_far = go told sized so_far
    where
      any_default : (v : List ℕ) (i d : ℕ) → i < length v → get_or v i d ≡ get_or v i 0
      any_default [] i d below = absurd (omega arith)
      any_default (x ∷ v) zero d below = refl
      any_default (x ∷ v) (suc i) d below = any_default v i d (omega arith)

      go : (told : Option (List ℕ)) → IfSome told (λ row. KeepsObjects form row → size ≡ length (object_in form row place))
          → IfSome told (λ row. KeepsObjects form row → SameTo n (object_in form row place) value)
          → IfSome told (λ row. KeepsObjects form row → true ≡ bytes_eq (object_in form row place) value)
      go None sized so_far = tt
      go (Some row) sized so_far = λ keeps.
          let object = object_in form row place in
          let long = sized keeps in
          then_equal object value (same_lists object value (sym long ∙ same_size) (λ i d h.
          any_default object i d h ∙ (so_far keeps).bytes i (omega (arith, h, long, enough)) (omega (arith, h, long, same_size))
          ∙ sym (any_default value i d (omega (arith, h, long, same_size)))))

-- the part of a value that is compared
pub part_of : (value : List ℕ) (from to : ℕ) → to ≤ length value → from ≤ to
    → (length (take (to - from) (drop from value)) ≡ to - from)
    × (take (to - from) (drop from value) ≡ bytes_at value from (length (take (to - from) (drop from value))))
unfolding bytes_at
part_of value from to within rises =
    let long : length (take (to - from) (drop from value)) ≡ to - from = omega (arith, length-take (to - from) (drop from value), length-drop from value) in
    (long, ap (λ n. take n (drop from value)) (sym long))
