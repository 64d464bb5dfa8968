-- Texts that are read line by line, and bytes that are spelled.
use Rattle.std.specs.Prelude.{slice_index}
use Rattle.std.specs.List.{slice_split, position, position_or_len}
use Rattle.std.proofs.Common.{◌≡◌, ◌<◌, ◌+◌, ◌/◌, ◌%◌, ℕ, List, [], ◌∷◌, ◌++◌, Some, None, false, length, take, drop, get_or, refl, ap, ◌∙◌, arith}
use Rattle.std.proofs.lemmas.List.{append_assoc, take_more}
use Rattle.std.proofs.lemmas.List.Splits.{slice_split_first, slice_split_none}
use Rattle.std.proofs.lemmas.List.Quantifiers.{position-Some}
use Rattle.std.proofs.lemmas.Bool.Decides.{nat_tests}
use Rattle.std.proofs.lemmas.List.Elements.{All-from_get_or}
use Rattle.std.proofs.lemmas.List.Sums.{fails_before_first, position_or_len_is}
use Rattle.hex.specs.Hex.{encode_with, encode_upper, upper_digits}
use Rattle.piv_cli.specs.Lines.{is_newline}

-- a list with no line feed is one line
pub one_line : (xs : List ℕ) → position is_newline xs ≡ None → slice_split is_newline xs ≡ xs ∷ []
one_line xs none =
    slice_split_none is_newline xs
    (All-from_get_or (λ x. is_newline x ≡ false) xs 0 (λ i lt. fails_before_first is_newline xs i 0 (grind (arith, nat_tests, none))))

-- the first line ends at the first line feed
pub first_line_ends : (xs : List ℕ) (end : ℕ) → position is_newline xs ≡ Some end
    → (end < length xs) × (slice_split is_newline xs ≡ take end xs ∷ slice_split is_newline (drop (end + 1) xs))
first_line_ends xs end some =
    let at = position-Some is_newline xs end 0 some in
    let same : position_or_len is_newline xs ≡ end = position_or_len_is is_newline xs end 0 (omega arith) at.2 (λ _. at.1) in
    (at.0, slice_split_first is_newline xs 0 (omega arith) ∙ rw same refl)

encode_with-append : (t xs ys : List ℕ) → encode_with t (xs ++ ys) ≡ encode_with t xs ++ encode_with t ys
unfolding encode_with
encode_with-append t [] ys = refl
encode_with-append t (x ∷ xs) ys = ap (λ zs. slice_index t (x / 16) ∷ slice_index t (x % 16) ∷ zs) (encode_with-append t xs ys)

pub encode_upper-none : encode_upper [] ≡ []
unfolding encode_with
encode_upper-none = refl

-- one more byte is spelled
pub encode_upper_more : (out text now xs : List ℕ) (i : ℕ) (d : ℕ) → i < length xs → text ≡ out ++ encode_upper (take i xs)
    → now ≡ text ++ encode_upper (get_or xs i d ∷ []) → now ≡ out ++ encode_upper (take (i + 1) xs)
encode_upper_more out text now xs i d within before after =
    after ∙ rw (before, take_more xs i d within, encode_with-append upper_digits (take i xs) (get_or xs i d ∷ [])) (append_assoc out (encode_upper (take i xs)) (encode_upper (get_or xs i d ∷ [])))
