-- What is written as a command is read back as it.
use Rattle.std.proofs.Common.{◌≡◌, ◌⊎◌, inl, inr, ℕ, ◌+◌, ◌<◌, List, [], ◌∷◌, ◌++◌, length, take, Option, Some, None, Ok, refl, ap, ◌∙◌, arith, length-append, false}
use Rattle.std.specs.Prelude.{nat_lt, slice_index}
use Rattle.std.proofs.lemmas.Grind.{common_steps}
use Rattle.std.proofs.lemmas.Bool.{le-ltb}
use Rattle.std.proofs.lemmas.Bool.Decides.{nat_tests}
use Rattle.std.proofs.lemmas.List.{append-nil}
use Rattle.std.proofs.Math.Seq.{take-append_seam}
use Rattle.piv_model.specs.Commands.{CardCommand}
use Rattle.piv_model.specs.ApduForms.{apdu_spelled, apdu_of_class, refusal_of_class, apdu_after_header, apdu_of_header, command_bytes, data_field, le_field, most_of, most_with}

is-long : (a b c d : ℕ) (rest : List ℕ) → nat_lt (length (a ∷ b ∷ c ∷ d ∷ rest)) 4 ≡ false
is-long a b c d rest = le-ltb (length (a ∷ b ∷ c ∷ d ∷ rest)) 4 (omega arith)

header-of : (class ins p1 p2 : ℕ) (rest : List ℕ) → refusal_of_class class ≡ None
    → apdu_spelled (class ∷ ins ∷ p1 ∷ p2 ∷ rest) ≡ apdu_after_header (class ∷ ins ∷ p1 ∷ p2 ∷ rest) rest
unfolding apdu_spelled
header-of class ins p1 p2 rest e = rw (is-long class ins p1 p2 rest) (ap (λ r. apdu_of_class r (class ∷ ins ∷ p1 ∷ p2 ∷ rest)) e)

is-allowed : (class : ℕ) → (class ≡ 0x00) ⊎ (class ≡ 0x10) → refusal_of_class class ≡ None
is-allowed class (inl e) = ap refusal_of_class e
is-allowed class (inr e) = ap refusal_of_class e

data-alone : (h : List ℕ) (lc b : ℕ) (rest : List ℕ) → length (b ∷ rest) ≡ lc
    → apdu_after_header h (lc ∷ b ∷ rest) ≡ Ok (apdu_of_header h (b ∷ rest) 256)
data-alone h lc b rest e = grind (arith, nat_tests)

data-and-le : (h : List ℕ) (lc b : ℕ) (rest : List ℕ) → length (b ∷ rest) ≡ lc + 1 → 0 < lc
    → apdu_after_header h (lc ∷ b ∷ rest) ≡ Ok (apdu_of_header h (take lc (b ∷ rest)) (most_of (slice_index (b ∷ rest) lc)))
data-and-le h lc b rest e some = grind (arith, nat_tests)

at-seam : (xs : List ℕ) (l : ℕ) → slice_index (xs ++ l ∷ []) (length xs) ≡ l
at-seam xs l = grind (arith, common_steps)

fields-read : (h body : List ℕ) (le : Option ℕ)
    → apdu_after_header h (data_field body ++ le_field le) ≡ Ok (apdu_of_header h body (most_with le))
fields-read h [] None = refl
fields-read h [] (Some l) = refl
fields-read h (b ∷ bs) None =
    ap (λ r. apdu_after_header h (length (b ∷ bs) ∷ b ∷ r)) (append-nil bs) ∙ data-alone h (length (b ∷ bs)) b bs refl
fields-read h (b ∷ bs) (Some l) =
    data-and-le h (length (b ∷ bs)) b (bs ++ l ∷ []) (omega (arith, length-append (b ∷ bs) (l ∷ []))) (omega arith)
    ∙ ap (λ r. Ok (apdu_of_header h r (most_of (slice_index (b ∷ (bs ++ l ∷ [])) (length (b ∷ bs)))))) (take-append_seam (b ∷ bs) (l ∷ []))
    ∙ ap (λ x. Ok (apdu_of_header h (b ∷ bs) (most_of x))) (at-seam (b ∷ bs) l)

pub read-back : (class : ℕ) (k : CardCommand) (le : Option ℕ) (bytes : List ℕ) → (class ≡ 0x00) ⊎ (class ≡ 0x10)
    → bytes ≡ command_bytes class k le
    → apdu_spelled bytes ≡ Ok (record { class = class; command = k; most = most_with le })
read-back class k le bytes allowed e =
    ap apdu_spelled e
    ∙ header-of class k.ins k.p1 k.p2 (data_field k.body ++ le_field le) (is-allowed class allowed)
    ∙ fields-read (class ∷ k.ins ∷ k.p1 ∷ k.p2 ∷ (data_field k.body ++ le_field le)) k.body le

pub ruleset read_back = (read-back)
