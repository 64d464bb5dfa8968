-- Reading a length gives a length, and each admitted length is read, whatever follows it.
use Rattle.std.proofs.Common.{◌≡◌, ◌≢◌, ℕ, ◌+◌, ◌*◌, ◌≤◌, List, [], ◌∷◌, ◌++◌, length, Ok, Err, refl, ap, inl, inr, arith}
use Rattle.std.specs.Prelude.{◌⊎◌}
use Rattle.std.specs.Prelude.{replicate}
use Rattle.std.proofs.lemmas.List.{length-replicate}
use Rattle.std.proofs.lemmas.Bool.{lt-ltb, le-ltb, eq-eqb, ne_eqb, cases_lt, cases_eq}
use Rattle.ber_tlv.specs.declared.fault.TlvKind.TheVariants.{TagLong, LengthBad, Short}
use Rattle.ber_tlv.specs.Elements.{IsLength}
use Rattle.ber_tlv.specs.Faults.{HasBadForm, IsTooLong}
use Rattle.ber_tlv.specs.Reading.{Read, number_at, any_length_at, length_at}
use Rattle.ber_tlv.proofs.Tags.{Takes, some_bytes}

-- more bytes would make them a length and a value
pub record LacksLength (bytes : List ℕ) : Type 0 where
  pub missing : List ℕ
  pub some_missing : missing ≢ []
  pub len : List ℕ
  pub value : List ℕ
  pub is_length : IsLength len (length value)
  pub whole : bytes ++ missing ≡ len ++ value

-- what reading a length of any size gives
abbrev AnyMeans : List ℕ → Read ℕ → Type 0
AnyMeans bytes (Ok x) = Takes IsLength bytes x.0 x.1
AnyMeans bytes (Err TagLong) = ⊥
AnyMeans bytes (Err LengthBad) = HasBadForm bytes
AnyMeans bytes (Err Short) = LacksLength bytes

abbrev pub LengthMeans : List ℕ → Read ℕ → Type 0
LengthMeans bytes (Ok x) = Takes IsLength bytes x.0 x.1 × (x.0 ≤ 65535)
LengthMeans bytes (Err TagLong) = ⊥
LengthMeans bytes (Err LengthBad) = HasBadForm bytes ⊎ IsTooLong bytes
LengthMeans bytes (Err Short) = LacksLength bytes

pub zeros : ℕ → List ℕ
zeros n = replicate n 0

pub length-zeros : (n : ℕ) → length (zeros n) ≡ n
unfolding zeros
length-zeros n = length-replicate n 0

one_means : (form : ℕ) (rest : List ℕ) → form ≡ 0x81 → AnyMeans (form ∷ rest) (number_at 1 0 rest)
one_means form [] e = record { missing = 0 ∷ []; some_missing = some_bytes 0 []; len = form ∷ 0 ∷ []; value = []; is_length = (e, refl); whole = refl }
one_means form (a ∷ rest) e = record { front = form ∷ a ∷ []; is = (e, omega arith); whole = refl }

two_means : (form : ℕ) (rest : List ℕ) → form ≡ 0x82 → AnyMeans (form ∷ rest) (number_at 2 0 rest)
two_means form [] e = record { missing = 0 ∷ 0 ∷ []; some_missing = some_bytes 0 (0 ∷ []); len = form ∷ 0 ∷ 0 ∷ []; value = []; is_length = (e, refl); whole = refl }
two_means form (a ∷ []) e = record { missing = 0 ∷ zeros (0x100 * a + 0); some_missing = some_bytes 0 (zeros (0x100 * a + 0)); len = form ∷ a ∷ 0 ∷ []; value = zeros (0x100 * a + 0); is_length = (e, length-zeros (0x100 * a + 0)); whole = refl }
two_means form (a ∷ b ∷ rest) e = record { front = form ∷ a ∷ b ∷ []; is = (e, omega arith); whole = refl }

three_means : (form : ℕ) (rest : List ℕ) → form ≡ 0x83 → AnyMeans (form ∷ rest) (number_at 3 0 rest)
three_means form [] e = record { missing = 0 ∷ 0 ∷ 0 ∷ []; some_missing = some_bytes 0 (0 ∷ 0 ∷ []); len = form ∷ 0 ∷ 0 ∷ 0 ∷ []; value = []; is_length = (e, refl); whole = refl }
three_means form (a ∷ []) e = let n = 0x100 * (0x100 * a + 0) + 0 in record { missing = 0 ∷ 0 ∷ zeros n; some_missing = some_bytes 0 (0 ∷ zeros n); len = form ∷ a ∷ 0 ∷ 0 ∷ []; value = zeros n; is_length = (e, length-zeros n); whole = refl }
three_means form (a ∷ b ∷ []) e = let n = 0x100 * (0x100 * a + b) + 0 in record { missing = 0 ∷ zeros n; some_missing = some_bytes 0 (zeros n); len = form ∷ a ∷ b ∷ 0 ∷ []; value = zeros n; is_length = (e, length-zeros n); whole = refl }
three_means form (a ∷ b ∷ c ∷ rest) e = record { front = form ∷ a ∷ b ∷ c ∷ []; is = (e, omega arith); whole = refl }

any_means : (bytes : List ℕ) → AnyMeans bytes (any_length_at bytes)
any_means [] = record { missing = 0 ∷ []; some_missing = some_bytes 0 []; len = 0 ∷ []; value = []; is_length = (omega arith, refl); whole = refl }
any_means (form ∷ rest) =
    elim (cases_lt form 0x80) [
      | inl lt ↦ rw (lt-ltb form 0x80 lt) (record { front = form ∷ []; is = (lt, refl); whole = refl })
      | inr le ↦ rw (le-ltb form 0x80 le) (elim (cases_eq form 0x81) [
        | inl e ↦ rw (eq-eqb form 0x81 e) (one_means form rest e)
        | inr ne1 ↦ rw (ne_eqb form 0x81 ne1) (elim (cases_eq form 0x82) [
          | inl e ↦ rw (eq-eqb form 0x82 e) (two_means form rest e)
          | inr ne2 ↦ rw (ne_eqb form 0x82 ne2) (elim (cases_eq form 0x83) [
            | inl e ↦ rw (eq-eqb form 0x83 e) (three_means form rest e)
            | inr ne3 ↦ rw (ne_eqb form 0x83 ne3) (elim (cases_eq form 0x80) [ inl e ↦ inl e | inr ne0 ↦ inr (omega arith) ])
          ])
        ])
      ])
    ]

pub any_again : (len : List ℕ) (n : ℕ) (rest : List ℕ) → IsLength len n → any_length_at (len ++ rest) ≡ Ok (n, rest)
any_again [] n rest h = absurd h
any_again (a ∷ []) n rest h = rw (lt-ltb a 0x80 h.0, h.1) refl
any_again (form ∷ a ∷ []) n rest h =
    let e : 0x100 * 0 + a ≡ n = omega (arith, h.1) in
    rw h.0 (ap (λ (k : ℕ). Ok (k, rest)) e)
any_again (form ∷ a ∷ b ∷ []) n rest h =
    let e : 0x100 * (0x100 * 0 + a) + b ≡ n = omega (arith, h.1) in
    rw h.0 (ap (λ (k : ℕ). Ok (k, rest)) e)
any_again (form ∷ a ∷ b ∷ c ∷ []) n rest h =
    let e : 0x100 * (0x100 * (0x100 * 0 + a) + b) + c ≡ n = omega (arith, h.1) in
    rw h.0 (ap (λ (k : ℕ). Ok (k, rest)) e)
any_again (form ∷ a ∷ b ∷ c ∷ d ∷ more) n rest h = absurd h

bad_form_again : (bytes : List ℕ) → HasBadForm bytes → any_length_at bytes ≡ Err LengthBad
bad_form_again [] h = absurd h
bad_form_again (form ∷ rest) h =
    let ge : 0x80 ≤ form = elim h [ inl e ↦ omega arith | inr over ↦ omega arith ] in
    let ne1 : form ≢ 0x81 = elim h [ inl e ↦ omega arith | inr over ↦ omega arith ] in
    let ne2 : form ≢ 0x82 = elim h [ inl e ↦ omega arith | inr over ↦ omega arith ] in
    let ne3 : form ≢ 0x83 = elim h [ inl e ↦ omega arith | inr over ↦ omega arith ] in
    rw (le-ltb form 0x80 ge, ne_eqb form 0x81 ne1, ne_eqb form 0x82 ne2, ne_eqb form 0x83 ne3) refl

-- the limit, behind what was read
limit_means : (bytes : List ℕ) (read : Read ℕ) → AnyMeans bytes read → any_length_at bytes ≡ read → LengthMeans bytes (length_at bytes)
unfolding length_at
limit_means bytes (Ok x) means e =
    rw e (elim (cases_lt 65535 x.0) [
      | inl over ↦ rw (lt-ltb 65535 x.0 over) (inr (record { len = means.front; number = x.0; rest = x.1; is_length = means.is; over = over; whole = means.whole }))
      | inr le ↦ rw (le-ltb 65535 x.0 le) (means, le)
    ])
limit_means bytes (Err TagLong) means e = absurd means
limit_means bytes (Err LengthBad) means e = rw e (inl means)
limit_means bytes (Err Short) means e = rw e means

pub length_means : (bytes : List ℕ) → LengthMeans bytes (length_at bytes)
length_means bytes = limit_means bytes (any_length_at bytes) (any_means bytes) refl

pub length_again : (len : List ℕ) (n : ℕ) (rest : List ℕ) → IsLength len n → n ≤ 65535 → length_at (len ++ rest) ≡ Ok (n, rest)
unfolding length_at
length_again len n rest h le = rw (any_again len n rest h, le-ltb 65535 n le) refl

pub bad_length_again : (bytes : List ℕ) → HasBadForm bytes ⊎ IsTooLong bytes → length_at bytes ≡ Err LengthBad
unfolding length_at
bad_length_again bytes (inl form) = rw (bad_form_again bytes form) refl
bad_length_again bytes (inr long) = rw (long.whole, any_again long.len long.number long.rest long.is_length, lt-ltb 65535 long.number long.over) refl
