-- A reference that is written whole.
use Rattle.std.proofs.Common.{◌≡◌, ◌⊎◌, inl, inr, ℕ, ◌+◌, ◌≤◌, ◌==◌, if◌then◌else◌, List, length, get_or, set, Some, None, ap, sym, ◌∙◌, arith}
use Rattle.std.proofs.lemmas.List.{length-set, get_or-set_same, get_or-set_other}
use Rattle.nvm_device.specs.Bytes.{bytes_at, overwrite}
use Rattle.nvm_device.proofs.Row.{get_or-overwrite_below, bytes_at-overwrite}
use Rattle.piv_model.specs.Memory.{Memory, Reference}
use Rattle.card_image.specs.Header.{reference_in, global_in, with_references, with_global, full_global}
use Rattle.card_image.proofs.Counters.{reference_apart, reference_other}

-- another reference with a full counter
module _ (l secret : List ℕ) (at limit : ℕ) (size : length l ≡ 30) (within : at + 10 ≤ 30) (eight : length secret ≡ 8) where
  one : List ℕ
  one = set l at limit

  two : List ℕ
  two = set one (at + 1) limit

  size_one : length one ≡ 30
  unfolding one
  size_one = length-set l at limit ∙ size

  size_two : length two ≡ 30
  unfolding two
  size_two = length-set one (at + 1) limit ∙ size_one

  pub reference_here : reference_in (overwrite (set (set l at limit) (at + 1) limit) (at + 2) secret) at
      ≡ record { limit = limit; tries = limit; secret = secret }
  unfolding one two
  reference_here =
      let wide = size_two in
      let narrow = size_one in
      let fits : at + 2 + length secret ≤ length two = omega (arith, wide, eight, within) in
      let limit_is : get_or (overwrite two (at + 2) secret) at 0 ≡ limit =
      get_or-overwrite_below two (at + 2) secret at 0 (omega arith) fits
      ∙ get_or-set_other one (at + 1) at limit 0 (omega arith) ∙ get_or-set_same l at limit 0 (omega (arith, size, within)) in
      let tries_is : get_or (overwrite two (at + 2) secret) (at + 1) 0 ≡ limit =
      get_or-overwrite_below two (at + 2) secret (at + 1) 0 (omega arith) fits
      ∙ get_or-set_same one (at + 1) limit 0 (omega (arith, narrow, within)) in
      let secret_is : bytes_at (overwrite two (at + 2) secret) (at + 2) 8 ≡ secret =
      ap (bytes_at (overwrite two (at + 2) secret) (at + 2)) (sym eight) ∙ bytes_at-overwrite two (at + 2) secret fits in
      λ i. record { limit = limit_is i; tries = tries_is i; secret = secret_is i }

  pub reference_beside : (k : ℕ) → (k + 10 ≤ at) ⊎ ((at + 10 ≤ k) × (k + 10 ≤ 30))
      → reference_in (overwrite (set (set l at limit) (at + 1) limit) (at + 2) secret) k ≡ reference_in l k
  unfolding one two
  reference_beside k (inl before) =
      let wide = size_two in
      reference_apart two (at + 2) k secret (inr (omega (arith, before))) (omega (arith, wide, before, within)) (omega (arith, wide, within, eight))
      ∙ reference_other one (at + 1) k limit (inr (omega (arith, before))) ∙ reference_other l at k limit (inr before)
  reference_beside k (inr after) =
      let wide = size_two in
      let above = after.0 in
      let inside = after.1 in
      reference_apart two (at + 2) k secret (inl (omega (arith, above, eight))) (omega (arith, wide, inside)) (omega (arith, wide, within, eight))
      ∙ reference_other one (at + 1) k limit (inl (omega (arith, above))) ∙ reference_other l at k limit (inl (omega (arith, above)))

pub global_added : (old new secret : List ℕ) (limit : ℕ) (m : Memory)
    → reference_in new 20 ≡ record { limit = limit; tries = limit; secret = secret }
    → ((k : ℕ) → (k + 10 ≤ 20) ⊎ ((20 + 10 ≤ k) × (k + 10 ≤ 30)) → reference_in new k ≡ reference_in old k)
    → with_references old m ≡ m → with_references new m ≡ with_global (full_global limit secret) m
global_added old new secret limit m here others spells =
    let pin = others 0 (inl (omega arith)) in
    let puk = others 10 (inl (omega arith)) in
    let limit_is = ap (λ (r : Reference). r.limit) here in
    (λ i. record m { pin = pin i; puk = puk i; global = (if limit_is i == 0 then None else Some (here i)) })
    ∙ ap (λ (n : Memory). with_global (full_global limit secret) n) spells

-- a Global PIN by its ten bytes
pub global_is : (bytes : List ℕ) (limit : ℕ) (secret : List ℕ)
    → reference_in bytes 20 ≡ record { limit = limit; tries = limit; secret = secret } → global_in bytes ≡ full_global limit secret
global_is bytes limit secret here =
    let limit_is = ap (λ (r : Reference). r.limit) here in
    λ i. if limit_is i == 0 then None else Some (here i)
