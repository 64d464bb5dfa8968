-- When bytes are no connection description.
use Rattle.std.proofs.Common.{◌≡◌, ℕ, ◌<◌, true, Bor, List, [], ◌∷◌, Result, Ok, Err, sym, subst, arith}
use Rattle.std.specs.Prelude.{IfOk}
use Rattle.std.specs.Str.{IsUtf8}
use Rattle.std.proofs.lemmas.Str.{IsUtf8-from_ascii}
use Rattle.std.proofs.lemmas.Str.Ascii.{IsAscii-from_all}
use Rattle.std.proofs.lemmas.Bool.Decides.{nat_tests}
use Rattle.piv_objects.specs.declared.malformed.Malformed.{Malformed}
use Rattle.ber_tlv.specs.Elements.{element, AreElements}
use Rattle.piv_objects.specs.Forms.{IsPartOf}
use Rattle.piv_objects.specs.Connections.{is_name_byte, IsName, IsConnectionDescription}
use Rattle.piv_objects.proofs.Begins.{only_one, part_only, part_within}

pub no_outer : (bytes : List ℕ) → ((value : List ℕ) → ¬ AreElements bytes (element 0x7F21 value ∷ [])) → (name : List ℕ) → ¬ IsConnectionDescription bytes name
no_outer bytes none name h = none h.inside h.template

pub no_reader : (bytes inside : List ℕ) → AreElements bytes (element 0x7F21 inside ∷ []) → ((value : List ℕ) → ¬ AreElements inside (element 0x81 value ∷ [])) → (name : List ℕ) → ¬ IsConnectionDescription bytes name
no_reader bytes inside is none name h =
    none name (subst (λ (x : List ℕ). AreElements x (element 0x81 name ∷ [])) (only_one bytes 0x7F21 h.inside inside h.template is) h.reader)

pub bad_name : (bytes inside value : List ℕ) → AreElements bytes (element 0x7F21 inside ∷ []) → AreElements inside (element 0x81 value ∷ []) → ¬ IsName value → (name : List ℕ) → ¬ IsConnectionDescription bytes name
bad_name bytes inside value is reader none name h =
    let same = only_one bytes 0x7F21 h.inside inside h.template is in
    let there = subst (λ (x : List ℕ). AreElements x (element 0x81 name ∷ [])) same h.reader in
    none (subst IsName (only_one inside 0x81 name value there reader) h.is_name)

pub name_stands : (bytes inside name : List ℕ) → AreElements bytes (element 0x7F21 inside ∷ []) → AreElements inside (element 0x81 name ∷ []) → IsPartOf bytes name
name_stands bytes inside name is reader = part_within bytes inside name (part_only bytes 0x7F21 inside is) (part_only inside 0x81 name reader)

name_byte_ascii : (b : ℕ) → is_name_byte b ≡ true → b < 128
name_byte_ascii b h = grind (arith, nat_tests)

pub name_utf8 : (name : List ℕ) → IsName name → IsUtf8 name
name_utf8 name h = IsUtf8-from_ascii name (IsAscii-from_all name (λ k d lt. name_byte_ascii _ (h.each k d lt)))

pub if_name_stands : (bytes inside value : List ℕ) (r : Result (Bor (List ℕ)) Malformed) → AreElements bytes (element 0x7F21 inside ∷ []) → AreElements inside (element 0x81 value ∷ []) → IfOk r (λ name. (name.now ≡ value) × IsName value) → IfOk r (λ name. IsPartOf bytes name.now)
if_name_stands bytes inside value (Ok name) is reader h = subst (IsPartOf bytes) (sym h.0) (name_stands bytes inside value is reader)
if_name_stands bytes inside value (Err e) is reader h = tt
