-- What the header of a start spells.
use Rattle.std.proofs.Common.{◌≡◌, ℕ, ◌+◌, ◌/◌, ◌%◌, ◌≤◌, ◌<◌, ◌==◌, Bool, true, false, List, [], ◌∷◌, length, take, get_or, if◌then◌else◌, None, refl, ap, sym, ◌∙◌, arith, length-take}
use Rattle.std.proofs.lemmas.List.{take_all}
use Rattle.nvm_device.specs.Bytes.{bytes_at}
use Rattle.nvm_device.proofs.Row.{get_or-bytes_at, get_or-part, bytes_at-bytes_at, bytes_at-front}
use Rattle.nvm_slots.specs.Slots.{slot_of, record_of}
use Rattle.nvm_slots.specs.Laying.{Holds}
use Rattle.piv_model.specs.declared.start.Start.{Start}
use Rattle.piv_model.specs.Memory.{Memory}
use Rattle.piv_model.specs.Starts.{memory_of_start}
use Rattle.piv_model.specs.Sound.{key_size}
use Rattle.card_image.specs.Header.{is_first, references_twin, padded, header_by, header_of, key_in, number_in, memory_in, with_references}
use Rattle.card_image.specs.Images.{budget_of, layout_of}
use Rattle.card_image.specs.Laying.{header_pieces, HasLengths, SpellsReferences}
use Rattle.card_image.proofs.Heads.{written_of, written_spells, front_of}
use Rattle.card_image.proofs.Decided.{key_size_few}

-- the version byte of a layout
abbrev pub version_of : Bool → ℕ
version_of first = if first then 1 else 2

-- what stands in the header of a start
pub record HeaderLaid (first : Bool) (start : Start) (references row : List ℕ) : Type 0 where
  pub version : bytes_at row 4 1 ≡ version_of first ∷ []
  pub budget : bytes_at row 6 2 ≡ start.budget / 256 ∷ start.budget % 256 ∷ []
  pub selector : bytes_at row (references_twin first).selector 1 ≡ 0 ∷ []
  pub slot : bytes_at row (slot_of (references_twin first) 0) (references_twin first).size ≡ written_of first references
  pub admin_algorithm : bytes_at row 49 1 ≡ start.admin.algorithm ∷ []
  pub admin : bytes_at row 50 32 ≡ start.admin.bytes
  pub card_algorithm : bytes_at row 82 1 ≡ start.card_auth.algorithm ∷ []
  pub card_auth : bytes_at row 83 32 ≡ start.card_auth.bytes

sized : (row : List ℕ) (at n : ℕ) (bytes : List ℕ) → length bytes ≡ n → bytes_at row at (length bytes) ≡ bytes
    → bytes_at row at n ≡ bytes
sized row at n bytes size is = ap (bytes_at row at) (sym size) ∙ is

pub header_laid : (first : Bool) (start : Start) (references row : List ℕ) → HasLengths start → length references ≡ 30
    → Holds (header_pieces first start references) row → HeaderLaid first start references row
header_laid true start references row lengths thirty holds = record {
  card_auth = sized row 83 32 start.card_auth.bytes lengths.card_auth holds.0;
  card_algorithm = holds.1.0;
  admin = sized row 50 32 start.admin.bytes lengths.admin holds.1.1.0;
  admin_algorithm = holds.1.1.1.0;
  slot = sized row 9 20 (take 20 references) (omega (arith, thirty, length-take 20 references)) holds.1.1.1.1.0;
  selector = holds.1.1.1.1.1.0;
  budget = holds.1.1.1.1.1.1.0;
  version = holds.1.1.1.1.1.1.1.0;
}
header_laid false start references row lengths thirty holds = record {
  slot = sized row 116 30 references thirty holds.0 ∙ sym (take_whole references thirty);
  selector = holds.1.0;
  card_auth = sized row 83 32 start.card_auth.bytes lengths.card_auth holds.1.1.0;
  card_algorithm = holds.1.1.1.0;
  admin = sized row 50 32 start.admin.bytes lengths.admin holds.1.1.1.1.0;
  admin_algorithm = holds.1.1.1.1.1.0;
  budget = holds.1.1.1.1.1.1.0;
  version = holds.1.1.1.1.1.1.1.0;
}
  where
    take_whole : (l : List ℕ) → length l ≡ 30 → take 30 l ≡ l
    take_whole l size = take_all 30 l (omega (arith, size))

-- a row that is the same behind the mark
pub laid_same : (first : Bool) (start : Start) (references old new : List ℕ)
    → ((at n : ℕ) → 4 ≤ at → at + n ≤ 256 → bytes_at new at n ≡ bytes_at old at n)
    → HeaderLaid first start references old → HeaderLaid first start references new
laid_same first start references old new same laid = record {
  version = same 4 1 (omega arith) (omega arith) ∙ laid.version;
  budget = same 6 2 (omega arith) (omega arith) ∙ laid.budget;
  selector = selector_same first ∙ laid.selector;
  slot = slot_same first ∙ laid.slot;
  admin_algorithm = same 49 1 (omega arith) (omega arith) ∙ laid.admin_algorithm;
  admin = same 50 32 (omega arith) (omega arith) ∙ laid.admin;
  card_algorithm = same 82 1 (omega arith) (omega arith) ∙ laid.card_algorithm;
  card_auth = same 83 32 (omega arith) (omega arith) ∙ laid.card_auth;
}
  where
    selector_same : (first : Bool) → bytes_at new (references_twin first).selector 1 ≡ bytes_at old (references_twin first).selector 1
    selector_same true = same 8 1 (omega arith) (omega arith)
    selector_same false = same 115 1 (omega arith) (omega arith)

    slot_same : (first : Bool)
        → bytes_at new (slot_of (references_twin first) 0) (references_twin first).size
        ≡ bytes_at old (slot_of (references_twin first) 0) (references_twin first).size
    slot_same true = same 9 20 (omega arith) (omega arith)
    slot_same false = same 116 30 (omega arith) (omega arith)

byte : (row : List ℕ) (at : ℕ) (x : ℕ) (more : List ℕ) (k : ℕ) → k < length (x ∷ more) → bytes_at row at (length (x ∷ more)) ≡ x ∷ more
    → get_or row (at + k) 0 ≡ get_or (x ∷ more) k 0
byte row at x more k below is = get_or-part row (x ∷ more) at k below is

module _ (first : Bool) (start : Start) (references row : List ℕ) (lengths : HasLengths start) (laid : HeaderLaid first start references row) where
  front_byte : (k : ℕ) → k < 8 → get_or (bytes_at row 0 8) k 0 ≡ get_or row k 0
  front_byte k below = let here : 0 + k ≡ k = omega arith in get_or-bytes_at row 0 8 k 0 below ∙ ap (λ j. get_or row j 0) here

  version_is : get_or (bytes_at row 0 8) 4 0 ≡ version_of first
  version_is =
      front_byte 4 (omega arith) ∙ ap (λ k. get_or row k 0) (omega arith)
      ∙ byte row 4 (version_of first) [] 0 (omega arith) laid.version

  first_is : is_first (bytes_at row 0 8) ≡ first
  first_is = ap (λ v. v % 2 == 1) version_is ∙ by_first first
    where
      by_first : (first : Bool) → (version_of first % 2 == 1) ≡ first
      by_first true = refl
      by_first false = refl

  budget_is : number_in (bytes_at row 0 8) 6 ≡ start.budget
  budget_is =
      let high = front_byte 6 (omega arith) ∙ ap (λ k. get_or row k 0) (omega arith)
      ∙ byte row 6 (start.budget / 256) (start.budget % 256 ∷ []) 0 (omega arith) laid.budget in
      let low = front_byte 7 (omega arith) ∙ ap (λ k. get_or row k 0) (omega arith)
      ∙ byte row 6 (start.budget / 256) (start.budget % 256 ∷ []) 1 (omega arith) laid.budget in
      omega (arith, high, low)

  record_is : record_of (references_twin first) row ≡ written_of first references
  record_is =
      let selector = ap (λ k. get_or row k 0) (omega arith)
      ∙ byte row (references_twin first).selector 0 [] 0 (omega arith) laid.selector in
      ap (λ b. bytes_at row (slot_of (references_twin first) (b % 2)) (references_twin first).size) selector ∙ laid.slot

  key_is : (at algorithm : ℕ) (bytes : List ℕ) → at + 33 ≤ 66 → length bytes ≡ 32
      → bytes_at row (49 + at) 1 ≡ algorithm ∷ [] → bytes_at row (50 + at) 32 ≡ bytes
      → key_in (bytes_at row 49 66) at ≡ record { algorithm = algorithm; key = take (key_size algorithm) bytes }
  key_is at algorithm bytes within size a k =
      let keys = bytes_at row 49 66 in
      let alg : get_or keys at 0 ≡ algorithm = get_or-bytes_at row 49 66 at 0 (omega arith)
      ∙ ap (λ j. get_or row j 0) (omega arith) ∙ byte row (49 + at) algorithm [] 0 (omega arith) a in
      let few = key_size_few algorithm in
      let e : 49 + (at + 1) ≡ 50 + at = omega arith in
      let there : bytes_at row (50 + at) (length bytes) ≡ bytes = ap (bytes_at row (50 + at)) size ∙ k in
      let key : bytes_at keys (at + 1) (key_size algorithm) ≡ take (key_size algorithm) bytes =
      bytes_at-bytes_at row 49 66 (at + 1) (key_size algorithm) (omega (arith, few))
      ∙ ap (λ p. bytes_at row p (key_size algorithm)) e
      ∙ bytes_at-front row bytes (50 + at) (key_size algorithm) (omega (arith, few, size)) there in
      λ i. record { algorithm = alg i; key = (ap (λ a. bytes_at keys (at + 1) (key_size a)) alg ∙ key) i }

  pub header_memory : SpellsReferences start references → (first ≡ true → (memory_of_start start).global ≡ None)
      → (objects : List (List ℕ)) → memory_in (header_of row) objects ≡ record (memory_of_start start) { objects = objects }
  unfolding header_of
  header_memory spells none objects =
      let admin = key_is 0 start.admin.algorithm start.admin.bytes (omega arith) lengths.admin laid.admin_algorithm laid.admin in
      let card_auth = key_is 33 start.card_auth.algorithm start.card_auth.bytes (omega arith) lengths.card_auth laid.card_algorithm laid.card_auth in
      let pin = spells.pin in
      let puk = spells.puk in
      let global = spells.global in
      let base : Memory = memory_in (header_by first row) objects in
      ap (λ b. memory_in (header_by b row) objects) first_is
      ∙ ap (λ (r : List ℕ). with_references (padded first r) base) record_is
      ∙ written_spells first references base spells.size (λ is. spells.global ∙ none is)
      ∙ (λ i. record { pin = pin i; puk = puk i; global = global i; admin = admin i; card_auth = card_auth i; budget = budget_is i; objects = objects })

  pub header_budget : budget_of row ≡ start.budget
  unfolding header_of
  header_budget = budget_is

  pub header_layout : layout_of row ≡ version_of first
  header_layout = ap (λ b. if b then 1 else 2) (front_of row ∙ first_is)
