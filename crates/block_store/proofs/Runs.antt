-- Runs of blocks.
use Rattle.std.proofs.Common.{◌≡◌, ◌⊎◌, inl, inr, ℕ, zero, suc, ◌+◌, ◌-◌, ◌*◌, ◌/◌, ◌%◌, ◌<◌, ◌≤◌, ◌==◌, true, false, List, [], ◌∷◌, length, map, get_or, sum_by, IsTrue, refl, ap, sym, ◌∙◌, subst, arith}
use Rattle.std.specs.List.{range_with_len}
use Rattle.std.proofs.lemmas.Bool.{cases_eq, cases_lt}
use Rattle.std.proofs.lemmas.Bool.Decides.{nat_tests}
use Rattle.std.proofs.lemmas.List.{same_lists}
use Rattle.std.proofs.lemmas.List.FromFn.{length-range_with_len, get_or-range_with_len, length-map-range_with_len, get_or-map-range_with_len, sum_by-map-range_with_len_more}
use Rattle.nvm_device.specs.Bytes.{bytes_at}
use Rattle.nvm_device.specs.Device.{DeviceState}
use Rattle.nvm_device.proofs.Row.{get_or-part}
use Rattle.nvm_slots.specs.Slots.{slot_of}
use Rattle.nvm_slots.specs.Laying.{Piece, Holds, Laid, Laying, LaysMore}
use Rattle.nvm_slots.proofs.LayingLaws.{laying_later}
use Rattle.power_loss.proofs.EachLaws.{told_all}
use Rattle.piv_model.specs.Memory.{blocks, blocks_used}
use Rattle.piv_model.specs.Starts.{value_at}
use Rattle.card_image.specs.Header.{number_in}
use Rattle.card_image.specs.Laying.{objects_area, values, LaidObjects, Done}
use Rattle.nvm_slots.proofs.KeptLaws.{leaves_implies}
use Rattle.block_store.specs.Blocks.{directory_of, length_in, first_in, next_in, chain, chain_of, times, reads_below, are_chains, place_of_block, byte_of, object_at, objects_of, directory_twin, block_form}
use Rattle.block_store.specs.Writes.{with_number}
use Rattle.block_store.specs.Runs.{run, IsFresh, run_pieces}
use Rattle.block_store.proofs.Lists.{AllOf, all_from}
use Rattle.block_store.proofs.Numbers.{length-with_number, number_there, number_kept}
use Rattle.block_store.proofs.Marks.{reads_suc, reads_none}
use Rattle.block_store.proofs.Chains.{are_chains_by}

-- ---- the run

pub run_none : (pairs : List (ℕ × List ℕ)) → run pairs 0 ≡ 0
unfolding run
run_none pairs = refl

pub run_more : (pairs : List (ℕ × List ℕ)) (k : ℕ) → run pairs (k + 1) ≡ run pairs k + blocks (length (value_at pairs k))
unfolding run
run_more pairs k = ap (run pairs) (let e : k + 1 ≡ suc k = omega arith in e)

pub run_rises : (pairs : List (ℕ × List ℕ)) (k m : ℕ) → run pairs k ≤ run pairs (k + m)
unfolding run
run_rises pairs k zero = let e : run pairs (k + 0) ≡ run pairs k = ap (run pairs) (omega arith) in omega (arith, e)
run_rises pairs k (suc m) =
    let before = run_rises pairs k m in
    let one : k + suc m ≡ suc (k + m) = omega arith in
    let e = ap (run pairs) one in
    omega (arith, before, e)

pub run_within : (pairs : List (ℕ × List ℕ)) (k : ℕ) → k < 33 → run pairs k + blocks (length (value_at pairs k)) ≤ run pairs 33
run_within pairs k low =
    let more = run_more pairs k in
    let rises = run_rises pairs (k + 1) (33 - (k + 1)) in
    let e : run pairs (k + 1 + (33 - (k + 1))) ≡ run pairs 33 = ap (run pairs) (omega arith) in
    omega (arith, more, rises, e)

-- ---- the directory

pub next_more : (d : List ℕ) (k : ℕ) → k < 2047 → length d ≡ 4228 → ((b : ℕ) → b < k → next_in d b ≡ b + 1) → (b : ℕ) → b < k + 1 → next_in (with_number d (132 + 2 * k) (k + 1)) b ≡ b + 1
next_more d k low size before b below = elim (cases_eq b k) [
  | inl same ↦ ap (λ j. next_in (with_number d (132 + 2 * k) (k + 1)) j) same ∙ number_there d (132 + 2 * k) (k + 1) (omega (arith, size, low)) ∙ ap (λ j. j + 1) (sym same)
  | inr differs ↦ number_kept d (132 + 2 * k) (k + 1) (132 + 2 * b) (inl (omega arith)) ∙ before b (omega arith)
]

pub fresh_none : (pairs : List (ℕ × List ℕ)) (d : List ℕ) → length d ≡ 4228 → ((b : ℕ) → b < 2047 → next_in d b ≡ b + 1) → IsFresh pairs 0 d
fresh_none pairs d size nexts = record { size = size; nexts = nexts; lengths = λ k low. absurd (omega arith); firsts = λ k low. absurd (omega arith) }

pub fresh_more : (pairs : List (ℕ × List ℕ)) (k n first : ℕ) (d : List ℕ) → k < 33 → n ≡ length (value_at pairs k) → first ≡ run pairs k → IsFresh pairs k d → IsFresh pairs (k + 1) (with_number (with_number d (4 * k) n) (4 * k + 2) first)
fresh_more pairs k n first d low is_n is_first fresh =
    let one = with_number d (4 * k) n in
    let size = fresh.size in
    let size_one = length-with_number d (4 * k) n in
    let apart : (at : ℕ) → (at + 1 < 4 * k) ⊎ (4 * k + 3 < at) → number_in (with_number one (4 * k + 2) first) at ≡ number_in d at = λ at a. elim a [
      | inl before ↦ number_kept one (4 * k + 2) first at (inl (omega arith)) ∙ number_kept d (4 * k) n at (inl before)
      | inr after ↦ number_kept one (4 * k + 2) first at (inr (omega arith)) ∙ number_kept d (4 * k) n at (inr (omega arith))
    ] in
    record {
      size = length-with_number one (4 * k + 2) first ∙ size_one ∙ size;
      nexts = λ b small. apart (132 + 2 * b) (inr (omega arith)) ∙ fresh.nexts b small;
      lengths = λ j below. elim (cases_eq j k) [
        | inl same ↦ ap (length_in (with_number one (4 * k + 2) first)) same ∙ number_kept one (4 * k + 2) first (4 * k) (inl (omega arith)) ∙ number_there d (4 * k) n (omega (arith, size, low)) ∙ is_n ∙ ap (λ i. length (value_at pairs i)) (sym same)
        | inr differs ↦ apart (4 * j) (inl (omega arith)) ∙ fresh.lengths j (omega arith)
      ];
      firsts = λ j below. elim (cases_eq j k) [
        | inl same ↦ ap (first_in (with_number one (4 * k + 2) first)) same ∙ number_there one (4 * k + 2) first (omega (arith, size, size_one, low)) ∙ is_first ∙ ap (run pairs) (sym same)
        | inr differs ↦ apart (4 * j + 2) (inl (omega arith)) ∙ fresh.firsts j (omega arith)
      ];
    }

-- a chain of blocks of which each names the one behind it
run_chain : (d : List ℕ) (n b : ℕ) → ((b : ℕ) → b < 2047 → next_in d b ≡ b + 1) → b + n ≤ 2048 → chain d n b ≡ range_with_len b n
run_chain d zero b nexts within = refl
run_chain d (suc zero) b nexts within = refl
run_chain d (suc (suc n)) b nexts within = ap (λ (l : List ℕ). b ∷ l) (ap (chain d (suc n)) (nexts b (omega arith)) ∙ run_chain d (suc n) (b + 1) nexts (omega arith))

pub fresh_chain : (pairs : List (ℕ × List ℕ)) (d : List ℕ) (k : ℕ) → k < 33 → IsFresh pairs 33 d → run pairs 33 ≤ 2048 → chain_of d k ≡ range_with_len (run pairs k) (blocks (length (value_at pairs k)))
unfolding chain_of
fresh_chain pairs d k low fresh room =
    let within = run_within pairs k low in
    (λ i. chain d (blocks (fresh.lengths k low i)) (fresh.firsts k low i)) ∙ run_chain d (blocks (length (value_at pairs k))) (run pairs k) fresh.nexts (omega (arith, within, room))

-- how often a block stands in a run
times_below : (b a n : ℕ) → b < a → times b (range_with_len a n) ≡ 0
times_below b a zero low = refl
times_below b a (suc n) low = let test : (a == b) ≡ false = grind (arith, nat_tests) in rw test (times_below b (a + 1) n (omega arith))

times_run : (b a n : ℕ) → times b (range_with_len a n) ≤ 1
times_run b a zero = omega arith
times_run b a (suc n) = elim (cases_eq a b) [
  | inl same ↦ (let test : (a == b) ≡ true = grind (arith, nat_tests) in let none = times_below b (a + 1) n (omega arith) in rw test (omega (arith, none)))
  | inr differs ↦ (let test : (a == b) ≡ false = grind (arith, nat_tests) in rw test (times_run b (a + 1) n))
]

times_above : (b a n : ℕ) → a + n ≤ b → times b (range_with_len a n) ≡ 0
times_above b a zero high = refl
times_above b a (suc n) high = let test : (a == b) ≡ false = grind (arith, nat_tests) in rw test (times_above b (a + 1) n (omega arith))

module _ (pairs : List (ℕ × List ℕ)) (d : List ℕ) (fresh : IsFresh pairs 33 d) (room : run pairs 33 ≤ 2048) where
  -- a block is read once below the run, and not at all from there on
  reads_run : (k b : ℕ) → k ≤ 33 → (reads_below k d b ≤ 1) × (run pairs k ≤ b → reads_below k d b ≡ 0)
  reads_run zero b le = let none = reads_none d b in (omega (arith, none), λ high. none)
  reads_run (suc k) b le =
      let before = reads_run k b (omega arith) in
      let more = reads_suc d k b in
      let chain_k = ap (times b) (fresh_chain pairs d k (omega arith) fresh room) in
      let next = run_more pairs k in
      let e : run pairs (suc k) ≡ run pairs (k + 1) = ap (run pairs) (omega arith) in
      let n = blocks (length (value_at pairs k)) in
      elim (cases_lt b (run pairs k)) [
        | inl lower ↦ (let none = times_below b (run pairs k) n lower in let one = before.0 in (omega (arith, one, more, chain_k, none), λ high. absurd (omega (arith, high, lower, e, next))))
        | inr higher ↦ (let zero_before = before.1 (omega arith) in let one = times_run b (run pairs k) n in
            (omega (arith, zero_before, more, chain_k, one), λ high. let none = times_above b (run pairs k) n (omega (arith, high, e, next)) in omega (arith, zero_before, more, chain_k, none)))
      ]

  pub fresh_chains : (budget : ℕ) → ((k : ℕ) → k < 33 → length (value_at pairs k) ≤ 16384) → run pairs 33 ≤ budget → IsTrue (are_chains budget d)
  fresh_chains budget short fits = are_chains_by budget d (record {
    short = λ k low. let s = short k low in let e = fresh.lengths k low in omega (arith, s, e);
    below = λ k low. subst (λ (xs : List ℕ). AllOf (λ b. b < budget) xs) (sym (fresh_chain pairs d k low fresh room)) (all_from (λ b. b < budget) (range_with_len (run pairs k) (blocks (length (value_at pairs k)))) (λ i below.
        let size = length-range_with_len (run pairs k) (blocks (length (value_at pairs k))) in
        let here : i < blocks (length (value_at pairs k)) = omega (arith, size, below) in
        let is = get_or-range_with_len (run pairs k) (blocks (length (value_at pairs k))) i 0 here in
        let within = run_within pairs k low in
        omega (arith, is, here, within, fits)));
    once = λ b low. (reads_run 33 b (omega arith)).0;
  })

  -- the value of a run
  pub fresh_object : (row : List ℕ) (k : ℕ) → k < 33 → bytes_at row (place_of_block (run pairs k)) (length (value_at pairs k)) ≡ value_at pairs k → object_at row d k ≡ value_at pairs k
  unfolding object_at
  fresh_object row k low holds =
      let v = value_at pairs k in
      let n = blocks (length v) in
      (λ i. map (byte_of row (fresh_chain pairs d k low fresh room i)) (range_with_len 0 (fresh.lengths k low i)))
      ∙ (let one = length-map-range_with_len (byte_of row (range_with_len (run pairs k) n)) 0 (length v) in
      same_lists _ _ one (λ i e h.
      let here : i < length v = omega (arith, one, h) in
      let block : i / 64 < n = omega arith in
      let is = get_or-range_with_len (run pairs k) n (i / 64) 0 block in
      let at : place_of_block (run pairs k + i / 64) + i % 64 ≡ place_of_block (run pairs k) + i = omega arith in
      get_or-map-range_with_len (byte_of row (range_with_len (run pairs k) n)) 0 (length v) i i e here (omega arith)
      ∙ ap (λ b. get_or row (place_of_block b + i % 64) 0) is ∙ ap (λ p. get_or row p 0) at ∙ get_or-part row v (place_of_block (run pairs k)) i here holds ∙ any_default v i e here))
    where
      any_default : (v : List ℕ) (i d : ℕ) → i < length v → get_or v i 0 ≡ get_or v i d
      any_default [] i d below = absurd (omega arith)
      any_default (x ∷ v) zero d below = refl
      any_default (x ∷ v) (suc i) d below = any_default v i d (omega arith)

-- ---- pieces

pub pieces_none : (pairs : List (ℕ × List ℕ)) (pieces : List Piece) → run_pieces pairs pieces 0 ≡ pieces
unfolding run_pieces
pieces_none pairs pieces = refl

pub pieces_more : (pairs : List (ℕ × List ℕ)) (pieces : List Piece) (k : ℕ) → run_pieces pairs pieces (k + 1) ≡ (place_of_block (run pairs k), value_at pairs k) ∷ run_pieces pairs pieces k
unfolding run_pieces
pieces_more pairs pieces k = ap (run_pieces pairs pieces) (let e : k + 1 ≡ suc k = omega arith in e)

pub piece_holds : (pairs : List (ℕ × List ℕ)) (pieces : List Piece) (row : List ℕ) (n k : ℕ) → k < n → Holds (run_pieces pairs pieces n) row → bytes_at row (place_of_block (run pairs k)) (length (value_at pairs k)) ≡ value_at pairs k
unfolding run_pieces
piece_holds pairs pieces row zero k below holds = absurd (omega arith)
piece_holds pairs pieces row (suc n) k below holds = elim (cases_eq k n) [
  | inl same ↦ subst (λ j. bytes_at row (place_of_block (run pairs j)) (length (value_at pairs j)) ≡ value_at pairs j) (sym same) holds.0
  | inr differs ↦ piece_holds pairs pieces row n k (omega arith) holds.1
]

pub others_hold : (pairs : List (ℕ × List ℕ)) (pieces : List Piece) (row : List ℕ) (n : ℕ) → Holds (run_pieces pairs pieces n) row → Holds pieces row
unfolding run_pieces
others_hold pairs pieces row zero holds = holds
others_hold pairs pieces row (suc n) holds = others_hold pairs pieces row n holds.1

-- no byte is laid
-- ---- the loops

pub values_more : (pairs : List (ℕ × List ℕ)) (pieces : List Piece) (k first count : ℕ) (v : List ℕ) (s t u : DeviceState) → first ≡ run pairs k → v ≡ value_at pairs k → count ≡ blocks (length v) → first + count ≤ 2048
    → LaysMore (8768 + 64 * first) v t u → Laying objects_area (run_pieces pairs pieces k) (8768 + 64 * first) s t → Laying objects_area (run_pieces pairs pieces (k + 1)) (8768 + 64 * (first + count)) s u
values_more pairs pieces k first count v s t u is_first is_v is_count few lays laying =
    let more = lays objects_area (run_pieces pairs pieces k) (8768 + 64 * first) s (omega arith) (omega arith) (omega arith) laying in
    let later = laying_later objects_area ((8768 + 64 * first, v) ∷ run_pieces pairs pieces k) (8768 + 64 * first + length v) (8768 + 64 * (first + count)) s u (omega arith) more in
    subst (λ (ps : List Piece). Laying objects_area ps (8768 + 64 * (first + count)) s u) ((λ i. (8768 + 64 * is_first i, is_v i) ∷ run_pieces pairs pieces k) ∙ sym (pieces_more pairs pieces k)) later

pub values_done : (pairs : List (ℕ × List ℕ)) (pieces : List Piece) (k first : ℕ) (s t : DeviceState) → k ≡ 33 → first ≤ 2048 → Laying objects_area (run_pieces pairs pieces k) (8768 + 64 * first) s t → Laying objects_area (run_pieces pairs pieces 33) 139840 s t
values_done pairs pieces k first s t last few laying =
    subst (λ j. Laying objects_area (run_pieces pairs pieces j) 139840 s t) last (laying_later objects_area (run_pieces pairs pieces k) (8768 + 64 * first) 139840 s t (omega arith) laying)

-- ---- all of it

pub run_is_used : (pairs : List (ℕ × List ℕ)) → blocks_used (values pairs) ≡ run pairs 33
unfolding values
run_is_used pairs = sums 33
  where
    sums : (n : ℕ) → sum_by (λ (o : List ℕ). blocks (length o)) (map (value_at pairs) (range_with_len 0 n)) ≡ run pairs n
    sums zero = sym (run_none pairs)
    sums (suc n) =
        let one : suc n ≡ n + 1 = omega arith in
        let here : 0 + n ≡ n = omega arith in
        ap (λ m. sum_by (λ (o : List ℕ). blocks (length o)) (map (value_at pairs) (range_with_len 0 m))) one
        ∙ sum_by-map-range_with_len_more (λ (o : List ℕ). blocks (length o)) (value_at pairs) 0 n n here
        ∙ ap (λ m. m + blocks (length (value_at pairs n))) (sums n) ∙ sym (run_more pairs n) ∙ ap (run pairs) (sym one)

abbrev pub first_pieces : List ℕ → List Piece
first_pieces d = (257, d) ∷ (256, 0 ∷ []) ∷ []

pub laid_objects : (pairs : List (ℕ × List ℕ)) (d old new : List ℕ) → IsFresh pairs 33 d → ((k : ℕ) → k < 33 → length (value_at pairs k) ≤ 16384) → run pairs 33 ≤ 2048 → Laid objects_area (run_pieces pairs (first_pieces d) 33) 139840 old new → LaidObjects block_form pairs old new
unfolding objects_of values
laid_objects pairs d old new fresh short room laid =
    let others = others_hold pairs (first_pieces d) new 33 laid.holds in
    let selector : get_or new 256 0 ≡ 0 = ap (λ k. get_or new k 0) (let e : 256 ≡ 256 + 0 = omega arith in e) ∙ get_or-part new (0 ∷ []) 256 0 (omega arith) others.1.0 in
    let whole : bytes_at new 257 4228 ≡ d = ap (bytes_at new 257) (sym fresh.size) ∙ others.0 in
    let is : directory_of new ≡ d = ap (λ b. bytes_at new (slot_of directory_twin (b % 2)) 4228) selector ∙ whole in
    let used = run_is_used pairs in
    record {
      kept = laid.kept;
      are = λ budget fits few. ap (are_chains budget) is ∙ fresh_chains pairs d fresh room budget short (omega (arith, used, fits));
      objects = ap (λ d. map (object_at new d) (range_with_len 0 33)) is ∙ map_lists (object_at new d) (value_at pairs) 33 (λ k low. fresh_object pairs d fresh room new k low (piece_holds pairs (first_pieces d) new 33 k low laid.holds));
    }
  where
    map_lists : (f g : ℕ → List ℕ) (n : ℕ) → ((k : ℕ) → k < n → f k ≡ g k) → map f (range_with_len 0 n) ≡ map g (range_with_len 0 n)
    map_lists f g n same =
        let one = length-map-range_with_len f 0 n in
        let two = length-map-range_with_len g 0 n in
        same_lists _ _ (one ∙ sym two) (λ k e h.
        let here : k < n = omega (arith, one, h) in
        get_or-map-range_with_len f 0 n k k e here (omega arith) ∙ same k here ∙ sym (get_or-map-range_with_len g 0 n k k e here (omega arith)))

pub laid_all : (pairs : List (ℕ × List ℕ)) (d : List ℕ) (s u : DeviceState) → IsFresh pairs 33 d → ((k : ℕ) → k < 33 → length (value_at pairs k) ≤ 16384) → run pairs 33 ≤ 2048 → Laying objects_area (run_pieces pairs (first_pieces d) 33) 139840 s u → Done (LaidObjects block_form pairs) s u
laid_all pairs d s u fresh short room laying = record {
  left = leaves_implies (λ row. Unit {0}) (Laid objects_area (run_pieces pairs (first_pieces d) 33) 139840) (LaidObjects block_form pairs) (λ old new any laid. laid_objects pairs d old new fresh short room laid) s u (told_all (λ row. Unit {0}) (λ row. tt) s.bytes) laying.left;
  same = laying.same;
  due = laying.due;
}
