-- The rounds undone, one by one, and that exactly one block enciphers to a block.
use Rattle.std.proofs.Common.{◌≡◌, ℕ, zero, suc, ◌<◌, ◌+◌, ◌*◌, ◌/◌, true, List, [], ◌∷◌, length, slice_index, refl, sym, ap, ◌∙◌, arith}
use Rattle.piv_model.specs.Field.{product, remainder, mul}
use Rattle.piv_model.specs.Cipher.{IsBlock, IsKey, add_bytes, sub_bytes, shift_rows, each_column, mix_columns, words, round_key, state_after, all_rounds, encipher, Deciphers}
use Rattle.piv_model.proofs.CipherBytes.{IsBytes, none, more, block_of, of_block, add_bytes-bytes, sub_bytes-bytes, shift_rows-bytes, keeps_bytes, each_column-bytes, mix_columns-bytes, IsSchedule, round_key-bytes, state-bytes, key_schedule}
use Rattle.aes_block.specs.declared.back_tables.TheConstants.{UNSUB}
use Rattle.aes_block.proofs.Entries.{unsub_entry}
use Rattle.aes_block.proofs.WordLemmas.{add_bytes-twice}
use Rattle.aes_block.proofs.Matrix.{unmix-mix, mix-unmix}

-- ---- each step

cons : {x y : ℕ} {xs ys : List ℕ} → x ≡ y → xs ≡ ys → x ∷ xs ≡ y ∷ ys
cons p q = λ i. p i ∷ q i

unfoldable unsub : ℕ → ℕ
unsub b = slice_index UNSUB b

unfoldable unsub_bytes : List ℕ → List ℕ
unsub_bytes [] = []
unsub_bytes (b ∷ bs) = unsub b ∷ unsub_bytes bs

unsub_bytes-bytes : {n : ℕ} {s : List ℕ} → IsBytes n s → IsBytes n (unsub_bytes s)
unfolding unsub unsub_bytes
unsub_bytes-bytes none = none
unsub_bytes-bytes (more {b = b} h hs) = more (unsub_entry b h).small (unsub_bytes-bytes hs)

unsub-sub : {n : ℕ} {s : List ℕ} → IsBytes n s → unsub_bytes (sub_bytes s) ≡ s
unfolding unsub unsub_bytes sub_bytes
unsub-sub none = refl
unsub-sub (more {b = b} h hs) = cons (unsub_entry b h).unsub (unsub-sub hs)

sub-unsub : {n : ℕ} {s : List ℕ} → IsBytes n s → sub_bytes (unsub_bytes s) ≡ s
unfolding unsub unsub_bytes sub_bytes
sub-unsub none = refl
sub-unsub (more {b = b} h hs) = cons (unsub_entry b h).sub (sub-unsub hs)

-- row r rotated right by r
abbrev unshift_rows : List ℕ → List ℕ
unshift_rows s =
    slice_index s 0 ∷ slice_index s 13 ∷ slice_index s 10 ∷ slice_index s 7
    ∷ slice_index s 4 ∷ slice_index s 1 ∷ slice_index s 14 ∷ slice_index s 11
    ∷ slice_index s 8 ∷ slice_index s 5 ∷ slice_index s 2 ∷ slice_index s 15
    ∷ slice_index s 12 ∷ slice_index s 9 ∷ slice_index s 6 ∷ slice_index s 3 ∷ []

unshift-shift : {s : List ℕ} → IsBytes 16 s → unshift_rows (shift_rows s) ≡ s
unshift-shift (more _ (more _ (more _ (more _ (more _ (more _ (more _ (more _ (more _ (more _ (more _ (more _ (more _ (more _ (more _ (more _ none)))))))))))))))) = refl

shift-unshift : {s : List ℕ} → IsBytes 16 s → shift_rows (unshift_rows s) ≡ s
shift-unshift (more _ (more _ (more _ (more _ (more _ (more _ (more _ (more _ (more _ (more _ (more _ (more _ (more _ (more _ (more _ (more _ none)))))))))))))))) = refl

unshift-bytes : {s : List ℕ} → IsBytes 16 s → IsBytes 16 (unshift_rows s)
unshift-bytes (more h0 (more h1 (more h2 (more h3 (more h4 (more h5 (more h6 (more h7 (more h8 (more h9 (more h10 (more h11 (more h12 (more h13 (more h14 (more h15 none)))))))))))))))) =
    more h0 (more h13 (more h10 (more h7 (more h4 (more h1 (more h14 (more h11 (more h8 (more h5 (more h2 (more h15 (more h12 (more h9 (more h6 (more h3 none)))))))))))))))

keeps : (keeps_bytes 14 ≡ true) × (keeps_bytes 11 ≡ true) × (keeps_bytes 13 ≡ true) × (keeps_bytes 9 ≡ true)
unfolding mul product remainder
keeps = (refl, refl, refl, refl)

unmix-bytes : {s : List ℕ} → IsBytes 16 s → IsBytes 16 (each_column 14 11 13 9 s)
unmix-bytes h = each_column-bytes 14 11 13 9 keeps.0 keeps.1 keeps.2 keeps.3 h

-- ---- a round, under the round key k

unfoldable last_undone : List ℕ → List ℕ → List ℕ
last_undone k s = unsub_bytes (unshift_rows (add_bytes s k))

unfoldable undone : List ℕ → List ℕ → List ℕ
undone k s = unsub_bytes (unshift_rows (each_column 14 11 13 9 (add_bytes s k)))

last_undone-bytes : {s k : List ℕ} → IsBytes 16 s → IsBytes 16 k → IsBytes 16 (last_undone k s)
unfolding last_undone
last_undone-bytes h l = unsub_bytes-bytes (unshift-bytes (add_bytes-bytes h l))

undone-bytes : {s k : List ℕ} → IsBytes 16 s → IsBytes 16 k → IsBytes 16 (undone k s)
unfolding undone
undone-bytes h l = unsub_bytes-bytes (unshift-bytes (unmix-bytes (add_bytes-bytes h l)))

last_back : {s k : List ℕ} → IsBytes 16 s → IsBytes 16 k → last_undone k (add_bytes (shift_rows (sub_bytes s)) k) ≡ s
unfolding last_undone
last_back h l =
    let b = sub_bytes-bytes h in
    ap (λ x. unsub_bytes (unshift_rows x)) (add_bytes-twice (shift_rows-bytes b) l)
    ∙ ap unsub_bytes (unshift-shift b) ∙ unsub-sub h

last_there : {s k : List ℕ} → IsBytes 16 s → IsBytes 16 k → add_bytes (shift_rows (sub_bytes (last_undone k s))) k ≡ s
unfolding last_undone
last_there {k = k} h l =
    let a = add_bytes-bytes h l in
    ap (λ x. add_bytes (shift_rows x) k) (sub-unsub (unshift-bytes a))
    ∙ ap (λ x. add_bytes x k) (shift-unshift a) ∙ add_bytes-twice h l

round_back : {s k : List ℕ} → IsBytes 16 s → IsBytes 16 k → undone k (add_bytes (mix_columns (shift_rows (sub_bytes s))) k) ≡ s
unfolding undone
round_back h l =
    let b = sub_bytes-bytes h in
    let r = shift_rows-bytes b in
    ap (λ x. unsub_bytes (unshift_rows (each_column 14 11 13 9 x))) (add_bytes-twice (mix_columns-bytes r) l)
    ∙ ap (λ x. unsub_bytes (unshift_rows x)) (unmix-mix r)
    ∙ ap unsub_bytes (unshift-shift b) ∙ unsub-sub h

round_there : {s k : List ℕ} → IsBytes 16 s → IsBytes 16 k → add_bytes (mix_columns (shift_rows (sub_bytes (undone k s)))) k ≡ s
unfolding undone
round_there {k = k} h l =
    let a = add_bytes-bytes h l in
    let m = unmix-bytes a in
    ap (λ x. add_bytes (mix_columns (shift_rows x)) k) (sub-unsub (unshift-bytes m))
    ∙ ap (λ x. add_bytes (mix_columns x) k) (shift-unshift m)
    ∙ ap (λ x. add_bytes x k) (mix-unmix a) ∙ add_bytes-twice h l

-- ---- all rounds

-- the block whose state after round r is s
unfoldable start : List (List ℕ) → ℕ → List ℕ → List ℕ
start ws zero s = add_bytes s (round_key ws 0)
start ws (suc r) s = start ws r (undone (round_key ws (suc r)) s)

start-bytes : {nk : ℕ} {ws : List (List ℕ)} (r : ℕ) → IsSchedule nk ws → r < nk + 7 → (s : List ℕ) → IsBytes 16 s → IsBytes 16 (start ws r s)
unfolding start
start-bytes zero h l s b = add_bytes-bytes b (round_key-bytes 0 h (omega arith))
start-bytes (suc r) h l s b = start-bytes r h (omega arith) _ (undone-bytes b (round_key-bytes (suc r) h l))

start-state : {nk : ℕ} {ws : List (List ℕ)} {x : List ℕ} (r : ℕ) → IsSchedule nk ws → r < nk + 7 → IsBytes 16 x → start ws r (state_after ws x r) ≡ x
unfolding start state_after
start-state zero h l b = add_bytes-twice b (round_key-bytes 0 h (omega arith))
start-state {ws = ws} (suc r) h l b =
    ap (start ws r) (round_back (state-bytes r h (omega arith) b) (round_key-bytes (suc r) h l)) ∙ start-state r h (omega arith) b

state-start : {nk : ℕ} {ws : List (List ℕ)} (r : ℕ) → IsSchedule nk ws → r < nk + 7 → (s : List ℕ) → IsBytes 16 s → state_after ws (start ws r s) r ≡ s
unfolding start state_after
state-start zero h l s b = add_bytes-twice b (round_key-bytes 0 h (omega arith))
state-start {ws = ws} (suc r) h l s b =
    let k = round_key-bytes (suc r) h l in
    ap (λ x. add_bytes (mix_columns (shift_rows (sub_bytes x))) (round_key ws (suc r))) (state-start r h (omega arith) _ (undone-bytes b k))
    ∙ round_there b k

-- the block that the rounds take to y
unfoldable source : ℕ → List (List ℕ) → List ℕ → List ℕ
source nk ws y = start ws (nk + 5) (last_undone (round_key ws (nk + 6)) y)

source-bytes : {nk : ℕ} {ws : List (List ℕ)} {y : List ℕ} → IsSchedule nk ws → IsBytes 16 y → IsBytes 16 (source nk ws y)
unfolding source
source-bytes {nk} h b = start-bytes (nk + 5) h (omega arith) _ (last_undone-bytes b (round_key-bytes (nk + 6) h (omega arith)))

source-all_rounds : {nk : ℕ} {ws : List (List ℕ)} {x : List ℕ} → IsSchedule nk ws → IsBytes 16 x → source nk ws (all_rounds nk ws x) ≡ x
unfolding source all_rounds
source-all_rounds {nk} {ws} h b =
    ap (start ws (nk + 5)) (last_back (state-bytes (nk + 5) h (omega arith) b) (round_key-bytes (nk + 6) h (omega arith)))
    ∙ start-state (nk + 5) h (omega arith) b

all_rounds-source : {nk : ℕ} {ws : List (List ℕ)} {y : List ℕ} → IsSchedule nk ws → IsBytes 16 y → all_rounds nk ws (source nk ws y) ≡ y
unfolding source all_rounds
all_rounds-source {nk} {ws} h b =
    let k = round_key-bytes (nk + 6) h (omega arith) in
    ap (λ x. add_bytes (shift_rows (sub_bytes x)) (round_key ws (nk + 6))) (state-start (nk + 5) h (omega arith) _ (last_undone-bytes b k))
    ∙ last_there b k

-- ---- the cipher

pub one_source : (key y : List ℕ) → IsKey key → IsBlock y → (x : List ℕ) × Deciphers key y x
unfolding encipher
one_source key y h b =
    let s = key_schedule h in
    (source _ _ y, record { block = block_of (source-bytes s (of_block b)); back = all_rounds-source s (of_block b) })

encipher-one : (key x z : List ℕ) → IsKey key → IsBlock x → IsBlock z → encipher key x ≡ encipher key z → x ≡ z
unfolding encipher
encipher-one key x z h b d e =
    let s = key_schedule h in
    sym (source-all_rounds s (of_block b)) ∙ ap (source (length key / 4) (words (length key / 4) key (4 * (length key / 4 + 7)))) e ∙ source-all_rounds s (of_block d)

pub only_source : (key y x z : List ℕ) → IsKey key → Deciphers key y x → Deciphers key y z → x ≡ z
only_source key y x z h p q = encipher-one key x z h p.block q.block (p.back ∙ sym q.back)
