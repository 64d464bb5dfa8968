-- The writes of a value's blocks.
use Rattle.std.proofs.Common.{◌≡◌, ◌≢◌, inl, inr, ℕ, ◌+◌, ◌-◌, ◌*◌, ◌<◌, ◌≤◌, min, List, length, take, drop, get_or, refl, ap, sym, ◌∙◌, subst, arith, length-take}
use Rattle.std.proofs.lemmas.Bool.{cases_eq, cases_lt}
use Rattle.nvm_device.specs.Bytes.{bytes_at, overwrite, AreApart}
use Rattle.nvm_device.proofs.Row.{length-bytes_at, length-overwrite, bytes_at-overwrite, bytes_at-overwrite_apart}
use Rattle.piv_model.specs.Memory.{blocks}
use Rattle.block_store.specs.Blocks.{place_of_block}
use Rattle.block_store.specs.Writes.{KeepsOthers, part_size, WroteParts}
use Rattle.nvm_slots.proofs.Calls.{WroteAny}

fewer : (a n b m k : ℕ) → k ≤ n → AreApart a n b m → AreApart a k b m
fewer a n b m k le (inl before) = inl (omega arith)
fewer a n b m k le (inr after) = inr after

pub none_written : (chosen v row : List ℕ) → WroteParts 0 chosen v row row
none_written chosen v row = record { keeps = record { size = refl; others = λ at n within apart. refl }; holds = λ differ j below. absurd (omega arith) }

module _ (chosen v old row : List ℕ) (j : ℕ) (low : j < length chosen) (low_all : (j : ℕ) → j < length chosen → get_or chosen j 0 < 2048) (enough : 1114112 ≤ length old) where
  -- any bytes within one block
  pub keeps_more : (bytes : List ℕ) → length bytes ≤ 64 → KeepsOthers chosen old row → KeepsOthers chosen old (overwrite row (place_of_block (get_or chosen j 0)) bytes)
  keeps_more bytes few keeps =
      let place = place_of_block (get_or chosen j 0) in
      let block = low_all j low in
      let fits : place + length bytes ≤ length row = let size = keeps.size in omega (arith, size, block) in
      record {
        size = length-overwrite row place bytes fits ∙ keeps.size;
        others = λ at n within apart. bytes_at-overwrite_apart row place bytes at n (fewer place 64 at n (length bytes) few (apart j low)) (let size = keeps.size in omega (arith, size)) fits ∙ keeps.others at n within apart;
      }

  part_fits : length chosen ≡ blocks (length v) → 64 * j + part_size v j ≤ length v
  part_fits size = omega arith

  pub parts_more : length chosen ≡ blocks (length v) → (bytes : List ℕ) → bytes ≡ bytes_at v (64 * j) (part_size v j) → WroteParts j chosen v old row → WroteParts (j + 1) chosen v old (overwrite row (place_of_block (get_or chosen j 0)) bytes)
  parts_more count bytes is wrote =
      let place = place_of_block (get_or chosen j 0) in
      let block = low_all j low in
      let size : length bytes ≡ part_size v j = ap (λ (b : List ℕ). length b) is ∙ length-bytes_at v (64 * j) (part_size v j) (part_fits count) in
      let few : length bytes ≤ 64 = omega arith in
      let fits : place + length bytes ≤ length row = let same = wrote.keeps.size in omega (arith, same, block) in
      record {
        keeps = keeps_more bytes few wrote.keeps;
        holds = λ differ i below. elim (cases_eq i j) [
          | inl same ↦ (let here : bytes_at (overwrite row place bytes) place (part_size v j) ≡ bytes_at v (64 * j) (part_size v j) = ap (λ n. bytes_at (overwrite row place bytes) place n) (sym size) ∙ bytes_at-overwrite row place bytes fits ∙ is in
              subst (λ k. bytes_at (overwrite row place bytes) (place_of_block (get_or chosen k 0)) (part_size v k) ≡ bytes_at v (64 * k) (part_size v k)) (sym same) here)
          | inr differs ↦ (let other = differ i j (omega arith) low in let block_i = low_all i (omega arith) in
              bytes_at-overwrite_apart row place bytes (place_of_block (get_or chosen i 0)) (part_size v i) (apart_blocks (get_or chosen i 0) (get_or chosen j 0) (length bytes) (part_size v i) other few (omega arith)) (let same = wrote.keeps.size in omega (arith, same, block_i)) fits ∙ wrote.holds differ i (omega arith))
        ];
      }
    where
      apart_blocks : (a b n m : ℕ) → a ≢ b → n ≤ 64 → m ≤ 64 → AreApart (place_of_block b) n (place_of_block a) m
      apart_blocks a b n m differ few small = elim (cases_lt a b) [ inl below ↦ inr (omega arith) | inr above ↦ inl (omega arith) ]

  pub keeps_torn : (new : List ℕ) (n : ℕ) → n ≤ 64 → WroteAny (place_of_block (get_or chosen j 0)) n row new → KeepsOthers chosen old row → KeepsOthers chosen old new
  keeps_torn new n few any keeps = subst (KeepsOthers chosen old) (sym any.is) (keeps_more any.torn (let size = any.size in omega (arith, size)) keeps)

pub part_is : (v : List ℕ) (j to : ℕ) → to ≡ min (length v) (64 * j + 64) → take (to - 64 * j) (drop (64 * j) v) ≡ bytes_at v (64 * j) (part_size v j)
unfolding bytes_at
part_is v j to is = ap (λ n. take n (drop (64 * j) v)) (omega arith)

pub few_of : (v : List ℕ) (j to : ℕ) → to ≡ min (length v) (64 * j + 64) → length (take (to - 64 * j) (drop (64 * j) v)) ≤ 64
few_of v j to is = omega (arith, length-take (to - 64 * j) (drop (64 * j) v))
