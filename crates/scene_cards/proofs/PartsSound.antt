-- The parts and the losses of a card that read are well formed.
use Rattle.std.proofs.Common.{◌≡◌, ℕ, ℤ, pos, negsuc, zero, suc, ◌-◌, ◌<◌, ◌≤◌, Bool, true, false, ◌==◌, List, [], ◌∷◌, ◌++◌, length, take, codes, replicate, Option, Some, None, refl, sym, ap, ◌∙◌, subst, arith}
use Rattle.std.specs.Prelude.{nat_lt, slice_get, if◌then◌else◌, IfSome}
use Rattle.std.proofs.lemmas.Bool.Decides.{nat_tests}
use Rattle.std.proofs.Math.Seq.{take-append_seam}
use Rattle.toml.specs.Data.{Data, Items, Members, get_member, as_table, as_integer, as_str}
use Rattle.power_loss.specs.Due.{RisesFrom}
use Rattle.power_loss.specs.declared.loss.Loss.{Loss}
use Rattle.nvm_device.specs.declared.loss.How.{How}
use Rattle.power_loss.specs.Plans.{write_numbers}
use Rattle.piv_model.specs.Forms.{is_pin}
use Rattle.piv_model.specs.Starts.{key_of}
use Rattle.piv_model.specs.Sound.{is_card_key}
use Rattle.piv_model.specs.declared.start.KeyBytes.{KeyBytes}
use Rattle.line_words.specs.Words.{◌>>=◌}
use Rattle.line_words.proofs.Steps.{bound, some_same}
use Rattle.scene_table.specs.Readings.{each_after, or_default, from_one, positive}
use Rattle.scene_table.specs.Values.{such_that, digits, random_value, pin_value, optional_pin, puk_value, key_value, key_bytes, padded}
use Rattle.piv_model.specs.PlainCard.{plain_pin, plain_puk}
use Rattle.scene_cards.specs.Cards.{CardParts, parts_of, first_admin, first_card_auth}
use Rattle.scene_cards.specs.Losses.{is_later, later, loss_write, loss_of, all_losses, pattern_value, how_of}
use Rattle.scene_cards.proofs.ReadSound.{so, each-holds, ok_of}

-- ---- numbers

positive-holds : (z : ℤ) (n : ℕ) → positive z ≡ Some n → 1 ≤ n
positive-holds (pos zero) n h = cc
positive-holds (pos (suc m)) n h = let e = some_same (suc m) n h in omega (arith, e)
positive-holds (negsuc m) n h = cc

from_one-holds : (d : Data) (n : ℕ) → from_one d ≡ Some n → 1 ≤ n
from_one-holds d n h = let z = bound (as_integer d) positive n h in positive-holds z.value n z.next

pub such_that-holds : {A : Type 0} (o : Option A) (test : A → Bool) (x : A) → (o >>= such_that test) ≡ Some x → test x ≡ true
such_that-holds o test x h =
    let v = bound o (such_that test) x h in
    let s = so (test v.value) v.value x v.next in
    subst (λ y. test y ≡ true) s.1 s.0

pub default-holds : {A : Type 0} (P : A → Type 0) (absent : A) (read : Data → Option A) (o : Option Data) (x : A) → P absent → ((d : Data) → read d ≡ Some x → P x)
    → or_default absent read o ≡ Some x → P x
default-holds P absent read None x base held h = subst P (some_same absent x h) base
default-holds P absent read (Some d) x base held h = held d h

-- ---- keys

choice : {A : Type 0} (P : Type 0) (b : Bool) (x y : Option A) (z : A) → (b ≡ true → x ≡ Some z → P) → (b ≡ false → y ≡ Some z → P) → (if b then x else y) ≡ Some z → P
choice P true x y z good bad h = good refl h
choice P false x y z good bad h = bad refl h

same_number : (a b : ℕ) → (a == b) ≡ true → a ≡ b
same_number a b h = grind (arith, nat_tests)

equal : (a : ℕ) → (a == a) ≡ true
equal a = grind (arith, nat_tests)

key-length : (key : List ℕ) (n : ℕ) → (length key == n) ≡ true → (length (take n (padded key)) == n) ≡ true
key-length key n h =
    subst (λ (m : ℕ). (length (take m (padded key)) == m) ≡ true) (same_number (length key) n h)
    (ap (λ (l : List ℕ). length l == length key) (take-append_seam key (replicate (32 - length key) 0)) ∙ equal (length key))

key_bytes-holds : (key : List ℕ) (k : KeyBytes) → key_bytes key ≡ Some k → is_card_key (key_of k) ≡ true
key_bytes-holds key k =
    choice (is_card_key (key_of k) ≡ true) (length key == 16) _ _ k
    (λ size h. subst (λ (x : KeyBytes). is_card_key (key_of x) ≡ true) (some_same (record { algorithm = 0x08; bytes = padded key }) k h) (key-length key 16 size))
    (λ no. choice (is_card_key (key_of k) ≡ true) (length key == 24) _ _ k
    (λ size h. subst (λ (x : KeyBytes). is_card_key (key_of x) ≡ true) (some_same (record { algorithm = 0x0A; bytes = padded key }) k h) (key-length key 24 size))
    (λ no. choice (is_card_key (key_of k) ≡ true) (length key == 32) _ _ k
    (λ size h. subst (λ (x : KeyBytes). is_card_key (key_of x) ≡ true) (some_same (record { algorithm = 0x0C; bytes = padded key }) k h) (key-length key 32 size))
    (λ no h. cc)))

key-holds : (d : Data) (k : KeyBytes) → key_value d ≡ Some k → is_card_key (key_of k) ≡ true
key-holds d k h = let b = bound (digits d) key_bytes k h in key_bytes-holds b.value k b.next

-- ---- parts

pub record AreParts (p : CardParts) : Type 0 where
  pub pin : is_pin p.pin ≡ true
  pub puk : (length p.puk == 8) ≡ true
  pub limit_pin : 1 ≤ p.limit_pin
  pub limit_puk : 1 ≤ p.limit_puk
  pub global : IfSome p.global (λ pin. is_pin pin ≡ true)
  pub limit_global : 1 ≤ p.limit_global
  pub admin : is_card_key (key_of p.admin) ≡ true
  pub card_auth : is_card_key (key_of p.card_auth) ≡ true
  pub budget : 1 ≤ p.budget

plain_pin-holds : is_pin plain_pin ≡ true
unfolding is_pin
plain_pin-holds = refl

optional-holds : (d : Data) (g : Option (List ℕ)) → optional_pin d ≡ Some g → IfSome g (λ pin. is_pin pin ≡ true)
optional-holds d g h =
    let p = bound (pin_value d) (λ pin. Some (Some pin)) g h in
    subst (λ (x : Option (List ℕ)). IfSome x (λ pin. is_pin pin ≡ true)) (some_same (Some p.value) g p.next) (such_that-holds (digits d) is_pin p.value p.first)

pub parts-hold : (t : Members) (p : CardParts) → parts_of t ≡ Some p → AreParts p
parts-hold t p h =
    let random = bound (or_default (replicate 32 0) (random_value) (get_member (codes "random") t)) _ p h in
    let pin = bound (or_default plain_pin pin_value (get_member (codes "pin") t)) _ p random.next in
    let puk = bound (or_default plain_puk puk_value (get_member (codes "puk") t)) _ p pin.next in
    let limit_pin = bound (or_default 3 from_one (get_member (codes "limit_pin") t)) _ p puk.next in
    let limit_puk = bound (or_default 3 from_one (get_member (codes "limit_puk") t)) _ p limit_pin.next in
    let global = bound (or_default None optional_pin (get_member (codes "global") t)) _ p limit_puk.next in
    let limit_global = bound (or_default 3 from_one (get_member (codes "limit_global") t)) _ p global.next in
    let admin = bound (or_default first_admin key_value (get_member (codes "admin") t)) _ p limit_global.next in
    let card_auth = bound (or_default first_card_auth key_value (get_member (codes "card_auth") t)) _ p admin.next in
    let budget = bound (or_default 2048 from_one (get_member (codes "budget") t)) _ p card_auth.next in
    subst AreParts (some_same (record {
      random = random.value;
      pin = pin.value;
      puk = puk.value;
      limit_pin = limit_pin.value;
      limit_puk = limit_puk.value;
      global = global.value;
      limit_global = limit_global.value;
      admin = admin.value;
      card_auth = card_auth.value;
      budget = budget.value;
    }) p budget.next) (record {
      pin = default-holds (λ x. is_pin x ≡ true) plain_pin pin_value (get_member (codes "pin") t) pin.value plain_pin-holds (λ d. such_that-holds (digits d) is_pin pin.value) pin.first;
      puk = default-holds (λ x. (length x == 8) ≡ true) plain_puk puk_value (get_member (codes "puk") t) puk.value refl (λ d. such_that-holds (digits d) (λ x. length x == 8) puk.value) puk.first;
      limit_pin = default-holds (λ n. 1 ≤ n) 3 from_one (get_member (codes "limit_pin") t) limit_pin.value (omega arith) (λ d. from_one-holds d limit_pin.value) limit_pin.first;
      limit_puk = default-holds (λ n. 1 ≤ n) 3 from_one (get_member (codes "limit_puk") t) limit_puk.value (omega arith) (λ d. from_one-holds d limit_puk.value) limit_puk.first;
      global = default-holds (λ g. IfSome g (λ pin. is_pin pin ≡ true)) None optional_pin (get_member (codes "global") t) global.value tt (λ d. optional-holds d global.value) global.first;
      limit_global = default-holds (λ n. 1 ≤ n) 3 from_one (get_member (codes "limit_global") t) limit_global.value (omega arith) (λ d. from_one-holds d limit_global.value) limit_global.first;
      admin = default-holds (λ k. is_card_key (key_of k) ≡ true) first_admin key_value (get_member (codes "admin") t) admin.value refl (λ d. key-holds d admin.value) admin.first;
      card_auth = default-holds (λ k. is_card_key (key_of k) ≡ true) first_card_auth key_value (get_member (codes "card_auth") t) card_auth.value refl (λ d. key-holds d card_auth.value) card_auth.first;
      budget = default-holds (λ n. 1 ≤ n) 2048 from_one (get_member (codes "budget") t) budget.value (omega arith) (λ d. from_one-holds d budget.value) budget.first;
    })

-- ---- losses

above : (a b : ℕ) → nat_lt a b ≡ true → a < b
above a b h = grind (arith, nat_tests)

slice-next : (x : Loss How) (xs : List (Loss How)) (n m : ℕ) → m ≡ suc n → slice_get (x ∷ xs) m ≡ slice_get xs n
slice-next x xs n m h = rw h refl

rising-tail : (x : Loss How) (ls : List (Loss How)) (l : Loss How) → RisesFrom x.write (write_numbers ls) → is_later (slice_get (x ∷ ls) (length ls)) l.write ≡ true
    → RisesFrom x.write (write_numbers (ls ++ l ∷ []))
rising-tail x [] l rises later = (above x.write l.write later, tt)
rising-tail x (y ∷ ls) l rises later =
    (rises.0, rising-tail y ls l rises.1 (ap (λ (o : Option (Loss How)). is_later o l.write) (sym (slice-next x (y ∷ ls) (length ls) (length (y ∷ ls)) (omega arith))) ∙ later))

rising-more : (ls : List (Loss How)) (l : Loss How) → RisesFrom 0 (write_numbers ls) → 1 ≤ l.write → is_later (slice_get ls (length ls - 1)) l.write ≡ true
    → RisesFrom 0 (write_numbers (ls ++ l ∷ []))
rising-more [] l rises one later = (omega (arith, one), tt)
rising-more (x ∷ ls) l rises one later =
    let same : length ls ≡ length (x ∷ ls) - 1 = omega arith in
    (rises.0, rising-tail x ls l rises.1 (ap (λ (n : ℕ). is_later (slice_get (x ∷ ls) n) l.write) same ∙ later))

loss-reads : (b : List (Loss How)) (d : Data) (l : Loss How) → loss_of b d ≡ Some l → (1 ≤ l.write) × (is_later (slice_get b (length b - 1)) l.write ≡ true)
loss-reads b d l h =
    let t = bound (as_table d) _ l h in
    let write = bound (loss_write b t.value) _ l t.next in
    let kind = bound (get_member (codes "kind") t.value >>= as_str) _ l write.next in
    let pattern = bound (or_default None pattern_value (get_member (codes "pattern") t.value)) _ l kind.next in
    let how = bound (how_of kind.value pattern.value) _ l pattern.next in
    let same : write.value ≡ l.write = ap (λ (x : Loss How). x.write) (some_same (record { write = write.value; how = how.value }) l how.next) in
    let number = bound (get_member (codes "write") t.value >>= from_one) (later b) write.value write.first in
    let read = bound (get_member (codes "write") t.value) from_one number.value number.first in
    let s = so (is_later (slice_get b (length b - 1)) number.value) number.value write.value number.next in (
      subst (λ (n : ℕ). 1 ≤ n) (s.1 ∙ same) (from_one-holds read.value number.value read.next),
      subst (λ (n : ℕ). is_later (slice_get b (length b - 1)) n ≡ true) (s.1 ∙ same) s.0,
    )

pub losses-hold : (ds : Items) (losses : List (Loss How)) → all_losses ds ≡ Some losses → RisesFrom 0 (write_numbers losses)
losses-hold ds losses h =
    each-holds (λ ls. RisesFrom 0 (write_numbers ls)) loss_of (λ b d l all is. rising-more b l all (loss-reads b d l is).0 (loss-reads b d l is).1)
    [] ds losses tt (ok_of (each_after loss_of [] ds) losses h)
