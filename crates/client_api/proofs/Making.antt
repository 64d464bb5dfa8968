-- What makers start.
use Rattle.std.specs.Prelude.{reverse, slice_get, nat_lt, is_some}
use Rattle.std.specs.Str.{bytes_eq}
use Rattle.std.proofs.Common.{◌≡◌, ℕ, zero, suc, ◌+◌, ◌*◌, ◌≤◌, true, false, cond, List, [], ◌∷◌, ◌++◌, length, drop, take, map, Option, Some, None, sym, refl, ap, subst, ◌∙◌, arith, add-one}
use Rattle.std.proofs.lemmas.List.{reverse-append}
use Rattle.std.proofs.lemmas.Bool.Decides.{nat_tests}
use Rattle.ber_tlv.specs.Elements.{header_of, length_bytes}
use Rattle.piv_objects.specs.Authenticators.{Credential, AreAuthenticators, IsAuthenticatorList}
use Rattle.client_api.specs.Calls.{Handle, LogIn, Put, exchange, piece}
use Rattle.client_api.specs.Answers.{api_answer, handle_after}
use Rattle.client_api.specs.Machine.{At, Ended, start}
use Rattle.client_api.specs.declared.player.NamedHandle.{NamedHandle as Lent}
use Rattle.client_api.specs.Held.{named_of}
use Rattle.client_api.specs.Playing.{handle_named}
use Rattle.client_api.specs.Readers.{NamedReader, NamedCard, reader_of, card_of}

pub log_in_starts : (h : Handle) (list : List Credential) → 1 ≤ length list → At (LogIn h list) 0 [] false ≡ start (LogIn h list)
log_in_starts h [] e = absurd (omega (arith, e))
log_in_starts h (c ∷ list) e = refl

pub put_starts : (h : Handle) (e : List ℕ) → 1 ≤ length e → At (Put h e) 0 [] false ≡ start (Put h e)
put_starts h e le = sym (ap (λ t. cond (is_some (cond t (exchange h (piece (drop (255 * 0) e))) None)) (At (Put h e) 0 [] false) (Ended (api_answer (Put h e) []) (handle_after (Put h e) []))) first) where
  first : nat_lt (255 * 0) (length e) ≡ true
  first = grind (arith, nat_tests)

short_in : (bytes : List ℕ) (list : List Credential) → AreAuthenticators bytes list → (j : ℕ) (c : Credential) → slice_get list j ≡ Some c → length c.pin ≤ 255
short_in bytes [] a j c e = absurd (cc)
short_in bytes (x ∷ list) a zero c e = subst (λ (o : Option Credential). Rattle.std.specs.Prelude.IfSome o (λ y. length y.pin ≤ 255)) e a.1.is_authenticator.is_pin.1
short_in bytes (x ∷ list) a (suc j) c e = short_in a.0 list a.2 j c e

pub pins_short : (bytes : List ℕ) (list : List Credential) → IsAuthenticatorList bytes list → (j : ℕ) (c : Credential) → slice_get list j ≡ Some c → length c.pin ≤ 255
pins_short bytes list is = short_in bytes list is.are_authenticators

some_bytes : (b : ℕ) (l : List ℕ) → 1 ≤ length (b ∷ l)
some_bytes b l = omega arith

-- the beginning of a Discovery Object has a byte
pub header_some : (n : ℕ) → 1 ≤ length (header_of 0x7E n)
unfolding header_of
header_some n = some_bytes 0x7E (length_bytes n)

pub ruleset header_laws = (header_some)

pub ruleset make_laws = (log_in_starts, put_starts, pins_short)

-- the reader at a place that the search has come to
pub reader_at : (list : List NamedReader) (k : ℕ) (name : List ℕ) (r : NamedReader) → slice_get list k ≡ Some r
    → reader_of (drop k list) name ≡ cond (bytes_eq r.name name) (Some (r.card, r.interface)) (reader_of (drop (suc k) list) name)
reader_at [] k name r e = absurd (cc)
reader_at (x ∷ list) zero name r e = subst (λ (o : Option NamedReader). Rattle.std.specs.Prelude.IfSome o (λ y. reader_of (x ∷ list) name ≡ cond (bytes_eq y.name name) (Some (y.card, y.interface)) (reader_of list name))) e refl
reader_at (x ∷ list) (suc k) name r e = reader_at list k name r e

taken : (list : List Credential) (k : ℕ) (c : Credential) → slice_get list k ≡ Some c → take k list ++ c ∷ [] ≡ take (suc k) list
taken [] k c e = absurd (cc)
taken (x ∷ list) zero c e = subst (λ (o : Option Credential). Rattle.std.specs.Prelude.IfSome o (λ y. y ∷ [] ≡ x ∷ [])) e refl
taken (x ∷ list) (suc k) c e = ap (λ l. x ∷ l) (taken list k c e)

pub take_next : (list : List Credential) (k : ℕ) (c : Credential) → slice_get list k ≡ Some c → take k list ++ c ∷ [] ≡ take (k + 1) list
take_next list k c e = rw add-one (taken list k c e)

-- the card at a place that the search has come to
pub card_at : (list : List NamedCard) (k : ℕ) (name : List ℕ) (c : NamedCard) → slice_get list k ≡ Some c
    → card_of (drop k list) name ≡ cond (bytes_eq c.name name) (Some c.card) (card_of (drop (suc k) list) name)
card_at [] k name c e = absurd (cc)
card_at (x ∷ list) zero name c e = subst (λ (o : Option NamedCard). Rattle.std.specs.Prelude.IfSome o (λ y. card_of (x ∷ list) name ≡ cond (bytes_eq y.name name) (Some y.card) (card_of list name))) e refl
card_at (x ∷ list) (suc k) name c e = card_at list k name c e

lent_taken : (list : List Lent) (k : ℕ) (x : Lent) → slice_get list k ≡ Some x → take (suc k) list ≡ take k list ++ x ∷ []
lent_taken [] k x e = absurd (cc)
lent_taken (y ∷ list) zero x e = subst (λ (o : Option Lent). Rattle.std.specs.Prelude.IfSome o (λ z. y ∷ [] ≡ z ∷ [])) e refl
lent_taken (y ∷ list) (suc k) x e = ap (λ l. y ∷ l) (lent_taken list k x e)

-- the newest handle among those up to a place
pub held_at : (list : List Lent) (k : ℕ) (name : List ℕ) (x : Lent) → slice_get list k ≡ Some x
    → handle_named (map named_of (reverse (take (suc k) list))) name ≡ cond (bytes_eq x.name.now name) (Some x.handle) (handle_named (map named_of (reverse (take k list))) name)
held_at list k name x e = ap (λ l. handle_named (map named_of l) name) (ap reverse (lent_taken list k x e) ∙ reverse-append (take k list) (x ∷ []))

pub ruleset held_laws = (held_at)

pub ruleset find_laws = (reader_at, card_at)

pub ruleset pin_laws = (take_next)
