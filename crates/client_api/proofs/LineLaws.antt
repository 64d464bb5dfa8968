-- How many turns a line's call has, and that it is one call.
use Rattle.std.specs.Prelude.{IsSome, nat_lt, ◌==◌}
use Rattle.std.proofs.Common.{◌≡◌, ◌∙◌, inl, inr, ℕ, suc, ◌+◌, ◌/◌, ◌<◌, ◌≤◌, Bool, true, false, cond, List, [], ◌∷◌, ◌++◌, length, Option, Some, None, sym, refl, ap, subst, arith, replicate}
use Rattle.std.proofs.lemmas.List.{length-append, length-replicate}
use Rattle.ber_tlv.specs.Elements.{header_of, length_bytes, spell}
use Rattle.piv_model.specs.declared.kinds.Interface.{Interface}
use Rattle.piv_model.specs.declared.answers.ApiAnswer.{ApiAnswer}
use Rattle.piv_model.specs.declared.answers.ApiAnswer.TheVariants as api
use Rattle.piv_model.specs.Objects.{place_of_oid, row_at, discovery_place}
use Rattle.script_line.specs.declared.line.Line.{Line}
use Rattle.script_line.specs.declared.line.Line.TheVariants as line
use Rattle.script_line.specs.Playable.{IsPlayable}
use Rattle.piv_rules.specs.Acts as acts
use Rattle.piv_rules.specs.Acts.{CardAct}
use Rattle.piv_objects.specs.Authenticators.{Credential, AreAuthenticators}
use Rattle.piv_objects.proofs.Pins.{first_one, first_shorter}
use Rattle.client_api.specs.Calls.{Handle, Call, Decided, Connect, Disconnect, Select, LogIn, LogOut, Get, Put, Crypt, Admin, Transmit, Switch, Replies, sends}
use Rattle.client_api.specs.Steps.{most_turns}
use Rattle.client_api.specs.Makers.{LogsIn, connect_to, get_at, put_at, put_header, put_element}
use Rattle.client_api.specs.Readers.{Names, reader_of, card_of}
use Rattle.client_api.specs.Playing.{NamedHandle, handle_named, Wanted, Is, ALogin, IsCall, reset_of, switch_card, by_handle, wanted_with, wanted}
use Rattle.client_api.specs.Players.{line_turns}
use Rattle.client_api.specs.Laws.{CallsEnd, LinesEnd, LinesHaveOneCall}
use Rattle.client_api.proofs.Falling.{fewer}
use Rattle.client_api.proofs.Tags.{tag_short}

-- ---- how many turns

-- a call is decided, or has at most so many turns
abbrev IsWithin : Call → ℕ → Type 0
IsWithin call n = (rs : Replies) → IsSome (sends call rs) → length rs < n

decided : (a : ApiAnswer) (h : Option Handle) (n : ℕ) → IsWithin (Decided a h) n
decided a h n [] s = absurd (cc)
decided a h n (r ∷ rs) s = absurd (cc)

within : (call : Call) (n : ℕ) → most_turns call ≤ n → IsWithin call n
within call n most rs s = let f = fewer call rs s in chain (length rs) (most_turns call) n f most where
  chain : (a b c : ℕ) → a < b → b ≤ c → a < c
  chain a b c f m = omega (arith, f, m)

same : (n : ℕ) → n ≤ n
same n = omega arith

length_short : (n : ℕ) → length (length_bytes n) ≤ 3
length_short n = go (nat_lt n 0x80) (nat_lt n 0x100) where
  go : (a b : Bool) → length (cond a (n ∷ []) (cond b (0x81 ∷ n ∷ []) (0x82 ∷ Rattle.std.specs.Prelude.◌/◌ n 0x100 ∷ Rattle.std.specs.Prelude.◌%◌ n 0x100 ∷ []))) ≤ 3
  go true b = omega arith
  go false true = omega arith
  go false false = omega arith

one_more : (b : ℕ) (l : List ℕ) → length l ≤ 3 → length (b ∷ l) ≤ 4
one_more b l h = omega (arith, h)

header_7E : (n : ℕ) → length (header_of 0x7E n) ≤ 4
unfolding header_of
header_7E n = one_more 0x7E (length_bytes n) (length_short n)

header_53 : (n : ℕ) → length (header_of 0x53 n) ≤ 4
unfolding header_of
header_53 n = one_more 0x53 (length_bytes n) (length_short n)

header_5C : (n : ℕ) → length (header_of 0x5C n) ≤ 4
unfolding header_of
header_5C n = one_more 0x5C (length_bytes n) (length_short n)

added : (a b : List ℕ) (m n : ℕ) → length a ≤ m → length b ≤ n → length (a ++ b) ≤ m + n
added a b m n x y = let e = length-append a b in sum (length (a ++ b)) (length a) (length b) m n e x y where
  sum : (z p q m n : ℕ) → z ≡ p + q → p ≤ m → q ≤ n → z ≤ m + n
  sum z p q m n e x y = omega (arith, e, x, y)

header_short : (place n : ℕ) → length (put_header place n) ≤ 11
header_short place n = go (place == discovery_place) where
  go : (b : Bool) → length (cond b (header_of 0x7E n) (spell 0x5C (row_at place).tag ++ header_of 0x53 n)) ≤ 11
  go true = let h = header_7E n in omega (arith, h)
  go false =
      let tag : length (spell 0x5C (row_at place).tag) ≤ 4 + 3 = added (header_of 0x5C (length (row_at place).tag)) (row_at place).tag 4 3 (header_5C (length (row_at place).tag)) (tag_short place) in
      let all : length (spell 0x5C (row_at place).tag ++ header_of 0x53 n) ≤ 7 + 4 = added (spell 0x5C (row_at place).tag) (header_of 0x53 n) 7 4 tag (header_53 n) in all

pieces : (n : ℕ) → n ≤ 11 + 16512 → suc (n / 255) ≤ 65
pieces n h = omega (arith, h)

put_within : (h : Handle) (value : List ℕ) (o : Option ℕ) → length value ≤ 16512 → IsWithin (put_at h value o) 65
put_within h value None short = decided api.InvalidOid (Some h) 65
put_within h value (Some place) short =
    within (Put h (put_element place value)) 65
    (pieces (length (put_element place value)) (added (put_header place (length value)) value 11 16512 (header_short place (length value)) short))

get_within : (h : Handle) (o : Option ℕ) → IsWithin (get_at h o) 65
get_within h None = decided api.InvalidOid (Some h) 65
get_within h (Some place) = within (Get h place) 65 (same 65)

connect_within : (o : Option (ℕ × Interface)) (shared : Bool) → IsWithin (connect_to o shared) 1
connect_within None shared = decided api.ConnectionFailure None 1
connect_within (Some r) shared = within (Connect r.0 r.1 shared) 1 (same 1)

-- what is wanted has at most so many turns
abbrev IsWantedWithin : Wanted → ℕ → Type 0
IsWantedWithin (Is made) n = IsWithin made n
IsWantedWithin (ALogin h auth) n = 8 ≤ n

with_within : (h : Handle) (l : Line) → IsPlayable l → IsWantedWithin (wanted_with h l) (line_turns l)
with_within h (line.Connect n r s) p = decided api.InvalidCardHandle (Some h) 1
with_within h (line.Disconnect n) p = within (Disconnect h) 1 (same 1)
with_within h (line.Select n aid) p = within (Select h aid) 1 (same 1)
with_within h (line.Login n auth) p = same 8
with_within h (line.Logout n) p = within (LogOut h) 3 (same 3)
with_within h (line.Get n oid) p = get_within h (place_of_oid oid)
with_within h (line.PutHex n oid value) p = put_within h value (place_of_oid oid) p
with_within h (line.PutFill n oid size fill) p = put_within h (replicate size fill) (place_of_oid oid) (subst (λ (k : ℕ). k ≤ 16512) (sym (length-replicate size fill)) p)
with_within h (line.Crypt n a k i) p = within (Crypt h a k i) 1 (same 1)
with_within h (line.Admin n a k) p = within (Admin h a k) 2 (same 2)
with_within h (line.Apdu n bytes) p = within (Transmit h bytes) 1 (same 1)
with_within h line.Version p = decided api.InvalidCardHandle (Some h) 0
with_within h line.Generate p = decided api.InvalidCardHandle (Some h) 0
with_within h line.Secure p = decided api.InvalidCardHandle (Some h) 0
with_within h (line.Reset r) p = decided api.InvalidCardHandle (Some h) 1
with_within h (line.Cut c) p = decided api.InvalidCardHandle (Some h) 1
with_within h (line.Power c) p = decided api.InvalidCardHandle (Some h) 1

by_within : (o : Option Handle) (l : Line) → IsPlayable l → IsWantedWithin (by_handle o l) (line_turns l)
by_within None l p = decided api.InvalidCardHandle None (line_turns l)
by_within (Some h) l p = with_within h l p

reset_within : (o : Option (ℕ × Interface)) → IsWantedWithin (reset_of o) 1
reset_within None = decided api.ConnectionFailure None 1
reset_within (Some r) = within (Switch r.0 (acts.ResetSide r.1)) 1 (same 1)

switch_within : (o : Option ℕ) (act : CardAct) → IsWantedWithin (switch_card o act) 1
switch_within None act = decided api.ConnectionFailure None 1
switch_within (Some c) act = within (Switch c act) 1 (same 1)

wanted_within : (names : Names) (handles : List NamedHandle) (l : Line) → IsPlayable l → IsWantedWithin (wanted names handles l) (line_turns l)
wanted_within names handles (line.Connect n r s) p = connect_within (reader_of names.readers r) s
wanted_within names handles (line.Disconnect n) p = by_within (handle_named handles n) (line.Disconnect n) p
wanted_within names handles (line.Select n aid) p = by_within (handle_named handles n) (line.Select n aid) p
wanted_within names handles (line.Login n auth) p = by_within (handle_named handles n) (line.Login n auth) p
wanted_within names handles (line.Logout n) p = by_within (handle_named handles n) (line.Logout n) p
wanted_within names handles (line.Get n oid) p = by_within (handle_named handles n) (line.Get n oid) p
wanted_within names handles (line.PutHex n oid value) p = by_within (handle_named handles n) (line.PutHex n oid value) p
wanted_within names handles (line.PutFill n oid size fill) p = by_within (handle_named handles n) (line.PutFill n oid size fill) p
wanted_within names handles (line.Crypt n a k i) p = by_within (handle_named handles n) (line.Crypt n a k i) p
wanted_within names handles (line.Admin n a k) p = by_within (handle_named handles n) (line.Admin n a k) p
wanted_within names handles (line.Apdu n bytes) p = by_within (handle_named handles n) (line.Apdu n bytes) p
wanted_within names handles line.Version p = decided api.Version None 0
wanted_within names handles line.Generate p = decided api.Unsupported None 0
wanted_within names handles line.Secure p = decided api.Unsupported None 0
wanted_within names handles (line.Reset r) p = reset_within (reader_of names.readers r)
wanted_within names handles (line.Cut c) p = switch_within (card_of names.cards c) acts.CutPower
wanted_within names handles (line.Power c) p = switch_within (card_of names.cards c) acts.PowerOn

call_within : (w : Wanted) (n : ℕ) (call : Call) → IsWantedWithin w n → IsCall w call → IsWithin call n
call_within (Is made) n call is e = subst (λ (c : Call). IsWithin c n) (sym e) is
call_within (ALogin h auth) n call is logs = elim logs [
  | inl x ↦ subst (λ (c : Call). IsWithin c n) (sym x.2) (within (LogIn h x.0) n (chain (length x.0) n x.1.most is))
  | inr x ↦ subst (λ (c : Call). IsWithin c n) (sym x.1) (decided api.AuthenticatorMalformed (Some h) n)
]
  where
    chain : (a n : ℕ) → a ≤ 8 → 8 ≤ n → a ≤ n
    chain a n x y = omega (arith, x, y)

pub calls_end : CallsEnd
calls_end = fewer

pub lines_end : LinesEnd
lines_end names handles l call rs p is s = call_within (wanted names handles l) (line_turns l) call (wanted_within names handles l p) is rs s

-- ---- one call

one_list : (bytes : List ℕ) (list other : List Credential) → AreAuthenticators bytes list → AreAuthenticators bytes other → list ≡ other
one_list bytes [] [] a b = refl
one_list bytes [] (d ∷ other) a b = absurd (let s = subst (λ (x : List ℕ). length b.0 < length x) a (first_shorter bytes d b.0 b.1) in omega (arith, s))
one_list bytes (c ∷ list) [] a b = absurd (let s = subst (λ (x : List ℕ). length a.0 < length x) b (first_shorter bytes c a.0 a.1) in omega (arith, s))
one_list bytes (c ∷ list) (d ∷ other) a b =
    let f = first_one bytes c d a.0 b.0 a.1 b.1 in
    ap (λ (x : Credential). x ∷ list) f.0 ∙ ap (λ (l : List Credential). d ∷ l) (one_list b.0 list other (subst (λ (r : List ℕ). AreAuthenticators r list) f.1 a.2) b.2)

one_log_in : (h : Handle) (auth : List ℕ) (a b : Call) → LogsIn h auth a → LogsIn h auth b → a ≡ b
one_log_in h auth a b s t = elim s [
  | inl x ↦ elim t [
    | inl y ↦ x.2 ∙ (ap (λ (l : List Credential). LogIn h l) (one_list auth x.0 y.0 x.1.are_authenticators y.1.are_authenticators) ∙ sym y.2)
    | inr y ↦ absurd (y.0 x.0 x.1)
  ]
  | inr x ↦ elim t [ inl y ↦ absurd (x.0 y.0 y.1) | inr y ↦ x.1 ∙ sym y.1 ]
]

one_wanted : (w : Wanted) (a b : Call) → IsCall w a → IsCall w b → a ≡ b
one_wanted (Is made) a b s t = s ∙ sym t
one_wanted (ALogin h auth) a b s t = one_log_in h auth a b s t

pub one_call : LinesHaveOneCall
one_call names handles l a b s t = one_wanted (wanted names handles l) a b s t

pub ruleset line_laws = (calls_end, lines_end, one_call)
