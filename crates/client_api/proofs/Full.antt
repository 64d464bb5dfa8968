-- A call with a turn answers TranscriptFull only where its last turn was answered Full.
use Rattle.std.specs.Prelude.{IsSome, ◌||◌}
use Rattle.std.proofs.Common.{◌≡◌, ◌≢◌, ℕ, Bool, true, false, cond, eqb, List, [], ◌∷◌, Option, Some, None, refl}
use Rattle.piv_model.specs.declared.answers.ApiAnswer.{ApiAnswer}
use Rattle.piv_model.specs.declared.answers.ApiAnswer.TheVariants as api
use Rattle.piv_rules.specs.Acts as acts
use Rattle.card_acts.specs.Acts.{Heard}
use Rattle.client_api.specs.Calls as calls
use Rattle.client_api.specs.Calls.{Handle, Call, Replies, sends, joined}
use Rattle.client_api.specs.Answers.{plain, by_key, key_rule, by_word, by_reply, by_told, by_switch, was_idle, api_answer}

abbrev IsOther : ApiAnswer → Type 0
IsOther a = a ≢ api.TranscriptFull

one_of : (b : Bool) (x y : ApiAnswer) → IsOther x → IsOther y → IsOther (cond b x y)
one_of true x y p q = p
one_of false x y p q = q

plain_other : (body : List ℕ) (word : ℕ) → IsOther (plain body word)
plain_other body word = one_of (eqb word 0x9000) _ _ (λ e. absurd (cc)) (λ e. absurd (cc))

key_other : (h : Handle) (body : List ℕ) (word : ℕ) → IsOther (by_key h body word)
key_other h body word =
    one_of (eqb word 0x6982) (api.SecurityConditions (key_rule h.interface)) _ (λ e. absurd (cc))
    (one_of (eqb word 0x6A86) api.InvalidKeyrefOrAlgorithm _ (λ e. absurd (cc))
    (one_of (eqb word 0x6A80) api.InputBytesMalformed _ (λ e. absurd (cc)) (plain_other body word)))

word_other : (call : Call) (all body : List ℕ) (word : ℕ) → IsOther (by_word call all body word)
word_other (calls.Decided a h) all body word = plain_other [] word
word_other (calls.Connect card interface shared) all body word = plain_other [] word
word_other (calls.Disconnect h) all body word = plain_other [] word
word_other (calls.Select h aid) all body word = one_of (eqb word 0x6A82) _ _ (λ e. absurd (cc)) (plain_other body word)
word_other (calls.LogIn h list) all body word = one_of (eqb word 0x9000) _ _ (λ e. absurd (cc)) (λ e. absurd (cc))
word_other (calls.LogOut h) all body word = plain_other [] word
word_other (calls.Get h place) all body word =
    one_of (eqb word 0x6982) _ _ (λ e. absurd (cc)) (one_of (eqb word 0x6A82) _ _ (λ e. absurd (cc)) (plain_other all word))
word_other (calls.Put h element) all body word =
    one_of (eqb word 0x6982) _ _ (λ e. absurd (cc)) (one_of (eqb word 0x6A84) _ _ (λ e. absurd (cc)) (plain_other [] word))
word_other (calls.Crypt h algorithm key input) all body word = key_other h body word
word_other (calls.Admin h algorithm key) all body word = key_other h [] word
word_other (calls.Transmit h bytes) all body word = plain_other [] word
word_other (calls.Switch card act) all body word = plain_other [] word

reply_other : (call : Call) (all : List ℕ) (idle : Bool) (body : List ℕ) (word : ℕ) → IsOther (by_reply call all idle body word)
reply_other (calls.Decided a h) all idle body word = one_of (idle || eqb word 0x6D00) _ _ (λ e. absurd (cc)) (word_other (calls.Decided a h) all body word)
reply_other (calls.Connect card interface shared) all idle body word = plain_other [] word
reply_other (calls.Disconnect h) all idle body word = plain_other [] word
reply_other (calls.Select h aid) all idle body word = one_of (idle || eqb word 0x6D00) _ _ (λ e. absurd (cc)) (word_other (calls.Select h aid) all body word)
reply_other (calls.LogIn h list) all idle body word = one_of (idle || eqb word 0x6D00) _ _ (λ e. absurd (cc)) (word_other (calls.LogIn h list) all body word)
reply_other (calls.LogOut h) all idle body word = one_of (idle || eqb word 0x6D00) _ _ (λ e. absurd (cc)) (word_other (calls.LogOut h) all body word)
reply_other (calls.Get h place) all idle body word = one_of (idle || eqb word 0x6D00) _ _ (λ e. absurd (cc)) (word_other (calls.Get h place) all body word)
reply_other (calls.Put h element) all idle body word = one_of (idle || eqb word 0x6D00) _ _ (λ e. absurd (cc)) (word_other (calls.Put h element) all body word)
reply_other (calls.Crypt h algorithm key input) all idle body word = one_of (idle || eqb word 0x6D00) _ _ (λ e. absurd (cc)) (word_other (calls.Crypt h algorithm key input) all body word)
reply_other (calls.Admin h algorithm key) all idle body word = one_of (idle || eqb word 0x6D00) _ _ (λ e. absurd (cc)) (word_other (calls.Admin h algorithm key) all body word)
reply_other (calls.Transmit h bytes) all idle body word = λ e. absurd (cc)
reply_other (calls.Switch card act) all idle body word = one_of (idle || eqb word 0x6D00) _ _ (λ e. absurd (cc)) (word_other (calls.Switch card act) all body word)

told_full : (r : Heard) (reply : List ℕ → ℕ → ApiAnswer) → ((body : List ℕ) (word : ℕ) → IsOther (reply body word)) → by_told r reply ≡ api.TranscriptFull → r ≡ None
told_full None reply other e = refl
told_full (Some acts.Off) reply other e = absurd (cc)
told_full (Some acts.NoChannel) reply other e = absurd (cc)
told_full (Some acts.Locked) reply other e = absurd (cc)
told_full (Some acts.NoConnection) reply other e = absurd (cc)
told_full (Some (acts.Mute epoch)) reply other e = absurd (cc)
told_full (Some (acts.Stale epoch)) reply other e = absurd (cc)
told_full (Some (acts.Replied body word)) reply other e = absurd (other body word e)
told_full (Some (acts.Connected c epoch)) reply other e = absurd (cc)
told_full (Some acts.Disconnected) reply other e = absurd (cc)
told_full (Some acts.On) reply other e = absurd (cc)
told_full (Some acts.WasReset) reply other e = absurd (cc)
told_full (Some acts.WasCut) reply other e = absurd (cc)
told_full (Some (acts.IsUp took)) reply other e = absurd (cc)

switch_full : (r : Heard) → by_switch r ≡ api.TranscriptFull → r ≡ None
switch_full None e = refl
switch_full (Some acts.Off) e = absurd (cc)
switch_full (Some acts.On) e = absurd (cc)
switch_full (Some acts.NoChannel) e = absurd (cc)
switch_full (Some acts.Locked) e = absurd (cc)
switch_full (Some acts.NoConnection) e = absurd (cc)
switch_full (Some (acts.Mute epoch)) e = absurd (cc)
switch_full (Some (acts.Stale epoch)) e = absurd (cc)
switch_full (Some (acts.IsUp took)) e = absurd (cc)
switch_full (Some (acts.Replied body word)) e = absurd (cc)
switch_full (Some (acts.Connected c epoch)) e = absurd (cc)
switch_full (Some acts.Disconnected) e = absurd (cc)
switch_full (Some acts.WasReset) e = absurd (cc)
switch_full (Some acts.WasCut) e = absurd (cc)

pub full_alone : (call : Call) (r : Heard) (rs : Replies) → IsSome (sends call rs) → api_answer call (r ∷ rs) ≡ api.TranscriptFull → r ≡ None
full_alone (calls.Decided a h) r [] s e = absurd (cc)
full_alone (calls.Decided a h) r (q ∷ rs) s e = absurd (cc)
full_alone (calls.Connect c i b) r rs s e = told_full r _ (reply_other (calls.Connect c i b) (joined (calls.Connect c i b) (r ∷ rs)) (was_idle (calls.Connect c i b) rs)) e
full_alone (calls.Disconnect h) r rs s e = told_full r _ (reply_other (calls.Disconnect h) (joined (calls.Disconnect h) (r ∷ rs)) (was_idle (calls.Disconnect h) rs)) e
full_alone (calls.Select h aid) r rs s e = told_full r _ (reply_other (calls.Select h aid) (joined (calls.Select h aid) (r ∷ rs)) (was_idle (calls.Select h aid) rs)) e
full_alone (calls.LogIn h list) r rs s e = told_full r _ (reply_other (calls.LogIn h list) (joined (calls.LogIn h list) (r ∷ rs)) (was_idle (calls.LogIn h list) rs)) e
full_alone (calls.LogOut h) r rs s e = told_full r _ (reply_other (calls.LogOut h) (joined (calls.LogOut h) (r ∷ rs)) (was_idle (calls.LogOut h) rs)) e
full_alone (calls.Get h place) r rs s e = told_full r _ (reply_other (calls.Get h place) (joined (calls.Get h place) (r ∷ rs)) (was_idle (calls.Get h place) rs)) e
full_alone (calls.Put h element) r rs s e = told_full r _ (reply_other (calls.Put h element) (joined (calls.Put h element) (r ∷ rs)) (was_idle (calls.Put h element) rs)) e
full_alone (calls.Crypt h algorithm key input) r rs s e = told_full r _ (reply_other (calls.Crypt h algorithm key input) (joined (calls.Crypt h algorithm key input) (r ∷ rs)) (was_idle (calls.Crypt h algorithm key input) rs)) e
full_alone (calls.Admin h algorithm key) r rs s e = told_full r _ (reply_other (calls.Admin h algorithm key) (joined (calls.Admin h algorithm key) (r ∷ rs)) (was_idle (calls.Admin h algorithm key) rs)) e
full_alone (calls.Transmit h bytes) r rs s e = told_full r _ (reply_other (calls.Transmit h bytes) (joined (calls.Transmit h bytes) (r ∷ rs)) (was_idle (calls.Transmit h bytes) rs)) e
full_alone (calls.Switch c act) r rs s e = switch_full r e
