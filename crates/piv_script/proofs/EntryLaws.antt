-- An entry is read from its words and from no others.
use Rattle.std.proofs.Common.{◌≡◌, ◌<◌, ◌^◌, ◌++◌, ℕ, List, [], ◌∷◌, codes, Some, None, Option, refl, sym, ap, ◌∙◌, subst}
use Rattle.std.specs.Fmt.{decimal}
use Rattle.piv_model.specs.declared.kinds.Interface.{Interface}
use Rattle.piv_model.specs.declared.history.ActKind.{ActKind}
use Rattle.piv_model.specs.declared.history.ActKind.TheVariants as act
use Rattle.piv_model.specs.declared.history.Refusal.{Refusal}
use Rattle.piv_model.specs.Commands.{CardCommand}
use Rattle.piv_model.specs.Entries.{CardEntry, Opened, Closed, Call, Part, Rest, Bad, Reset, Cut, Up, Note}
use Rattle.line_words.specs.Words.{◌>>=◌, mode_word}
use Rattle.line_words.specs.Digits.{byte_text, status_text, bytes_text, upper_byte, status_word, body_word}
use Rattle.entry_text.specs.EntryTexts.{interface_name, refusal_name, act_words, command_words, entry_words, IsAct, IsEntry}
use Rattle.piv_script.specs.EntryReading.{connection_word, block_word, interface_word, took_word, refusal_word, opened_of, lone_connection, call_of, bad_of, reset_of, cut_of, up_of, lone_act, act_with, note_of, entry_of_words}
use Rattle.line_words.proofs.Steps.{some_same, bound, by_text, mode-spelled}
use Rattle.line_words.proofs.DigitLaws.{byte-found, byte-again, status-found, status-again, body-found, body-again}
use Rattle.piv_script.proofs.EntryWordLaws.{connection-found, connection-again, block-found, block-again, interface-found, interface-again, took-found, took-again, refusal-found, refusal-again, mode-again}

-- these words are this entry's
abbrev Spells : CardEntry → List (List ℕ) → Type 0
Spells e ws = (ws ≡ entry_words e) × IsEntry e

-- what was read is spelled so
abbrev Found : List ℕ → (List (List ℕ) → Option CardEntry) → Type 0
Found kind read = (rest : List (List ℕ)) (e : CardEntry) → read rest ≡ Some e → Spells e (kind ∷ rest)

is_it : (ws : List (List ℕ)) (made e : CardEntry) → Some made ≡ Some e → Spells made ws → Spells e ws
is_it ws made e same spells = subst (λ (x : CardEntry). Spells x ws) (some_same made e same) spells

opened-found : Found (codes "opened") opened_of
opened-found (c ∷ i ∷ m ∷ []) e h =
    let a = bound (connection_word c) _ e h in
    let b = bound (interface_word i) _ e a.next in
    let d = bound (mode_word m) _ e b.next in
    let ca = connection-found c a.value a.first in
    is_it _ (Opened a.value b.value d.value) e d.next (
      ap (λ (x : List ℕ). codes "opened" ∷ x ∷ i ∷ m ∷ []) ca.0
          ∙ ap (λ (x : List ℕ). codes "opened" ∷ decimal a.value ∷ x ∷ m ∷ []) (interface-found i b.value b.first)
          ∙ ap (λ (x : List ℕ). codes "opened" ∷ decimal a.value ∷ interface_name b.value ∷ x ∷ []) (mode-spelled m d.value d.first),
      ca.1,
    )
opened-found [] e h = cc
opened-found (c ∷ []) e h = cc
opened-found (c ∷ i ∷ []) e h = cc
opened-found (c ∷ i ∷ m ∷ x ∷ rest) e h = cc

lone-found : (kind : List ℕ) (make : ℕ → CardEntry) → ((c : ℕ) → c < 2 ^ 32 → Spells (make c) (kind ∷ decimal c ∷ []))
    → Found kind (λ rest. lone_connection rest >>= (λ c. Some (make c)))
lone-found kind make spells (c ∷ []) e h =
    let a = bound (connection_word c) (λ c. Some (make c)) e h in
    let ca = connection-found c a.value a.first in
    is_it _ (make a.value) e a.next (subst (λ (w : List ℕ). Spells (make a.value) (kind ∷ w ∷ [])) (sym ca.0) (spells a.value ca.1))
lone-found kind make spells [] e h = cc
lone-found kind make spells (c ∷ x ∷ rest) e h = cc

abbrev command : ℕ → ℕ → ℕ → List ℕ → CardCommand
command ins p1 p2 body = record { ins = ins; p1 = p1; p2 = p2; body = body }

-- the words of a command
same_command : (c ins p1 p2 body : List ℕ) (cv iv v1 v2 : ℕ) (bv : List ℕ) → c ≡ decimal cv → ins ≡ byte_text iv → p1 ≡ byte_text v1 → p2 ≡ byte_text v2 → body ≡ bytes_text bv
    → c ∷ ins ∷ p1 ∷ p2 ∷ body ∷ [] ≡ command_words cv (command iv v1 v2 bv)
same_command c ins p1 p2 body cv iv v1 v2 bv a b d f g = rw (a, b, d, f, g) refl

call-found : Found (codes "call") call_of
call-found (c ∷ ins ∷ p1 ∷ p2 ∷ body ∷ sw ∷ block ∷ []) e h =
    let a = bound (connection_word c) _ e h in
    let i = bound (upper_byte ins) _ e a.next in
    let x = bound (upper_byte p1) _ e i.next in
    let y = bound (upper_byte p2) _ e x.next in
    let b = bound (body_word body) _ e y.next in
    let s = bound (status_word sw) _ e b.next in
    let r = bound (block_word block) _ e s.next in
    let ca = connection-found c a.value a.first in
    let ia = byte-found ins i.value i.first in
    let xa = byte-found p1 x.value x.first in
    let ya = byte-found p2 y.value y.first in
    let ba = body-found body b.value b.first in
    let sa = status-found sw s.value s.first in
    let ra = block-found block r.value r.first in
    is_it _ (Call a.value (command i.value x.value y.value b.value) s.value r.value) e r.next (
      ap (λ (ws : List (List ℕ)). codes "call" ∷ ws ++ (sw ∷ block ∷ [])) (same_command c ins p1 p2 body a.value i.value x.value y.value b.value ca.0 ia.0 xa.0 ya.0 ba.0)
          ∙ ap (λ (w : List ℕ). codes "call" ∷ command_words a.value (command i.value x.value y.value b.value) ++ (w ∷ block ∷ [])) sa.0
          ∙ ap (λ (w : List ℕ). codes "call" ∷ command_words a.value (command i.value x.value y.value b.value) ++ (status_text s.value ∷ w ∷ [])) ra.0,
      (ca.1, record { ins = ia.1; p1 = xa.1; p2 = ya.1; body = ba.1 }, sa.1, ra.1),
    )
call-found [] e h = cc
call-found (c ∷ []) e h = cc
call-found (c ∷ ins ∷ []) e h = cc
call-found (c ∷ ins ∷ p1 ∷ []) e h = cc
call-found (c ∷ ins ∷ p1 ∷ p2 ∷ []) e h = cc
call-found (c ∷ ins ∷ p1 ∷ p2 ∷ body ∷ []) e h = cc
call-found (c ∷ ins ∷ p1 ∷ p2 ∷ body ∷ sw ∷ []) e h = cc
call-found (c ∷ ins ∷ p1 ∷ p2 ∷ body ∷ sw ∷ block ∷ x ∷ rest) e h = cc

bad-found : Found (codes "bad") bad_of
bad-found (c ∷ sw ∷ []) e h =
    let a = bound (connection_word c) _ e h in
    let s = bound (status_word sw) _ e a.next in
    let ca = connection-found c a.value a.first in
    let sa = status-found sw s.value s.first in
    is_it _ (Bad a.value s.value) e s.next
    (ap (λ (w : List ℕ). codes "bad" ∷ w ∷ sw ∷ []) ca.0 ∙ ap (λ (w : List ℕ). codes "bad" ∷ decimal a.value ∷ w ∷ []) sa.0, (ca.1, sa.1))
bad-found [] e h = cc
bad-found (c ∷ []) e h = cc
bad-found (c ∷ sw ∷ x ∷ rest) e h = cc

reset-found : Found (codes "reset") reset_of
reset-found (i ∷ []) e h =
    let a = bound (interface_word i) _ e h in
    is_it _ (Reset a.value) e a.next (ap (λ (w : List ℕ). codes "reset" ∷ w ∷ []) (interface-found i a.value a.first), tt)
reset-found [] e h = cc
reset-found (i ∷ x ∷ rest) e h = cc

cut-found : Found (codes "cut") cut_of
cut-found [] e h = is_it _ (Cut None) e h (refl, tt)
cut-found (c ∷ ins ∷ p1 ∷ p2 ∷ body ∷ []) e h =
    let a = bound (connection_word c) _ e h in
    let i = bound (upper_byte ins) _ e a.next in
    let x = bound (upper_byte p1) _ e i.next in
    let y = bound (upper_byte p2) _ e x.next in
    let b = bound (body_word body) _ e y.next in
    let ca = connection-found c a.value a.first in
    let ia = byte-found ins i.value i.first in
    let xa = byte-found p1 x.value x.first in
    let ya = byte-found p2 y.value y.first in
    let ba = body-found body b.value b.first in
    is_it _ (Cut (Some (a.value, command i.value x.value y.value b.value))) e b.next (
      ap (λ (ws : List (List ℕ)). codes "cut" ∷ ws) (same_command c ins p1 p2 body a.value i.value x.value y.value b.value ca.0 ia.0 xa.0 ya.0 ba.0),
      (ca.1, record { ins = ia.1; p1 = xa.1; p2 = ya.1; body = ba.1 }),
    )
cut-found (c ∷ []) e h = cc
cut-found (c ∷ ins ∷ []) e h = cc
cut-found (c ∷ ins ∷ p1 ∷ []) e h = cc
cut-found (c ∷ ins ∷ p1 ∷ p2 ∷ []) e h = cc
cut-found (c ∷ ins ∷ p1 ∷ p2 ∷ body ∷ x ∷ rest) e h = cc

up-found : Found (codes "up") up_of
up-found (t ∷ []) e h =
    let a = bound (took_word t) _ e h in
    is_it _ (Up a.value) e a.next (ap (λ (w : List ℕ). codes "up" ∷ w ∷ []) (took-found t a.value a.first), tt)
up-found [] e h = cc
up-found (t ∷ x ∷ rest) e h = cc

-- ---- notes

abbrev ActSpells : ActKind → List (List ℕ) → Type 0
ActSpells a ws = (ws ≡ act_words a) × IsAct a

act_is : (ws : List (List ℕ)) (made a : ActKind) → Some made ≡ Some a → ActSpells made ws → ActSpells a ws
act_is ws made a same spells = subst (λ (x : ActKind). ActSpells x ws) (some_same made a same) spells

lone_act-found : (w : List ℕ) (a : ActKind) → lone_act w ≡ Some a → ActSpells a (w ∷ [])
lone_act-found w a =
    by_text (λ x v. ActSpells x (v ∷ [])) w (codes "cut") _ _ a (λ h. act_is _ act.Cut a h (refl, tt))
    (by_text (λ x v. ActSpells x (v ∷ [])) w (codes "power") _ _ a (λ h. act_is _ act.Power a h (refl, tt)) (λ h. cc))

with_interface : (kind of : List ℕ) (make : Interface → ActKind) (a : ActKind) → ((i : Interface) → ActSpells (make i) (kind ∷ interface_name i ∷ []))
    → (interface_word of >>= (λ i. Some (make i))) ≡ Some a → ActSpells a (kind ∷ of ∷ [])
with_interface kind of make a spells h =
    let b = bound (interface_word of) (λ i. Some (make i)) a h in
    act_is _ (make b.value) a b.next (subst (λ (w : List ℕ). ActSpells (make b.value) (kind ∷ w ∷ [])) (sym (interface-found of b.value b.first)) (spells b.value))

with_number : (kind of : List ℕ) (make : ℕ → ActKind) (a : ActKind) → ((c : ℕ) → c < 2 ^ 32 → ActSpells (make c) (kind ∷ decimal c ∷ []))
    → (connection_word of >>= (λ c. Some (make c))) ≡ Some a → ActSpells a (kind ∷ of ∷ [])
with_number kind of make a spells h =
    let b = bound (connection_word of) (λ c. Some (make c)) a h in
    let ca = connection-found of b.value b.first in
    act_is _ (make b.value) a b.next (subst (λ (w : List ℕ). ActSpells (make b.value) (kind ∷ w ∷ [])) (sym ca.0) (spells b.value ca.1))

act_with-found : (w of : List ℕ) (a : ActKind) → act_with w of ≡ Some a → ActSpells a (w ∷ of ∷ [])
act_with-found w of a =
    by_text (λ x v. ActSpells x (v ∷ of ∷ [])) w (codes "connect") _ _ a (with_interface (codes "connect") of act.Connect a (λ i. (refl, tt)))
    (by_text (λ x v. ActSpells x (v ∷ of ∷ [])) w (codes "disconnect") _ _ a (with_number (codes "disconnect") of act.Disconnect a (λ c small. (refl, small)))
    (by_text (λ x v. ActSpells x (v ∷ of ∷ [])) w (codes "exchange") _ _ a (with_number (codes "exchange") of act.Exchange a (λ c small. (refl, small)))
    (by_text (λ x v. ActSpells x (v ∷ of ∷ [])) w (codes "reset") _ _ a (with_interface (codes "reset") of act.Reset a (λ i. (refl, tt))) (λ h. cc))))

-- a note of an act's words and an answer
noted : (ws : List (List ℕ)) (answer : List ℕ) (a : ActKind) (r : Refusal) → ActSpells a ws → answer ≡ refusal_name r → Spells (Note a r) (codes "note" ∷ ws ++ (answer ∷ []))
noted ws answer a r spells is =
    (ap (λ (xs : List (List ℕ)). codes "note" ∷ xs ++ (answer ∷ [])) spells.0 ∙ ap (λ (w : List ℕ). codes "note" ∷ act_words a ++ (w ∷ [])) is, spells.1)

note-found : Found (codes "note") note_of
note-found (w ∷ answer ∷ []) e h =
    let a = bound (lone_act w) _ e h in
    let r = bound (refusal_word answer) _ e a.next in
    is_it _ (Note a.value r.value) e r.next (noted (w ∷ []) answer a.value r.value (lone_act-found w a.value a.first) (refusal-found answer r.value r.first))
note-found (w ∷ of ∷ answer ∷ []) e h =
    let a = bound (act_with w of) _ e h in
    let r = bound (refusal_word answer) _ e a.next in
    is_it _ (Note a.value r.value) e r.next (noted (w ∷ of ∷ []) answer a.value r.value (act_with-found w of a.value a.first) (refusal-found answer r.value r.first))
note-found [] e h = cc
note-found (w ∷ []) e h = cc
note-found (w ∷ of ∷ answer ∷ x ∷ rest) e h = cc

pub entry-found : (ws : List (List ℕ)) (e : CardEntry) → entry_of_words ws ≡ Some e → (ws ≡ entry_words e) × IsEntry e
entry-found [] e h = cc
entry-found (kind ∷ rest) e h =
    let P : CardEntry → List ℕ → Type 0 = λ x w. Spells x (w ∷ rest) in
    by_text P kind (codes "opened") _ _ e (opened-found rest e)
    (by_text P kind (codes "closed") _ _ e (lone-found (codes "closed") Closed (λ c small. (refl, small)) rest e)
    (by_text P kind (codes "call") _ _ e (call-found rest e)
    (by_text P kind (codes "part") _ _ e (lone-found (codes "part") Part (λ c small. (refl, small)) rest e)
    (by_text P kind (codes "rest") _ _ e (lone-found (codes "rest") Rest (λ c small. (refl, small)) rest e)
    (by_text P kind (codes "bad") _ _ e (bad-found rest e)
    (by_text P kind (codes "reset") _ _ e (reset-found rest e)
    (by_text P kind (codes "cut") _ _ e (cut-found rest e)
    (by_text P kind (codes "up") _ _ e (up-found rest e)
    (by_text P kind (codes "note") _ _ e (note-found rest e) (λ none. cc)))))))))) h

-- ---- what is spelled so is read

pub entry-again : (e : CardEntry) → IsEntry e → entry_of_words (entry_words e) ≡ Some e
entry-again (Opened c i shared) h = rw (connection-again c h, interface-again i, mode-again shared) refl
entry-again (Closed c) h = rw (connection-again c h) refl
entry-again (Call c k sw block) h =
    rw (connection-again c h.0, byte-again k.ins h.1.ins, byte-again k.p1 h.1.p1, byte-again k.p2 h.1.p2, body-again k.body h.1.body, status-again sw h.2, block-again block h.3) refl
entry-again (Part c) h = rw (connection-again c h) refl
entry-again (Rest c) h = rw (connection-again c h) refl
entry-again (Bad c sw) h = rw (connection-again c h.0, status-again sw h.1) refl
entry-again (Reset i) h = rw (interface-again i) refl
entry-again (Cut None) h = refl
entry-again (Cut (Some r)) h =
    rw (connection-again r.0 h.0, byte-again r.1.ins h.1.ins, byte-again r.1.p1 h.1.p1, byte-again r.1.p2 h.1.p2, body-again r.1.body h.1.body) refl
entry-again (Up took) h = rw (took-again took) refl
entry-again (Note (act.Connect i) answer) h = rw (interface-again i, refusal-again answer) refl
entry-again (Note (act.Disconnect c) answer) h = rw (connection-again c h, refusal-again answer) refl
entry-again (Note (act.Exchange c) answer) h = rw (connection-again c h, refusal-again answer) refl
entry-again (Note (act.Reset i) answer) h = rw (interface-again i, refusal-again answer) refl
entry-again (Note act.Cut answer) h = rw (refusal-again answer) refl
entry-again (Note act.Power answer) h = rw (refusal-again answer) refl
