-- The memory of a card over a history.
use Rattle.std.specs.Prelude.{if◌then◌else◌, IsTrue, ◌||◌, is_some, option_map}
use Rattle.std.proofs.Common.{◌≡◌, ℕ, Bool, true, false, List, [], ◌∷◌, Option, Some, None, refl, ap, sym, ◌∙◌, subst}
use Rattle.piv_model.specs.declared.kinds.RefId.TheVariants.{Pin}
use Rattle.piv_model.specs.declared.kinds.KeyId.{KeyId}
use Rattle.piv_model.specs.declared.kinds.KeyId.TheVariants.{AdminKey, CardAuth}
use Rattle.piv_model.specs.declared.kinds.Took.{Took}
use Rattle.piv_model.specs.declared.kinds.Took.TheVariants.{Nothing, Spent, Done}
use Rattle.piv_model.specs.Commands.{CardCommand}
use Rattle.piv_model.specs.Changes.{change_reference, full}
use Rattle.piv_model.specs.Entries.{CardEntry, Past, Opened, Closed, Call, Part, Rest, Bad, Reset, Cut, Up, Note}
use Rattle.piv_model.specs.Memory.{Memory, fits, key_at}
use Rattle.piv_model.specs.Sound.{IsSound, may_stand}
use Rattle.piv_model.specs.Base.{Base, Profile, profile}
use Rattle.piv_model.proofs.Soundness.{sound_spent, sound_filled, sound_renewed, sound_put}
use Rattle.piv_rules.specs.StatusWords.{is_granted, is_mismatched}
use Rattle.piv_rules.specs.Asks.{Ask, Put, Compare, Verify, Change, Unblock, ask}
use Rattle.piv_rules.specs.Connections.{on}
use Rattle.piv_rules.specs.Effects.{memory_after, took_by}
use Rattle.piv_rules.specs.Memories.{running, mem, did}
use Rattle.piv_rules.specs.Answers.{answer, answer_to, Reply, situation_of}
use Rattle.piv_rules.specs.Legal.{IsLegal, IsAllowed}
use Rattle.piv_rules.proofs.Memories.{mem-step, profile_of-mem}
use Rattle.card_laws.specs.LossLaws.{before_loss}
use Rattle.card_laws.proofs.LossLaws.{StartsWithTheBase-law, OffLeavesTheMemory-law}
use Rattle.command_laws.proofs.WordLaws.{PutWords-law}
use Rattle.login_laws.specs.AskLaws.{IsProper}
use Rattle.login_laws.proofs.Asking.{AsksAreProper-law}
use Rattle.login_laws.proofs.Bools.{not-true, granted-word}
use Rattle.login_laws.proofs.Writers.{other-command, writer-answer}
use Rattle.history_laws.specs.MemoryLaws.{MemoriesAreSound, SomeThingsLast}
use Rattle.history_laws.proofs.Recovery.{lost-allowed, put-granted}

-- what a command did keeps a memory sound, where a value that was put had room
after-sound : (B : Base) (a : Ask) (t : Took) (m : Memory) → IsSound m → is_some m.global ≡ is_some B.memory.global → IsProper B.memory a
    → ((id : ℕ) (v : List ℕ) → t ≡ Done → a ≡ Put id v → fits m v ≡ true) → IsSound (memory_after a t m)
after-sound B (Compare r p Verify) Done m sound global h room = sound_filled r m sound
after-sound B (Compare r p Verify) Spent m sound global h room = sound_spent r m sound
after-sound B (Compare r p Verify) Nothing m sound global h room = sound
after-sound B (Compare r p (Change n)) Done m sound global h room = sound_renewed r n m h.2 sound
after-sound B (Compare r p (Change n)) Spent m sound global h room = sound_spent r m sound
after-sound B (Compare r p (Change n)) Nothing m sound global h room = sound
after-sound B (Compare r p (Unblock n)) Done m sound global h room = sound_renewed Pin n (change_reference r full m) h.2.1 (sound_filled r m sound)
after-sound B (Compare r p (Unblock n)) Spent m sound global h room = sound_spent r m sound
after-sound B (Compare r p (Unblock n)) Nothing m sound global h room = sound
after-sound B (Put id v) Done m sound global h room =
    sound_put id v m (room id v refl refl) (subst (λ g. IsTrue (may_stand g id v)) (sym global) h.1) sound
after-sound B (Put id v) Spent m sound global h room = sound
after-sound B (Put id v) Nothing m sound global h room = sound
after-sound B a t m sound global h room = sound

same-global : (B : Base) (H : Past) → is_some (mem B H).global ≡ is_some B.memory.global
same-global B H = ap (λ (p : Profile). p.has_global) (profile_of-mem B H)

-- ---- room

put-room : (B : Base) (H : Past) (c : ℕ) (k : CardCommand) (id : ℕ) (v : List ℕ) → ask (profile B) k ≡ Put id v → (answer B H c k).word ≡ 0x9000
    → fits (mem B H) v ≡ true
put-room B H c k id v asks granted = ((PutWords-law B H c id v k (other-command (profile B) k (Put id v) asks refl, asks)).served.0 granted).2

took-done : (word : ℕ) → took_by word ≡ Done → word ≡ 0x9000
took-done word h = go (is_granted word) (is_mismatched word) refl h
  where
    go : (g m : Bool) → is_granted word ≡ g → (if g then Done else if m then Spent else Nothing) ≡ Done → word ≡ 0x9000
    go true m e j = granted-word word e
    go false true e j = absurd (let f = ap is_done j in cc)
      where
        is_done : Took → Bool
        is_done Done = true
        is_done t = false
    go false false e j = absurd (let f = ap is_done j in cc)
      where
        is_done : Took → Bool
        is_done Done = true
        is_done t = false

lost-room : (B : Base) (H : Past) (r : ℕ × CardCommand) (id : ℕ) (v : List ℕ) → IsLegal B H → on H ≡ false → running H ≡ Some r
    → ask (profile B) r.1 ≡ Put id v → fits (mem B H) v ≡ true
lost-room B H r id v legal off was asks =
    let allowed = lost-allowed B H r legal off was in
    let G = before_loss H in
    let e = ap (λ (x : Reply). x.word) (writer-answer B G r.0 r.1 allowed.2 ∙ ap (λ a. answer_to (situation_of B G r.0) a) asks) in
    let granted = e ∙ put-granted (situation_of B G r.0) id v (sym (ap (λ w. is_granted w || is_mismatched w) e) ∙ allowed.3) in
    ap (λ m. fits m v) (OffLeavesTheMemory-law B H legal off) ∙ put-room B G r.0 r.1 id v asks granted

-- ---- one entry

unmoved : (B : Base) (H : Past) (e : CardEntry) → did H e ≡ None → IsSound (mem B H) → IsSound (mem B (e ∷ H))
unmoved B H e none sound = subst IsSound (sym (mem-step B H e ∙ rw none refl)) sound

sound-entry : (B : Base) (H : Past) (e : CardEntry) → IsLegal B H → IsAllowed B H e → IsSound (mem B H) → IsSound (mem B (e ∷ H))
sound-entry B H (Call c k word block) legal allowed sound =
    subst IsSound (sym (mem-step B H (Call c k word block)))
    (after-sound B (ask (profile B) k) (took_by word) (mem B H) sound (same-global B H) (AsksAreProper-law B k)
    (λ id v done asks. put-room B H c k id v asks (sym allowed.2 ∙ took-done word done)))
sound-entry B H (Up t) legal allowed sound = go (running H) refl
  where
    go : (o : Option (ℕ × CardCommand)) → running H ≡ o → IsSound (mem B (Up t ∷ H))
    go None was = unmoved B H (Up t) (ap (option_map (λ (r : ℕ × CardCommand). (r.1, t))) was) sound
    go (Some r) was =
        subst IsSound (sym (mem-step B H (Up t) ∙ rw was refl))
        (after-sound B (ask (profile B) r.1) t (mem B H) sound (same-global B H) (AsksAreProper-law B r.1)
        (λ id v done asks. lost-room B H r id v legal (not-true (on H) allowed.0) was asks))
sound-entry B H (Opened c i shared) legal allowed sound = unmoved B H _ refl sound
sound-entry B H (Closed c) legal allowed sound = unmoved B H _ refl sound
sound-entry B H (Part c) legal allowed sound = unmoved B H _ refl sound
sound-entry B H (Rest c) legal allowed sound = unmoved B H _ refl sound
sound-entry B H (Bad c word) legal allowed sound = unmoved B H _ refl sound
sound-entry B H (Reset i) legal allowed sound = unmoved B H _ refl sound
sound-entry B H (Cut r) legal allowed sound = unmoved B H _ refl sound
sound-entry B H (Note a w) legal allowed sound = unmoved B H _ refl sound

pub MemoriesAreSound-law : MemoriesAreSound
MemoriesAreSound-law B [] sound legal = subst IsSound (sym (StartsWithTheBase-law B sound.places)) sound
MemoriesAreSound-law B (e ∷ H) sound legal = sound-entry B H e legal.0 legal.1 (MemoriesAreSound-law B H sound legal.0)

pub SomeThingsLast-law : SomeThingsLast
unfolding mem
SomeThingsLast-law B H = record { keys = keys; budget = refl; profile = profile_of-mem B H }
  where
    keys : (key : KeyId) → key_at (mem B H) key ≡ key_at B.memory key
    keys AdminKey = refl
    keys CardAuth = refl

pub ruleset memory_laws = (MemoriesAreSound-law, SomeThingsLast-law)
