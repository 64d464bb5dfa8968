-- Dashes begin at a command that may lose power.
use Rattle.std.specs.Prelude.{◌||◌, ◌-◌, length, take, if◌then◌else◌}
use Rattle.std.specs.List.{slice_split}
use Rattle.std.proofs.Common.{◌≡◌, ◌⊎◌, ℕ, Bool, true, false, List, [], ◌∷◌, ◌++◌, Option, Some, None, refl, ap, sym, subst, ◌∙◌, inl, inr}
use Rattle.piv_model.specs.StatusWords.{piece_word}
use Rattle.piv_model.specs.declared.history.ActKind.TheVariants as kind
use Rattle.piv_model.specs.declared.history.Refusal.{Refusal}
use Rattle.piv_model.specs.declared.history.Refusal.TheVariants as why
use Rattle.piv_model.specs.Base.{Base}
use Rattle.piv_model.specs.Commands.{CardCommand}
use Rattle.piv_model.specs.Entries.{CardEntry, Past, Part, Rest, Bad, Cut, Note}
use Rattle.piv_rules.specs.Acts.{CardAnswer, Exchange, Replied, CardRecord, Records, entries}
use Rattle.piv_rules.specs.Answers.{Reply, answer}
use Rattle.piv_rules.specs.Connections.{on, is_open, side, epoch}
use Rattle.piv_rules.specs.Frames.{Frame, BadFrame, PartFrame, RestFrame, WholeFrame, frame}
use Rattle.piv_rules.specs.Legal.{IsAllowed}
use Rattle.piv_rules.specs.StatusWords.{is_granted}
use Rattle.piv_rules.specs.Turns.{IsTurned, IsTurnedBy, IsExchanged, called, cut_reply, refused}
use Rattle.piv_cli.specs.Lines.{Line, Empty, Garbled, Command, LineWrites, LinesWrite, AreLines, has_dash, is_newline, kept, opened_first, spelled, text_line}
use Rattle.piv_cli.specs.Losses.{LosesPowerOnce}
use Rattle.piv_cli.specs.OutputLaws.{DashesBeginAtALoss}
use Rattle.piv_cli.proofs.DashLaws.{dash-append, reply-no-dash}
use Rattle.piv_cli.proofs.ExchangeLaws.{epoch-kept}

-- connection 1 can be used
record IsReadyFor (H : Past) : Type 0 where
  pub opened : is_open H 1 ≡ true
  pub powered : on H ≡ true
  pub fresh : epoch H (side H 1) ≡ 0

-- power was lost, and connection 1 is mute
record IsMuteAfter (B : Base) (R : Records) : Type 0 where
  pub once : LosesPowerOnce B R
  pub opened : is_open (entries R) 1 ≡ true
  pub off : on (entries R) ≡ false

abbrev IsHeard : CardAnswer → Type 0
IsHeard a = has_dash (spelled a ++ 10 ∷ []) ≡ false

reply-heard : (body : List ℕ) (word : ℕ) → IsHeard (Replied body word)
reply-heard body word = reply-no-dash _

either-heard : (b : Bool) (x y : CardAnswer) → IsHeard x → IsHeard y → IsHeard (if b then x else y)
either-heard true x y h k = h
either-heard false x y h k = k

cut-heard : (r : Reply) (most : ℕ) → IsHeard (cut_reply r most)
cut-heard r most = either-heard (is_granted r.word) _ _ (reply-heard (take most r.body) (piece_word (length r.body - most))) (reply-heard [] r.word)

-- ---- one exchange while the power is on

abbrev Goes : Base → Past → CardEntry → CardAnswer → Type 0
Goes B H e a = (IsReadyFor (e ∷ H) × IsHeard a) ⊎ ((k : CardCommand) × (e ≡ Cut (Some (1, k))) × IsAllowed B H e)

goes : (B : Base) (H : Past) (f : Frame) (e : CardEntry) (a : CardAnswer) → IsReadyFor H → IsExchanged B H 1 f e a → Goes B H e a
goes B H (BadFrame w) e a ready (is, told) =
    rw (is, told) (inl (record { opened = ready.opened; powered = ready.powered; fresh = epoch-kept (Bad 1 w) H (side H 1) refl ∙ ready.fresh }, reply-heard [] w))
goes B H PartFrame e a ready (is, told) =
    rw (is, told) (inl (record { opened = ready.opened; powered = ready.powered; fresh = epoch-kept (Part 1) H (side H 1) refl ∙ ready.fresh }, reply-heard [] 0x9000))
goes B H (RestFrame piece w) e a ready (is, told) =
    rw (is, told) (inl (record { opened = ready.opened; powered = ready.powered; fresh = epoch-kept (Rest 1) H (side H 1) refl ∙ ready.fresh }, reply-heard piece w))
goes B H (WholeFrame k most) e a ready (inl (is, told)) =
    rw (is, told) (inl (record { opened = ready.opened; powered = ready.powered; fresh = epoch-kept (called B H 1 k) H (side H 1) refl ∙ ready.fresh }, cut-heard (answer B H 1 k) most))
goes B H (WholeFrame k most) e a ready (inr (is, allowed, told)) = inr (k, is, allowed)

granted : (H : Past) (bytes : List ℕ) → IsReadyFor H → refused H (Exchange 1 0 bytes) ≡ None
granted H bytes ready = rw (ready.opened, ready.powered, ready.fresh) refl

muted : (H : Past) (bytes : List ℕ) → is_open H 1 ≡ true → on H ≡ false → refused H (Exchange 1 0 bytes) ≡ Some why.Mute
muted H bytes opened off = rw (opened, off) refl

turned-on : (B : Base) (R : Records) (r : CardRecord) (bytes : List ℕ) → r.act ≡ Exchange 1 0 bytes → IsReadyFor (entries R)
    → IsTurned B R r → Goes B (entries R) r.entry r.answer
turned-on B R r bytes act ready turned =
    goes B (entries R) (frame B R 1 bytes) r.entry r.answer ready
    (subst (λ (o : Option Refusal). IsTurnedBy o B R (Exchange 1 0 bytes) r.entry r.answer) (granted (entries R) bytes ready) (rw act at turned))

turned-off : (B : Base) (R : Records) (r : CardRecord) (bytes : List ℕ) → r.act ≡ Exchange 1 0 bytes
    → is_open (entries R) 1 ≡ true → on (entries R) ≡ false → IsTurned B R r → r.entry ≡ Note (kind.Exchange 1) why.Mute
turned-off B R r bytes act opened off turned =
    (subst (λ (o : Option Refusal). IsTurnedBy o B R (Exchange 1 0 bytes) r.entry r.answer) (muted (entries R) bytes opened off) (rw act at turned)).0

-- ---- one line

-- the lines so far were answered, or power was lost among them
abbrev SoFarOf : Base → Records → List ℕ → Type 0
SoFarOf B R out = (IsReadyFor (entries R) × (has_dash out ≡ false)) ⊎ IsMuteAfter B R

lost-now : (B : Base) (R : Records) (r : CardRecord) (k : CardCommand) → IsReadyFor (entries R) → r.entry ≡ Cut (Some (1, k))
    → IsAllowed B (entries R) r.entry → IsMuteAfter B (r ∷ R)
lost-now B R r k ready is allowed = record {
  once = record {
    later = [];
    lost = r;
    earlier = R;
    command = k;
    split = refl;
    entry = is;
    allowed = allowed;
    powered = ready.powered;
    mute = tt;
  };
  opened = rw is ready.opened;
  off = rw is refl;
}

mute-still : (B : Base) (R : Records) (r : CardRecord) → IsMuteAfter B R → r.entry ≡ Note (kind.Exchange 1) why.Mute → IsMuteAfter B (r ∷ R)
mute-still B R r so is = record {
  once = record {
    later = r ∷ so.once.later;
    lost = so.once.lost;
    earlier = so.once.earlier;
    command = so.once.command;
    split = ap (λ (x : Records). r ∷ x) so.once.split;
    entry = so.once.entry;
    allowed = so.once.allowed;
    powered = so.once.powered;
    mute = (is, so.once.mute);
  };
  opened = rw is so.opened;
  off = rw is so.off;
}

ready-line : (B : Base) (R : Records) (line : Line) (out : List ℕ) (S : Records) → IsReadyFor (entries R) → LineWrites B R line out S → SoFarOf B S out
ready-line B R Empty out S ready (none, same) = inl (subst (λ (x : Records). IsReadyFor (entries x)) (sym same) ready, ap has_dash none)
ready-line B R Garbled out S ready (is, same) = inl (subst (λ (x : Records). IsReadyFor (entries x)) (sym same) ready, ap has_dash is)
ready-line B R (Command bytes) out S ready (r, act, turned, after, written) =
    subst (λ (x : Records). SoFarOf B x out) (sym after) (by-turn (turned-on B R r bytes act ready turned))
  where
    by-turn : Goes B (entries R) r.entry r.answer → SoFarOf B (r ∷ R) out
    by-turn (inl (still, heard)) = inl (still, ap has_dash written ∙ heard)
    by-turn (inr (k, is, allowed)) = inr (lost-now B R r k ready is allowed)

mute-line : (B : Base) (R : Records) (line : Line) (out : List ℕ) (S : Records) → IsMuteAfter B R → LineWrites B R line out S → IsMuteAfter B S
mute-line B R Empty out S so (none, same) = subst (IsMuteAfter B) (sym same) so
mute-line B R Garbled out S so (is, same) = subst (IsMuteAfter B) (sym same) so
mute-line B R (Command bytes) out S so (r, act, turned, after, written) =
    subst (IsMuteAfter B) (sym after) (mute-still B R r so (turned-off B R r bytes act so.opened so.off turned))

-- ---- all lines

mute-lines : (B : Base) (R : Records) (lines : List (List ℕ)) (out : List ℕ) (S : Records) → IsMuteAfter B R → LinesWrite B R lines out S → IsMuteAfter B S
mute-lines B R [] out S so (none, same) = subst (IsMuteAfter B) (sym same) so
mute-lines B R (line ∷ lines) out S so (first, after, more, one, rest, all) =
    mute-lines B after lines more S (mute-line B R (text_line (kept line)) first after so one) rest

ready-lines : (B : Base) (R : Records) (lines : List (List ℕ)) (out : List ℕ) (S : Records) → IsReadyFor (entries R) → LinesWrite B R lines out S → SoFarOf B S out
ready-lines B R [] out S ready (none, same) = inl (subst (λ (x : Records). IsReadyFor (entries x)) (sym same) ready, ap has_dash none)
ready-lines B R (line ∷ lines) out S ready (first, after, more, one, rest, all) =
    by-line (ready-line B R (text_line (kept line)) first after ready one) (λ still. ready-lines B after lines more S still rest)
  where
    both : (b : Bool) → has_dash first ≡ false → b ≡ false → (has_dash first || b) ≡ false
    both b h k = rw (h, k) refl

    by-more : has_dash first ≡ false → SoFarOf B S more → SoFarOf B S out
    by-more none (inl (still, no_more)) = inl (still, ap has_dash all ∙ dash-append first more ∙ both (has_dash more) none no_more)
    by-more none (inr lost) = inr lost

    by-line : SoFarOf B after first → (IsReadyFor (entries after) → SoFarOf B S more) → SoFarOf B S out
    by-line (inl (still, none)) go_on = by-more none (go_on still)
    by-line (inr lost) go_on = inr (mute-lines B after lines more S lost rest)

once-of : (B : Base) (R : Records) (out : List ℕ) → has_dash out ≡ true → SoFarOf B R out → LosesPowerOnce B R
once-of B R out some (inl (still, none)) = absurd (cc)
once-of B R out some (inr lost) = lost.once

pub DashesBeginAtALoss-law : DashesBeginAtALoss
unfolding AreLines
DashesBeginAtALoss-law B input out R lines some =
    once-of B R out some (ready-lines B opened_first (slice_split is_newline input) out R (record { opened = refl; powered = refl; fresh = refl }) lines)

pub ruleset loss_laws = (DashesBeginAtALoss-law)
