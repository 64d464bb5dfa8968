-- A whole command, by the APDU that ends its chain.
use Rattle.std.specs.Prelude.{Ok, not, ◌&&◌, ◌↔◌, if◌then◌else◌}
use Rattle.std.proofs.Common.{◌≡◌, ℕ, Bool, true, false, List, Option, Some, None, IfSome, [], length, drop, subst, refl, ap, sym, ◌∙◌}
use Rattle.power_loss.specs.Due.{is_due}
use Rattle.piv_model.specs.Commands.{CardCommand, CardApdu}
use Rattle.piv_model.specs.Chains.{Link, PartOf, WholeOf, RefusedBy, linked}
use Rattle.piv_model.specs.ApduForms.{apdu_spelled}
use Rattle.piv_model.specs.Memory.{Memory}
use Rattle.piv_model.specs.Stores.{StoreState}
use Rattle.piv_rules.specs.Acts.{Replied}
use Rattle.piv_rules.specs.Answers.{Reply}
use Rattle.piv_rules.specs.Plans.{cost_of}
use Rattle.piv_rules.specs.StatusWords.{is_granted}
use Rattle.piv_rules.specs.Turns.{cut_reply}
use Rattle.piv_rules.specs.Frames.{WholeFrame, frame_of, frame_by, fetches, is_get_response}
use Rattle.card_laws.specs.StandsFor.{Attached}
use Rattle.card_laws.proofs.FrameTies.{frame-linked}
use Rattle.piv_chaining.specs.declared.joiner.Joining.TheVariants.{Whole}
use Rattle.piv_chaining.specs.Chains.{Chain, chain_of}
use Rattle.piv_chaining.specs.Fed.{IsFed}
use Rattle.piv_chaining.specs.Waiting.{Waiting}
use Rattle.card_commands.specs.declared.executed.Executed.{Executed}
use Rattle.card_commands.specs.Executes.{asked, replied, IsAnswered}
use Rattle.card_app.specs.declared.slot.Connection.{Connection}
use Rattle.card_app.specs.declared.exchanging.Exchanged.{Exchanged}
use Rattle.card_app.specs.declared.exchanging.Exchanged.TheVariants as made
use Rattle.card_app.specs.Kept.{attached_as}
use Rattle.card_app.specs.Exchanges.{IsMade, IsCarried, frame_on}

fed-whole : (l : Link) (new : Chain) → IsFed l Whole new → (l ≡ WholeOf new.command) × (new.is_chain ≡ false)
fed-whole (WholeOf k) new h = (ap (λ (s : Chain). WholeOf s.command) (sym h), ap (λ (s : Chain). s.is_chain) h)
fed-whole (PartOf k) new h = absurd h
fed-whole (RefusedBy w) new h = absurd h

no-chain : (s : Chain) → s.is_chain ≡ false → chain_of s ≡ None
no-chain s h = rw h refl

pub whole-made : (put_cost : ℕ → ℕ) (bytes block : List ℕ) (made_is : Exchanged) (j0 j1 : Chain) (p0 before p1 : Waiting) (x0 x1 : Connection) (a : CardApdu) (old new : StoreState)
    → apdu_spelled bytes ≡ Ok a → (not j0.is_chain && is_get_response a) ≡ false
    → IsFed (linked (chain_of j0) a) Whole j1
    → IsCarried put_cost block a.most made_is j1.command (attached_as j1 before x0) (attached_as j1 p1 x1) p1 old new
    → IsMade put_cost bytes block made_is j1.command p1.piece (attached_as j0 p0 x0) (attached_as j1 p1 x1) old new
whole-made put_cost bytes block made_is j0 j1 p0 before p1 x0 x1 a old new read other fed carried = go made_is carried
  where
    some_chain : (s : Chain) → (not s.is_chain && is_get_response a) ≡ false → fetches a (chain_of s) ≡ false
    some_chain s h = by s.is_chain s.command h
      where
        by : (b : Bool) (k : CardCommand) → (not b && is_get_response a) ≡ false → fetches a (if b then Some k else None) ≡ false
        by true k h = refl
        by false k h = h

    framed : frame_on bytes (attached_as j0 p0 x0) ≡ WholeFrame j1.command a.most
    framed =
        ap (λ r. frame_of r (chain_of j0) p0.waiting) read
        ∙ frame-linked a (chain_of j0) p0.waiting (some_chain j0 other)
        ∙ ap (λ l. frame_by l a.most) (fed-whole (linked (chain_of j0) a) j1 fed).0

    go : (e : Exchanged) → IsCarried put_cost block a.most e j1.command (attached_as j1 before x0) (attached_as j1 p1 x1) p1 old new
        → IsMade put_cost bytes block e j1.command p1.piece (attached_as j0 p0 x0) (attached_as j1 p1 x1) old new
    go (made.Call done last) h = record {
      most = a.most;
      body = h.0;
      frame = framed;
      reply = h.1;
      left = record { side = h.2; chain = no-chain j1 (fed-whole (linked (chain_of j0) a) j1 fed).1; rest = h.3 };
      answered = h.4;
      due = h.5;
    }
    go (made.Lost broken) h = record { most = a.most; frame = framed; off = h.0; broke = h.1; due = h.2 }
    go made.Part h = absurd h
    go (made.Rest last) h = absurd h
    go (made.Bad word) h = absurd h

-- what an answer tells of the writes that were due
pub due-kept : (n m : ℕ) (o : Option (List ℕ)) → n ≡ m → IfSome o (λ due. (false ≡ true) ↔ (is_due n due ≡ true)) → IfSome o (λ due. is_due m due ≡ false)
due-kept n m None same h = tt
due-kept n m (Some due) same h = ap (λ (k : ℕ). is_due k due) (sym same) ∙ go (is_due n due) h.1
  where
    go : (b : Bool) → (b ≡ true → false ≡ true) → b ≡ false
    go true f = sym (f refl)
    go false f = refl

-- the command is the one that was joined
pub carried-call : (put_cost : ℕ → ℕ) (block : List ℕ) (most last : ℕ) (done : Executed) (k kc : CardCommand) (x y : Attached) (p : Waiting) (so sn : StoreState) (body : List ℕ)
    → kc ≡ k → cut_reply (record { word = done.sw; body = body }) most ≡ Replied p.piece last
    → y.side ≡ x.side → y.rest ≡ (if is_granted done.sw then drop (length p.piece) body else [])
    → ((m : Memory) → so.mem ≡ Some m → IsAnswered put_cost (asked m kc) (replied m x.side block x.channel kc) block done body x.channel y.channel so sn)
    → ((m : Memory) → so.mem ≡ Some m → IfSome so.power.due (λ due. (false ≡ true) ↔ (is_due (cost_of put_cost (asked m kc) (replied m x.side block x.channel kc).word) due ≡ true)))
    → IsCarried put_cost block most (made.Call done last) k x y p so sn
carried-call put_cost block most last done k kc x y p so sn body same reply sided rest answered due =
    subst (λ (j : CardCommand). IsCarried put_cost block most (made.Call done last) j x y p so sn) same (
      body,
      reply,
      sided,
      rest,
      answered,
      (λ m told. due-kept _ _ so.power.due (ap (λ (r : Reply). cost_of put_cost (asked m kc) r.word) (answered m told).says) (due m told)),
    )
