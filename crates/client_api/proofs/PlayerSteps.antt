-- A step of a player, from a step of its call.
use Rattle.std.specs.Prelude.{IsSome, is_some, MatchOption, slice_get}
use Rattle.std.proofs.Common.{◌≡◌, ◌∙◌, ℕ, cond, List, [], ◌∷◌, ◌++◌, length, Option, Some, None, sym, refl, ap, subst}
use Rattle.script_line.specs.declared.line.Line.{Line}
use Rattle.piv_rules.specs.Acts.{CardAnswer}
use Rattle.card_acts.specs.Acts.{Heard}
use Rattle.client_api.specs.declared.call.Step.{Step}
use Rattle.client_api.specs.declared.call.Step.TheVariants as step
use Rattle.client_api.specs.Calls.{Call, Replies, Asked, sends}
use Rattle.client_api.specs.Answers.{api_answer, handle_after}
use Rattle.client_api.specs.Machine.{Going}
use Rattle.client_api.specs.Steps.{IsAt, Went, Stepped, given}
use Rattle.client_api.specs.Ports.{Own, Log, Grew}
use Rattle.client_api.specs.Readers.{Names}
use Rattle.client_api.specs.Playing.{NamedHandle, kept, name_of, IsCall, wanted, Playing, NoTurn, Took, Filled, Move, settled}
use Rattle.client_api.specs.Players.{Played, IsPlaying, IsBusy, IsNext, Moved, HasCause, closed, line_name}
use Rattle.client_api.proofs.Starting.{any_names, not_some}

-- a call that is settled by its replies is what the player then stands for
settles : (names : Names) (at : Playing) (rs : Replies) (p q : Played) (line : Line) (call : Call) (g' : Going) (result : Step) → q ≡ closed p g' result
    → p.answers ≡ at.answers → p.handles ≡ at.handles → slice_get p.lines (length at.answers) ≡ Some line
    → result ≡ given call rs → (IsSome (sends call rs) → IsAt g' call rs) → (IsSome (sends call rs) → (other : Names) → IsCall (wanted other at.handles line) call)
    → IsPlaying q (settled (Some line) call at rs)
settles names at rs p q line call g' result closes answers handles line_is gives goes any = go (sends call rs) refl where
  going_on : Playing
  going_on = record { answers = at.answers; handles = at.handles; replies = rs }

  done : Playing
  done = record { answers = at.answers ++ api_answer call rs ∷ []; handles = kept at.handles (name_of line) (handle_after call rs); replies = [] }

  by : Option Asked → Step
  by o = cond (is_some o) step.More (step.Done (api_answer call rs) (handle_after call rs))

  go : (o : Option Asked) → sends call rs ≡ o → IsPlaying q (cond (is_some (sends call rs)) going_on done)
  go None e =
      let r : result ≡ step.Done (api_answer call rs) (handle_after call rs) = gives ∙ ap by e in
      let c : q ≡ closed p g' (step.Done (api_answer call rs) (handle_after call rs)) = closes ∙ ap (λ (s : Step). closed p g' s) r in
      let on : IsPlaying q done = record {
        answers = ap (λ (z : Played). z.answers) c ∙ ap (λ l. l ++ api_answer call rs ∷ []) answers;
        handles = ap (λ (z : Played). z.handles) c
            ∙ (ap (λ (hs : List NamedHandle). kept hs (line_name (slice_get p.lines (length p.answers))) (handle_after call rs)) handles
            ∙ ap (λ (o : Option Line). kept at.handles (line_name o) (handle_after call rs)) (ap (λ l. slice_get p.lines (length l)) answers ∙ line_is));
        call = subst (λ (o : Option Going). MatchOption o (done.replies ≡ []) (λ g. IsBusy q.lines done g)) (sym (ap (λ (z : Played). z.call) c)) refl;
      } in
      subst (λ (o : Option Asked). IsPlaying q (cond (is_some o) going_on done)) (sym e) on
  go (Some x) e =
      let r : result ≡ step.More = gives ∙ ap by e in
      let c : q ≡ closed p g' step.More = closes ∙ ap (λ (s : Step). closed p g' s) r in
      let some : IsSome (sends call rs) = subst (λ (o : Option Asked). IsSome o) (sym e) refl in
      let lines : q.lines ≡ p.lines = ap (λ (z : Played). z.lines) c in
      let busy : IsBusy q.lines going_on g' = record {
        line = line;
        line_is = ap (λ (l : List Line). slice_get l (length at.answers)) lines ∙ line_is;
        call = call;
        of_line = any some;
        is_at = goes some;
        more = some;
      } in
      let on : IsPlaying q going_on = record {
        answers = ap (λ (z : Played). z.answers) c ∙ answers;
        handles = ap (λ (z : Played). z.handles) c ∙ handles;
        call = subst (λ (o : Option Going). MatchOption o (going_on.replies ≡ []) (λ g. IsBusy q.lines going_on g)) (sym (ap (λ (z : Played). z.call) c)) busy;
      } in
      subst (λ (o : Option Asked). IsPlaying q (cond (is_some o) going_on done)) (sym e) on

lines_stay : (p : Played) (g : Going) (s : Step) → (closed p g s).lines ≡ p.lines
lines_stay p g step.More = refl
lines_stay p g (step.Done a h) = refl

pub player_stepped : (names : Names) (at : Playing) (p q : Played) (g g' : Going) (result : Step) (old now : Log → Type 0) (seen turns : ℕ → ℕ) (log : Log)
    → q ≡ closed p g' result → p.answers ≡ at.answers → p.handles ≡ at.handles → (n : IsNext names p at g)
    → Stepped old now seen turns n.call at.replies result g' → old log → (m : Move) × Moved names at q now seen turns log m
player_stepped names at p q g g' result old now seen turns log closes answers handles n stepped h = go (sends n.call at.replies) refl where
  lines : q.lines ≡ p.lines
  lines = ap (λ (z : Played). z.lines) closes ∙ lines_stay p g' result

  line_is : slice_get q.lines (length at.answers) ≡ Some n.line
  line_is = ap (λ (l : List Line). slice_get l (length at.answers)) lines ∙ n.line_is

  settle : (rs : Replies) → result ≡ given n.call rs → (IsSome (sends n.call rs) → IsAt g' n.call rs) → (IsSome (sends n.call rs) → (other : Names) → IsCall (wanted other at.handles n.line) n.call)
      → IsPlaying q (settled (slice_get q.lines (length at.answers)) n.call at rs)
  settle rs gives goes any =
      subst (λ (o : Option Line). IsPlaying q (settled o n.call at rs)) (sym line_is)
      (settles names at rs p q n.line n.call g' result closes answers handles n.line_is gives goes any)

  after : (r : Heard) → IsSome (sends n.call (r ∷ at.replies)) → (other : Names) → IsCall (wanted other at.handles n.line) n.call
  after r some other = any_names names other at.handles n.line n.call r at.replies n.of_line some

  turned : (x : Asked) → sends n.call at.replies ≡ Some x → (r : Heard) → Went old now seen turns n.call at.replies x result g' r → (m : Move) × Moved names at q now seen turns log m
  turned x e None w = (
    record { call = n.call; had = Filled },
    record {
      fits = record { line = n.line; line_is = line_is; call = n.of_line; asked = subst (λ (o : Option Asked). IsSome o) (sym e) refl };
      plays = settle (None ∷ at.replies) w.gives w.goes (after None);
      stands = w.sent.turned log h;
      newest = tt;
      cause = subst (λ (o : Option Asked). HasCause seen turns Filled o) (sym e) (w.sent.full refl);
    },
  )
  turned x e (Some told) w =
      let t = w.sent.turned log h in
      let is : Some x ≡ Some (record { card = t.0.card; act = t.0.did.act }) = λ i. Some (record { card = sym t.1.on_card i; act = sym t.1.made i }) in (
        record { call = n.call; had = Took t.0 },
        record {
          fits = record { line = n.line; line_is = line_is; call = n.of_line; asked = e ∙ is };
          plays = subst (λ (a : CardAnswer). IsPlaying q (settled (slice_get q.lines (length at.answers)) n.call at (Some a ∷ at.replies))) (sym t.1.got)
              (settle (Some told ∷ at.replies) w.gives w.goes (after (Some told)));
          stands = t.1.stands;
          newest = subst (λ (c : ℕ). Rattle.client_api.specs.Ports.IsAbove c t.0.place log) (sym t.1.on_card) t.1.above;
          cause = tt;
        },
      )

  go : (o : Option Asked) → sends n.call at.replies ≡ o → (m : Move) × Moved names at q now seen turns log m
  go None e =
      let d = subst (λ (o : Option Asked). MatchOption o ((result ≡ given n.call at.replies) × ((log : Log) → old log → now log)) (λ x. (r : Heard) × Went old now seen turns n.call at.replies x result g' r)) e stepped in (
        record { call = n.call; had = NoTurn },
        record {
          fits = record { line = n.line; line_is = line_is; call = n.of_line; asked = e };
          plays = settle at.replies d.0 (λ some. absurd (not_some (sends n.call at.replies) e some)) (λ some. absurd (not_some (sends n.call at.replies) e some));
          stands = d.1 log h;
          newest = tt;
          cause = tt;
        },
      )
  go (Some x) e =
      let d = subst (λ (o : Option Asked). MatchOption o ((result ≡ given n.call at.replies) × ((log : Log) → old log → now log)) (λ x. (r : Heard) × Went old now seen turns n.call at.replies x result g' r)) e stepped in
      turned x e d.0 d.1
