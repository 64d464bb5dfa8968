use Rattle.std.specs.Prelude.{not}
use Rattle.std.proofs.Common.{◌++◌, ◌∷◌, [], List, ℕ, true, false, ap, sym, ◌∙◌}
use Rattle.std.proofs.lemmas.List.{append-nil}
use Rattle.hex.specs.Hex.{encode_upper}
use Rattle.piv_cli.specs.Lines.{Command, kept}
use Rattle.piv_cli.proofs.LineLemmas.{empty-kept, empty-writes, command-line, line-answered}
use Rattle.piv_cli.proofs.DashLaws.{line-no-dash, reply-no-dash}
use Rattle.piv_cli.proofs.lines.answer_line.Goals as goal

pub returns-then-is_empty-clause-answered : goal.returns-then-is_empty-clause-answered
returns-then-is_empty-clause-answered g c B R stands few = record {
  first = _;
  after = R;
  writes = empty-writes B R (kept c.args.line.now) (empty-kept c.args.line.now _ _ _ c.in_ok-copy_without_blanks.ensures c.deref.ensures.value c.without_carriage_return-text.ensures c.if-is_empty.ensures);
  stands = stands;
  written = sym (append-nil _);
  steady = λ steady. steady;
}

pub returns-then-not-reply_to-clause-answered : goal.returns-then-not-reply_to-clause-answered
returns-then-not-reply_to-clause-answered g c B R stands few =
    line-answered B R _ c.deref-2.result.now _ _ _ c.reply_to.result false c.reply_to.new.reply.items c.args.out.now.items _
    (command-line c.args.line.now _ _ _ _ _ c.in_ok-copy_without_blanks.ensures c.deref.ensures.value c.without_carriage_return-text.ensures
    c.if-is_empty.ensures c.in_ok-decode.ensures c.if-not-branch.false ∙ ap Command (sym c.deref-2.ensures.value))
    (c.reply_to.ensures.replies B R stands few) c.if-not-reply_to.true c.in_ok-extend_from_slice-2.ensures.items

pub returns-clause-answered : goal.returns-clause-answered
returns-clause-answered g c B R stands few =
    line-answered B R _ c.deref-2.result.now _ _ _ c.reply_to.result true c.reply_to.new.reply.items c.args.out.now.items _
    (command-line c.args.line.now _ _ _ _ _ c.in_ok-copy_without_blanks.ensures c.deref.ensures.value c.without_carriage_return-text.ensures
    c.if-is_empty.ensures c.in_ok-decode.ensures c.if-not-branch.false ∙ ap Command (sym c.deref-2.ensures.value))
    (c.reply_to.ensures.replies B R stands few) c.if-not-reply_to.false
    (c.in_ok-add_line.ensures ∙ ap (λ (xs : List ℕ). c.args.out.now.items ++ (encode_upper xs ++ 10 ∷ [])) c.as_slice.ensures.value)

pub returns-clause-dash : goal.returns-clause-dash
returns-clause-dash g c same =
    let is_on = sym c.reply_to.ensures.power ∙ c.if-not-reply_to.false in
    line-no-dash c.args.out.now.items (encode_upper c.as_slice.result.now ++ 10 ∷ []) c.add_line.new.out.items c.in_ok-add_line.ensures (reply-no-dash c.as_slice.result.now) ∙ same
    ∙ ap not ((c.reply_to.ensures.losses.kept is_on).0 ∙ sym is_on)
