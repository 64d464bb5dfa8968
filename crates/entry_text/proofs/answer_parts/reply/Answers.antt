use Rattle.std.proofs.Common.{◌≡◌, ◌++◌, ◌∷◌, [], ◌∙◌, ap, List, ℕ}
use Rattle.line_words.specs.Digits.{status_text}
use Rattle.entry_text.proofs.EntryParts.{reply_text}
use Rattle.entry_text.proofs.answer_parts.reply.Goals as goal

pub returns : goal.returns
returns c =
    let back : c.push.new.self.items ≡ 32 ∷ status_text c.args.sw ++ 10 ∷ [] =
    c.push.ensures.items ∙ ap (λ (l : List ℕ). l ++ 10 ∷ []) (c.put_status.ensures.text ∙ ap (λ (l : List ℕ). l ++ 32 ∷ status_text c.args.sw) c.new-back.ensures) in
    reply_text c.args.front.items c.put_dash.new.out.items c.push.new.self.items c.args.body.now c.args.sw c.put_dash.ensures.text back
