use Rattle.std.proofs.Common.{◌∙◌, sym, ap, None}
use Rattle.piv_model.specs.Entries.{entry_of, Cut}
use Rattle.piv_model.specs.declared.history.Entry.TheVariants as lent
use Rattle.piv_model.specs.Commands.{command_of}
use Rattle.piv_model.specs.declared.history.Entry.{Entry}
use Rattle.entry_text.specs.EntryTexts.{entry_text, entry_line}
use Rattle.entry_text.proofs.EntryParts.{whole_text, call_text, cut_text}
use Rattle.entry_text.proofs.entry_parts.entry_parts.Goals as goal

pub returns-in-Opened-clause-text : goal.returns-in-Opened-clause-text
returns-in-Opened-clause-text c =
    whole_text _ _ _ (entry_of c.args.entry) (c.whole_text.ensures.front ∙ c.opened_text.ensures ∙ ap (λ (e : Entry). entry_text (entry_of e)) (sym c.in-Opened.is)) c.whole_text.ensures.body c.whole_text.ensures.back

pub returns-in-Closed-clause-text : goal.returns-in-Closed-clause-text
returns-in-Closed-clause-text c =
    whole_text _ _ _ (entry_of c.args.entry) (c.whole_text-in-Closed.ensures.front ∙ c.number_text.ensures ∙ ap (λ (e : Entry). entry_text (entry_of e)) (sym c.in-Closed.is)) c.whole_text-in-Closed.ensures.body c.whole_text-in-Closed.ensures.back

pub returns-in-Part-clause-text : goal.returns-in-Part-clause-text
returns-in-Part-clause-text c =
    whole_text _ _ _ (entry_of c.args.entry) (c.whole_text-in-Part.ensures.front ∙ c.number_text-in-Part.ensures ∙ ap (λ (e : Entry). entry_text (entry_of e)) (sym c.in-Part.is)) c.whole_text-in-Part.ensures.body c.whole_text-in-Part.ensures.back

pub returns-in-Rest-clause-text : goal.returns-in-Rest-clause-text
returns-in-Rest-clause-text c =
    whole_text _ _ _ (entry_of c.args.entry) (c.whole_text-in-Rest.ensures.front ∙ c.number_text-in-Rest.ensures ∙ ap (λ (e : Entry). entry_text (entry_of e)) (sym c.in-Rest.is)) c.whole_text-in-Rest.ensures.body c.whole_text-in-Rest.ensures.back

pub returns-in-Bad-clause-text : goal.returns-in-Bad-clause-text
returns-in-Bad-clause-text c =
    whole_text _ _ _ (entry_of c.args.entry) (c.whole_text-in-Bad.ensures.front ∙ c.bad_text.ensures ∙ ap (λ (e : Entry). entry_text (entry_of e)) (sym c.in-Bad.is)) c.whole_text-in-Bad.ensures.body c.whole_text-in-Bad.ensures.back

pub returns-in-Note-clause-text : goal.returns-in-Note-clause-text
returns-in-Note-clause-text c =
    whole_text _ _ _ (entry_of c.args.entry) (c.whole_text-in-Note.ensures.front ∙ c.note_text.ensures ∙ ap (λ (e : Entry). entry_text (entry_of e)) (sym c.in-Note.is)) c.whole_text-in-Note.ensures.body c.whole_text-in-Note.ensures.back

pub returns-in-Reset-clause-text : goal.returns-in-Reset-clause-text
returns-in-Reset-clause-text c =
    whole_text _ _ _ (entry_of c.args.entry) (c.whole_text-in-Reset.ensures.front ∙ c.two_words.ensures ∙ rw c.interface_name.ensures.value (ap (λ (e : Entry). entry_text (entry_of e)) (sym c.in-Reset.is))) c.whole_text-in-Reset.ensures.body c.whole_text-in-Reset.ensures.back

pub returns-in-Up-clause-text : goal.returns-in-Up-clause-text
returns-in-Up-clause-text c =
    whole_text _ _ _ (entry_of c.args.entry) (c.whole_text-in-Up.ensures.front ∙ c.two_words-in-Up.ensures ∙ rw c.took_name.ensures.value (ap (λ (e : Entry). entry_text (entry_of e)) (sym c.in-Up.is))) c.whole_text-in-Up.ensures.body c.whole_text-in-Up.ensures.back

pub returns-in-Call-clause-text : goal.returns-in-Call-clause-text
returns-in-Call-clause-text c =
    call_text _ _ c.in-Call.c (command_of c.in-Call.command) c.in-Call.sw c.in-Call.block c.command_front.ensures.text c.call_back.ensures.text
    ∙ ap (λ (e : Entry). entry_line (entry_of e)) (sym c.in-Call.is)

pub returns-in-None-clause-text : goal.returns-in-None-clause-text
returns-in-None-clause-text c =
    whole_text _ _ _ (Cut None) (c.whole_text-in-None.ensures.front ∙ c.first_word.ensures.text) c.whole_text-in-None.ensures.body c.whole_text-in-None.ensures.back
    ∙ ap (λ (e : Entry). entry_line (entry_of e)) (sym (c.in-Cut.is ∙ ap lent.Cut c.in-None.is))

pub returns-in-Some-clause-text : goal.returns-in-Some-clause-text
returns-in-Some-clause-text c =
    cut_text _ _ c.in-Some.c (command_of c.in-Some.command) c.command_front-in-Some.ensures.text c.line_end.ensures
    ∙ ap (λ (e : Entry). entry_line (entry_of e)) (sym (c.in-Cut.is ∙ ap lent.Cut c.in-Some.is))
