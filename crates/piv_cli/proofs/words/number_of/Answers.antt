use Rattle.std.specs.declared.num.ParseIntError.{ParseIntError}
use Rattle.std.proofs.Common.{◌≡◌, true, false, Ok, Err, ap, ◌∙◌, sym}
use Rattle.line_words.specs.Words.{is_plain}
use Rattle.line_words.proofs.NumberLemmas.{number-parsed, number-not_plain}
use Rattle.piv_cli.proofs.words.number_of.Goals as goal

pub returns-then-not-is_plain : goal.returns-then-not-is_plain
returns-then-not-is_plain c =
    let plain : is_plain c.args.word.now ≡ false = ap is_plain (sym c.as_bytes.ensures.value) ∙ sym c.is_plain.ensures ∙ c.if-not-is_plain.true in
    sym (number-not_plain c.args.word.now plain)

pub returns-in-Ok : goal.returns-in-Ok
returns-in-Ok c =
    let plain : is_plain c.args.word.now ≡ true = ap is_plain (sym c.as_bytes.ensures.value) ∙ sym c.is_plain.ensures ∙ c.if-not-is_plain.false in
    sym (number-parsed {E = ParseIntError} c.args.word.now (Ok c.in-Ok.number) plain c.in-Ok.ensures.value.0)

pub returns-in-Err : goal.returns-in-Err
returns-in-Err c =
    let plain : is_plain c.args.word.now ≡ true = ap is_plain (sym c.as_bytes.ensures.value) ∙ sym c.is_plain.ensures ∙ c.if-not-is_plain.false in
    sym (number-parsed {E = ParseIntError} c.args.word.now (Err c.in-Err.field-0) plain c.in-Err.ensures.value.0)
