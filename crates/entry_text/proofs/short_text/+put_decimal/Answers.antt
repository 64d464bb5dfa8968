use Rattle.std.proofs.Common.{◌++◌, ap, sym, ◌∙◌, arith}
use Rattle.std.proofs.lemmas.Fmt.{decimal_digit}
use Rattle.entry_text.proofs.DecimalSteps.{one_digit, one_more_digit, put_last}
use Rattle.entry_text.proofs.short_text.+put_decimal.Goals as goal

pub put_digit-requires : goal.put_digit-requires
put_digit-requires t c =
    let one = one_digit c.args.number c.if-number-lt10.true in
    record { room = omega (arith, one); digit = omega arith }

pub returns-then-number-lt10 : goal.returns-then-number-lt10
returns-then-number-lt10 t c = record {
  items = c.put_digit.ensures.items ∙ ap (λ ds. c.args.out.now.items ++ ds) (sym (decimal_digit c.args.number c.if-number-lt10.true));
  len = let one = one_digit c.args.number c.if-number-lt10.true in let more = c.put_digit.ensures.len in omega (arith, one, more);
}

pub put_decimal-requires : goal.put_decimal-requires
put_decimal-requires t c =
    let more = one_more_digit c.args.number (omega arith) (omega arith) in
    (omega arith, omega (arith, more))

pub put_digit-requires-2 : goal.put_digit-requires-2
put_digit-requires-2 t c =
    let more = one_more_digit c.args.number (omega arith) (omega arith) in
    record { room = let len = c.put_decimal.ensures.len in omega (arith, more, len); digit = omega arith }

pub returns : goal.returns
returns t c = record {
  items = put_last c.args.out.now.items _ _ c.args.number (omega arith) (omega arith) c.put_decimal.ensures.items c.put_digit-2.ensures.items;
  len =
      let more = one_more_digit c.args.number (omega arith) (omega arith) in
      let front = c.put_decimal.ensures.len in
      let last = c.put_digit-2.ensures.len in
      omega (arith, more, front, last);
}
