use Rattle.std.proofs.Common.{◌+◌, ◌/◌, ◌%◌, [], ◌∷◌, ◌++◌, length, length-append, sym, ap, ◌∙◌, append_assoc, arith}
use Rattle.std.specs.Fmt.{decimal}
use Rattle.std.proofs.lemmas.Fmt.{decimal_step}
use Rattle.cf_outcome.proofs.Lengths.{length_decimal_step}
use Rattle.cf_outcome.proofs.short.ShortText.+push_digits.Goals as goal

pub push_digit-requires-else-n-lt10-clause-room : goal.push_digit-requires-else-n-lt10-clause-room
push_digit-requires-else-n-lt10-clause-room t c =
    omega (arith, length_decimal_step c.args.n (omega arith) (omega arith), ap length c.push_digits.ensures ∙ length-append c.args.self.now (decimal (c.args.n / 10)))

pub returns-else-n-lt10 : goal.returns-else-n-lt10
returns-else-n-lt10 t c =
    c.push_digit-else-n-lt10.ensures ∙ ap (λ l. l ++ (48 + c.args.n % 10) ∷ []) c.push_digits.ensures
    ∙ append_assoc c.args.self.now (decimal (c.args.n / 10)) ((48 + c.args.n % 10) ∷ [])
    ∙ ap (λ l. c.args.self.now ++ l) (sym (decimal_step c.args.n (omega arith) (omega arith)))
