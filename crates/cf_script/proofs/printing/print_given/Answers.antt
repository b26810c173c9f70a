use Rattle.std.proofs.Common.{◌∙◌, ap}
use Rattle.cf_script.specs.Printing.{given_by}
use Rattle.cf_script.proofs.PrintLemmas.{fault_printed}
use Rattle.cf_script.proofs.printing.print_given.Goals as goal

pub returns-in-Ok-write_text-2 : goal.returns-in-Ok-write_text-2
returns-in-Ok-write_text-2 g c = fault_printed (given_by c.args.given) c.in-Err.fault c.as_bytes-in-Err.result.now _ _ (ap given_by c.in-Err.is) (c.as_bytes-in-Err.ensures ∙ c.line_of.ensures) c.in-Ok-write_text-2.ensures.whole
