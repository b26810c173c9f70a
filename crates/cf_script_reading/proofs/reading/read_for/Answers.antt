use Rattle.std.proofs.Common.{sym, subst}
use Rattle.serde_json.specs.View.{view}
use Rattle.cf_script_reading.specs.Checks.{ReadingGives}
use Rattle.cf_script_reading.proofs.Texts.{reading_is}
use Rattle.cf_script_reading.proofs.reading.read_for.Goals as goal

pub returns-in-Ok-clause-says : goal.returns-in-Ok-clause-says
returns-in-Ok-clause-says c =
    let json = c.in-Ok.ensures.ok in
    subst (ReadingGives (λ s. s) c.script.result) (sym (reading_is c.args.purpose c.args.bytes.now (view c.in-Ok.json) c.if-bytes-gt-MAX_BYTES.false json.0 json.1)) c.script.ensures.says
