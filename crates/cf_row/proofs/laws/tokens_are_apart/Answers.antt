use Rattle.cf_row.proofs.Tokens.{apart}
use Rattle.cf_row.proofs.laws.tokens_are_apart.Goals as goal

pub returns : goal.returns
returns c = apart
