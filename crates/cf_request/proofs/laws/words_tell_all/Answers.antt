use Rattle.cf_request.proofs.Rows.{words_tell_all}
use Rattle.cf_request.proofs.laws.words_tell_all.Goals as goal

pub returns : goal.returns
returns c = words_tell_all
