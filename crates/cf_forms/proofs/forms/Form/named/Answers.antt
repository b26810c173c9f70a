use Rattle.cf_forms.proofs.NamingLemmas.{name_back}
use Rattle.cf_forms.proofs.forms.Form.named.Goals as goal

pub returns-clause-back : goal.returns-clause-back
returns-clause-back c = name_back c.args.name.now _ c.named.ensures
