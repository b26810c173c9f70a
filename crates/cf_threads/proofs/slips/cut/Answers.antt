use Rattle.std.proofs.Common.{ap, sym, subst, rules}
use Rattle.cf_threads.proofs.Tokens.{cuts, fair_none}
use Rattle.cf_threads.specs.Slips.{IsFair}
use Rattle.cf_threads.proofs.slips.cut.Goals as goal

pub split_pass-requires : goal.split_pass-requires
split_pass-requires c = (search rules, (search rules, (c.requires.own, cuts _ _ c.requires.keeper.1 (subst (IsFair 1) (sym (ap (λ v. v.mine) c.requires.keeper.0)) (fair_none 1)))))
