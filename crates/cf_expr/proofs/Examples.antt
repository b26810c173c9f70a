-- The example histories, worked out.
use Rattle.std.proofs.Common.{refl, rules}
use Rattle.cf_expr.specs.Examples.{PremisesAreMet, PremisesAreNeeded}

pub premises_met : PremisesAreMet
premises_met = record {
  built = record { few_stages = search rules; few_edges = search rules; few_limits = search rules; lower = search rules; fitting = search rules; called = search rules; named = search rules; in_order = tt };
  plain_plan = search rules;
  plain = ((search rules, refl), (tt, ((λ w args e. refl), (tt, ((λ w args e. refl), ((search rules, refl), tt))))));
  quiet = search rules;
  settled = refl;
  expressed = refl;
  grown_stages = refl;
  grown_built = record { few_stages = search rules; few_edges = search rules; few_limits = search rules; lower = search rules; fitting = search rules; called = search rules; named = search rules; in_order = tt };
  grown_plain_plan = search rules;
  grown_plain = (tt, ((search rules, refl), (tt, ((λ w args e. refl), (tt, (tt, ((λ w args e. refl), tt)))))));
  grown_quiet = search rules;
  grown_settled = refl;
  grown_expressed = refl;
}

pub premises_needed : PremisesAreNeeded
premises_needed = record {
  wrong_answer_quiet = search rules;
  wrong_answer = λ e. cc;
  either_plain = ((search rules, refl), ((search rules, refl), tt));
  either_quiet = search rules;
  either = λ e. cc;
  ready_plain = ((search rules, refl), tt);
  ready = λ e. cc;
  outside_quiet = search rules;
  outside = λ e. cc;
  early_plain_plan = search rules;
  early_quiet = search rules;
  early = λ e. cc;
  limit_plain_plan = search rules;
  limit_quiet = search rules;
  limit = λ e. cc;
}
