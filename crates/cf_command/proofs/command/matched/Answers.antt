use Rattle.std.proofs.Common.{rules, ap, ap₂, subst, true, map, List, ℕ, Bor, ◌≡◌, ◌∙◌}
use Rattle.std.proofs.lemmas.Result.{IfOk-weaker}
use Rattle.clap.specs.Words.{App, app_of, rule_of, is_simple, subcommand_of, with_rule, with_subcommand, fault_of, is_simple_and_free, FailsBy}
use Rattle.clap.specs.Simple.{app_of_fields}
use Rattle.clap.specs.declared.builder.command.Command.{Command}
use Rattle.clap.specs.declared.builder.command.Command.TheOpen.{Command-F}
use Rattle.cf_command.specs.Words.{workers_option, run_words, race_words, cf_top, cf_words}
use Rattle.cf_command.proofs.command.matched.Goals as goal

abbrev as_top : App → App
as_top a = record a { top = record a.top { no_binary_name = true; subcommand_required = true } }

pub returns : goal.returns
returns c =
    let option_is : rule_of c.long-option.result ≡ workers_option = search rules in
    let race_is : app_of c.in_ok-race.race ≡ race_words = c.in_ok-race.ensures.shape (search rules) ∙ ap₂ with_rule c.new-2.ensures.app option_is in
    let fields = c.subcommand_required-top.ensures ∙ ap (λ (f : Command-F Command). record f { subcommand_required = true }) c.no_binary_name.ensures in
    let top_is : app_of c.subcommand_required-top.result ≡ cf_top = ap app_of_fields fields ∙ ap as_top c.new-3.ensures.app in
    let both_is : app_of c.in_ok-both.both ≡ with_subcommand cf_top run_words.top = c.in_ok-both.ensures.shape (search rules)
    ∙ ap₂ with_subcommand top_is (ap (λ (a : App). a.top) c.new-run.ensures.app) in
    let cf_is : app_of c.in_ok-cf.cf ≡ cf_words = c.in_ok-cf.ensures.shape (search rules)
    ∙ ap₂ with_subcommand both_is (ap (λ (a : App). a.top) race_is) in
    let words = map (λ (s : Bor (List ℕ)). s.now) c.args.words.now in
    let parse = c.try_get_matches_from in
    record {
      ok = IfOk-weaker parse.result _ _ (λ m h. (h (ap is_simple cf_is)).1 ∙ ap (λ (a : App). subcommand_of a words) cf_is) parse.ensures.matches;
      faults = subst (λ (a : App). FailsBy (fault_of a words) parse.result) cf_is (parse.ensures.kinds (ap is_simple_and_free cf_is));
    }
