use Rattle.std.proofs.Common.{arith, rules}
use Rattle.std.proofs.lemmas.Result.{IfOk-weaker}
use Rattle.cf_forms.specs.Meanings.{meanings_of}
use Rattle.cf_explore.proofs.Searching.{go-on-keeps}
use Rattle.cf_explore.proofs.program.Program.go_on.Goals as goal

pub look-requires-clause-few : goal.look-requires-clause-few
look-requires-clause-few g c = omega arith

pub look-requires-clause-decisions : goal.look-requires-clause-decisions
look-requires-clause-decisions g c = omega (arith, c.args.search.now.found.decisions.ok.0)

pub returns-in_err-look-clause-search : goal.returns-in_err-look-clause-search
returns-in_err-look-clause-search g c = λ h. search rules

pub returns-in_ok-look-clause-search : goal.returns-in_ok-look-clause-search
returns-in_ok-look-clause-search g c = λ h.
    IfOk-weaker c.advance.result _ _ (λ x advance. go-on-keeps (meanings_of g.F.StageFn.meaning c.args.functions.now) c.args.self.now c.args.conditions.now c.args.search.now c.look.new.search c.advance.new.search c.if-search.true h c.in_ok-look.ensures advance) c.advance.ensures.advance

pub returns-in_ok-look-clause-over : goal.returns-in_ok-look-clause-over
returns-in_ok-look-clause-over g c = λ h. c.advance.ensures.over

pub returns-else-search-clause-search : goal.returns-else-search-clause-search
returns-else-search-clause-search g c = λ h. h

pub returns-else-search-clause-over : goal.returns-else-search-clause-over
returns-else-search-clause-over g c = λ h. h
