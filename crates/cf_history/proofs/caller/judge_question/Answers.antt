use Rattle.std.proofs.Common.{◌≡◌, ◌-◌, arith, rules}
use Rattle.cf_history.proofs.Walks.{told_on}
use Rattle.cf_history.proofs.caller.judge_question.Goals as goal

pub returns-then-eq : goal.returns-then-eq
returns-then-eq c =
    let p = c.pass_by-passed.ensures in
    let is : c.pass_by-passed.result ≡ c.args.place - c.args.at = (let most = p.at_most in omega arith) in
    told_on c.args.caller c.args.graph.now.state c.args.rest.now c.args.at c.args.place c.pass_by-passed.result c.args.ask c.args.told c.tell-given.result c.pass_by-passed.new.graph.state c.tell-given.new.self.state
    (omega arith) (omega arith) is p.others p.state (search rules) c.tell-given.ensures.told (search rules) c.tell-given.ensures.unchanged
