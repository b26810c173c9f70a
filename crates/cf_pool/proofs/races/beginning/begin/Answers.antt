use Rattle.std.proofs.Common.{◌≡◌, sym, ap, arith, subst, vec_len, ℕ}
use Rattle.std.specs.List.{All}
use Rattle.cf_desk.specs.declared.row.DeskConfig.{DeskConfig}
use Rattle.cf_pool.specs.Beginnings.{HaveBegun, IsIdle}
use Rattle.cf_pool.proofs.Racing.Begun.{Parted, begun_of, none_taken, parted}
use Rattle.cf_pool.proofs.races.beginning.begin.Goals as goal
use Rattle.cf_pool.proofs.races.beginning.begin.Goals.{After-remove-first}

first_and_others : (c : After-remove-first) → Parted c.in-Ok.opened.0 c.args.sizes.calls c.remove-first.result c.remove-first.new.self.items
first_and_others c =
    let o = c.in-Ok.ensures.opened in
    let n = c.in-Ok.ensures.counts.0 in
    let r = c.remove-first.ensures in
    let callers : c.in-Ok.opened.0.setting.callers ≡ c.args.sizes.callers = ap (λ (s : DeskConfig). s.callers) o.0 in
    parted c.in-Ok.opened.0 c.args.sizes.calls c.in-Ok.opened.1.items _ _ (let l = n.0 in omega arith) o.2 r.value r.by_index.2

pub begin_with-requires-clause-first : goal.begin_with-requires-clause-first
begin_with-requires-clause-first c =
    let f = first_and_others (goal.at.begin_with-requires-clause-first c).After-remove-first in
    none_taken c.in-Ok.opened.0 c.args.sizes.calls c.args.terms.steps.now c.remove-first.result f.first f.zeroth

pub begin_with-requires-clause-others : goal.begin_with-requires-clause-others
begin_with-requires-clause-others c =
    let f = first_and_others (goal.at.begin_with-requires-clause-others c).After-remove-first in
    subst (λ (n : ℕ). All (IsIdle c.in-Ok.opened.0 n) c.remove-first.new.self.items) (sym f.first.room) f.others

pub returns : goal.returns
returns c =
    let f = first_and_others (goal.at.returns c).After-remove-first in
    let o = c.in-Ok.ensures.opened in
    let d = c.in-Ok.opened.0 in
    let passes = c.in_ok-passes.passes in
    let begun : HaveBegun d c.args.terms.steps.now c.args.sizes.calls passes.items = subst (λ (n : ℕ). HaveBegun d c.args.terms.steps.now n passes.items) f.first.room c.in_ok-passes.ensures.begun in
    let count : vec_len passes ≡ c.args.sizes.callers = (let b = c.in_ok-passes.ensures.count in let r = c.remove-first.ensures.len in let n = c.in-Ok.ensures.passes.1 in omega (arith, b, r, n)) in
    record { desk = (o.0, o.1); passes = (begun_of d c.args.terms.steps.now c.args.sizes.calls passes.items begun, count); begun = begun }
