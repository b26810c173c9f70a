use Rattle.std.proofs.Common.{◌∷◌, sym, ◌∙◌, ap, arith, subst}
use Rattle.std.specs.List.{All}
use Rattle.std.specs.Vec.Iter.{into_iter_items}
use Rattle.std.proofs.lemmas.List.Elements.{All-head, All-tail, All-push}
use Rattle.cf_desk.specs.Views.{Pass}
use Rattle.cf_pool.specs.Beginnings.{IsApart, IsIdle}
use Rattle.cf_pool.proofs.Racing.Begun.{met_first, met_other}
use Rattle.cf_pool.proofs.races.beginning.meet_others.Goals as goal
use Rattle.cf_pool.proofs.races.beginning.meet_others.Goals.{In-Some}

-- the one that is met next has done nothing yet
idle : (c : In-Some) → All (IsIdle c.args.desk.now c.next.first.calls) (c.in-Some.other ∷ into_iter_items c.next-in-next.new.self)
idle c = subst (All (IsIdle c.args.desk.now c.next.first.calls)) c.in-Some.ensures.cases.0 c.next.invariant.idle

other_idle : (c : In-Some) → IsIdle c.args.desk.now c.next.first.calls c.in-Some.other
other_idle c = All-head (IsIdle c.args.desk.now c.next.first.calls) c.in-Some.other (into_iter_items c.next-in-next.new.self) (idle c)

pub meet-requires : goal.meet-requires
meet-requires c = record { table = (ap (λ (h : Pass). h.table) c.next.invariant.same ∙ c.requires.first, (other_idle (goal.at.meet-requires c).In-Some).of.0) }

pub returns-in_err-push-clause-first : goal.returns-in_err-push-clause-first
returns-in_err-push-clause-first c = met_first _ _ _ _ (other_idle (goal.at.returns-in_err-push-clause-first c).In-Some).unseeing c.meet.ensures.level ∙ c.next.invariant.same

pub next-preserved : goal.next-preserved
next-preserved c =
    let at = (goal.at.next-preserved c).In-Some in
    let i = c.next.invariant in
    let same = met_first _ _ _ _ (other_idle at).unseeing c.meet.ensures.level in
    let apart : All (IsApart c.args.desk.now c.next.first.calls c.next.first.known.seen) c.push.new.self.items = subst (All (IsApart c.args.desk.now c.next.first.calls c.next.first.known.seen)) (sym c.in_ok-push.ensures.items)
    (All-push (IsApart c.args.desk.now c.next.first.calls c.next.first.known.seen) _ _ i.apart (met_other c.args.desk.now c.next.first.calls _ _ _ _ (other_idle at) c.meet.ensures.level)) in
    record {
      same = same ∙ i.same;
      idle = subst (λ (h : Pass). All (IsIdle c.args.desk.now h.calls) (into_iter_items c.next-in-next.new.self)) (sym same) (All-tail (IsIdle c.args.desk.now c.next.first.calls) c.in-Some.other (into_iter_items c.next-in-next.new.self) (idle at));
      apart = subst (λ (h : Pass). All (IsApart c.args.desk.now h.calls h.known.seen) c.push.new.self.items) (sym same) apart;
      count = (let a = i.count in let b = c.in_ok-push.ensures.len in let r = c.in-Some.ensures.cases.1 in omega (arith, a, b, r));
    }
