use Rattle.std.specs.Prelude.{◌&&◌}
use Rattle.std.proofs.Common.{◌≡◌, ◌<◌, [], ◌∷◌, ℕ, suc, true, Bool, List, ap, arith, get_or, inl, inr, refl, subst, sym, take}
use Rattle.std.proofs.lemmas.List.{take_all}
use Rattle.cf_request.specs.Joins.{sources_of}
use Rattle.cf_request.proofs.Decided.{take_next}
use Rattle.cf_request.proofs.Tallied.{AreMarkedSo, MarksOne, marked_alone, marked_none, marked_push, marked_shared}
use Rattle.cf_request.proofs.tallies.mark_sources.Goals as goal

pub loop-source-init : goal.loop-source-init
loop-source-init c =
    let s = c.args.join.now.source in
    let few : s < 4096 = c.requires.there 0 0 (omega arith) in
    let one : MarksOne s s c.mark-is_alone.result c.args.followed.now c.mark-is_alone.new.followed c.args.spares.now.items c.mark-is_alone.new.spares.items =
    record { was = c.mark-is_alone.ensures.was; wasnt = c.mark-is_alone.ensures.wasnt; mine = c.mark-is_alone.ensures.own } in
    marked_push [] s true c.mark-is_alone.result c.args.followed.now c.args.followed.now c.mark-is_alone.new.followed c.args.spares.now.items c.args.spares.now.items c.mark-is_alone.new.spares.items s one few
    (omega (arith, few, c.requires.flags)) (inl refl) (marked_none s c.args.followed.now c.args.spares.now.items c.requires.led)

pub mark-is_own-requires : goal.mark-is_own-requires
mark-is_own-requires c =
    let k = c.loop-source.source-index in
    let is = ap (λ (l : List ℕ). get_or l k 0) c.deref-source-items.ensures.value in
    let there = c.requires.there (suc k) 0 (omega arith) in
    let flags = c.loop-source.invariant.marks.flags in
    record { there = omega (arith, is, there, flags, c.requires.flags) }

pub loop-source-preserved : goal.loop-source-preserved
loop-source-preserved c =
    let j = c.args.join.now in
    let s = j.source in
    let row = j.others.items in
    let k = c.loop-source.source-index in
    let i = get_or row k 0 in
    let is : get_or c.deref-source-items.result.now k 0 ≡ i = ap (λ (l : List ℕ). get_or l k 0) c.deref-source-items.ensures.value in
    let few : i < 4096 = c.requires.there (suc k) 0 (omega arith) in
    let flags = c.loop-source.invariant.marks.flags in
    let own = c.mark-is_own.result in
    let one : MarksOne i s own c.loop-source.followed c.mark-is_own.new.followed c.loop-source.spares.items c.mark-is_own.new.spares.items =
    subst (λ (n : ℕ). MarksOne n s own c.loop-source.followed c.mark-is_own.new.followed c.loop-source.spares.items c.mark-is_own.new.spares.items) is
    (record { was = c.mark-is_own.ensures.was; wasnt = c.mark-is_own.ensures.wasnt; mine = c.mark-is_own.ensures.own }) in
    subst (λ (l : List ℕ). AreMarkedSo (s ∷ l) s (c.loop-source.is_alone && own) c.args.followed.now c.mark-is_own.new.followed c.args.spares.now.items c.mark-is_own.new.spares.items) (sym (take_next k row (omega arith)))
    (marked_push (s ∷ take k row) s c.loop-source.is_alone own c.args.followed.now c.loop-source.followed c.mark-is_own.new.followed c.args.spares.now.items c.loop-source.spares.items c.mark-is_own.new.spares.items i one few
    (omega (arith, few, flags, c.requires.flags)) (inr (c.loop-source.invariant.marks.marked 0 0 (omega arith))) c.loop-source.invariant)

pub returns-then-is_alone-clause-less : goal.returns-then-is_alone-clause-less
returns-then-is_alone-clause-less c =
    let j = c.args.join.now in
    let whole = take_all c.loop-source.source-index j.others.items (omega arith) in
    let all = subst (λ (l : List ℕ). AreMarkedSo (j.source ∷ l) j.source c.loop-source.is_alone c.args.followed.now c.loop-source.followed c.args.spares.now.items c.loop-source.spares.items) whole c.loop-source.invariant in
    let done = subst (λ (b : Bool). AreMarkedSo (sources_of j) j.source b c.args.followed.now c.loop-source.followed c.args.spares.now.items c.loop-source.spares.items) c.if-is_alone.true all in
    (marked_alone j c.args.left c.args.followed.now c.loop-source.followed c.args.spares.now.items c.loop-source.spares.items c.put.new.spares.items (c.requires.there 0 0 (omega arith)) c.requires.first c.requires.led done c.put.ensures).less

pub returns-then-is_alone-clause-spared : goal.returns-then-is_alone-clause-spared
returns-then-is_alone-clause-spared c =
    let j = c.args.join.now in
    let whole = take_all c.loop-source.source-index j.others.items (omega arith) in
    let all = subst (λ (l : List ℕ). AreMarkedSo (j.source ∷ l) j.source c.loop-source.is_alone c.args.followed.now c.loop-source.followed c.args.spares.now.items c.loop-source.spares.items) whole c.loop-source.invariant in
    let done = subst (λ (b : Bool). AreMarkedSo (sources_of j) j.source b c.args.followed.now c.loop-source.followed c.args.spares.now.items c.loop-source.spares.items) c.if-is_alone.true all in
    (marked_alone j c.args.left c.args.followed.now c.loop-source.followed c.args.spares.now.items c.loop-source.spares.items c.put.new.spares.items (c.requires.there 0 0 (omega arith)) c.requires.first c.requires.led done c.put.ensures).spared

pub returns-else-is_alone-clause-less : goal.returns-else-is_alone-clause-less
returns-else-is_alone-clause-less c =
    let j = c.args.join.now in
    let whole = take_all c.loop-source.source-index j.others.items (omega arith) in
    let all = subst (λ (l : List ℕ). AreMarkedSo (j.source ∷ l) j.source c.loop-source.is_alone c.args.followed.now c.loop-source.followed c.args.spares.now.items c.loop-source.spares.items) whole c.loop-source.invariant in
    let done = subst (λ (b : Bool). AreMarkedSo (sources_of j) j.source b c.args.followed.now c.loop-source.followed c.args.spares.now.items c.loop-source.spares.items) c.if-is_alone.false all in
    (marked_shared j c.args.left c.args.followed.now c.loop-source.followed c.args.spares.now.items c.loop-source.spares.items c.empty_at.new.spares.items done c.empty_at.ensures).less

pub returns-else-is_alone-clause-spared : goal.returns-else-is_alone-clause-spared
returns-else-is_alone-clause-spared c =
    let j = c.args.join.now in
    let whole = take_all c.loop-source.source-index j.others.items (omega arith) in
    let all = subst (λ (l : List ℕ). AreMarkedSo (j.source ∷ l) j.source c.loop-source.is_alone c.args.followed.now c.loop-source.followed c.args.spares.now.items c.loop-source.spares.items) whole c.loop-source.invariant in
    let done = subst (λ (b : Bool). AreMarkedSo (sources_of j) j.source b c.args.followed.now c.loop-source.followed c.args.spares.now.items c.loop-source.spares.items) c.if-is_alone.false all in
    (marked_shared j c.args.left c.args.followed.now c.loop-source.followed c.args.spares.now.items c.loop-source.spares.items c.empty_at.new.spares.items done c.empty_at.ensures).spared
