use Rattle.std.proofs.Common.{subst, sym, Ok}
use Rattle.cf_c_handles.specs.Histories.{HistoryOf}
use Rattle.cf_c_handles.specs.declared.handle.object.Object.TheVariants.{History}
use Rattle.cf_c_handles.proofs.Histories.{told_all}
use Rattle.cf_c_handles.proofs.history.history_of.Goals as goal

pub returns : goal.returns
returns c =
    let words = c.args.words.now in
    let made = c.in_ok-history_with.field-0 in
    subst (λ h. HistoryOf c.args.room words h (Ok (History made))) (sym c.in-Plan.is)
    (told_all c.args.room words c.in-Plan.plan c.in_ok-tale.tale made (let has = c.has_place.ensures in let there = c.if-not-has_place.ensures in cc)
    c.in_ok-tale.ensures c.in_default-stop.is c.in_ok-history_with.ensures)
