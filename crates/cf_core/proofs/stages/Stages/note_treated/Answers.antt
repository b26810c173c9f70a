use Rattle.std.proofs.Common.{◌∙◌, refl, sym}
use Rattle.cf_core.specs.Keeping.Sound.{kept_at}
use Rattle.cf_core.proofs.Keeping.Places.{Noted, noted_ready, noted_same, noted_settled}
use Rattle.cf_core.proofs.stages.Stages.note_treated.Goals as goal
use Rattle.cf_core.proofs.stages.Stages.note_treated.Goals.{After-mark_all_after}

pub returns-in-Same : goal.returns-in-Same
returns-in-Same c =
    let s = c.args.self.now in
    let is = noted_same c.args.plan.now.stages s.kept.items s.links s.marks s.ready c.args.d ((kept_at s.kept.items c.args.d).stage) (sym c.in-Same.is ∙ c.requires.told) c.requires.waited in
    record { kept = refl; marks = is.marks_are; ready = is.ready_are; links = is.links_are; steps = refl; turns = refl; room = (refl, refl) }

pub returns-in-Ready : goal.returns-in-Ready
returns-in-Ready c =
    let s = c.args.self.now in
    let is = noted_ready c.args.plan.now.stages s.kept.items s.links s.marks s.ready c.args.d ((kept_at s.kept.items c.args.d).stage) (sym c.in-Ready.is ∙ c.requires.told) in
    record { kept = refl; marks = is.marks_are; ready = c.insert.ensures ∙ is.ready_are; links = is.links_are; steps = refl; turns = refl; room = (refl, refl) }

settled : (c : After-mark_all_after) → Noted c.args.plan.now.stages c.args.self.now.kept.items c.args.self.now.links c.args.self.now.marks c.args.self.now.ready c.args.d ((kept_at c.args.self.now.kept.items c.args.d).stage) c.mark_all_after.new.self.marks c.mark_all_after.new.self.ready c.mark_all_after.new.self.links
settled c =
    let s = c.args.self.now in
    let m = c.mark_all_after.ensures in
    let is = noted_settled c.args.plan.now.stages s.kept.items s.links s.marks s.ready c.args.d ((kept_at s.kept.items c.args.d).stage) (sym c.in-Settled.is ∙ c.requires.told) c.requires.waited in
    record { marks_are = m.marks ∙ is.marks_are; ready_are = m.ready ∙ is.ready_are; links_are = m.links ∙ is.links_are }

pub returns-in-Settled-clause-marks : goal.returns-in-Settled-clause-marks
returns-in-Settled-clause-marks c = let is = settled (goal.at.returns-in-Settled-clause-marks c).After-mark_all_after in is.marks_are

pub returns-in-Settled-clause-ready : goal.returns-in-Settled-clause-ready
returns-in-Settled-clause-ready c = let is = settled (goal.at.returns-in-Settled-clause-ready c).After-mark_all_after in is.ready_are

pub returns-in-Settled-clause-links : goal.returns-in-Settled-clause-links
returns-in-Settled-clause-links c = let is = settled (goal.at.returns-in-Settled-clause-links c).After-mark_all_after in is.links_are
