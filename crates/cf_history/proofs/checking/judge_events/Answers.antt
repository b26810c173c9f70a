use Rattle.std.proofs.Common.{length, ap, ◌∙◌, subst}
use Rattle.std.specs.Prelude.{MatchOption}
use Rattle.cf_forms.specs.Plans.{with_room}
use Rattle.cf_model.specs.States.{State, start}
use Rattle.cf_model.specs.Events.{state_after}
use Rattle.cf_history.specs.Histories.{AllRight, AreWordsOf, said}
use Rattle.cf_history.specs.Verdicts.{IsEnd, IsOfCallers}
use Rattle.cf_event.proofs.Events.{events_fit}
use Rattle.cf_history.proofs.Whole.{told_at_end, told_of_callers, words_from}
use Rattle.cf_history.proofs.checking.judge_events.Goals as goal
use Rattle.cf_history.proofs.checking.judge_events.Goals.{In-None, In_ok-on_callers-in-None}

words_are : (c : In-None) →
    AreWordsOf (length c.args.history.now.callers.items) c.args.history.now.functions (start (with_room c.args.plan.now c.args.room)) c.args.history.now.words.items c.args.events.now
words_are c = words_from _ _ _ _ _ _ _ _ c.requires.start c.as_slice-callers.ensures.value c.as_slice-words.ensures.value c.in-None.ensures.found

-- what was found of the callers, under their own name
found : (c : In_ok-on_callers-in-None) → let first = start (with_room c.args.plan.now c.args.room) in let callers = c.args.history.now.callers.items in
    MatchOption c.in_ok-on_callers-in-None.on_callers (AllRight first c.args.events.now 0 callers) (IsOfCallers first c.args.events.now callers)
found c = rw c.as_slice-callers.ensures.value at c.in_ok-on_callers-in-None.ensures

pub judge_callers-requires-clause-fits : goal.judge_callers-requires-clause-fits
judge_callers-requires-clause-fits c =
    let w = words_are (goal.at.judge_callers-requires-clause-fits c).In-None in
    events_fit (length c.args.history.now.callers.items) c.args.history.now.functions _ c.args.events.now w.taken

pub returns-in-Some-on_callers : goal.returns-in-Some-on_callers
returns-in-Some-on_callers c =
    let at = goal.at.returns-in-Some-on_callers c in
    told_of_callers _ _ c.args.events.now c.in-Some-on_callers.told (words_are at.In-None) (rw c.in-Some-on_callers.is at (found at.In_ok-on_callers-in-None))

pub returns-in-None-on_callers : goal.returns-in-None-on_callers
returns-in-None-on_callers c =
    let at = goal.at.returns-in-None-on_callers c in
    told_at_end _ _ c.args.events.now c.judge_end.result (words_are at.In-None) (rw c.in-None-on_callers.is at (found at.In_ok-on_callers-in-None))
    (subst (λ (s : State). IsEnd s (said c.args.history.now) c.judge_end.result) (c.in-None.ensures.state ∙ ap (λ (s : State). state_after s c.args.events.now) c.requires.start) c.judge_end.ensures)
