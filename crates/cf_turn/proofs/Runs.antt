-- Works of several sessions at one request.
use Rattle.std.proofs.Common.{◌≡◌, ◌≢◌, ℕ, List, [], ◌∷◌, ◌++◌, All, refl, ap, ◌∙◌, subst}
use Rattle.std.proofs.lemmas.List.Elements.{All-cons, All-head, All-nil, All-tail}
use Rattle.cf_forms.specs.Plans.{Planned}
use Rattle.cf_row.specs.declared.entry.Entry.{Entry}
use Rattle.cf_part.specs.Parts.{session_of}
use Rattle.cf_part.specs.Rows.{AllCallOnce, AreOfOneEach as ArePartsOfOneEach, IsApart, IsWork, Work as PartWork, called_by_all as called_by_parts}
use Rattle.cf_turn.specs.Rows.{AllCallOnceInWorks, AreOfOneEach, IsRun, Run, all_of, called_by, called_by_all}
use Rattle.cf_turn.proofs.PartCalls.{works_are_parts}

-- the parts of these works, which are told to call the same
record HaveParts (plan : Planned) (row : List Entry) (runs : List Run) : Type 0 where
  works : List PartWork
  are : All (IsWork plan row) works
  called : called_by_parts works ≡ called_by_all runs
  others : (s : ℕ) → All (λ (run : Run). session_of run.first.part ≢ s) runs → All (λ (w : PartWork). session_of w.first ≢ s) works
  each : AreOfOneEach runs → ArePartsOfOneEach works

parts_of : (plan : Planned) (row : List Entry) (runs : List Run) → All (IsRun plan row) runs → HaveParts plan row runs
parts_of plan row [] h = record { works = []; are = All-nil (IsWork plan row); called = refl; others = λ s a. All-nil (λ (w : PartWork). session_of w.first ≢ s); each = λ a. tt }
parts_of plan row (run ∷ runs) h =
    let own = All-head (IsRun plan row) run runs h in
    let p = works_are_parts run.first run.last run.outs own.calls in
    let more = parts_of plan row runs (All-tail (IsRun plan row) run runs h) in
    let w : PartWork = record { first = run.first.part; last = run.last.part; outs = p.parts } in
    record {
      works = w ∷ more.works;
      are = All-cons (IsWork plan row) w more.works (record { plan_is = own.plan_is; calls = p.are; true_seen = own.true_seen; taken = own.taken }) more.are;
      called = ap (λ (l : List ℕ). l ++ called_by_parts more.works) p.calls ∙ ap (λ (l : List ℕ). all_of called_by run.outs ++ l) more.called;
      others = λ s a. All-cons (λ (v : PartWork). session_of v.first ≢ s) w more.works (All-head (λ (r : Run). session_of r.first.part ≢ s) run runs a)
          (more.others s (All-tail (λ (r : Run). session_of r.first.part ≢ s) run runs a));
      each = λ a. (more.others (session_of run.first.part) a.0, more.each a.1);
    }

pub all_works_call_once : AllCallOnce → AllCallOnceInWorks
all_works_call_once once plan row runs h each =
    let p = parts_of plan row runs h in
    subst IsApart p.called (once plan row p.works p.are (p.each each))
