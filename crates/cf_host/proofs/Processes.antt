-- Several processes at one request.
use Rattle.std.proofs.Common.{◌≡◌, ◌≢◌, ℕ, ◌⊎◌, inl, inr, Option, Some, None, List, [], ◌∷◌, ◌++◌, All, refl, ap, sym, ◌∙◌, subst, arith}
use Rattle.std.specs.Prelude.{slice_get}
use Rattle.std.proofs.lemmas.List.Elements.{All-cons, All-head, All-nil, All-tail}
use Rattle.cf_forms.specs.Plans.{Planned, with_room}
use Rattle.cf_row.specs.declared.entry.Entry.{Entry}
use Rattle.cf_part.specs.Parts.{session_of}
use Rattle.cf_part.specs.Rows.{IsApart}
use Rattle.cf_part.proofs.Rows.{effects}
use Rattle.cf_turn.specs.Rows.{AllCallOnceInWorks, AreOfOneEach as AreWorksOfOneEach, IsRun, Run, WorksArePartsCalls, all_of, called_by, called_by_all as called_by_works}
use Rattle.cf_turn.specs.Works.{Work}
use Rattle.cf_host.specs.declared.request.Request.{Request}
use Rattle.cf_host.specs.Laws.{calls_of}
use Rattle.cf_host.specs.Processes.{AllCallOnce, AreOfOneEach, IsProcess, IsToldTruly, Process, called_by_all}
use Rattle.cf_host.specs.Requests.{IsAt}
use Rattle.cf_host.proofs.CalledOnce.{IsWorked, Worked, find, kept_all}
use Rattle.cf_host.proofs.Worked.{AreApart}

-- ---- one process

-- where no two requests have one number, each is the first that has its number
pub first_at : (requests : List Request) → AreApart requests → (place : ℕ) (r : Request) → slice_get requests place ≡ Some r → IsAt r.number place requests
first_at requests apart place r at = record {
  request = r;
  is = at;
  named = refl;
  first = λ k s low there same. let one = apart k place s r there at same in omega (arith, one, low);
}

begun_session : {session : ℕ} → (calls : List ℕ) (w : Work) → (h : IsWorked session calls w) → session_of h.first.part ≡ session
begun_session calls w h = ap (λ (v : Work). session_of v.part) h.begun.is

-- a process's work at the request, and that the process was ordered to call just what the work tells to call
record HasRun (plan : Planned) (row : List Entry) (session : ℕ) (calls : List ℕ) : Type 0 where
  run : Run
  is : IsRun plan row run
  own : session_of run.first.part ≡ session
  called : all_of called_by run.outs ≡ calls

-- the request is opened, or nothing of it was called
abbrev MayRun : Planned → List Entry → ℕ → List ℕ → Type 0
MayRun plan row session calls = HasRun plan row session calls ⊎ (calls ≡ [])

run_of : WorksArePartsCalls → (plan : Planned) (row : List Entry) (session : ℕ) (calls : List ℕ) (w : Work) → IsWorked session calls w → IsToldTruly plan row w.part → HasRun plan row session calls
run_of parts plan row session calls w h told =
    let p = parts h.first w h.turns h.are in
    let grown = (effects h.first.part p.parts w.part p.are).grows in
    record {
      run = record { first = h.first; last = w; outs = h.turns };
      is = record {
        plan_is = ap (λ (p : Planned). with_room p h.first.part.row.replica.plan.room) (sym grown.plan ∙ told.plan_is);
        calls = h.are;
        true_seen = told.true_seen;
        taken = told.taken;
      };
      own = begun_session calls w h;
      called = h.told;
    }

by_work : WorksArePartsCalls → (plan : Planned) (row : List Entry) (session : ℕ) (calls : List ℕ) (work : Option Work) → Worked session calls work → ((w : Work) → work ≡ Some w → IsToldTruly plan row w.part) → MayRun plan row session calls
by_work parts plan row session calls None is told = inr is
by_work parts plan row session calls (Some w) h told = inl (run_of parts plan row session calls w h (told w refl))

runs : WorksArePartsCalls → (request : ℕ) (plan : Planned) (row : List Entry) (p : Process) → IsProcess request plan row p → MayRun plan row p.session (calls_of request p.outs)
runs parts request plan row p h =
    let k = kept_all p.session p.outs p.now h.comes in
    elim (find request p.now.requests) [
      | inl f ↦
          let at : IsAt request f.0 p.now.requests = subst (λ (n : ℕ). IsAt n f.0 p.now.requests) f.3 (first_at p.now.requests k.apart f.0 f.1 f.2) in
          subst (λ (n : ℕ). MayRun plan row p.session (calls_of n p.outs)) f.3
          (by_work parts plan row p.session (calls_of f.1.number p.outs) f.1.work (k.each f.0 f.1 f.2)
          (λ w is. h.knows w.part (record { place = f.0; at = record { request = f.1; is = f.2; named = f.3; first = at.first }; is = (w, is, refl) })))
      | inr none ↦ inr (k.none request none)
    ]

-- ---- all processes

-- the works of these processes, which were told to call the same
record HaveRuns (request : ℕ) (plan : Planned) (row : List Entry) (processes : List Process) : Type 0 where
  works : List Run
  are : All (IsRun plan row) works
  called : called_by_works works ≡ called_by_all request processes
  others : (s : ℕ) → All (λ (p : Process). p.session ≢ s) processes → All (λ (run : Run). session_of run.first.part ≢ s) works
  each : AreOfOneEach processes → AreWorksOfOneEach works

abbrev IsOther : ℕ → Process → Type 0
IsOther s p = p.session ≢ s

abbrev IsOtherRun : ℕ → Run → Type 0
IsOtherRun s run = session_of run.first.part ≢ s

have_one : (request : ℕ) (plan : Planned) (row : List Entry) (p : Process) (processes : List Process) → MayRun plan row p.session (calls_of request p.outs) → HaveRuns request plan row processes → HaveRuns request plan row (p ∷ processes)
have_one request plan row p processes (inl h) more = record {
  works = h.run ∷ more.works;
  are = All-cons (IsRun plan row) h.run more.works h.is more.are;
  called = ap (λ (l : List ℕ). l ++ called_by_works more.works) h.called ∙ ap (λ (l : List ℕ). calls_of request p.outs ++ l) more.called;
  others = λ s a. All-cons (IsOtherRun s) h.run more.works (subst (λ (n : ℕ). n ≢ s) (sym h.own) (All-head (IsOther s) p processes a)) (more.others s (All-tail (IsOther s) p processes a));
  each = λ a. (more.others (session_of h.run.first.part) (subst (λ (n : ℕ). All (IsOther n) processes) (sym h.own) a.0), more.each a.1);
}
have_one request plan row p processes (inr none) more = record {
  works = more.works;
  are = more.are;
  called = more.called ∙ sym (ap (λ (l : List ℕ). l ++ called_by_all request processes) none);
  others = λ s a. more.others s (All-tail (IsOther s) p processes a);
  each = λ a. more.each a.1;
}

have_runs : WorksArePartsCalls → (request : ℕ) (plan : Planned) (row : List Entry) (processes : List Process) → All (IsProcess request plan row) processes → HaveRuns request plan row processes
have_runs parts request plan row [] h = record { works = []; are = All-nil (IsRun plan row); called = refl; others = λ s a. All-nil (IsOtherRun s); each = λ a. tt }
have_runs parts request plan row (p ∷ processes) h =
    have_one request plan row p processes (runs parts request plan row p (All-head (IsProcess request plan row) p processes h))
    (have_runs parts request plan row processes (All-tail (IsProcess request plan row) p processes h))

pub all_call_once : WorksArePartsCalls → AllCallOnceInWorks → AllCallOnce
all_call_once parts once request plan row processes h each =
    let all = have_runs parts request plan row processes h in
    subst IsApart all.called (once plan row all.works all.are (all.each each))
