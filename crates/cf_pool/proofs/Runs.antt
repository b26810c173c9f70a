-- What the passes of a run come to.
use Rattle.std.proofs.Common.{◌≡◌, ℕ, zero, suc, ◌+◌, ◌<◌, ◌≤◌, inl, inr, ⊎_elim, Bool, true, false, Option, Some, None, IfErr, IfOk, List, [], ◌∷◌, ◌++◌, length, map, All, sym, refl, ap, ◌∙◌, subst, append-nil, append_assoc, length-append, take, drop, arith}
use Rattle.std.specs.Prelude.{slice_index_or}
use Rattle.std.proofs.lemmas.Simd.{map-map}
use Rattle.std.specs.List.{AllZip, Contains, insert}
use Rattle.std.proofs.lemmas.List.Elements.{All-head, All-tail, All-nil, All-cons, All-contains, Contains-append_cases, Contains-append_left, Contains-append_right}
use Rattle.cf_model.specs.declared.events.Event.{Event}
use Rattle.cf_model.specs.States.{State, lowest_ready_of, start}
use Rattle.cf_model.specs.Calls.{event_by, who_of}
use Rattle.cf_model.specs.declared.calls.Call.{Call}
use Rattle.cf_desk.specs.declared.calls.Closed.{Closed}
use Rattle.cf_desk.specs.declared.calls.Kept.{Kept}
use Rattle.cf_desk.specs.declared.faults.DeskFault.{DeskFault}
use Rattle.cf_desk.specs.declared.faults.DeskFault.TheVariants.{BadAttach, LogFull, NoStage, PassFull}
use Rattle.cf_desk.specs.Faults.{AttachFits, IsDue, IsOnStage}
use Rattle.cf_desk.specs.Keepings.{AllFit, AreKept, IsKeptFit, caller_kept, pass_did, pass_kept}
use Rattle.cf_desk.specs.Log.{Catches, state_from}
use Rattle.cf_desk.specs.Rule.{AllShort, longest}
use Rattle.cf_desk.specs.Views.{Closes, Follows, IsOf, Pass, Desk, knowns, state_of}
use Rattle.cf_event.proofs.Events.{events_each}
use Rattle.cf_event.specs.Histories.{IsOneHistory}
use Rattle.cf_desk.proofs.Closing.{longest_short}
use Rattle.cf_desk.proofs.Gathers.{all_at}
use Rattle.cf_desk.proofs.Lists.{all_front}
use Rattle.cf_desk.proofs.Meets.{short_more}
use Rattle.cf_desk.proofs.Passes.{same_follows, still_on_stage}
use Rattle.cf_pool.specs.Answering.{Answers}
use Rattle.cf_pool.specs.declared.pool.Left.{Left}
use Rattle.cf_pool.specs.declared.pool.Met.{Met}
use Rattle.cf_pool.specs.declared.pool.Worked.{Worked}
use Rattle.cf_model.specs.Calling.{CallsOf}
use Rattle.cf_pool.specs.Calling.{CallsOnce, EachCalls, TellsOf, calls_of_all}
use Rattle.cf_pool.specs.Closings.{HadThreads, HaveCalled, IsDueToTell, RunRefuses, RunTells, Ran, RanOut, told}
use Rattle.cf_pool.specs.Runs.{EndsBelow, EndsIf, HasCome, HasEnded, HasWorked, IsFirst, IsLowest, IsMet, IsWorkedBy, IsWorkedFrom, OfEach, SeesMore, SeesOn, Stop, WasStopped, first_with, is_any_alone, stop_of}
use Rattle.cf_pool.specs.Stops.{IsNextCall, Stops}
use Rattle.cf_pool.specs.Waits.{Ends, Waits, last_place}
use Rattle.cf_pool.specs.Works.{Owed, Works, WorksOut, owed_after}
use Rattle.cf_model.specs.Events.{state_after}
use Rattle.cf_model.specs.Growth.{Grows}
use Rattle.cf_model.proofs.Histories.{state_after-append}
use Rattle.cf_model.proofs.Shape.{state_after-grows}
use Rattle.cf_desk.specs.declared.calls.Rec.{Rec}
use Rattle.cf_desk.specs.declared.row.DeskConfig.{DeskConfig}
use Rattle.cf_pool.proofs.CalledOnce.{called_once}
use Rattle.cf_pool.proofs.Calling.{once_grown}
use Rattle.cf_pool.proofs.OpenClaims.{were_open}
use Rattle.cf_pool.proofs.Pools.{first_more, sees_itself, sees_longer}
use Rattle.cf_pool.proofs.Waiting.{idles_since, last_place-mono, looks_from}
use Rattle.cf_pool.proofs.Working.{pass_grows, work_grown}

-- ---- work, and then or before it only more that was seen

pub works_before : (answers : Answers) (p q r : Pass) → Works answers p q → SeesMore q r → Works answers p r
works_before answers p q r w s = record {
  same = (s.same.0 ∙ w.same.0, s.same.1 ∙ w.same.1, s.same.2 ∙ w.same.2, s.same.3 ∙ w.same.3);
  seen = w.seen ++ s.caught.others;
  goes_on = s.caught.joined ∙ ap (λ l. l ++ s.caught.others) w.goes_on ∙ append_assoc p.known.seen w.seen s.caught.others;
  more = w.more;
  records = s.records ∙ w.records;
  work = work_grown answers (state_of q.known) (state_of r.known) w.more (pass_grows q r s.caught.others s.same.1 s.caught.joined) w.work;
  once = w.once;
}

pub works_after : (answers : Answers) (p q r : Pass) → SeesMore p q → Works answers q r → Works answers p r
works_after answers p q r s w = record {
  same = (w.same.0 ∙ s.same.0, w.same.1 ∙ s.same.1, w.same.2 ∙ s.same.2, w.same.3 ∙ s.same.3);
  seen = s.caught.others ++ w.seen;
  goes_on = w.goes_on ∙ ap (λ l. l ++ w.seen) s.caught.joined ∙ append_assoc p.known.seen s.caught.others w.seen;
  more = w.more;
  records = w.records ∙ ap (λ l. l ++ w.more) s.records;
  work = w.work;
  once = w.once;
}

pub out_before : (answers : Answers) (p q r : Pass) → WorksOut answers p q → SeesMore q r → WorksOut answers p r
unfolding works_before
out_before answers p q r w s = record { works = works_before answers p q r w.works s; owes = w.owes }

out_after : (answers : Answers) (p q r : Pass) → SeesMore p q → WorksOut answers q r → WorksOut answers p r
unfolding works_after
out_after answers p q r s w = record { works = works_after answers p q r s w.works; owes = w.owes }

stops_after : (answers : Answers) (d : Desk) (p q r : Pass) (fault : DeskFault) → SeesMore p q → Stops answers d q r fault → Stops answers d p r fault
unfolding works_after
stops_after answers d p q r fault s h = record { stood = h.stood; works = works_after answers p q h.stood s h.works; meets = h.meets }

waits_after : (d : Desk) (patience : ℕ) (p q r : Pass) → SeesMore p q → Waits d patience q r → Waits d patience p r
waits_after d patience p q r s w =
    let longer = sees_longer p q s in record {
      more = w.more;
      records = w.records ∙ ap (λ l. l ++ w.more) s.records;
      looks = w.looks;
      before = looks_from (length p.known.seen) (length q.known.seen) w.more p.known.looks q.known.looks w.looks longer s.looks w.before;
      idles = idles_since d patience (last_place (length q.known.seen) w.more) (last_place (length p.known.seen) w.more) w.looks r (last_place-mono (length p.known.seen) (length q.known.seen) w.more longer) w.idles;
    }

ends_after : (answers : Answers) (d : Desk) (patience : ℕ) (p q r : Pass) → SeesMore p q → Ends answers d patience q r → Ends answers d patience p r
ends_after answers d patience p q r s e = record { out = out_after answers p q r s e.out; none = e.none; waits = waits_after d patience p q r s e.waits }

pub worked_after : (answers : Answers) (d : Desk) (patience : ℕ) (p q r : Pass) (fault : Option DeskFault) → SeesMore p q → HasWorked answers d patience q r fault → HasWorked answers d patience p r fault
worked_after answers d patience p q r None s h = record { works = works_after answers p q r s h.works; met = ends_after answers d patience p q r s h.met }
worked_after answers d patience p q r (Some fault) s h = record { works = works_after answers p q r s h.works; met = stops_after answers d p q r fault s h.met }

-- ---- one pass after another

pub all_work : {M : Type 0} (answers : Answers) (d : Desk) (patience : ℕ) (ps qs : List Pass) (ws : List (Worked M)) → AllZip (IsWorkedFrom answers d patience) ps ws → AllZip SeesOn ws qs → AllZip (Works answers) ps qs
all_work answers d patience [] [] [] f g = tt
all_work answers d patience [] [] (w ∷ ws) f g = absurd f
all_work answers d patience [] (q ∷ qs) [] f g = absurd g
all_work answers d patience [] (q ∷ qs) (w ∷ ws) f g = absurd f
all_work answers d patience (p ∷ ps) [] [] f g = absurd f
all_work answers d patience (p ∷ ps) [] (w ∷ ws) f g = absurd g
all_work answers d patience (p ∷ ps) (q ∷ qs) [] f g = absurd f
all_work answers d patience (p ∷ ps) (q ∷ qs) (w ∷ ws) f g = (works_before answers p w.pass q f.0.works g.0, all_work answers d patience ps qs ws f.1 g.1)

pub ended : (answers : Answers) (d : Desk) (patience : ℕ) (p q : Pass) (fault : Option DeskFault) → fault ≡ None → HasWorked answers d patience p q fault → Ends answers d patience p q
ended answers d patience p q None e h = h.met
ended answers d patience p q (Some fault) e h = cc

has_ended : (answers : Answers) (d : Desk) (patience : ℕ) (p r q : Pass) (fault : Option DeskFault) → HasWorked answers d patience p r fault → SeesMore r q → fault ≡ None → HasEnded answers d patience p q
has_ended answers d patience p r q fault h s none = record { ended = r; ends = ended answers d patience p r fault none h; since = s }

all_ended : {M : Type 0} (answers : Answers) (d : Desk) (patience : ℕ) (ps qs : List Pass) (ws : List (Worked M)) → AllZip (IsWorkedFrom answers d patience) ps ws → AllZip SeesOn ws qs → All (λ (x : Stop). x.1 ≡ None) (map stop_of ws) → AllZip (HasEnded answers d patience) ps qs
all_ended answers d patience [] [] [] f g h = tt
all_ended answers d patience [] [] (w ∷ ws) f g h = absurd f
all_ended answers d patience [] (q ∷ qs) [] f g h = absurd g
all_ended answers d patience [] (q ∷ qs) (w ∷ ws) f g h = absurd f
all_ended answers d patience (p ∷ ps) [] [] f g h = absurd f
all_ended answers d patience (p ∷ ps) [] (w ∷ ws) f g h = absurd g
all_ended answers d patience (p ∷ ps) (q ∷ qs) [] f g h = absurd f
all_ended answers d patience (p ∷ ps) (q ∷ qs) (w ∷ ws) f g h = (
  has_ended answers d patience p w.pass q w.fault f.0 g.0 (All-head (λ (x : Stop). x.1 ≡ None) (stop_of w) (map stop_of ws) h),
  all_ended answers d patience ps qs ws f.1 g.1 (All-tail (λ (x : Stop). x.1 ≡ None) (stop_of w) (map stop_of ws) h),
)

has_come : (answers : Answers) (d : Desk) (patience : ℕ) (p r q : Pass) (fault : Option DeskFault) → HasWorked answers d patience p r fault → SeesMore r q → HasCome answers d patience p q
has_come answers d patience p r q None h s = (None, record { ended = r; ends = h.met; since = s })
has_come answers d patience p r q (Some fault) h s = (Some fault, record { stopped = r; stops = h.met; since = s })

all_come : {M : Type 0} (answers : Answers) (d : Desk) (patience : ℕ) (ps qs : List Pass) (ws : List (Worked M)) → AllZip (IsWorkedFrom answers d patience) ps ws → AllZip SeesOn ws qs → AllZip (HasCome answers d patience) ps qs
all_come answers d patience [] [] [] f g = tt
all_come answers d patience [] [] (w ∷ ws) f g = absurd f
all_come answers d patience [] (q ∷ qs) [] f g = absurd g
all_come answers d patience [] (q ∷ qs) (w ∷ ws) f g = absurd f
all_come answers d patience (p ∷ ps) [] [] f g = absurd f
all_come answers d patience (p ∷ ps) [] (w ∷ ws) f g = absurd g
all_come answers d patience (p ∷ ps) (q ∷ qs) [] f g = absurd f
all_come answers d patience (p ∷ ps) (q ∷ qs) (w ∷ ws) f g = (has_come answers d patience p w.pass q w.fault f.0 g.0, all_come answers d patience ps qs ws f.1 g.1)

ends_below : (answers : Answers) (d : Desk) (caller patience : ℕ) (p r q : Pass) (fault : Option DeskFault) → HasWorked answers d patience p r fault → SeesMore r q → EndsIf caller (r.known.caller, fault) → EndsBelow answers d caller patience p q
ends_below answers d caller patience p r q fault h s below l = has_ended answers d patience p r q fault h s (below (let same = s.same.2 in omega arith))

all_below : {M : Type 0} (answers : Answers) (d : Desk) (caller patience : ℕ) (ps qs : List Pass) (ws : List (Worked M)) → AllZip (IsWorkedFrom answers d patience) ps ws → AllZip SeesOn ws qs → All (EndsIf caller) (map stop_of ws) → AllZip (EndsBelow answers d caller patience) ps qs
all_below answers d caller patience [] [] [] f g h = tt
all_below answers d caller patience [] [] (w ∷ ws) f g h = absurd f
all_below answers d caller patience [] (q ∷ qs) [] f g h = absurd g
all_below answers d caller patience [] (q ∷ qs) (w ∷ ws) f g h = absurd f
all_below answers d caller patience (p ∷ ps) [] [] f g h = absurd f
all_below answers d caller patience (p ∷ ps) [] (w ∷ ws) f g h = absurd g
all_below answers d caller patience (p ∷ ps) (q ∷ qs) [] f g h = absurd f
all_below answers d caller patience (p ∷ ps) (q ∷ qs) (w ∷ ws) f g h = (
  ends_below answers d caller patience p w.pass q w.fault f.0 g.0 (All-head (EndsIf caller) (stop_of w) (map stop_of ws) h),
  all_below answers d caller patience ps qs ws f.1 g.1 (All-tail (EndsIf caller) (stop_of w) (map stop_of ws) h),
)

-- ---- the worker that was stopped

-- what stopped it, whatever its patience was
StopsAs : {M : Type 0} → Answers → Desk → Pass → Worked M → Type 0
StopsAs answers d p w = (fault : DeskFault) → w.fault ≡ Some fault → Stops answers d p w.pass fault

stops_as : (answers : Answers) (d : Desk) (patience : ℕ) (p q : Pass) (fault : Option DeskFault) → HasWorked answers d patience p q fault → (x : DeskFault) → fault ≡ Some x → Stops answers d p q x
stops_as answers d patience p q None h x e = cc
stops_as answers d patience p q (Some fault) h x e = let same : fault ≡ x = cc in subst (Stops answers d p q) same h.met

all_stops : {M : Type 0} (answers : Answers) (d : Desk) (patience : ℕ) (ps : List Pass) (ws : List (Worked M)) → AllZip (IsWorkedFrom answers d patience) ps ws → AllZip (StopsAs answers d) ps ws
unfolding StopsAs
all_stops answers d patience [] [] f = tt
all_stops answers d patience [] (w ∷ ws) f = absurd f
all_stops answers d patience (p ∷ ps) [] f = absurd f
all_stops answers d patience (p ∷ ps) (w ∷ ws) f = (stops_as answers d patience p w.pass w.fault f.0, all_stops answers d patience ps ws f.1)

-- it is the same caller's
stops_caller : (answers : Answers) (d : Desk) (p q : Pass) (fault : DeskFault) → Stops answers d p q fault → q.known.caller ≡ p.known.caller
stops_caller answers d p q fault s = (same_follows s.stood q s.meets.left).2 ∙ s.works.same.2

-- the pass of a caller that was stopped
record Stopped (answers : Answers) (d : Desk) (ps qs : List Pass) (caller : ℕ) (fault : DeskFault) : Type 0 where
  before : Pass
  was_there : Contains ps before
  after : Pass
  there : Contains qs after
  is : before.known.caller ≡ caller
  stopped : WasStopped answers d fault before after

stopped_more : (answers : Answers) (d : Desk) (p q : Pass) (ps qs : List Pass) (caller : ℕ) (fault : DeskFault) → Stopped answers d ps qs caller fault → Stopped answers d (p ∷ ps) (q ∷ qs) caller fault
stopped_more answers d p q ps qs caller fault s =
    record { before = s.before; was_there = Contains-append_right (p ∷ []) ps s.before s.was_there; after = s.after; there = Contains-append_right (q ∷ []) qs s.after s.there; is = s.is; stopped = s.stopped }

stopped_at : {M : Type 0} (answers : Answers) (d : Desk) (caller : ℕ) (fault : DeskFault) (ps qs : List Pass) (ws : List (Worked M)) → AllZip (StopsAs answers d) ps ws → AllZip SeesOn ws qs
    → (k : ℕ) → k < length (map stop_of ws) → slice_index_or (map stop_of ws) k (caller, Some fault) ≡ (caller, Some fault) → Stopped answers d ps qs caller fault
unfolding StopsAs
stopped_at answers d caller fault ps qs [] f g k l e = absurd (omega arith)
stopped_at answers d caller fault [] qs (w ∷ ws) f g k l e = absurd f
stopped_at answers d caller fault (p ∷ ps) [] (w ∷ ws) f g k l e = absurd g
stopped_at answers d caller fault (p ∷ ps) (q ∷ qs) (w ∷ ws) f g zero l e =
    let stops = f.0 fault (ap (λ (x : Stop). x.1) e) in record {
      before = p;
      was_there = (0, omega arith, refl);
      after = q;
      there = (0, omega arith, refl);
      is = sym (stops_caller answers d p w.pass fault stops) ∙ ap (λ (x : Stop). x.0) e;
      stopped = record { stopped = w.pass; stops = stops; since = g.0 };
    }
stopped_at answers d caller fault (p ∷ ps) (q ∷ qs) (w ∷ ws) f g (suc k) l e = stopped_more answers d p q ps qs caller fault (stopped_at answers d caller fault ps qs ws f.1 g.1 k (omega arith) e)

-- the caller's own worker, with its patience, and the others with theirs
pub all_met : {M : Type 0} (m : M) (answers : Answers) (d : Desk) (p q : Pass) (fault : Option DeskFault) (ps qs : List Pass) (ws : List (Worked M)) (first : Option Met) → HasWorked answers d 1 p q fault → AllZip (IsWorkedFrom answers d 1000) ps ws → AllZip SeesOn ws qs
    → IsFirst ((q.known.caller, fault) ∷ map stop_of ws) first → IsMet answers d (p ∷ ps) (q ∷ qs) first
unfolding StopsAs
all_met m answers d p q fault ps qs ws None own f g h = (
  has_ended answers d 1 p q q fault own (sees_itself q) (All-head (λ (x : Stop). x.1 ≡ None) (q.known.caller, fault) (map stop_of ws) h),
  all_ended answers d 1000 ps qs ws f g (All-tail (λ (x : Stop). x.1 ≡ None) (q.known.caller, fault) (map stop_of ws) h),
)
all_met {M} m answers d p q fault ps qs ws (Some met) own f g h =
    let mine : Worked M = record { pass = q; worker = m; fault = fault; alone = false } in
    let s = stopped_at answers d met.caller met.fault (p ∷ ps) (q ∷ qs) (mine ∷ ws) (stops_as answers d 1 p q fault own, all_stops answers d 1000 ps ws f) (sees_itself q, g) h.0.0 h.0.1 h.0.2 in
    record {
      before = s.before;
      was_there = s.was_there;
      after = s.after;
      there = s.there;
      is = s.is;
      stopped = s.stopped;
      below = (
        ends_below answers d met.caller 1 p q q fault own (sees_itself q) (All-head (EndsIf met.caller) (q.known.caller, fault) (map stop_of ws) h.1),
        all_below answers d met.caller 1000 ps qs ws f g (All-tail (EndsIf met.caller) (q.known.caller, fault) (map stop_of ws) h.1),
      );
    }

-- ---- the caller's own pass, which comes first

all_rotated : {A : Type 0} (P : A → Type 0) (xs : List A) (x : A) → All P (xs ++ x ∷ []) → All P (x ∷ xs)
all_rotated P xs x h = All-cons P x xs (all_at P xs x [] h) (all_front P xs (x ∷ []) h)

first_rotated : (stops : List Stop) (stop : Stop) (first : Option Met) → IsFirst (stops ++ stop ∷ []) first → IsFirst (stop ∷ stops) first
first_rotated stops stop None h = all_rotated (λ (x : Stop). x.1 ≡ None) stops stop h
first_rotated stops stop (Some met) h = (
  ⊎_elim (Contains-append_right (stop ∷ []) stops (met.caller, Some met.fault)) (Contains-append_left (stop ∷ []) stops (met.caller, Some met.fault)) (Contains-append_cases stops (stop ∷ []) (met.caller, Some met.fault) h.0),
  all_rotated (EndsIf met.caller) stops stop h.1,
)

-- what is known when all have come back
pub record Back {M : Type 0} (answers : Answers) (d : Desk) (mine met done : Pass) (ps qs : List Pass) (ws : List (Worked M)) (others : Option Met) (fault : Option DeskFault) : Type 0 where
  pub worker : M
  pub of : All (IsOf d) (mine ∷ ps)
  pub work : AllZip (IsWorkedFrom answers d 1000) ps ws
  pub sees : AllZip SeesOn ws qs
  pub mine_sees : SeesMore mine met
  pub mine_works : HasWorked answers d 1 met done fault
  pub short : AllShort (length met.known.seen) (knowns qs)
  pub first : IsFirst (map stop_of ws) others

back_own : {M : Type 0} (answers : Answers) (d : Desk) (mine met done : Pass) (ps qs : List Pass) (ws : List (Worked M)) (others : Option Met) (fault : Option DeskFault) → Back answers d mine met done ps qs ws others fault → HasWorked answers d 1 mine done fault
back_own answers d mine met done ps qs ws others fault b = worked_after answers d 1 mine met done fault b.mine_sees b.mine_works

pub back_works : {M : Type 0} (answers : Answers) (d : Desk) (mine met done : Pass) (ps qs : List Pass) (ws : List (Worked M)) (others : Option Met) (fault : Option DeskFault) → Back answers d mine met done ps qs ws others fault → AllZip (Works answers) (mine ∷ ps) (done ∷ qs)
back_works answers d mine met done ps qs ws others fault b = ((back_own answers d mine met done ps qs ws others fault b).works, all_work answers d 1000 ps qs ws b.work b.sees)

pub back_met : {M : Type 0} (answers : Answers) (d : Desk) (mine met done : Pass) (ps qs : List Pass) (ws : List (Worked M)) (others : Option Met) (fault : Option DeskFault) → Back answers d mine met done ps qs ws others fault
    → IsMet answers d (mine ∷ ps) (done ∷ qs) (first_with others done.known.caller fault)
back_met answers d mine met done ps qs ws others fault b =
    all_met b.worker answers d mine done fault ps qs ws (first_with others done.known.caller fault) (back_own answers d mine met done ps qs ws others fault b) b.work b.sees
    (first_rotated (map stop_of ws) (done.known.caller, fault) (first_with others done.known.caller fault) (first_more (map stop_of ws) others done.known.caller fault b.first))

-- the passes are still of the desk
still_of : (answers : Answers) (d : Desk) (ps qs : List Pass) → All (IsOf d) ps → AllZip (Works answers) ps qs → All (IsOf d) qs
still_of answers d [] [] h f = All-nil (IsOf d)
still_of answers d [] (q ∷ qs) h f = absurd f
still_of answers d (p ∷ ps) [] h f = absurd f
still_of answers d (p ∷ ps) (q ∷ qs) h f =
    let x = All-head (IsOf d) p ps h in
    All-cons (IsOf d) q qs (f.0.same.0 ∙ x.0, f.0.same.1 ∙ x.1) (still_of answers d ps qs (All-tail (IsOf d) p ps h) f.1)

pub back_of : {M : Type 0} (answers : Answers) (d : Desk) (mine met done : Pass) (ps qs : List Pass) (ws : List (Worked M)) (others : Option Met) (fault : Option DeskFault) → Back answers d mine met done ps qs ws others fault → All (IsOf d) (done ∷ qs)
back_of answers d mine met done ps qs ws others fault b = still_of answers d (mine ∷ ps) (done ∷ qs) b.of (back_works answers d mine met done ps qs ws others fault b)

-- the passes that come from the workers are of the desk
pub worked_of : {M : Type 0} (answers : Answers) (d : Desk) (ps : List Pass) (ws : List (Worked M)) → All (IsOf d) ps → AllZip (IsWorkedFrom answers d 1000) ps ws → All (λ (w : Worked M). w.pass.table ≡ d.table) ws
worked_of {M} answers d [] [] h f = All-nil (λ (w : Worked M). w.pass.table ≡ d.table)
worked_of answers d [] (w ∷ ws) h f = absurd f
worked_of answers d (p ∷ ps) [] h f = absurd f
worked_of {M} answers d (p ∷ ps) (w ∷ ws) h f =
    All-cons (λ (w : Worked M). w.pass.table ≡ d.table) w ws (f.0.works.same.0 ∙ (All-head (IsOf d) p ps h).0) (worked_of answers d ps ws (All-tail (IsOf d) p ps h) f.1)

pub zip_length : {A B : Type 0} (R : A → B → Type 0) (xs : List A) (ys : List B) → AllZip R xs ys → length ys ≡ length xs
zip_length R [] [] f = refl
zip_length R [] (y ∷ ys) f = absurd f
zip_length R (x ∷ xs) [] f = absurd f
zip_length R (x ∷ xs) (y ∷ ys) f = let e = zip_length R xs ys f.1 in omega arith

-- ---- the closed desk

no_more : (xs ys zs : List Event) → zs ≡ xs ++ ys → length zs ≤ length xs → zs ≡ xs
no_more xs [] zs e l = e ∙ append-nil xs
no_more xs (y ∷ ys) zs e l = absurd (let a = ap length e in let b = length-append xs (y ∷ ys) in omega arith)

-- what the caller's pass has seen is the whole history
whole_seen : (d : Desk) (done : Pass) (qs : List Pass) (history : List Event) → Closes d (done ∷ qs) history → AllShort (length done.known.seen) (knowns qs) → history ≡ done.known.seen
whole_seen d done qs history c short =
    let begins : Catches done.known.caller done.known.seen history = All-head (λ (p : Pass). Catches p.known.caller p.known.seen history) done qs c.begins in
    let few : length (longest (knowns (done ∷ qs))) ≤ length done.known.seen = longest_short (length done.known.seen) (knowns (done ∷ qs)) (omega arith, short) in
    let e = ap length c.longest in
    no_more done.known.seen begins.others history begins.joined (omega arith)

-- the desk, closed
pub record Shut (d : Desk) (qs : List Pass) (history : List Event) (kept : List Kept) (graph : State) : Type 0 where
  pub closes : Closes d qs history
  pub kept_are : AreKept kept qs
  pub fit : AllFit d.setting.plan history (map pass_kept kept)
  pub one : IsOneHistory d.setting.plan d.setting.functions history (map caller_kept kept)
  pub graph_is : graph ≡ state_from d.setting.plan history

pub shut_of : (d : Desk) (qs items : List Pass) (history : List Event) (kept : List Kept) (graph : State) → items ≡ qs → Closes d items history → AreKept kept items → AllFit d.setting.plan history (map pass_kept kept) → IsOneHistory d.setting.plan d.setting.functions history (map caller_kept kept)
    → graph ≡ state_from d.setting.plan history → Shut d qs history kept graph
shut_of d qs items history kept graph same closes are fit one is = record {
  closes = subst (λ (l : List Pass). Closes d l history) same closes;
  kept_are = subst (λ (l : List Pass). AreKept kept l) same are;
  fit = fit;
  one = one;
  graph_is = is;
}

pub back_ran : {M : Type 0} (answers : Answers) (d : Desk) (mine met done : Pass) (ps qs : List Pass) (ws : List (Worked M)) (others : Option Met) (fault : Option DeskFault) → Back answers d mine met done ps qs ws others fault
    → (history : List Event) (kept : List Kept) (graph : State) → Shut d (done ∷ qs) history kept graph → Ran answers d (mine ∷ ps) history kept graph
back_ran answers d mine met done ps qs ws others fault b history kept graph s = record {
  qs = done ∷ qs;
  closes = s.closes;
  kept_are = s.kept_are;
  works = back_works answers d mine met done ps qs ws others fault b;
  each = (has_come answers d 1 mine done done fault (back_own answers d mine met done ps qs ws others fault b) (sees_itself done), all_come answers d 1000 ps qs ws b.work b.sees);
  fit = s.fit;
  once = λ i. subst (λ (l : List (ℕ × List Rec)). calls_of_all i l ≤ 1) (sym s.kept_are)
      (called_once d.setting.plan d.setting.callers history (done ∷ qs) i (subst (All (IsKeptFit d.setting.plan history)) s.kept_are s.fit.each) s.closes.each
      (events_each (λ e. who_of e < d.setting.callers) d.setting.callers d.setting.functions (λ t e h. h.caller) (start d.setting.plan) history s.closes.events));
  one = s.one;
  graph_is = s.graph_is;
}

ended_out : (answers : Answers) (d : Desk) (patience : ℕ) (p q : Pass) → HasEnded answers d patience p q → WorksOut answers p q
ended_out answers d patience p q h = out_before answers p h.ended q h.ends.out h.since

zip_out : (answers : Answers) (d : Desk) (patience : ℕ) (ps qs : List Pass) → AllZip (HasEnded answers d patience) ps qs → AllZip (WorksOut answers) ps qs
zip_out answers d patience [] [] h = tt
zip_out answers d patience [] (q ∷ qs) h = absurd h
zip_out answers d patience (p ∷ ps) [] h = absurd h
zip_out answers d patience (p ∷ ps) (q ∷ qs) h = (ended_out answers d patience p q h.0, zip_out answers d patience ps qs h.1)

pub each_out : (answers : Answers) (d : Desk) (ps qs : List Pass) → OfEach (HasEnded answers d) ps qs → AllZip (WorksOut answers) ps qs
each_out answers d [] qs h = absurd h
each_out answers d (p ∷ ps) [] h = absurd h
each_out answers d (p ∷ ps) (q ∷ qs) h = (ended_out answers d 1 p q h.0, zip_out answers d 1000 ps qs h.1)

pub first_none : (others : Option Met) (caller : ℕ) (fault : Option DeskFault) → first_with others caller fault ≡ None → fault ≡ None
first_none None caller None e = refl
first_none (Some met) caller None e = refl
first_none None caller (Some fault) e = cc
first_none (Some met) caller (Some fault) e = cc

pub back_out : {M : Type 0} (answers : Answers) (d : Desk) (mine met done : Pass) (ps qs : List Pass) (ws : List (Worked M)) (others : Option Met) (fault : Option DeskFault) → Back answers d mine met done ps qs ws others fault
    → (history : List Event) (kept : List Kept) (graph : State) → Shut d (done ∷ qs) history kept graph → first_with others done.known.caller fault ≡ None → RanOut answers d (mine ∷ ps) history kept graph
unfolding back_ran
back_out answers d mine met done ps qs ws others fault b history kept graph s none =
    let of : IsOf d done = All-head (IsOf d) done qs (back_of answers d mine met done ps qs ws others fault b) in
    let longer : length met.known.seen ≤ length done.known.seen = (let e = ap length b.mine_works.works.goes_on in let l = length-append met.known.seen b.mine_works.works.seen in omega arith) in
    let whole : history ≡ done.known.seen = whole_seen d done qs history s.closes (short_more (length met.known.seen) (length done.known.seen) longer (knowns qs) b.short) in
    let same : graph ≡ state_of done.known = s.graph_is ∙ (λ i. state_from ((sym of.1 i).plan) (whole i)) in
    let each : OfEach (HasEnded answers d) (mine ∷ ps) (done ∷ qs) = subst (IsMet answers d (mine ∷ ps) (done ∷ qs)) none (back_met answers d mine met done ps qs ws others fault b) in
    record {
      ran = back_ran answers d mine met done ps qs ws others fault b history kept graph s;
      ended = each;
      none = ap lowest_ready_of same ∙ (ended answers d 1 met done fault (first_none others done.known.caller fault none) b.mine_works).none;
      claims = were_open answers d.setting.plan d.setting.callers history graph (mine ∷ ps) (done ∷ qs) (each_out answers d (mine ∷ ps) (done ∷ qs) each)
          (subst (All (IsKeptFit d.setting.plan history)) s.kept_are s.fit.each) s.closes.each
          (events_each (λ e. who_of e < d.setting.callers) d.setting.callers d.setting.functions (λ t e h. h.caller) (start d.setting.plan) history s.closes.events) s.graph_is;
    }

-- work attaches nothing
next_fits : (answers : Answers) (p : Pass) (owed : Owed) (call : Call) (who functions : ℕ) → IsNextCall answers p owed call → AttachFits functions (event_by who call)
next_fits answers p None call who functions next = subst (λ (c : Call). AttachFits functions (event_by who c)) (sym next.2) tt
next_fits answers p (Some owed) call who functions next = subst (λ (c : Call). AttachFits functions (event_by who c)) (sym next.2) tt

-- why the fault is told
due_told : (d : Desk) (qs : List Pass) (stood stopped after : Pass) (history : List Event) (call : Call) (fault : DeskFault) → Closes d qs history → Contains qs after → Follows stood stopped → SeesMore stopped after
    → ((functions : ℕ) → AttachFits functions (event_by stood.known.caller call)) → IsOnStage stood (event_by stood.known.caller call) → IsDue stopped d (event_by stood.known.caller call) fault → IsDueToTell d.words qs history fault
due_told d qs stood stopped after history call LogFull c there f s fits stage due =
    let begins : Catches after.known.caller after.known.seen history = All-contains (λ (p : Pass). Catches p.known.caller p.known.seen history) qs after c.begins there in
    let longer = sees_longer stopped after s in
    let full : length stopped.known.seen ≡ d.words = due.3 in
    let e = ap length begins.joined in let l = length-append after.known.seen begins.others in let few = c.room in omega arith
due_told d qs stood stopped after history call PassFull c there f s fits stage due = (after, there, ap length s.records ∙ due.2 ∙ sym s.same.3)
due_told d qs stood stopped after history call BadAttach c there f s fits stage due = absurd (due.1 (fits stopped.known.setting.functions))
due_told d qs stood stopped after history call NoStage c there f s fits stage due =
    absurd (due (still_on_stage stood stopped (event_by stood.known.caller call) f stage))

pub back_told : {M : Type 0} (answers : Answers) (d : Desk) (mine met done : Pass) (ps qs : List Pass) (ws : List (Worked M)) (others : Option Met) (fault : Option DeskFault) → Back answers d mine met done ps qs ws others fault
    → (closed : Closed) → Shut d (done ∷ qs) closed.history.items closed.passes.items closed.graph.state
    → (first : Met) → first_with others done.known.caller fault ≡ Some first
    → RunTells answers d (mine ∷ ps) first.fault closed
unfolding back_ran
back_told answers d mine met done ps qs ws others fault b closed shut first some =
    let lowest : IsLowest answers d (mine ∷ ps) (done ∷ qs) first.caller first.fault = subst (IsMet answers d (mine ∷ ps) (done ∷ qs)) some (back_met answers d mine met done ps qs ws others fault b) in
    let stops = lowest.stopped.stops in
    record {
      ran = back_ran answers d mine met done ps qs ws others fault b closed.history.items closed.passes.items closed.graph.state shut;
      due = due_told d (done ∷ qs) stops.stood lowest.stopped.stopped lowest.after closed.history.items stops.meets.call first.fault shut.closes lowest.there stops.meets.left lowest.stopped.since
          (λ functions. next_fits answers stops.stood (owed_after None stops.works.more) stops.meets.call stops.stood.known.caller functions stops.meets.next) stops.meets.there stops.meets.due;
      caller = first.caller;
      lowest = lowest;
    }

-- ---- the calls

-- all workers' functions mean what the first's do
pub all_from : {M : Type 0} (tells : TellsOf M) (calls : CallsOf M) (answers : M → Answers) (first : Answers) (d : Desk) (hs : List (Pass × M)) (ws : List (Worked M)) → All (λ (m : M). answers m ≡ first) (map (λ (h : Pass × M). h.1) hs) → AllZip (IsWorkedBy tells calls answers d 1000) hs ws
    → AllZip (IsWorkedFrom first d 1000) (map (λ (h : Pass × M). h.0) hs) ws
all_from tells calls answers first d [] [] alike f = tt
all_from tells calls answers first d [] (w ∷ ws) alike f = absurd f
all_from tells calls answers first d (h ∷ hs) [] alike f = absurd f
all_from {M} tells calls answers first d (h ∷ hs) (w ∷ ws) alike f = (
  subst (λ (x : Answers). IsWorkedFrom x d 1000 h.0 w) (All-head (λ (m : M). answers m ≡ first) h.1 (map (λ (k : Pass × M). k.1) hs) alike) f.0.from,
  all_from tells calls answers first d hs ws (All-tail (λ (m : M). answers m ≡ first) h.1 (map (λ (k : Pass × M). k.1) hs) alike) f.1,
)

-- the plan that a pass has seen last grows to that of the whole history
grows_whole : (d : Desk) (q : Pass) (history : List Event) → IsOf d q → Catches q.known.caller q.known.seen history → Grows (state_of q.known) (state_from d.setting.plan history)
grows_whole d q history of c =
    let was : state_of q.known ≡ state_from d.setting.plan q.known.seen = ap (λ (x : DeskConfig). state_from x.plan q.known.seen) of.1 in
    let now : state_from d.setting.plan history ≡ state_after (state_from d.setting.plan q.known.seen) c.others = ap (state_from d.setting.plan) c.joined ∙ state_after-append (start d.setting.plan) q.known.seen c.others in
    subst (λ (s : State). Grows s (state_from d.setting.plan history)) (sym was)
    (subst (Grows (state_from d.setting.plan q.known.seen)) (sym now) (state_after-grows (state_from d.setting.plan q.known.seen) c.others))

-- a worker's calls, as the passes and the desk are then
whole_calls : {M : Type 0} (tells : TellsOf M) (calls : CallsOf M) (d : Desk) (who : ℕ) (records : List Rec) (p q : Pass) (m n : M) (history : List Event) → SeesMore p q → IsOf d q → Catches q.known.caller q.known.seen history
    → CallsOnce tells calls (state_of p.known).plan.stages who records p.records m n → CallsOnce tells calls (state_from d.setting.plan history).plan.stages who records q.records m n
whole_calls tells calls d who records p q m n history s of c h =
    subst (λ (l : List Rec). CallsOnce tells calls (state_from d.setting.plan history).plan.stages who records l m n) (sym s.records)
    (once_grown tells calls (state_of q.known) (state_from d.setting.plan history) who records p.records m n (grows_whole d q history of c)
    (once_grown tells calls (state_of p.known) (state_of q.known) who records p.records m n (pass_grows p q s.caught.others s.same.1 s.caught.joined) h))

each_calls : {M : Type 0} (tells : TellsOf M) (calls : CallsOf M) (answers : M → Answers) (d : Desk) (history : List Event) (hs : List (Pass × M)) (ws : List (Worked M)) (qs : List Pass) → AllZip (IsWorkedBy tells calls answers d 1000) hs ws → AllZip SeesOn ws qs
    → All (IsOf d) qs → All (λ (q : Pass). Catches q.known.caller q.known.seen history) qs
    → EachCalls tells calls (state_from d.setting.plan history).plan.stages (map (λ (h : Pass × M). h.0) hs) (map (λ (q : Pass). q.records) qs) (map (λ (h : Pass × M). h.1) hs) (map (λ (w : Worked M). w.worker) ws)
each_calls tells calls answers d history [] [] [] f g of begins = tt
each_calls tells calls answers d history [] [] (q ∷ qs) f g of begins = absurd g
each_calls tells calls answers d history [] (w ∷ ws) qs f g of begins = absurd f
each_calls tells calls answers d history (h ∷ hs) [] qs f g of begins = absurd f
each_calls tells calls answers d history (h ∷ hs) (w ∷ ws) [] f g of begins = absurd g
each_calls tells calls answers d history (h ∷ hs) (w ∷ ws) (q ∷ qs) f g of begins = (
  whole_calls tells calls d h.0.known.caller h.0.records w.pass q h.1 w.worker history g.0 (All-head (IsOf d) q qs of) (All-head (λ (x : Pass). Catches x.known.caller x.known.seen history) q qs begins) f.0.called,
  each_calls tells calls answers d history hs ws qs f.1 g.1 (All-tail (IsOf d) q qs of) (All-tail (λ (x : Pass). Catches x.known.caller x.known.seen history) q qs begins),
)

pub back_calls : {M : Type 0} (tells : TellsOf M) (calls : CallsOf M) (of_worker : M → Answers) (answers : Answers) (d : Desk) (mine met done : Pass) (hs : List (Pass × M)) (qs : List Pass) (ws : List (Worked M)) (others : Option Met) (fault : Option DeskFault) (m n : M)
    → Back answers d mine met done (map (λ (h : Pass × M). h.0) hs) qs ws others fault → AllZip (IsWorkedBy tells calls of_worker d 1000) hs ws → CallsOnce tells calls (state_of done.known).plan.stages met.known.caller met.records done.records m n
    → (history : List Event) (kept : List Kept) (graph : State) → Shut d (done ∷ qs) history kept graph
    → EachCalls tells calls graph.plan.stages (mine ∷ map (λ (h : Pass × M). h.0) hs) (map (λ (k : Kept). k.records.items) kept) (m ∷ map (λ (h : Pass × M). h.1) hs) (n ∷ map (λ (w : Worked M). w.worker) ws)
back_calls {M} tells calls of_worker answers d mine met done hs qs ws others fault m n b f own history kept graph s =
    let of : All (IsOf d) (done ∷ qs) = back_of answers d mine met done (map (λ (h : Pass × M). h.0) hs) qs ws others fault b in
    let stages = (state_from d.setting.plan history).plan.stages in
    let own_as : CallsOnce tells calls (state_of done.known).plan.stages mine.known.caller mine.records done.records m n =
    subst (λ (l : List Rec). CallsOnce tells calls (state_of done.known).plan.stages mine.known.caller l done.records m n) b.mine_sees.records
    (subst (λ (c : ℕ). CallsOnce tells calls (state_of done.known).plan.stages c met.records done.records m n) b.mine_sees.same.2 own) in
    let all : EachCalls tells calls stages (mine ∷ map (λ (h : Pass × M). h.0) hs) (map (λ (q : Pass). q.records) (done ∷ qs)) (m ∷ map (λ (h : Pass × M). h.1) hs) (n ∷ map (λ (w : Worked M). w.worker) ws) = (
      whole_calls tells calls d mine.known.caller mine.records done done m n history (sees_itself done) (All-head (IsOf d) done qs of) (All-head (λ (x : Pass). Catches x.known.caller x.known.seen history) done qs s.closes.begins) own_as,
      each_calls tells calls of_worker d history hs ws qs f b.sees (All-tail (IsOf d) done qs of) (All-tail (λ (x : Pass). Catches x.known.caller x.known.seen history) done qs s.closes.begins),
    ) in
    let records : map (λ (k : Kept). k.records.items) kept ≡ map (λ (q : Pass). q.records) (done ∷ qs) =
    sym (map-map (λ (x : ℕ × List Rec). x.1) pass_kept kept) ∙ ap (map (λ (x : ℕ × List Rec). x.1)) s.kept_are ∙ map-map (λ (x : ℕ × List Rec). x.1) pass_did (done ∷ qs) in
    subst (λ (g : State). EachCalls tells calls g.plan.stages (mine ∷ map (λ (h : Pass × M). h.0) hs) (map (λ (k : Kept). k.records.items) kept) (m ∷ map (λ (h : Pass × M). h.1) hs) (n ∷ map (λ (w : Worked M). w.worker) ws)) (sym s.graph_is)
    (subst (λ (rss : List (List Rec)). EachCalls tells calls stages (mine ∷ map (λ (h : Pass × M). h.0) hs) rss (m ∷ map (λ (h : Pass × M). h.1) hs) (n ∷ map (λ (w : Worked M). w.worker) ws)) (sym records) all)

-- ---- what is told

-- what a run leaves, where a thread was refused or not, and this was the lowest caller that was stopped
pub record Leaves {M : Type 0} (tells : TellsOf M) (calls : CallsOf M) (answers : Answers) (d : Desk) (ps : List Pass) (ms : List M) (refused : Bool) (first : Option Met) (left : Left M) : Type 0 where
  pub ran : Ran answers d ps left.closed.history.items left.closed.passes.items left.closed.graph.state
  pub called : HaveCalled tells calls ps ms left
  pub threads : HadThreads answers d ps left refused
  pub out : first ≡ None → RanOut answers d ps left.closed.history.items left.closed.passes.items left.closed.graph.state
  pub stopped : (met : Met) → first ≡ Some met → RunTells answers d ps met.fault left.closed

pub back_leaves : {M : Type 0} (tells : TellsOf M) (calls : CallsOf M) (of_worker : M → Answers) (answers : Answers) (d : Desk) (mine met done : Pass) (hs : List (Pass × M)) (qs : List Pass) (ws : List (Worked M)) (others : Option Met) (fault : Option DeskFault) (m n : M)
    → Back answers d mine met done (map (λ (h : Pass × M). h.0) hs) qs ws others fault → AllZip (IsWorkedBy tells calls of_worker d 1000) hs ws → CallsOnce tells calls (state_of done.known).plan.stages met.known.caller met.records done.records m n
    → (refused : Bool) (first : Option Met) (left : Left M) → Shut d (done ∷ qs) left.closed.history.items left.closed.passes.items left.closed.graph.state
    → left.workers.items ≡ n ∷ map (λ (w : Worked M). w.worker) ws → refused ≡ is_any_alone ws → first ≡ first_with others done.known.caller fault
    → Leaves tells calls answers d (mine ∷ map (λ (h : Pass × M). h.0) hs) (m ∷ map (λ (h : Pass × M). h.1) hs) refused first left
back_leaves {M} tells calls of_worker answers d mine met done hs qs ws others fault m n b f own refused first left shut workers any is =
    let ps = map (λ (h : Pass × M). h.0) hs in record {
      ran = back_ran answers d mine met done ps qs ws others fault b left.closed.history.items left.closed.passes.items left.closed.graph.state shut;
      called = subst (λ (l : List M). EachCalls tells calls left.closed.graph.state.plan.stages (mine ∷ ps) (map (λ (k : Kept). k.records.items) left.closed.passes.items) (m ∷ map (λ (h : Pass × M). h.1) hs) l) (sym workers)
          (back_calls tells calls of_worker answers d mine met done hs qs ws others fault m n b f own left.closed.history.items left.closed.passes.items left.closed.graph.state shut);
      threads = record { worked = ws; from = b.work; workers = ap (drop 1) workers; alone = sym any };
      out = λ none. back_out answers d mine met done ps qs ws others fault b left.closed.history.items left.closed.passes.items left.closed.graph.state shut (sym is ∙ none);
      stopped = λ x some. back_told answers d mine met done ps qs ws others fault b left.closed shut x (sym is ∙ some);
    }

pub told_left : {M : Type 0} (P : Left M → Type 0) (refused : Bool) (first : Option Met) (left : Left M) → (refused ≡ false → first ≡ None → P left) → IfOk (told refused first left) P
told_left P true first left h = tt
told_left P false None left h = h refl refl
told_left P false (Some met) left h = tt

pub told_refused : {M : Type 0} (tells : TellsOf M) (calls : CallsOf M) (answers : Answers) (d : Desk) (ps : List Pass) (ms : List M) (refused : Bool) (first : Option Met) (left : Left M) → Leaves tells calls answers d ps ms refused first left
    → IfErr (told refused first left) (RunRefuses tells calls answers d ps ms)
told_refused tells calls answers d ps ms true None left h = (inl (h.out refl), h.called, h.threads)
told_refused tells calls answers d ps ms true (Some met) left h = (inr (met.fault, h.stopped met refl), h.called, h.threads)
told_refused tells calls answers d ps ms false None left h = tt
told_refused tells calls answers d ps ms false (Some met) left h = (h.stopped met refl, h.called, h.threads)

-- a list as its first element and the others
pub first_and : {A : Type 0} (xs rest : List A) (x : A) → 0 < length xs → x ≡ slice_index_or xs 0 x → rest ≡ take 0 xs ++ drop (0 + 1) xs → xs ≡ x ∷ rest
first_and [] rest x l e r = absurd (omega arith)
first_and (y ∷ xs) rest x l e r = (λ i. sym e i ∷ sym r i)

pub inserted_first : {A : Type 0} (xs : List A) (x : A) → insert xs 0 x ≡ x ∷ xs
inserted_first xs x = refl
