-- Stages at which nobody is at work.
use Rattle.std.proofs.Common.{◌≡◌, ℕ, ◌+◌, ◌<◌, ◌≤◌, ◌⊎◌, inl, inr, Bool, true, false, subst, arith}
use Rattle.std.specs.Bool.{OnFalse, OnTrue}
use Rattle.std.proofs.lemmas.Bool.{cases_lt}
use Rattle.cf_row.specs.Grants.{ClaimsAreOnes, IsGrantedTo, NoneOpen}
use Rattle.cf_row.specs.Rows.{Replica, stages_of, state_of}
use Rattle.cf_watch.specs.Watches.{Watch}
use Rattle.cf_due.specs.Abandoning.{IsOtherGone}
use Rattle.cf_part.specs.Parts.{Part}
use Rattle.cf_turn.specs.Closing.{AllSettled, IsDone, NobodyAtWork}

-- nor up to the next stage whose claim is open
pub nobody_till : (r : Replica) (watch : Watch) (from to : ℕ) → NobodyAtWork r watch from → NoneOpen from to (state_of r) → NobodyAtWork r watch to
nobody_till r watch from to none closed i below h = split (cases_lt i from)
  where
    split : (i < from) ⊎ (from ≤ i) → ⊥
    split (inl lt) = none i lt h
    split (inr le) = h.claimed (closed i le below)

-- nor at that one, where its session is gone
pub nobody_with : (r : Replica) (watch : Watch) (stage session : ℕ) → ClaimsAreOnes → NobodyAtWork r watch stage → IsGrantedTo r session stage →
    IsOtherGone r watch session → NobodyAtWork r watch (stage + 1)
nobody_with r watch stage session ones none granted gone i below h = split (cases_lt i stage)
  where
    split : (i < stage) ⊎ (stage ≤ i) → ⊥
    split (inl lt) = none i lt h
    split (inr le) =
        let same : i ≡ stage = omega (arith, le, below) in
        let own : IsGrantedTo r h.session stage = subst (IsGrantedTo r h.session) same h.granted in
        let one : session ≡ h.session = ones r.plan r.seen stage session h.session granted own in
        h.stays (subst (IsOtherGone r watch) one gone)

-- a request of a flow is done where all is settled, and nobody is at work
pub done_by : (p : Part) (watch : Watch) (b : Bool) → p.is_flow ≡ true → AllSettled p.row.replica (stages_of p.row.replica) →
    OnTrue b (NobodyAtWork p.row.replica watch (stages_of p.row.replica)) → OnTrue b (IsDone p watch)
done_by p watch true flow all idle = record { flow = flow; settled = all; idle = idle }
done_by p watch false flow all idle = tt

pub undone_by : (p : Part) (watch : Watch) (b : Bool) → OnFalse b (¬ NobodyAtWork p.row.replica watch (stages_of p.row.replica)) → OnFalse b (¬ IsDone p watch)
undone_by p watch true busy = tt
undone_by p watch false busy = λ h. busy h.idle
