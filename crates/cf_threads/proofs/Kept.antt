-- What a turn does to what lies under the lock.
use Rattle.std.proofs.Common.{◌≡◌, ℕ, ◌+◌, ◌≤◌, ◌<◌, inl, inr, Option, Some, None, List, [], ◌∷◌, ◌++◌, map, refl, sym, ap, ◌∙◌, subst, arith}
use Rattle.std.specs.Prelude.{Err, IfErr, IfNone, IfOk, Ok, OnErr, Result}
use Rattle.cf_ledger.specs.declared.faults.StepFault.{StepFault}
use Rattle.cf_ledger.specs.declared.step.Held.{Held}
use Rattle.cf_ledger.specs.declared.step.Taken.{Taken}
use Rattle.cf_request.specs.Lanes.{NothingIsReady}
use Rattle.cf_request.specs.Machines.{IsNoNext, Machine, OnlyFinds}
use Rattle.cf_request.specs.Rows.{AddsBehind, AreCalls, IsCall, Out, RunsOnce, all_jobs, job_of, nothing, stage_of}
use Rattle.cf_request.specs.Rows.IsCall.{goes_on, is_refused}
use Rattle.cf_request.specs.Telling.{IsApart}
use Rattle.cf_threads.specs.Desks.{IsKept, IsQuiet}
use Rattle.cf_threads.specs.Slips.{AreAmong, IsFair, IsKeeper, IsSlip, all_parts, keeper, slip, with_slip}
use Rattle.cf_threads.specs.Turns.{AreTurns, GoesOnWith, Holds, Steps, begun, ended, jobs_of, jobs_told, one, refused, stage_taken, weigh, weigh_held, weigh_told}
use Rattle.cf_threads.specs.declared.place.Place.{Place}
use Rattle.cf_threads.specs.declared.slips.View.{View}
use Rattle.cf_threads.specs.declared.turn.Turn.{Turn}
use Rattle.cf_threads.proofs.Sums.{weigh_push}

-- ---- turns are calls of the machine

pub steps_of : (place : Place) (held : Option Held) (old new : Machine) (next : Result (Option Taken) StepFault) → IfOk next (λ taken. GoesOnWith place held old taken new) → OnErr next (OnlyFinds old new) → IfErr next (λ fault. IsNoNext place.who place.lane held old fault)
    → Steps place held old next new
steps_of place held old new (Ok taken) goes finds why = goes
steps_of place held old new (Err fault) goes finds why = record { finds = finds; why = why }

turns_push : (place : Place) (a b c : Machine) (ts : List Turn) (t : Turn) → AreTurns place a ts b → Steps place t.held b t.next c → AreTurns place a (ts ++ t ∷ []) c
turns_push place a b c [] t same step = (c, subst (λ (m : Machine). Steps place t.held m t.next c) same step, refl)
turns_push place a b c (x ∷ ts) t (between, first, rest) step = (between, first, turns_push place between b c ts t rest step)

abbrev out_by : ℕ → Result (Option Taken) StepFault → Out
out_by who (Ok taken) = job_of who taken
out_by who (Err fault) = nothing

abbrev outs_of : ℕ → List Turn → List Out
outs_of who [] = []
outs_of who (t ∷ ts) = out_by who t.next ∷ outs_of who ts

step_call : (place : Place) (held : Option Held) (old new : Machine) (next : Result (Option Taken) StepFault) → Steps place held old next new → IsCall old (out_by place.who next) new
step_call place held old new (Ok taken) goes = goes_on place.who place.lane held goes.next (ap (job_of place.who) (sym goes.told)) goes.goes_on
step_call place held old new (Err fault) is = is_refused refl is.finds

turns_calls : (place : Place) (old new : Machine) (ts : List Turn) → AreTurns place old ts new → AreCalls old (outs_of place.who ts) new
turns_calls place old new [] same = same
turns_calls place old new (t ∷ ts) (between, first, rest) = (between, step_call place t.held old between t.next first, turns_calls place between new ts rest)

map_append : {A B : Type 0} (f : A → B) (xs ys : List A) → map f (xs ++ ys) ≡ map f xs ++ map f ys
map_append f [] ys = refl
map_append f (x ∷ xs) ys = ap (λ l. f x ∷ l) (map_append f xs ys)

job_stage : (who : ℕ) (taken : Option Taken) → map stage_of (job_of who taken).jobs ≡ map stage_taken (jobs_of (Ok taken))
job_stage who None = refl
job_stage who (Some t) = refl

out_stages : (who : ℕ) (next : Result (Option Taken) StepFault) → map stage_of (out_by who next).jobs ≡ map stage_taken (jobs_of next)
out_stages who (Ok taken) = job_stage who taken
out_stages who (Err fault) = refl

stages_are : (who : ℕ) (ts : List Turn) → map stage_of (all_jobs (outs_of who ts)) ≡ map stage_taken (jobs_told ts)
stages_are who [] = refl
stages_are who (t ∷ ts) =
    map_append stage_of (out_by who t.next).jobs (all_jobs (outs_of who ts))
    ∙ ap (λ (l : List ℕ). l ++ map stage_of (all_jobs (outs_of who ts))) (out_stages who t.next)
    ∙ ap (λ (l : List ℕ). map stage_taken (jobs_of t.next) ++ l) (stages_are who ts)
    ∙ sym (map_append stage_taken (jobs_of t.next) (jobs_told ts))

-- no stage is told twice
pub told_apart : RunsOnce → (place : Place) (start end : Machine) (ts : List Turn) → AreTurns place start ts end → IsApart (map stage_taken (jobs_told ts))
told_apart once place start end ts turns = subst IsApart (stages_are place.who ts) (once start end (outs_of place.who ts) (turns_calls place start end ts turns)).apart

-- there are as many lanes as at the beginning
pub same_lanes : AddsBehind → (place : Place) (start m : Machine) (ts : List Turn) (lane : ℕ) → AreTurns place start ts m → lane < start.teller.lanes.count → lane < m.teller.lanes.count
same_lanes behind place start m ts lane turns there = let same = (behind start m (outs_of place.who ts) (turns_calls place start m ts turns)).lanes in omega (arith, same, there)

-- ---- what is held

-- a thread that holds this, and no more, is fair once it has brought it
pub fair_turn : (held : Option Held) (next : Result (Option Taken) StepFault) (mine : List Turn) → Holds held mine → IsFair 1 (mine ++ (record { held = held; next = next }) ∷ [])
fair_turn held next mine holds = record {
  some = λ weight.
      (let t : Turn = record { held = held; next = next } in
      let a = holds weight in
      let b = weigh_push (begun weight) mine t in
      let c = weigh_push (ended weight) mine t in
      omega (arith, a, b, c));
  few =
      (let t : Turn = record { held = held; next = next } in
      let a = holds one in
      let b = weigh_push (begun one) mine t in
      let c = weigh_push (ended one) mine t in
      let d = told_one next in
      omega (arith, a, b, c, d));
}
  where
    taken_one : (taken : Option Taken) → weigh_told one (Ok taken) ≤ 1
    taken_one None = omega arith
    taken_one (Some t) = omega arith

    told_one : (next : Result (Option Taken) StepFault) → weigh_told one next ≤ 1
    told_one (Ok taken) = taken_one taken
    told_one (Err fault) = omega arith

pub mine_noted : (v w u : View) → IsKeeper v → u ≡ with_slip v w → u.mine ≡ w.mine
mine_noted v w u keeps joined = ap (λ (x : View). x.mine) joined ∙ ap (λ (l : List Turn). l ++ w.mine) (ap (λ (x : View). x.mine) keeps)

-- so it is with the keeper's slip, and with its own once that is cut off again
pub fair_noted : (v w u : View) (turn : Turn) → IsKeeper v → IsSlip w → u ≡ with_slip v w → Holds turn.held w.mine → IsFair u.parts (u.mine ++ turn ∷ [])
fair_noted v w u turn keeps is joined holds =
    let own = fair_turn turn.held turn.next w.mine holds in
    let mine = mine_noted v w u keeps joined in
    let p = ap (λ (x : View). x.parts) joined in
    let q = ap (λ (x : View). x.parts) is in
    record {
      some = subst (λ (l : List Turn). (weight : ℕ → ℕ) → weigh (ended weight) (l ++ turn ∷ []) ≤ weigh (begun weight) (l ++ turn ∷ [])) (sym mine) own.some;
      few =
          (let few = own.few in
          let a = ap (λ (l : List Turn). weigh (begun one) (l ++ turn ∷ [])) mine in
          let b = ap (λ (l : List Turn). weigh (ended one) (l ++ turn ∷ [])) mine in
          omega (arith, few, a, b, p, q));
    }

pub fair_cut : (v w u x : View) (turn : Turn) → IsKeeper v → u ≡ with_slip v w → x.mine ≡ u.mine ++ turn ∷ [] → Holds turn.held w.mine → IsFair 1 x.mine
fair_cut v w u x turn keeps joined taken holds =
    subst (IsFair 1) (sym (taken ∙ ap (λ (l : List Turn). l ++ turn ∷ []) (mine_noted v w u keeps joined))) (fair_turn turn.held turn.next w.mine holds)

-- what a turn tells, and what is told and held after it
pub record AfterTurn (held : Option Held) (next : Result (Option Taken) StepFault) (all : List Turn) : Type 0 where
  pub some : weigh (ended one) all + weigh_held one held ≤ weigh (begun one) all
  pub few : weigh (begun one) all + weigh_told one next ≤ weigh (ended one) all + weigh_held one held + all_parts

pub after_turn : (held : Option Held) (next : Result (Option Taken) StepFault) (mine all : List Turn) → Holds held mine → (t : Turn) → t ≡ (record { held = held; next = next }) → AreAmong (mine ++ t ∷ []) (all ++ t ∷ []) → AfterTurn held next all
after_turn held next mine all holds t is among =
    let among' = subst (λ (u : Turn). AreAmong (mine ++ u ∷ []) (all ++ u ∷ [])) is among in
    let u : Turn = record { held = held; next = next } in
    let a = holds one in
    let b = weigh_push (begun one) mine u in
    let c = weigh_push (ended one) mine u in
    let d = weigh_push (begun one) all u in
    let e = weigh_push (ended one) all u in
    let f = among'.some one in
    let g = among'.few in
    record { some = omega (arith, a, b, c, d, e, f); few = omega (arith, d, e, g) }

-- what was held was held by somebody, and no more is held then than there are parts
pub held_busy : (place : Place) (start m : Machine) (busy : ℕ) (turns : List Turn) (held : Option Held) (next : Result (Option Taken) StepFault) → IsKept place start busy (record { machine = m; turns = turns }) → AfterTurn held next turns → weigh_held one held ≤ busy
held_busy place start m busy turns held next kept after = let a = after.some in let b = kept.busy_is in omega (arith, a, b)

pub few_busy : (place : Place) (start m : Machine) (busy : ℕ) (turns : List Turn) (held : Option Held) (next : Result (Option Taken) StepFault) → IsKept place start busy (record { machine = m; turns = turns }) → AfterTurn held next turns → busy + weigh_told one next ≤ 4096 + weigh_held one held
few_busy place start m busy turns held next kept after = let a = after.few in let b = kept.busy_is in let c = kept.some in omega (arith, a, b, c)

quiet_taken : (place : Place) (held : Option Held) (taken : Option Taken) (m : Machine) (turns : List Turn) → IfNone taken (NothingIsReady m.teller place.lane) → AfterTurn held (Ok taken) turns → IsQuiet place.lane (record { machine = m; turns = turns ++ (record { held = held; next = Ok taken }) ∷ [] })
quiet_taken place held None m turns none after = inr (inr (inr none))
quiet_taken place held (Some t) m turns none after =
    let u : Turn = record { held = held; next = Ok (Some t) } in
    let a = weigh_push (begun one) turns u in
    let b = weigh_push (ended one) turns u in
    let c = after.some in
    inr (inr (inl (omega (arith, a, b, c))))

quiet_turn : (place : Place) (held : Option Held) (next : Result (Option Taken) StepFault) (m : Machine) (turns : List Turn) → IfOk next (λ taken. IfNone taken (NothingIsReady m.teller place.lane)) → AfterTurn held next turns
    → IsQuiet place.lane (record { machine = m; turns = turns ++ (record { held = held; next = next }) ∷ [] })
quiet_turn place held (Ok taken) m turns none after = quiet_taken place held taken m turns none after
quiet_turn place held (Err fault) m turns none after =
    let u : Turn = record { held = held; next = Err fault } in
    let a = weigh_push refused turns u in
    inr (inl (omega (arith, a)))

-- what is kept under the lock is kept by a turn
pub kept_turn : (place : Place) (start m n : Machine) (busy after_busy : ℕ) (turns : List Turn) (held : Option Held) (next : Result (Option Taken) StepFault) → IsKept place start busy (record { machine = m; turns = turns }) → Steps place held m next n
    → IfOk next (λ taken. IfNone taken (NothingIsReady n.teller place.lane)) → AfterTurn held next turns → after_busy + weigh_held one held ≡ busy + weigh_told one next
    → IsKept place start after_busy (record { machine = n; turns = turns ++ (record { held = held; next = next }) ∷ [] })
kept_turn place start m n busy after_busy turns held next kept step none after counted =
    let u : Turn = record { held = held; next = next } in
    let a = weigh_push (begun one) turns u in
    let b = weigh_push (ended one) turns u in
    let c = after.some in
    let d = kept.busy_is in
    record {
      are = turns_push place start m n turns u kept.are step;
      some = omega (arith, a, b, c);
      busy_is = omega (arith, a, b, c, d, counted);
      quiet = quiet_turn place held next n turns none after;
    }

-- at first nobody has come
pub kept_none : (place : Place) (start m : Machine) → m ≡ start → IsKept place start 0 (record { machine = m; turns = [] })
kept_none place start m same = record { are = same; some = omega arith; busy_is = refl; quiet = inl refl }

-- ---- slips

-- a keeper keeps its parts
pub keeps_parts : (p : ℕ) (v w : View) (turns : List Turn) → v ≡ keeper p v.all → w ≡ keeper v.parts turns → w ≡ keeper p w.all
keeps_parts p v w turns is now = now ∙ ap (λ (n : ℕ). keeper n turns) (ap (λ (u : View). u.parts) is) ∙ ap (λ (l : List Turn). keeper p l) (sym (ap (λ (u : View). u.all) now))

pub slip_is : (v : View) (l : List Turn) → v ≡ slip l → IsSlip v
slip_is v l is = is ∙ ap slip (sym (ap (λ (u : View). u.mine) is))
