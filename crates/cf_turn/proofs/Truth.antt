-- Behind any calls, what is told of acts is so.
use Rattle.std.proofs.Common.{◌≡◌, ℕ, zero, suc, ◌-◌, ◌<◌, ◌⊎◌, inl, inr, Bool, true, false, cond, nat_lt, Option, Some, None, List, [], ◌∷◌, ◌++◌, Contains, length, refl, ap, sym, ◌∙◌, subst, append_assoc, arith}
use Rattle.std.specs.Prelude.{◌&&◌, slice_get}
use Rattle.std.specs.List.{remove}
use Rattle.cf_model.specs.States.{start}
use Rattle.cf_ledger.specs.Ledgers.{AreTaken}
use Rattle.cf_ledger.specs.declared.faults.LedgerFault.{LedgerFault}
use Rattle.cf_ledger.specs.declared.faults.LedgerFault.TheVariants.{NoMemory, NoEvent, NoStage, NoRoom}
use Rattle.cf_notes.specs.declared.note.Note.{Note}
use Rattle.cf_row.specs.declared.entry.Entry.{Entry}
use Rattle.cf_row.specs.Rows.{BeginsWith, Replica, StandsAt, history_of, stages_of, with_more}
use Rattle.cf_row.specs.Puts.{Row}
use Rattle.cf_row.proofs.Roomier.{stages_more}
use Rattle.std.proofs.lemmas.List.Elements.{Contains-append_right}
use Rattle.cf_due.specs.declared.acts.Act.{Act}
use Rattle.cf_due.specs.declared.acts.Acting.{Acting}
use Rattle.cf_due.specs.declared.due.Due.{Due}
use Rattle.cf_due.specs.declared.due.Due.TheVariants.{Finish as FinishIsDue, Abandon as AbandonIsDue, Link as LinkIsDue, Cancel as CancelIsDue, Timer as TimerIsDue, Claim as ClaimIsDue}
use Rattle.cf_part.specs.declared.question.Fault.{Fault}
use Rattle.cf_part.specs.declared.question.Question.{Question}
use Rattle.cf_part.specs.declared.step.Step.{Step}
use Rattle.cf_part.specs.declared.step.Step.TheVariants.{Show as StepShow, Stop as StepStop, Call as StepCall}
use Rattle.cf_part.specs.Parts.{Part}
use Rattle.cf_part.specs.Steps.{Tells}
use Rattle.cf_part.specs.Answers.{Grows, MismeetsBy}
use Rattle.cf_part.proofs.Rows.{effects}
use Rattle.cf_turn.specs.declared.planning.Putting.{Putting}
use Rattle.cf_turn.specs.declared.turn.Turn.{Turn}
use Rattle.cf_turn.specs.declared.turn.Turn.TheVariants.{Tell, Show, Stop, Call, Ask}
use Rattle.cf_turn.specs.declared.wish.Told.{Told}
use Rattle.cf_turn.specs.declared.wish.Told.TheVariants.{Stands, Not, Refused, Unknown, Closed, Ended}
use Rattle.cf_turn.specs.declared.wish.Wish.{Wish}
use Rattle.cf_turn.specs.Works.{Work, ended_by, is_closed_in, new_work, told_by, wish_of}
use Rattle.cf_turn.specs.Turns.{Decides, DoesAct, Goes, IsPutOff, Moment, Puts, Rests, RestsBy, RestsWith, TakesStep, Turns, is_of_act, putting_for, putting_of}
use Rattle.cf_turn.specs.Answers.{LandsWork, MeetsWork, RefusesPart, refused, wishes_standing}
use Rattle.cf_turn.specs.Rows.{AreCalls, IsCall}
use Rattle.cf_turn.specs.Rows.IsCall.{turns, rests, finds, asks, ends, wants, hears, grows as gets_room, finishes, reads, misreads, lands, meets, mismeets, waits, refuses, closes, breaks, reads_again}
use Rattle.cf_turn.specs.Truth.{ActsAreToldTruly, AreCallsWhile, IsSo, IsSoOfEnd, IsSoOfWish, KeepsPut}
use Rattle.cf_turn.proofs.PartCalls.{works_are_parts}
use Rattle.cf_turn.proofs.Standing.{ActsFirst, AreSo, IsSoKept, begins_front, has_put, so_append, so_at, so_refused, so_remove, so_standing, stands_behind, stands_once}

-- the answers that are kept are so, and the put that is under way is that of the first act, where it is said to be
record Keeps (row : List Entry) (w : Work) : Type 0 where
  so : AreSo row w.wishes
  first : w.is_acting ≡ true → ActsFirst w.wishes w.part.row

-- ---- where the put stays

keeps_is : (row : List Entry) (old new : Work) → new ≡ old → Keeps row old → Keeps row new
keeps_is row old new same h = subst (λ (w : Work). Keeps row w) (sym same) h

acts_in : (wishes : List Wish) (old new : Row) → new ≡ old → ActsFirst wishes old → ActsFirst wishes new
acts_in wishes old new same h = subst (λ (r : Row). ActsFirst wishes r) (sym same) h

acts_of : (old new : List Wish) (r : Row) → new ≡ old → ActsFirst old r → ActsFirst new r
acts_of old new r same h = subst (λ (l : List Wish). ActsFirst l r) (sym same) h

keeps_row : (row : List Entry) (old new : Work) → new.wishes ≡ old.wishes → new.is_acting ≡ old.is_acting → new.part.row ≡ old.part.row → Keeps row old → Keeps row new
keeps_row row old new wishes acting same h = record {
  so = subst (λ (l : List Wish). AreSo row l) (sym wishes) h.so;
  first = λ is. acts_of old.wishes new.wishes new.part.row wishes (acts_in old.wishes old.part.row new.part.row same (h.first (sym acting ∙ is)));
}

-- ---- where there is more room

acts_roomier : (wishes : List Wish) (old new : Row) (more : ℕ) → AreTaken (start old.replica.plan) (history_of old.replica.seen) → new ≡ (record old { replica = with_more old.replica more }) → ActsFirst wishes old → ActsFirst wishes new
acts_roomier wishes old new more taken is h = subst (λ (r : Row). ActsFirst wishes r) (sym is) (record {
  wish = h.wish;
  rest = h.rest;
  are = h.are;
  view = h.view;
  notes = h.notes;
  acting = h.acting;
  token = h.token;
  does = h.does;
  put = h.put;
  seen = h.seen;
  stages = stages_more old.replica more taken ∙ h.stages;
})

keeps_roomier : (row : List Entry) (old new : Work) (more : ℕ) → Grows old.part more new.part → new ≡ (record old { part = new.part }) → Keeps row old → Keeps row new
keeps_roomier row old new more h rest k =
    let wishes = ap (λ (w : Work). w.wishes) rest in
    let acting = ap (λ (w : Work). w.is_acting) rest in
    record {
      so = subst (λ (l : List Wish). AreSo row l) (sym wishes) k.so;
      first = λ on. acts_of old.wishes new.wishes new.part.row wishes
          (acts_roomier old.wishes old.part.row new.part.row more h.taken (ap (λ (p : Part). p.row) h.rest) (k.first (sym acting ∙ on)));
    }

-- ---- where no act's put is under way behind it

not_both : (b : Bool) → b ≡ false → b ≡ true → ⊥
not_both b off on = cc

keeps_idle : (row : List Entry) (new : Work) → new.is_acting ≡ false → AreSo row new.wishes → Keeps row new
keeps_idle row new off so = record { so = so; first = λ on. absurd (not_both new.is_acting off on) }

-- ---- turns

first_kept : (wishes : List Wish) (place : ℕ) (b : Bool) (r : Row) → ((b && nat_lt 0 place) ≡ true) → (b ≡ true → ActsFirst wishes r) → ActsFirst (remove wishes place) r
first_kept wishes place false r on h = (let no : ⊥ = cc in absurd no)
first_kept wishes zero true r on h = (let no : ⊥ = cc in absurd no)
first_kept wishes (suc k) true r on h =
    let old = h refl in
    record {
      wish = old.wish;
      rest = remove old.rest k;
      are = ap (λ (l : List Wish). remove l (suc k)) old.are;
      view = old.view;
      notes = old.notes;
      acting = old.acting;
      token = old.token;
      does = old.does;
      put = old.put;
      seen = old.seen;
      stages = old.stages;
    }

no_put : (wishes : List Wish) (r : Row) → r.put ≡ [] → ActsFirst wishes r → ⊥
no_put wishes r none h = (let some = has_put wishes r h in let count = ap length none in omega (arith, some, count))

keeps_told : (row : List Entry) (old new : Work) (at : Moment) (n : ℕ) (told : Told) → Keeps row old → Turns old at (Tell n told) new → Keeps row new
keeps_told row old new at n told k (inl (inl (place, is, rest))) = subst (λ (w : Work). Keeps row w) (sym rest) (record {
  so = so_remove row old.wishes place k.so;
  first = λ on. first_kept old.wishes place old.is_acting old.part.row on k.first;
})
keeps_told row old new at n told k (inl (inr (place, is, rest))) = subst (λ (w : Work). Keeps row w) (sym rest) (record { so = k.so; first = k.first })
keeps_told row old new at n told k (inr h) = by_goes h.goes
  where
    by_first : (o : Option Wish) → old.part.row.put ≡ [] → Decides o old at (Tell n told) new → Keeps row new
    by_first None none h = absurd h
    by_first (Some wish) none h = subst (λ (w : Work). Keeps row w) (sym h.rest) (record {
      so = so_remove row old.wishes 0 k.so;
      first = λ on. absurd (no_put old.wishes old.part.row none (k.first on));
    })

    by_goes : Goes old at (Tell n told) new → Keeps row new
    by_goes (inl (may, h)) = by_first (slice_get old.wishes 0) may.none h
    by_goes (inr (may, h)) = absurd h

row_shown : (old : Part) (now : ℕ) (step : Step) (new : Part) → Tells old now step new → new.row ≡ old.row
row_shown old now (StepShow i shown) new (wanted, shows, rest) = ap (λ (p : Part). p.row) rest
row_shown old now (StepStop i) new (sound, is, rest) = ap (λ (p : Part). p.row) rest
row_shown old now (StepCall i args) new (is, rest) = ap (λ (p : Part). p.row) rest

keeps_step : (row : List Entry) (old new : Work) (now : ℕ) (step : Step) → Keeps row old → TakesStep old now step new → Keeps row new
keeps_step row old new now step k h =
    keeps_row row old new (ap (λ (w : Work). w.wishes) h.rest) (ap (λ (w : Work). w.is_acting) h.rest) (row_shown old.part now step new.part h.part) k

first_of : (wishes : List Wish) (wish : Wish) → slice_get wishes 0 ≡ Some wish → (rest : List Wish) × (wishes ≡ wish ∷ rest)
first_of [] wish is = (let no : ⊥ = cc in absurd no)
first_of (x ∷ wishes) wish is = (let same : x ≡ wish = cc in (wishes, ap (λ (w : Wish). w ∷ wishes) same))

keeps_act : (row : List Entry) (old new : Work) (wish : Wish) (a : Acting) (q : Question) → slice_get old.wishes 0 ≡ Some wish → Keeps row old → DoesAct old.part wish a → Puts old (putting_for a) q new → Keeps row new
keeps_act row old new wish a q first k does h =
    let are = first_of old.wishes wish first in
    let planned = h.plans.row in
    subst (λ (w : Work). Keeps row w) (sym h.rest) (record {
      so = k.so;
      first = λ on. record {
        wish = wish;
        rest = are.0;
        are = are.1;
        view = old.part.row.replica;
        notes = old.part.notes.stages;
        acting = a;
        token = old.part.row.next;
        does = does;
        put = planned.put;
        seen = ap (λ (r : Replica). r.seen) planned.replica;
        stages = ap stages_of planned.replica;
      };
    })

of_due : (due : Due) → is_of_act (putting_of due).of ≡ false
of_due (FinishIsDue f) = refl
of_due (AbandonIsDue want) = refl
of_due (LinkIsDue want) = refl
of_due (CancelIsDue want) = refl
of_due (TimerIsDue want) = refl
of_due (ClaimIsDue want) = refl

keeps_due : (row : List Entry) (old new : Work) (due : Due) (q : Question) → Keeps row old → Puts old (putting_of due) q new → Keeps row new
keeps_due row old new due q k h =
    keeps_idle row new (ap (λ (w : Work). w.is_acting) h.rest ∙ of_due due) (subst (λ (l : List Wish). AreSo row l) (sym (ap (λ (w : Work). w.wishes) h.rest)) k.so)

keeps_asked : (row : List Entry) (old new : Work) (at : Moment) (q : Question) → Keeps row old → Turns old at (Ask q) new → Keeps row new
keeps_asked row old new at q k h = by_goes h.goes
  where
    same_row : (p : Part) → p.row ≡ old.part.row → new ≡ (record old { part = p }) → Keeps row new
    same_row p is rest = keeps_row row old new (ap (λ (w : Work). w.wishes) rest) (ap (λ (w : Work). w.is_acting) rest) (ap (λ (w : Work). w.part.row) rest ∙ is) k

    by_first : (o : Option Wish) → slice_get old.wishes 0 ≡ o → Decides o old at (Ask q) new → Keeps row new
    by_first None is (inl (due, due_is, puts)) = keeps_due row old new due q k puts
    by_first None is (inr close) = same_row (record old.part { asked = Some q }) refl close.rest
    by_first (Some wish) is (a, does, puts) = keeps_act row old new wish a q is k does puts

    by_goes : Goes old at (Ask q) new → Keeps row new
    by_goes (inl (may, h)) = by_first (slice_get old.wishes 0) refl h
    by_goes (inr (may, (is, rest))) = same_row (record old.part { asked = Some q }) refl rest

keeps_turn : (row : List Entry) (old new : Work) (at : Moment) (t : Turn) → Keeps row old → Turns old at t new → Keeps row new
keeps_turn row old new at (Tell n told) k h = keeps_told row old new at n told k h
keeps_turn row old new at (Show i shown) k h = keeps_step row old new at.now (StepShow i shown) k h.1
keeps_turn row old new at (Stop i) k h = keeps_step row old new at.now (StepStop i) k h.1
keeps_turn row old new at (Call i function args) k h = keeps_step row old new at.now (StepCall i args) k h.1.0
keeps_turn row old new at (Ask q) k h = keeps_asked row old new at q k h

keeps_off : (row : List Entry) (old new : Work) (now : ℕ) (p : Putting) → Keeps row old → IsPutOff old now p new → Keeps row new
keeps_off row old new now p k h =
    keeps_row row old new (ap (λ (w : Work). w.wishes) h.rest) (ap (λ (w : Work). w.is_acting) h.rest) (ap (λ (p : Part). p.row) h.waits) k

keeps_rest : (row : List Entry) (old new : Work) (at : Moment) → Keeps row old → Rests old at new → Keeps row new
keeps_rest row old new at k h = by_rests h.rests
  where
    by_first : (o : Option Wish) → RestsWith o old at new → Keeps row new
    by_first None (inl (due, due_is, off)) = keeps_off row old new at.now (putting_of due) k off
    by_first None (inr (idle, same)) = keeps_is row old new same k
    by_first (Some wish) (a, does, off) = keeps_off row old new at.now (putting_for a) k off

    by_rests : RestsBy old at new → Keeps row new
    by_rests (inl (may, h)) = by_first (slice_get old.wishes 0) h
    by_rests (inr (may, none, same)) = keeps_is row old new same k

-- ---- answers

keeps_asks : (row : List Entry) (old new : Work) (w : Wish) → w.answer ≡ None → new ≡ (record old { wishes = old.wishes ++ w ∷ []; free = old.free - 1 }) → Keeps row old → Keeps row new
keeps_asks row old new w none is k = subst (λ (v : Work). Keeps row v) (sym is) (record {
  so = so_append row old.wishes (w ∷ []) k.so (subst (λ (o : Option Told). IsSoKept row w.act o) (sym none) tt, tt);
  first = λ on. let h = k.first on in record {
    wish = h.wish;
    rest = h.rest ++ w ∷ [];
    are = ap (λ (l : List Wish). l ++ w ∷ []) h.are;
    view = h.view;
    notes = h.notes;
    acting = h.acting;
    token = h.token;
    does = h.does;
    put = h.put;
    seen = h.seen;
    stages = h.stages;
  };
})

-- what is settled: only where it landed is a user to be told
keeps_settled : (row : List Entry) (old new : Work) (part : Part) (landed acting : Bool) → acting ≡ old.is_acting →
    new ≡ (record old { part = part; wishes = cond (landed && acting) (wishes_standing (stages_of old.part.row.replica) old.wishes) old.wishes; is_acting = false }) →
    Keeps row old → BeginsWith row old.part.row.replica.seen → (landed ≡ true → 0 < length old.part.row.put → StandsAt row (length old.part.row.replica.seen) old.part.row.put) →
    Keeps row new
keeps_settled row old new part false acting is rest k begins stands = keeps_idle row new (ap (λ (w : Work). w.is_acting) rest) (subst (λ (l : List Wish). AreSo row l) (sym (ap (λ (w : Work). w.wishes) rest)) k.so)
keeps_settled row old new part true false is rest k begins stands = keeps_idle row new (ap (λ (w : Work). w.is_acting) rest) (subst (λ (l : List Wish). AreSo row l) (sym (ap (λ (w : Work). w.wishes) rest)) k.so)
keeps_settled row old new part true true is rest k begins stands =
    let h = k.first (sym is) in
    let some = has_put old.wishes old.part.row h in
    keeps_idle row new (ap (λ (w : Work). w.is_acting) rest) (subst (λ (l : List Wish). AreSo row l) (sym (ap (λ (w : Work). w.wishes) rest))
    (so_standing row old.wishes old.part.row k.so h begins (stands refl some)))

lands_there : (row : List Entry) (old new : Work) → LandsWork old new → BeginsWith row new.part.row.replica.seen → BeginsWith row (old.part.row.replica.seen ++ old.part.row.put)
lands_there row old new h begins = subst (λ (l : List Entry). BeginsWith row l) h.part.sees.replays.seen begins

keeps_lands : (row : List Entry) (old new : Work) → Keeps row old → BeginsWith row new.part.row.replica.seen → LandsWork old new → Keeps row new
keeps_lands row old new k begins h =
    let there = lands_there row old new h begins in
    keeps_settled row old new new.part true old.is_acting refl h.rest k (begins_front row old.part.row.replica.seen old.part.row.put there)
    (λ landed some. stands_behind row old.part.row.replica.seen old.part.row.put there)

-- others stand at its place
first_behind : (row seen entries : List Entry) (first : Entry) → slice_get entries 0 ≡ Some first → BeginsWith row (seen ++ entries) → BeginsWith row (seen ++ first ∷ [])
first_behind row seen [] first is h = (let no : ⊥ = cc in absurd no)
first_behind row seen (x ∷ entries) first is h =
    let same : x ≡ first = cc in
    subst (λ (e : Entry). BeginsWith row (seen ++ e ∷ [])) same (begins_front row (seen ++ x ∷ []) entries (subst (λ (l : List Entry). BeginsWith row l) (sym (append_assoc seen (x ∷ []) entries)) h))

some_first : (entries : List Entry) → 0 < length entries → (first : Entry) × (slice_get entries 0 ≡ Some first)
some_first [] some = absurd (omega (arith, some))
some_first (x ∷ entries) some = (x, refl)

keeps_meets : (row : List Entry) (old new : Work) (entries : List Entry) (notes : List Note) (landed : Bool) → Keeps row old → KeepsPut row old → BeginsWith row new.part.row.replica.seen →
    MeetsWork old entries notes landed new → Keeps row new
keeps_meets row old new entries notes landed k put begins h =
    let seen = old.part.row.replica.seen in
    let there : BeginsWith row (seen ++ entries) = subst (λ (l : List Entry). BeginsWith row l) h.part.sees.replays.seen begins in
    let first = some_first entries h.some in
    let tells = h.part.tells first.0 first.1 in
    keeps_settled row old new new.part landed old.is_acting refl h.rest k (begins_front row seen entries there)
    (λ is some. stands_once row old.part.row.put (length seen) (tells.stands row (first_behind row seen entries first.0 first.1 there) (put some) is))

-- not all of them fit
is_empty : (xs : List Entry) → xs ≡ [] → nat_lt 0 (length xs) ≡ false
is_empty xs none = ap (λ (l : List Entry). nat_lt 0 (length l)) none

and_false : (b c : Bool) → c ≡ false → (b && c) ≡ false
and_false false c off = refl
and_false true c off = off

and_first : (b c : Bool) → (b && c) ≡ true → b ≡ true
and_first false c on = (let no : ⊥ = cc in absurd no)
and_first true c on = refl

keeps_freed : (row : List Entry) (old new : Work) → new ≡ (record old { part = new.part; is_acting = old.is_acting && nat_lt 0 (length new.part.row.put) }) → new.part.row.put ≡ [] → Keeps row old → Keeps row new
keeps_freed row old new rest none k =
    keeps_idle row new (ap (λ (w : Work). w.is_acting) rest ∙ and_false old.is_acting (nat_lt 0 (length new.part.row.put)) (is_empty new.part.row.put none))
    (subst (λ (l : List Wish). AreSo row l) (sym (ap (λ (w : Work). w.wishes) rest)) k.so)

keeps_stayed : (row : List Entry) (old new : Work) → new ≡ (record old { part = new.part; is_acting = old.is_acting && nat_lt 0 (length new.part.row.put) }) → new.part.row ≡ old.part.row → Keeps row old → Keeps row new
keeps_stayed row old new rest same k =
    let wishes = ap (λ (w : Work). w.wishes) rest in
    let acting = ap (λ (w : Work). w.is_acting) rest in
    record {
      so = subst (λ (l : List Wish). AreSo row l) (sym wishes) k.so;
      first = λ is. acts_of old.wishes new.wishes new.part.row wishes (acts_in old.wishes old.part.row new.part.row same
          (k.first (and_first old.is_acting (nat_lt 0 (length new.part.row.put)) (sym acting ∙ is))));
    }

keeps_mismeets : (row : List Entry) (old new : Work) (now : ℕ) (entries : List Entry) (notes : List Note) (place : ℕ) (why : LedgerFault) →
    new ≡ (record old { part = new.part; is_acting = old.is_acting && nat_lt 0 (length new.part.row.put) }) → MismeetsBy why old.part now entries notes place new.part → Keeps row old → Keeps row new
keeps_mismeets row old new now entries notes place NoMemory rest h k = keeps_stayed row old new rest (ap (λ (p : Part). p.row) h) k
keeps_mismeets row old new now entries notes place NoEvent rest h k = keeps_freed row old new rest h.sees.freed.put k
keeps_mismeets row old new now entries notes place NoStage rest h k = keeps_freed row old new rest h.sees.freed.put k
keeps_mismeets row old new now entries notes place NoRoom rest h k = keeps_freed row old new rest h.sees.freed.put k

keeps_refuses : (row : List Entry) (old new : Work) (now : ℕ) (acting doubtful : Bool) → acting ≡ old.is_acting → new ≡ refused acting doubtful old new.part → RefusesPart (acting && doubtful) old.part now new.part →
    Keeps row old → Keeps row new
keeps_refuses row old new now true true is rest h k = keeps_row row old new (ap (λ (w : Work). w.wishes) rest) (ap (λ (w : Work). w.is_acting) rest) (ap (λ (p : Part). p.row) h) k
keeps_refuses row old new now true false is rest h k =
    keeps_idle row new (ap (λ (w : Work). w.is_acting) rest) (subst (λ (l : List Wish). AreSo row l) (sym (ap (λ (w : Work). w.wishes) rest)) (so_refused row old.wishes k.so))
keeps_refuses row old new now false doubtful is rest h k =
    keeps_idle row new (ap (λ (w : Work). w.is_acting) rest) (subst (λ (l : List Wish). AreSo row l) (sym (ap (λ (w : Work). w.wishes) rest)) k.so)

keeps_free : (row : List Entry) (old new : Work) → new ≡ (record old { part = new.part; is_acting = false }) → Keeps row old → Keeps row new
keeps_free row old new rest k =
    keeps_idle row new (ap (λ (w : Work). w.is_acting) rest) (subst (λ (l : List Wish). AreSo row l) (sym (ap (λ (w : Work). w.wishes) rest)) k.so)

-- ---- any call

-- only an act's put has to be known in the row
meets_any : (row : List Entry) (old new : Work) (entries : List Entry) (notes : List Note) (landed acting : Bool) → acting ≡ old.is_acting → Keeps row old → (acting ≡ true → KeepsPut row old) →
    BeginsWith row new.part.row.replica.seen → MeetsWork old entries notes landed new → Keeps row new
meets_any row old new entries notes landed true is k put begins h = keeps_meets row old new entries notes landed k (put refl) begins h
meets_any row old new entries notes landed false is k put begins h =
    let off = sym is in
    let wishes : new.wishes ≡ old.wishes = ap (λ (w : Work). w.wishes) h.rest ∙ ap (λ (b : Bool). cond (landed && b) (wishes_standing (stages_of old.part.row.replica) old.wishes) old.wishes) off ∙ none_landed landed (wishes_standing (stages_of old.part.row.replica) old.wishes) old.wishes in
    keeps_idle row new (ap (λ (w : Work). w.is_acting) h.rest) (subst (λ (l : List Wish). AreSo row l) (sym wishes) k.so)
  where
    none_landed : (b : Bool) (xs ys : List Wish) → cond (b && false) xs ys ≡ ys
    none_landed true xs ys = refl
    none_landed false xs ys = refl

keeps : (row : List Entry) (old new : Work) (out : Option Turn) → Keeps row old → (old.is_acting ≡ true → KeepsPut row old) → BeginsWith row new.part.row.replica.seen → IsCall old out new → Keeps row new
keeps row old new out k put begins (turns at t is h) = keeps_turn row old new at t k h
keeps row old new out k put begins (rests at is h) = keeps_rest row old new at k h
keeps row old new out k put begins (finds more is h) = keeps_row row old new (ap (λ (w : Work). w.wishes) h) (ap (λ (w : Work). w.is_acting) h) (ap (λ (w : Work). w.part.row) h) k
keeps row old new out k put begins (asks number act until is h) = keeps_asks row old new (wish_of number act until) refl h k
keeps row old new out k put begins (ends end is h) = keeps_row row old new (ap (λ (w : Work). w.wishes) h) (ap (λ (w : Work). w.is_acting) h) (ap (λ (w : Work). w.part.row) h) k
keeps row old new out k put begins (wants i from is h) = keeps_row row old new (ap (λ (w : Work). w.wishes) h) (ap (λ (w : Work). w.is_acting) h) (ap (λ (w : Work). w.part.row) h) k
keeps row old new out k put begins (hears words is h) = keeps_row row old new (ap (λ (w : Work). w.wishes) h) (ap (λ (w : Work). w.is_acting) h) (ap (λ (w : Work). w.part.row) h) k
keeps row old new out k put begins (gets_room more is h rest) = keeps_roomier row old new more h rest k
keeps row old new out k put begins (reads_again is h) = keeps_row row old new (ap (λ (w : Work). w.wishes) h) (ap (λ (w : Work). w.is_acting) h) (ap (λ (w : Work). w.part.row) h) k
keeps row old new out k put begins (finishes i answer is running h rest) = keeps_row row old new (ap (λ (w : Work). w.wishes) rest) (ap (λ (w : Work). w.is_acting) rest) (ap (λ (p : Part). p.row) h) k
keeps row old new out k put begins (reads entries notes is h rest) = keeps_free row old new rest k
keeps row old new out k put begins (misreads now entries notes m is h rest) = keeps_free row old new rest k
keeps row old new out k put begins (lands is h) = keeps_lands row old new k begins h
keeps row old new out k put begins (meets entries notes landed is h) = meets_any row old new entries notes landed old.is_acting refl k put begins h
keeps row old new out k put begins (mismeets now entries notes m is h) = keeps_mismeets row old new now entries notes m.place m.why h.rest h.part.done k
keeps row old new out k put begins (waits now is h) = keeps_row row old new (ap (λ (w : Work). w.wishes) h.rest) (ap (λ (w : Work). w.is_acting) h.rest) (ap (λ (p : Part). p.row) h.part) k
keeps row old new out k put begins (refuses now is h) = keeps_refuses row old new now old.is_acting old.is_doubtful refl h.rest h.part k
keeps row old new out k put begins (closes is_closed is h) = keeps_row row old new (ap (λ (w : Work). w.wishes) h.rest) (ap (λ (w : Work). w.is_acting) h.rest) (ap (λ (p : Part). p.row) h.part) k
keeps row old new out k put begins (breaks fault is h rest) = keeps_free row old new rest k

-- ---- any calls

calls_of : (holds : Work → Type 0) (old : Work) (outs : List (Option Turn)) (new : Work) → AreCallsWhile holds old outs new → AreCalls old outs new
calls_of holds old [] new same = same
calls_of holds old (out ∷ outs) new (between, call, kept, rest) = (between, call, calls_of holds between outs new rest)

begins_later : (row long short : List Entry) → BeginsWith row long → BeginsWith long short → BeginsWith row short
begins_later row long short h k = begins_front row short k.rest (subst (λ (l : List Entry). BeginsWith row l) k.is h)

-- what was seen before was seen, too
seen_before : (row : List Entry) (old : Work) (outs : List (Option Turn)) (new : Work) → AreCalls old outs new → BeginsWith row new.part.row.replica.seen → BeginsWith row old.part.row.replica.seen
seen_before row old outs new calls begins =
    let parts = works_are_parts old new outs calls in
    let grows = (effects old.part parts.parts new.part parts.are).grows in
    begins_later row new.part.row.replica.seen old.part.row.replica.seen begins grows.begins

keeps_all : (row : List Entry) (old : Work) (outs : List (Option Turn)) (new : Work) → Keeps row old → (old.is_acting ≡ true → KeepsPut row old) → AreCallsWhile (KeepsPut row) old outs new →
    BeginsWith row new.part.row.replica.seen → Keeps row new
keeps_all row old [] new k put same begins = keeps_is row old new same k
keeps_all row old (out ∷ outs) new k put (between, call, kept, rest) begins =
    let seen = seen_before row between outs new (calls_of (KeepsPut row) between outs new rest) begins in
    keeps_all row between outs new (keeps row old between out k put seen call) (λ on. kept) rest begins

-- ---- what is told

kept_so : (row : List Entry) (w : Work) (act : Act) (answer : Option Told) (is_late : Bool) (told : Told) (fault : Option Fault) → fault ≡ w.part.fault → IsSoKept row act answer → told_by answer fault is_late ≡ Some told → IsSo row w act told
kept_so row w act (Some (Stands i)) is_late told fault same so is = (let e : Stands i ≡ told = cc in subst (λ (t : Told). IsSo row w act t) e so)
kept_so row w act (Some Refused) is_late told fault same so is = (let e : Refused ≡ told = cc in subst (λ (t : Told). IsSo row w act t) e tt)
kept_so row w act (Some (Not why)) is_late told fault same so is = absurd so
kept_so row w act (Some Unknown) is_late told fault same so is = absurd so
kept_so row w act (Some Closed) is_late told fault same so is = absurd so
kept_so row w act (Some (Ended f)) is_late told fault same so is = absurd so
kept_so row w act None is_late told (Some f) same so is = (let e : Ended f ≡ told = cc in subst (λ (t : Told). IsSo row w act t) e (sym same))
kept_so row w act None true told None same so is = (let e : Unknown ≡ told = cc in subst (λ (t : Told). IsSo row w act t) e tt)
kept_so row w act None false told None same so is = (let no : ⊥ = cc in absurd no)

there_at : (wishes : List Wish) (k : ℕ) (w : Wish) → slice_get wishes k ≡ Some w → Contains wishes w
there_at [] k w is = (let no : ⊥ = cc in absurd no)
there_at (x ∷ wishes) zero w is = (let same : x ≡ w = cc in subst (λ (v : Wish). Contains (x ∷ wishes) v) same (0, omega arith, refl))
there_at (x ∷ wishes) (suc k) w is = Contains-append_right (x ∷ []) wishes w (there_at wishes k w is)

end_so : (w : Work) (fault : Option Fault) (is_closed is_late : Bool) (told : Told) → is_closed ≡ is_closed_in w → ended_by fault is_closed is_late ≡ Some told → IsSoOfEnd w told
end_so w (Some f) is_closed is_late told same is = (let e : Ended f ≡ told = cc in subst (λ (t : Told). IsSoOfEnd w t) e tt)
end_so w None true is_late told same is = (let e : Closed ≡ told = cc in subst (λ (t : Told). IsSoOfEnd w t) e (sym same))
end_so w None false true told same is = (let e : Unknown ≡ told = cc in subst (λ (t : Told). IsSoOfEnd w t) e tt)
end_so w None false false told same is = (let no : ⊥ = cc in absurd no)

told_so : (row : List Entry) (old new : Work) (at : Moment) (number : ℕ) (told : Told) → Keeps row old → Turns old at (Tell number told) new → IsSoOfWish row old number told ⊎ IsSoOfEnd old told
told_so row old new at number told k (inl (inl (place, is, rest))) = inl (record {
  wish = is.wish;
  waits = there_at old.wishes place is.wish is.there;
  named = is.named;
  so = kept_so row old is.wish.act is.wish.answer _ told old.part.fault refl (so_at row old.wishes place is.wish k.so is.there) is.is;
})
told_so row old new at number told k (inl (inr (place, is, rest))) = inr (end_so old old.part.fault (is_closed_in old) _ told refl is.is)
told_so row old new at number told k (inr h) = by_goes h.goes
  where
    by_first : (o : Option Wish) → slice_get old.wishes 0 ≡ o → Decides o old at (Tell number told) new → IsSoOfWish row old number told ⊎ IsSoOfEnd old told
    by_first None is h = absurd h
    by_first (Some wish) is h = inl (record {
      wish = wish;
      waits = there_at old.wishes 0 wish is;
      named = h.named;
      so = subst (λ (t : Told). IsSo row old wish.act t) (sym h.tells) h.is;
    })

    by_goes : Goes old at (Tell number told) new → IsSoOfWish row old number told ⊎ IsSoOfEnd old told
    by_goes (inl (may, h)) = by_first (slice_get old.wishes 0) refl h
    by_goes (inr (may, h)) = absurd h

pub acts_told_truly : ActsAreToldTruly
acts_told_truly part row outs old new at number told calls begins h =
    told_so row old new at number told (keeps_all row (new_work part) outs old (record { so = tt; first = λ on. absurd (not_both false refl on) }) (λ on. absurd (not_both false refl on)) calls begins) h
