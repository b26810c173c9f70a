-- Any calls of a work are calls of its part.
use Rattle.std.proofs.Common.{◌≡◌, ℕ, inl, inr, Bool, true, false, Option, Some, None, List, [], ◌∷◌, ◌++◌, refl, ap, sym, ◌∙◌, subst, append_assoc}
use Rattle.std.specs.Prelude.{◌&&◌, slice_get}
use Rattle.cf_part.specs.declared.question.Question.{Question}
use Rattle.cf_part.specs.declared.step.Step.TheVariants.{Show as StepShow, Stop as StepStop, Call as StepCall}
use Rattle.cf_part.specs.Parts.{Part}
use Rattle.cf_part.specs.Rows.{AreCalls as AreCallsOfPart, IsCall as IsCallOfPart, Out, all_calls, all_of as all_of_part, all_stops, nothing, out_of}
use Rattle.cf_part.specs.Rows.IsCall.{tells, plans, asks as part_asks, reads as part_reads, misreads as part_misreads, lands as part_lands, meets as part_meets, mismeets as part_mismeets, waits as part_waits, refuses as part_refuses, closes as part_closes, breaks as part_breaks, ends as part_ends, wants as part_wants, hears as part_hears, grows as part_gets_room, reads_again as part_reads_again}
use Rattle.cf_turn.specs.declared.planning.Putting.{Putting}
use Rattle.cf_turn.specs.declared.turn.Turn.{Turn}
use Rattle.cf_turn.specs.declared.turn.Turn.TheVariants.{Tell, Show, Stop, Call, Ask}
use Rattle.cf_turn.specs.declared.wish.Told.{Told}
use Rattle.cf_turn.specs.declared.wish.Wish.{Wish}
use Rattle.cf_turn.specs.Works.{Work}
use Rattle.cf_turn.specs.Turns.{Decides, Goes, IsPutOff, Moment, Puts, Rests, RestsBy, RestsWith, Turns, wants_of}
use Rattle.cf_turn.specs.Answers.{RefusesPart}
use Rattle.cf_turn.specs.Rows.{IsCall, WorksArePartsCalls, called_by, stopped_by}
use Rattle.cf_turn.specs.Rows.IsCall.{turns, rests, finds, asks, ends, wants, hears, grows as gets_room, finishes, reads, misreads, lands, meets, mismeets, waits, refuses, closes, breaks, reads_again}

-- ---- rows of the part's calls

are_append : (a b c : Part) (xs ys : List Out) → AreCallsOfPart a xs b → AreCallsOfPart b ys c → AreCallsOfPart a (xs ++ ys) c
are_append a b c [] ys same rest = subst (λ (p : Part). AreCallsOfPart p ys c) same rest
are_append a b c (x ∷ xs) ys (between, call, more) rest = (between, call, are_append between b c xs ys more rest)

all_append : (pick : Out → List ℕ) (xs ys : List Out) → all_of_part pick (xs ++ ys) ≡ all_of_part pick xs ++ all_of_part pick ys
all_append pick [] ys = refl
all_append pick (x ∷ xs) ys = ap (λ (l : List ℕ). pick x ++ l) (all_append pick xs ys) ∙ sym (append_assoc (pick x) (all_of_part pick xs) (all_of_part pick ys))

-- ---- one call

-- the part's calls that a work's call makes
pub record MakesCalls (old : Part) (out : Option Turn) (new : Part) : Type 0 where
  pub parts : List Out
  pub are : AreCallsOfPart old parts new
  pub calls : all_calls parts ≡ called_by out
  pub stops : all_stops parts ≡ stopped_by out

makes_none : (old new : Part) (out : Option Turn) → out ≡ None → new ≡ old → MakesCalls old out new
makes_none old new out is same =
    subst (λ (o : Option Turn). MakesCalls old o new) (sym is) (record { parts = []; are = same; calls = refl; stops = refl })

makes_one : (old new : Part) (out : Option Turn) → out ≡ None → IsCallOfPart old nothing new → MakesCalls old out new
makes_one old new out is call =
    subst (λ (o : Option Turn). MakesCalls old o new) (sym is) (record { parts = nothing ∷ []; are = (new, call, refl); calls = refl; stops = refl })

-- a question of the part is asked
asks_one : (old new : Part) (q : Question) → new ≡ (record old { asked = Some q }) → MakesCalls old (Some (Ask q)) new
asks_one old new q is = record { parts = nothing ∷ []; are = (new, part_asks q refl is, refl); calls = refl; stops = refl }

puts_two : (old new : Work) (p : Putting) (q : Question) → Puts old p q new → MakesCalls old.part (Some (Ask q)) new.part
puts_two old new p q h =
    let asked : IsCallOfPart h.planned nothing new.part = part_asks q refl (ap (λ (w : Work). w.part) h.rest) in
    record {
      parts = nothing ∷ nothing ∷ [];
      are = (h.planned, plans (wants_of p) p.of refl h.plans, (new.part, asked, refl));
      calls = refl;
      stops = refl;
    }

same_part : (old new rest : Work) → new ≡ rest → rest.part ≡ old.part → new.part ≡ old.part
same_part old new rest is part = ap (λ (w : Work). w.part) is ∙ part

makes_told : (old new : Work) (at : Moment) (n : ℕ) (told : Told) → Turns old at (Tell n told) new → new.part ≡ old.part
makes_told old new at n told (inl (inl (place, is, rest))) = ap (λ (w : Work). w.part) rest
makes_told old new at n told (inl (inr (place, is, rest))) = ap (λ (w : Work). w.part) rest
makes_told old new at n told (inr h) = by_goes h.goes
  where
    by_first : (o : Option Wish) → Decides o old at (Tell n told) new → new.part ≡ old.part
    by_first None h = absurd h
    by_first (Some wish) h = ap (λ (w : Work). w.part) h.rest

    by_goes : Goes old at (Tell n told) new → new.part ≡ old.part
    by_goes (inl (may, h)) = by_first (slice_get old.wishes 0) h
    by_goes (inr (may, h)) = absurd h

makes_asked : (old new : Work) (at : Moment) (q : Question) → Turns old at (Ask q) new → MakesCalls old.part (Some (Ask q)) new.part
makes_asked old new at q h = by_goes h.goes
  where
    by_first : (o : Option Wish) → Decides o old at (Ask q) new → MakesCalls old.part (Some (Ask q)) new.part
    by_first None (inl (due, is, puts)) = puts_two old new _ q puts
    by_first None (inr close) = asks_one old.part new.part q (ap (λ (w : Work). w.part) close.rest)
    by_first (Some wish) (a, does, puts) = puts_two old new _ q puts

    by_goes : Goes old at (Ask q) new → MakesCalls old.part (Some (Ask q)) new.part
    by_goes (inl (may, h)) = by_first (slice_get old.wishes 0) h
    by_goes (inr (may, (is, rest))) = asks_one old.part new.part q (ap (λ (w : Work). w.part) rest)

makes_turn : (old new : Work) (at : Moment) (t : Turn) → Turns old at t new → MakesCalls old.part (Some t) new.part
makes_turn old new at (Tell n told) h = record { parts = []; are = makes_told old new at n told h; calls = refl; stops = refl }
makes_turn old new at (Show i shown) h = record { parts = nothing ∷ []; are = (new.part, tells at.now (StepShow i shown) refl h.1.part, refl); calls = refl; stops = refl }
makes_turn old new at (Stop i) h = record { parts = out_of (StepStop i) ∷ []; are = (new.part, tells at.now (StepStop i) refl h.1.part, refl); calls = refl; stops = refl }
makes_turn old new at (Call i function args) h = record { parts = out_of (StepCall i args) ∷ []; are = (new.part, tells at.now (StepCall i args) refl h.1.0.part, refl); calls = refl; stops = refl }
makes_turn old new at (Ask q) h = makes_asked old new at q h

makes_off : (old new : Work) (now : ℕ) (p : Putting) (out : Option Turn) → out ≡ None → IsPutOff old now p new → MakesCalls old.part out new.part
makes_off old new now p out is h = makes_one old.part new.part out is (part_waits now refl h.waits)

makes_rest : (old new : Work) (at : Moment) (out : Option Turn) → out ≡ None → Rests old at new → MakesCalls old.part out new.part
makes_rest old new at out is h = by_rests h.rests
  where
    by_first : (o : Option Wish) → RestsWith o old at new → MakesCalls old.part out new.part
    by_first None (inl (due, due_is, off)) = makes_off old new at.now _ out is off
    by_first None (inr (idle, same)) = makes_none old.part new.part out is (ap (λ (w : Work). w.part) same)
    by_first (Some wish) (a, does, off) = makes_off old new at.now _ out is off

    by_rests : RestsBy old at new → MakesCalls old.part out new.part
    by_rests (inl (may, h)) = by_first (slice_get old.wishes 0) h
    by_rests (inr (may, none, same)) = makes_none old.part new.part out is (ap (λ (w : Work). w.part) same)

refuses_part : (b : Bool) (old new : Part) (now : ℕ) → RefusesPart b old now new → IsCallOfPart old nothing new
refuses_part true old new now h = part_waits now refl h
refuses_part false old new now h = part_refuses now refl h

makes : (old new : Work) (out : Option Turn) → IsCall old out new → MakesCalls old.part out new.part
makes old new out (turns at t is h) = subst (λ (o : Option Turn). MakesCalls old.part o new.part) (sym is) (makes_turn old new at t h)
makes old new out (rests at is h) = makes_rest old new at out is h
makes old new out (finds more is h) = makes_none old.part new.part out is (ap (λ (w : Work). w.part) h)
makes old new out (asks number act until is h) = makes_none old.part new.part out is (ap (λ (w : Work). w.part) h)
makes old new out (ends end is h) = makes_none old.part new.part out is (ap (λ (w : Work). w.part) h)
makes old new out (wants i from is h) = makes_one old.part new.part out is (part_wants i from refl (ap (λ (w : Work). w.part) h))
makes old new out (hears words is h) = makes_one old.part new.part out is (part_hears words refl (ap (λ (w : Work). w.part) h))
makes old new out (gets_room more is h rest) = makes_one old.part new.part out is (part_gets_room more refl h)
makes old new out (reads_again is h) = makes_one old.part new.part out is (part_reads_again refl (ap (λ (w : Work). w.part) h))
makes old new out (finishes i answer is running h rest) = makes_one old.part new.part out is (part_ends i answer refl running h)
makes old new out (reads entries notes is h rest) = makes_one old.part new.part out is (part_reads entries notes refl h)
makes old new out (misreads now entries notes m is h rest) = makes_one old.part new.part out is (part_misreads now entries notes m refl h)
makes old new out (lands is h) = makes_one old.part new.part out is (part_lands refl h.part)
makes old new out (meets entries notes landed is h) = makes_one old.part new.part out is (part_meets entries notes landed refl h.part)
makes old new out (mismeets now entries notes m is h) = makes_one old.part new.part out is (part_mismeets now entries notes m refl h.part)
makes old new out (waits now is h) = makes_one old.part new.part out is (part_waits now refl h.part)
makes old new out (refuses now is h) = makes_one old.part new.part out is (refuses_part (old.is_acting && old.is_doubtful) old.part new.part now h.part)
makes old new out (closes is_closed is h) = makes_one old.part new.part out is (part_closes is_closed refl h.part)
makes old new out (breaks fault is h rest) = makes_one old.part new.part out is (part_breaks fault refl h)

-- ---- rows of them

pub works_are_parts : WorksArePartsCalls
works_are_parts old new [] same = record { parts = []; are = ap (λ (w : Work). w.part) same; calls = refl; stops = refl }
works_are_parts old new (out ∷ outs) (between, call, rest) =
    let one = makes old between out call in
    let more = works_are_parts between new outs rest in
    record {
      parts = one.parts ++ more.parts;
      are = are_append old.part between.part new.part one.parts more.parts one.are more.are;
      calls = all_append (λ (o : Out). o.calls) one.parts more.parts ∙ ap (λ (l : List ℕ). l ++ all_calls more.parts) one.calls ∙ ap (λ (l : List ℕ). called_by out ++ l) more.calls;
      stops = all_append (λ (o : Out). o.stops) one.parts more.parts ∙ ap (λ (l : List ℕ). l ++ all_stops more.parts) one.stops ∙ ap (λ (l : List ℕ). stopped_by out ++ l) more.stops;
    }
