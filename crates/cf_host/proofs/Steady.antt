-- What a work's calls leave as it was.
use Rattle.std.proofs.Common.{◌≡◌, ℕ, ◌+◌, inl, inr, Bool, true, false, cond, Option, Some, None, List, [], ◌∷◌, ◌++◌, map, replicate, refl, ap, sym, ◌∙◌}
use Rattle.std.specs.Prelude.{slice_get, slice_set}
use Rattle.std.specs.List.{remove}
use Rattle.cf_forms.specs.Plans.{Planned, with_room}
use Rattle.cf_ledger.specs.declared.faults.LedgerFault.{LedgerFault}
use Rattle.cf_ledger.specs.declared.faults.LedgerFault.TheVariants.{NoMemory, NoEvent, NoStage, NoRoom}
use Rattle.cf_row.specs.declared.entry.Entry.{Entry}
use Rattle.cf_row.specs.Rows.{Replica}
use Rattle.cf_notes.specs.declared.note.Note.{Note}
use Rattle.cf_part.specs.declared.question.Question.{Question}
use Rattle.cf_part.specs.declared.question.PutOf.{PutOf}
use Rattle.cf_notes.specs.declared.wants.Want.{Want}
use Rattle.cf_part.specs.Answers.{Grows, MismeetsBy, PlansWords, Waits}
use Rattle.cf_part.specs.Parts.{Part}
use Rattle.cf_turn.specs.declared.turn.Turn.{Turn}
use Rattle.cf_turn.specs.declared.turn.Turn.TheVariants.{Tell, Show, Stop, Call, Ask}
use Rattle.cf_turn.specs.declared.wish.End.{End}
use Rattle.cf_turn.specs.declared.wish.Told.{Told}
use Rattle.cf_turn.specs.declared.wish.Wish.{Wish}
use Rattle.cf_turn.specs.Answers.{RefusesPart, refused, settled, wishes_standing}
use Rattle.cf_turn.specs.Rows.{IsCall}
use Rattle.cf_turn.specs.Rows.IsCall.{turns as TurnsOf, rests as RestsOf, finds as FindsOf, asks as AsksOf, ends as EndsOf, wants as WantsOf, hears as HearsOf, reads_again as ReadsAgainOf, finishes as FinishesOf, reads as ReadsOf, misreads as MisreadsOf, lands as LandsOf, meets as MeetsOf, mismeets as MismeetsOf, waits as WaitsOf, refuses as RefusesOf, closes as ClosesOf, breaks as BreaksOf, grows as GrowsOf}
use Rattle.cf_turn.specs.Turns.{Decides, Goes, Moment, Rests, RestsBy, RestsWith, Turns}
use Rattle.cf_turn.specs.Works.{Work, answered_first}
use Rattle.cf_host.specs.Keeping.{asked_by}

abbrev wish_numbers : List Wish → List ℕ
wish_numbers wishes = map (λ (x : Wish). x.number) wishes

abbrev end_numbers : List End → List ℕ
end_numbers ends = map (λ (x : End). x.number) ends

-- it is asked for the same, by the same users
pub record AsksSame (w v : Work) : Type 0 where
  pub wishes : wish_numbers v.wishes ≡ wish_numbers w.wishes
  pub ends : end_numbers v.ends ≡ end_numbers w.ends

pub asked_same : (w v : Work) → AsksSame w v → asked_by v ≡ asked_by w
asked_same w v h = ap (λ (l : List ℕ). l ++ end_numbers v.ends) h.wishes ∙ ap (λ (l : List ℕ). wish_numbers w.wishes ++ l) h.ends

asks_as : (w v : Work) → v.wishes ≡ w.wishes → v.ends ≡ w.ends → AsksSame w v
asks_as w v wishes ends = record { wishes = ap wish_numbers wishes; ends = ap end_numbers ends }

-- ---- turns

-- the same stages are waited for, and the same is seen of the same plan
pub record ShowsSame (p q : Part) : Type 0 where
  pub wanted : q.wanted ≡ p.wanted
  pub plan : q.row.replica.plan ≡ p.row.replica.plan
  pub seen : q.row.replica.seen ≡ p.row.replica.seen

part_same : (p q : Part) → q ≡ p → ShowsSame p q
part_same p q is = record { wanted = ap (λ (x : Part). x.wanted) is; plan = ap (λ (x : Part). x.row.replica.plan) is; seen = ap (λ (x : Part). x.row.replica.seen) is }

pub record Steady (w v : Work) : Type 0 where
  pub part : ShowsSame w.part v.part
  pub asks : AsksSame w v

puts_steady : (old new : Work) (planned : Part) (q : Question) (acting : Bool) → ShowsSame old.part planned → new ≡ (record old { part = record planned { asked = Some q }; is_acting = acting; is_doubtful = false }) → Steady old new
puts_steady old new planned q acting same rest =
    let is = ap (λ (w : Work). w.part) rest in
    record {
      part = record {
        wanted = ap (λ (x : Part). x.wanted) is ∙ same.wanted;
        plan = ap (λ (x : Part). x.row.replica.plan) is ∙ same.plan;
        seen = ap (λ (x : Part). x.row.replica.seen) is ∙ same.seen;
      };
      asks = asks_as old new (ap (λ (w : Work). w.wishes) rest) (ap (λ (w : Work). w.ends) rest);
    }

planned_same : (old new : Part) (wants : List Want) (of : PutOf) → PlansWords old wants of new → ShowsSame old new
planned_same old new wants of h = record {
  wanted = ap (λ (x : Part). x.wanted) h.rest;
  plan = ap (λ (r : Replica). r.plan) h.row.replica;
  seen = ap (λ (r : Replica). r.seen) h.row.replica;
}

asked_steady : (old new : Work) (at : Moment) (q : Question) → Turns old at (Ask q) new → Steady old new
asked_steady old new at q h = by_goes h.goes
  where
    by_question : new ≡ (record old { part = record old.part { asked = Some q } }) → Steady old new
    by_question is = record {
      part = record {
        wanted = ap (λ (w : Work). w.part.wanted) is;
        plan = ap (λ (w : Work). w.part.row.replica.plan) is;
        seen = ap (λ (w : Work). w.part.row.replica.seen) is;
      };
      asks = asks_as old new (ap (λ (w : Work). w.wishes) is) (ap (λ (w : Work). w.ends) is);
    }

    by_first : (o : Option Wish) → Decides o old at (Ask q) new → Steady old new
    by_first None (inl (due, is, puts)) = puts_steady old new puts.planned q _ (planned_same old.part puts.planned _ _ puts.plans) puts.rest
    by_first None (inr close) = by_question close.rest
    by_first (Some wish) (a, does, puts) = puts_steady old new puts.planned q _ (planned_same old.part puts.planned _ _ puts.plans) puts.rest

    by_goes : Goes old at (Ask q) new → Steady old new
    by_goes (inl (may, h)) = by_first (slice_get old.wishes 0) h
    by_goes (inr (may, (is, rest))) = by_question rest

-- the wish or end of this number is gone, and nothing else
pub data Tells (number : ℕ) (w v : Work) : Type 0 where
  tells_wish : (place : ℕ) (x : Wish) → slice_get w.wishes place ≡ Some x → x.number ≡ number → v.wishes ≡ remove w.wishes place → v.ends ≡ w.ends → Tells number w v
  tells_end : (place : ℕ) (x : End) → slice_get w.ends place ≡ Some x → x.number ≡ number → v.ends ≡ remove w.ends place → v.wishes ≡ w.wishes → Tells number w v

pub record TellsSteady (number : ℕ) (w v : Work) : Type 0 where
  pub part : ShowsSame w.part v.part
  pub tells : Tells number w v

told_steady : (old new : Work) (at : Moment) (n : ℕ) (told : Told) → Turns old at (Tell n told) new → TellsSteady n old new
told_steady old new at n told (inl (inl (place, is, rest))) = record {
  part = part_same old.part new.part (ap (λ (w : Work). w.part) rest);
  tells = tells_wish place is.wish is.there is.named (ap (λ (w : Work). w.wishes) rest) (ap (λ (w : Work). w.ends) rest);
}
told_steady old new at n told (inl (inr (place, is, rest))) = record {
  part = part_same old.part new.part (ap (λ (w : Work). w.part) rest);
  tells = tells_end place is.end is.there is.named (ap (λ (w : Work). w.ends) rest) (ap (λ (w : Work). w.wishes) rest);
}
told_steady old new at n told (inr h) = by_goes h.goes
  where
    by_first : (o : Option Wish) → slice_get old.wishes 0 ≡ o → Decides o old at (Tell n told) new → TellsSteady n old new
    by_first None is h = absurd h
    by_first (Some x) is h = record {
      part = part_same old.part new.part (ap (λ (w : Work). w.part) h.rest);
      tells = tells_wish 0 x is h.named (ap (λ (w : Work). w.wishes) h.rest) (ap (λ (w : Work). w.ends) h.rest);
    }

    by_goes : Goes old at (Tell n told) new → TellsSteady n old new
    by_goes (inl (may, h)) = by_first (slice_get old.wishes 0) refl h
    by_goes (inr (may, h)) = absurd h

-- what a turn does
abbrev pub TurnSteady : Turn → Work → Work → Type 0
TurnSteady (Tell n told) w v = TellsSteady n w v
TurnSteady (Show i shown) w v =
    (v.part.wanted ≡ slice_set w.part.wanted i None) × (v.part.row.replica.plan ≡ w.part.row.replica.plan) × (v.part.row.replica.seen ≡ w.part.row.replica.seen) × AsksSame w v
TurnSteady (Stop i) w v = Steady w v
TurnSteady (Call i function args) w v = Steady w v
TurnSteady (Ask q) w v = Steady w v

pub turn_steady : (old new : Work) (at : Moment) (t : Turn) → Turns old at t new → TurnSteady t old new
turn_steady old new at (Tell n told) h = told_steady old new at n told h
turn_steady old new at (Show i shown) h =
    let part = h.1.part.2 in
    (ap (λ (p : Part). p.wanted) part, ap (λ (p : Part). p.row.replica.plan) part, ap (λ (p : Part). p.row.replica.seen) part, asks_as old new (ap (λ (w : Work). w.wishes) h.1.rest) (ap (λ (w : Work). w.ends) h.1.rest))
turn_steady old new at (Stop i) h =
    let part = h.1.part.2 in
    record {
      part = record { wanted = ap (λ (p : Part). p.wanted) part; plan = ap (λ (p : Part). p.row.replica.plan) part; seen = ap (λ (p : Part). p.row.replica.seen) part };
      asks = asks_as old new (ap (λ (w : Work). w.wishes) h.1.rest) (ap (λ (w : Work). w.ends) h.1.rest);
    }
turn_steady old new at (Call i function args) h =
    let step = h.1.0 in
    let part = step.part.1 in
    record {
      part = record { wanted = ap (λ (p : Part). p.wanted) part; plan = ap (λ (p : Part). p.row.replica.plan) part; seen = ap (λ (p : Part). p.row.replica.seen) part };
      asks = asks_as old new (ap (λ (w : Work). w.wishes) step.rest) (ap (λ (w : Work). w.ends) step.rest);
    }
turn_steady old new at (Ask q) h = asked_steady old new at q h

-- ---- where nothing is to be done

off_steady : (old new : Work) (now : ℕ) → Waits old.part now new.part → new ≡ (record old { part = new.part }) → Steady old new
off_steady old new now waits rest = record {
  part = record { wanted = ap (λ (x : Part). x.wanted) waits; plan = ap (λ (x : Part). x.row.replica.plan) waits; seen = ap (λ (x : Part). x.row.replica.seen) waits };
  asks = asks_as old new (ap (λ (w : Work). w.wishes) rest) (ap (λ (w : Work). w.ends) rest);
}

same_steady : (old new : Work) → new ≡ old → Steady old new
same_steady old new is = record { part = part_same old.part new.part (ap (λ (w : Work). w.part) is); asks = asks_as old new (ap (λ (w : Work). w.wishes) is) (ap (λ (w : Work). w.ends) is) }

pub rest_steady : (old new : Work) (at : Moment) → Rests old at new → Steady old new
rest_steady old new at h = by_rests h.rests
  where
    by_first : (o : Option Wish) → RestsWith o old at new → Steady old new
    by_first None (inl (due, due_is, off)) = off_steady old new at.now off.waits off.rest
    by_first None (inr (idle, same)) = same_steady old new same
    by_first (Some wish) (a, does, off) = off_steady old new at.now off.waits off.rest

    by_rests : RestsBy old at new → Steady old new
    by_rests (inl (may, h)) = by_first (slice_get old.wishes 0) h
    by_rests (inr (may, none, same)) = same_steady old new same

-- ---- answers

first_numbers : (told : Told) (wishes : List Wish) → wish_numbers (answered_first told wishes) ≡ wish_numbers wishes
first_numbers told [] = refl
first_numbers told (x ∷ wishes) = refl

standing_numbers : (stages : ℕ) (wishes : List Wish) → wish_numbers (wishes_standing stages wishes) ≡ wish_numbers wishes
standing_numbers stages [] = refl
standing_numbers stages (x ∷ wishes) = refl

settled_numbers : (b : Bool) (stages : ℕ) (wishes : List Wish) → wish_numbers (cond b (wishes_standing stages wishes) wishes) ≡ wish_numbers wishes
settled_numbers true stages wishes = standing_numbers stages wishes
settled_numbers false stages wishes = refl

pub settled_asks : (old new : Work) (part : Part) (landed : Bool) → new ≡ settled old part landed → AsksSame old new
settled_asks old new part landed is = record {
  wishes = ap (λ (w : Work). wish_numbers w.wishes) is ∙ settled_numbers _ _ old.wishes;
  ends = ap (λ (w : Work). end_numbers w.ends) is;
}

pub refused_asks : (acting doubtful : Bool) (old new : Work) (part : Part) → new ≡ refused acting doubtful old part → AsksSame old new
refused_asks true true old new part is = asks_as old new (ap (λ (w : Work). w.wishes) is) (ap (λ (w : Work). w.ends) is)
refused_asks true false old new part is = record { wishes = ap (λ (w : Work). wish_numbers w.wishes) is ∙ first_numbers _ old.wishes; ends = ap (λ (w : Work). end_numbers w.ends) is }
refused_asks false doubtful old new part is = asks_as old new (ap (λ (w : Work). w.wishes) is) (ap (λ (w : Work). w.ends) is)

-- the stages that are waited for stay so
mismeets_wanted : (why : LedgerFault) (old : Part) (now : ℕ) (entries : List Entry) (said : List Note) (place : ℕ) (new : Part) → MismeetsBy why old now entries said place new → new.wanted ≡ old.wanted
mismeets_wanted NoMemory old now entries said place new h = ap (λ (p : Part). p.wanted) h
mismeets_wanted NoEvent old now entries said place new h = ap (λ (p : Part). p.wanted) h.rest
mismeets_wanted NoStage old now entries said place new h = ap (λ (p : Part). p.wanted) h.rest
mismeets_wanted NoRoom old now entries said place new h = ap (λ (p : Part). p.wanted) h.rest

refuses_wanted : (b : Bool) (old new : Part) (now : ℕ) → RefusesPart b old now new → new.wanted ≡ old.wanted
refuses_wanted true old new now h = ap (λ (p : Part). p.wanted) h
refuses_wanted false old new now h = ap (λ (p : Part). p.wanted) h

-- a call that isn't a turn: somebody waits for a stage, or doesn't any more; nobody waits for those for which there is room; or those that are waited for stay so
abbrev pub KeepsWanted : (w v : Work) (o : Option Turn) → IsCall w o v → Type 0
KeepsWanted w v o (WantsOf i from is h) = v.part.wanted ≡ slice_set w.part.wanted i from
KeepsWanted w v o (GrowsOf more is h rest) = v.part.wanted ≡ w.part.wanted ++ replicate more None
KeepsWanted w v o call = v.part.wanted ≡ w.part.wanted

pub keeps_wanted : (w v : Work) (call : IsCall w None v) → KeepsWanted w v None call
keeps_wanted w v (TurnsOf at t is h) = (let no : ⊥ = cc in absurd no)
keeps_wanted w v (RestsOf at is h) = (rest_steady w v at h).part.wanted
keeps_wanted w v (FindsOf more is h) = ap (λ (x : Work). x.part.wanted) h
keeps_wanted w v (AsksOf number act until is h) = ap (λ (x : Work). x.part.wanted) h
keeps_wanted w v (EndsOf end is h) = ap (λ (x : Work). x.part.wanted) h
keeps_wanted w v (WantsOf i is_wanted is h) = ap (λ (x : Work). x.part.wanted) h
keeps_wanted w v (HearsOf words is h) = ap (λ (x : Work). x.part.wanted) h
keeps_wanted w v (ReadsAgainOf is h) = ap (λ (x : Work). x.part.wanted) h
keeps_wanted w v (GrowsOf more is h rest) = ap (λ (p : Part). p.wanted) h.rest
keeps_wanted w v (FinishesOf i answer is running h rest) = ap (λ (p : Part). p.wanted) h
keeps_wanted w v (ReadsOf entries notes is h rest) = ap (λ (p : Part). p.wanted) h.rest
keeps_wanted w v (MisreadsOf now entries notes m is h rest) = ap (λ (p : Part). p.wanted) h.rest
keeps_wanted w v (LandsOf is h) = ap (λ (p : Part). p.wanted) h.part.rest
keeps_wanted w v (MeetsOf entries notes landed is h) = ap (λ (p : Part). p.wanted) h.part.rest
keeps_wanted w v (MismeetsOf now entries notes m is h) = mismeets_wanted m.why w.part now entries notes m.place v.part h.part.done
keeps_wanted w v (WaitsOf now is h) = ap (λ (p : Part). p.wanted) h.part
keeps_wanted w v (RefusesOf now is h) = refuses_wanted _ w.part v.part now h.part
keeps_wanted w v (ClosesOf is_closed is h) = ap (λ (p : Part). p.wanted) h.part
keeps_wanted w v (BreaksOf fault is h rest) = ap (λ (p : Part). p.wanted) h

-- one user more asks, or the same do
abbrev pub KeepsAsked : (w v : Work) (o : Option Turn) → IsCall w o v → Type 0
KeepsAsked w v o (AsksOf number act until is h) = (wish_numbers v.wishes ≡ wish_numbers w.wishes ++ number ∷ []) × (v.ends ≡ w.ends)
KeepsAsked w v o (EndsOf end is h) = (end_numbers v.ends ≡ end_numbers w.ends ++ end.number ∷ []) × (v.wishes ≡ w.wishes)
KeepsAsked w v o call = AsksSame w v

wish_more : (xs : List Wish) (x : Wish) → wish_numbers (xs ++ x ∷ []) ≡ wish_numbers xs ++ x.number ∷ []
wish_more [] x = refl
wish_more (y ∷ xs) x = ap (λ (l : List ℕ). y.number ∷ l) (wish_more xs x)

end_more : (xs : List End) (x : End) → end_numbers (xs ++ x ∷ []) ≡ end_numbers xs ++ x.number ∷ []
end_more [] x = refl
end_more (y ∷ xs) x = ap (λ (l : List ℕ). y.number ∷ l) (end_more xs x)

pub keeps_asked : (w v : Work) (call : IsCall w None v) → KeepsAsked w v None call
keeps_asked w v (TurnsOf at t is h) = (let no : ⊥ = cc in absurd no)
keeps_asked w v (RestsOf at is h) = (rest_steady w v at h).asks
keeps_asked w v (FindsOf more is h) = asks_as w v (ap (λ (x : Work). x.wishes) h) (ap (λ (x : Work). x.ends) h)
keeps_asked w v (AsksOf number act until is h) = (ap (λ (x : Work). wish_numbers x.wishes) h ∙ wish_more w.wishes _, ap (λ (x : Work). x.ends) h)
keeps_asked w v (EndsOf end is h) = (ap (λ (x : Work). end_numbers x.ends) h ∙ end_more w.ends end, ap (λ (x : Work). x.wishes) h)
keeps_asked w v (WantsOf i is_wanted is h) = asks_as w v (ap (λ (x : Work). x.wishes) h) (ap (λ (x : Work). x.ends) h)
keeps_asked w v (HearsOf words is h) = asks_as w v (ap (λ (x : Work). x.wishes) h) (ap (λ (x : Work). x.ends) h)
keeps_asked w v (ReadsAgainOf is h) = asks_as w v (ap (λ (x : Work). x.wishes) h) (ap (λ (x : Work). x.ends) h)
keeps_asked w v (GrowsOf more is h rest) = asks_as w v (ap (λ (x : Work). x.wishes) rest) (ap (λ (x : Work). x.ends) rest)
keeps_asked w v (FinishesOf i answer is running h rest) = asks_as w v (ap (λ (x : Work). x.wishes) rest) (ap (λ (x : Work). x.ends) rest)
keeps_asked w v (ReadsOf entries notes is h rest) = asks_as w v (ap (λ (x : Work). x.wishes) rest) (ap (λ (x : Work). x.ends) rest)
keeps_asked w v (MisreadsOf now entries notes m is h rest) = asks_as w v (ap (λ (x : Work). x.wishes) rest) (ap (λ (x : Work). x.ends) rest)
keeps_asked w v (LandsOf is h) = settled_asks w v v.part true h.rest
keeps_asked w v (MeetsOf entries notes landed is h) = settled_asks w v v.part landed h.rest
keeps_asked w v (MismeetsOf now entries notes m is h) = asks_as w v (ap (λ (x : Work). x.wishes) h.rest) (ap (λ (x : Work). x.ends) h.rest)
keeps_asked w v (WaitsOf now is h) = asks_as w v (ap (λ (x : Work). x.wishes) h.rest) (ap (λ (x : Work). x.ends) h.rest)
keeps_asked w v (RefusesOf now is h) = refused_asks w.is_acting w.is_doubtful w v v.part h.rest
keeps_asked w v (ClosesOf is_closed is h) = asks_as w v (ap (λ (x : Work). x.wishes) h.rest) (ap (λ (x : Work). x.ends) h.rest)
keeps_asked w v (BreaksOf fault is h rest) = asks_as w v (ap (λ (x : Work). x.wishes) rest) (ap (λ (x : Work). x.ends) rest)

-- the same is seen of the same plan, or of one with another room; or nothing is said of a call by which more is seen
pub record SeesSame (w v : Work) : Type 0 where
  pub plan : v.part.row.replica.plan ≡ w.part.row.replica.plan
  pub seen : v.part.row.replica.seen ≡ w.part.row.replica.seen

pub record SeesRoomier (w v : Work) : Type 0 where
  pub plan : v.part.row.replica.plan ≡ with_room w.part.row.replica.plan v.part.row.replica.plan.room
  pub seen : v.part.row.replica.seen ≡ w.part.row.replica.seen

abbrev pub KeepsSeen : (w v : Work) (o : Option Turn) → IsCall w o v → Type 0
KeepsSeen w v o (ReadsOf entries notes is h rest) = Unit {0}
KeepsSeen w v o (MisreadsOf now entries notes m is h rest) = Unit {0}
KeepsSeen w v o (LandsOf is h) = Unit {0}
KeepsSeen w v o (MeetsOf entries notes landed is h) = Unit {0}
KeepsSeen w v o (MismeetsOf now entries notes m is h) = Unit {0}
KeepsSeen w v o (GrowsOf more is h rest) = SeesRoomier w v
KeepsSeen w v o call = SeesSame w v

same_seen : (w v : Work) (p : Part) → v.part ≡ p → p.row.replica.plan ≡ w.part.row.replica.plan → p.row.replica.seen ≡ w.part.row.replica.seen → SeesSame w v
same_seen w v p is plan seen = record { plan = ap (λ (x : Part). x.row.replica.plan) is ∙ plan; seen = ap (λ (x : Part). x.row.replica.seen) is ∙ seen }

refuses_seen : (b : Bool) (w v : Work) (now : ℕ) → RefusesPart b w.part now v.part → SeesSame w v
refuses_seen true w v now h = same_seen w v _ h refl refl
refuses_seen false w v now h = same_seen w v _ h refl refl

roomier_seen : (w v : Work) (more : ℕ) → Grows w.part more v.part → SeesRoomier w v
roomier_seen w v more h =
    let plan : v.part.row.replica.plan ≡ with_room w.part.row.replica.plan (w.part.row.replica.plan.room + more) = ap (λ (p : Part). p.row.replica.plan) h.rest in
    record {
      plan = plan ∙ ap (λ (n : ℕ). with_room w.part.row.replica.plan n) (sym (ap (λ (p : Planned). p.room) plan));
      seen = ap (λ (p : Part). p.row.replica.seen) h.rest;
    }

pub keeps_seen : (w v : Work) (call : IsCall w None v) → KeepsSeen w v None call
keeps_seen w v (TurnsOf at t is h) = (let no : ⊥ = cc in absurd no)
keeps_seen w v (RestsOf at is h) = (let same = (rest_steady w v at h).part in record { plan = same.plan; seen = same.seen })
keeps_seen w v (FindsOf more is h) = same_seen w v _ (ap (λ (x : Work). x.part) h) refl refl
keeps_seen w v (AsksOf number act until is h) = same_seen w v _ (ap (λ (x : Work). x.part) h) refl refl
keeps_seen w v (EndsOf end is h) = same_seen w v _ (ap (λ (x : Work). x.part) h) refl refl
keeps_seen w v (WantsOf i from is h) = same_seen w v _ (ap (λ (x : Work). x.part) h) refl refl
keeps_seen w v (HearsOf words is h) = same_seen w v _ (ap (λ (x : Work). x.part) h) refl refl
keeps_seen w v (ReadsAgainOf is h) = same_seen w v _ (ap (λ (x : Work). x.part) h) refl refl
keeps_seen w v (GrowsOf more is h rest) = roomier_seen w v more h
keeps_seen w v (FinishesOf i answer is running h rest) = same_seen w v _ h refl refl
keeps_seen w v (ReadsOf entries notes is h rest) = tt
keeps_seen w v (MisreadsOf now entries notes m is h rest) = tt
keeps_seen w v (LandsOf is h) = tt
keeps_seen w v (MeetsOf entries notes landed is h) = tt
keeps_seen w v (MismeetsOf now entries notes m is h) = tt
keeps_seen w v (WaitsOf now is h) = same_seen w v _ h.part refl refl
keeps_seen w v (RefusesOf now is h) = refuses_seen _ w v now h.part
keeps_seen w v (ClosesOf is_closed is h) = same_seen w v _ h.part refl refl
keeps_seen w v (BreaksOf fault is h rest) = same_seen w v _ h refl refl
