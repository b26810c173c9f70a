-- What a process was told of a request stays true by each of its calls.
use Rattle.std.proofs.Common.{◌≡◌, ◌≢◌, ℕ, zero, suc, ◌<◌, inl, inr, Bool, false, true, Option, Some, None, List, [], ◌∷◌, ◌++◌, refl, ap, sym, ◌∙◌, subst, arith, length, length-append, drop, set, take, append-nil, append_assoc}
use Rattle.std.specs.Prelude.{◌||◌, cond, map, not, slice_get}
use Rattle.std.proofs.lemmas.Bool.{cases_lt}
use Rattle.std.proofs.lemmas.Bool.Decides.{eqb_tells}
use Rattle.std.proofs.lemmas.Option.{slice_get_within}
use Rattle.cf_forms.proofs.ListLemmas.{slice_get-front, slice_get-seam}
use Rattle.cf_forms.specs.Plans.{Planned, with_room}
use Rattle.cf_ledger.specs.declared.faults.LedgerFault.{LedgerFault}
use Rattle.cf_ledger.specs.declared.faults.LedgerFault.TheVariants.{NoMemory, NoEvent, NoStage, NoRoom}
use Rattle.cf_model.specs.States.{start}
use Rattle.cf_model.proofs.StateLemmas.{slice_get-set_other}
use Rattle.cf_ledger.specs.Ledgers.{AreTaken}
use Rattle.cf_notes.specs.declared.note.Note.{Note}
use Rattle.cf_notes.specs.declared.wants.EndsWith.{EndsWith}
use Rattle.cf_notes.specs.Tables.{Table}
use Rattle.cf_row.specs.declared.entry.Entry.{Entry}
use Rattle.cf_row.specs.Rows.{BeginsWith, history_of}
use Rattle.cf_part.specs.Answers.{MismeetsBy, Sees}
use Rattle.cf_part.specs.Parts.{Part, is_waited, seen_by}
use Rattle.cf_turn.specs.declared.turn.Turn.{Turn}
use Rattle.cf_turn.specs.declared.turn.Turn.TheVariants.{Tell as TellTurn, Show as ShowTurn, Stop as StopTurn, Call as CallTurn, Ask as AskTurn}
use Rattle.cf_turn.specs.Turns.{Moment}
use Rattle.cf_turn.specs.Works.{Work}
use Rattle.cf_host.specs.declared.order.Order.{Order}
use Rattle.cf_host.specs.declared.order.Order.TheVariants.{Beats, News as LooksFor, Open, Row as AsksRow, Call, Stop, Show, Tell, Sleep}
use Rattle.cf_host.specs.declared.request.Request.{Request}
use Rattle.cf_host.specs.declared.requests.Length.{Length}
use Rattle.cf_host.specs.declared.ticket.Asked.{Asked}
use Rattle.cf_host.specs.declared.ticket.Asked.TheVariants.{Beats as OfBeats, News as OfNews, Open as OfOpen, Row as OfRow, Call as OfCall, Act as OfAct}
use Rattle.cf_host.specs.Answering.{Breaking, Closing, Hearing, Landing, Meeting, Reading, Waiting}
use Rattle.cf_host.specs.Answering.Hearing.{read as HearsRead, put as HearsPut}
use Rattle.cf_host.specs.Asking.{CallEnding, Wanting}
use Rattle.cf_host.specs.Hosts.{AllRest, Answers, AnswersRow, EndsCall, FirstTurns, HearsNews, HearsRow, Host, IsDropped, IsOpened, IsShownPart, Lacks, Loses, LosesRequest, OnRequest, Orders, RestsIn, StaysShut, StaysUnanswered, WorksOn, moment_in}
use Rattle.cf_host.specs.Keeping.{IsWorkIn}
use Rattle.cf_host.specs.News.{is_whole}
use Rattle.cf_host.specs.Processes.{IsToldTruly, KnowsTruly}
use Rattle.cf_host.specs.Requests.{Hears, HearsAll, IsAt, IsOpenIn, IsPartOf, OnWork, fresh, hears, hears_in, is_told, looked_for, missed, missed_in, read_again, told_length}
use Rattle.cf_host.specs.Requests.Hears.{known as HearsKnown, added as HearsAdded, passed as HearsPassed}
use Rattle.cf_host.proofs.Effects.{get_set, get_some, length_set, same_some}
use Rattle.cf_host.proofs.Steady.{TurnSteady, rest_steady, turn_steady}
use Rattle.cf_example.specs.Processes.{HasTaken}
use Rattle.cf_example.proofs.TwoSessions.{begins_longer, take_drop}
use Rattle.cf_example.proofs.WholeRows.{all_seen}

-- ---- one work

-- whoever sees the same of the same plan was told the truth, too
abbrev ViewsSame : Part → Part → Type 0
ViewsSame p q = (q.row.replica.plan ≡ p.row.replica.plan) × (q.row.replica.seen ≡ p.row.replica.seen)

told_same : (plan : Planned) (row : List Entry) (p q : Part) → ViewsSame p q → IsToldTruly plan row p → IsToldTruly plan row q
told_same plan row p q same t = record {
  plan_is = subst (λ (x : Planned). x ≡ with_room plan x.room) (sym same.0) t.plan_is;
  true_seen = subst (BeginsWith row) (sym same.1) t.true_seen;
  taken = subst (λ (x : Planned). AreTaken (start x) (history_of q.row.replica.seen)) (sym same.0)
      (subst (λ (l : List Entry). AreTaken (start p.row.replica.plan) (history_of l)) (sym same.1) t.taken);
}

views_as : (p q x : Part) → q ≡ x → ViewsSame p x → ViewsSame p q
views_as p q x is same = (ap (λ (x : Part). x.row.replica.plan) is ∙ same.0, ap (λ (x : Part). x.row.replica.seen) is ∙ same.1)

turn_views : (t : Turn) (w v : Work) → TurnSteady t w v → ViewsSame w.part v.part
turn_views (TellTurn n told) w v same = (same.part.plan, same.part.seen)
turn_views (ShowTurn i shown) w v same = (same.1, same.2)
turn_views (StopTurn i) w v same = (same.part.plan, same.part.seen)
turn_views (CallTurn i function args) w v same = (same.part.plan, same.part.seen)
turn_views (AskTurn q) w v same = (same.part.plan, same.part.seen)

-- entries are seen that stand behind all that was seen
seen_longer : (row seen es : List Entry) → BeginsWith row seen → BeginsWith (drop (length seen) row) es → BeginsWith row (seen ++ es)
seen_longer row seen es h more =
    record { rest = more.rest; is = sym (all_seen row seen h) ∙ ap (λ (l : List Entry). seen ++ l) more.is ∙ sym (append_assoc seen es more.rest) }

-- its graph took all that it has seen
abbrev TookAll : Part → Type 0
TookAll p = AreTaken (start p.row.replica.plan) (history_of p.row.replica.seen)

told_more : (plan : Planned) (row : List Entry) (p q : Part) (notes noted : Table) (es : List Entry) (said : List Note) → Sees p.row notes es said q.row noted → BeginsWith row (p.row.replica.seen ++ es) → TookAll q → IsToldTruly plan row p → IsToldTruly plan row q
told_more plan row p q notes noted es said s there taken t = record {
  plan_is = subst (λ (x : Planned). x ≡ with_room plan x.room) (sym s.replays.plan) t.plan_is;
  true_seen = subst (BeginsWith row) (sym s.replays.seen) there;
  taken = taken;
}

begins_front : (n : ℕ) (xs : List Entry) → BeginsWith xs (take n xs)
begins_front n xs = record { rest = drop n xs; is = sym (take_drop n xs) }

-- ---- what answers do to it

by_fault : (why : LedgerFault) (plan : Planned) (row : List Entry) (p q : Part) (now : ℕ) (es : List Entry) (said : List Note) (place : ℕ) → MismeetsBy why p now es said place q → BeginsWith row (p.row.replica.seen ++ take place es) → TookAll q → IsToldTruly plan row p → IsToldTruly plan row q
by_fault NoMemory plan row p q now es said place h there taken t = told_same plan row p q (views_as p q _ h (refl, refl)) t
by_fault NoEvent plan row p q now es said place h there taken t = told_more plan row p q p.notes q.notes _ _ h.sees there taken t
by_fault NoStage plan row p q now es said place h there taken t = told_more plan row p q p.notes q.notes _ _ h.sees there taken t
by_fault NoRoom plan row p q now es said place h there taken t = told_more plan row p q p.notes q.notes _ _ h.sees there taken t

-- entries that stand in the row behind what was seen
hearing_told : (plan : Planned) (row : List Entry) (w v : Work) (now : ℕ) (es : List Entry) (said : List Note) → Hearing now es said w v → es ≡ drop (length w.part.row.replica.seen) row → TookAll v.part → IsToldTruly plan row w.part → IsToldTruly plan row v.part
hearing_told plan row w v now es said h is taken t = by_case h
  where
    seen : List Entry
    seen = w.part.row.replica.seen

    all : BeginsWith row (seen ++ es)
    all = seen_longer row seen es t.true_seen (record { rest = []; is = sym is ∙ sym (append-nil es) })

    front : (n : ℕ) → BeginsWith row (seen ++ take n es)
    front n = seen_longer row seen (take n es) t.true_seen (subst (λ (l : List Entry). BeginsWith l (take n es)) is (begins_front n es))

    by_reading : Reading now es said w v → IsToldTruly plan row v.part
    by_reading r = elim r.part [
      | inl reads ↦ told_more plan row w.part v.part w.part.notes v.part.notes es said reads.sees all taken t
      | inr m ↦ told_more plan row w.part v.part w.part.notes v.part.notes _ _ m.1.sees (front m.0.place) taken t
    ]

    by_meeting : Meeting now es said w v → IsToldTruly plan row v.part
    by_meeting (inl (landed, meets)) = told_more plan row w.part v.part w.part.notes v.part.notes es said meets.part.sees all taken t
    by_meeting (inr (m, mismeets)) = by_fault m.why plan row w.part v.part now es said m.place mismeets.part.done (front m.place) taken t

    by_case : Hearing now es said w v → IsToldTruly plan row v.part
    by_case (HearsRead is_read r) = by_reading r
    by_case (HearsPut is_put m) = by_meeting m

landing_told : (plan : Planned) (row : List Entry) (w v : Work) → Landing w v → BeginsWith row (w.part.row.replica.seen ++ w.part.row.put) → TookAll v.part → IsToldTruly plan row w.part → IsToldTruly plan row v.part
landing_told plan row w v l there taken t = told_more plan row w.part v.part w.part.notes v.part.notes _ _ l.part.sees there taken t

-- ---- one request

abbrev IsTold : Planned → List Entry → Request → Type 0
IsTold plan row r = (part : Part) → IsPartOf r part → IsToldTruly plan row part

on_work_told : {call : Work → Work → Type 0} → (plan : Planned) (row : List Entry) (r after : Request) → (o : OnWork call r after) → (IsToldTruly plan row o.before.part → IsToldTruly plan row o.after.part) → IsTold plan row r → IsTold plan row after
on_work_told plan row r after o f told part shown =
    let is : o.after ≡ shown.0 = some_same o.after shown.0 (sym (ap (λ (x : Request). x.work) o.rest) ∙ shown.1) in
    subst (IsToldTruly plan row) (ap (λ (w : Work). w.part) is ∙ shown.2) (f (told o.before.part (o.before, o.is, refl)))
  where
    some_same : (x y : Work) → Some x ≡ Some y → x ≡ y
    some_same x y e = cc

-- one that isn't opened has no part
none_told : (plan : Planned) (row : List Entry) (r : Request) → r.work ≡ None → IsTold plan row r
none_told plan row r none part shown = (let there = shown.1 in let no : ⊥ = cc in absurd no)

heard_told : (plan : Planned) (row : List Entry) (words : ℕ) (r : Request) → IsTold plan row r → IsTold plan row (hears words r)
heard_told plan row words r told = by_work r.work refl
  where
    by_work : (work : Option Work) → r.work ≡ work → IsTold plan row (hears words r)
    by_work None is = none_told plan row (hears words r) (ap (hears_in words) is)
    by_work (Some w) is = λ part shown.
        let same : Some (told_length words w) ≡ Some shown.0 = sym (ap (hears_in words) is) ∙ shown.1 in
        let it : told_length words w ≡ shown.0 = cc in
        subst (IsToldTruly plan row) (ap (λ (x : Work). x.part) it ∙ shown.2) (told_same plan row w.part (told_length words w).part (refl, refl) (told w.part (w, is, refl)))

views_again : (known : Bool) (w : Work) → ViewsSame w.part (cond known w (read_again w)).part
views_again true w = (refl, refl)
views_again false w = (refl, refl)

missed_told : (plan : Planned) (row : List Entry) (lengths : List Length) (r : Request) → IsTold plan row r → IsTold plan row (missed lengths r)
missed_told plan row lengths r told = by_work r.work refl
  where
    by_work : (work : Option Work) → r.work ≡ work → IsTold plan row (missed lengths r)
    by_work None is = none_told plan row (missed lengths r) (ap (missed_in lengths r.number) is)
    by_work (Some w) is = λ part shown.
        let known : Bool = is_told lengths r.number || not (is_waited w.part.wanted) in
        let again : Work = cond known w (read_again w) in
        let same : Some again ≡ Some shown.0 = sym (ap (missed_in lengths r.number) is) ∙ shown.1 in
        let it : again ≡ shown.0 = cc in
        subst (IsToldTruly plan row) (ap (λ (x : Work). x.part) it ∙ shown.2) (told_same plan row w.part again.part (views_again known w) (told w.part (w, is, refl)))

-- ---- all requests

abbrev AllKnow : ℕ → Planned → List Entry → List Request → Type 0
AllKnow request plan row requests = (place : ℕ) (at : IsAt request place requests) (part : Part) → IsPartOf at.request part → IsToldTruly plan row part

knows_all : (request : ℕ) (plan : Planned) (row : List Entry) (h : Host) → KnowsTruly request plan row h → AllKnow request plan row h.requests
knows_all request plan row h k = λ place at part is. k part (record { place = place; at = at; is = is })

all_known : (request : ℕ) (plan : Planned) (row : List Entry) (h : Host) (requests : List Request) → h.requests ≡ requests → AllKnow request plan row requests → KnowsTruly request plan row h
all_known request plan row h requests same k = λ part s. (subst (AllKnow request plan row) (sym same) k) s.place s.at part s.is

-- a request stood there before a call, and what was told of it stays true
record Stays (request : ℕ) (plan : Planned) (row : List Entry) (old : List Request) (k : ℕ) (r : Request) : Type 0 where
  before : Request
  there : slice_get old k ≡ Some before
  named : r.number ≡ before.number
  told : before.number ≡ request → IsTold plan row before → IsTold plan row r

all_stay : (request : ℕ) (plan : Planned) (row : List Entry) (old after : List Request) → length after ≡ length old → ((k : ℕ) (r : Request) → slice_get after k ≡ Some r → Stays request plan row old k r) → AllKnow request plan row old → AllKnow request plan row after
all_stay request plan row old after count each known place at part shown =
    let s = each place at.request at.is in
    let named : s.before.number ≡ request = sym s.named ∙ at.named in
    let was : IsAt request place old = record { request = s.before; is = s.there; named = named; first = λ j b low there same. first j b low there same } in
    s.told named (λ p is. known place was p is) part shown
  where
    first : (j : ℕ) (b : Request) → j < place → slice_get old j ≡ Some b → b.number ≢ request
    first j b low there same =
        let within = slice_get_within old j b there in
        let n = get_some after j (omega (arith, within, count)) in
        let t = each j n.0 n.1 in
        let is : t.before ≡ b = same_some t.before b (sym t.there ∙ there) in
        at.first j n.0 low n.1 (t.named ∙ ap (λ (x : Request). x.number) is ∙ same)

set_stays : (request : ℕ) (plan : Planned) (row : List Entry) (old : List Request) (place : ℕ) (before after : Request) → slice_get old place ≡ Some before → after.number ≡ before.number → (before.number ≡ request → IsTold plan row before → IsTold plan row after) →
    (k : ℕ) (r : Request) → slice_get (set old place after) k ≡ Some r → Stays request plan row old k r
set_stays request plan row old place before after at named told k r there = elim (eqb_tells k place) [
  | inl p ↦
      let is : after ≡ r = same_some after r (sym (get_set old place after (slice_get_within old place before at)) ∙ ap (λ (i : ℕ). slice_get (set old place after) i) (sym p.1) ∙ there) in
      subst (Stays request plan row old k) is (record { before = before; there = ap (λ (i : ℕ). slice_get old i) p.1 ∙ at; named = named; told = told })
  | inr p ↦ record { before = r; there = sym (slice_get-set_other old place k after p.1) ∙ there; named = refl; told = λ n t. t }
]

set_knows : (request : ℕ) (plan : Planned) (row : List Entry) (old : List Request) (place : ℕ) (before after : Request) → slice_get old place ≡ Some before → after.number ≡ before.number → (before.number ≡ request → IsTold plan row before → IsTold plan row after) →
    AllKnow request plan row old → AllKnow request plan row (set old place after)
set_knows request plan row old place before after at named told = all_stay request plan row old (set old place after) (length_set old place after) (set_stays request plan row old place before after at named told)

-- one is taken up
added_knows : (request : ℕ) (plan : Planned) (row : List Entry) (old : List Request) (number words : ℕ) → AllKnow request plan row old → AllKnow request plan row (old ++ fresh number words ∷ [])
added_knows request plan row old number words known place at part shown = elim (cases_lt place (length old)) [
  | inl low ↦
      let was : IsAt request place old = record {
        request = at.request;
        is = sym (slice_get-front old (fresh number words ∷ []) place low) ∙ at.is;
        named = at.named;
        first = λ j b less there same. at.first j b less (slice_get-front old (fresh number words ∷ []) j (omega (arith, less, low)) ∙ there) same;
      } in
      known place was part shown
  | inr high ↦
      let within = slice_get_within (old ++ fresh number words ∷ []) place at.request at.is in
      let count = length-append old (fresh number words ∷ []) in
      let last : place ≡ length old = omega (arith, within, count, high) in
      let is : fresh number words ≡ at.request = same_some (fresh number words) at.request (sym (slice_get-seam old (fresh number words) []) ∙ ap (λ (i : ℕ). slice_get (old ++ fresh number words ∷ []) i) (sym last) ∙ at.is) in
      none_told plan row at.request (sym (ap (λ (x : Request). x.work) is)) part shown
]

hears_know : (request : ℕ) (plan : Planned) (row : List Entry) (takes_all : Bool) (told : Length) (old after : List Request) → Hears takes_all told old after → AllKnow request plan row old → AllKnow request plan row after
hears_know request plan row takes_all told old after (HearsKnown place at is) known =
    subst (AllKnow request plan row) (sym is) (set_knows request plan row old place at.request (hears told.words at.request) at.is refl (λ n t. heard_told plan row told.words at.request t) known)
hears_know request plan row takes_all told old after (HearsAdded all none is) known = subst (AllKnow request plan row) (sym is) (added_knows request plan row old told.request told.words known)
hears_know request plan row takes_all told old after (HearsPassed all none is) known = subst (AllKnow request plan row) (sym is) known

all_hear : (request : ℕ) (plan : Planned) (row : List Entry) (takes_all : Bool) (lengths : List Length) (old after : List Request) → HearsAll takes_all lengths old after → AllKnow request plan row old → AllKnow request plan row after
all_hear request plan row takes_all [] old after is known = subst (AllKnow request plan row) (sym is) known
all_hear request plan row takes_all (told ∷ lengths) old after (between, one, rest) known =
    all_hear request plan row takes_all lengths between after rest (hears_know request plan row takes_all told old between one known)

-- a look was answered
got_missed : (lengths : List Length) (requests : List Request) (k : ℕ) (r : Request) → slice_get (map (missed lengths) requests) k ≡ Some r → (b : Request) × (slice_get requests k ≡ Some b) × (missed lengths b ≡ r)
got_missed lengths [] k r there = (let no : ⊥ = cc in absurd no)
got_missed lengths (x ∷ requests) zero r there = (x, refl, same_some (missed lengths x) r there)
got_missed lengths (x ∷ requests) (suc k) r there = got_missed lengths requests k r there

length_missed : (lengths : List Length) (requests : List Request) → length (map (missed lengths) requests) ≡ length requests
length_missed lengths [] = refl
length_missed lengths (x ∷ requests) = ap suc (length_missed lengths requests)

looked_know : (request : ℕ) (plan : Planned) (row : List Entry) (is_whole : Bool) (lengths : List Length) (old : List Request) → AllKnow request plan row old → AllKnow request plan row (looked_for is_whole lengths old)
looked_know request plan row false lengths old known = known
looked_know request plan row true lengths old known = all_stay request plan row old (map (missed lengths) old) (length_missed lengths old) stays known
  where
    stays : (k : ℕ) (r : Request) → slice_get (map (missed lengths) old) k ≡ Some r → Stays request plan row old k r
    stays k r there =
        let b = got_missed lengths old k r there in
        subst (Stays request plan row old k) b.2 (record { before = b.0; there = b.1; named = refl; told = λ n t. missed_told plan row lengths b.0 t })

-- ---- turns

rest_stays : (request : ℕ) (plan : Planned) (row : List Entry) (at : Moment) (old : List Request) (k : ℕ) (b r : Request) → slice_get old k ≡ Some b → RestsIn at b r → Stays request plan row old k r
rest_stays request plan row at old k b r there (inl same) = record {
  before = b;
  there = there;
  named = ap (λ (x : Request). x.number) same.1;
  told = λ n t. subst (IsTold plan row) (sym same.1) t;
}
rest_stays request plan row at old k b r there (inr o) =
    let same = (rest_steady o.before o.after at o.calls).part in
    record {
      before = b;
      there = there;
      named = ap (λ (x : Request). x.number) o.rest;
      told = λ n t. on_work_told plan row b r o (told_same plan row o.before.part o.after.part (same.plan, same.seen)) t;
    }

all_rest_stay : (request : ℕ) (plan : Planned) (row : List Entry) (at : Moment) (old after : List Request) → AllRest at old after → (k : ℕ) (r : Request) → slice_get after k ≡ Some r → Stays request plan row old k r
all_rest_stay request plan row at old after all k r there =
    let within = slice_get_within after k r there in
    let count = all.count in
    let low : k < length old = omega (arith, within, count) in
    let b = get_some old k low in
    let rest = all.each k b.0 low b.1 in
    let is : rest.0 ≡ r = same_some rest.0 r (sym rest.1 ∙ there) in
    rest_stays request plan row at old k b.0 r b.1 (subst (RestsIn at b.0) is rest.2)

first_turns_stay : (request : ℕ) (plan : Planned) (row : List Entry) (at : Moment) (old : List Request) (number : ℕ) (t : Turn) (after : List Request) → FirstTurns at old number t after → (k : ℕ) (r : Request) → slice_get after k ≡ Some r → Stays request plan row old k r
first_turns_stay request plan row at old number t after f k r there =
    let count = f.count in
    let within = slice_get_within after k r there in
    let low : k < length old = omega (arith, within, count) in
    let b = get_some old k low in
    elim (eqb_tells k f.place) [
      | inl p ↦
          let is : f.after ≡ r = same_some f.after r (sym f.is ∙ ap (λ (i : ℕ). slice_get after i) (sym p.1) ∙ there) in
          let o = f.turns in
          let same = turn_views t o.before o.after (turn_steady o.before o.after at t o.calls) in
          subst (Stays request plan row old k) is (record {
            before = f.before;
            there = ap (λ (i : ℕ). slice_get old i) p.1 ∙ f.there;
            named = ap (λ (x : Request). x.number) o.rest;
            told = λ n t. on_work_told plan row f.before f.after o (told_same plan row o.before.part o.after.part same) t;
          })
      | inr p ↦ elim (cases_lt k f.place) [
        | inl q ↦
            let rest = f.rest k b.0 q b.1 in
            let is : rest.0 ≡ r = same_some rest.0 r (sym rest.1 ∙ there) in
            rest_stays request plan row at old k b.0 r b.1 (subst (RestsIn at b.0) is rest.2)
        | inr q ↦
            let other = p.1 in
            record { before = r; there = sym (f.others k (omega (arith, q, other))) ∙ there; named = refl; told = λ n t. t }
      ]
    ]

works_know : (request : ℕ) (plan : Planned) (row : List Entry) (old : Host) (now : ℕ) (order : Order) (new : Host) → WorksOn old now order new → KnowsTruly request plan row old → KnowsTruly request plan row new
works_know request plan row old now order new w k =
    let at = moment_in old now w.may_claim in
    all_known request plan row new new.requests refl
    (all_stay request plan row old.requests new.requests w.turns.count (first_turns_stay request plan row at old.requests w.request w.turn new.requests w.turns) (knows_all request plan row old k))

-- a turn
pub orders_know : (request : ℕ) (plan : Planned) (row : List Entry) (old : Host) (now : ℕ) (order : Order) (new : Host) → Orders old now order new → KnowsTruly request plan row old → KnowsTruly request plan row new
orders_know request plan row old now (Beats number) new o k = all_known request plan row new old.requests (ap (λ (h : Host). h.requests) o.rest) (knows_all request plan row old k)
orders_know request plan row old now (LooksFor number look) new o k = all_known request plan row new old.requests (ap (λ (h : Host). h.requests) o.rest) (knows_all request plan row old k)
orders_know request plan row old now (Open number of) new o k =
    let after : Request = record o.before { is_asked = true } in
    all_known request plan row new (set old.requests o.place after) (ap (λ (h : Host). h.requests) o.rest)
    (set_knows request plan row old.requests o.place o.before after o.there refl (λ n t. t) (knows_all request plan row old k))
orders_know request plan row old now (Sleep until) new o k =
    let at = moment_in old now o.may_claim in
    all_known request plan row new new.requests refl
    (all_stay request plan row old.requests new.requests o.all.count (all_rest_stay request plan row at old.requests new.requests o.all) (knows_all request plan row old k))
orders_know request plan row old now (AsksRow number of q) new o k = works_know request plan row old now (AsksRow number of q) new o k
orders_know request plan row old now (Call number of i function args) new o k = works_know request plan row old now (Call number of i function args) new o k
orders_know request plan row old now (Stop number) new o k = works_know request plan row old now (Stop number) new o k
orders_know request plan row old now (Show of i shown) new o k = works_know request plan row old now (Show of i shown) new o k
orders_know request plan row old now (Tell number told) new o k = works_know request plan row old now (Tell number told) new o k

-- ---- answers

pub answers_know : (request : ℕ) (plan : Planned) (row : List Entry) (of : ℕ → Asked) (change : Request → Request → Type 0) (old : Host) (number : ℕ) (new : Host) → (a : Answers of change old number new) → a.after.number ≡ a.is.at.request.number →
    (a.is.at.request.number ≡ request → IsTold plan row a.is.at.request → IsTold plan row a.after) → KnowsTruly request plan row old → KnowsTruly request plan row new
answers_know request plan row of change old number new a named told k =
    all_known request plan row new (set old.requests a.place a.after) (ap (λ (h : Host). h.requests) a.rest)
    (set_knows request plan row old.requests a.place a.is.at.request a.after a.is.at.is named told (knows_all request plan row old k))

-- an answer about a row
row_knows : (call : Work → Work → Type 0) (of : ℕ → Asked) (request : ℕ) (plan : Planned) (row : List Entry) (old : Host) (number : ℕ) (new : Host) → (a : Answers of (OnWork call) old number new) →
    (a.is.at.request.number ≡ request → call a.changes.before a.changes.after → IsToldTruly plan row a.changes.before.part → IsToldTruly plan row a.changes.after.part) → KnowsTruly request plan row old → KnowsTruly request plan row new
row_knows call of request plan row old number new a f k =
    answers_know request plan row of (OnWork call) old number new a (ap (λ (x : Request). x.number) a.changes.rest)
    (λ named t. on_work_told plan row a.is.at.request a.after a.changes (f named a.changes.calls) t) k

-- the work of an answer's request
pub answered_work : {of : ℕ → Asked} {call : Work → Work → Type 0} → (request : ℕ) (old : Host) (number : ℕ) (new : Host) → (a : Answers of (OnWork call) old number new) → a.is.at.request.number ≡ request → IsWorkIn old request a.changes.before
answered_work request old number new a named =
    record { place = a.place; at = record { request = a.is.at.request; is = a.is.at.is; named = named; first = λ j b low there same. a.is.at.first j b low there (same ∙ sym named ∙ a.is.at.named) }; is = a.changes.is }

-- the part of an answer's request, once it is answered
answered_part : {of : ℕ → Asked} {call : Work → Work → Type 0} → (request : ℕ) (old : Host) (number : ℕ) (new : Host) → (a : Answers of (OnWork call) old number new) → a.is.at.request.number ≡ request → IsShownPart new request a.changes.after.part
answered_part request old number new a named = record {
  place = a.place;
  at = record {
    request = a.after;
    is = ap (λ (l : List Request). slice_get l a.place) all ∙ get_set old.requests a.place a.after (slice_get_within old.requests a.place a.is.at.request a.is.at.is);
    named = ap (λ (x : Request). x.number) a.changes.rest ∙ named;
    first = λ j b low there same.
        let other : j ≢ a.place = λ e. omega (arith, e, low) in
        let was : slice_get old.requests j ≡ Some b = sym (slice_get-set_other old.requests a.place j a.after other) ∙ ap (λ (l : List Request). slice_get l j) (sym all) ∙ there in
        a.is.at.first j b low was (same ∙ sym named ∙ a.is.at.named);
  };
  is = (a.changes.after, ap (λ (x : Request). x.work) a.changes.rest, refl);
}
  where
    all : new.requests ≡ set old.requests a.place a.after
    all = ap (λ (h : Host). h.requests) a.rest

pub entries_know : (request : ℕ) (plan : Planned) (row : List Entry) (old : Host) (now : ℕ) (es : List Entry) (said : List Note) (number : ℕ) (new : Host) → HearsRow now es said old number new →
    ((w : Work) → IsWorkIn old request w → es ≡ drop (seen_by w.part) row) → HasTaken request new → KnowsTruly request plan row old → KnowsTruly request plan row new
entries_know request plan row old now es said number new e there taken k =
    let a = e.hears.answers in
    let same : new.requests ≡ e.heard.requests = ap (λ (h : Host). h.requests) e.rest in
    all_known request plan row new e.heard.requests same (knows_all request plan row e.heard
    (row_knows (Hearing now es said) OfRow request plan row old number e.heard a
    (λ named h t. hearing_told plan row a.changes.before a.changes.after now es said h (there a.changes.before (answered_work request old number e.heard a named))
    (taken a.changes.after.part (shown (answered_part request old number e.heard a named))) t) k))
  where
    shown : {part : Part} → IsShownPart e.heard request part → IsShownPart new request part
    shown {part} s = subst (λ (h : Host). IsShownPart h request part) (sym e.rest) (record { place = s.place; at = s.at; is = s.is })

pub stands_knows : (request : ℕ) (plan : Planned) (row : List Entry) (old : Host) (number : ℕ) (new : Host) → (a : AnswersRow Landing old number new) →
    ((w : Work) → IsWorkIn old request w → BeginsWith row (w.part.row.replica.seen ++ w.part.row.put)) → HasTaken request new → KnowsTruly request plan row old → KnowsTruly request plan row new
stands_knows request plan row old number new a there taken k =
    row_knows Landing OfRow request plan row old number new a
    (λ named h t. landing_told plan row a.changes.before a.changes.after h (there a.changes.before (answered_work request old number new a named))
    (taken a.changes.after.part (answered_part request old number new a named)) t) k

pub closed_knows : (request : ℕ) (plan : Planned) (row : List Entry) (old : Host) (is_closed : Bool) (number : ℕ) (new : Host) → AnswersRow (Closing is_closed) old number new → KnowsTruly request plan row old → KnowsTruly request plan row new
closed_knows request plan row old is_closed number new a k =
    row_knows (Closing is_closed) OfRow request plan row old number new a (λ named h t. told_same plan row a.changes.before.part a.changes.after.part (views_as a.changes.before.part a.changes.after.part _ h.part (refl, refl)) t) k

pub ended_knows : (request : ℕ) (plan : Planned) (row : List Entry) (old : Host) (answer : EndsWith) (number : ℕ) (new : Host) → EndsCall answer old number new → KnowsTruly request plan row old → KnowsTruly request plan row new
ended_knows request plan row old answer number new e k =
    let a = e.ends in
    row_knows (CallEnding e.stage answer) (λ r. OfCall r e.stage) request plan row old number new a (λ named h t. told_same plan row a.changes.before.part a.changes.after.part (views_as a.changes.before.part a.changes.after.part _ h.part (refl, refl)) t) k

-- it isn't opened, neither before nor behind it
shut_knows : (of : ℕ → Asked) (change : Request → Request → Type 0) (request : ℕ) (plan : Planned) (row : List Entry) (old : Host) (number : ℕ) (new : Host) → (a : Answers of change old number new) → a.after.number ≡ a.is.at.request.number → a.after.work ≡ None →
    KnowsTruly request plan row old → KnowsTruly request plan row new
shut_knows of change request plan row old number new a named none k = answers_know request plan row of change old number new a named (λ n t. none_told plan row a.after none) k

lacks_know : (of : Asked) (request : ℕ) (plan : Planned) (row : List Entry) (old : Host) (now number : ℕ) (new : Host) → Lacks of old now number new → KnowsTruly request plan row old → KnowsTruly request plan row new
lacks_know OfBeats request plan row old now number new l k = all_known request plan row new old.requests (ap (λ (h : Host). h.requests) l.rest) (knows_all request plan row old k)
lacks_know OfNews request plan row old now number new l k = all_known request plan row new old.requests (ap (λ (h : Host). h.requests) l.rest) (knows_all request plan row old k)
lacks_know (OfOpen r) request plan row old now number new l k =
    shut_knows OfOpen (StaysShut now) request plan row old number new l (ap (λ (x : Request). x.number) l.changes.rest) (ap (λ (x : Request). x.work) l.changes.rest ∙ l.changes.fresh) k
lacks_know (OfRow r) request plan row old now number new l k =
    row_knows (Waiting now) OfRow request plan row old number new l (λ named h t. told_same plan row l.changes.before.part l.changes.after.part (views_as l.changes.before.part l.changes.after.part _ h.part (refl, refl)) t) k
lacks_know (OfCall r i) request plan row old now number new l k = absurd l
lacks_know (OfAct r) request plan row old now number new l k = absurd l

pub unknown_knows : (request : ℕ) (plan : Planned) (row : List Entry) (old : Host) (now number : ℕ) (new : Host) → StaysUnanswered old now number new → KnowsTruly request plan row old → KnowsTruly request plan row new
unknown_knows request plan row old now number new s k = lacks_know s.ticket.of request plan row old now number new s.lacks k

loses_know : (of : Asked) (request : ℕ) (plan : Planned) (row : List Entry) (old : Host) (number : ℕ) (new : Host) → Loses of old number new → KnowsTruly request plan row old → KnowsTruly request plan row new
loses_know OfBeats request plan row old number new l k = absurd l
loses_know OfNews request plan row old number new l k = absurd l
loses_know (OfOpen r) request plan row old number new l k =
    shut_knows OfOpen IsDropped request plan row old number new l (ap (λ (x : Request). x.number) l.changes.rest) (ap (λ (x : Request). x.work) l.changes.rest ∙ l.changes.fresh) k
loses_know (OfRow r) request plan row old number new l k =
    row_knows Breaking OfRow request plan row old number new l (λ named h t. told_same plan row l.changes.before.part l.changes.after.part (views_as l.changes.before.part l.changes.after.part _ h.part (refl, refl)) t) k
loses_know (OfCall r i) request plan row old number new l k = absurd l
loses_know (OfAct r) request plan row old number new l k = absurd l

pub dropped_knows : (request : ℕ) (plan : Planned) (row : List Entry) (old : Host) (number : ℕ) (new : Host) → LosesRequest old number new → KnowsTruly request plan row old → KnowsTruly request plan row new
dropped_knows request plan row old number new s k = loses_know s.ticket.of request plan row old number new s.loses k

pub beats_know : (request : ℕ) (plan : Planned) (row : List Entry) (old new : Host) → new.requests ≡ old.requests → KnowsTruly request plan row old → KnowsTruly request plan row new
beats_know request plan row old new same k = all_known request plan row new old.requests same (knows_all request plan row old k)

pub news_knows : (request : ℕ) (plan : Planned) (row : List Entry) (old : Host) (now number mark : ℕ) (lengths : List Length) (new : Host) → HearsNews old now number lengths mark new → KnowsTruly request plan row old → KnowsTruly request plan row new
news_knows request plan row old now number mark lengths new n k =
    all_known request plan row new (looked_for (is_whole old.news.asked) lengths n.heard) n.looked
    (looked_know request plan row (is_whole old.news.asked) lengths n.heard (all_hear request plan row old.takes_all lengths old.requests n.heard n.hears (knows_all request plan row old k)))

pub wants_know : (request : ℕ) (plan : Planned) (row : List Entry) (stage : ℕ) (from : Option ℕ) (of : ℕ) (old new : Host) → OnRequest (Wanting stage from) of old new → KnowsTruly request plan row old → KnowsTruly request plan row new
wants_know request plan row stage from of old new o k =
    all_known request plan row new (set old.requests o.place o.after) (ap (λ (h : Host). h.requests) o.rest)
    (set_knows request plan row old.requests o.place o.at.request o.after o.at.is (ap (λ (x : Request). x.number) o.calls.rest)
    (λ n t. on_work_told plan row o.at.request o.after o.calls (told_same plan row o.calls.before.part o.calls.after.part (views_as o.calls.before.part o.calls.after.part _ (ap (λ (w : Work). w.part) o.calls.calls.rest) (refl, refl))) t) (knows_all request plan row old k))

-- the request is opened with its plan, of whose row nothing is seen
pub opened_knows : (request : ℕ) (plan : Planned) (row : List Entry) (of : Planned) (notes : List Note) (room : ℕ) (is_flow : Bool) (old : Host) (number : ℕ) (new : Host) → Answers OfOpen (IsOpened old.session of notes room is_flow) old number new →
    with_room of room ≡ plan → KnowsTruly request plan row old → KnowsTruly request plan row new
opened_knows request plan row of notes room is_flow old number new a same k =
    let b = a.changes.begins in
    answers_know request plan row OfOpen (IsOpened old.session of notes room is_flow) old number new a (ap (λ (x : Request). x.number) b)
    (λ named t part shown.
    let work : Some _ ≡ Some shown.0 = sym (ap (λ (x : Request). x.work) b) ∙ shown.1 in
    let is : _ ≡ shown.0 = same_work _ shown.0 work in
    let whole : _ ≡ part = ap (λ (w : Work). w.part) is ∙ shown.2 in
    record {
      plan_is = subst (λ (p : Planned). part.row.replica.plan ≡ with_room p part.row.replica.plan.room) same (roomy part.row.replica.plan (sym (ap (λ (p : Part). p.row.replica.plan) whole)));
      true_seen = record { rest = row; is = ap (λ (l : List Entry). l ++ row) (ap (λ (p : Part). p.row.replica.seen) whole) };
      taken = subst TookAll whole tt;
    }) k
  where
    same_work : (x y : Work) → Some x ≡ Some y → x ≡ y
    same_work x y e = cc

    roomy : (x : Planned) → x ≡ with_room of room → x ≡ with_room (with_room of room) x.room
    roomy x is = subst (λ (y : Planned). y ≡ with_room (with_room of room) y.room) (sym is) refl

-- ---- a process's beginning, and a row that grows

pub new_knows : (request : ℕ) (plan : Planned) (row : List Entry) (h : Host) → h.requests ≡ [] → KnowsTruly request plan row h
new_knows request plan row h none = all_known request plan row h [] none (λ place at part shown. (let there = at.is in let no : ⊥ = cc in absurd no))

pub knows_on : (request : ℕ) (plan : Planned) (old row : List Entry) (h : Host) → BeginsWith row old → KnowsTruly request plan old h → KnowsTruly request plan row h
knows_on request plan old row h grown k = λ part shown. let t = k part shown in record { plan_is = t.plan_is; true_seen = begins_longer part.row.replica.seen old row t.true_seen grown; taken = t.taken }

-- ---- one work of a request

pub one_work : (h : Host) (request : ℕ) (w v : Work) → IsWorkIn h request w → IsWorkIn h request v → w ≡ v
one_work h request w v a b =
    let same = places a.place b.place a.at b.at in
    let r : a.at.request ≡ b.at.request = same_some a.at.request b.at.request (sym a.at.is ∙ ap (λ (i : ℕ). slice_get h.requests i) same ∙ b.at.is) in
    let is : Some w ≡ Some v = sym a.is ∙ ap (λ (x : Request). x.work) r ∙ b.is in
    cc
  where
    places : (p q : ℕ) → IsAt request p h.requests → IsAt request q h.requests → p ≡ q
    places p q x y = elim (cases_lt p q) [
      | inl low ↦ absurd (y.first p x.request low x.is x.named)
      | inr high ↦ elim (cases_lt q p) [
        | inl low ↦ absurd (x.first q y.request low y.is y.named)
        | inr less ↦ omega (arith, high, less)
      ]
    ]

-- if this part is shown, and its graph took what it has seen, that is so of whichever is shown
pub one_taken : (h : Host) (request : ℕ) (p : Part) → IsShownPart h request p → AreTaken (start p.row.replica.plan) (history_of p.row.replica.seen) → HasTaken request h
one_taken h request p shown taken q other =
    let w = shown.is.0 in
    let v = other.is.0 in
    let one : w ≡ v = one_work h request w v (record { place = shown.place; at = shown.at; is = shown.is.1 }) (record { place = other.place; at = other.at; is = other.is.1 }) in
    subst TookAll (sym shown.is.2 ∙ ap (λ (x : Work). x.part) one ∙ other.is.2) taken

-- none is shown where the request isn't open
pub none_taken : (h : Host) (request : ℕ) → ¬ IsOpenIn request h.requests → HasTaken request h
none_taken h request shut q other = absurd (shut (record { place = other.place; at = other.at; opened = (other.at.request, other.at.is, is_some) }))
  where
    is_some : other.at.request.work ≢ None
    is_some none = (let there = other.is.1 in let no : ⊥ = cc in absurd no)
