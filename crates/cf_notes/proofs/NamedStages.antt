-- That a table of notes has one entry for each stage, and names only these.
use Rattle.std.proofs.Common.{◌≡◌, ℕ, zero, suc, ◌+◌, ◌-◌, ◌<◌, ◌≤◌, true, false, Option, Some, None, List, [], ◌∷◌, ◌++◌, All, add-one, eqb, not, ◌&&◌, drop, get_or, length, set, refl, ap, sym, ◌∙◌, subst, arith}
use Rattle.std.specs.Prelude.{IfSome, nat_lt, option_and_then, slice_get}
use Rattle.std.specs.Option.{option_map_or}
use Rattle.std.proofs.lemmas.Bool.{and_parts, cond_both, ltb-true}
use Rattle.std.specs.declared.vec.Vec.{Vec}
use Rattle.std.specs.Vec.{vec_capacity, with_items}
use Rattle.std.proofs.lemmas.List.{length-set, length_push, with_items_is}
use Rattle.std.proofs.lemmas.List.Elements.{All-get_or, All-nil, All-push, All-set, All-weaker}
use Rattle.std.proofs.lemmas.Option.{get_or_from_slice_get, slice_get_within}
use Rattle.cf_forms.specs.declared.forms.Answer.{Answer}
use Rattle.cf_forms.specs.declared.forms.Answer.TheVariants.{Link}
use Rattle.cf_forms.specs.declared.forms.Form.{Form}
use Rattle.cf_forms.specs.Forms.{composes}
use Rattle.cf_forms.specs.Plans.{Planned, PlannedStage, attached_stage, form_at, function_at}
use Rattle.cf_model.specs.declared.events.Event.{Event}
use Rattle.cf_model.specs.declared.events.Event.TheVariants.{Complete as Completes, Fail as Fails, FailAs as FailsAs, Cancel as Cancels, Claim as Claims, Finish as Finishes, Tick as Ticks, Attach as Attaches}
use Rattle.cf_model.specs.States.{State, start}
use Rattle.cf_model.specs.Calls.{is_attach}
use Rattle.cf_model.specs.Events.{answered, attached_by as attached_by_room, state_after}
use Rattle.cf_model.proofs.Shape.{answered-frame}
use Rattle.cf_model.specs.declared.replies.Attached.TheVariants.{At}
use Rattle.cf_model.specs.declared.events.Reply.{Reply}
use Rattle.cf_model.specs.declared.events.Reply.TheVariants.{Flag as ToldFlag, Finish as ToldFinish, Attach as ToldAttach}
use Rattle.cf_model.specs.declared.replies.Finished.TheVariants.{Won}
use Rattle.cf_notes.specs.declared.note.Note.{Note}
use Rattle.cf_notes.specs.declared.note.Note.TheVariants.{Nothing, Calls, Tries, Composes, Gives, Timer as Times, Abandons}
use Rattle.cf_notes.specs.declared.noted.Noted.{Noted}
use Rattle.cf_notes.specs.Tables.{IsTable}
use Rattle.cf_notes.specs.Noting.{AreNotes, NamesStages, NotesNameStages, added_by, attached_by, attached_count, called_by, changed_at, failed_by, finished_by, function_of, given_to, is_given, noted_along, noted_as, noted_by, noted_plan, promise_of, timed_by, with_function, with_promise, with_try}

-- ---- what names only stages below a count

below_more : (k : ℕ) (o : Option ℕ) → IfSome o (λ i. i < k) → IfSome o (λ i. i < k + 1)
below_more k None h = tt
below_more k (Some i) h = omega arith

names_more : (k : ℕ) (n : Noted) → NamesStages k n → NamesStages (k + 1) n
names_more k n h = record {
  tries = below_more k n.tries h.tries;
  promise = below_more k n.promise h.promise;
  given = below_more k n.given h.given;
}

names_function : (k : ℕ) (function : Option ℕ) → NamesStages k (with_function function)
names_function k function = record { tries = tt; promise = tt; given = tt }

names_try_of : (k of : ℕ) (function : Option ℕ) → of < k → NamesStages k (with_try of function)
names_try_of k of None h = names_function k (Some 0)
names_try_of k of (Some function) h = record { tries = h; promise = tt; given = tt }

names_try_by : (stages : List Noted) (of : ℕ) (o : Option Noted) → slice_get stages of ≡ o →
    NamesStages (length stages) (with_try of (option_and_then (λ (n : Noted). n.function) o))
names_try_by stages of None e = names_function (length stages) (Some 0)
names_try_by stages of (Some n) e = names_try_of (length stages) of n.function (slice_get_within stages of n e)

-- ---- a stage that comes

names_called_by : (stages : List Noted) (form : Form) (note : Note) → NamesStages (length stages) (called_by stages form note)
names_called_by stages form (Calls function) = names_function (length stages) _
names_called_by stages form (Tries of) =
    cond_both (composes form) (with_function (Some 0)) (with_try of (function_of stages of)) (NamesStages (length stages))
    (λ e. names_function (length stages) (Some 0)) (λ e. names_try_by stages of (slice_get stages of) refl)
names_called_by stages form (Composes function promise) =
    cond_both (composes form && nat_lt promise (length stages)) (with_promise function promise) (with_function (Some 0)) (NamesStages (length stages))
    (λ e. record { tries = tt; promise = ltb-true promise (length stages) ((and_parts (composes form) (nat_lt promise (length stages)) e).1); given = tt })
    (λ e. names_function (length stages) (Some 0))
names_called_by stages form Nothing = names_function (length stages) (Some 0)
names_called_by stages form (Gives stage) = names_function (length stages) (Some 0)
names_called_by stages form (Times stage moment gives) = names_function (length stages) (Some 0)
names_called_by stages form Abandons = names_function (length stages) (Some 0)

pub names_noted_as : (stages : List Noted) (form : Form) (function : Option ℕ) (note : Note) → NamesStages (length stages) (noted_as stages form function note)
names_noted_as stages form None note = names_function (length stages) None
names_noted_as stages form (Some number) note = names_called_by stages form note

-- the table with one more stage
pub names_push : (stages : List Noted) (new : Noted) → All (NamesStages (length stages)) stages → NamesStages (length stages) new →
    All (NamesStages (length (stages ++ new ∷ []))) (stages ++ new ∷ [])
names_push stages new all one =
    let more : (n : Noted) → NamesStages (length stages) n → NamesStages (length (stages ++ new ∷ [])) n =
    (λ n h. subst (λ k. NamesStages k n) (sym (length_push stages new)) (names_more (length stages) n h)) in
    All-push (NamesStages (length (stages ++ new ∷ []))) stages new
    (All-weaker (NamesStages (length stages)) (NamesStages (length (stages ++ new ∷ []))) more stages all) (more new one)

-- ---- a stage that is there

-- how many there are stays
length-changed_in : (stages : List Noted) (i : ℕ) (change : Noted → Noted) (o : Option Noted) →
    length (option_map_or (λ (n : Noted). set stages i (change n)) o stages) ≡ length stages
length-changed_in stages i change None = refl
length-changed_in stages i change (Some n) = length-set stages i (change n)

pub length-changed_at : (stages : List Noted) (i : ℕ) (change : Noted → Noted) → length (changed_at stages i change) ≡ length stages
length-changed_at stages i change = length-changed_in stages i change (slice_get stages i)

names_changed_in : (k : ℕ) (stages : List Noted) (i : ℕ) (change : Noted → Noted) (o : Option Noted) → slice_get stages i ≡ o →
    ((n : Noted) → NamesStages k n → NamesStages k (change n)) → All (NamesStages k) stages →
    All (NamesStages k) (option_map_or (λ (n : Noted). set stages i (change n)) o stages)
names_changed_in k stages i change None e kept all = all
names_changed_in k stages i change (Some n) e kept all =
    let there : i < length stages = slice_get_within stages i n e in
    let one : NamesStages k n = subst (NamesStages k) (get_or_from_slice_get stages i n n e) (All-get_or (NamesStages k) stages i n there all) in
    All-set (NamesStages k) stages i (change n) (kept n one) all

names_changed_at : (k : ℕ) (stages : List Noted) (i : ℕ) (change : Noted → Noted) →
    ((n : Noted) → NamesStages k n → NamesStages k (change n)) → All (NamesStages k) stages → All (NamesStages k) (changed_at stages i change)
names_changed_at k stages i change kept all = names_changed_in k stages i change (slice_get stages i) refl kept all

-- as many entries as before, which name only these
pub record Keeps (old new : List Noted) : Type 0 where
  pub count : length new ≡ length old
  pub names : All (NamesStages (length new)) new

keeps_itself : (stages : List Noted) → All (NamesStages (length stages)) stages → Keeps stages stages
keeps_itself stages all = record { count = refl; names = all }

keeps_changed : (stages : List Noted) (i : ℕ) (change : Noted → Noted) →
    ((n : Noted) → NamesStages (length stages) n → NamesStages (length stages) (change n)) → All (NamesStages (length stages)) stages →
    Keeps stages (changed_at stages i change)
keeps_changed stages i change kept all =
    let count = length-changed_at stages i change in
    record {
      count = count;
      names = subst (λ k. All (NamesStages k) (changed_at stages i change)) (sym count) (names_changed_at (length stages) stages i change kept all);
    }

given_there : (stages : List Noted) (i promise given : ℕ) → is_given stages i promise given ≡ true → given < length stages
given_there stages i promise given e =
    let parts = and_parts (option_map_or (λ p. eqb p promise) (promise_of stages i) false && nat_lt given (length stages)) (not (eqb given promise)) e in
    ltb-true given (length stages) ((and_parts (option_map_or (λ p. eqb p promise) (promise_of stages i) false) (nat_lt given (length stages)) parts.0).1)

keeps_given : (stages : List Noted) (i : ℕ) (answer : Answer) (note : Note) → All (NamesStages (length stages)) stages → Keeps stages (given_to stages i answer note)
keeps_given stages i (Link promise) (Gives given) all =
    cond_both (is_given stages i promise given) (changed_at stages promise (λ n. record n { given = Some given })) stages (Keeps stages)
    (λ e. (let there : given < length stages = given_there stages i promise given e in
    keeps_changed stages promise (λ n. record n { given = Some given }) (λ n h. record { tries = h.tries; promise = h.promise; given = there }) all))
    (λ e. keeps_itself stages all)
keeps_given stages i answer note all = keeps_itself stages all

pub keeps_finished : (stages : List Noted) (reply : Reply) (i : ℕ) (answer : Answer) (note : Note) → All (NamesStages (length stages)) stages →
    Keeps stages (finished_by stages reply i answer note)
keeps_finished stages (ToldFinish Won) i answer note all = keeps_given stages i answer note all
keeps_finished stages reply i answer note all = keeps_itself stages all

pub keeps_failed : (stages : List Noted) (reply : Reply) (i code : ℕ) (note : Note) → All (NamesStages (length stages)) stages →
    Keeps stages (failed_by stages reply i code note)
keeps_failed stages (ToldFlag true) i code Abandons all =
    keeps_changed stages i (λ n. record n { abandoned = Some code }) (λ n h. record { tries = h.tries; promise = h.promise; given = h.given }) all
keeps_failed stages reply i code note all = keeps_itself stages all

pub keeps_timed : (stages : List Noted) (place : ℕ) (note : Note) → All (NamesStages (length stages)) stages → Keeps stages (timed_by stages place note)
keeps_timed stages place (Times i moment gives) all =
    keeps_changed stages i (λ n. record n { timer = Some (record { moment = moment; gives = gives; place = place }) })
    (λ n h. record { tries = h.tries; promise = h.promise; given = h.given }) all
keeps_timed stages place note all = keeps_itself stages all

-- ---- a plan

-- the stage at a place of a plan is noted behind those before it
noted_plan_more : (stages : List Noted) (plan : List PlannedStage) (notes : List Note) (i : ℕ) (d : Note) → i < length plan → i < length notes →
    noted_plan stages (drop i plan) (drop i notes)
    ≡ noted_plan (stages ++ noted_as stages (form_at plan i) (function_at plan i) (get_or notes i d) ∷ []) (drop (suc i) plan) (drop (suc i) notes)
noted_plan_more stages [] notes i d p n = absurd (omega arith)
noted_plan_more stages (s ∷ plan) [] i d p n = absurd (omega arith)
noted_plan_more stages (s ∷ plan) (note ∷ notes) zero d p n = refl
noted_plan_more stages (s ∷ plan) (note ∷ notes) (suc i) d p n = noted_plan_more stages plan notes i d (omega arith) (omega arith)

pub noted_plan_next : (stages : List Noted) (plan : List PlannedStage) (notes : List Note) (i : ℕ) (d : Note) → i < length plan → i < length notes →
    noted_plan stages (drop i plan) (drop i notes)
    ≡ noted_plan (stages ++ noted_as stages (form_at plan i) (function_at plan i) (get_or notes i d) ∷ []) (drop (i + 1) plan) (drop (i + 1) notes)
noted_plan_next stages plan notes i d p n =
    subst
    (λ k. noted_plan stages (drop i plan) (drop i notes)
    ≡ noted_plan (stages ++ noted_as stages (form_at plan i) (function_at plan i) (get_or notes i d) ∷ []) (drop k plan) (drop k notes))
    (sym (add-one i)) (noted_plan_more stages plan notes i d p n)

noted_plan_names : (stages : List Noted) (plan : List PlannedStage) (notes : List Note) → length notes ≡ length plan → All (NamesStages (length stages)) stages →
    AreNotes (length stages + length plan) (noted_plan stages plan notes)
noted_plan_names stages [] notes same all = record { each_stage = omega arith; names = subst (λ k. All (NamesStages k) stages) (omega arith) all }
noted_plan_names stages (s ∷ plan) [] same all = absurd (omega arith)
noted_plan_names stages (s ∷ plan) (note ∷ notes) same all =
    let new = noted_as stages s.form s.function note in
    let more = names_push stages new all (names_noted_as stages s.form s.function note) in
    subst (λ k. AreNotes k (noted_plan (stages ++ new ∷ []) plan notes)) (let count = length_push stages new in omega arith)
    (noted_plan_names (stages ++ new ∷ []) plan notes (omega arith) more)

-- ---- a row

-- an entry adds as many entries as its event adds stages
record Adds (more : ℕ) (old new : List Noted) : Type 0 where
  count : length new ≡ length old + more
  names : All (NamesStages (length new)) new

adds_none : (old new : List Noted) → Keeps old new → Adds 0 old new
adds_none old new keeps = record { count = (let count = keeps.count in omega arith); names = keeps.names }

adds_attached : (stages : List Noted) (reply : Reply) (new : Noted) → All (NamesStages (length stages)) stages → NamesStages (length stages) new →
    Adds (attached_count reply) stages (attached_by stages reply new)
adds_attached stages (ToldAttach (At i)) new all one = record { count = length_push stages new; names = names_push stages new all one }
adds_attached stages reply new all one = adds_none stages stages (keeps_itself stages all)

adds_noted : (stages : List Noted) (place : ℕ) (e : Event) (reply : Reply) (note : Note) → All (NamesStages (length stages)) stages →
    Adds (added_by e reply) stages (noted_by stages place e reply note)
adds_noted stages place (Attaches who form of function) reply note all =
    adds_attached stages reply (noted_as stages form function note) all (names_noted_as stages form function note)
adds_noted stages place (Finishes who i answer) reply note all =
    adds_none stages (finished_by stages reply i answer note) (keeps_finished stages reply i answer note all)
adds_noted stages place (Fails who i code) reply note all = adds_none stages (failed_by stages reply i code note) (keeps_failed stages reply i code note all)
adds_noted stages place (Ticks who now) reply note all = adds_none stages (timed_by stages place note) (keeps_timed stages place note all)
adds_noted stages place (Completes who i v) reply note all = adds_none stages stages (keeps_itself stages all)
adds_noted stages place (FailsAs who i failure) reply note all = adds_none stages stages (keeps_itself stages all)
adds_noted stages place (Cancels who i) reply note all = adds_none stages stages (keeps_itself stages all)
adds_noted stages place (Claims who i) reply note all = adds_none stages stages (keeps_itself stages all)

-- so many stages a graph has behind an event
count_attached : (room : ℕ) (s : State) (new : PlannedStage) →
    length ((attached_by_room room s new).1.plan.stages) ≡ length s.plan.stages + attached_count (ToldAttach (attached_by_room room s new).0)
count_attached zero s new = omega arith
count_attached (suc room) s new = length_push s.plan.stages new

count_kept : (s : State) (e : Event) → is_attach e ≡ false → added_by e ((answered s e).0) ≡ 0 →
    length ((answered s e).1.plan.stages) ≡ length s.plan.stages + added_by e ((answered s e).0)
count_kept s e other none = let plan = ap (λ (p : Planned). length p.stages) ((answered-frame s e other).plan) in omega arith

pub count_answered : (s : State) (e : Event) → length ((answered s e).1.plan.stages) ≡ length s.plan.stages + added_by e ((answered s e).0)
count_answered s (Attaches who form of function) = count_attached s.plan.room s (attached_stage form of function)
count_answered s (Completes who i v) = count_kept s (Completes who i v) refl refl
count_answered s (Fails who i code) = count_kept s (Fails who i code) refl refl
count_answered s (FailsAs who i failure) = count_kept s (FailsAs who i failure) refl refl
count_answered s (Cancels who i) = count_kept s (Cancels who i) refl refl
count_answered s (Claims who i) = count_kept s (Claims who i) refl refl
count_answered s (Finishes who i answer) = count_kept s (Finishes who i answer) refl refl
count_answered s (Ticks who now) = count_kept s (Ticks who now) refl refl

noted_along_names : (stages : List Noted) (s : State) (count : ℕ) (events : List Event) (notes : List Note) → length notes ≡ length events →
    AreNotes (length s.plan.stages) stages → AreNotes (length (state_after s events).plan.stages) (noted_along stages s count events notes)
noted_along_names stages s count [] [] same are = are
noted_along_names stages s count [] (note ∷ notes) same are = absurd (omega arith)
noted_along_names stages s count (e ∷ events) [] same are = absurd (omega arith)
noted_along_names stages s count (e ∷ events) (note ∷ notes) same are =
    let reply = answered s e in
    let new = noted_by stages (count + 1) e reply.0 note in
    let adds = adds_noted stages (count + 1) e reply.0 note (subst (λ k. All (NamesStages k) stages) (sym are.each_stage) are.names) in
    let there : length new ≡ length reply.1.plan.stages = adds.count ∙ ap (λ k. k + added_by e reply.0) are.each_stage ∙ sym (count_answered s e) in
    noted_along_names new reply.1 (count + 1) events notes (omega arith)
    (record { each_stage = there; names = subst (λ k. All (NamesStages k) new) there adds.names })

pub notes_name : NotesNameStages
notes_name plan first events notes each same =
    noted_along_names (noted_plan [] plan.stages first) (start plan) 0 events notes same
    (subst (λ k. AreNotes k (noted_plan [] plan.stages first)) (omega arith)
    (noted_plan_names [] plan.stages first each (All-nil (NamesStages 0))))

-- ---- a table

-- a table whose entries are written over stays one
pub table_over : {Z : Type 0} (stages : Vec Noted Z) (room : ℕ) (new : List Noted) → IsTable stages room → length stages.items ≡ stages.len →
    Keeps stages.items new → IsTable (with_items stages new) room
table_over stages room new h len keeps =
    let items : (with_items stages new).items ≡ new = with_items_is stages new (keeps.count ∙ len) in
    record {
      names = subst (λ xs. All (NamesStages (length xs)) xs) (sym items) keeps.names;
      places = subst (λ xs. length xs + room ≤ vec_capacity stages) (sym items) (let count = keeps.count in let places = h.places in omega arith);
      few = subst (λ xs. length xs + room ≤ 4096) (sym items) (let count = keeps.count in let few = h.few in omega arith);
    }

-- so does one with one more entry
pub table_push : {Z : Type 0} (old new : Vec Noted Z) (room : ℕ) (one : Noted) → IsTable old room → NamesStages (length old.items) one →
    new.items ≡ old.items ++ one ∷ [] → vec_capacity old ≤ vec_capacity new → 1 ≤ room → IsTable new (room - 1)
table_push old new room one h names items capacity left =
    let count = length_push old.items one in
    let places = h.places in
    let few = h.few in
    record {
      names = subst (λ xs. All (NamesStages (length xs)) xs) (sym items) (names_push old.items one h.names names);
      places = subst (λ xs. length xs + (room - 1) ≤ vec_capacity new) (sym items) (omega arith);
      few = subst (λ xs. length xs + (room - 1) ≤ 4096) (sym items) (omega arith);
    }
