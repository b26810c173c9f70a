-- Entries that are seen with their notes.
use Rattle.std.proofs.Common.{◌≡◌, ℕ, ◌+◌, ◌-◌, ◌<◌, ◌≤◌, Bool, true, false, cond, eqb, List, [], ◌∷◌, ◌++◌, All, get_or, length, length-append, map, take, refl, ap, sym, ◌∙◌, subst, append-nil, append_assoc, arith}
use Rattle.std.specs.Prelude.{Some}
use Rattle.std.proofs.lemmas.List.{length-take, length_push, map-append, take_more}
use Rattle.std.proofs.lemmas.List.Elements.{All-append, All-cons, All-nil}
use Rattle.cf_forms.specs.Plans.{Planned}
use Rattle.cf_model.specs.declared.events.Event.{Event}
use Rattle.cf_model.specs.declared.events.Reply.{Reply}
use Rattle.cf_model.specs.States.{State, start}
use Rattle.cf_model.specs.Events.{answered, state_after}
use Rattle.cf_model.proofs.Histories.{state_after-append}
use Rattle.cf_event.specs.Words.{word_of}
use Rattle.cf_event.specs.Decoding.{event_of}
use Rattle.cf_event.specs.declared.record.Record.{Record}
use Rattle.cf_event.specs.declared.record.Record.TheVariants.{Did}
use Rattle.cf_ledger.specs.Ledgers.{AreTaken}
use Rattle.cf_row.specs.declared.entry.Entry.{Entry}
use Rattle.cf_row.specs.Rows.{Replays, Replica, Takes, history_of, is_call, session_of, stages_of, state_of, words_in}
use Rattle.cf_row.specs.Puts.{Row}
use Rattle.cf_row.proofs.Own.{history_append, history_count, history_push}
use Rattle.cf_notes.specs.declared.note.Note.{Note}
use Rattle.cf_notes.specs.declared.noted.Noted.{Noted}
use Rattle.cf_notes.specs.Noting.{added_by, noted_along, noted_by}
use Rattle.cf_notes.specs.Tables.{Table}
use Rattle.cf_notes.proofs.NamedStages.{count_answered}
use Rattle.cf_part.specs.Parts.{AreOfStages, places_of}
use Rattle.cf_part.specs.Answers.{Sees, SeesOne, TakesNotes}
use Rattle.cf_part.proofs.Places.{stages_have_places}

-- the words of these entries are those of events
abbrev pub AreNamed : List Entry → Type 0
AreNamed row = words_in row ≡ map word_of (history_of row)

-- ---- one entry

same_event : (w : ℕ) (d e : Event) → event_of w ≡ Some d → event_of w ≡ Some e → d ≡ e
same_event w d e first second = cc

-- the graph behind it
state_taken : (r t : Replica) (x : Entry) (e : Event) (reply : Reply) → AreNamed r.seen → event_of x.word ≡ Some e → Takes r x reply t → state_of t ≡ (answered (state_of r) e).1
state_taken r t x e reply named read h =
    ap (λ (p : Planned). state_after (start p) (history_of t.seen)) h.plan ∙ ap (λ (l : List Entry). state_after (start r.plan) (history_of l)) h.seen
    ∙ ap (state_after (start r.plan)) (history_push r.seen x e named read) ∙ state_after-append (start r.plan) (history_of r.seen) (e ∷ [])

told_by : (r t : Replica) (x : Entry) (e : Event) (reply : Reply) → event_of x.word ≡ Some e → Takes r x reply t → reply ≡ (answered (state_of r) e).0
told_by r t x e reply read h = h.told ∙ ap (λ (d : Event). (answered (state_of r) d).0) (same_event x.word h.event e h.read read)

more_stages : (r t : Replica) (x : Entry) (e : Event) (reply : Reply) → AreNamed r.seen → event_of x.word ≡ Some e → Takes r x reply t → stages_of t ≡ stages_of r + added_by e reply
more_stages r t x e reply named read h =
    ap (λ (s : State). length s.plan.stages) (state_taken r t x e reply named read h) ∙ count_answered (state_of r) e
    ∙ ap (λ (p : Reply). stages_of r + added_by e p) (sym (told_by r t x e reply read h))

-- there is a place for a stage that comes
pub room_left : (r t : Replica) (x : Entry) (e : Event) (reply : Reply) (notes : Table) → AreNamed r.seen → event_of x.word ≡ Some e → Takes r x reply t → AreTaken (start t.plan) (history_of t.seen) → AreOfStages r notes →
    added_by e reply ≤ notes.room
room_left r t x e reply notes named read h taken are =
    let more = more_stages r t x e reply named read h in
    let all = stages_have_places t (places_of t.plan) taken refl in
    let same = ap places_of h.plan in
    let each = are.each_stage in
    let places = are.places in
    omega (arith, more, all, same, each, places)

pub stages_then : (r t : Replica) (x : Entry) (e : Event) (reply : Reply) (old new : Table) → AreNamed r.seen → event_of x.word ≡ Some e → Takes r x reply t → AreOfStages r old → added_by e reply ≤ old.room →
    length new.stages ≡ length old.stages + added_by e reply → new.room ≡ old.room - added_by e reply → AreOfStages t new
stages_then r t x e reply old new named read h are left count room =
    let more = more_stages r t x e reply named read h in
    let same = ap places_of h.plan in
    let each = are.each_stage in
    let places = are.places in
    record { each_stage = omega (arith, more, each, count); places = omega (arith, same, places, count, room, left) }

pub sees_one : (old new : Row) (table noted : Table) (x : Entry) (note : Note) (e : Event) (reply : Reply) (place : ℕ) → event_of x.word ≡ Some e → word_of e ≡ x.word → Takes old.replica x reply new.replica →
    new.put ≡ [] → new.next ≡ old.next → place ≡ length new.replica.seen → added_by e reply ≤ table.room → noted.stages ≡ noted_by table.stages place e reply note →
    length noted.stages ≡ length table.stages + added_by e reply → noted.room ≡ table.room - added_by e reply → SeesOne old table x note new noted
sees_one old new table noted x note e reply place read named h put next at left stages count room =
    let told : reply ≡ (answered (state_of old.replica) e).0 = told_by old.replica new.replica x e reply read h in
    record {
      event = e;
      read = read;
      named = named;
      takes = subst (λ (p : Reply). Takes old.replica x p new.replica) told h;
      stages = stages ∙ ap (λ (k : ℕ). noted_by table.stages k e reply note) at ∙ ap (λ (p : Reply). noted_by table.stages (length new.replica.seen) e p note) told;
      places = omega (arith, count, room, left);
      freed = record { put = put; next = next };
    }

-- ---- one entry more

call_one : (b : Bool) (r : Record) → is_call r ≡ true → All (λ (d : Record). is_call d ≡ true) (cond b (r ∷ []) [])
call_one true r is = All-cons (λ (d : Record). is_call d ≡ true) r [] is (All-nil (λ (d : Record). is_call d ≡ true))
call_one false r is = All-nil (λ (d : Record). is_call d ≡ true)

replays_push : (a b c : Replica) (front : List Entry) (x : Entry) (reply : Reply) → Replays a front b → Takes b x reply c → Replays a (front ++ x ∷ []) c
replays_push a b c front x reply h o =
    let one = cond (eqb (session_of x.token) b.session) (Did (length b.seen + 1) o.event reply ∷ []) [] in
    let count = length_push front x in
    let before = h.free in
    let less = o.free in
    record {
      plan = o.plan ∙ h.plan;
      session = o.session ∙ h.session;
      seen = o.seen ∙ ap (λ (l : List Entry). l ++ x ∷ []) h.seen ∙ append_assoc a.seen front (x ∷ []);
      more = h.more ++ one;
      records = o.records ∙ ap (λ (l : List Record). l ++ one) h.records ∙ append_assoc a.records h.more one;
      calls = All-append (λ (d : Record). is_call d ≡ true) h.more one h.calls (call_one (eqb (session_of x.token) b.session) (Did (length b.seen + 1) o.event reply) refl);
      free = omega (arith, count, before, less);
    }

noted_push : (stages : List Noted) (s : State) (count : ℕ) (es : List Event) (ns : List Note) (e : Event) (n : Note) (place : ℕ) → length ns ≡ length es → place ≡ count + length es + 1 →
    noted_along stages s count (es ++ e ∷ []) (ns ++ n ∷ []) ≡ noted_by (noted_along stages s count es ns) place e ((answered (state_after s es) e).0) n
noted_push stages s count [] [] e n place same at =
    let is : count + 1 ≡ place = omega arith in
    ap (λ (k : ℕ). noted_by stages k e ((answered s e).0) n) is
noted_push stages s count [] (m ∷ ns) e n place same at = absurd (omega arith)
noted_push stages s count (d ∷ es) [] e n place same at = absurd (omega arith)
noted_push stages s count (d ∷ es) (m ∷ ns) e n place same at =
    noted_push (noted_by stages (count + 1) d ((answered s d).0) m) ((answered s d).1) (count + 1) es ns e n place (omega arith) (omega arith)

state_seen : (old new : Replica) (entries : List Entry) → AreNamed old.seen → Replays old entries new → state_of new ≡ state_after (state_of old) (history_of entries)
state_seen old new entries named h =
    ap (λ (p : Planned). state_after (start p) (history_of new.seen)) h.plan ∙ ap (λ (l : List Entry). state_after (start old.plan) (history_of l)) h.seen
    ∙ ap (state_after (start old.plan)) (history_append old.seen entries named) ∙ state_after-append (start old.plan) (history_of old.seen) (history_of entries)

pub named_push : (front : List Entry) (x : Entry) (e : Event) → AreNamed front → event_of x.word ≡ Some e → word_of e ≡ x.word → AreNamed (front ++ x ∷ [])
named_push front x e named read word =
    map-append (λ (y : Entry). y.word) front (x ∷ []) ∙ ap (λ (l : List ℕ). l ++ x.word ∷ []) named ∙ ap (λ (w : ℕ). map word_of (history_of front) ++ w ∷ []) (sym word)
    ∙ sym (map-append word_of (history_of front) (e ∷ [])) ∙ ap (map word_of) (sym (history_push front x e named read))

notes_push : (a b c : Replica) (front : List Entry) (x : Entry) (e : Event) (said : List Note) (note : Note) (s t u : Table) → AreNamed a.seen → AreNamed front → length said ≡ length front → event_of x.word ≡ Some e →
    Replays a front b → Takes b x ((answered (state_of b) e).0) c → TakesNotes a front said s t → u.stages ≡ noted_by t.stages (length c.seen) e ((answered (state_of b) e).0) note →
    length u.stages + u.room ≡ length t.stages + t.room → TakesNotes a (front ++ x ∷ []) (said ++ note ∷ []) s u
notes_push a b c front x e said note s t u before named same read h o n stages places =
    let es = history_of front in
    let count : length es ≡ length front = history_count front named in
    let size : length c.seen ≡ length a.seen + length es + 1 =
    (let one = ap length o.seen ∙ length_push b.seen x in let all = ap length h.seen ∙ length-append a.seen front in omega (arith, one, all, count)) in
    let state : state_of b ≡ state_after (state_of a) es = state_seen a b front before h in
    record {
      stages = stages ∙ ap (λ (l : List Noted). noted_by l (length c.seen) e ((answered (state_of b) e).0) note) n.stages
          ∙ ap (λ (g : State). noted_by (noted_along s.stages (state_of a) (length a.seen) es said) (length c.seen) e ((answered g e).0) note) state
          ∙ sym (noted_push s.stages (state_of a) (length a.seen) es said e note (length c.seen) (same ∙ sym count) size)
          ∙ ap (λ (l : List Event). noted_along s.stages (state_of a) (length a.seen) l (said ++ note ∷ [])) (sym (history_push front x e named read));
      places = places ∙ n.places;
    }

pub sees_push : (a b c : Row) (s t u : Table) (front : List Entry) (said : List Note) (x : Entry) (note : Note) → AreNamed a.replica.seen → AreNamed front → length said ≡ length front → Sees a s front said b t →
    SeesOne b t x note c u → Sees a s (front ++ x ∷ []) (said ++ note ∷ []) c u
sees_push a b c s t u front said x note before named same h o = record {
  replays = replays_push a.replica b.replica c.replica front x _ h.replays o.takes;
  notes = notes_push a.replica b.replica c.replica front x o.event said note s t u before named same o.read h.replays o.takes h.notes o.stages o.places;
  freed = record { put = o.freed.put; next = o.freed.next ∙ h.freed.next };
}

pub sees_none : (row : Row) (table : Table) → row.put ≡ [] → Sees row table [] [] row table
sees_none row table none = record {
  replays = record {
    plan = refl;
    session = refl;
    seen = sym (append-nil row.replica.seen);
    more = [];
    records = sym (append-nil row.replica.records);
    calls = All-nil (λ (d : Record). is_call d ≡ true);
    free = omega arith;
  };
  notes = record { stages = refl; places = refl };
  freed = record { put = none; next = refl };
}

-- the entries up to a place, and the one there

pub named_next : (entries : List Entry) (k : ℕ) (d : Entry) (b c : Row) (t u : Table) (note : Note) → k < length entries → AreNamed (take k entries) → SeesOne b t (get_or entries k d) note c u → AreNamed (take (k + 1) entries)
named_next entries k d b c t u note there named o =
    subst AreNamed (sym (take_more entries k d there)) (named_push (take k entries) (get_or entries k d) o.event named o.read o.named)

pub sees_next : (a b c : Row) (s t u : Table) (entries : List Entry) (said : List Note) (k : ℕ) (d : Entry) (n : Note) → k < length entries → length said ≡ length entries → AreNamed a.replica.seen → AreNamed (take k entries) →
    Sees a s (take k entries) (take k said) b t → SeesOne b t (get_or entries k d) (get_or said k n) c u → Sees a s (take (k + 1) entries) (take (k + 1) said) c u
sees_next a b c s t u entries said k d n there same before named h o =
    let count : length (take k said) ≡ length (take k entries) = omega (arith, length-take k said, length-take k entries, same) in
    subst (λ (l : List Entry). Sees a s l (take (k + 1) said) c u) (sym (take_more entries k d there))
    (subst (λ (l : List Note). Sees a s (take k entries ++ get_or entries k d ∷ []) l c u) (sym (take_more said k n (omega (arith, there, same))))
    (sees_push a b c s t u (take k entries) (take k said) (get_or entries k d) (get_or said k n) before named count h o))

-- memory is left for the entries behind
pub memory_next : (entries : List Entry) (k : ℕ) (b c : Row) (t u : Table) (x : Entry) (note : Note) → length entries ≤ b.replica.free + k → SeesOne b t x note c u → length entries ≤ c.replica.free + (k + 1)
memory_next entries k b c t u x note memory o = (let free = o.takes.free in omega (arith, memory, free))
