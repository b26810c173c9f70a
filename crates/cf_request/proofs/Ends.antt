-- Scopes, and how they end.
use Rattle.std.proofs.Common.{◌≡◌, ℕ, ◌+◌, ◌<◌, ◌≤◌, Bool, true, false, Option, Some, None, List, [], ◌∷◌, ◌++◌, All, Contains, length, map, refl, ap, sym, ◌∙◌, arith, subst}
use Rattle.std.specs.Prelude.{is_some, slice_get}
use Rattle.std.proofs.Math.Nat.{le-max_left}
use Rattle.std.proofs.lemmas.List.Elements.{All-cons, All-contains, All-head, All-nil, All-push, All-tail, All-weaker, Contains-append_right}
use Rattle.cf_outcome.specs.declared.outcome.Outcome.{Outcome}
use Rattle.cf_forms.specs.declared.forms.Form.{Form}
use Rattle.cf_forms.specs.declared.forms.Of.{Of}
use Rattle.cf_model.specs.declared.events.Event.{Event}
use Rattle.cf_model.specs.declared.events.Event.TheVariants.{Complete as Completes, Fail as Fails, FailAs as FailsAs, Cancel as Cancels, Claim as Claims, Finish as Finishes, Tick as Ticks, Attach as Attaches}
use Rattle.cf_model.specs.declared.events.Reply.{Reply}
use Rattle.cf_model.specs.declared.events.Reply.TheVariants.{Attach as ToldAttach}
use Rattle.cf_model.specs.declared.replies.Attached.TheVariants.{At}
use Rattle.cf_model.specs.declared.stage.Stage.{Stage}
use Rattle.cf_model.specs.declared.stage.Stage.TheVariants.{Pending, Ready, Claimed, Linked, Settled}
use Rattle.cf_model.specs.Calls.{is_attach}
use Rattle.cf_model.specs.Claims.{is_claimable}
use Rattle.cf_model.specs.Events.{answered, cancelled_by}
use Rattle.cf_model.specs.States.{State, outcome_at, outcome_in, outcome_of, stage_at}
use Rattle.cf_model.proofs.Closed.{reached_length}
use Rattle.cf_event.specs.Decoding.{event_of}
use Rattle.cf_event.specs.Words.{word_of}
use Rattle.cf_ledger.specs.Ledgers.{HasRoomFor, IsShort, LedgerRefuses, stages_of, state_of}
use Rattle.cf_ledger.specs.declared.faults.LedgerFault.{LedgerFault}
use Rattle.cf_request.specs.Attaching.{TellsAttach}
use Rattle.cf_request.specs.Joins.{IsJoin, IsOfOne, sources_of}
use Rattle.cf_request.specs.Machines.{AppliesWord, IsMachine, Machine, OnlyFinds, SetsJoin, SetsOne, free_in, most_words, stages_in, state_in, waiting_in}
use Rattle.cf_request.specs.Relays.{AreRelays, AreThere, IsNotBehind, IsRelayDue, MarksAll, NoneBehind, waiting_of}
use Rattle.cf_request.specs.Rows.{AreCalls, IsCall, Job, all_jobs, nothing, stage_of}
use Rattle.cf_request.specs.Rows.IsCall.{applies, sets_join}
use Rattle.cf_request.specs.Scopes.{AttachesFound, AttachesIn, FindsPlace, HasEnded, IsOf, IsWithin, MayAttach, NoneOpenWithin, NoneOutlives, PutsIn, RunsNoneWithin}
use Rattle.cf_request.specs.Scopes.IsWithin.{outer, inner}
use Rattle.cf_request.specs.Telling.{Teller, TellsWord, is_settled_in}
use Rattle.cf_request.specs.declared.deadlines.Deadline.{Deadline}
use Rattle.cf_request.specs.declared.joins.Join.{Join}
use Rattle.cf_request.specs.declared.relays.Relays.{Relays}
use Rattle.cf_request.proofs.Attached.{AreAttaches, AttachesRow, applies_attach, call_found, found_none, none_refused, none_row, row_of, tells_attach, waiting_less}
use Rattle.cf_request.proofs.Decided.{decided_one, none_is, undecided_one}
use Rattle.cf_request.proofs.Machines.{follow_there, kept_join, relays_push}
use Rattle.cf_request.proofs.Memory.{few_relays}
use Rattle.cf_request.proofs.Rows.{claimable_before}
use Rattle.cf_request.proofs.Telling.{next_is, outcome_stage}
use Rattle.cf_request.proofs.Turns.{cancels_by, dues_none, keeps_dues}

-- ---- none outlives its scope

pub some_of : (o : Option Outcome) → is_some o ≡ true → (x : Outcome) × (o ≡ Some x)
some_of None h = cc
some_of (Some x) h = (x, refl)

of_ended : (s : State) (follows : List Join) (scope stage : ℕ) → AreThere s follows → NoneBehind follows s.stages → HasEnded s scope → IsOf follows scope stage → is_settled_in s.stages stage ≡ true
of_ended s follows scope stage there none ended h =
    let j = h.join in
    let n = length s.plan.stages in
    let join : IsJoin n j = All-contains (IsJoin n) follows j there h.among in
    let behind : IsNotBehind s.stages j = All-contains (IsNotBehind s.stages) follows j none h.among in
    let is = some_of (outcome_in s.stages scope) ended in
    subst (λ (i : ℕ). is_settled_in s.stages i ≡ true) h.is.same
    (behind (decided_one (outcome_in s.stages) n j is.0 join h.is.none (ap (outcome_in s.stages) h.is.source ∙ is.1)))

none_open_within : (s : State) (follows : List Join) (scope stage : ℕ) → AreThere s follows → NoneBehind follows s.stages → HasEnded s scope → IsWithin follows scope stage → is_settled_in s.stages stage ≡ true
none_open_within s follows scope stage there none ended (outer k h) = of_ended s follows scope k there none ended h
none_open_within s follows scope stage there none ended (inner between k w h) =
    of_ended s follows between k there none (none_open_within s follows scope between there none ended w) h

pub none_outlives : (s : State) (follows : List Join) → AreThere s follows → NoneBehind follows s.stages → NoneOutlives follows s
none_outlives s follows there none = λ scope ended stage within. none_open_within s follows scope stage there none ended within

-- ---- nothing within is run

unclaimable : (x : Stage) → is_some (outcome_of x) ≡ true → is_claimable x ≡ false
unclaimable Pending h = cc
unclaimable (Ready args) h = cc
unclaimable Claimed h = cc
unclaimable (Linked k) h = cc
unclaimable (Settled o) h = refl

settled_unclaimable : (s : State) (i : ℕ) → is_settled_in s.stages i ≡ true → is_claimable (stage_at s i) ≡ false
settled_unclaimable s i h = unclaimable (stage_at s i) (ap is_some (sym (outcome_stage (slice_get s.stages i))) ∙ h)

of_jobs : (P : ℕ → Type 0) (jobs : List Job) → All P (map stage_of jobs) → All (λ (j : Job). P (stage_of j)) jobs
of_jobs P [] h = All-nil (λ (j : Job). P (stage_of j))
of_jobs P (j ∷ jobs) h = All-cons (λ (x : Job). P (stage_of x)) j jobs (All-head P (stage_of j) (map stage_of jobs) h) (of_jobs P jobs (All-tail P (stage_of j) (map stage_of jobs) h))

not_within : (s : State) (follows : List Join) (scope i : ℕ) → NoneOpenWithin follows scope s → is_claimable (stage_at s i) ≡ true → ¬ IsWithin follows scope i
not_within s follows scope i none is within = let isnt = settled_unclaimable s i (none i within) in cc

pub runs_none_within : RunsNoneWithin
runs_none_within old new outs scope none calls =
    let s = state_in old in
    All-weaker (λ (j : Job). is_claimable (stage_at s (stage_of j)) ≡ true) (λ (j : Job). ¬ IsWithin old.follows scope (stage_of j)) (λ j is. not_within s old.follows scope (stage_of j) none is) (all_jobs outs)
    (of_jobs (λ i. is_claimable (stage_at s i) ≡ true) (all_jobs outs) (claimable_before old new outs calls))

-- ---- a scope ends

cancelled_settled : (x : Option Outcome) (s : State) (i : ℕ) → outcome_at s i ≡ x → i < length s.stages → is_settled_in ((cancelled_by x s i).1.stages) i ≡ true
cancelled_settled None s i is l = ap is_some (cancels_by None s i refl is l)
cancelled_settled (Some p) s i is l = ap is_some is

pub ends_now : (who scope : ℕ) (old new : Machine) (reply : Reply) → event_of (word_of (Cancels who scope)) ≡ Some (Cancels who scope) → scope < stages_in old → AppliesWord (word_of (Cancels who scope)) 0 old reply new →
    HasEnded (state_in new) scope
ends_now who scope old new reply read there h =
    let e = Cancels who scope in
    let does = h.tells.tells.does in
    let s = state_of h.found.ledger in
    let same : does.event ≡ e = (let was = does.read in cc) in
    let count = ap (λ (t : Teller). stages_of t.ledger) h.finds.is in
    let all = reached_length h.found.ledger.plan h.found.ledger.events in
    let ended : is_settled_in (state_of h.between.ledger).stages scope ≡ true =
    ap (λ (t : State). is_settled_in t.stages scope) (next_is h.found.ledger h.between.ledger (word_of e) reply does ∙ ap (λ (d : Event). (answered s d).1) same)
    ∙ cancelled_settled (outcome_at s scope) s scope refl (omega (arith, there, count, all)) in
    (keeps_dues (IsRelayDue old.follows) old.own h.between new.teller h.catches_up.settles).settled scope ended

-- ---- a stage is put in

-- it is of the scope then
pub of_sets : (scope stage : ℕ) (old new : Machine) → SetsOne stage scope true old new → IsOf new.follows scope stage
of_sets scope stage old new h = record {
  join = h.join;
  among = subst (λ (l : List Join). Contains l h.join) (sym h.sets.set) (Contains-append_right old.follows (h.join ∷ []) h.join (0, omega arith, refl));
  is = h.is;
}

-- this join of one may be set
pub tie_is : (n scope stage : ℕ) (j : Join) → IsOfOne stage scope true j → stage < n → scope < n → IsJoin n j
tie_is n scope stage j is first second =
    let there = follow_there stage scope n true j is first second in
    let one = is.one in
    record { some = omega (arith, one); enough = omega (arith, one); stage = there.0; sources = there.1 }

-- and is undecided while the scope is open
pub not_behind : (stages : List Stage) (n scope stage : ℕ) (j : Join) → IsOfOne stage scope true j → IsJoin n j → is_settled_in stages scope ≡ false → IsNotBehind stages j
not_behind stages n scope stage j is join still = λ decided. absurd (decided
    (undecided_one (outcome_in stages) n j join is.none (ap (outcome_in stages) is.source ∙ none_is (outcome_in stages scope) still)))

-- what is kept then
pub tied : (t : Teller) (w : Relays) (now : List Join) (flags : List Bool) (deadlines : List Deadline) (own : ℕ) (j : Join) → now ≡ w.follows.items ++ j ∷ [] → MarksAll (sources_of j) w.followed flags → IsJoin (stages_of t.ledger) j →
    IsNotBehind (state_of t.ledger).stages j → IsMachine t w.follows.items deadlines own × NoneBehind w.follows.items (state_of t.ledger).stages × AreRelays (state_of t.ledger).stages w.follows.items w.followed w.waiting →
    IsMachine t now deadlines own × NoneBehind now (state_of t.ledger).stages × AreRelays (state_of t.ledger).stages now flags (w.waiting + 1)
tied t w now flags deadlines own j is marks join behind h =
    let stages = (state_of t.ledger).stages in
    let follows = w.follows.items in
    subst (λ (l : List Join). IsMachine t l deadlines own × NoneBehind l stages × AreRelays stages l flags (w.waiting + 1)) (sym is) (
      kept_join t follows deadlines own j h.0 join,
      All-push (IsNotBehind stages) follows j h.1 behind,
      relays_push stages follows w.followed flags w.waiting j h.2 marks,
    )

-- it is set as by a call
pub sets_tie : (m : Machine) (follows : List Join) (places : ℕ) (j : Join) → IsJoin (stages_in m) j → follows ≡ m.follows ++ j ∷ [] → length follows ≤ places → m.relay_places ≤ places → 1 + waiting_in m ≤ free_in m → NoneBehind follows (state_in m).stages →
    SetsJoin j m (record m { follows = follows; relay_places = places })
sets_tie m follows places j join is fits more enough none =
    let few = few_relays (state_in m).stages m.follows in
    record {
      there = join;
      set = is;
      fits = fits;
      places = more;
      found = m.teller;
      finds = record { words = 1 + waiting_in m; enough = omega arith; few = omega (arith, few); is = found_none m.teller (1 + waiting_in m) enough };
      catches_up = record { settles = dues_none (IsRelayDue follows) m.own m.teller; none = none };
      same = refl;
    }

pub puts_tie : (m : Machine) (follows : List Join) (places scope stage : ℕ) (j : Join) → IsOfOne stage scope true j → stage < stages_in m → scope < stages_in m → is_settled_in (state_in m).stages scope ≡ false → follows ≡ m.follows ++ j ∷ [] →
    length follows ≤ places → m.relay_places ≤ places → 1 + waiting_in m ≤ free_in m → NoneBehind m.follows (state_in m).stages → PutsIn scope stage m (record m { follows = follows; relay_places = places })
puts_tie m follows places scope stage j is there around still set fits more enough none =
    let stages = (state_in m).stages in
    let n = stages_in m in
    let join = tie_is n scope stage j is there around in
    let behind = All-push (IsNotBehind stages) m.follows j none (not_behind stages n scope stage j is join still) in
    record {
      open_then = still;
      sets = record { join = j; is = is; sets = sets_tie m follows places j join set fits more enough (subst (λ (l : List Join). NoneBehind l stages) (sym set) behind) };
    }

-- ---- a stage is attached in a scope

attach_event : (e : Event) → is_attach e ≡ true → AreAttaches (e ∷ [])
attach_event (Completes who i v) h = cc
attach_event (Fails who i code) h = cc
attach_event (FailsAs who i failure) h = cc
attach_event (Cancels who i) h = cc
attach_event (Claims who i) h = cc
attach_event (Finishes who i answer) h = cc
attach_event (Ticks who now) h = cc
attach_event (Attaches who form of function) h = (who, form, of, function, refl, tt)

has_room : (s : State) (e : Event) → is_attach e ≡ true → 0 < s.plan.room → HasRoomFor s e
has_room s (Completes who i v) h l = tt
has_room s (Fails who i code) h l = tt
has_room s (FailsAs who i failure) h l = tt
has_room s (Cancels who i) h l = tt
has_room s (Claims who i) h l = tt
has_room s (Finishes who i answer) h l = tt
has_room s (Ticks who now) h l = tt
has_room s (Attaches who form of function) h l = l

-- its word attaches it, and there is room
pub record WasAttached (lane word : ℕ) (old new : Teller) : Type 0 where
  pub who : ℕ
  pub form : Form
  pub of : Of
  pub function : Option ℕ
  pub named : word_of (Attaches who form of function) ≡ word
  pub room : 0 < (state_of old.ledger).plan.room
  pub tells : TellsAttach lane (Attaches who form of function) old new

attached_by : (lane word : ℕ) (old new : Teller) (reply : Reply) (e : Event) → event_of word ≡ Some e → AreAttaches (e ∷ []) → TellsWord lane word old reply new → WasAttached lane word old new
attached_by lane word old new reply e read (who, form, of, function, is, end) done =
    let does = done.tells.does in
    let x = Attaches who form of function in
    let same : does.event ≡ x = (let was = does.read in cc) in
    let room : 0 < (state_of old.ledger).plan.room = subst (λ (d : Event). HasRoomFor (state_of old.ledger) d) same does.taken.room in
    let named : word_of x ≡ word = ap word_of (sym same) ∙ does.named in
    record {
      who = who;
      form = form;
      of = of;
      function = function;
      named = named;
      room = room;
      tells = tells_attach who form of function lane word old new reply (sym named) (does.read ∙ ap (λ (d : Event). Some d) same) room done;
    }

pub attached : (lane word : ℕ) (old new : Teller) (reply : Reply) → MayAttach word (state_of old.ledger) → TellsWord lane word old reply new → WasAttached lane word old new
attached lane word old new reply h done = attached_by lane word old new reply h.event h.read (attach_event h.event h.attaches) done

pub attached_row : (lane word : ℕ) (old new : Teller) → (h : WasAttached lane word old new) → AttachesRow (Attaches h.who h.form h.of h.function ∷ []) old new
attached_row lane word old new h =
    let room = h.room in
    row_of lane (Attaches h.who h.form h.of h.function ∷ []) old new (h.who, h.form, h.of, h.function, refl, tt) (omega (arith, room)) (new, h.tells, refl)

pub attaches_found : (word lane : ℕ) (m : Machine) (b : Teller) (reply : Reply) → MayAttach word (state_in m) → TellsWord lane word m.teller reply b → 2 + waiting_in m ≤ free_in m → AreThere (state_in m) m.follows → NoneBehind m.follows (state_in m).stages →
    AttachesFound word lane m (record m { teller = b })
attaches_found word lane m b reply is done enough there none =
    let h = attached lane word m.teller b reply is done in
    let row = attached_row lane word m.teller b h in
    let still = none_row m.follows (Attaches h.who h.form h.of h.function ∷ []) m.teller b row there none in
    let fewer = waiting_less m.follows m.teller b row.settled in
    let count = row.count in
    let free = row.free in
    record {
      applies = subst (λ (w : ℕ). AppliesWord w lane m (ToldAttach (At (stages_in m))) (record m { teller = b })) h.named (applies_attach h.who h.form h.of h.function lane m b h.tells (omega (arith, enough)) still);
      next = omega (arith, count);
      stays = λ i l. ap is_some (row.stays i l);
      memory = omega (arith, enough, free, fewer);
      same = refl;
    }

-- ---- places for joins change nothing else

pub applies_places : (word lane places : ℕ) (m : Machine) (reply : Reply) (b : Machine) → AppliesWord word lane (record m { relay_places = places }) reply b → AppliesWord word lane m reply (record m { teller = b.teller })
applies_places word lane places m reply b h = record { found = h.found; finds = h.finds; between = h.between; tells = h.tells; catches_up = h.catches_up; same = refl }

pub puts_places : (scope stage places : ℕ) (m new : Machine) → m.relay_places ≤ places → PutsIn scope stage (record m { relay_places = places }) new → PutsIn scope stage m new
puts_places scope stage places m new more h =
    let sets = h.sets.sets in
    let then = sets.places in
    record {
      open_then = h.open_then;
      sets = record {
        join = h.sets.join;
        is = h.sets.is;
        sets = record { there = sets.there; set = sets.set; fits = sets.fits; places = omega (arith, more, then); found = sets.found; finds = sets.finds; catches_up = sets.catches_up; same = sets.same };
      };
    }

-- what is as it was where a place is found
pub record FindsOnly (old new : Machine) : Type 0 where
  pub state : state_in new ≡ state_in old
  pub waits : waiting_in new ≡ waiting_in old
  pub lanes : new.teller.lanes ≡ old.teller.lanes

pub finds_only : (old new : Machine) → FindsPlace old new → FindsOnly old new
finds_only old new h =
    let state = ap (λ (t : Teller). state_of t.ledger) h.finds.is in
    let follows = ap (λ (m : Machine). m.follows) h.same in
    record {
      state = state;
      waits = ap (λ (l : List Join). length (waiting_of (state_in new).stages l)) follows ∙ ap (λ (s : State). length (waiting_of s.stages old.follows)) state;
      lanes = ap (λ (t : Teller). t.lanes) h.finds.is;
    }

pub attaches_in : (word lane scope stage : ℕ) (old found between new : Machine) → stage ≡ stages_in old → FindsPlace old found → AttachesFound word lane found between → PutsIn scope stage between new → AttachesIn word lane scope old stage new
attaches_in word lane scope stage old found between new is h k p =
    let only = finds_only old found h in
    let count : stages_in found ≡ stage = ap (λ (s : State). length s.plan.stages) only.state ∙ sym is in
    let places = found.relay_places in
    let first : Machine = record old { teller = found.teller } in
    let then : Machine = record old { teller = between.teller } in
    let same : between ≡ record then { relay_places = places } = k.same ∙ ap (λ (m : Machine). let x : Machine = record m { teller = between.teller } in x) h.same in
    record {
      found = found.teller;
      finds = h.finds;
      between = between.teller;
      attaches = applies_places word lane places first (ToldAttach (At stage)) between
          (subst (λ (n : ℕ). AppliesWord word lane (record first { relay_places = places }) (ToldAttach (At n)) between) count (subst (λ (m : Machine). AppliesWord word lane m (ToldAttach (At (stages_in found))) between) h.same k.applies));
      puts = puts_places scope stage places then new h.places (subst (λ (m : Machine). PutsIn scope stage m new) same p);
    }

pub calls_attach_in : (word lane scope : ℕ) (old : Machine) (stage : ℕ) (new : Machine) → AttachesIn word lane scope old stage new → AreCalls old (nothing ∷ nothing ∷ nothing ∷ []) new
calls_attach_in word lane scope old stage new h =
    let last : (x : Machine) × IsCall (record old { teller = h.between }) nothing x × (new ≡ x) = (new, sets_join h.puts.sets.join refl h.puts.sets.sets, refl) in
    (record old { teller = h.found }, call_found h.finds.words old h.found h.finds.is, (record old { teller = h.between }, applies word lane (ToldAttach (At stage)) refl h.attaches, last))

-- no ledger refuses it
pub attach_taken : (word : ℕ) (s : State) (free : ℕ) (why : LedgerFault) → MayAttach word s → 0 < free → LedgerRefuses s word why → IsShort free why → ⊥
attach_taken word s free why h some refused short = none_refused s word free h.event why h.read h.fits (has_room s h.event h.attaches h.room) some refused short

pub finds_none : (m : Machine) → OnlyFinds m m
finds_none m = record { found = omega arith; few = le-max_left (free_in m) (most_words m); same = refl }
