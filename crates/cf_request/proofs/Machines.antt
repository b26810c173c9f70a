-- What a machine keeps.
use Rattle.std.proofs.Common.{◌≡◌, ◌≢◌, ℕ, zero, suc, ◌+◌, ◌-◌, ◌<◌, ◌≤◌, Bool, true, false, arith, replicate, cond, inl, inr, Option, Some, None, List, [], ◌∷◌, ◌++◌, All, drop, get_or, length, length-append, refl, ap, set, sym, ◌∙◌, subst}
use Rattle.std.specs.Prelude.{◌==◌, ◌&&◌, Err, IfNone, IfOk, Ok, Result, is_some, not, slice_get, unwrap_or}
use Rattle.std.specs.List.{filter}
use Rattle.std.proofs.Math.Nat.{le-max_left}
use Rattle.std.proofs.Math.Seq.{drop-length}
use Rattle.std.proofs.lemmas.Bool.{cases_lt, eq-eqb}
use Rattle.std.proofs.lemmas.List.{length-replicate}
use Rattle.std.proofs.lemmas.List.Elements.{All-cons, All-nil, All-push, All-weaker}
use Rattle.cf_forms.specs.declared.forms.Args.{Args}
use Rattle.cf_model.specs.declared.events.Event.TheVariants.{Claim as Claims, Finish as Finishes}
use Rattle.cf_model.specs.declared.events.Reply.{Reply}
use Rattle.cf_model.specs.declared.events.Reply.TheVariants.{Claim as ToldClaim, Finish as ToldFinish}
use Rattle.cf_model.specs.declared.replies.Claimed.TheVariants.{Granted}
use Rattle.cf_model.specs.Events.{claimed_by}
use Rattle.cf_model.specs.Graphs.{stage_in}
use Rattle.cf_model.specs.States.{State, is_ready, outcome_in, outcome_of, stage_at}
use Rattle.cf_model.specs.declared.stage.Stage.{Stage}
use Rattle.cf_model.specs.declared.stage.Stage.TheVariants.{Pending, Ready, Claimed, Linked, Settled}
use Rattle.cf_ledger.specs.Ledgers.{IsShort, LedgerRefuses, stages_of, state_of}
use Rattle.cf_ledger.specs.declared.faults.LedgerFault.{LedgerFault}
use Rattle.cf_ledger.specs.declared.faults.LedgerFault.TheVariants.{NoMemory, NoEvent, NoStage, NoRoom}
use Rattle.cf_ledger.specs.Steps.{finished_as}
use Rattle.cf_ledger.specs.declared.step.Finish.{Finish}
use Rattle.cf_ledger.specs.declared.step.Held.{Held}
use Rattle.cf_ledger.specs.declared.step.Taken.{Taken}
use Rattle.cf_request.specs.Deadlines.{Forgets, Sets}
use Rattle.cf_request.specs.Joins.{AreAllThere, IsJoin, IsOfOne, sources_of}
use Rattle.cf_request.specs.Lanes.{FinishesHeld, IsIdle, NoneReadyIn, NothingIsReady, TakesIn, ready_below}
use Rattle.cf_request.specs.Machines.{AreBothThere, CancelsAll, CatchesUp, GoesOn, IsMachine, IsNoFollow, IsNoJoin, IsNoWord, Machine, Refuses, open_in, stages_in}
use Rattle.cf_request.specs.Ready.{Lanes, lane_of}
use Rattle.cf_request.specs.Refusals.{AllSettled, IsCancelled, IsRefused}
use Rattle.cf_request.specs.Relays.{AreIn, AreRelays, IsNotBehind, IsRelayDue, IsRelayOr, MarksAll, MayCatchUp, MayCatchUpWith, NoneBehind, is_in_flags, open_relays, waiting_of}
use Rattle.cf_request.specs.Settling.{SettlesDue}
use Rattle.cf_request.specs.Telling.{Teller, Tells, TellsEvent, is_settled_in, with_memory}
use Rattle.cf_request.specs.declared.deadlines.Deadline.{Deadline}
use Rattle.cf_request.specs.declared.faults.JoinFault.{JoinFault}
use Rattle.cf_request.specs.declared.faults.JoinFault.TheVariants.{NoMemory as NoMemoryForJoin, NoStage as NoStageForJoin, NoQuorum}
use Rattle.cf_request.specs.declared.faults.MachineFault.TheVariants.{NoMemory as NoMemoryForIt}
use Rattle.cf_request.specs.declared.machine.Next.{Next}
use Rattle.cf_request.specs.declared.joins.Join.{Join}
use Rattle.cf_request.specs.declared.relays.Relays.{Relays}
use Rattle.cf_request.specs.declared.settling.Due.{Due}
use Rattle.cf_request.proofs.Decided.{undecided_same}
use Rattle.cf_request.proofs.Lists.{weigh}
use Rattle.cf_request.proofs.Memory.{relays_stay, spends_held, spends_word}
use Rattle.cf_request.proofs.Moments.{set_left, set_more}
use Rattle.cf_request.proofs.Behind.{looked_held, looked_none, looked_word, marked_more, none_behind, stay_word}
use Rattle.cf_request.proofs.Turns.{Keeps, StaySettled, after_event, dues_none, follows_kept, follows_word, keeps_dues, keeps_event, keeps_memory, keeps_same, keeps_then, limits_kept, limits_word}
use Rattle.cf_request.proofs.Words.{none_lost}

pub kept_by : (a b : Teller) (follows : List Join) (deadlines : List Deadline) (own : ℕ) → Keeps a b → IsMachine a follows deadlines own → IsMachine b follows deadlines own
kept_by a b follows deadlines own keeps h =
    record {
      relays = follows_kept a b follows keeps h.relays;
      limits = limits_kept a b deadlines keeps h.limits;
      caller = h.caller;
    }

pub kept_memory : (words : ℕ) (a b : Teller) (follows : List Join) (deadlines : List Deadline) (own : ℕ) → b ≡ with_memory words a → IsMachine a follows deadlines own →
    IsMachine b follows deadlines own
kept_memory words a b follows deadlines own is h = kept_by a b follows deadlines own (keeps_memory words a b is) h

-- what is kept, once memory is found and a word is done
pub kept_word : (words : ℕ) (a r b : Teller) (word : ℕ) (reply : Reply) (follows : List Join) (deadlines : List Deadline) (own : ℕ) → IsMachine a follows deadlines own → r ≡ with_memory words a → Tells word r reply b → IsMachine b follows deadlines own
kept_word words a r b word reply follows deadlines own was found tells =
    let h = kept_memory words a r follows deadlines own found was in
    let less = none_lost r.ledger b.ledger word reply tells.does in
    record {
      relays = follows_word r.ledger b.ledger follows less h.relays;
      limits = limits_word r.ledger b.ledger deadlines less h.limits;
      caller = h.caller;
    }

-- and once due stages are settled
pub kept_dues : (P : Teller → Due → Type 0) (who : ℕ) (a b : Teller) (follows : List Join) (deadlines : List Deadline) (own : ℕ) → SettlesDue P who a b → IsMachine a follows deadlines own →
    IsMachine b follows deadlines own
kept_dues P who a b follows deadlines own h m = kept_by a b follows deadlines own (keeps_dues P who a b h) m

-- ---- relays that are open

pub relays_first : (stages : List Stage) (follows : List Join) (flags : List Bool) (waiting : ℕ) → follows ≡ [] → flags ≡ replicate 4096 false → waiting ≡ 0 → AreRelays stages follows flags waiting
relays_first stages follows flags waiting none clear first =
    subst (λ (l : List Join). AreRelays stages l flags waiting) (sym none) (record {
      flags = ap (λ (l : List Bool). length l) clear ∙ length-replicate 4096 false;
      marked = All-nil (λ (j : Join). AreIn flags (sources_of j));
      most = omega (arith, first);
      few = omega (arith, first);
    })

-- what is settled stays so, and then no more relays are open
pub relays_later : (old new : List Stage) (follows : List Join) (flags : List Bool) (waiting : ℕ) → StaySettled old new → AreRelays old follows flags waiting → AreRelays new follows flags waiting
relays_later old new follows flags waiting stay h = record {
  flags = h.flags;
  marked = h.marked;
  most = (let fewer = relays_stay follows old new stay in let most = h.most in omega (arith, fewer, most));
  few = h.few;
}

pub none_found : (words : ℕ) (a r : Teller) (follows : List Join) → r ≡ with_memory words a → NoneBehind follows (state_of a.ledger).stages → NoneBehind follows (state_of r.ledger).stages
none_found words a r follows is h = subst (λ (t : Teller). NoneBehind follows (state_of t.ledger).stages) (sym is) h

pub may_word : (words : ℕ) (a r b : Teller) (word : ℕ) (reply : Reply) (w : Relays) (deadlines : List Deadline) (own seen : ℕ) → IsMachine a w.follows.items deadlines own → NoneBehind w.follows.items (state_of a.ledger).stages →
    AreRelays (state_of a.ledger).stages w.follows.items w.followed w.waiting → r ≡ with_memory words a → seen ≡ length r.told → w.waiting ≤ r.ledger.free - 1 → Tells word r reply b → MayCatchUp b w seen
may_word words a r b word reply w deadlines own seen machine none relays found at enough tells =
    let follows = w.follows.items in
    let flags = w.followed in
    let waiting = w.waiting in
    let first = relays_later (state_of a.ledger).stages (state_of r.ledger).stages follows flags waiting (keeps_memory words a r found).settled relays in
    let last = relays_later (state_of r.ledger).stages (state_of b.ledger).stages follows flags waiting (stay_word r b word reply tells) first in
    let most = last.most in
    let one = spends_word word r b reply tells in
    record {
      settle = record {
        there = (kept_word words a r b word reply follows deadlines own machine found tells).relays;
        counted = most;
        memory = omega (arith, most, one, enough);
      };
      marked = relays.marked;
      looked_at = looked_word seen follows r b word reply tells (looked_none seen r.told follows (state_of r.ledger).stages at (none_found words a r follows found none));
    }

pub free_found : (words : ℕ) (a r : Teller) → r ≡ with_memory words a → a.ledger.free ≤ r.ledger.free
free_found words a r is = let same = ap (λ (t : Teller). t.ledger.free) is in let more = le-max_left a.ledger.free words in omega (arith, same, more)

-- why a word isn't done, where no memory was found for it
pub no_word : (words word : ℕ) (m : Machine) (r : Teller) (fault : LedgerFault) → r ≡ with_memory words m.teller → LedgerRefuses (state_of r.ledger) word fault → IsShort r.ledger.free fault → IsNoWord word m fault
no_word words word m r NoMemory is refused short = let found = free_found words m.teller r is in omega (arith, found, short)
no_word words word m r NoEvent is refused short = subst (λ (t : Teller). LedgerRefuses (state_of t.ledger) word NoEvent) is refused
no_word words word m r NoStage is refused short = subst (λ (t : Teller). LedgerRefuses (state_of t.ledger) word NoStage) is refused
no_word words word m r NoRoom is refused short = subst (λ (t : Teller). LedgerRefuses (state_of t.ledger) word NoRoom) is refused

-- a word that settles nothing leaves no join behind
pub still_word : (words : ℕ) (a r b : Teller) (word : ℕ) (reply : Reply) (w : Relays) (deadlines : List Deadline) (own : ℕ) → IsMachine a w.follows.items deadlines own → NoneBehind w.follows.items (state_of a.ledger).stages →
    AreRelays (state_of a.ledger).stages w.follows.items w.followed w.waiting → r ≡ with_memory words a → w.waiting ≤ r.ledger.free - 1 → Tells word r reply b → b.told ≡ r.told → CatchesUp own w.follows.items b b × (open_relays b w ≤ w.waiting)
still_word words a r b word reply w deadlines own machine none relays found enough tells same =
    let seen = length r.told in
    let may = may_word words a r b word reply w deadlines own seen machine none relays found refl enough tells in
    let nothing : [] ≡ drop seen b.told = sym (ap (drop seen) same ∙ drop-length r.told) in (
      record {
        settles = dues_none (IsRelayDue w.follows.items) own b;
        none = none_behind seen b.told [] w.followed w.follows.items (state_of b.ledger).stages nothing may.marked may.looked_at (All-nil (λ (i : ℕ). is_in_flags w.followed i ≡ false));
      },
      may.settle.counted,
    )

-- what is kept, once relays are settled
pub kept_all : (own : ℕ) (a b : Teller) (w : Relays) (deadlines : List Deadline) (now : ℕ) (stages : List Stage) → CatchesUp own w.follows.items a b → IsMachine a w.follows.items deadlines own →
    AreRelays stages w.follows.items w.followed w.waiting → open_relays b w ≤ now → now ≤ w.waiting →
    IsMachine b w.follows.items deadlines own × NoneBehind w.follows.items (state_of b.ledger).stages × AreRelays (state_of b.ledger).stages w.follows.items w.followed now
kept_all own a b w deadlines now stages h m relays most fewer =
    let few = relays.few in (
      kept_dues (IsRelayDue w.follows.items) own a b w.follows.items deadlines own h.settles m,
      h.none,
      record { flags = relays.flags; marked = relays.marked; most = most; few = omega (arith, few, fewer) },
    )

pub kept_rest : (P : Teller → Due → Type 0) (who words : ℕ) (a r b : Teller) (w : Relays) (deadlines : List Deadline) (own : ℕ) → r ≡ with_memory words a → SettlesDue P who r b →
    IsMachine a w.follows.items deadlines own → AreRelays (state_of a.ledger).stages w.follows.items w.followed w.waiting → NoneBehind w.follows.items (state_of b.ledger).stages →
    IsMachine b w.follows.items deadlines own × NoneBehind w.follows.items (state_of b.ledger).stages × AreRelays (state_of b.ledger).stages w.follows.items w.followed w.waiting
kept_rest P who words a r b w deadlines own found h m relays none = (
  kept_dues P who r b w.follows.items deadlines own h (kept_memory words a r w.follows.items deadlines own found m),
  none,
  relays_later (state_of a.ledger).stages (state_of b.ledger).stages w.follows.items w.followed w.waiting (keeps_then a r b (keeps_memory words a r found) (keeps_dues P who r b h)).settled relays,
)

-- where memory alone is found
pub kept_found : (words : ℕ) (a r : Teller) (w : Relays) (deadlines : List Deadline) (own : ℕ) → r ≡ with_memory words a →
    IsMachine a w.follows.items deadlines own × NoneBehind w.follows.items (state_of a.ledger).stages × AreRelays (state_of a.ledger).stages w.follows.items w.followed w.waiting →
    IsMachine r w.follows.items deadlines own × NoneBehind w.follows.items (state_of r.ledger).stages × AreRelays (state_of r.ledger).stages w.follows.items w.followed w.waiting
kept_found words a r w deadlines own found h = (
  kept_memory words a r w.follows.items deadlines own found h.0,
  none_found words a r w.follows.items found h.1,
  relays_later (state_of a.ledger).stages (state_of r.ledger).stages w.follows.items w.followed w.waiting (keeps_memory words a r found).settled h.2,
)

-- and a place in the row
pub kept_place : (words : ℕ) (a r : Teller) (w : Relays) (now : List Join) (deadlines : List Deadline) (own : ℕ) → r ≡ with_memory words a → now ≡ w.follows.items →
    IsMachine a w.follows.items deadlines own × NoneBehind w.follows.items (state_of a.ledger).stages × AreRelays (state_of a.ledger).stages w.follows.items w.followed w.waiting →
    IsMachine r now deadlines own × NoneBehind now (state_of r.ledger).stages × AreRelays (state_of r.ledger).stages now w.followed w.waiting
kept_place words a r w now deadlines own found same h =
    subst (λ (l : List Join). IsMachine r l deadlines own × NoneBehind l (state_of r.ledger).stages × AreRelays (state_of r.ledger).stages l w.followed w.waiting) (sym same) (kept_found words a r w deadlines own found h)

-- ---- one more join

pub kept_join : (t : Teller) (follows : List Join) (deadlines : List Deadline) (own : ℕ) (j : Join) → IsMachine t follows deadlines own → IsJoin (stages_of t.ledger) j → IsMachine t (follows ++ j ∷ []) deadlines own
kept_join t follows deadlines own j h join = record {
  relays = All-push (IsJoin (stages_of t.ledger)) follows j h.relays join;
  limits = h.limits;
  caller = h.caller;
}

push_first : (b : Bool) (j : Join) → length (cond b (j ∷ []) []) ≤ 1
push_first true j = omega arith
push_first false j = omega arith

push_by : (b : Bool) (x : Join) (new old : List Join) → length new ≤ length old + 1 → length (cond b (x ∷ new) new) ≤ length (cond b (x ∷ old) old) + 1
push_by true x new old l = omega (arith, l)
push_by false x new old l = l

pub filter_push : (p : Join → Bool) (xs : List Join) (j : Join) → length (filter p (xs ++ j ∷ [])) ≤ length (filter p xs) + 1
filter_push p [] j = push_first (p j) j
filter_push p (x ∷ xs) j = push_by (p x) x (filter p (xs ++ j ∷ [])) (filter p xs) (filter_push p xs j)

pub relays_push : (stages : List Stage) (follows : List Join) (flags now : List Bool) (waiting : ℕ) (j : Join) → AreRelays stages follows flags waiting → MarksAll (sources_of j) flags now → AreRelays stages (follows ++ j ∷ []) now (waiting + 1)
relays_push stages follows flags now waiting j h marks =
    let more = filter_push (λ (x : Join). not (is_settled_in stages x.stage)) follows j in
    let most = h.most in
    let few = h.few in
    let size = length-append follows (j ∷ []) in
    record {
      flags = marks.flags ∙ h.flags;
      marked = marked_more flags now follows j marks h.marked;
      most = omega (arith, more, most);
      few = omega (arith, few, size);
    }

-- what is to hold where a stage has just become a join
record MayJoinRow (t : Teller) (follows : List Join) (flags : List Bool) (waiting : ℕ) (is_due : Bool) (deadlines : List Deadline) (own : ℕ) : Type 0 where
  pub machine : IsMachine t follows deadlines own
  pub none : is_due ≡ false → NoneBehind follows (state_of t.ledger).stages
  pub relays : AreRelays (state_of t.ledger).stages follows flags waiting
  pub memory : length (waiting_of (state_of t.ledger).stages follows) ≤ t.ledger.free

pub record MayJoin (t : Teller) (w : Relays) (is_due : Bool) (deadlines : List Deadline) (own : ℕ) : Type 0 where
  pub machine : IsMachine t w.follows.items deadlines own
  pub relays : AreRelays (state_of t.ledger).stages w.follows.items w.followed w.waiting
  pub may : MayCatchUpWith t w is_due

may_join_row : (words : ℕ) (a r : Teller) (follows : List Join) (deadlines : List Deadline) (own : ℕ) (flags now : List Bool) (waiting : ℕ) (j : Join) (is_due : Bool) → IsMachine a follows deadlines own →
    NoneBehind follows (state_of a.ledger).stages → AreRelays (state_of a.ledger).stages follows flags waiting → r ≡ with_memory words a → 1 + waiting ≤ r.ledger.free → MarksAll (sources_of j) flags now → IsJoin (stages_of r.ledger) j →
    (is_due ≡ false → IsNotBehind (state_of r.ledger).stages j) → MayJoinRow r (follows ++ j ∷ []) now (waiting + 1) is_due deadlines own
may_join_row words a r follows deadlines own flags now waiting j is_due machine none relays found enough marks join behind =
    let first = relays_later (state_of a.ledger).stages (state_of r.ledger).stages follows flags waiting (keeps_memory words a r found).settled relays in
    let last = relays_push (state_of r.ledger).stages follows flags now waiting j first marks in
    let most = last.most in
    record {
      machine = kept_join r follows deadlines own j (kept_memory words a r follows deadlines own found machine) join;
      none = λ isnt. All-push (IsNotBehind (state_of r.ledger).stages) follows j (none_found words a r follows found none) (behind isnt);
      relays = last;
      memory = omega (arith, most, enough);
    }

-- where so many were counted, one more is
pub may_join : (words : ℕ) (a r : Teller) (old w : Relays) (deadlines : List Deadline) (own : ℕ) (j : Join) (is_due : Bool) → w.follows.items ≡ old.follows.items ++ j ∷ [] → MarksAll (sources_of j) old.followed w.followed → w.waiting ≡ old.waiting + 1 →
    IsMachine a old.follows.items deadlines own → NoneBehind old.follows.items (state_of a.ledger).stages → AreRelays (state_of a.ledger).stages old.follows.items old.followed old.waiting → r ≡ with_memory words a →
    1 + old.waiting ≤ r.ledger.free → IsJoin (stages_of r.ledger) j → (is_due ≡ false → IsNotBehind (state_of r.ledger).stages j) → MayJoin r w is_due deadlines own
may_join words a r old w deadlines own j is_due rows marks count machine none relays found enough join behind =
    let row = subst (λ (l : List Join). MayJoinRow r l w.followed (old.waiting + 1) is_due deadlines own) (sym rows)
    (may_join_row words a r old.follows.items deadlines own old.followed w.followed old.waiting j is_due machine none relays found enough marks join behind) in
    let most = row.relays.most in
    record {
      machine = row.machine;
      relays = subst (λ (n : ℕ). AreRelays (state_of r.ledger).stages w.follows.items w.followed n) (sym count) row.relays;
      may = record { settle = record { there = row.machine.relays; counted = omega (arith, most, count); memory = row.memory }; marked = row.relays.marked; none = row.none };
    }

-- ---- a join of one

pub follow_there : (relay stage n : ℕ) (ends : Bool) (j : Join) → IsOfOne relay stage ends j → relay < n → stage < n → AreAllThere n j
follow_there relay stage n ends j is first second =
    let a = is.same in
    let b = is.source in (
      omega (arith, first, a),
      All-cons (λ (i : ℕ). i < n) j.source j.others.items (omega (arith, second, b)) (subst (λ (l : List ℕ). All (λ (i : ℕ). i < n) l) (sym is.none) (All-nil (λ (i : ℕ). i < n))),
    )

pub no_follow : (relay stage : ℕ) (ends : Bool) (j : Join) (m : Machine) → IsOfOne relay stage ends j → IsNoJoin j m NoMemoryForJoin → IsNoFollow relay stage m NoMemoryForIt
no_follow relay stage ends j m is (inl short) = inl short
no_follow relay stage ends j m is (inr (join, none)) =
    let first = join.stage in
    let second = join.sources 0 0 (omega arith) in
    let a = is.same in
    let b = is.source in
    inr (omega (arith, first, a), omega (arith, second, b), none)

pub not_there : (relay stage : ℕ) (ends : Bool) (j : Join) (m : Machine) (fault : JoinFault) → IsOfOne relay stage ends j → fault ≢ NoMemoryForJoin → IsNoJoin j m fault → ¬ AreBothThere relay stage m
not_there relay stage ends j m NoMemoryForJoin is other h both = other refl
not_there relay stage ends j m NoStageForJoin is other h both = h (follow_there relay stage (stages_in m) ends j is both.0 both.1)
not_there relay stage ends j m NoQuorum is other h both = h.1 (let one = is.one in (omega (arith, one), omega (arith, one)))

-- where nothing is told to be due
pub behind_if : (o : Option Due) (b : Bool) (P : Type 0) → IfNone o P → b ≡ is_some o → b ≡ false → P
behind_if None b P h is isnt = h
behind_if (Some d) b P h is isnt = let wrong : true ≡ false = sym is ∙ isnt in absurd (cc)

-- ---- a step of a caller

pub keeps_held : (who : ℕ) (held : Option Held) (old : Teller) (finish : Option Finish) (new : Teller) → FinishesHeld who held old finish new → Keeps old new
keeps_held who None old None new h = keeps_same old new h
keeps_held who (Some g) old (Some f) new h = keeps_event (Finishes who g.stage g.answer) old new (ToldFinish (finished_as f.late)) refl h.done
keeps_held who None old (Some f) new h = absurd h
keeps_held who (Some g) old None new h = absurd h

pub keeps_takes : (who lane : ℕ) (old : Teller) (taken : Option Taken) (new : Teller) → TakesIn who lane old taken new → Keeps old new
keeps_takes who lane old None new h = keeps_same old new h.1
keeps_takes who lane old (Some t) new h = keeps_event (Claims who t.stage) old new (ToldClaim (Granted t.args)) refl h.done

-- what is kept, once memory is found and what is held is finished
pub kept_finish : (words : ℕ) (a r b : Teller) (who : ℕ) (held : Option Held) (finish : Option Finish) (follows : List Join) (deadlines : List Deadline) (own : ℕ) → IsMachine a follows deadlines own →
    r ≡ with_memory words a → FinishesHeld who held r finish b → IsMachine b follows deadlines own
kept_finish words a r b who held finish follows deadlines own h found done =
    kept_by r b follows deadlines own (keeps_held who held r finish b done) (kept_memory words a r follows deadlines own found h)

pub may_held : (words : ℕ) (a r b : Teller) (who : ℕ) (held : Option Held) (finish : Option Finish) (w : Relays) (deadlines : List Deadline) (own seen : ℕ) → IsMachine a w.follows.items deadlines own →
    NoneBehind w.follows.items (state_of a.ledger).stages → AreRelays (state_of a.ledger).stages w.follows.items w.followed w.waiting → r ≡ with_memory words a → seen ≡ length r.told → 2 + w.waiting ≤ r.ledger.free →
    FinishesHeld who held r finish b → MayCatchUp b w seen × (1 + open_relays b w ≤ b.ledger.free)
may_held words a r b who held finish w deadlines own seen machine none relays found at enough done =
    let follows = w.follows.items in
    let flags = w.followed in
    let waiting = w.waiting in
    let first = relays_later (state_of a.ledger).stages (state_of r.ledger).stages follows flags waiting (keeps_memory words a r found).settled relays in
    let last = relays_later (state_of r.ledger).stages (state_of b.ledger).stages follows flags waiting (keeps_held who held r finish b done).settled first in
    let most = last.most in
    let one = spends_held who held r finish b done in (
      record {
        settle = record {
          there = (kept_finish words a r b who held finish follows deadlines own machine found done).relays;
          counted = most;
          memory = omega (arith, most, one, enough);
        };
        marked = relays.marked;
        looked_at = looked_held seen follows who held r finish b done (looked_none seen r.told follows (state_of r.ledger).stages at (none_found words a r follows found none));
      },
      omega (arith, most, one, enough),
    )

-- ---- no relay is behind

set_claimed : (xs : List Stage) (i j : ℕ) (args : Args) → unwrap_or (slice_get xs i) Pending ≡ Ready args → outcome_in (set xs i Claimed) j ≡ outcome_in xs j
set_claimed [] i j args h = refl
set_claimed (x ∷ xs) zero zero args h = sym (ap outcome_of h)
set_claimed (x ∷ xs) zero (suc j) args h = refl
set_claimed (x ∷ xs) (suc i) zero args h = refl
set_claimed (x ∷ xs) (suc i) (suc j) args h = set_claimed xs i j args h

claimed_outcome : (x : Stage) (s : State) (who i j : ℕ) → stage_at s i ≡ x → outcome_in ((claimed_by x s who i).1.stages) j ≡ outcome_in s.stages j
claimed_outcome Pending s who i j h = refl
claimed_outcome (Ready args) s who i j h = set_claimed s.stages i j args h
claimed_outcome Claimed s who i j h = refl
claimed_outcome (Linked k) s who i j h = refl
claimed_outcome (Settled o) s who i j h = refl

-- a claim settles nothing
claim_same : (who i : ℕ) (old new : Teller) (reply : Reply) → TellsEvent (Claims who i) old reply new → (j : ℕ) → outcome_in (state_of new.ledger).stages j ≡ outcome_in (state_of old.ledger).stages j
claim_same who i old new reply h j =
    let s = state_of old.ledger in
    ap (λ (t : State). outcome_in t.stages j) (after_event (Claims who i) old new reply h) ∙ claimed_outcome (stage_at s i) s who i j refl

behind_same : (old new : List Stage) (j : Join) → ((i : ℕ) → outcome_in new i ≡ outcome_in old i) → IsNotBehind old j → IsNotBehind new j
behind_same old new j same h = λ decided. ap is_some (same j.stage) ∙ h (λ undecided. decided (undecided_same (outcome_in old) (outcome_in new) j (λ k d l. same (get_or (sources_of j) k d)) undecided))

none_same : (follows : List Join) (old new : List Stage) → ((i : ℕ) → outcome_in new i ≡ outcome_in old i) → NoneBehind follows old → NoneBehind follows new
none_same follows old new same h = All-weaker (IsNotBehind old) (IsNotBehind new) (λ j k. behind_same old new j same k) follows h

pub none_takes : (follows : List Join) (who lane : ℕ) (old : Teller) (taken : Option Taken) (new : Teller) → TakesIn who lane old taken new → NoneBehind follows (state_of old.ledger).stages →
    NoneBehind follows (state_of new.ledger).stages
none_takes follows who lane old None new h none = subst (λ (t : Teller). NoneBehind follows (state_of t.ledger).stages) (sym h.1) none
none_takes follows who lane old (Some t) new h none =
    none_same follows (state_of old.ledger).stages (state_of new.ledger).stages (claim_same who t.stage old new (ToldClaim (Granted t.args)) h.done) none

-- ---- what is set

pub kept_set : (t : Teller) (follows : List Join) (old new : List Deadline) (own : ℕ) (d : Deadline) → IsMachine t follows old own → d.stage < stages_of t.ledger →
    Sets (state_of t.ledger).stages d old new → IsMachine t follows new own
kept_set t follows old new own d h l sets = record {
  relays = h.relays;
  limits = set_more (state_of t.ledger) (state_of t.ledger).stages d old new sets l h.limits;
  caller = h.caller;
}

-- and where some are forgotten
pub kept_left : (t : Teller) (follows : List Join) (old new : List Deadline) (own : ℕ) → IsMachine t follows old own → Forgets (state_of t.ledger).stages old new → IsMachine t follows new own
kept_left t follows old new own h forgets = record {
  relays = h.relays;
  limits = set_left (state_of t.ledger) (state_of t.ledger).stages old new forgets h.limits;
  caller = h.caller;
}

-- ---- stages that end at once

pub refuses_is : (m : Machine) (b e : Teller) (lane code words : ℕ) → words ≡ open_in m → b ≡ with_memory words m.teller → NoneBehind m.follows (state_of e.ledger).stages →
    NothingIsReady e lane → SettlesDue (IsRelayOr m.follows (IsRefused b.lanes.of lane code)) m.own b e → Refuses lane code m (record m { teller = e })
refuses_is m b e lane code words enough found behind none settles =
    let there = found ∙ ap (λ (n : ℕ). with_memory n m.teller) enough in
    let lanes = settles.lanes ∙ ap (λ (t : Teller). t.lanes) there in
    record {
      settles = subst (λ (t : Teller). SettlesDue (IsRelayOr m.follows (IsRefused t.lanes.of lane code)) m.own t e) there settles;
      none = (behind, subst (λ (l : Lanes). NoneReadyIn (state_of e.ledger) l.of lane (stages_of e.ledger)) lanes none);
      same = refl;
    }

pub cancels_is : (m : Machine) (b e : Teller) (who words : ℕ) → words ≡ open_in m → b ≡ with_memory words m.teller → who ≤ 63 → AllSettled (state_of e.ledger) →
    SettlesDue (IsRelayOr m.follows IsCancelled) who b e → CancelsAll who m (record m { teller = e })
cancels_is m b e who words enough found caller none settles = record {
  caller = caller;
  settles = subst (λ (t : Teller). SettlesDue (IsRelayOr m.follows IsCancelled) who t e) (found ∙ ap (λ (n : ℕ). with_memory n m.teller) enough) settles;
  none = none;
  same = refl;
}

-- ---- a step that finds nothing

one_more : (a b : Bool) → a ≡ true → b ≡ true → weigh (a && b) ≡ 1
one_more true true h k = refl
one_more true false h k = cc
one_more false b h k = cc

-- where so many are 0, none is ready
ready_none : (s : State) (lanes : List ℕ) (lane n : ℕ) → ready_below s lanes lane n ≡ 0 → NoneReadyIn s lanes lane n
ready_none s lanes lane zero h k l on same = absurd (omega (arith, l))
ready_none s lanes lane (suc n) h k l on same = elim (cases_lt k n) [
  | inl below ↦ ready_none s lanes lane n (omega (arith, h)) k below on same
  | inr above ↦ (let here : n ≡ k = omega (arith, l, above) in
      let one = one_more (is_ready (stage_in s.stages n)) (lane_of lanes n == lane) (ap (λ (i : ℕ). is_ready (stage_in s.stages i)) here ∙ on) (eq-eqb (lane_of lanes n) lane (ap (lane_of lanes) here ∙ same)) in
      absurd (omega (arith, h, one)))
]

pub none_idle : (lane : ℕ) (held : Option Held) (t : Teller) → IsIdle lane held t → NothingIsReady t lane
none_idle lane None t h = ready_none (state_of t.ledger) t.lanes.of lane (stages_of t.ledger) h
none_idle lane (Some g) t h = absurd h

pub goes_idle : (who lane : ℕ) (held : Option Held) (m : Machine) → IsIdle lane held m.teller → NoneBehind m.follows (state_of m.teller.ledger).stages → GoesOn who lane held m (record { finish = None; taken = None }) m
goes_idle who lane None m idle none = record {
  found = m.teller;
  finds = inl (idle, refl);
  finished = m.teller;
  finishes = refl;
  between = m.teller;
  catches_up = record { settles = dues_none (IsRelayDue m.follows) m.own m.teller; none = none };
  takes = (none_idle lane None m.teller idle, refl);
  same = refl;
}
goes_idle who lane (Some g) m idle none = absurd idle

none_by : (who lane : ℕ) (t : Teller) (taken : Option Taken) (e : Teller) → TakesIn who lane t taken e → IfNone taken (NothingIsReady e lane)
none_by who lane t None e h = subst (λ (x : Teller). NothingIsReady x lane) (sym h.1) h.0
none_by who lane t (Some g) e h = tt

-- where none is told, none is ready
pub none_left : (who lane : ℕ) (held : Option Held) (old new : Machine) (next : Next) → GoesOn who lane held old next new → IfNone next.taken (NothingIsReady new.teller lane)
none_left who lane held old new next h = none_by who lane h.between next.taken new.teller h.takes

pub ok_then : {A E : Type 0} (r : Result A E) (P Q : A → Type 0) → IfOk r P → ((a : A) → P a → Q a) → IfOk r Q
ok_then (Ok a) P Q h then = then a h
ok_then (Err e) P Q h then = tt
