use Rattle.std.proofs.Common.{◌≡◌, List, false, subst, ℕ, [], ◌∷◌, ◌++◌, ap, ◌∙◌, inl, inr, ◌⊎◌}
use Rattle.cf_model.specs.declared.events.Event.{Event}
use Rattle.cf_model.specs.declared.events.Event.TheVariants.{Cancel as Cancels}
use Rattle.cf_model.specs.declared.events.Reply.{Reply}
use Rattle.cf_event.specs.Words.{word_of}
use Rattle.cf_ledger.specs.Ledgers.{Ledger, state_of}
use Rattle.cf_model.specs.Events.{answered}
use Rattle.cf_model.specs.States.{State, outcome_at, outcome_in}
use Rattle.cf_model.proofs.Closed.{reached_closed, reached_length}
use Rattle.cf_outcome.specs.declared.outcome.Cause.TheVariants.{Cancelled}
use Rattle.cf_outcome.specs.declared.outcome.Outcome.TheVariants.{Fault}
use Rattle.cf_request.specs.Endings.{EndsByJoins, EndsNothingElse}
use Rattle.cf_request.specs.Endings.IsReached.{itself}
use Rattle.cf_request.specs.Machines.{AppliesWord, Machine, state_in}
use Rattle.cf_request.specs.Relays.{IsRelayDue, NoneBehind}
use Rattle.cf_request.specs.Rows.{HasWord}
use Rattle.cf_request.specs.Scopes.{EndsNow}
use Rattle.cf_request.specs.Telling.{Teller, Tells, is_settled_in}
use Rattle.cf_request.specs.declared.joins.Join.{Join}
use Rattle.cf_request.proofs.Decided.{none_is}
use Rattle.cf_request.proofs.Later.{later_then}
use Rattle.cf_request.proofs.Reached.{Reaches, reaches_first, reaches_more}
use Rattle.cf_request.proofs.Telling.{next_is}
use Rattle.cf_request.proofs.Endings.{cancelled_plan, cancelled_stages, events_in_turn, onward_word, reaches_turns, still_found}
use Rattle.cf_request.proofs.laws.scopes_end_nothing_else.Goals as goal

-- the scope's stage is cancelled
reaches_cancelled : (follows : List Join) (who scope : ℕ) (old b : Teller) (word : ℕ) (reply : Reply) → is_settled_in (state_of old.ledger).stages scope ≡ false → (t : Tells word old reply b) → t.does.event ≡ Cancels who scope → Reaches follows scope (state_of old.ledger) (state_of b.ledger)
reaches_cancelled follows who scope old b word reply open_then t is =
    let s = state_of old.ledger in
    let none = none_is (outcome_in s.stages scope) open_then in
    let next = next_is old.ledger b.ledger word reply t.does ∙ ap (λ (e : Event). (answered s e).1) is in
    reaches_more follows scope s s (state_of b.ledger) scope (Fault Cancelled false) (reaches_first follows scope s) (reached_length old.ledger.plan old.ledger.events) (reached_closed old.ledger.plan old.ledger.events) none itself
    (ap (λ (r : State). r.plan) next ∙ cancelled_plan (outcome_at s scope) s scope) (ap (λ (r : State). r.stages) next ∙ cancelled_stages (outcome_at s scope) s scope none none)

ends_by_joins : (who scope : ℕ) (old new : Machine) (reply : Reply) → HasWord (Cancels who scope) → NoneBehind old.follows (state_in old).stages → is_settled_in (state_in old).stages scope ≡ false → AppliesWord (word_of (Cancels who scope)) 0 old reply new → EndsByJoins who scope old new
ends_by_joins who scope old new reply named none open_then h =
    let e = Cancels who scope in
    let does = h.tells.tells.does in
    let is : does.event ≡ e = (let was = does.read in cc) in
    let settles = h.catches_up.settles in
    let state : state_of h.found.ledger ≡ state_in old = ap (λ (t : Teller). state_of t.ledger) h.finds.is in
    let found = still_found h.finds.words old.teller h.found h.finds.is in
    let first = reaches_cancelled old.follows who scope h.found h.between (word_of e) reply (ap (λ (s : State). is_settled_in s.stages scope) state ∙ open_then) h.tells.tells is in
    let later = later_then old.teller.ledger h.found.ledger h.between.ledger found.later (onward_word h.found h.between (word_of e) reply h.tells.tells).later in
    let all = reaches_turns old.follows scope old.own settles.dues old.teller h.between new.teller none later (subst (λ (s : State). Reaches old.follows scope s (state_of h.between.ledger)) state first) settles.are in
    record {
      cancelled = h.between;
      cancels = ap (λ (l : Ledger). l.events) does.written ∙ ap (λ (x : Event). h.found.ledger.events ++ x ∷ []) is ∙ ap (λ (t : Teller). t.ledger.events ++ e ∷ []) h.finds.is;
      dues = settles.dues;
      are = settles.are;
      events = events_in_turn (IsRelayDue old.follows) old.own settles.dues h.between new.teller settles.are;
      reached = all.news;
    }

ends_now : (who scope : ℕ) (old new : Machine) → HasWord (Cancels who scope) → NoneBehind old.follows (state_in old).stages → EndsNow who scope old new → (new ≡ old) ⊎ EndsByJoins who scope old new
ends_now who scope old new named none (inl h) = inl h.1
ends_now who scope old new named none (inr h) = inr (ends_by_joins who scope old new h.0 named none h.1 h.2)

ends_nothing_else : EndsNothingElse
ends_nothing_else who scope old new named none h = ends_now who scope old new named none h.does

pub returns : goal.returns
returns c = ends_nothing_else
