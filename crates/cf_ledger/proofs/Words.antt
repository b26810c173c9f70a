-- Words that are written one behind another.
use Rattle.std.proofs.Common.{◌≡◌, ℕ, zero, suc, ◌+◌, ◌-◌, ◌<◌, ◌≤◌, List, [], ◌∷◌, ◌++◌, length, length-append, map, refl, replicate, ap, sym, ◌∙◌, arith, subst, take, Bool}
use Rattle.std.proofs.lemmas.List.{length-replicate}
use Rattle.std.specs.Prelude.{Option, Some, None, position, slice_get}
use Rattle.cf_forms.specs.Plans.{Planned, PlannedStage}
use Rattle.cf_forms.proofs.PlanLemmas.{place_is}
use Rattle.cf_model.specs.Graphs.{AreNews, Graph}
use Rattle.cf_model.proofs.Histories.{state_after-append}
use Rattle.cf_model.proofs.Shape.{answered-grows, length-new_states, state_after-grows}
use Rattle.cf_model.specs.declared.stage.Stage.TheVariants.{Pending}
use Rattle.cf_ledger.specs.News.{AreNoted, WritesList}
use Rattle.cf_model.specs.declared.events.Event.{Event}
use Rattle.cf_model.specs.declared.events.Reply.{Reply}
use Rattle.cf_model.specs.States.{State, start}
use Rattle.cf_model.specs.Events.{answered, state_after}
use Rattle.cf_event.specs.Words.{word_of}
use Rattle.cf_event.specs.Decoding.{decoded, decoded_with, event_of}
use Rattle.cf_ledger.specs.Ledgers.{DoesAll, AreTaken, Does, IsFirstRefused, IsKept, LedgerRefuses, IsTaken, Ledger, ledger_of, state_of}
use Rattle.cf_ledger.specs.declared.faults.LedgerFault.{LedgerFault}
use Rattle.std.proofs.Common.{get_or}

-- words that are all read keep their events when one more is written
push_with : (o : Option Event) (x : ℕ) (es more : List Event) (ws : List ℕ) (e : Event) → x ∷ ws ≡ map word_of (decoded_with o es) → (ws ≡ map word_of es → more ≡ es ++ e ∷ []) →
    decoded_with o more ≡ decoded_with o es ++ e ∷ []
push_with None x es more ws e all next = cc
push_with (Some d) x es more ws e all next = ap (λ (rest : List Event). d ∷ rest) (next cc)

pub decoded_push : (ws : List ℕ) (w : ℕ) (e : Event) → ws ≡ map word_of (decoded ws) → event_of w ≡ Some e → decoded (ws ++ w ∷ []) ≡ decoded ws ++ e ∷ []
decoded_push [] w e all is = ap (λ (o : Option Event). decoded_with o []) is
decoded_push (x ∷ ws) w e all is = push_with (event_of x) x (decoded ws) (decoded (ws ++ w ∷ [])) ws e all (λ rest. decoded_push ws w e rest is)

pub taken_push : (s : State) (es : List Event) (e : Event) → AreTaken s es → IsTaken (state_after s es) e → AreTaken s (es ++ e ∷ [])
taken_push s [] e h is = (is, tt)
taken_push s (d ∷ es) e h is = (h.0, taken_push ((answered s d).1) es e h.1 is)

map_push : (es : List Event) (e : Event) → map word_of (es ++ e ∷ []) ≡ map word_of es ++ word_of e ∷ []
map_push [] e = refl
map_push (d ∷ es) e = ap (λ (ws : List ℕ). word_of d ∷ ws) (map_push es e)

noted_push : (s : State) (es : List Event) (e : Event) (lists : List (List ℕ)) (news : List ℕ) → AreNoted s es lists → AreNews (state_after s es).stages ((answered (state_after s es) e).1).stages news →
    AreNoted s (es ++ e ∷ []) (lists ++ news ∷ [])
noted_push s [] e [] news h more = (more, tt)
noted_push s [] e (x ∷ lists) news h more = absurd h
noted_push s (d ∷ es) e [] news h more = absurd h
noted_push s (d ∷ es) e (x ∷ lists) news h more = (h.0, noted_push ((answered s d).1) es e lists news h.1 more)

pub noted_count : (s : State) (es : List Event) (lists : List (List ℕ)) → AreNoted s es lists → length lists ≡ length es
noted_count s [] [] h = refl
noted_count s [] (x ∷ lists) h = absurd h
noted_count s (e ∷ es) [] h = absurd h
noted_count s (e ∷ es) (x ∷ lists) h = ap suc (noted_count ((answered s e).1) es lists h.1)

pub noted_at : (s : State) (es : List Event) (lists : List (List ℕ)) (k : ℕ) (news : List ℕ) → AreNoted s es lists → slice_get lists k ≡ Some news →
    AreNews (state_after s (take k es)).stages (state_after s (take (k + 1) es)).stages news
noted_at s [] [] k news h is = cc
noted_at s [] (x ∷ lists) k news h is = absurd h
noted_at s (e ∷ es) [] k news h is = absurd h
noted_at s (e ∷ es) (x ∷ lists) zero news h is =
    let same : x ≡ news = cc in
    subst (AreNews s.stages ((answered s e).1).stages) same h.0
noted_at s (e ∷ es) (x ∷ lists) (suc k) news h is =
    let next : suc k + 1 ≡ suc (k + 1) = omega arith in
    subst (λ n. AreNews (state_after ((answered s e).1) (take k es)).stages (state_after s (take n (e ∷ es))).stages news) (sym next) (noted_at ((answered s e).1) es lists k news h.1 is)

-- the stages and the room are as many in all as when it was opened
pub all_flags : (plan : Planned) (ws : List ℕ) (g : Graph) (flags : List Bool) (lists : List (List ℕ)) → IsKept plan ws g flags lists → length flags ≡ length plan.stages + plan.room
all_flags plan ws g flags lists kept =
    let grows = state_after-grows (start plan) (decoded ws) in
    let grown = (state_after (start plan) (decoded ws)).plan in
    let stages : length grown.stages ≡ length plan.stages + length grows.more = ap (λ (l : List PlannedStage). length l) grows.stages ∙ length-append plan.stages grows.more in
    let room = grows.room in
    let here : length flags ≡ length grown.stages + grown.room = kept.flags ∙ ap (λ (s : State). length s.plan.stages + s.plan.room) kept.left in
    omega (arith, stages, room, here)

-- there are no more stages than a plan may have
pub few_stages : (plan : Planned) (ws : List ℕ) (g : Graph) (flags : List Bool) (lists : List (List ℕ)) → IsKept plan ws g flags lists → length g.state.plan.stages ≤ 4096
few_stages plan ws g flags lists kept =
    let all = all_flags plan ws g flags lists kept in
    let here = kept.flags in
    let few = (place_is plan.stages plan.room kept.place).0 in
    omega (arith, all, here, few)

-- there is a state and a claim for each stage
pub all_states : (plan : Planned) (es : List Event) → length (state_after (start plan) es).stages ≡ length (state_after (start plan) es).plan.stages
all_states plan es =
    let grows = state_after-grows (start plan) es in
    let first : length (start plan).stages ≡ length plan.stages = length-new_states [] plan.stages (replicate (length plan.stages) Pending) ∙ length-replicate (length plan.stages) Pending in
    let states = grows.all_stages in
    let stages = ap (λ (l : List PlannedStage). length l) grows.stages ∙ length-append plan.stages grows.more in
    omega (arith, first, states, stages)

pub all_claims : (plan : Planned) (es : List Event) → length (state_after (start plan) es).claims ≡ length (state_after (start plan) es).plan.stages
all_claims plan es =
    let grows = state_after-grows (start plan) es in
    let first : length (start plan).claims ≡ length plan.stages = length-replicate (length plan.stages) None in
    let claims = grows.all_claims in
    let stages = ap (λ (l : List PlannedStage). length l) grows.stages ∙ length-append plan.stages grows.more in
    omega (arith, first, claims, stages)

pub kept_states : (plan : Planned) (ws : List ℕ) (g : Graph) (flags : List Bool) (lists : List (List ℕ)) → IsKept plan ws g flags lists → length g.state.stages ≡ length g.state.plan.stages
kept_states plan ws g flags lists kept = subst (λ (s : State). length s.stages ≡ length s.plan.stages) (sym kept.left) (all_states plan (decoded ws))

-- what is kept, once one more word is done and written with its news
pub kept_push : (plan : Planned) (ws : List ℕ) (g h : Graph) (w : ℕ) (e : Event) (reply : Reply) (flags down : List Bool) (lists more : List (List ℕ)) → IsKept plan ws g flags lists →
    event_of w ≡ Some e → word_of e ≡ w → IsTaken g.state e → (reply, h.state) ≡ answered g.state e →
    h.left ≡ None → position (λ b. b) down ≡ None → length down ≡ length flags → WritesList g.state.stages h.state.stages lists more → IsKept plan (ws ++ w ∷ []) h down more
kept_push plan ws g h w e reply flags down lists more kept is word taken told none unset same new =
    let pushed = decoded_push ws w e kept.written is in
    let next : h.state ≡ (answered g.state e).1 = ap (λ p. p.1) told in
    let grows = answered-grows g.state e in
    let total : length h.state.plan.stages + h.state.plan.room ≡ length g.state.plan.stages + g.state.plan.room =
    (let stages = ap (λ (x : State). length x.plan.stages) next ∙ ap (λ (l : List PlannedStage). length l) grows.stages ∙ length-append g.state.plan.stages grows.more in
    let room = grows.room in
    let here = ap (λ (x : State). x.plan.room) next in
    omega (arith, stages, room, here)) in
    let was = kept.flags in
    record {
      place = kept.place;
      written = ap (λ (xs : List ℕ). xs ++ w ∷ []) kept.written ∙ ap (λ (x : ℕ). map word_of (decoded ws) ++ x ∷ []) (sym word) ∙ sym (map_push (decoded ws) e) ∙ ap (map word_of) (sym pushed);
      taken = subst (AreTaken (start plan)) (sym pushed) (taken_push (start plan) (decoded ws) e kept.taken (subst (λ (x : State). IsTaken x e) kept.left taken));
      left = next ∙ ap (λ (x : State). (answered x e).1) kept.left ∙ sym (state_after-append (start plan) (decoded ws) (e ∷ [])) ∙ ap (state_after (start plan)) (sym pushed);
      worked_out = none;
      unset = unset;
      flags = omega (arith, same, was, total);
      noted = subst (λ es. AreNoted (start plan) es more) (sym pushed) (subst (AreNoted (start plan) (decoded ws ++ e ∷ [])) (sym new.written)
          (noted_push (start plan) (decoded ws) e lists new.xs kept.noted
          (subst (λ (x : State). AreNews x.stages ((answered x e).1).stages new.xs) kept.left (subst (λ (x : State). AreNews g.state.stages x.stages new.xs) next new.news))));
    }

-- and so the word is done
pub does_push : (plan : Planned) (ws : List ℕ) (s t : State) (w : ℕ) (e : Event) (reply : Reply) (n m : ℕ) → ws ≡ map word_of (decoded ws) → s ≡ state_after (start plan) (decoded ws) → event_of w ≡ Some e → word_of e ≡ w →
    IsTaken s e → (reply, t) ≡ answered s e → m ≡ n - 1 → Does w (ledger_of plan ws n) reply (ledger_of plan (ws ++ w ∷ []) m)
does_push plan ws s t w e reply n m written left_was is word taken told less =
    let more = decoded_push ws w e written is in
    let left : t ≡ state_after (start plan) (decoded (ws ++ w ∷ [])) =
    ap (λ p. p.1) told ∙ ap (λ (x : State). (answered x e).1) left_was ∙ sym (state_after-append (start plan) (decoded ws) (e ∷ [])) ∙ ap (state_after (start plan)) (sym more) in
    record {
      event = e;
      read = is;
      named = word;
      taken = subst (λ (x : State). IsTaken x e) left_was taken;
      told = ap (λ (x : State). (reply, x)) (sym left) ∙ told ∙ ap (λ (x : State). answered x e) left_was;
      written = ap (λ (es : List Event). let l : Ledger = record { plan = plan; events = es; free = m } in l) more
          ∙ ap (λ (k : ℕ). let l : Ledger = record { plan = plan; events = decoded ws ++ e ∷ []; free = k } in l) less;
    }

-- ---- words behind others

events_assoc : (xs ys zs : List Event) → (xs ++ ys) ++ zs ≡ xs ++ (ys ++ zs)
events_assoc [] ys zs = refl
events_assoc (x ∷ xs) ys zs = ap (λ (es : List Event). x ∷ es) (events_assoc xs ys zs)

no_events : (xs : List Event) → xs ++ [] ≡ xs
no_events [] = refl
no_events (x ∷ xs) = ap (λ (es : List Event). x ∷ es) (no_events xs)

pub all_none : (old : Ledger) → DoesAll old [] old
all_none old = record {
  named = refl;
  taken = tt;
  written = ap (λ (es : List Event). let l : Ledger = record { plan = old.plan; events = es; free = old.free } in l) (sym (no_events old.events))
      ∙ ap (λ (k : ℕ). let l : Ledger = record { plan = old.plan; events = old.events ++ []; free = k } in l) (let all : old.free ≡ old.free - 0 = omega arith in all);
}

pub all_more : (old now next : Ledger) (ws : List ℕ) (w : ℕ) (reply : Reply) → DoesAll old ws now → Does w now reply next → DoesAll old (ws ++ w ∷ []) next
all_more old now next ws w reply h d =
    let pushed = decoded_push ws w d.event (sym h.named) d.read in
    let events : now.events ≡ old.events ++ decoded ws = ap (λ (l : Ledger). l.events) h.written in
    let plan : now.plan ≡ old.plan = ap (λ (l : Ledger). l.plan) h.written in
    let free : now.free ≡ old.free - length ws = ap (λ (l : Ledger). l.free) h.written in
    let count = length-append ws (w ∷ []) in
    let one : length (w ∷ []) ≡ 1 = refl in
    let less : now.free - 1 ≡ old.free - length (ws ++ w ∷ []) = omega (arith, free, count, one) in
    let state : state_of now ≡ state_after (state_of old) (decoded ws) = ap state_of h.written ∙ state_after-append (start old.plan) old.events (decoded ws) in
    record {
      named = ap (map word_of) pushed ∙ map_push (decoded ws) d.event ∙ ap (λ (w : ℕ). map word_of (decoded ws) ++ w ∷ []) d.named ∙ ap (λ (xs : List ℕ). xs ++ w ∷ []) h.named;
      taken = subst (AreTaken (state_of old)) (sym pushed) (taken_push (state_of old) (decoded ws) d.event h.taken (subst (λ (x : State). IsTaken x d.event) state d.taken));
      written = d.written ∙ ap (λ (p : Planned). let l : Ledger = record { plan = p; events = now.events ++ d.event ∷ []; free = now.free - 1 } in l) plan
          ∙ ap (λ (es : List Event). let l : Ledger = record { plan = old.plan; events = es; free = now.free - 1 } in l)
          (ap (λ (es : List Event). es ++ d.event ∷ []) events ∙ events_assoc old.events (decoded ws) (d.event ∷ []) ∙ ap (λ (es : List Event). old.events ++ es) (sym pushed))
          ∙ ap (λ (k : ℕ). let l : Ledger = record { plan = old.plan; events = old.events ++ decoded (ws ++ w ∷ []); free = k } in l) less;
    }

-- Where the first k words are those of events that are taken, and the k-th isn't done, it is the first such.
refused_with : (o : Option Event) (s : State) (w k : ℕ) (words : List ℕ) (why : LedgerFault) → event_of w ≡ o → let es = decoded_with o (decoded (take k words)) in map word_of es ≡ w ∷ take k words → AreTaken s es →
    LedgerRefuses (state_after s es) (get_or words k 0) why →
    ((t : State) → let more = decoded (take k words) in map word_of more ≡ take k words → AreTaken t more → LedgerRefuses (state_after t more) (get_or words k 0) why → IsFirstRefused t k words why) →
    IsFirstRefused s (suc k) (w ∷ words) why
refused_with None s w k words why is all taken u next = cc
refused_with (Some e) s w k words why is all taken u next = (e, is, taken.0, next ((answered s e).1) (let rest : map word_of (decoded (take k words)) ≡ take k words = cc in rest) taken.1 u)

pub first_refused : (s : State) (k : ℕ) (words : List ℕ) (why : LedgerFault) → k < length words → let es = decoded (take k words) in map word_of es ≡ take k words → AreTaken s es →
    LedgerRefuses (state_after s es) (get_or words k 0) why → IsFirstRefused s k words why
first_refused s k [] why l all taken u = absurd (omega arith)
first_refused s zero (w ∷ words) why l all taken u = u
first_refused s (suc k) (w ∷ words) why l all taken u =
    refused_with (event_of w) s w k words why refl all taken u (λ t rest h more. first_refused t k words why (omega arith) rest h more)

pub first_behind : (plan : Planned) (old new : Ledger) (k : ℕ) (words : List ℕ) (why : LedgerFault) → old ≡ (record { plan = plan; events = []; free = 0 }) → DoesAll old (take k words) new → k < length words →
    LedgerRefuses (state_of new) (get_or words k 0) why → IsFirstRefused (start plan) k words why
first_behind plan old new k words why is h l u =
    let es = decoded (take k words) in
    let state : state_of new ≡ state_after (start plan) es = ap state_of h.written ∙ ap (λ (x : Ledger). state_after (start x.plan) (x.events ++ es)) is in
    first_refused (start plan) k words why l h.named (subst (λ (x : Ledger). AreTaken (state_of x) es) is h.taken)
    (subst (λ (s : State). LedgerRefuses s (get_or words k 0) why) state u)
