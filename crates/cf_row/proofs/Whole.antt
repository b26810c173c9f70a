-- The whole row: its puts, one behind another.
use Rattle.std.proofs.Common.{◌≡◌, ℕ, suc, ◌+◌, ◌-◌, ◌<◌, ◌≤◌, true, false, eqb, List, [], ◌∷◌, ◌++◌, length, length-append, map, take, drop, cond, All, Contains, get_or, refl, ap, sym, ◌∙◌, subst, append-nil, append_assoc, inl, inr, arith}
use Rattle.std.specs.Prelude.{◌≢◌, Option, Some, None, unwrap_or}
use Rattle.std.proofs.lemmas.Bool.{eq-eqb, ne_eqb}
use Rattle.std.proofs.lemmas.Bool.Decides.{eqb_tells}
use Rattle.std.proofs.lemmas.List.{drop_at, get_or-map, length-map, map-append, take_all}
use Rattle.std.proofs.lemmas.List.Elements.{All-contains, All-nil, All-cons, All-head, All-map, All-tail, All-weaker, Contains-get_or, Contains-push}
use Rattle.cf_forms.specs.Plans.{Planned, with_room}
use Rattle.cf_model.specs.declared.events.Event.{Event}
use Rattle.cf_model.specs.declared.events.Event.TheVariants.{Complete as Completes, Fail as Fails, FailAs as FailsAs, Cancel as Cancels, Claim as Claims, Finish as Finishes, Tick as Ticks, Attach as Attaches}
use Rattle.cf_model.specs.States.{State, start}
use Rattle.cf_model.specs.Events.{answered, state_after}
use Rattle.cf_model.specs.Calls.{who_of}
use Rattle.cf_model.proofs.Moves.{grants_once}
use Rattle.cf_event.specs.Words.{IsEvent, word_of}
use Rattle.cf_event.specs.Histories.{numbers_of}
use Rattle.cf_event.specs.Events.{AreEventsOf, IsFunctionBelow, NamesFunction}
use Rattle.cf_event.specs.declared.record.Record.{Record}
use Rattle.cf_row.specs.declared.entry.Entry.{Entry}
use Rattle.cf_row.specs.Rows.{BeginsWith, FitsUpTo, IsKept, history_of, own_in, session_of, state_of, words_in}
use Rattle.cf_row.specs.Numbers.{AllFollow, FollowsRule}
use Rattle.cf_row.specs.Puts.{pair_of, pairs_of, who_at, who_by}
use Rattle.cf_row.specs.Engines.{AreBehind, Group, IsBehind, joined}
use Rattle.cf_row.specs.Accounts.{Account, AreOfOneEach, AreOneHistory, GivesAccount, all_completed, callers_of, completed, count_of, unread}
use Rattle.cf_row.specs.Laws.{AllFollowTheRule, RowsAreOneHistory}
use Rattle.cf_row.proofs.Engines.{made}
use Rattle.cf_row.proofs.Ruled.{ruled}
use Rattle.cf_row.proofs.Fitting.{AreFit, fit_append, fit_lift, fit_state, fit_taken, words_fit, words_who}
use Rattle.cf_row.proofs.Rooms.{fits_lift, state_lift}
use Rattle.cf_row.proofs.Callers.{IsAccountOf, below_count, callers_count, callers_fit, callers_known, known_numbers}
use Rattle.cf_ledger.specs.Ledgers.{AreTaken, Does, IsTaken, Ledger}
use Rattle.cf_model.proofs.Histories.{state_after-append}
use Rattle.cf_event.specs.declared.record.Record.TheVariants.{Did}
use Rattle.cf_row.proofs.Own.{fits_row, history_append, history_count, history_push, kept_push}

-- ---- words that the graph takes

below : (function : Option ℕ) → unwrap_or function 0 ≤ 4095 → IsFunctionBelow 4096 function
below None h = tt
below (Some f) h = omega (arith, h)

names_few : (e : Event) → IsEvent e → NamesFunction 4096 e
names_few (Completes who i v) h = tt
names_few (Fails who i code) h = tt
names_few (FailsAs who i failure) h = tt
names_few (Cancels who i) h = tt
names_few (Claims who i) h = tt
names_few (Finishes who i answer) h = tt
names_few (Ticks who now) h = tt
names_few (Attaches who form of function) h = below function h.3

fit_events : (callers : ℕ) (s : State) (row : List Entry) → AreFit s (words_in row) → All (λ (x : Entry). who_at x.word < callers) row → AreEventsOf callers 4096 s (history_of row)
fit_events callers s [] h few = tt
fit_events callers s (x ∷ row) h few =
    let e = h.0 in
    let first : who_at x.word < callers = All-head (λ (y : Entry). who_at y.word < callers) x row few in
    let who : who_at x.word ≡ who_of e = ap who_by h.1 in
    subst (AreEventsOf callers 4096 s) (sym (fit_state s x.word (words_in row) e h.1)) (
      (record { event = h.3; caller = omega (arith, first, who); fits = h.4.fits; function = names_few e h.3 }),
      fit_events callers ((answered s e).1) row h.5 (All-tail (λ (y : Entry). who_at y.word < callers) x row few),
    )

-- what is true of each entry's caller is true of each event's
fit_known : (P : ℕ → Type 0) (s : State) (row : List Entry) → AreFit s (words_in row) → All (λ (x : Entry). P (who_at x.word)) row → All (λ (e : Event). P (who_of e)) (history_of row)
fit_known P s [] h known = All-nil (λ (e : Event). P (who_of e))
fit_known P s (x ∷ row) h known =
    let e = h.0 in
    let who : who_at x.word ≡ who_of e = ap who_by h.1 in
    subst (All (λ (d : Event). P (who_of d))) (sym (fit_state s x.word (words_in row) e h.1))
    (All-cons (λ (d : Event). P (who_of d)) e (history_of row) (subst P who (All-head (λ (y : Entry). P (who_at y.word)) x row known))
    (fit_known P ((answered s e).1) row h.5 (All-tail (λ (y : Entry). P (who_at y.word)) x row known)))

-- ---- the rule, put by put

follow_put : (front : List (ℕ × ℕ)) (p : ℕ × ℕ) (put rest : List (ℕ × ℕ)) → All (λ (q : ℕ × ℕ). q ≡ p) put → FollowsRule front p → AllFollow (front ++ put) rest → AllFollow front (put ++ rest)
follow_put front p [] rest same rule h = subst (λ (l : List (ℕ × ℕ)). AllFollow l rest) (append-nil front) h
follow_put front p (q ∷ put) rest same rule h =
    let is : q ≡ p = All-head (λ (r : ℕ × ℕ). r ≡ p) q put same in
    let held : Contains (front ++ q ∷ []) p = subst (Contains (front ++ q ∷ [])) is (Contains-push front q) in (
      subst (FollowsRule front) (sym is) rule,
      follow_put (front ++ q ∷ []) p put rest (All-tail (λ (r : ℕ × ℕ). r ≡ p) q put same) (inl held) (subst (λ (l : List (ℕ × ℕ)). AllFollow l rest) (sym (append_assoc front (q ∷ []) put)) h),
    )

pairs_same : (n who : ℕ) (put : List Entry) → All (λ (w : ℕ). who_at w ≡ who) (words_in put) → All (λ (x : Entry). session_of x.token ≡ n) put → All (λ (q : ℕ × ℕ). q ≡ (n, who)) (pairs_of put)
pairs_same n who [] words own = All-nil (λ (q : ℕ × ℕ). q ≡ (n, who))
pairs_same n who (x ∷ put) words own =
    let caller : who_at x.word ≡ who = All-head (λ (w : ℕ). who_at w ≡ who) x.word (words_in put) words in
    let session : session_of x.token ≡ n = All-head (λ (y : Entry). session_of y.token ≡ n) x put own in
    let same : pair_of x ≡ (n, who) = ap (λ (a : ℕ). (a, who_at x.word)) session ∙ ap (λ (b : ℕ). (n, b)) caller in
    All-cons (λ (q : ℕ × ℕ). q ≡ (n, who)) (pair_of x) (pairs_of put) same (pairs_same n who put (All-tail (λ (w : ℕ). who_at w ≡ who) x.word (words_in put) words) (All-tail (λ (y : Entry). session_of y.token ≡ n) x put own))

follow_all : (plan : Planned) (front : List Entry) (groups : List Group) → AreBehind plan front groups → AllFollow (pairs_of front) (pairs_of (joined groups))
follow_all plan front [] h = tt
follow_all plan front (g ∷ groups) h =
    let put = h.0.put in
    let n = g.by.session in
    let s = state_of g.by in
    let rule : FollowsRule (pairs_of front) (n, put.number) = subst (λ (seen : List Entry). FollowsRule (pairs_of seen) (n, put.number)) h.0.seen put.rule in
    let words = words_who put.number (length s.plan.stages) s.plan.room (words_in g.put) put.each in
    subst (AllFollow (pairs_of front)) (sym (map-append pair_of g.put (joined groups)))
    (follow_put (pairs_of front) (n, put.number) (pairs_of g.put) (pairs_of (joined groups)) (pairs_same n put.number g.put words put.own) rule
    (subst (λ (l : List (ℕ × ℕ)). AllFollow l (pairs_of (joined groups))) (map-append pair_of front g.put) (follow_all plan (front ++ g.put) groups h.1)))

-- ---- the words, put by put

-- words that a session's graph takes are taken by one with more room
fit_words : (plan : Planned) (front : List Entry) (g : Group) → IsBehind plan front g → AreFit (state_after (start plan) (history_of front)) (words_in g.put)
fit_words plan front g h =
    let by = g.by in
    let r = by.plan.room in
    let le = h.room in
    let words = words_in g.put in
    let es = history_of front in
    let base : AreFit (state_of by) words = words_fit h.put.number (state_of by) words h.put.each in
    let taken : AreTaken (start (with_room plan r)) es =
    subst (λ (p : Planned). AreTaken (start p) es) h.plan_is (subst (λ (l : List Entry). AreTaken (start by.plan) (history_of l)) h.seen h.put.taken) in
    let same : state_of by ≡ state_after (start (with_room plan r)) es = ap (λ (p : Planned). state_after (start p) (history_of by.seen)) h.plan_is ∙ ap (λ (l : List Entry). state_after (start (with_room plan r)) (history_of l)) h.seen in
    let more = plan.room - r in
    let is : r + more ≡ plan.room = omega arith in
    let lifted = state_lift plan r more es taken in
    subst (λ (n : ℕ). AreFit (state_after (start (with_room plan n)) es) words) is
    (subst (λ (s : State). AreFit s words) (sym lifted) (fit_lift more (state_after (start (with_room plan r)) es) words (subst (λ (s : State). AreFit s words) same base)))

fit_from : (plan : Planned) (front : List Entry) (groups : List Group) → AreFit (start plan) (words_in front) → AreBehind plan front groups → AreFit (start plan) (words_in (front ++ joined groups))
fit_from plan front [] fit h = subst (λ (l : List Entry). AreFit (start plan) (words_in l)) (sym (append-nil front)) fit
fit_from plan front (g ∷ groups) fit h =
    let more = fit_words plan front g h.0 in
    let longer : AreFit (start plan) (words_in (front ++ g.put)) = subst (AreFit (start plan)) (sym (map-append (λ (x : Entry). x.word) front g.put)) (fit_append (start plan) (words_in front) (words_in g.put) fit more) in
    subst (λ (l : List Entry). AreFit (start plan) (words_in l)) (append_assoc front g.put (joined groups)) (fit_from plan (front ++ g.put) groups longer h.1)

-- ---- what nobody was there for

-- the words of a row that the graph takes are all read
fit_named : (s : State) (row : List Entry) → AreFit s (words_in row) → words_in row ≡ map word_of (history_of row)
fit_named s [] h = refl
fit_named s (x ∷ row) h =
    ap (λ (l : List ℕ). x.word ∷ l) (fit_named ((answered s h.0).1) row h.5) ∙ ap (λ (w : ℕ). w ∷ map word_of (history_of row)) (sym h.2) ∙ ap (map word_of) (sym (fit_state s x.word (words_in row) h.0 h.1))

fit_front : (s : State) (row rest : List Entry) → AreFit s (words_in (row ++ rest)) → AreFit s (words_in row)
fit_front s [] rest h = tt
fit_front s (x ∷ row) rest h = (h.0, h.1, h.2, h.3, h.4, fit_front ((answered s h.0).1) row rest h.5)

fit_behind : (s : State) (row rest : List Entry) → AreFit s (words_in (row ++ rest)) → AreFit (state_after s (history_of row)) (words_in rest)
fit_behind s [] rest h = h
fit_behind s (x ∷ row) rest h =
    subst (λ (es : List Event). AreFit (state_after s es) (words_in rest)) (sym (fit_state s x.word (words_in row) h.0 h.1)) (fit_behind ((answered s h.0).1) row rest h.5)

taken_behind : (s : State) (xs ys : List Event) → AreTaken s (xs ++ ys) → AreTaken (state_after s xs) ys
taken_behind s [] ys h = h
taken_behind s (x ∷ xs) ys h = taken_behind ((answered s x).1) xs ys h.1

fill : (plan : Planned) (s n : ℕ) (seen rest : List Entry) (rs : List Record) (state : State) → n ≡ length seen → state ≡ state_after (start plan) (history_of seen) → IsKept (record { plan = plan; events = history_of seen; free = 0 }) s seen rs →
    AreFit state (words_in rest) → AreTaken state (history_of rest) → IsKept (record { plan = plan; events = history_of (seen ++ rest); free = 0 }) s (seen ++ rest) (rs ++ unread s n state rest (history_of rest))
fill plan s n seen [] rs state count is kept fit taken =
    subst (λ (l : List Entry). IsKept (record { plan = plan; events = history_of l; free = 0 }) s l (rs ++ [])) (sym (append-nil seen))
    (subst (λ (l : List Record). IsKept (record { plan = plan; events = history_of seen; free = 0 }) s seen l) (sym (append-nil rs)) kept)
fill plan s n seen (x ∷ rest) rs state count is kept fit taken =
    let e = fit.0 in
    let split = fit_state state x.word (words_in rest) e fit.1 in
    let both : AreTaken state (e ∷ history_of rest) = subst (AreTaken state) split taken in
    let pushed = history_push seen x e kept.named fit.1 in
    let here = state_after (start plan) (history_of seen) in
    let reply = (answered state e).0 in
    let next : (answered state e).1 ≡ state_after (start plan) (history_of (seen ++ x ∷ [])) =
    ap (λ (t : State). (answered t e).1) is ∙ sym (state_after-append (start plan) (history_of seen) (e ∷ [])) ∙ ap (state_after (start plan)) (sym pushed) in
    let old : Ledger = record { plan = plan; events = history_of seen; free = 0 } in
    let new : Ledger = record { plan = plan; events = history_of (seen ++ x ∷ []); free = 0 } in
    let does : Does x.word old reply new = record {
      event = e;
      read = fit.1;
      named = fit.2;
      taken = subst (λ (t : State). IsTaken t e) is both.0;
      told = ap (λ (t : State). (reply, t)) (sym next) ∙ ap (λ (t : State). answered t e) is;
      written = ap (λ (es : List Event). let l : Ledger = record { plan = plan; events = es; free = 0 } in l) pushed;
    } in
    let b = eqb (session_of x.token) s in
    let record_is = cond b (Did (suc n) e reply ∷ []) [] in
    let one : IsKept new s (seen ++ x ∷ []) (rs ++ record_is) =
    subst (λ (m : ℕ). IsKept new s (seen ++ x ∷ []) (rs ++ cond b (Did m e reply ∷ []) [])) (let h : length seen + 1 ≡ suc n = omega (arith, count) in h) (kept_push old new s seen rs x e reply kept fit.1 does) in
    let all = fill plan s (suc n) (seen ++ x ∷ []) rest (rs ++ record_is) ((answered state e).1) (let size = length-append seen (x ∷ []) in omega (arith, size, count)) next one fit.5 both.1 in
    let joined_up : IsKept (record { plan = plan; events = history_of (seen ++ x ∷ rest); free = 0 }) s (seen ++ x ∷ rest) ((rs ++ record_is) ++ unread s (suc n) ((answered state e).1) rest (history_of rest)) =
    subst (λ (l : List Entry). IsKept (record { plan = plan; events = history_of l; free = 0 }) s l ((rs ++ record_is) ++ unread s (suc n) ((answered state e).1) rest (history_of rest))) (append_assoc seen (x ∷ []) rest) all in
    subst (λ (l : List Record). IsKept (record { plan = plan; events = history_of (seen ++ x ∷ rest); free = 0 }) s (seen ++ x ∷ rest) l)
    (append_assoc rs record_is (unread s (suc n) ((answered state e).1) rest (history_of rest)) ∙ ap (λ (es : List Event). rs ++ unread s n state (x ∷ rest) es) (sym split)) joined_up

-- an account that was completed fits the whole row
complete : (plan : Planned) (row : List Entry) (a : Account) → AreFit (start plan) (words_in row) → AreTaken (start plan) (history_of row) → GivesAccount plan row a → FitsUpTo plan a.session (length row) row (completed plan row a).records
complete plan row a fit taken g =
    let seen = a.seen in
    let rest = g.begins.rest in
    let is : row ≡ seen ++ rest = g.begins.is in
    let fit2 : AreFit (start plan) (words_in (seen ++ rest)) = subst (λ (l : List Entry). AreFit (start plan) (words_in l)) is fit in
    let front = fit_front (start plan) seen rest fit2 in
    let behind = fit_behind (start plan) seen rest fit2 in
    let named = fit_named (start plan) seen front in
    let lifted = fits_lift plan a.room a.session seen a.records g.room g.fits in
    let whole_seen : take (length seen) seen ≡ seen = take_all (length seen) seen (omega arith) in
    let kept : IsKept (record { plan = plan; events = history_of seen; free = 0 }) a.session seen a.records = record {
      events = refl;
      named = named;
      own = lifted.did ∙ ap (own_in a.session) whole_seen;
      answers = lifted.answers;
      order = lifted.order;
      taken = subst (λ (l : List Entry). AreTaken (start plan) (history_of l)) whole_seen lifted.taken;
    } in
    let split : history_of row ≡ history_of seen ++ history_of rest = ap history_of is ∙ history_append seen rest named in
    let state = state_after (start plan) (history_of seen) in
    let filled = fill plan a.session (length seen) seen rest a.records state refl refl kept behind (taken_behind (start plan) (history_of seen) (history_of rest) (subst (AreTaken (start plan)) split taken)) in
    let dropped : drop (length seen) row ≡ rest = ap (drop (length seen)) is ∙ drop_at seen rest (length seen) refl in
    let begins : BeginsWith (seen ++ rest) (seen ++ rest) = record { rest = []; is = sym (append-nil (seen ++ rest)) } in
    let l : Ledger = record { plan = plan; events = history_of (seen ++ rest); free = 0 } in
    let done = fits_row l a.session (seen ++ rest) (seen ++ rest) (a.records ++ unread a.session (length seen) state rest (history_of rest)) filled begins in
    subst (λ (r : List Entry). FitsUpTo plan a.session (length row) row (a.records ++ unread a.session (length seen) state r (history_of r))) (sym dropped)
    (subst (λ (r : List Entry). FitsUpTo plan a.session (length r) r (a.records ++ unread a.session (length seen) state rest (history_of rest))) (sym is) done)

-- ---- all of them

history_size : (s : State) (row : List Entry) → AreFit s (words_in row) → length row ≡ length (history_of row)
history_size s row fit = sym (history_count row (fit_named s row fit))

same_sessions : (plan : Planned) (row : List Entry) (accounts : List Account) → map (λ (a : Account). a.session) (all_completed plan row accounts) ≡ map (λ (a : Account). a.session) accounts
same_sessions plan row [] = refl
same_sessions plan row (a ∷ accounts) = ap (λ (l : List ℕ). a.session ∷ l) (same_sessions plan row accounts)

one_completed : (plan : Planned) (row : List Entry) (accounts : List Account) → AreOfOneEach accounts → AreOfOneEach (all_completed plan row accounts)
one_completed plan row [] h = tt
one_completed plan row (a ∷ accounts) h = (All-map (λ (b : Account). b.session ≢ a.session) (completed plan row) accounts h.0, one_completed plan row accounts h.1)

pub whole_row : (plan : Planned) (groups : List Group) (accounts : List Account) → AreBehind plan [] groups → All (GivesAccount plan (joined groups)) accounts →
    All (λ (x : Entry). Contains (map (λ (a : Account). a.session) accounts) (session_of x.token)) (joined groups) → AreOneHistory plan (joined groups) accounts
whole_row plan groups accounts behind give sessions =
    let row = joined groups in
    let fit : AreFit (start plan) (words_in row) = fit_from plan [] groups tt behind in
    let taken = fit_taken (start plan) (words_in row) fit in
    let rules = ruled (pairs_of row) (follow_all plan [] groups behind) in
    let told = all_completed plan row accounts in
    let each : All (IsAccountOf plan row) told =
    All-map (IsAccountOf plan row) (completed plan row) accounts
    (All-weaker (GivesAccount plan row) (λ (a : Account). IsAccountOf plan row (completed plan row a)) (λ a h. record { number = h.number; fits = complete plan row a fit taken h }) accounts give) in
    let known = known_numbers plan row told rules.one_each each (subst (λ (l : List ℕ). All (λ (x : Entry). Contains l (session_of x.token)) row) (sym (same_sessions plan row accounts)) sessions) in
    let few : All (λ (x : Entry). who_at x.word < count_of told) row = All-weaker (λ (x : Entry). Contains (map (λ (a : Account). a.number) told) (who_at x.word)) (λ (x : Entry). who_at x.word < count_of told) (λ x h. below_count told (who_at x.word) h) row known in
    let callers = callers_of told in
    let count : count_of told ≡ length callers = sym (callers_count (count_of told) told) in
    record {
      each = All-weaker (IsAccountOf plan row) (λ (a : Account). FitsUpTo plan a.session (length row) row a.records) (λ a h. h.fits) told each;
      one = λ diff. record {
        taken = fit_events (length callers) (start plan) row fit (subst (λ (n : ℕ). All (λ (x : Entry). who_at x.word < n) row) count few);
        each = callers_fit plan row told (count_of told) fit (history_size (start plan) row fit) rules.one_each each (one_completed plan row accounts diff) (subst (λ (l : List ℕ). All (λ (x : Entry). Contains l (session_of x.token)) row) (sym (same_sessions plan row accounts)) sessions);
        no_other = fit_known (λ (c : ℕ). Contains (numbers_of callers) c) (start plan) row fit (All-weaker (λ (x : Entry). who_at x.word < count_of told) (λ (x : Entry). Contains (numbers_of callers) (who_at x.word)) (λ x h. callers_known told (count_of told) (who_at x.word) h) row few);
      };
      granted_once = λ i. grants_once (start plan) (history_of row) i;
    }

pub all_follow : AllFollowTheRule
all_follow plan asked row run =
    let m = made plan [] row asked run in
    subst (λ (l : List Entry). AllFollow [] (pairs_of l)) (sym m.is) (follow_all plan [] m.groups m.behind)

pub whole : RowsAreOneHistory
whole plan asked row accounts run give =
    let m = made plan [] row asked run in
    let is : row ≡ joined m.groups = m.is in
    subst (λ (r : List Entry). AreOneHistory plan r accounts) (sym is)
    (whole_row plan m.groups accounts m.behind (subst (λ (r : List Entry). All (GivesAccount plan r) accounts) is give.0)
    (subst (λ (r : List Entry). All (λ (x : Entry). Contains (map (λ (a : Account). a.session) accounts) (session_of x.token)) r) is give.1))
