-- What the last seat shows, where it stands for every pass.
use Rattle.cf_forms.specs.Plans.{Planned}
use Rattle.std.proofs.Common.{◌≡◌, ℕ, zero, suc, ◌+◌, ◌-◌, ◌<◌, ◌≤◌, ◌≢◌, ◌⊎◌, Bool, true, false, eqb, leb, ⊎_elim, length-append, eq-eqb, ne_eqb, Option, Some, None, List, [], ◌∷◌, ◌++◌, map, length, replicate, All, sym, refl, drop, ap, ◌∙◌, subst, append-nil, arith}
use Rattle.std.proofs.lemmas.List.Elements.{All-nil, All-cons, All-head, All-tail, All-weaker}
use mathlib.Core.Logic.{dite}
use native.Mathlib.Decide.{ℕ_discrete}
use mathlib.Core.Option.{some, some-injective, some-ne-none}
use Rattle.std.proofs.lemmas.List.{length-replicate, length-map}
use Rattle.atomic_table.proofs.Lists.{drop_at}
use lib.ListN.{get_elem?}
use Rattle.atomic_table.specs.Table.{Final, Seen, Me}
use Rattle.atomic_table.specs.Seated.{TableId}
use mathlib.Core.List.{map-append}
use Rattle.cf_desk.proofs.Lists.{same_rest}
use Rattle.cf_desk.specs.declared.calls.Rec.{Rec}
use Rattle.cf_model.specs.declared.events.Event.{Event}
use Rattle.cf_desk.specs.declared.row.DeskConfig.{DeskConfig}
use Rattle.cf_desk.specs.declared.row.LogConfig.{LogConfig}
use Rattle.cf_desk.specs.declared.row.CallerView.{CallerView}
use Rattle.cf_model.specs.States.{State, start}
use Rattle.cf_model.specs.Calls.{who_of}
use Rattle.cf_event.specs.Words.{IsEvent, word_of}
use Rattle.cf_event.specs.Decoding.{decoded, decoded_with, event_of}
use Rattle.cf_event.proofs.WordLemmas.{decoded_words}
use Rattle.cf_event.specs.Events.{own, AreEventsOf}
use Rattle.cf_desk.specs.Log.{AreLogged, Catches, state_from}
use Rattle.cf_event.proofs.Events.{events_after, events_each}
use Rattle.cf_desk.specs.Records.{Fits}
use Rattle.cf_desk.specs.Rule.{AllStand, IsLookOf, weight, count_in, IsRow, RowKept, holds, longer_if, longest, with_seen, level, AllCatch, AllShort, blank, fresh, first, head_of, rest_of}
use Rattle.cf_desk.specs.Views.{Pass, Desk, knowns, Closes, IsOneOf, IsLatest, IsOf, new_pass, opened, known_of}
use Rattle.cf_desk.specs.Keepings.{IsCallers, IsFit, IsKeptFit, AllFit, pass_did}
use Rattle.std.specs.List.{Contains}
use Rattle.cf_desk.specs.Desks.{Agrees}
use Rattle.cf_desk.proofs.Recs.{fits_more, fits_new}
use Rattle.cf_desk.proofs.Keeps.{count_at}
use Rattle.cf_desk.proofs.Meets.{stand_levelled, longest_begins}

-- the passes of the callers below n
below : ℕ → List CallerView → ℕ
below zero v = 0
below (suc n) v = count_in n v + below n v

hits : ℕ → ℕ → ℕ
hits zero c = 0
hits (suc n) c = weight (eqb c n) + hits n c

hits_none : (n c : ℕ) → n ≤ c → hits n c ≡ 0
unfolding hits
hits_none zero c h = refl
hits_none (suc n) c h = let ne : c ≢ n = omega arith in let w : weight (eqb c n) ≡ 0 = ap weight (ne_eqb c n ne) in let r = hits_none n c (omega arith) in omega arith

hits_one : (n c : ℕ) → c < n → hits n c ≡ 1
unfolding hits
hits_one zero c h = absurd (omega arith)
hits_one (suc n) c h = dite (ℕ_discrete c n)
    (λ (same : c ≡ n). let w : weight (eqb c n) ≡ 1 = ap weight (eq-eqb c n same) in let r = hits_none n c (let e : c ≡ n = same in omega arith) in omega arith)
    (λ (ne : c ≢ n). let w : weight (eqb c n) ≡ 0 = ap weight (ne_eqb c n ne) in let r = hits_one n c (let m : c ≢ n = ne in omega arith) in omega arith)

below_none : (n : ℕ) → below n [] ≡ 0
unfolding below
below_none zero = refl
below_none (suc n) = let r = below_none n in omega arith

below_cons : (n : ℕ) (k : CallerView) (ks : List CallerView) → below n (k ∷ ks) ≡ hits n k.caller + below n ks
unfolding below hits
below_cons zero k ks = refl
below_cons (suc n) k ks = let r = below_cons n k ks in omega arith

-- the pass is of one of so many callers
abbrev pub IsOneOfMany : ℕ → CallerView → Type 0
IsOneOfMany n k = k.caller < n

below_all : (n : ℕ) (v : List CallerView) → All (IsOneOfMany n) v → below n v ≡ length v
below_all n [] h = below_none n
below_all n (k ∷ ks) h = let a = below_cons n k ks in let o = hits_one n k.caller (All-head (IsOneOfMany n) k ks h) in let r = below_all n ks (All-tail (IsOneOfMany n) k ks h) in omega arith

below_le : (n : ℕ) (v : List CallerView) → ((c : ℕ) → c < n → count_in c v ≤ 1) → below n v ≤ n
unfolding below
below_le zero v once = omega arith
below_le (suc n) v once = let o = once n (omega arith) in let r = below_le n v (λ c lt. once c (omega arith)) in omega arith

-- n passes of callers below n, no two of one caller: each has one
all_there : (n : ℕ) (v : List CallerView) → ((c : ℕ) → c < n → count_in c v ≤ 1) → below n v ≡ n → (c : ℕ) → c < n → count_in c v ≡ 1
unfolding below
all_there zero v once full c h = absurd (omega arith)
all_there (suc n) v once full c h = let o = once n (omega arith) in let fewer : ((x : ℕ) → x < n → count_in x v ≤ 1) = λ x lt. once x (omega arith) in let le = below_le n v fewer in dite (ℕ_discrete c n)
    (λ (same : c ≡ n). let one : count_in n v ≡ 1 = omega arith in subst (λ x. count_in x v ≡ 1) (sym same) one)
    (λ (ne : c ≢ n). all_there n v fewer (omega arith) c (let m : c ≢ n = ne in omega arith))

none_of : (callers : DeskConfig) (now rest : List Event) (v : List CallerView) → AllStand callers (now ++ rest) (map (with_seen now) v) → (c : ℕ) → count_in c v ≡ 1 → own c rest ≡ []
none_of callers now rest [] h c one = absurd (omega arith)
none_of callers now rest (k ∷ ks) h c one = dite (ℕ_discrete k.caller c)
    (λ (same : k.caller ≡ c). subst (λ x. own x rest ≡ []) same (subst (λ l. own k.caller l ≡ []) (same_rest now h.0.rest rest (sym h.0.split)) h.0.none))
    (λ (ne : k.caller ≢ c). none_of callers now rest ks h.1 c (let w : weight (eqb k.caller c) ≡ 0 = ap weight (ne_eqb k.caller c ne) in omega arith))

nobodys : (callers : DeskConfig) (s : State) (rest : List Event) → AreEventsOf callers.callers callers.functions s rest → ((c : ℕ) → c < callers.callers → own c rest ≡ []) → rest ≡ []
nobodys callers s [] events none = refl
nobodys callers s (w ∷ ws) events none =
    let e = events.0 in
    let is : w ∷ own (who_of w) ws ≡ [] = subst (λ b. Rattle.std.proofs.Common.cond b (w ∷ own (who_of w) ws) (own (who_of w) ws) ≡ []) (eq-eqb (who_of w) (who_of w) refl) (none (who_of w) e.caller) in
    cc

-- a seat that stands for as many passes as there are callers has seen the whole log
pub whole : (t : LogConfig) (words : List ℕ) (views : List (List CallerView)) (h : RowKept t words views) (id : ℕ) (v : List CallerView) → get_elem? views id ≡ some v → All (IsOneOfMany t.setting.callers) v → length v ≡ t.setting.callers
    → IsRow t (longest v) words × AllCatch (longest v) v
whole t words views h id v at callers all =
    let stand = h.known id v at in
    let begins = longest_begins t.setting h.log v stand in
    let p = stand_levelled t.setting h.log v stand in
    let once : (c : ℕ) → c < t.setting.callers → count_in c v ≤ 1 = λ c lt. let a = h.apart c lt in let b = count_at c views id v at in omega arith in
    let full : below t.setting.callers v ≡ t.setting.callers = below_all t.setting.callers v callers ∙ all in
    let none : begins.0 ≡ [] = nobodys t.setting (state_from t.setting.plan (longest v)) begins.0 (events_after t.setting.callers t.setting.functions (start t.setting.plan) (longest v) begins.0 (subst (AreLogged t.setting) begins.1 h.row.events))
    (λ c lt. none_of t.setting (longest v) begins.0 v (subst (λ l. AllStand t.setting l (level v)) begins.1 p.1) c (all_there t.setting.callers v once full c lt)) in
    let is : h.log ≡ longest v = begins.1 ∙ ap (λ l. longest v ++ l) none ∙ append-nil (longest v) in
    (subst (λ l. IsRow t l words) is h.row, p.0)

pub each_there : (t : LogConfig) (words : List ℕ) (views : List (List CallerView)) (h : RowKept t words views) (id : ℕ) (v : List CallerView) → get_elem? views id ≡ some v → All (IsOneOfMany t.setting.callers) v → length v ≡ t.setting.callers → (c : ℕ) → c < t.setting.callers → count_in c v ≡ 1
each_there t words views h id v at callers all c lt =
    let once : (c : ℕ) → c < t.setting.callers → count_in c v ≤ 1 = λ c lt. let a = h.apart c lt in let b = count_at c views id v at in omega arith in
    all_there t.setting.callers v once (below_all t.setting.callers v callers ∙ all) c lt

-- a new row keeps the rule
fresh_none : (n : DeskConfig) (c m x : ℕ) → x < c → count_in x (fresh n c m) ≡ 0
fresh_none n c zero x h = refl
fresh_none n c (suc m) x h = let ne : c ≢ x = omega arith in let w : weight (eqb c x) ≡ 0 = ap weight (ne_eqb c x ne) in let r = fresh_none n (suc c) m x (omega arith) in omega arith

fresh_once : (n : DeskConfig) (c m x : ℕ) → count_in x (fresh n c m) ≤ 1
fresh_once n c zero x = omega arith
fresh_once n c (suc m) x = dite (ℕ_discrete c x)
    (λ (same : c ≡ x). let w : weight (eqb c x) ≡ 1 = ap weight (eq-eqb c x same) in let r = fresh_none n (suc c) m x (let e : c ≡ x = same in omega arith) in omega arith)
    (λ (ne : c ≢ x). let w : weight (eqb c x) ≡ 0 = ap weight (ne_eqb c x ne) in let r = fresh_once n (suc c) m x in omega arith)

fresh_stand : (n : DeskConfig) (c m : ℕ) → c + m ≤ n.callers → AllStand n [] (fresh n c m)
fresh_stand n c zero h = tt
fresh_stand n c (suc m) h = (record { terms = refl; caller = omega arith; rest = []; split = refl; none = refl; looks = record { filled = (omega arith); since = []; are = refl; looks = All-nil (IsLookOf 0 []) } }, fresh_stand n (suc c) m (omega arith))

pub begins : (t : LogConfig) (words : List ℕ) → words ≡ replicate t.words 0 → RowKept t words (first t ∷ [])
begins t words zeros = record {
  log = [];
  row = record { free = t.words; words_are = zeros; room = ap length zeros ∙ length-replicate {A = ℕ} t.words 0; events = tt };
  known = λ id v at. only id v at;
  apart = λ c below. let o = fresh_once t.setting 0 t.setting.callers c in omega arith;
}
  where
    only : (id : ℕ) (v : List CallerView) → get_elem? (first t ∷ []) id ≡ some v → AllStand t.setting [] v
    only zero v at = subst (AllStand t.setting []) (some-injective (first t) v at) (fresh_stand t.setting 0 t.setting.callers (omega arith))
    only (suc id) v at = absurd (some-ne-none v (sym at))

pub fresh_snoc : (n : DeskConfig) (c m : ℕ) → fresh n c (suc m) ≡ fresh n c m ++ blank n (c + m) ∷ []
fresh_snoc n c zero = ap (λ (x : ℕ). blank n x ∷ []) (let e : c ≡ c + 0 = omega arith in e)
fresh_snoc n c (suc m) = ap (λ l. blank n c ∷ l) (fresh_snoc n (suc c) m ∙ ap (λ (x : ℕ). fresh n (suc c) m ++ blank n x ∷ []) (let e : suc c + m ≡ c + suc m = omega arith in e))

pub fresh_head : (n : DeskConfig) (c m k : ℕ) → m ≡ suc k → (head_of (fresh n c m) ≡ blank n c ∷ []) × (rest_of (fresh n c m) ≡ fresh n (c + 1) k)
fresh_head n c m k e = subst (λ (x : ℕ). (head_of (fresh n c x) ≡ blank n c ∷ []) × (rest_of (fresh n c x) ≡ fresh n (c + 1) k)) (sym e) (refl, ap (λ (x : ℕ). fresh n x k) (let p : suc c ≡ c + 1 = omega arith in p))

-- the decoded words of a row are those of its log's events
logged_events : (t : DeskConfig) (log : List Event) → AreLogged t log → All IsEvent log
logged_events t log h = events_each IsEvent t.callers t.functions (λ s e is. is.event) (start t.plan) log h

pub decoded_log : (t : LogConfig) (log : List Event) (words : List ℕ) → IsRow t log words → decoded words ≡ log
decoded_log t log words r = ap decoded r.words_are ∙ decoded_words log r.free (logged_events t.setting log r.events)

pub decoded_stop : (ws : List ℕ) (i w : ℕ) → get_elem? ws i ≡ some w → event_of w ≡ None → decoded (drop i ws) ≡ []
decoded_stop ws i w at none = ap decoded (drop_at ws i w at) ∙ ap (λ (o : Option Event). decoded_with o (decoded (drop (suc i) ws))) none

pub decoded_more : (ws : List ℕ) (i w : ℕ) (e : Event) → get_elem? ws i ≡ some w → event_of w ≡ Some e → decoded (drop i ws) ≡ e ∷ decoded (drop (i + 1) ws)
decoded_more ws i w e at is = ap decoded (drop_at ws i w at) ∙ ap (λ (o : Option Event). decoded_with o (decoded (drop (suc i) ws))) is ∙ ap (λ (x : ℕ). e ∷ decoded (drop x ws)) (let p : suc i ≡ i + 1 = omega arith in p)

-- what the last seat shows of the passes
begins_all : (history : List Event) (ps : List Pass) → AllCatch history (knowns ps) → All (λ (p : Pass). Catches p.known.caller p.known.seen history) ps
begins_all history [] h = All-nil (λ (p : Pass). Catches p.known.caller p.known.seen history)
begins_all history (p ∷ ps) h = All-cons (λ (p : Pass). Catches p.known.caller p.known.seen history) p ps h.0 (begins_all history ps h.1)

fits_all : (t : DeskConfig) (log history : List Event) (ps : List Pass) → AllStand t log (knowns ps) → AllCatch history (knowns ps) → All IsFit ps → All (IsKeptFit t.plan history) (map pass_did ps)
fits_all t log history [] s h d = All-nil (IsKeptFit t.plan history)
fits_all t log history (p ∷ ps) s h d = All-cons (IsKeptFit t.plan history) (pass_did p) (map pass_did ps)
    (subst (λ (x : DeskConfig). Fits x.plan p.known.caller history p.records) s.0.terms (fits_more p.known.setting.plan p.known.caller p.known.seen history p.records h.0 (All-head IsFit p ps d)))
    (fits_all t log history ps s.1 h.1 (All-tail IsFit p ps d))

-- a caller of which there is a pass is one of those of the passes
there : (c : ℕ) (ps : List Pass) → count_in c (knowns ps) ≡ 1 → Contains (map (λ (k : ℕ × List Rec). k.0) (map pass_did ps)) c
there c [] e = absurd (omega arith)
there c (p ∷ ps) e = dite (ℕ_discrete p.known.caller c)
    (λ (same : p.known.caller ≡ c). (0, omega arith, same))
    (λ (ne : p.known.caller ≢ c). let w : weight (eqb p.known.caller c) ≡ 0 = ap weight (ne_eqb p.known.caller c ne) in let r = there c ps (omega arith) in (suc r.0, (let l = r.1 in omega arith), r.2))

owned_all : (t : DeskConfig) (ps : List Pass) → ((c : ℕ) → c < t.callers → count_in c (knowns ps) ≡ 1) → (ws : List Event) → AreLogged t ws → All (λ w. Contains (map (λ (k : ℕ × List Rec). k.0) (map pass_did ps)) (who_of w)) ws
owned_all t ps each ws h = events_each (λ w. Contains (map (λ (k : ℕ × List Rec). k.0) (map pass_did ps)) (who_of w)) t.callers t.functions (λ s w is. there (who_of w) ps (each (who_of w) is.caller)) (start t.plan) ws h

-- the longest list of those that begin the history, which is one of them, is the history
pub longest_short : (n : ℕ) (v : List CallerView) → AllShort n v → length (longest v) ≤ n
longest_short n [] h = omega arith
longest_short n (k ∷ ks) h = longer_le (leb (length k.seen) (length (longest ks))) (longest_short n ks h.1)
  where
    longer_le : (b : Bool) → length (longest ks) ≤ n → length (longer_if b k.seen (longest ks)) ≤ n
    longer_le true le = le
    longer_le false le = h.0

one_begins : (t : DeskConfig) (log history : List Event) (plan : Planned) (seen : List Event) (v : List CallerView) → AllStand t log v → AllCatch history v → IsOneOf plan seen v → (plan ≡ t.plan) × ((rest : List Event) × (history ≡ seen ++ rest))
one_begins t log history plan seen [] s h o = absurd o
one_begins t log history plan seen (k ∷ ks) s h o = ⊎_elim
    (λ (p : (plan ≡ k.setting.plan) × (seen ≡ k.seen)). (p.0 ∙ ap (λ (x : DeskConfig). x.plan) s.0.terms, (h.0.others, h.0.joined ∙ ap (λ l. l ++ h.0.others) (sym p.1))))
    (λ (r : IsOneOf plan seen ks). one_begins t log history plan seen ks s.1 h.1 r)
    o

no_rest : (seen rest : List Event) → length (seen ++ rest) ≤ length seen → rest ≡ []
no_rest seen [] le = refl
no_rest seen (x ∷ xs) le = absurd (omega (arith, length-append seen (x ∷ xs)))

latest_whole : (t : DeskConfig) (log : List Event) (most : ℕ) (s : State) (v : List CallerView) → AllStand t log v → AllCatch (longest v) v → IsLatest most s v → s ≡ state_from t.plan (longest v)
latest_whole t log most s v stand catch l =
    let b = one_begins t log (longest v) l.plan l.seen v stand catch l.one in
    let none : b.1.0 ≡ [] = no_rest l.seen b.1.0 (let e = ap length b.1.1 in let m = longest_short most v l.short in let n = l.count in omega arith) in
    let is : l.seen ≡ longest v = sym (b.1.1 ∙ ap (λ x. l.seen ++ x) none ∙ append-nil l.seen) in
    l.state ∙ (λ i. state_from (b.0 i) (is i))

-- a seat of passes stands for none but callers of their desk
of_callers : (t : DeskConfig) (log : List Event) (ps : List Pass) → AllStand t log (knowns ps) → All IsCallers ps → All (IsOneOfMany t.callers) (knowns ps)
of_callers t log [] stand h = All-nil (IsOneOfMany t.callers)
of_callers t log (p ∷ ps) stand h =
    All-cons (IsOneOfMany t.callers) p.known (knowns ps) (subst (λ (x : DeskConfig). p.known.caller < x.callers) stand.0.terms (All-head IsCallers p ps h)) (of_callers t log ps stand.1 (All-tail IsCallers p ps h))

-- what the last seat shows
pub record Shown (d : Desk) (ps : List Pass) (most : ℕ) (replica : State) (history : List Event) : Type 0 where
  pub closes : Closes d ps history
  pub fit : AllFit d.setting.plan history (map pass_did ps)
  pub latest : replica ≡ state_from d.setting.plan history

row_room : (t : LogConfig) (log : List Event) (words : List ℕ) → IsRow t log words → length log ≤ t.words
row_room t log words r = let l = r.room in let w = ap length r.words_are in omega (arith, length-append (map word_of log) (replicate r.free 0), length-map log word_of, length-replicate {A = ℕ} r.free 0)

-- the desk of a row
abbrev pub desk_of : TableId → LogConfig → Desk
desk_of z t = record { table = z; setting = t.setting; words = t.words }

pub shows : {S : Type 0} (z : TableId) (t : LogConfig) (words : List ℕ) (slots : List S) (id : ℕ) (ps : List Pass) (most : ℕ) (replica : State) → length ps ≡ t.setting.callers → All IsCallers ps → All IsFit ps → IsLatest most replica (knowns ps)
    → Final (Seen (holds {S = S} t) id (knowns ps)) words slots → Shown (desk_of z t) ps most replica (decoded words)
shows z t words slots id ps most replica all owned fit latest f =
    let s = f.0 in
    let h = f.1.0 in
    let at = f.1.1 in
    let v = knowns ps in
    let stand = h.known id v at in
    let len : length v ≡ t.setting.callers = length-map ps (λ (p : Pass). p.known) ∙ all in
    let callers = of_callers t.setting h.log ps stand owned in
    let w = whole t s.words s.views h id v at callers len in
    let each = each_there t s.words s.views h id v at callers len in
    let is : decoded words ≡ longest v = ap decoded (sym f.2) ∙ decoded_log t (longest v) s.words w.0 in
    subst (Shown (desk_of z t) ps most replica) (sym is) (record {
      closes = record { longest = refl; begins = begins_all (longest v) ps w.1; events = w.0.events; each = each; room = row_room t (longest v) s.words w.0 };
      fit = record { each = fits_all t.setting h.log (longest v) ps stand w.1 fit; owned = owned_all t.setting ps each (longest v) w.0.events };
      latest = latest_whole t.setting h.log most replica v stand w.1 latest;
    })

pub shown_as : (z : TableId) (t : LogConfig) (words : List ℕ) (slots : List ℕ) (id : ℕ) (v : List CallerView) (ps : List Pass) (d : Desk) (most : ℕ) (replica : State) (history : List Event) → desk_of z t ≡ d → v ≡ knowns ps → length ps ≡ d.setting.callers → All IsCallers ps → All IsFit ps
    → IsLatest most replica (knowns ps) → history ≡ decoded words → Final (Seen (holds {S = ℕ} t) id v) words slots → Shown d ps most replica history
shown_as z t words slots id v ps d most replica history desk is all owned fit latest read f =
    subst (Shown d ps most replica) (sym read) (subst (λ (x : Desk). Shown x ps most replica (decoded words)) desk
    (shows {S = ℕ} z t words slots id ps most replica (all ∙ ap (λ (x : Desk). x.setting.callers) (sym desk)) owned fit
    latest
    (subst (λ (u : List CallerView). Final (Seen (holds {S = ℕ} t) id u) words slots) is f)))

pub new_one : (n : DeskConfig) (c : ℕ) (seat mine : Me ℕ (List CallerView)) → c < n.callers → seat ≡ (fresh n c (n.callers - c), []) → mine ≡ (head_of seat.0, []) → mine ≡ (blank n c ∷ [], [])
new_one n c seat mine lt s m = m ∙ (λ i. (head_of (s i).0, [])) ∙ (λ i. ((fresh_head n c (n.callers - c) (n.callers - (c + 1)) (omega arith)).0 i, []))

pub agrees_new : (n : DeskConfig) (c most : ℕ) (mine : Me ℕ (List CallerView)) (replica : State) (records : List Rec) → c < n.callers → n.callers ≤ 64 → most ≡ n.functions → mine ≡ (blank n c ∷ [], []) → replica ≡ start n.plan → records ≡ [] → Agrees (known_of mine.0) c most 0 replica records
agrees_new n c most mine replica records lt few functions me opening none = subst (λ (m : Me ℕ (List CallerView)). Agrees (known_of m.0) c most 0 replica records) (sym me) (record { caller = refl; one_of = lt; few = few; functions = functions; count = refl; state = opening; events = tt; fits = subst (Fits n.plan c []) (sym none) (fits_new n.plan c) })

-- what is left in the seat, once one pass more is split off
pub split_rest : (n : DeskConfig) (c : ℕ) (seat new : Me ℕ (List CallerView)) → c < n.callers → seat ≡ (fresh n c (n.callers - c), []) → new ≡ (rest_of seat.0, seat.1) → new ≡ (fresh n (c + 1) (n.callers - (c + 1)), [])
split_rest n c seat new lt s e = e ∙ (λ i. (rest_of (s i).0, (s i).1)) ∙ (λ i. ((fresh_head n c (n.callers - c) (n.callers - (c + 1)) (omega arith)).1 i, []))

-- one pass more is there
pub passes_next : (z : TableId) (n : DeskConfig) (c calls : ℕ) (passes now : List Pass) (pass : Pass) → passes ≡ map (new_pass z calls) (fresh n 0 c) → now ≡ passes ++ pass ∷ [] → pass ≡ new_pass z calls (blank n c) → now ≡ map (new_pass z calls) (fresh n 0 (c + 1))
passes_next z n c calls passes now pass p w is =
    w ∙ (λ i. p i ++ is i ∷ [])
    ∙ sym (map-append (new_pass z calls) (fresh n 0 c) (blank n c ∷ [])) ∙ ap (map (new_pass z calls)) (ap (λ (x : ℕ). fresh n 0 c ++ blank n x ∷ []) (let o : c ≡ 0 + c = omega arith in o) ∙ sym (fresh_snoc n 0 c) ∙ ap (λ (x : ℕ). fresh n 0 x) (let o : suc c ≡ c + 1 = omega arith in o))

-- the passes of a new desk are its own, one for each caller
fresh_of : (d : Desk) (calls c n : ℕ) → All (IsOf d) (map (new_pass d.table calls) (fresh d.setting c n))
fresh_of d calls c zero = All-nil (IsOf d)
fresh_of d calls c (suc n) = All-cons (IsOf d) (new_pass d.table calls (blank d.setting c)) (map (new_pass d.table calls) (fresh d.setting (suc c) n)) (refl, refl) (fresh_of d calls (suc c) n)

length_fresh : (n : DeskConfig) (c m : ℕ) → length (fresh n c m) ≡ m
length_fresh n c zero = refl
length_fresh n c (suc m) = let r = length_fresh n (suc c) m in omega arith

pub opened_count : (z : TableId) (n : DeskConfig) (calls : ℕ) → length (map (new_pass z calls) (fresh n 0 n.callers)) ≡ n.callers
opened_count z n calls = length-map (fresh n 0 n.callers) (new_pass z calls) ∙ length_fresh n 0 n.callers

pub opened_of : (d : Desk) (calls : ℕ) (items : List Pass) → items ≡ opened d.table d.setting calls → All (IsOf d) items
opened_of d calls items is = subst (All (IsOf d)) (sym is) (fresh_of d calls 0 d.setting.callers)

pub opened_there : (d : Desk) (calls : ℕ) (items : List Pass) → items ≡ opened d.table d.setting calls → All (λ (p : Pass). p.table ≡ d.table) items
opened_there d calls items is = All-weaker (IsOf d) (λ (p : Pass). p.table ≡ d.table) (λ p h. h.0) items (opened_of d calls items is)

pub opened_all : (d : Desk) (calls callers : ℕ) (items : List Pass) → items ≡ opened d.table d.setting calls → d.setting.callers ≡ callers → length items ≡ callers
opened_all d calls callers items is count = ap length is ∙ opened_count d.table d.setting calls ∙ count
