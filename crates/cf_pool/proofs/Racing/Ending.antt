-- What a run leaves of a race.
use Rattle.std.proofs.Common.{◌≡◌, ◌≢◌, ℕ, ◌+◌, ◌<◌, ◌≤◌, ◌⊎◌, inl, inr, Bool, true, false, cond, eqb, eq-eqb, List, [], ◌∷◌, ◌++◌, length, map, take, sym, refl, ap, ◌∙◌, subst, arith}
use Rattle.std.specs.List.{All, AllZip}
use Rattle.std.proofs.lemmas.Bool.{eqb-false, cases_lt}
use Rattle.std.proofs.lemmas.List.Elements.{All-cons, All-head, All-tail, All-weaker}
use Rattle.cf_forms.specs.Plans.{Planned}
use Rattle.cf_model.specs.declared.events.Event.{Event}
use Rattle.cf_model.specs.Calls.{who_of}
use Rattle.cf_pool.specs.Answering.{Answers}
use Rattle.cf_desk.specs.declared.row.DeskConfig.{DeskConfig}
use Rattle.cf_desk.specs.Keepings.{IsKeptFit, pass_did}
use Rattle.cf_desk.specs.Laws.{call_of}
use Rattle.cf_event.specs.Events.{events_of, own}
use Rattle.cf_desk.specs.Log.{state_from}
use Rattle.cf_desk.specs.Records.{Fits, dids}
use Rattle.cf_desk.specs.Rule.{count_in, weight}
use Rattle.cf_desk.specs.Views.{Pass, Desk, knowns}
use Rattle.cf_desk.proofs.Histories.{calls_of}
use Rattle.cf_desk.proofs.Recs.{fits_more, fits_new}
use Rattle.cf_pool.specs.Works.{Works}
use Rattle.cf_pool.specs.Records.{recorded}
use Rattle.cf_pool.specs.Beginnings.{IsApart, HasDoneSteps}
use Rattle.cf_pool.proofs.Racing.Counts.{ByCaller}
use Rattle.cf_pool.proofs.Racing.Joining.{HadBegun, Shares, absent_records, each_pass, last_plan}

-- ---- what caller 0 had seen was the steps alone

own_split : (b : Bool) (w : Event) (ws : List Event) → cond b (w ∷ ws) ws ≡ [] → (b ≡ false) × (ws ≡ [])
own_split true w ws e = absurd (let l = ap length e in omega arith)
own_split false w ws e = (refl, e)

-- where no other caller has an event, all are this one's
pub all_own : (callers c : ℕ) (ws : List Event) → All (λ e. who_of e < callers) ws → ((k : ℕ) → k ≢ c → k < callers → own k ws ≡ []) → own c ws ≡ ws
all_own callers c [] h none = refl
all_own callers c (w ∷ ws) h none =
    (λ i. cond (mine i) (w ∷ own c ws) (own c ws))
    ∙ ap (λ l. w ∷ l) (all_own callers c ws (All-tail (λ e. who_of e < callers) w ws h) (λ k ne less. (own_split (eqb (who_of w) k) w (own k ws) (none k ne less)).1))
  where
    mine : eqb (who_of w) c ≡ true
    mine = split (eqb (who_of w) c) refl
      where
        split : (b : Bool) → eqb (who_of w) c ≡ b → b ≡ true
        split true t = refl
        split false t =
            let other : who_of w ≢ c = eqb-false (who_of w) c t in
            let f = (own_split (eqb (who_of w) (who_of w)) w (own (who_of w) ws) (none (who_of w) other (All-head (λ e. who_of e < callers) w ws h))).0 in
            let same = eq-eqb (who_of w) (who_of w) refl in
            let nothing : ⊥ = cc in absurd nothing

own_kept : (b : Bool) (P : Event → Type 0) (w : Event) (ws : List Event) → P w → All P ws → All P (cond b (w ∷ ws) ws)
own_kept true P w ws h all = All-cons P w ws h all
own_kept false P w ws h all = all

-- what holds of all events holds of one caller's
pub own_all : (P : Event → Type 0) (c : ℕ) (ws : List Event) → All P ws → All P (own c ws)
own_all P c [] h = h
own_all P c (w ∷ ws) h = own_kept (eqb (who_of w) c) P w (own c ws) (All-head P w ws h) (own_all P c ws (All-tail P w ws h))

pub back_all : (P : Event → Type 0) (xs ys : List Event) → All P (xs ++ ys) → All P ys
back_all P [] ys h = h
back_all P (x ∷ xs) ys h = back_all P xs ys (All-tail P x (xs ++ ys) h)

-- ---- what the passes held before

pub first_begun : (d : Desk) (steps : List Event) (calls : ℕ) (p : Pass) → HasDoneSteps d steps p → p.calls ≡ calls → HadBegun d.setting p.known.seen (length steps) calls p
first_begun d steps calls p t room = record {
  setting_is = t.done.of.1;
  fits = subst (λ (s : DeskConfig). Fits s.plan p.known.caller p.known.seen p.records) t.done.of.1 t.done.fit;
  few = (let h = t.done.held in let f = t.few in omega arith);
  calls_are = room;
}

apart_begun : (d : Desk) (seen : List Event) (most calls : ℕ) (p : Pass) → IsApart d calls seen p → HadBegun d.setting seen most calls p
apart_begun d seen most calls p a = record {
  setting_is = a.of.1;
  fits = subst (Fits d.setting.plan p.known.caller seen) (sym a.idle) (fits_more d.setting.plan p.known.caller [] seen [] (record { others = seen; joined = refl; none = a.none }) (fits_new d.setting.plan p.known.caller));
  few = (let e : length p.records ≡ 0 = ap length a.idle in omega arith);
  calls_are = a.room;
}

pub others_begun : (d : Desk) (seen : List Event) (most calls : ℕ) (ps : List Pass) → All (IsApart d calls seen) ps → All (HadBegun d.setting seen most calls) ps
others_begun d seen most calls ps a = All-weaker (IsApart d calls seen) (HadBegun d.setting seen most calls) (apart_begun d seen most calls) ps a

-- ---- caller 0 had seen the steps that it did, and nothing else

pub own_none : (d : Desk) (calls : ℕ) (plan : Planned) (history : List Event) (answers : Answers) (seen : List Event) (c : ℕ) (ps qs : List Pass) → AllZip (Works answers) ps qs → All (IsApart d calls seen) ps → All (IsKeptFit plan history) (map pass_did qs)
    → 0 < count_in c (knowns qs) → own c seen ≡ []
own_none d calls plan history answers seen = each_pass plan history (Works answers) (IsApart d calls seen) (λ c. own c seen ≡ []) (λ p q w. w.same.2) (λ p q w a fit. a.none)

pub weigh_zero : (b : Bool) (n : ℕ) → b ≡ false → weight b + n ≡ 1 → 0 < n
weigh_zero true n e l = cc
weigh_zero false n e l = omega arith

pub seen_is : (d : Desk) (steps : List Event) (p : Pass) (callers : ℕ) → (t : HasDoneSteps d steps p) → All (λ e. who_of e < callers) p.known.seen → ((c : ℕ) → 0 < c → c < callers → own c p.known.seen ≡ []) → p.known.seen ≡ take t.taken steps
seen_is d steps p callers t h none =
    let did : dids 0 p.records ≡ events_of 0 p.known.seen = subst (λ (c : ℕ). dids c p.records ≡ events_of c p.known.seen) t.done.caller t.done.fit.did in
    sym (all_own callers 0 p.known.seen h (λ c ne less. none c (omega (arith, ne)) less)) ∙ sym (calls_of 0 0 p.known.seen) ∙ sym (ap (map call_of) did) ∙ t.done.did

-- ---- the history of a run

-- it begins with what caller 0 had seen, and each caller goes on with work over the plan that it leaves
pub record Whole (answers : Answers) (setting : DeskConfig) (history seen work : List Event) : Type 0 where
  pub history_is : history ≡ seen ++ work
  pub by : All (ByCaller setting.callers) (seen ++ work)
  pub shares_of : (c : ℕ) → c < setting.callers → Shares answers (last_plan setting (seen ++ work)) (recorded c (length seen) (state_from setting.plan seen) work)

no_work : (answers : Answers) (plan : Planned) → Shares answers plan []
no_work answers plan = record { work = tt; once = λ i. omega arith }

pub all_share : (answers : Answers) (setting : DeskConfig) (history seen work : List Event) → Whole answers setting history seen work → (c : ℕ) → Shares answers (last_plan setting (seen ++ work)) (recorded c (length seen) (state_from setting.plan seen) work)
all_share answers setting history seen work w c = split (cases_lt c setting.callers)
  where
    split : (c < setting.callers) ⊎ (setting.callers ≤ c) → Shares answers (last_plan setting (seen ++ work)) (recorded c (length seen) (state_from setting.plan seen) work)
    split (inl l) = w.shares_of c l
    split (inr l) = subst (Shares answers (last_plan setting (seen ++ work)))
        (sym (absent_records setting.callers c (length seen) (state_from setting.plan seen) work l (back_all (ByCaller setting.callers) seen work w.by)))
        (no_work answers (last_plan setting (seen ++ work)))
