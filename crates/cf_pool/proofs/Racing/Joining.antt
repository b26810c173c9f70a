-- From what each pass holds to the one history: what each caller adds to it, and how long it is.
use Rattle.std.proofs.Common.{◌≡◌, ℕ, suc, ◌+◌, ◌*◌, ◌<◌, ◌≤◌, Bool, true, false, cond, eqb, None, List, [], ◌∷◌, ◌++◌, length, map, sym, refl, ap, ◌∙◌, subst, arith, length-append}
use Rattle.std.specs.List.{All, AllZip}
use Rattle.std.proofs.lemmas.Bool.{eqb-true}
use Rattle.std.proofs.lemmas.List.{append_cancel_left}
use Rattle.std.proofs.lemmas.List.Elements.{All-nil, All-cons, All-head, All-tail}
use Rattle.cf_forms.specs.Plans.{Planned}
use Rattle.cf_model.specs.declared.events.Event.{Event}
use Rattle.cf_model.specs.States.{State, start}
use Rattle.cf_model.specs.Events.{answered, state_after}
use Rattle.cf_model.specs.Growth.{Grows}
use Rattle.cf_model.proofs.Histories.{state_after-append}
use Rattle.cf_model.proofs.Shape.{state_after-grows}
use Rattle.cf_model.specs.Calls.{who_of}
use Rattle.cf_pool.specs.Answering.{Answers}
use Rattle.cf_desk.specs.declared.calls.Rec.{Rec}
use Rattle.cf_desk.specs.declared.row.DeskConfig.{DeskConfig}
use Rattle.cf_desk.specs.Keepings.{IsKeptFit, pass_did}
use Rattle.cf_desk.specs.Log.{Catches, state_from}
use Rattle.cf_desk.specs.Records.{Fits}
use Rattle.cf_desk.specs.Rule.{count_in, weight}
use Rattle.cf_desk.specs.Views.{Pass, knowns, state_of}
use Rattle.cf_pool.specs.Works.{Works, AreWork, claims_of}
use Rattle.cf_pool.specs.Records.{recorded}
use Rattle.cf_pool.proofs.Racing.Recorded.{only_dids, only_append, only_work, fits_recorded, recorded_append}
use Rattle.cf_pool.proofs.Working.{work_grown}
use Rattle.cf_pool.proofs.Racing.Counts.{grants_in, records_at_most, grants_at_most, claims_at_most, work_below}

-- ---- what a pass added is what the rest of the history makes of its caller's events

pub more_is : (answers : Answers) (plan : Planned) (seen work : List Event) (p q : Pass) (w : Works answers p q) → Fits plan p.known.caller seen p.records → Fits plan q.known.caller (seen ++ work) q.records
    → w.more ≡ recorded p.known.caller (length seen) (state_from plan seen) work
more_is answers plan seen work p q w before now =
    let c = p.known.caller in
    let now_p : Fits plan c (seen ++ work) q.records = subst (λ (k : ℕ). Fits plan k (seen ++ work) q.records) w.same.2 now in
    let a = fits_recorded plan c seen p.records before in
    let b = fits_recorded plan c (seen ++ work) q.records now_p in
    let added : only_dids q.records ≡ only_dids p.records ++ w.more =
    ap only_dids w.records ∙ only_append p.records w.more ∙ ap (λ l. only_dids p.records ++ l) (only_work answers (state_of q.known).plan None w.more w.work) in
    let place : 0 + length seen ≡ length seen = omega arith in
    append_cancel_left (recorded c 0 (start plan) seen) w.more (recorded c (length seen) (state_from plan seen) work)
    (ap (λ l. l ++ w.more) (sym a) ∙ sym added ∙ b ∙ recorded_append c 0 (start plan) seen work
    ∙ ap (λ (k : ℕ). recorded c 0 (start plan) seen ++ recorded c k (state_from plan seen) work) place)

-- ---- each caller has a pass

pub zip_both : {A B : Type 0} (R : A → B → Type 0) (C : B → Type 0) (xs : List A) (ys : List B) → AllZip R xs ys → All C ys → AllZip (λ x y. R x y × C y) xs ys
zip_both R C [] [] zip all = tt
zip_both R C [] (y ∷ ys) zip all = absurd zip
zip_both R C (x ∷ xs) [] zip all = absurd zip
zip_both R C (x ∷ xs) (y ∷ ys) zip all = ((zip.0, All-head C y ys all), zip_both R C xs ys zip.1 (All-tail C y ys all))

weigh_other : (b : Bool) (n : ℕ) → b ≡ false → 0 < weight b + n → 0 < n
weigh_other true n e l = cc
weigh_other false n e l = omega arith

-- what holds of each pass's caller holds of each caller who has a pass
pub each_pass : (plan : Planned) (history : List Event) (R : Pass → Pass → Type 0) (B : Pass → Type 0) (P : ℕ → Type 0)
    → ((p q : Pass) → R p q → q.known.caller ≡ p.known.caller)
    → ((p q : Pass) → R p q → B p → Fits plan q.known.caller history q.records → P p.known.caller)
    → (c : ℕ) (ps qs : List Pass) → AllZip R ps qs → All B ps → All (IsKeptFit plan history) (map pass_did qs) → 0 < count_in c (knowns qs) → P c
each_pass plan history R B P same holds c [] [] zip begun fit l = absurd (omega arith)
each_pass plan history R B P same holds c [] (q ∷ qs) zip begun fit l = absurd zip
each_pass plan history R B P same holds c (p ∷ ps) [] zip begun fit l = absurd zip
each_pass plan history R B P same holds c (p ∷ ps) (q ∷ qs) zip begun fit l = split (eqb q.known.caller c) refl (each_pass plan history R B P same holds c ps qs zip.1 (All-tail B p ps begun) (All-tail (IsKeptFit plan history) (pass_did q) (map pass_did qs) fit))
  where
    split : (b : Bool) → eqb q.known.caller c ≡ b → (0 < count_in c (knowns qs) → P c) → P c
    split true t rest = subst P (sym (same p q zip.0) ∙ eqb-true q.known.caller c t)
        (holds p q zip.0 (All-head B p ps begun) (All-head (IsKeptFit plan history) (pass_did q) (map pass_did qs) fit))
    split false t rest = rest (weigh_other (eqb q.known.caller c) (count_in c (knowns qs)) t l)

-- ---- what each caller records of the work

pub record Shares (answers : Answers) (plan : Planned) (rs : List Rec) : Type 0 where
  pub work : AreWork answers plan None rs
  pub once : (i : ℕ) → claims_of i rs ≤ 1

-- before its workers began, a pass held what its caller did of what was seen
pub record HadBegun (setting : DeskConfig) (seen : List Event) (most calls : ℕ) (p : Pass) : Type 0 where
  pub setting_is : p.known.setting ≡ setting
  pub fits : Fits setting.plan p.known.caller seen p.records
  pub few : length p.records ≤ most
  pub calls_are : p.calls ≡ calls

-- the plan that a history leaves
abbrev pub last_plan : DeskConfig → List Event → Planned
last_plan setting history = (state_from setting.plan history).plan

-- the history begins with what the pass had seen after its work
abbrev pub WorksIn : Answers → List Event → Pass → Pass → Type 0
WorksIn answers history p q = Works answers p q × Catches q.known.caller q.known.seen history

-- so the plan that the pass saw last grows to the one that the history leaves
pub grows_in : (answers : Answers) (setting : DeskConfig) (history : List Event) (p q : Pass) → WorksIn answers history p q → p.known.setting ≡ setting → Grows (state_of q.known) (state_from setting.plan history)
grows_in answers setting history p q w is =
    let was : state_of q.known ≡ state_from setting.plan q.known.seen = ap (λ (s : DeskConfig). state_from s.plan q.known.seen) (w.0.same.1 ∙ is) in
    let now : state_from setting.plan history ≡ state_after (state_from setting.plan q.known.seen) w.1.others = ap (state_from setting.plan) w.1.joined ∙ state_after-append (start setting.plan) q.known.seen w.1.others in
    subst (λ (s : State). Grows s (state_from setting.plan history)) (sym was)
    (subst (Grows (state_from setting.plan q.known.seen)) (sym now) (state_after-grows (state_from setting.plan q.known.seen) w.1.others))

pub shares : (answers : Answers) (setting : DeskConfig) (seen work : List Event) (most calls : ℕ) (p q : Pass) → WorksIn answers (seen ++ work) p q → HadBegun setting seen most calls p → Fits setting.plan q.known.caller (seen ++ work) q.records
    → Shares answers (last_plan setting (seen ++ work)) (recorded p.known.caller (length seen) (state_from setting.plan seen) work)
shares answers setting seen work most calls p q both begun fit =
    let w = both.0 in
    let is = more_is answers setting.plan seen work p q w begun.fits fit in
    record {
      work = subst (AreWork answers (last_plan setting (seen ++ work)) None) is
          (work_grown answers (state_of q.known) (state_from setting.plan (seen ++ work)) w.more (grows_in answers setting (seen ++ work) p q both begun.setting_is) w.work);
      once = λ i. subst (λ (l : List Rec). claims_of i l ≤ 1) is (w.once i);
    }

-- a caller without a pass records nothing
absent_split : (b : Bool) (r : Rec) (rs : List Rec) → b ≡ false → rs ≡ [] → cond b (r ∷ rs) rs ≡ []
absent_split true r rs e h = cc
absent_split false r rs e h = h

pub absent_records : (callers c n : ℕ) (s : State) (events : List Event) → callers ≤ c → All (λ e. who_of e < callers) events → recorded c n s events ≡ []
absent_records callers c n s [] le h = refl
absent_records callers c n s (e ∷ events) le h =
    absent_split (eqb (who_of e) c) _ (recorded c (suc n) ((answered s e).1) events)
    (other (eqb (who_of e) c) refl (All-head (λ x. who_of x < callers) e events h))
    (absent_records callers c (suc n) ((answered s e).1) events le (All-tail (λ x. who_of x < callers) e events h))
  where
    other : (b : Bool) → eqb (who_of e) c ≡ b → who_of e < callers → b ≡ false
    other true t l = let same = eqb-true (who_of e) c t in absurd (omega arith)
    other false t l = refl

-- ---- no pass is full

pub shares_few : (answers : Answers) (plan : Planned) (n : ℕ) (rs : List Rec) → length plan.stages ≤ n → Shares answers plan rs → (length rs ≤ n + grants_in rs) × (grants_in rs ≤ n)
shares_few answers plan n rs few h =
    let below = work_below answers plan n None rs few h.work in
    let a = claims_at_most n rs below h.once in
    let b = grants_at_most rs in
    (records_at_most answers plan n rs h.work below h.once, omega (arith, a, b))

pub has_room : (answers : Answers) (setting : DeskConfig) (seen work : List Event) (most calls stages : ℕ) → most + 2 * stages < calls → length (last_plan setting (seen ++ work)).stages ≤ stages
    → (p q : Pass) → WorksIn answers (seen ++ work) p q → HadBegun setting seen most calls p → Fits setting.plan q.known.caller (seen ++ work) q.records → length q.records < q.calls
has_room answers setting seen work most calls stages room all p q both begun fit =
    let w = both.0 in
    let is = more_is answers setting.plan seen work p q w begun.fits fit in
    let few = shares_few answers (last_plan setting (seen ++ work)) stages (recorded p.known.caller (length seen) (state_from setting.plan seen) work) all (shares answers setting seen work most calls p q both begun fit) in
    let len : length q.records ≡ length p.records + length w.more = ap length w.records ∙ length-append p.records w.more in
    let more : length w.more ≡ length (recorded p.known.caller (length seen) (state_from setting.plan seen) work) = ap length is in
    let same : q.calls ≡ calls = w.same.3 ∙ begun.calls_are in
    let before = begun.few in
    let a = few.0 in
    let b = few.1 in
    omega (arith, len, more, same, before, a, b, room)

pub all_room : (plan : Planned) (history : List Event) (R : Pass → Pass → Type 0) (B : Pass → Type 0)
    → ((p q : Pass) → R p q → B p → Fits plan q.known.caller history q.records → length q.records < q.calls)
    → (ps qs : List Pass) → AllZip R ps qs → All B ps → All (IsKeptFit plan history) (map pass_did qs) → All (λ (q : Pass). length q.records < q.calls) qs
all_room plan history R B holds [] [] zip begun fit = All-nil (λ (q : Pass). length q.records < q.calls)
all_room plan history R B holds [] (q ∷ qs) zip begun fit = absurd zip
all_room plan history R B holds (p ∷ ps) [] zip begun fit = absurd zip
all_room plan history R B holds (p ∷ ps) (q ∷ qs) zip begun fit =
    All-cons (λ (q : Pass). length q.records < q.calls) q qs
    (holds p q zip.0 (All-head B p ps begun) (All-head (IsKeptFit plan history) (pass_did q) (map pass_did qs) fit))
    (all_room plan history R B holds ps qs zip.1 (All-tail B p ps begun) (All-tail (IsKeptFit plan history) (pass_did q) (map pass_did qs) fit))
