-- What a thread brings to its turns.
use Rattle.std.proofs.Common.{◌≡◌, ℕ, ◌+◌, ◌<◌, Option, Some, None, List, [], ◌∷◌, ◌++◌, refl, sym, ap, ◌∙◌, subst, arith, append_assoc}
use Rattle.std.specs.Prelude.{Err, Ok, Result}
use Rattle.cf_model.specs.Calling.{CallsOf}
use Rattle.cf_ledger.specs.declared.faults.StepFault.{StepFault}
use Rattle.cf_ledger.specs.declared.step.Held.{Held}
use Rattle.cf_ledger.specs.declared.step.Taken.{Taken}
use Rattle.cf_threads.specs.Turns.{Holds, begun, ended, one, refused, refused_by, weigh, weigh_held, weigh_told}
use Rattle.cf_threads.specs.Works.{CallsFor, Follows, HasWorked, IsHeldAt, Rests, TakesNext, Works, end_of, told_by}
use Rattle.cf_threads.specs.declared.turn.Turn.{Turn}
use Rattle.cf_threads.specs.declared.work.Stopped.{Stopped}
use Rattle.cf_threads.proofs.Sums.{weigh_append, weigh_push}

-- ---- one turn more

works_push : {F : Type 0} (calls : CallsOf F) (f g k : F) (held holds now : Option Held) (ts : List Turn) (next : Result (Option Taken) StepFault) → Works calls f held ts g holds → Follows calls g next k now
    → Works calls f held (ts ++ (record { held = holds; next = next }) ∷ []) k now
works_push calls f g k held holds now [] next (same, is) step = (k, now, is, subst (λ x. Follows calls x next k now) same step, (refl, refl))
works_push calls f g k held holds now (t ∷ ts) next (between, brings, is, first, rest) step = (between, brings, is, first, works_push calls between g k brings holds now ts next rest step)

-- who only rests calls nothing
rests_alone : {F : Type 0} (calls : CallsOf F) (f : F) (held holds : Option Held) (ts : List Turn) → Rests held ts holds → Works calls f held ts f holds
rests_alone calls f held holds [] same = (refl, same)
rests_alone calls f held holds (t ∷ ts) (is, none, rest) = (f, None, is, subst (λ (n : Result (Option Taken) StepFault). Follows calls f n f None) (sym none) (refl, refl), rests_alone calls f None holds ts rest)

works_rests : {F : Type 0} (calls : CallsOf F) (f g : F) (held brings holds : Option Held) (ts waits : List Turn) → Works calls f held ts g brings → Rests brings waits holds → Works calls f held (ts ++ waits) g holds
works_rests calls f g held brings holds [] waits (same, is) rests = subst (λ (h : Option Held). Works calls f h waits g holds) is (subst (λ x. Works calls x brings waits g holds) same (rests_alone calls g brings holds waits rests))
works_rests calls f g held brings holds (t ∷ ts) waits (between, now, is, first, rest) rests = (between, now, is, first, works_rests calls between g now brings holds ts waits rest rests)

-- what was told is called for
pub works_next : {F : Type 0} (calls : CallsOf F) (f g k : F) (holds now : Option Held) (before after : List Turn) (next : Result (Option Taken) Stopped) → Works calls f None before g holds → TakesNext holds before next after → Follows calls g (told_by next) k now
    → Works calls f None after k now
works_next calls f g k holds now before after next works takes step =
    subst (λ (l : List Turn). Works calls f None l k now) (sym takes.noted)
    (works_push calls f g k None takes.holds now (before ++ takes.waits) (told_by next) (works_rests calls f g None holds takes.holds before takes.waits works takes.rests) step)

-- and so it ends
pub works_ended : {F : Type 0} (calls : CallsOf F) (f g : F) (holds : Option Held) (before after : List Turn) (stopped : Option Stopped) → Works calls f None before g holds → TakesNext holds before (end_of stopped) after → HasWorked calls f after g stopped
works_ended calls f g holds before after stopped works takes = record {
  front = before ++ takes.waits;
  held = takes.holds;
  works = works_rests calls f g None holds takes.holds before takes.waits works takes.rests;
  is = takes.noted;
  kept = takes.kept;
}

-- ---- what it holds

follows_weigh : {F : Type 0} (calls : CallsOf F) (f g : F) (taken : Option Taken) (now : Option Held) (weight : ℕ → ℕ) → CallsFor calls f taken g now → weigh_told weight (Ok taken) ≡ weigh_held weight now
follows_weigh calls f g None now weight (same, none) = ap (weigh_held weight) (sym none)
follows_weigh calls f g (Some t) now weight (answer, called, is) = ap (weigh_held weight) (sym is)

told_weigh : {F : Type 0} (calls : CallsOf F) (f g : F) (next : Result (Option Taken) StepFault) (now : Option Held) (weight : ℕ → ℕ) → Follows calls f next g now → weigh_told weight next ≡ weigh_held weight now
told_weigh calls f g (Ok taken) now weight step = follows_weigh calls f g taken now weight step
told_weigh calls f g (Err fault) now weight step = absurd step

works_weigh : {F : Type 0} (calls : CallsOf F) (f g : F) (held holds : Option Held) (ts : List Turn) (weight : ℕ → ℕ) → Works calls f held ts g holds → weigh (begun weight) ts + weigh_held weight held ≡ weigh (ended weight) ts + weigh_held weight holds
works_weigh calls f g held holds [] weight (same, is) = let e = ap (weigh_held weight) is in omega (arith, e)
works_weigh calls f g held holds (t ∷ ts) weight (between, now, is, step, rest) =
    let a = told_weigh calls f between t.next now weight step in
    let b = ap (weigh_held weight) is in
    let c = works_weigh calls between g now holds ts weight rest in
    omega (arith, a, b, c)

pub works_holds : {F : Type 0} (calls : CallsOf F) (f g : F) (holds : Option Held) (ts : List Turn) → Works calls f None ts g holds → Holds holds ts
works_holds calls f g holds ts works weight = let all = works_weigh calls f g None holds ts weight works in omega (arith, all)

-- so does who has rested
pub rests_holds : (held holds : Option Held) (before waits : List Turn) → Holds held before → Rests held waits holds → Holds holds (before ++ waits)
rests_holds held holds before waits has rests weight =
    let any : CallsOf (Unit {0}) = λ f number args answer g. Unit {0} in
    let a = works_weigh any tt tt held holds waits weight (rests_alone any tt held holds waits rests) in
    let b = has weight in
    let c = weigh_append (begun weight) before waits in
    let d = weigh_append (ended weight) before waits in
    omega (arith, a, b, c, d)

-- one more
rests_push : (held holds : Option Held) (ts : List Turn) → Rests held ts holds → Rests held (ts ++ (record { held = holds; next = Ok None }) ∷ []) None
rests_push held holds [] same = (same, refl, refl)
rests_push held holds (t ∷ ts) (is, none, rest) = (is, none, rests_push None holds ts rest)

-- what a thread has noted that waits
pub record HasRested (held : Option Held) (before after : List Turn) (holds : Option Held) : Type 0 where
  pub waits : List Turn
  pub noted : after ≡ before ++ waits
  pub rests : Rests held waits holds

nil_append : {A : Type 0} (xs : List A) → xs ++ [] ≡ xs
nil_append [] = refl
nil_append (x ∷ xs) = ap (λ l. x ∷ l) (nil_append xs)

pub rested_none : (held : Option Held) (before : List Turn) → HasRested held before before held
rested_none held before = record { waits = []; noted = sym (nil_append before); rests = refl }

pub rested_more : (held holds : Option Held) (before after more : List Turn) (next : Result (Option Taken) StepFault) → HasRested held before after holds → next ≡ Ok None → more ≡ after ++ (record { held = holds; next = next }) ∷ [] → HasRested held before more None
rested_more held holds before after more next has none is = record {
  waits = has.waits ++ (record { held = holds; next = Ok None }) ∷ [];
  noted = is ∙ ap (λ (n : Result (Option Taken) StepFault). after ++ (let t : Turn = record { held = holds; next = n } in t) ∷ []) none ∙ ap (λ (l : List Turn). l ++ (record { held = holds; next = Ok None }) ∷ []) has.noted ∙ append_assoc before has.waits _;
  rests = rests_push held holds has.waits has.rests;
}

pub rested_holds : (held holds : Option Held) (before after : List Turn) → Holds held before → HasRested held before after holds → Holds holds after
rested_holds held holds before after holds_first has = subst (Holds holds) (sym has.noted) (rests_holds held holds before has.waits holds_first has.rests)

pub takes_next : (held holds : Option Held) (before after more : List Turn) (next : Result (Option Taken) StepFault) (end : Result (Option Taken) Stopped) → HasRested held before after holds → more ≡ after ++ (record { held = holds; next = next }) ∷ [] → next ≡ told_by end → IsHeldAt end holds
    → TakesNext held before end more
takes_next held holds before after more next end has is told kept = record {
  waits = has.waits;
  holds = holds;
  rests = has.rests;
  noted = is ∙ ap (λ (n : Result (Option Taken) StepFault). after ++ (let t : Turn = record { held = holds; next = n } in t) ∷ []) told ∙ ap (λ (l : List Turn). l ++ (record { held = holds; next = told_by end }) ∷ []) has.noted;
  kept = kept;
}

-- ---- who wasn't refused a step

works_go : {F : Type 0} (calls : CallsOf F) (f g : F) (held holds : Option Held) (ts : List Turn) → Works calls f held ts g holds → weigh refused ts ≡ 0
works_go calls f g held holds [] works = refl
works_go calls f g held holds (t ∷ ts) (between, now, is, step, rest) =
    let a = goes t.next step in
    let b = works_go calls between g now holds ts rest in
    omega (arith, a, b)
  where
    goes : (next : Result (Option Taken) StepFault) → Follows calls f next between now → refused_by next ≡ 0
    goes (Ok taken) step = refl
    goes (Err fault) step = absurd step

-- was never refused one
pub none_refused : {F : Type 0} (calls : CallsOf F) (f g : F) (ts : List Turn) (stopped : Option Stopped) → HasWorked calls f ts g stopped → stopped ≡ None → weigh refused ts ≡ 0
none_refused calls f g ts stopped has none =
    let t : Turn = record { held = has.held; next = told_by (end_of stopped) } in
    let a = ap (weigh refused) has.is in
    let b = weigh_push refused has.front t in
    let c = works_go calls f g None has.held has.front has.works in
    let d = ap (λ (s : Option Stopped). refused_by (told_by (end_of s))) none in
    omega (arith, a, b, c, d)

-- and has brought all that it was told
pub all_brought : {F : Type 0} (calls : CallsOf F) (f g : F) (ts : List Turn) (stopped : Option Stopped) → HasWorked calls f ts g stopped → stopped ≡ None → weigh (begun one) ts ≡ weigh (ended one) ts
all_brought calls f g ts stopped has none =
    let t : Turn = record { held = has.held; next = told_by (end_of stopped) } in
    let a = ap (weigh (begun one)) has.is in
    let b = ap (weigh (ended one)) has.is in
    let c = weigh_push (begun one) has.front t in
    let d = weigh_push (ended one) has.front t in
    let e = works_holds calls f g has.held has.front has.works one in
    let k = ap (λ (s : Option Stopped). weigh_told one (told_by (end_of s))) none in
    omega (arith, a, b, c, d, e, k)

-- each thread comes
pub one_came : {F : Type 0} (calls : CallsOf F) (f g : F) (ts : List Turn) (stopped : Option Stopped) → HasWorked calls f ts g stopped → 0 < weigh (λ (t : Turn). 1) ts
one_came calls f g ts stopped has =
    let t : Turn = record { held = has.held; next = told_by (end_of stopped) } in
    let a = ap (weigh (λ (t : Turn). 1)) has.is in
    let b = weigh_push (λ (t : Turn). 1) has.front t in
    omega (arith, a, b)
