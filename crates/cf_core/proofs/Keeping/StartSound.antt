-- What is true between calls is true at the start.
use Rattle.std.proofs.Common.{◌≡◌, ℕ, ◌+◌, ◌*◌, ◌<◌, ◌≤◌, ◌∷◌, ◌++◌, [], List, All, Bool, true, false, cond, Option, Some, None, length, suc, zero, arith, ap, sym, ◌∙◌, refl, map, set, drop, get_or, take, replicate, add-one, Contains}
use Rattle.std.specs.Prelude.{slice_get, count_by, if◌then◌else◌}
use Rattle.std.specs.List.{range_with_len, sum_by}
use Rattle.std.proofs.Math.Seq.{drop-cons}
use Rattle.std.proofs.lemmas.List.{length-replicate, length-take}
use Rattle.std.proofs.lemmas.List.Elements.{All-nil, All-replicate}
use Rattle.std.proofs.lemmas.List.Sums.{sum_by-cons}
use Rattle.cf_outcome.specs.declared.outcome.Outcome.{Outcome}
use Rattle.cf_forms.specs.declared.forms.Form.{Form}
use Rattle.cf_forms.specs.declared.forms.Form.TheVariants.{Source, Supply, RunAsync, Apply, Accept, ThenRun, Combine, AcceptBoth, RunBoth, ApplyEither, AcceptEither, RunEither, Compose, Handle, WhenComplete, Exceptionally, AllOf, AnyOf, ExceptionallyCompose}
use Rattle.cf_forms.specs.declared.forms.Due.{Due}
use Rattle.cf_forms.specs.declared.forms.Due.TheVariants.{Waits}
use Rattle.cf_forms.specs.Forms.{due_of_both, due_of_first, starts}
use Rattle.cf_forms.specs.Plans.{starts_from, starts_of, PlannedStage, HasLowerSources, dependents_of, edges_of, form_at, sources_at}
use Rattle.cf_plan.proofs.DependentLemmas.{all_dependents}
use Rattle.cf_model.specs.States.{is_ready}
use Rattle.cf_model.proofs.StateLemmas.{form_at-within, sources_at-within, slice_get-set_other}
use Rattle.cf_core.specs.declared.kept.KeptStage.{KeptStage}
use Rattle.cf_core.specs.Keeping.Treatment.{StepsUpTo, dated_in, due_kept, earliest, late_due, outcome_part, treated}
use Rattle.cf_core.specs.Keeping.Links.{list_at}
use Rattle.cf_core.specs.Keeping.Sound.{HasLists, IsSound, is_bound, kept_at, link_marks, marks_from, steps_of}
use Rattle.cf_core.specs.Keeping.Starts.{mark_starts, mark_those, untreated}
use Rattle.cf_core.proofs.Keeping.Marking.{count-set_true, get-set_same, length-mark_one}

-- ---- what isn't marked waits

earliest-none : (sources : List ℕ) → earliest (map {B = Option (Outcome × ℕ)} (λ (j : ℕ). None) sources) ≡ None
earliest-none [] = refl
earliest-none (j ∷ sources) = earliest-none sources

both-none : (form : Form) (sources : List ℕ) → due_of_both form (map outcome_part (map {B = Option (Outcome × ℕ)} (λ (j : ℕ). None) sources)) ≡ Waits
both-none form [] = refl
both-none form (j ∷ sources) = refl

first-none : (form : Form) (sources : List ℕ) → due_of_first form (outcome_part (earliest (map {B = Option (Outcome × ℕ)} (λ (j : ℕ). None) sources))) ≡ Waits
first-none form sources = ap (λ x. due_of_first form (outcome_part x)) (earliest-none sources)

pub unstarted_waits : (form : Form) (sources : List ℕ) → starts form sources ≡ false → (late_due form (map {B = Option (Outcome × ℕ)} (λ (j : ℕ). None) sources)).0 ≡ Waits
unstarted_waits Source sources e = refl
unstarted_waits Supply sources e = cc
unstarted_waits RunAsync sources e = cc
unstarted_waits Combine sources e = both-none Combine sources
unstarted_waits AcceptBoth sources e = both-none AcceptBoth sources
unstarted_waits RunBoth sources e = both-none RunBoth sources
unstarted_waits AllOf [] e = cc
unstarted_waits AllOf (j ∷ sources) e = refl
unstarted_waits Apply sources e = first-none Apply sources
unstarted_waits Accept sources e = first-none Accept sources
unstarted_waits ThenRun sources e = first-none ThenRun sources
unstarted_waits ApplyEither sources e = first-none ApplyEither sources
unstarted_waits AcceptEither sources e = first-none AcceptEither sources
unstarted_waits RunEither sources e = first-none RunEither sources
unstarted_waits Compose sources e = first-none Compose sources
unstarted_waits Handle sources e = first-none Handle sources
unstarted_waits WhenComplete sources e = first-none WhenComplete sources
unstarted_waits Exceptionally sources e = first-none Exceptionally sources
unstarted_waits AnyOf sources e = first-none AnyOf sources
unstarted_waits ExceptionallyCompose sources e = first-none ExceptionallyCompose sources

dated-none : (n j : ℕ) → dated_in (replicate n untreated) j ≡ None
dated-none zero j = refl
dated-none (suc n) zero = refl
dated-none (suc n) (suc j) = dated-none n j

all-none : (n : ℕ) (sources : List ℕ) → map (dated_in (replicate n untreated)) sources ≡ map (λ (j : ℕ). None) sources
all-none n [] = refl
all-none n (j ∷ sources) = let here = dated-none n j in let rest = all-none n sources in cc

pub waits_kept : (due : Due × ℕ) → due.0 ≡ Waits → due_kept due.0 due.1 0 ≡ untreated
waits_kept due e = rw e refl

unstarted : (n : ℕ) (p : PlannedStage) → starts p.form p.sources ≡ false → treated (replicate n untreated) p untreated ≡ untreated
unstarted n p e = waits_kept (late_due p.form (map (dated_in (replicate n untreated)) p.sources)) (ap (λ q. (late_due p.form q).0) (all-none n p.sources) ∙ unstarted_waits p.form p.sources e)

get-replicate : {X : Type 0} (n i : ℕ) (x y : X) → slice_get (replicate n x) i ≡ Some y → y ≡ x
get-replicate zero i x y e = cc
get-replicate (suc n) zero x y e = cc
get-replicate (suc n) (suc i) x y e = get-replicate n i x y e

-- ---- marks at the start

mark-stays : (b : Bool) (marks : List Bool) (i j : ℕ) → (j ≡ i → ⊥) → slice_get (cond b (set marks i true) marks) j ≡ slice_get marks j
mark-stays true marks i j ne = slice_get-set_other marks i j true ne
mark-stays false marks i j ne = refl

starts-below : (i : ℕ) (plan : List PlannedStage) (marks : List Bool) (j : ℕ) → j < i → slice_get (mark_starts i plan marks) j ≡ slice_get marks j
starts-below i [] marks j l = refl
starts-below i (p ∷ plan) marks j l =
    starts-below (i + 1) plan (cond (starts p.form p.sources) (set marks i true) marks) j (omega arith)
    ∙ mark-stays (starts p.form p.sources) marks i j (λ e. absurd (omega arith))

pub length-mark_starts : (i : ℕ) (plan : List PlannedStage) (marks : List Bool) → length (mark_starts i plan marks) ≡ length marks
length-mark_starts i [] marks = refl
length-mark_starts i (p ∷ plan) marks = length-mark_starts (i + 1) plan (cond (starts p.form p.sources) (set marks i true) marks) ∙ length-mark_one (starts p.form p.sources) marks i

here_marked : (b : Bool) (marks : List Bool) (i : ℕ) → i < length marks → slice_get (cond b (set marks i true) marks) i ≡ Some false → b ≡ false
here_marked false marks i l e = refl
here_marked true marks i l e = let t = get-set_same marks i true l in cc

unmarked_unstarted : (i : ℕ) (plan : List PlannedStage) (marks : List Bool) (j : ℕ) (p : PlannedStage) → length marks ≡ i + length plan → slice_get plan j ≡ Some p →
    slice_get (mark_starts i plan marks) (i + j) ≡ Some false → starts p.form p.sources ≡ false
unmarked_unstarted i [] marks j p l e f = cc
unmarked_unstarted i (q ∷ plan) marks zero p l e f =
    let same : p ≡ q = cc in
    let at : i + 0 ≡ i = omega arith in
    let first = cond (starts q.form q.sources) (set marks i true) marks in
    let is : slice_get first i ≡ Some false = sym (starts-below (i + 1) plan first i (omega arith)) ∙ ap (slice_get (mark_starts (i + 1) plan first)) (sym at) ∙ f in
    rw same (here_marked (starts q.form q.sources) marks i (omega arith) is)
unmarked_unstarted i (q ∷ plan) marks (suc j) p l e f =
    let first = cond (starts q.form q.sources) (set marks i true) marks in
    let at : (i + 1) + j ≡ i + suc j = omega arith in
    let n = length-mark_one (starts q.form q.sources) marks i in
    unmarked_unstarted (i + 1) plan first j p (omega (arith, n)) e (ap (slice_get (mark_starts (i + 1) plan first)) at ∙ f)

one_mark : (b : Bool) (marks : List Bool) (i : ℕ) → count_by (λ b. b) (cond b (set marks i true) marks) ≤ count_by (λ b. b) marks + cond b 1 0
one_mark true marks i = count-set_true marks i
one_mark false marks i = omega arith

-- a stage that starts is never linked
pub one_each : (form : Form) (sources : List ℕ) → cond (starts form sources) 1 0 + link_marks form ≤ 1
one_each Source sources = omega arith
one_each Supply sources = omega arith
one_each RunAsync sources = omega arith
one_each Combine sources = omega arith
one_each AcceptBoth sources = omega arith
one_each RunBoth sources = omega arith
one_each AllOf [] = omega arith
one_each AllOf (j ∷ sources) = omega arith
one_each Apply sources = omega arith
one_each Accept sources = omega arith
one_each ThenRun sources = omega arith
one_each ApplyEither sources = omega arith
one_each AcceptEither sources = omega arith
one_each RunEither sources = omega arith
one_each Compose sources = omega arith
one_each Handle sources = omega arith
one_each WhenComplete sources = omega arith
one_each Exceptionally sources = omega arith
one_each AnyOf sources = omega arith
one_each ExceptionallyCompose sources = omega arith

marks_at_start : (whole : List PlannedStage) (i : ℕ) (plan : List PlannedStage) (marks : List Bool) → ((j : ℕ) → form_at whole (i + j) ≡ form_at plan j) →
    count_by (λ b. b) (mark_starts i plan marks) + marks_from whole i (replicate (length plan) untreated)
    ≤ count_by (λ b. b) marks + sum_by (λ j. length (dependents_of whole j)) (range_with_len i (length plan)) + length plan
marks_at_start whole i [] marks same = omega arith
marks_at_start whole i (p ∷ plan) marks same =
    let first = cond (starts p.form p.sources) (set marks i true) marks in
    let zero_plus : i + 0 ≡ i = omega arith in
    let form : form_at whole i ≡ p.form = ap (form_at whole) (sym zero_plus) ∙ same zero in
    let link = ap link_marks form in
    let each = one_each p.form p.sources in
    let mark = one_mark (starts p.form p.sources) marks i in
    let rest = marks_at_start whole (i + 1) plan first (λ j. (let at : (i + 1) + j ≡ i + suc j = omega arith in ap (form_at whole) at ∙ same (suc j))) in
    let sum = sum_by-cons (λ j. length (dependents_of whole j)) i (range_with_len (i + 1) (length plan)) in
    omega (arith, link, each, mark, rest, sum)

-- ---- the rest

no_marks : (n : ℕ) → count_by (λ b. b) (replicate n false) ≡ 0
no_marks zero = refl
no_marks (suc n) = let h = sum_by-cons (λ (b : Bool). cond b 1 0) false (replicate n false) in let rest = no_marks n in omega (arith, h, rest)

no_lists : (n : ℕ) → sum_by length (replicate {A = List ℕ} n []) ≡ 0
no_lists zero = refl
no_lists (suc n) = let h = sum_by-cons {X = List ℕ} length [] (replicate n []) in let rest = no_lists n in omega (arith, h, rest)

two_each : (n : ℕ) → sum_by (λ (k : KeptStage). steps_of k.stage) (replicate n untreated) ≡ 2 * n
two_each zero = refl
two_each (suc n) = let h = sum_by-cons (λ (k : KeptStage). steps_of k.stage) untreated (replicate n untreated) in let rest = two_each n in omega (arith, h, rest)

none_ready : (n : ℕ) → replicate n false ≡ map (λ (k : KeptStage). is_ready k.stage) (replicate n untreated)
none_ready zero = refl
none_ready (suc n) = ap (λ r. false ∷ r) (none_ready n)

no_steps : (n : ℕ) → StepsUpTo 0 (replicate n untreated)
no_steps zero = tt
no_steps (suc n) = (omega arith, no_steps n)

no_list : (n j i : ℕ) → Contains (list_at (replicate n []) j) i → ⊥
no_list zero j i c = absurd (omega (arith, c.1))
no_list (suc n) zero i c = absurd (omega (arith, c.1))
no_list (suc n) (suc j) i c = no_list n j i c

pub start_sound : (plan : List PlannedStage) (most : ℕ) → HasLists plan most → length plan ≤ 4096 → edges_of plan ≤ 16384 → HasLowerSources 0 plan →
    IsSound plan (replicate (length plan) untreated) (mark_starts 0 plan (replicate (length plan) false)) (replicate (length plan) false) (replicate most []) 0 0
start_sound plan most enough few edges lower =
    let n = length plan in
    let none : List Bool = replicate n false in
    let m = length-replicate {A = Bool} n false in
    let start = marks_at_start plan 0 plan none (λ j. (let at : 0 + j ≡ j = omega arith in ap (form_at plan) at)) in
    let unmarked = no_marks n in
    let lists = no_lists most in
    let steps = two_each n in
    let all = all_dependents plan lower in
    let P : ℕ → Type 0 = λ i. is_bound ((kept_at (replicate n untreated) i).stage) ≡ true in
    record {
      few_stages = few;
      few_edges = edges;
      sources_lower = lower;
      all_kept = length-replicate n untreated;
      all_marks = length-mark_starts 0 plan none ∙ m;
      all_links = λ d c. (let same = length-replicate {A = List ℕ} most [] in let all = enough d c in omega (arith, same, all));
      ready_are = none_ready n;
      waits = λ i p k ep ek em. (let is = get-replicate n i untreated k ek in
          let at : 0 + i ≡ i = omega arith in
          let first = unmarked_unstarted 0 plan none i p (omega (arith, m)) ep (ap (slice_get (mark_starts 0 plan none)) at ∙ em) in
          rw is (unstarted n p first));
      listed = λ i j k ek linked. (let is = get-replicate n i untreated k ek in let stage = ap (λ (x : KeptStage). x.stage) is in cc);
      bound = All-replicate (All P) most [] (All-nil P);
      above = λ j i c. absurd (no_list most j i c);
      kept_steps = no_steps n;
      steps_left = omega (arith, steps);
      turns_left = omega (arith, start, unmarked, lists, all);
    }

-- one stage further
pub mark_starts-step : (plan : List PlannedStage) (i : ℕ) (marks : List Bool) → i < length plan →
    mark_starts (i + 1) (drop (i + 1) plan) (cond (starts (form_at plan i) (sources_at plan i)) (set marks i true) marks) ≡ mark_starts i (drop i plan) marks
mark_starts-step plan i marks l =
    let none : PlannedStage = record { form = Source; sources = []; function = None } in
    let rest : drop i plan ≡ get_or plan i none ∷ drop (i + 1) plan = drop-cons plan i none l ∙ ap (λ n. get_or plan i none ∷ drop n plan) (sym (add-one i)) in
    rw (form_at-within plan i none l, sources_at-within plan i none l, rest) refl

by_start : (b : Bool) (i : ℕ) (plan : List PlannedStage) (marks : List Bool) →
    ((m : List Bool) → mark_those (starts_from (i + 1) plan) m ≡ mark_starts (i + 1) plan m) →
    mark_those (if b then i ∷ starts_from (i + 1) plan else starts_from (i + 1) plan) marks ≡ mark_starts (i + 1) plan (if b then set marks i true else marks)
by_start true i plan marks rest = rest (set marks i true)
by_start false i plan marks rest = rest marks

-- to mark those that start is to mark each where it starts
pub mark_those-starts : (i : ℕ) (plan : List PlannedStage) (marks : List Bool) → mark_those (starts_from i plan) marks ≡ mark_starts i plan marks
mark_those-starts i [] marks = refl
mark_those-starts i (p ∷ plan) marks = by_start (starts p.form p.sources) i plan marks (λ m. mark_those-starts (i + 1) plan m)

-- some stages are marked, and then those behind them
pub mark_starts-both : (i : ℕ) (plan more : List PlannedStage) (marks : List Bool) →
    mark_starts i (plan ++ more) marks ≡ mark_starts (i + length plan) more (mark_starts i plan marks)
mark_starts-both i [] more marks = let same : i + 0 ≡ i = omega arith in rw same refl
mark_starts-both i (p ∷ plan) more marks =
    let same : i + 1 + length plan ≡ i + length (p ∷ plan) = omega arith in
    mark_starts-both (i + 1) plan more (if starts p.form p.sources then set marks i true else marks)
    ∙ ap (λ n. mark_starts n more (mark_starts i (p ∷ plan) marks)) same

-- the first so many of a list, and those behind them
pub first_and_rest : {A : Type 0} (n : ℕ) (xs : List A) → take n xs ++ drop (length (take n xs)) xs ≡ xs
first_and_rest zero xs = refl
first_and_rest (suc n) [] = refl
first_and_rest (suc n) (x ∷ xs) = ap (λ l. x ∷ l) (first_and_rest n xs)

from_none : (n : ℕ) → n ≡ 0 + n
from_none n = omega arith

-- those of the opening are marked, and then those behind them
pub mark_starts-opened : (n : ℕ) (opened plan : List PlannedStage) (marks : List Bool) → opened ≡ take n plan →
    mark_starts (length opened) (drop (length opened) plan) (mark_those (starts_of opened) marks) ≡ mark_starts 0 plan marks
mark_starts-opened n opened plan marks is =
    ap (mark_starts (length opened) (drop (length opened) plan)) (mark_those-starts 0 opened marks)
    ∙ rw is (ap (λ k. mark_starts k (drop (length (take n plan)) plan) (mark_starts 0 (take n plan) marks)) (from_none (length (take n plan))) ∙ sym (mark_starts-both 0 (take n plan) (drop (length (take n plan)) plan) marks) ∙ ap (λ l. mark_starts 0 l marks) (first_and_rest n plan))

pub opened_within : (n : ℕ) (opened plan : List PlannedStage) → opened ≡ take n plan → length opened ≤ length plan
opened_within n opened plan is = let e = ap length is ∙ length-take n plan in omega (arith, e)
