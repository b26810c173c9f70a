-- What all threads took together.
use Rattle.std.proofs.Common.{◌≡◌, ◌≢◌, ℕ, suc, ◌+◌, ◌<◌, inl, inr, None, List, [], ◌∷◌, ◌++◌, All, ◌-◌, length, refl, sym, ap, ◌∙◌, subst, arith}
use Rattle.std.specs.List.{AllZip}
use Rattle.std.specs.Prelude.{slice_index_or}
use Rattle.std.proofs.lemmas.List.Elements.{All-cons, All-head, All-tail}
use Rattle.atomic_table.specs.Seated.{TableId}
use Rattle.cf_model.specs.Calling.{CallsOf}
use Rattle.cf_request.specs.Lanes.{NothingIsReady}
use Rattle.crossbeam_utils.specs.Seq.{cell_view}
use Rattle.cf_threads.specs.Desks.{Book, IsQuiet}
use Rattle.cf_threads.specs.Slips.{IsKeeper, all_parts, keeper, slip, with_slip}
use Rattle.cf_threads.specs.Turns.{begun, ended, one, refused, weigh}
use Rattle.cf_threads.specs.Works.{HasWorked}
use Rattle.cf_threads.specs.declared.slips.View.{View}
use Rattle.cf_threads.specs.declared.turn.Turn.{Turn}
use Rattle.cf_threads.specs.Teams.{BelongsTo, HasEnded, IsBack, IsDealt, IsLeft, NoneStopped, Slip, turns_of}
use Rattle.cf_threads.specs.declared.team.Ended.{Ended}
use Rattle.cf_threads.specs.declared.team.Worked.{Worked}
use Rattle.cf_threads.proofs.Sums.{weigh_append, weigh_push}
use Rattle.cf_threads.proofs.Works.{all_brought, none_refused, one_came}

pub zip_push : {A B : Type 0} (P : A → B → Type 0) (xs : List A) (ys : List B) (x : A) (y : B) → AllZip P xs ys → P x y → AllZip P (xs ++ x ∷ []) (ys ++ y ∷ [])
zip_push P [] [] x y all one = (one, tt)
zip_push P (a ∷ xs) (b ∷ ys) x y all one = (all.0, zip_push P xs ys x y all.1 one)
zip_push P [] (b ∷ ys) x y all one = absurd all
zip_push P (a ∷ xs) [] x y all one = absurd all

-- a fact of each place, and of as many
pub zip_at : {A B : Type 0} (P : A → B → Type 0) (xs : List A) (ys : List B) → length ys ≡ length xs
    → ((i : ℕ) (d : B) → i < length xs → (x : A) × ((e : A) → slice_index_or xs i e ≡ x) × P x (slice_index_or ys i d)) → AllZip P xs ys
zip_at P [] [] same at = tt
zip_at P [] (y ∷ ys) same at = absurd (omega (arith, same))
zip_at P (x ∷ xs) [] same at = absurd (omega (arith, same))
zip_at P (x ∷ xs) (y ∷ ys) same at =
    let first = at 0 y (omega arith) in
    (subst (λ a. P a y) (sym (first.1 x)) first.2, zip_at P xs ys (omega (arith, same)) (λ i d less. at (suc i) d (omega (arith, less))))

-- as many
pub zip_length : {A B : Type 0} (P : A → B → Type 0) (xs : List A) (ys : List B) → AllZip P xs ys → length ys ≡ length xs
zip_length P [] [] all = refl
zip_length P (x ∷ xs) (y ∷ ys) all = ap suc (zip_length P xs ys all.1)
zip_length P [] (y ∷ ys) all = absurd all
zip_length P (x ∷ xs) [] all = absurd all

-- all slips are new
pub all_new : {F : Type 0} (table : TableId) (hands : List F) (jobs : List (F × Slip)) → AllZip (IsDealt table) hands jobs → All (λ (job : F × Slip). BelongsTo table job.1 × (cell_view job.1 ≡ slip [])) jobs
all_new table [] [] all = λ k d less. absurd (omega (arith, less))
all_new table (f ∷ hands) (job ∷ jobs) all =
    All-cons (λ j. BelongsTo table j.1 × (cell_view j.1 ≡ slip [])) job jobs (all.0.1, all.0.2) (all_new table hands jobs all.1)
all_new table [] (job ∷ jobs) all = absurd all
all_new table (f ∷ hands) [] all = absurd all

-- all slips are back
pub all_back : {F : Type 0} (calls : CallsOf F) (table : TableId) (jobs : List (F × Slip)) (ended : List (Ended F)) → AllZip (HasEnded calls table) jobs ended → All (IsBack table) ended
all_back calls table [] [] all = λ k d less. absurd (omega (arith, less))
all_back calls table (job ∷ jobs) (e ∷ ended) all = All-cons (IsBack table) e ended all.0.back (all_back calls table jobs ended all.1)
all_back calls table [] (e ∷ ended) all = absurd all
all_back calls table (job ∷ jobs) [] all = absurd all

one_worked : {F : Type 0} (calls : CallsOf F) (f : F) (job : F × Slip) (e : Ended F) (w : Worked F) → job.0 ≡ f → HasWorked calls job.0 (cell_view e.mine).mine e.functions e.stopped → IsLeft e w → HasWorked calls f (turns_of w) w.functions w.stopped
one_worked calls f job e w same worked left =
    let a = subst (λ x. HasWorked calls x (cell_view e.mine).mine e.functions e.stopped) same worked in
    let b = subst (λ (s : Slip). HasWorked calls f (cell_view s).mine e.functions e.stopped) (sym left.turns) a in
    let c = subst (λ g. HasWorked calls f (turns_of w) g e.stopped) (sym left.functions) b in
    subst (λ s. HasWorked calls f (turns_of w) w.functions s) (sym left.stopped) c

abbrev pub AllWorked : {F : Type 0} → CallsOf F → List F → List (Worked F) → Type 0
AllWorked {F} calls hands workers = AllZip (λ (f : F) (w : Worked F). HasWorked calls f (turns_of w) w.functions w.stopped) hands workers

-- each thread has worked as it should
pub all_worked : {F : Type 0} (calls : CallsOf F) (table : TableId) (hands : List F) (jobs : List (F × Slip)) (ended : List (Ended F)) (workers : List (Worked F)) → AllZip (IsDealt table) hands jobs → AllZip (HasEnded calls table) jobs ended
    → AllZip IsLeft ended workers → AllWorked calls hands workers
all_worked calls table [] [] [] [] dealt all left = tt
all_worked calls table (f ∷ hands) (job ∷ jobs) (e ∷ ended) (w ∷ workers) dealt all left =
    (one_worked calls f job e w dealt.0.0 all.0.worked left.0, all_worked calls table hands jobs ended workers dealt.1 all.1 left.1)
all_worked calls table [] (job ∷ jobs) ended workers dealt all left = absurd dealt
all_worked calls table (f ∷ hands) [] ended workers dealt all left = absurd dealt
all_worked calls table [] [] (e ∷ ended) workers dealt all left = absurd all
all_worked calls table (f ∷ hands) (job ∷ jobs) [] workers dealt all left = absurd all
all_worked calls table [] [] [] (w ∷ workers) dealt all left = absurd left
all_worked calls table (f ∷ hands) (job ∷ jobs) (e ∷ ended) [] dealt all left = absurd left

-- ---- where no thread was refused a step

none_refused_in : {F : Type 0} (calls : CallsOf F) (hands : List F) (workers : List (Worked F)) → AllWorked calls hands workers → NoneStopped workers → weigh (λ (w : Worked F). weigh refused (turns_of w)) workers ≡ 0
none_refused_in calls [] [] all none = refl
none_refused_in {F} calls (f ∷ hands) (w ∷ workers) all none =
    let a = none_refused calls f w.functions (turns_of w) w.stopped all.0 (All-head (λ (w : Worked F). w.stopped ≡ None) w workers none) in
    let b = none_refused_in calls hands workers all.1 (All-tail (λ (w : Worked F). w.stopped ≡ None) w workers none) in
    omega (arith, a, b)
none_refused_in calls [] (w ∷ workers) all none = absurd all
none_refused_in calls (f ∷ hands) [] all none = absurd all

all_brought_in : {F : Type 0} (calls : CallsOf F) (hands : List F) (workers : List (Worked F)) → AllWorked calls hands workers → NoneStopped workers
    → weigh (λ (w : Worked F). weigh (begun one) (turns_of w)) workers ≡ weigh (λ (w : Worked F). weigh (ended one) (turns_of w)) workers
all_brought_in calls [] [] all none = refl
all_brought_in {F} calls (f ∷ hands) (w ∷ workers) all none =
    let a = all_brought calls f w.functions (turns_of w) w.stopped all.0 (All-head (λ (w : Worked F). w.stopped ≡ None) w workers none) in
    let b = all_brought_in calls hands workers all.1 (All-tail (λ (w : Worked F). w.stopped ≡ None) w workers none) in
    omega (arith, a, b)
all_brought_in calls [] (w ∷ workers) all none = absurd all
all_brought_in calls (f ∷ hands) [] all none = absurd all

some_came : {F : Type 0} (calls : CallsOf F) (hands : List F) (workers : List (Worked F)) → AllWorked calls hands workers → hands ≢ [] → 0 < weigh (λ (w : Worked F). weigh (λ (t : Turn). 1) (turns_of w)) workers
some_came calls [] [] all some = absurd (some refl)
some_came calls (f ∷ hands) (w ∷ workers) all some = let a = one_came calls f w.functions (turns_of w) w.stopped all.0 in omega (arith, a)
some_came calls [] (w ∷ workers) all some = absurd all
some_came calls (f ∷ hands) [] all some = absurd all

-- nothing is left
pub none_left : {F : Type 0} (calls : CallsOf F) (hands : List F) (workers : List (Worked F)) (lane : ℕ) (b : Book) → AllWorked calls hands workers → ((weight : Turn → ℕ) → weigh (λ (w : Worked F). weigh weight (turns_of w)) workers ≡ weigh weight b.turns)
    → hands ≢ [] → NoneStopped workers → IsQuiet lane b → NothingIsReady b.machine.teller lane
none_left calls hands workers lane b all shared some none (inl empty) =
    let a = some_came calls hands workers all some in
    let s = shared (λ (t : Turn). 1) in
    let e = ap (weigh (λ (t : Turn). 1)) empty in
    absurd (omega (arith, a, s, e))
none_left calls hands workers lane b all shared some none (inr (inl was)) =
    let a = none_refused_in calls hands workers all none in
    let s = shared refused in
    absurd (omega (arith, a, s, was))
none_left calls hands workers lane b all shared some none (inr (inr (inl held))) =
    let a = all_brought_in calls hands workers all none in
    let s = shared (begun one) in
    let e = shared (ended one) in
    absurd (omega (arith, a, s, e, held))
none_left calls hands workers lane b all shared some none (inr (inr (inr quiet))) = quiet

-- ---- the keeper's slip

pub is_keeper : (n : ℕ) (l : List Turn) (v : View) → v ≡ keeper n l → IsKeeper v
is_keeper n l v is = is ∙ ap (λ (p : ℕ). keeper p l) (sym (ap (λ (u : View). u.parts) is)) ∙ ap (λ (a : List Turn). keeper v.parts a) (sym (ap (λ (u : View). u.all) is))

-- a part less
pub keeper_less : (n more : ℕ) (v w : View) → v ≡ keeper (all_parts - n) [] → w ≡ keeper (v.parts - 1) v.all → more ≡ n + 1 → w ≡ keeper (all_parts - more) []
keeper_less n more v w is now one =
    let less : all_parts - n - 1 ≡ all_parts - more = omega (arith, one) in
    now ∙ ap (λ (p : ℕ). keeper (p - 1) v.all) (ap (λ (u : View). u.parts) is) ∙ ap (λ (l : List Turn). keeper (all_parts - n - 1) l) (ap (λ (u : View). u.all) is) ∙ ap (λ (p : ℕ). keeper p []) less

-- one slip more is back
pub weighs_more : {F : Type 0} (v w u : View) (done more : List (Worked F)) (x : Worked F) → ((weight : Turn → ℕ) → weigh weight v.mine ≡ weigh (λ (y : Worked F). weigh weight (turns_of y)) done)
    → w ≡ with_slip v u → turns_of x ≡ u.mine → more ≡ done ++ x ∷ [] → (weight : Turn → ℕ) → weigh weight w.mine ≡ weigh (λ (y : Worked F). weigh weight (turns_of y)) more
weighs_more {F} v w u done more x so_far is its pushed weight =
    let of_worked : Worked F → ℕ = λ y. weigh weight (turns_of y) in
    let a = ap (λ (z : View). weigh weight z.mine) is in
    let b = weigh_append weight v.mine u.mine in
    let c = so_far weight in
    let d = ap (weigh weight) its in
    let e = ap (weigh of_worked) pushed in
    let f = weigh_push of_worked done x in
    omega (arith, a, b, c, d, e, f)

pub all_middle : {A : Type 0} (P : A → Type 0) (xs : List A) (y : A) (ys : List A) → All P (xs ++ y ∷ ys) → P y
all_middle P [] y ys h = All-head P y ys h
all_middle P (x ∷ xs) y ys h = all_middle P xs y ys (All-tail P x (xs ++ y ∷ ys) h)
