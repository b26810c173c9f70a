-- A plan with one more stage attached.
use Rattle.std.proofs.Common.{◌≡◌, ℕ, ◌+◌, ◌-◌, ◌*◌, ◌<◌, ◌≤◌, ◌∷◌, ◌++◌, [], List, All, true, Option, length, suc, zero, arith, ap, sym, ◌∙◌, subst, refl, map, replicate, append_assoc, append-nil, length-append, zero-add}
use Rattle.std.specs.Prelude.{is_some, ◌==◌, reverse}
use Rattle.std.proofs.lemmas.List.{get_or-replicate, length-map, length-replicate, length-reverse, map-append, replicate-append-replicate, reverse-append, reverse-reverse}
use Rattle.std.proofs.lemmas.List.Elements.{All-head, All-nil, All-push, All-tail}
use Rattle.std.proofs.lemmas.List.Sums.{sum_by-append, count_by-le-length}
use Rattle.cf_forms.specs.declared.forms.Form.{Form}
use Rattle.cf_forms.specs.declared.forms.Of.{Of}
use Rattle.cf_plan.specs.declared.growing.AttachedRow.{AttachedRow}
use Rattle.cf_plan.specs.declared.attached_lists.Cell.{Cell}
use Rattle.cf_plan.specs.declared.attached_lists.Head.{Head}
use Rattle.cf_plan.specs.Growing.{AreGrowing, attached_of, grown_of, attached_dependents_of}
use Rattle.cf_forms.specs.Plans.{HasLowerSources, IsBuilt, Planned, PlannedStage, attached_stage, dependents_from, dependents_of, edges_of, fits_form, mentions, plan_of, sources_of, with_stage}
use Rattle.cf_plan.specs.Rows.{all_sources}
use Rattle.cf_plan.specs.AttachedLists.{AreAttachedLists, IsAttachedList, head_at, list_of}
use Rattle.cf_plan.proofs.DependentLemmas.{dependents_above, dependents_below, dependents_from-append, dependents_there, length-dependents_from, mentions-cons, one_where}
use Rattle.cf_forms.proofs.PlanLemmas.{IsBuilt-as, IsBuilt-with_stage, few_sources, may_attach}
use Rattle.cf_plan.proofs.AttachedListLemmas.{AreAttachedLists-same, count_is}
use Rattle.std.proofs.lemmas.List.Concat.{length-flat_map}

-- ---- dependents of more stages

reverse-replicate : (n k : ℕ) → reverse (replicate n k) ≡ replicate n k
reverse-replicate zero k = refl
reverse-replicate (suc n) k =
    let e : n + 1 ≡ suc n = omega arith in
    reverse-append (k ∷ []) (replicate n k) ∙ ap (λ xs. xs ++ k ∷ []) (reverse-replicate n k)
    ∙ replicate-append-replicate n 1 k ∙ ap (λ m. replicate m k) e

-- an attached stage stands before those attached earlier
pub attached_dependents_of-push : (opening : Planned) (rows : List AttachedRow) (row : AttachedRow) (i : ℕ) →
    attached_dependents_of opening (rows ++ row ∷ []) i ≡ replicate (mentions i ((attached_of row).sources)) (length opening.stages + length rows) ++ attached_dependents_of opening rows i
attached_dependents_of-push opening rows row i =
    let n = length opening.stages in
    let s = attached_of row in
    let old = map attached_of rows in
    let k : n + length old ≡ n + length rows = ap (λ m. n + m) (length-map rows attached_of) in
    let longer : map attached_of (rows ++ row ∷ []) ≡ old ++ s ∷ [] = rw map-append refl in
    ap (λ xs. reverse (dependents_from n xs i)) longer
    ∙ ap reverse (dependents_from-append n old (s ∷ []) i)
    ∙ reverse-append (dependents_from n old i) (dependents_from (n + length old) (s ∷ []) i)
    ∙ ap (λ xs. reverse xs ++ reverse (dependents_from n old i)) (append-nil (replicate (mentions i s.sources) (n + length old)) ∙ ap (λ m. replicate (mentions i s.sources) m) k)
    ∙ ap (λ xs. xs ++ reverse (dependents_from n old i)) (reverse-replicate (mentions i s.sources) (n + length rows))

-- what the opening has, and then the attached ones the other way round
pub dependents_split : (opening : Planned) (rows : List AttachedRow) (i : ℕ) →
    dependents_of (opening.stages ++ map attached_of rows) i ≡ dependents_of opening.stages i ++ reverse (attached_dependents_of opening rows i)
dependents_split opening rows i =
    let n = length opening.stages in
    let old = map attached_of rows in
    let cut : dependents_of (opening.stages ++ old) i ≡ dependents_of opening.stages i ++ dependents_from n old i =
    dependents_from-append 0 opening.stages old i ∙ ap (λ m. dependents_from 0 opening.stages i ++ dependents_from m old i) (zero-add n) in
    cut ∙ ap (λ xs. dependents_of opening.stages i ++ xs) (sym (reverse-reverse (dependents_from n old i)))

All-reverse : (P : ℕ → Type 0) (xs : List ℕ) → All P xs → All P (reverse xs)
All-reverse P [] h = h
All-reverse P (x ∷ xs) h =
    subst (All P) (sym (reverse-append (x ∷ []) xs)) (All-push P (reverse xs) x (All-reverse P xs (All-tail P x xs h)) (All-head P x xs h))

HasLowerSources-behind : (k : ℕ) (xs ys : List PlannedStage) → HasLowerSources k (xs ++ ys) → HasLowerSources (k + length xs) ys
HasLowerSources-behind k [] ys h = let e : k + 0 ≡ k = omega arith in subst (λ m. HasLowerSources m ys) (sym e) h
HasLowerSources-behind k (x ∷ xs) ys h = let e : k + 1 + length xs ≡ k + suc (length xs) = omega arith in subst (λ m. HasLowerSources m ys) e (HasLowerSources-behind (k + 1) xs ys h.1)

pub attached_above : (opening : Planned) (rows : List AttachedRow) (i : ℕ) → HasLowerSources 0 (opening.stages ++ map attached_of rows) → All (λ k. i < k) (attached_dependents_of opening rows i)
attached_above opening rows i h =
    let n = length opening.stages in
    let old = map attached_of rows in
    All-reverse (λ k. i < k) (dependents_from n old i) (dependents_above n old i (subst (λ m. HasLowerSources m old) (zero-add n) (HasLowerSources-behind 0 opening.stages old h)))

pub attached_below : (opening : Planned) (rows : List AttachedRow) (i : ℕ) → All (λ k. k < length (opening.stages ++ map attached_of rows)) (attached_dependents_of opening rows i)
attached_below opening rows i =
    let n = length opening.stages in
    let old = map attached_of rows in
    let long = length-append opening.stages old in
    let below = dependents_below n old i in
    All-reverse (λ k. k < length (opening.stages ++ old)) (dependents_from n old i) (λ m d l. let b = below m d l in omega arith)

-- no stage of a plan names one that isn't there
none_between : (i n : ℕ) (xs : List ℕ) → All (λ k. i < k) xs → All (λ k. k < n) xs → n ≤ i → [] ≡ xs
none_between i n [] above below past = refl
none_between i n (x ∷ xs) above below past =
    let a = All-head (λ k. i < k) x xs above in
    let b = All-head (λ k. k < n) x xs below in
    absurd (omega arith)

pub dependents_past : (stages : List PlannedStage) (i : ℕ) → HasLowerSources 0 stages → length stages ≤ i → [] ≡ dependents_of stages i
dependents_past stages i h past = none_between i (length stages) (dependents_of stages i) (dependents_above 0 stages i h) (dependents_there stages i) past

-- ---- the rows and lists

no_lists : (n : ℕ) (part : ℕ → List ℕ) → ((i : ℕ) → part i ≡ []) → AreAttachedLists (replicate n (record { first = 0; count = 0 })) [] part
no_lists n part none =
    let empty : Head = record { first = 0; count = 0 } in
    let count = length-replicate n empty in
    let at : (i : ℕ) → i < length (replicate n empty) → head_at (replicate n empty) i ≡ empty = λ i l. get_or-replicate n i empty (record { first = 0; count = 0 }) (omega arith) in
    record {
      there = λ i l. subst (λ (x : Head). IsAttachedList x.count [] x.first) (sym (at i l)) tt;
      parts = λ i l. ap (list_of []) (at i l) ∙ sym (none i);
    }

-- no stage is attached yet
pub AreGrowing-start : (opening : Planned) (room lists row_room cell_room : ℕ) → opening ≡ plan_of opening.stages opening.limits → IsBuilt opening →
    length opening.stages + room ≤ 4096 → edges_of opening.stages + 2 * room ≤ 16384 → room ≤ row_room → 2 * room ≤ cell_room →
    (0 < room → lists ≡ length opening.stages + room) → AreGrowing opening [] (replicate lists (record { first = 0; count = 0 })) [] room row_room cell_room
AreGrowing-start opening room lists row_room cell_room is built stages edges rows cells all =
    let whole : opening.stages ++ [] ≡ opening.stages = append-nil opening.stages in
    let count = ap length whole in
    let sum = ap edges_of whole in
    let empty : Head = record { first = 0; count = 0 } in
    record {
      is_opening = is;
      growing = record {
        built = IsBuilt-as opening (grown_of opening [] room) (sym whole) refl built;
        opened = omega (arith, count);
        few_stages = omega (arith, count);
        few_edges = omega (arith, sum);
      };
      short = All-nil (λ (row : AttachedRow). row.count ≤ 2);
      room_for_rows = omega arith;
      room_for_cells = omega arith;
      room_again = (let no_rows : length {A = AttachedRow} [] ≡ 0 = refl in omega (arith, no_rows));
      edges_again = (let no_rows : length {A = AttachedRow} [] ≡ 0 = refl in omega (arith, no_rows));
      all_cells = refl;
      all_heads = λ some. (let no_rows : length {A = AttachedRow} [] ≡ 0 = refl in omega (arith, no_rows, length-replicate lists empty, all (omega (arith, no_rows))));
      lists = no_lists lists (attached_dependents_of opening []) (λ i. refl);
    }

-- one more stage is attached
pub AreGrowing-attach : (opening : Planned) (rows : List AttachedRow) (row : AttachedRow) (heads new_heads : List Head) (cells new_cells : List Cell) (room row_room cell_room : ℕ) →
    AreGrowing opening rows heads cells room row_room cell_room → 0 < room → row.count ≤ 2 → length ((attached_of row).sources) ≤ 2 →
    fits_form row.form (length ((attached_of row).sources)) (is_some row.function) ≡ true → All (λ j. j < length (opening.stages ++ map attached_of rows)) ((attached_of row).sources) →
    length new_heads ≡ length heads → length new_cells ≡ length cells + length ((attached_of row).sources) → AreAttachedLists new_heads new_cells (attached_dependents_of opening (rows ++ row ∷ [])) →
    AreGrowing opening (rows ++ row ∷ []) new_heads new_cells (room - 1) row_room cell_room
AreGrowing-attach opening rows row heads new_heads cells new_cells room row_room cell_room h some count short fits lower all_heads all_cells lists =
    let plan = grown_of opening rows room in
    let s = attached_of row in
    let old = map attached_of rows in
    let new : map attached_of (rows ++ row ∷ []) ≡ old ++ s ∷ [] = rw map-append refl in
    let longer : plan.stages ++ s ∷ [] ≡ opening.stages ++ map attached_of (rows ++ row ∷ []) =
    append_assoc opening.stages old (s ∷ []) ∙ ap (λ xs. opening.stages ++ xs) (sym new) in
    let may = may_attach plan s h.growing some short fits lower in
    let more = length-append plan.stages (s ∷ []) in
    let is_more = ap length longer in
    let edges = sum_by-append (λ (y : PlannedStage). length y.sources) plan.stages (s ∷ []) in
    let is_edges = ap edges_of longer in
    let new_edges = ap edges_of new ∙ sum_by-append (λ (y : PlannedStage). length y.sources) old (s ∷ []) in
    let rows_more = length-append rows (row ∷ []) in
    record {
      is_opening = h.is_opening;
      growing = record {
        built = IsBuilt-as (with_stage plan s) (grown_of opening (rows ++ row ∷ []) (room - 1)) longer refl (IsBuilt-with_stage plan s h.growing.built may);
        opened = omega (arith, h.growing.opened, more, is_more);
        few_stages = omega (arith, h.growing.few_stages, more, is_more);
        few_edges = omega (arith, h.growing.few_edges, edges, is_edges);
      };
      short = All-push (λ (r : AttachedRow). r.count ≤ 2) rows row h.short count;
      room_for_rows = omega (arith, h.room_for_rows, rows_more);
      room_for_cells = omega (arith, h.room_for_cells, all_cells);
      room_again = omega (arith, h.room_again, rows_more);
      edges_again = omega (arith, h.edges_again, rows_more);
      all_cells = omega (arith, h.all_cells, all_cells, new_edges);
      all_heads = λ again. (let old_heads = h.all_heads (omega arith) in omega (arith, old_heads, all_heads, rows_more));
      lists = lists;
    }

pub AreGrowing-attached : (opening : Planned) (rows : List AttachedRow) (row : AttachedRow) (form : Form) (of : Of) (function : Option ℕ) (heads new_heads : List Head) (cells new_cells : List Cell) (room row_room cell_room : ℕ) →
    AreGrowing opening rows heads cells room row_room cell_room → 0 < room → attached_of row ≡ attached_stage form of function → row.count ≡ length (sources_of of) →
    fits_form form (length (sources_of of)) (is_some function) ≡ true → All (λ j. j < length (opening.stages ++ map attached_of rows)) (sources_of of) →
    length new_heads ≡ length heads → length new_cells ≡ length cells + length (sources_of of) → AreAttachedLists new_heads new_cells (attached_dependents_of opening (rows ++ row ∷ [])) →
    AreGrowing opening (rows ++ row ∷ []) new_heads new_cells (room - 1) row_room cell_room
AreGrowing-attached opening rows row form of function heads new_heads cells new_cells room row_room cell_room h some is count fits lower all_heads all_cells lists =
    let few = few_sources of in
    let Fits : PlannedStage → Type 0 = λ s. fits_form s.form (length s.sources) (is_some s.function) ≡ true in
    let Lower : PlannedStage → Type 0 = λ s. All (λ j. j < length (opening.stages ++ map attached_of rows)) s.sources in
    let Few : PlannedStage → Type 0 = λ s. length s.sources ≤ 2 in
    let Counts : PlannedStage → Type 0 = λ s. length new_cells ≡ length cells + length s.sources in
    AreGrowing-attach opening rows row heads new_heads cells new_cells room row_room cell_room h some (omega arith) (subst Few (sym is) few) (subst Fits (sym is) fits) (subst Lower (sym is) lower)
    all_heads (subst Counts (sym is) all_cells) lists

-- what a stage is named by, after one that names it by these sources
attached_after : (opening : Planned) (rows : List AttachedRow) (row : AttachedRow) (sources : List ℕ) (part : ℕ → List ℕ) → (attached_of row).sources ≡ sources →
    ((i : ℕ) → part i ≡ replicate (mentions i sources) (length opening.stages + length rows) ++ attached_dependents_of opening rows i) → (i : ℕ) → part i ≡ attached_dependents_of opening (rows ++ row ∷ []) i
attached_after opening rows row sources part is same i =
    same i ∙ ap (λ xs. replicate (mentions i xs) (length opening.stages + length rows) ++ attached_dependents_of opening rows i) (sym is) ∙ sym (attached_dependents_of-push opening rows row i)

pub lists_none : (opening : Planned) (rows : List AttachedRow) (row : AttachedRow) (heads : List Head) (cells : List Cell) → (attached_of row).sources ≡ [] →
    AreAttachedLists heads cells (attached_dependents_of opening rows) → AreAttachedLists heads cells (attached_dependents_of opening (rows ++ row ∷ []))
lists_none opening rows row heads cells is h =
    AreAttachedLists-same heads cells (attached_dependents_of opening rows) (attached_dependents_of opening (rows ++ row ∷ [])) h (attached_after opening rows row [] (attached_dependents_of opening rows) is (λ i. refl))

pub lists_one : (opening : Planned) (rows : List AttachedRow) (row : AttachedRow) (heads : List Head) (cells : List Cell) (a : ℕ) → (attached_of row).sources ≡ a ∷ [] →
    AreAttachedLists heads cells (λ i. replicate (one_where i a) (length opening.stages + length rows) ++ attached_dependents_of opening rows i) → AreAttachedLists heads cells (attached_dependents_of opening (rows ++ row ∷ []))
lists_one opening rows row heads cells a is h =
    let k = length opening.stages + length rows in
    let part : ℕ → List ℕ = λ i. replicate (one_where i a) k ++ attached_dependents_of opening rows i in
    let one : (i : ℕ) → one_where i a ≡ mentions i (a ∷ []) = λ i. omega (arith, mentions-cons i a []) in
    AreAttachedLists-same heads cells part (attached_dependents_of opening (rows ++ row ∷ [])) h
    (attached_after opening rows row (a ∷ []) part is (λ i. ap (λ n. replicate n k ++ attached_dependents_of opening rows i) (one i)))

pub lists_two : (opening : Planned) (rows : List AttachedRow) (row : AttachedRow) (heads : List Head) (cells : List Cell) (a b : ℕ) → (attached_of row).sources ≡ a ∷ b ∷ [] →
    AreAttachedLists heads cells (λ i. replicate (one_where i b) (length opening.stages + length rows) ++ (replicate (one_where i a) (length opening.stages + length rows) ++ attached_dependents_of opening rows i)) →
    AreAttachedLists heads cells (attached_dependents_of opening (rows ++ row ∷ []))
lists_two opening rows row heads cells a b is h =
    let k = length opening.stages + length rows in
    let part : ℕ → List ℕ = λ i. replicate (one_where i b) k ++ (replicate (one_where i a) k ++ attached_dependents_of opening rows i) in
    let both : (i : ℕ) → one_where i b + one_where i a ≡ mentions i (a ∷ b ∷ []) = λ i. omega (arith, mentions-cons i a (b ∷ []), mentions-cons i b []) in
    AreAttachedLists-same heads cells part (attached_dependents_of opening (rows ++ row ∷ [])) h
    (attached_after opening rows row (a ∷ b ∷ []) part is
    (λ i. sym (append_assoc (replicate (one_where i b) k) (replicate (one_where i a) k) (attached_dependents_of opening rows i))
    ∙ ap (λ xs. xs ++ attached_dependents_of opening rows i) (replicate-append-replicate (one_where i b) (one_where i a) k ∙ ap (λ n. replicate n k) (both i))))

-- a list has no more stages than there are edges
pub attached_few : (opening : Planned) (rows : List AttachedRow) (i : ℕ) → edges_of (opening.stages ++ map attached_of rows) ≤ 16384 → length (attached_dependents_of opening rows i) ≤ 16384
attached_few opening rows i few =
    let n = length opening.stages in
    let old = map attached_of rows in
    omega (
      arith,
      few,
      sum_by-append (λ (y : PlannedStage). length y.sources) opening.stages old,
      length-reverse (dependents_from n old i),
      length-dependents_from n old i,
      count_by-le-length (λ j. j == i) (all_sources old),
      length-flat_map (λ (y : PlannedStage). y.sources) old,
    )

-- each stage has a list
pub listed : (opening : Planned) (rows : List AttachedRow) (heads : List Head) (cells : List Cell) (room row_room cell_room i : ℕ) → AreGrowing opening rows heads cells room row_room cell_room →
    0 < length rows + room → i < length (opening.stages ++ map attached_of rows) → i < length heads
listed opening rows heads cells room row_room cell_room i h some there =
    omega (arith, h.all_heads some, there, length-append opening.stages (map attached_of rows), length-map rows attached_of)

pub short_list : (opening : Planned) (rows : List AttachedRow) (heads : List Head) (cells : List Cell) (room row_room cell_room i : ℕ) → AreGrowing opening rows heads cells room row_room cell_room →
    i < length heads → (head_at heads i).count ≤ 16384
short_list opening rows heads cells room row_room cell_room i h there =
    omega (arith, count_is heads cells (attached_dependents_of opening rows) i h.lists there, attached_few opening rows i h.growing.built.few_edges)
