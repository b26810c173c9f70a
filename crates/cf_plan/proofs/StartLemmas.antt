-- Which stages start, as rows are gone through.
use Rattle.std.proofs.Common.{◌≡◌, ℕ, ◌+◌, ◌<◌, ◌≤◌, ◌∷◌, ◌++◌, [], List, All, Bool, true, false, length, arith, ap, sym, append-nil, ◌∙◌, refl, take, take_all}
use Rattle.std.specs.Prelude.{slice_index_or, if◌then◌else◌}
use Rattle.std.proofs.lemmas.List.{length-map}
use Rattle.std.proofs.lemmas.List.Elements.{All-cons, All-nil}
use Rattle.cf_plan.specs.declared.rows.Row.{Row}
use Rattle.cf_forms.specs.Forms.{starts}
use Rattle.cf_forms.specs.Plans.{IsRising, PlannedStage, starts_from, starts_of}
use Rattle.cf_plan.specs.Rows.{stage_of, stages_of}
use Rattle.cf_plan.proofs.FillingRows.{count_before, take_split}

-- the first of these stages, if it starts
abbrev here_if : Bool → ℕ → List ℕ → List ℕ
here_if b k rest = if b then k ∷ rest else rest

here_append : (b : Bool) (k : ℕ) (xs ys : List ℕ) → here_if b k (xs ++ ys) ≡ here_if b k xs ++ ys
here_append true k xs ys = refl
here_append false k xs ys = refl

-- one more stage
pub starts_push : (k : ℕ) (stages : List PlannedStage) (s : PlannedStage) →
    starts_from k (stages ++ s ∷ []) ≡ starts_from k stages ++ (if starts s.form s.sources then (k + length stages) ∷ [] else [])
starts_push k [] s =
    let same : k + 0 ≡ k = omega arith in
    rw same refl
starts_push k (x ∷ xs) s =
    let same : k + 1 + length xs ≡ k + length (x ∷ xs) = omega arith in
    let more : ℕ → List ℕ = λ n. if starts s.form s.sources then n ∷ [] else [] in
    ap (here_if (starts x.form x.sources) k) (starts_push (k + 1) xs s ∙ ap (λ n. starts_from (k + 1) xs ++ more n) same)
    ∙ here_append (starts x.form x.sources) k (starts_from (k + 1) xs) (more (k + length (x ∷ xs)))

-- row k
pub starts_row : (sources : List ℕ) (rows : List Row) (k : ℕ) (d : Row) → k < length rows →
    starts_of (take (k + 1) (stages_of sources rows)) ≡
    starts_of (take k (stages_of sources rows)) ++ (if starts (stage_of sources (slice_index_or rows k d)).form (stage_of sources (slice_index_or rows k d)).sources then k ∷ [] else [])
starts_row sources rows k d k_n =
    let before = take k (stages_of sources rows) in
    let here = stage_of sources (slice_index_or rows k d) in
    let count = count_before sources rows k k_n in
    let same : 0 + length before ≡ k = omega (arith, count) in
    ap starts_of (take_split sources rows k d k_n) ∙ starts_push 0 before here
    ∙ ap (λ n. starts_of before ++ (if starts here.form here.sources then n ∷ [] else [])) same

pub row_starts : (found sources : List ℕ) (rows : List Row) (k : ℕ) (d : Row) → k < length rows →
    starts (stage_of sources (slice_index_or rows k d)).form (stage_of sources (slice_index_or rows k d)).sources ≡ true →
    found ≡ starts_of (take k (stages_of sources rows)) → found ++ k ∷ [] ≡ starts_of (take (k + 1) (stages_of sources rows))
row_starts found sources rows k d k_n starting so_far =
    let step = starts_row sources rows k d k_n in
    ap (λ xs. xs ++ k ∷ []) so_far ∙ sym (rw starting at step)

pub row_waits : (found sources : List ℕ) (rows : List Row) (k : ℕ) (d : Row) → k < length rows →
    starts (stage_of sources (slice_index_or rows k d)).form (stage_of sources (slice_index_or rows k d)).sources ≡ false →
    found ≡ starts_of (take k (stages_of sources rows)) → found ≡ starts_of (take (k + 1) (stages_of sources rows))
row_waits found sources rows k d k_n waiting so_far =
    let step = starts_row sources rows k d k_n in
    let none : starts_of (take k (stages_of sources rows)) ++ [] ≡ starts_of (take k (stages_of sources rows)) = append-nil _ in
    so_far ∙ sym (rw waiting at step ∙ none)

-- after the last row
pub starts_end : (found sources : List ℕ) (rows : List Row) (k : ℕ) → length rows ≤ k →
    found ≡ starts_of (take k (stages_of sources rows)) → found ≡ starts_of (stages_of sources rows)
starts_end found sources rows k past so_far =
    let count = length-map rows (stage_of sources) in
    let all : take k (stages_of sources rows) ≡ stages_of sources rows = take_all k (stages_of sources rows) (omega arith) in
    so_far ∙ ap starts_of all

-- they stand at or above the first stage here, below its end, and in rising order
here_all : (P : ℕ → Type 0) (b : Bool) (k : ℕ) (rest : List ℕ) → P k → All P rest → All P (here_if b k rest)
here_all P true k rest here h = All-cons P k rest here h
here_all P false k rest here h = h

starts_not_below : (k : ℕ) (stages : List PlannedStage) → All (λ d. k ≤ d) (starts_from k stages)
starts_not_below k [] = All-nil (λ d. k ≤ d)
starts_not_below k (s ∷ stages) =
    let rest = starts_not_below (k + 1) stages in
    here_all (λ d. k ≤ d) (starts s.form s.sources) k (starts_from (k + 1) stages) (omega arith) (λ m d l. let b = rest m d l in omega arith)

pub starts_below : (k : ℕ) (stages : List PlannedStage) → All (λ d. d < k + length stages) (starts_from k stages)
starts_below k [] = All-nil (λ d. d < k + 0)
starts_below k (s ∷ stages) =
    let rest = starts_below (k + 1) stages in
    here_all (λ d. d < k + length (s ∷ stages)) (starts s.form s.sources) k (starts_from (k + 1) stages) (omega arith) (λ m d l. let b = rest m d l in omega arith)

here_rising : (b : Bool) (k : ℕ) (rest : List ℕ) → All (λ d. k ≤ d) rest → IsRising rest → IsRising (here_if b k rest)
here_rising true k rest above h = (above, h)
here_rising false k rest above h = h

pub starts_rising : (k : ℕ) (stages : List PlannedStage) → IsRising (starts_from k stages)
starts_rising k [] = tt
starts_rising k (s ∷ stages) =
    let rest = starts_not_below (k + 1) stages in
    here_rising (starts s.form s.sources) k (starts_from (k + 1) stages) (λ m d l. let b = rest m d l in omega arith) (starts_rising (k + 1) stages)
