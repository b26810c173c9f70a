-- Linked lists, as a stage is put in or taken out.
use Rattle.std.proofs.Common.{◌≡◌, ◌≢◌, ℕ, ◌+◌, ◌<◌, ◌≤◌, ◌==◌, ◌∷◌, ◌++◌, [], List, Bool, true, false, cond, length, suc, zero, arith, ap, sym, ◌∙◌, subst, refl, set, replicate, inl, inr, add-one, length-set, length-append, get_or-set_same, get_or-set_other}
use Rattle.std.proofs.Math.Seq.{get_or-append_seam}
use Rattle.std.proofs.lemmas.List.{get_or_append_left, length-replicate}
use Rattle.std.proofs.lemmas.Bool.Decides.{eqb_tells}
use Rattle.cf_plan.specs.declared.attached_lists.Cell.{Cell}
use Rattle.cf_plan.specs.declared.attached_lists.Head.{Head}
use Rattle.cf_plan.specs.AttachedLists.{AreAttachedLists, IsAttachedList, cell_at, head_at, list_of, walk}
use Rattle.cf_plan.proofs.DependentLemmas.{one_where, one_where_same, one_where_other}

pub length-walk : (n : ℕ) (cells : List Cell) (c : ℕ) → length (walk n cells c) ≡ n
length-walk zero cells c = refl
length-walk (suc n) cells c = ap suc (length-walk n cells (cell_at cells c).next)

cell_at-more : (cells more : List Cell) (c : ℕ) → c < length cells → cell_at (cells ++ more) c ≡ cell_at cells c
cell_at-more cells more c l = get_or_append_left cells more (record { stage = 0; next = 0 }) c l

-- a list stays the same as more cells are taken
pub list-more : (n : ℕ) (cells more : List Cell) (c : ℕ) → IsAttachedList n cells c → IsAttachedList n (cells ++ more) c
list-more zero cells more c h = tt
list-more (suc n) cells more c h =
    let same = cell_at-more cells more c h.0 in
    let rest : IsAttachedList n (cells ++ more) (cell_at (cells ++ more) c).next =
    subst (λ (x : Cell). IsAttachedList n (cells ++ more) x.next) (sym same) (list-more n cells more (cell_at cells c).next h.1) in
    (omega (arith, h.0, length-append cells more), rest)

pub walk-more : (n : ℕ) (cells more : List Cell) (c : ℕ) → IsAttachedList n cells c → walk n (cells ++ more) c ≡ walk n cells c
walk-more zero cells more c h = refl
walk-more (suc n) cells more c h =
    let same = cell_at-more cells more c h.0 in
    ap (λ (x : Cell). x.stage ∷ walk n (cells ++ more) x.next) same
    ∙ ap (λ xs. (cell_at cells c).stage ∷ xs) (walk-more n cells more (cell_at cells c).next h.1)

-- ---- in

-- the list of a head that was put before a list
pub pushed_there : (cells : List Cell) (head : Head) (stage : ℕ) → IsAttachedList head.count cells head.first →
    IsAttachedList (head.count + 1) (cells ++ record { stage = stage; next = head.first } ∷ []) (length cells)
pushed_there cells head stage h =
    let new : Cell = record { stage = stage; next = head.first } in
    let at : cell_at (cells ++ new ∷ []) (length cells) ≡ new = get_or-append_seam cells new [] (record { stage = 0; next = 0 }) in
    let rest : IsAttachedList head.count (cells ++ new ∷ []) (cell_at (cells ++ new ∷ []) (length cells)).next =
    subst (λ (x : Cell). IsAttachedList head.count (cells ++ new ∷ []) x.next) (sym at) (list-more head.count cells (new ∷ []) head.first h) in
    rw add-one (omega (arith, length-append cells (new ∷ [])), rest)

pub pushed_list : (cells : List Cell) (head : Head) (stage : ℕ) → IsAttachedList head.count cells head.first →
    walk (head.count + 1) (cells ++ record { stage = stage; next = head.first } ∷ []) (length cells) ≡ stage ∷ list_of cells head
pushed_list cells head stage h =
    let new : Cell = record { stage = stage; next = head.first } in
    let at : cell_at (cells ++ new ∷ []) (length cells) ≡ new = get_or-append_seam cells new [] (record { stage = 0; next = 0 }) in
    rw add-one
    (ap (λ (x : Cell). x.stage ∷ walk head.count (cells ++ new ∷ []) x.next) at
    ∙ ap (λ xs. stage ∷ xs) (walk-more head.count cells (new ∷ []) head.first h))

-- a stage at the head of the list of another
pub AreAttachedLists-push : (heads : List Head) (cells : List Cell) (part new_part : ℕ → List ℕ) (target stage : ℕ) → target < length heads → AreAttachedLists heads cells part →
    new_part target ≡ stage ∷ part target → ((i : ℕ) → i ≢ target → new_part i ≡ part i) →
    AreAttachedLists (set heads target (record { first = length cells; count = (head_at heads target).count + 1 })) (cells ++ record { stage = stage; next = (head_at heads target).first } ∷ []) new_part
AreAttachedLists-push heads cells part new_part target stage l h here others =
    let head = head_at heads target in
    let new : Head = record { first = length cells; count = head.count + 1 } in
    let cell : Cell = record { stage = stage; next = head.first } in
    let n = length-set heads target new in
    let at_target : head_at (set heads target new) target ≡ new = get_or-set_same heads target new (record { first = 0; count = 0 }) l in
    let elsewhere : (i : ℕ) → i ≢ target → head_at (set heads target new) i ≡ head_at heads i = λ i ne. get_or-set_other heads target i new (record { first = 0; count = 0 }) ne in
    let IsThere : Head → Type 0 = λ x. IsAttachedList x.count (cells ++ cell ∷ []) x.first in
    record {
      there = λ i li. elim (eqb_tells i target) [
        | inl s ↦ subst (λ m. IsThere (head_at (set heads target new) m)) (sym s.1)
            (subst IsThere (sym at_target) (pushed_there cells head stage (h.there target l)))
        | inr s ↦ subst IsThere (sym (elsewhere i s.1)) (list-more (head_at heads i).count cells (cell ∷ []) (head_at heads i).first (h.there i (omega (arith, li, n))))
      ];
      parts = λ i li. elim (eqb_tells i target) [
        | inl s ↦ subst (λ m. list_of (cells ++ cell ∷ []) (head_at (set heads target new) m) ≡ new_part m) (sym s.1)
            (ap (list_of (cells ++ cell ∷ [])) at_target ∙ pushed_list cells head stage (h.there target l) ∙ ap (λ xs. stage ∷ xs) (h.parts target l) ∙ sym here)
        | inr s ↦ ap (list_of (cells ++ cell ∷ [])) (elsewhere i s.1)
            ∙ walk-more (head_at heads i).count cells (cell ∷ []) (head_at heads i).first (h.there i (omega (arith, li, n)))
            ∙ h.parts i (omega (arith, li, n)) ∙ sym (others i s.1)
      ];
    }

-- a mention of another stage
pub AreAttachedLists-mention : (heads : List Head) (cells : List Cell) (part : ℕ → List ℕ) (target stage : ℕ) → target < length heads → AreAttachedLists heads cells part →
    AreAttachedLists (set heads target (record { first = length cells; count = (head_at heads target).count + 1 })) (cells ++ record { stage = stage; next = (head_at heads target).first } ∷ [])
    (λ i. replicate (one_where i target) stage ++ part i)
AreAttachedLists-mention heads cells part target stage l h =
    AreAttachedLists-push heads cells part (λ i. replicate (one_where i target) stage ++ part i) target stage l h
    (ap (λ n. replicate n stage ++ part target) (one_where_same target))
    (λ i ne. ap (λ n. replicate n stage ++ part i) (one_where_other i target (λ e. ne (sym e))))

-- what a push leaves
pub pushed : (heads new_heads : List Head) (cells new_cells : List Cell) (part : ℕ → List ℕ) (target stage k : ℕ) → target < length heads → AreAttachedLists heads cells part → stage ≡ k →
    new_heads ≡ set heads target (record { first = length cells; count = (head_at heads target).count + 1 }) →
    new_cells ≡ cells ++ record { stage = stage; next = (head_at heads target).first } ∷ [] →
    AreAttachedLists new_heads new_cells (λ i. replicate (one_where i target) k ++ part i)
pushed heads new_heads cells new_cells part target stage k l h is heads_are cells_are =
    rw (heads_are, cells_are, is) (AreAttachedLists-mention heads cells part target k l h)

pub pushed_heads : (heads new_heads : List Head) (target : ℕ) (head : Head) → new_heads ≡ set heads target head → length new_heads ≡ length heads
pushed_heads heads new_heads target head is = ap length is ∙ length-set heads target head

pub pushed_cells : (cells new_cells : List Cell) (cell : Cell) → new_cells ≡ cells ++ cell ∷ [] → length new_cells ≡ length cells + 1
pushed_cells cells new_cells cell is = ap length is ∙ length-append cells (cell ∷ [])

-- a mention adds one stage at most
pub pushed_few : (a b k : ℕ) (xs : List ℕ) → length (replicate (one_where b a) k ++ xs) ≤ length xs + 1
pushed_few a b k xs =
    let longer = length-append (replicate (one_where b a) k) xs in
    let count = length-replicate (one_where b a) k in
    omega (arith, longer, count, one_at_most b a)
  where
    at_most : (x : Bool) → cond x 1 0 ≤ 1
    at_most true = omega arith
    at_most false = omega arith

    one_at_most : (i j : ℕ) → one_where i j ≤ 1
    one_at_most i j = at_most (j == i)

-- the same lists under another name
pub AreAttachedLists-same : (heads : List Head) (cells : List Cell) (part new_part : ℕ → List ℕ) → AreAttachedLists heads cells part → ((i : ℕ) → part i ≡ new_part i) → AreAttachedLists heads cells new_part
AreAttachedLists-same heads cells part new_part h same = record { there = h.there; parts = λ i l. h.parts i l ∙ same i }

-- a list is as long as its part
pub count_is : (heads : List Head) (cells : List Cell) (part : ℕ → List ℕ) (i : ℕ) → AreAttachedLists heads cells part → i < length heads → (head_at heads i).count ≡ length (part i)
count_is heads cells part i h l = sym (length-walk (head_at heads i).count cells (head_at heads i).first) ∙ ap length (h.parts i l)
