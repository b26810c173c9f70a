-- What a session that has seen a row to its end knows of it.
use Rattle.std.proofs.Common.{◌≡◌, ℕ, ◌<◌, ◌≤◌, List, [], ◌∷◌, ◌++◌, length, length-append, drop, get_or, refl, ap, sym, ◌∙◌, subst, append-nil, append_assoc, arith}
use Rattle.std.specs.Prelude.{◌≢◌}
use Rattle.std.proofs.lemmas.List.{drop_at, nil_from_length}
use Rattle.cf_forms.specs.Plans.{Planned}
use Rattle.cf_row.specs.declared.entry.Entry.{Entry}
use Rattle.cf_row.specs.Rows.{BeginsWith, FitsEachRow, FitsUpTo, Replays, Replica}

pub behind_is : (row seen : List Entry) (h : BeginsWith row seen) → drop (length seen) row ≡ h.rest
behind_is row seen h = ap (drop (length seen)) h.is ∙ drop_at seen h.rest (length seen) refl

-- what was seen, with all that stands behind it, is the row
pub all_seen : (row seen : List Entry) → BeginsWith row seen → seen ++ drop (length seen) row ≡ row
all_seen row seen h = ap (λ (l : List Entry). seen ++ l) (behind_is row seen h) ∙ sym h.is

pub few_seen : (row seen : List Entry) → BeginsWith row seen → length seen ≤ length row
few_seen row seen h = let size = ap length h.is ∙ length-append seen h.rest in omega (arith, size)

-- where as many are seen as stand, they are the row
pub seen_is : (row seen : List Entry) → BeginsWith row seen → length seen ≡ length row → seen ≡ row
seen_is row seen h same =
    let size = ap length h.is ∙ length-append seen h.rest in
    let none : h.rest ≡ [] = nil_from_length h.rest (omega (arith, size, same)) in
    sym (append-nil seen) ∙ ap (λ (l : List Entry). seen ++ l) (sym none) ∙ sym h.is

first_rest : (seen rest : List Entry) (d : Entry) → 0 < length rest → BeginsWith (seen ++ rest) (seen ++ get_or rest 0 d ∷ [])
first_rest seen [] d l = absurd (omega arith)
first_rest seen (x ∷ rest) d l = record { rest = rest; is = sym (append_assoc seen (x ∷ []) rest) }

-- the row begins with what was seen and the first entry behind it
pub begins_first : (row seen : List Entry) (d : Entry) → BeginsWith row seen → 0 < length (drop (length seen) row) → BeginsWith row (seen ++ get_or (drop (length seen) row) 0 d ∷ [])
begins_first row seen d h l =
    let behind = behind_is row seen h in
    subst (λ (r : List Entry). BeginsWith r (seen ++ get_or (drop (length seen) row) 0 d ∷ [])) (sym h.is)
    (subst (λ (b : List Entry). BeginsWith (seen ++ h.rest) (seen ++ get_or b 0 d ∷ [])) (sym behind) (first_rest seen h.rest d (subst (λ (b : List Entry). 0 < length b) behind l)))

-- the records of a session that has seen all of a row fit it
pub whole_fits : (old new : Replica) (entries row : List Entry) → Replays old entries new → FitsEachRow new → old.seen ++ entries ≡ row → FitsUpTo old.plan old.session (length row) row new.records
whole_fits old new entries row h fits is =
    let all : new.seen ≡ row = h.seen ∙ is in
    let one : FitsUpTo new.plan new.session (length new.seen) row new.records = fits row (record { rest = []; is = sym all ∙ sym (append-nil new.seen) }) in
    let two : FitsUpTo new.plan new.session (length row) row new.records = subst (λ (n : ℕ). FitsUpTo new.plan new.session n row new.records) (ap (λ (l : List Entry). length l) all) one in
    subst (λ (p : Planned). FitsUpTo p old.session (length row) row new.records) h.plan (subst (λ (s : ℕ). FitsUpTo new.plan s (length row) row new.records) h.session two)

some_rest : (row seen rest : List Entry) → row ≡ seen ++ rest → length seen ≢ length row → 0 < length rest
some_rest row seen [] is differ = absurd (differ (sym (ap (λ (l : List Entry). length l) (is ∙ append-nil seen))))
some_rest row seen (x ∷ rest) is differ = omega arith

-- what was read behind what was seen begins with what stands there
pub begins_there : (row seen behind : List Entry) (d : Entry) → BeginsWith row seen → behind ≡ drop (length seen) row → length seen ≢ length row → BeginsWith row (seen ++ get_or behind 0 d ∷ [])
begins_there row seen behind d h is differ =
    let some : 0 < length (drop (length seen) row) = subst (λ (l : List Entry). 0 < length l) (sym (behind_is row seen h)) (some_rest row seen h.rest h.is differ) in
    subst (λ (l : List Entry). BeginsWith row (seen ++ get_or l 0 d ∷ [])) (sym is) (begins_first row seen d h some)
