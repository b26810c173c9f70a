-- What an engine makes of a row.
use Rattle.std.proofs.Common.{◌≡◌, ℕ, ◌+◌, ◌<◌, List, [], ◌∷◌, ◌++◌, length, length-append, All, get_or, refl, ap, sym, ◌∙◌, subst, append-nil, append_assoc, inl, inr, arith}
use Rattle.std.specs.Prelude.{◌≢◌, ◌⊎◌}
use Rattle.std.proofs.lemmas.List.Elements.{All-nil, All-append, All-head, All-tail}
use Rattle.cf_forms.specs.Plans.{Planned}
use Rattle.cf_row.specs.declared.entry.Entry.{Entry}
use Rattle.cf_row.specs.Rows.{BeginsWith}
use Rattle.cf_row.specs.Puts.{IsOnceOrNever, NoneStands, StandsOnce}
use Rattle.cf_row.specs.Engines.{AreBehind, Group, IsAsked, Puts, Runs, joined}
use Rattle.cf_row.specs.Laws.{LandedPutsStandOnce, PutsKeepOnceOrNever, PutsStandOnceOrNever, RowsOnlyGrow}

-- ---- rows only grow

begins_more : (row seen more : List Entry) → BeginsWith row seen → BeginsWith (row ++ more) seen
begins_more row seen more h = record { rest = h.rest ++ more; is = ap (λ (l : List Entry). l ++ more) h.is ∙ append_assoc seen h.rest more }

begins_put : (old new seen : List Entry) (g : Group) → Puts old g new → BeginsWith old seen → BeginsWith new seen
begins_put old new seen g (inl same) h = subst (λ (row : List Entry). BeginsWith row seen) (sym same) h
begins_put old new seen g (inr put) h = subst (λ (row : List Entry). BeginsWith row seen) (sym put.1) (begins_more old seen g.put h)

pub only_grow : RowsOnlyGrow
only_grow plan old new seen [] run h = subst (λ (row : List Entry). BeginsWith row seen) (sym run) h
only_grow plan old new seen (g ∷ asked) run h = only_grow plan run.0 new seen asked run.3 (begins_put old run.0 seen g run.2 h)

-- ---- a put stands once or never

once_more : (row : List Entry) (place : ℕ) (put more : List Entry) → NoneStands more put → StandsOnce row place put → StandsOnce (row ++ more) place put
once_more row place put more none h = record {
  front = h.front;
  rest = h.rest ++ more;
  is = ap (λ (l : List Entry). l ++ more) h.is ∙ append_assoc h.front (put ++ h.rest) more ∙ ap (λ (l : List Entry). h.front ++ l) (append_assoc put h.rest more);
  count = h.count;
  before = h.before;
  behind = All-append (λ (x : Entry). All (λ (y : Entry). x.token ≢ y.token) put) h.rest more h.behind none;
}

-- others come behind
other_comes : (row : List Entry) (place : ℕ) (put more : List Entry) → NoneStands more put → IsOnceOrNever row place put → IsOnceOrNever (row ++ more) place put
other_comes row place put more none (inl h) = inl (once_more row place put more none h)
other_comes row place put more none (inr h) = inr (All-append (λ (x : Entry). All (λ (y : Entry). x.token ≢ y.token) put) row more h none)

-- it comes itself
pub itself_comes : LandedPutsStandOnce
itself_comes row put l (inl h) =
    let size = ap length h.is ∙ length-append h.front (put ++ h.rest) in
    let more = length-append put h.rest in
    let count = h.count in
    absurd (omega (arith, size, more, count, l))
itself_comes row put l (inr h) = record {
  front = row;
  rest = [];
  is = ap (λ (l : List Entry). row ++ l) (sym (append-nil put));
  count = refl;
  before = h;
  behind = All-nil (λ (x : Entry). All (λ (y : Entry). x.token ≢ y.token) put);
}

-- one put, whichever it is
comes : (old : List Entry) (g h : Group) → 0 < length g.put → length h.by.seen ≡ length old → (h ≡ g) ⊎ NoneStands h.put g.put →
    IsOnceOrNever old (length g.by.seen) g.put → IsOnceOrNever (old ++ h.put) (length g.by.seen) g.put
comes old g h l at (inl same) is =
    let here : length g.by.seen ≡ length old = ap (λ (f : Group). length f.by.seen) (sym same) ∙ at in
    subst (λ (p : List Entry). IsOnceOrNever (old ++ p) (length g.by.seen) g.put) (ap (λ (f : Group). f.put) (sym same))
    (subst (λ (n : ℕ). IsOnceOrNever (old ++ g.put) n g.put) (sym here) (inl (itself_comes old g.put l (subst (λ (n : ℕ). IsOnceOrNever old n g.put) here is))))
comes old g h l at (inr none) is = other_comes old (length g.by.seen) g.put h.put none is

pub one_put : PutsKeepOnceOrNever
one_put old new g h l (inl same) apart is = subst (λ (row : List Entry). IsOnceOrNever row (length g.by.seen) g.put) (sym same) is
one_put old new g h l (inr put) apart is = subst (λ (row : List Entry). IsOnceOrNever row (length g.by.seen) g.put) (sym put.1) (comes old g h l put.0 apart is)

all_puts : (plan : Planned) (old new : List Entry) (g : Group) (asked : List Group) → 0 < length g.put → Runs plan old asked new →
    All (λ (h : Group). (h ≡ g) ⊎ NoneStands h.put g.put) asked → IsOnceOrNever old (length g.by.seen) g.put → IsOnceOrNever new (length g.by.seen) g.put
all_puts plan old new g [] l run apart is = subst (λ (row : List Entry). IsOnceOrNever row (length g.by.seen) g.put) (sym run) is
all_puts plan old new g (h ∷ asked) l run apart is =
    all_puts plan run.0 new g asked l run.3 (All-tail (λ (h : Group). (h ≡ g) ⊎ NoneStands h.put g.put) h asked apart)
    (one_put old run.0 g h l run.2 (All-head (λ (h : Group). (h ≡ g) ⊎ NoneStands h.put g.put) h asked apart) is)

pub once_or_never : PutsStandOnceOrNever
once_or_never plan asked row run own = λ k d l some.
    (let g = get_or asked k d in
    all_puts plan [] row g asked some run (own k d l) (inr (All-nil (λ (x : Entry). All (λ (y : Entry). x.token ≢ y.token) g.put))))

-- ---- a row is made of puts that stand one behind another

pub record IsMade (plan : Planned) (front row : List Entry) : Type 0 where
  pub groups : List Group
  pub is : row ≡ front ++ joined groups
  pub behind : AreBehind plan front groups

-- what the session had seen is all that stands
seen_all : (row seen : List Entry) → BeginsWith row seen → length seen ≡ length row → seen ≡ row
seen_all row seen h same =
    let size = ap length h.is ∙ length-append seen h.rest in
    let none : h.rest ≡ [] = no_rest h.rest (omega (arith, size, same)) in
    sym (append-nil seen) ∙ ap (λ (l : List Entry). seen ++ l) (sym none) ∙ sym h.is
  where
    no_rest : (rest : List Entry) → length rest ≡ 0 → rest ≡ []
    no_rest [] e = refl
    no_rest (x ∷ rest) e = absurd (omega arith)

made_more : (plan : Planned) (old between new : List Entry) (g : Group) → IsAsked plan old g → Puts old g between → IsMade plan between new → IsMade plan old new
made_more plan old between new g asked (inl same) made = subst (λ (row : List Entry). IsMade plan row new) same made
made_more plan old between new g asked (inr put) made = record {
  groups = g ∷ made.groups;
  is = made.is ∙ ap (λ (row : List Entry). row ++ joined made.groups) put.1 ∙ append_assoc old g.put (joined made.groups);
  behind = (
    record { plan_is = asked.plan_is; room = asked.room; seen = seen_all old g.by.seen asked.seen put.0; put = asked.put },
    subst (λ (row : List Entry). AreBehind plan row made.groups) put.1 made.behind,
  );
}

pub made : (plan : Planned) (old new : List Entry) (asked : List Group) → Runs plan old asked new → IsMade plan old new
made plan old new [] run = record { groups = []; is = run ∙ sym (append-nil old); behind = tt }
made plan old new (g ∷ asked) run = made_more plan old run.0 new g run.1 run.2 (made plan run.0 new asked run.3)
