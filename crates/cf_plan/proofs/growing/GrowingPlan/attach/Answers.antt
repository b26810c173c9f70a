use Rattle.std.proofs.Common.{◌≡◌, ◌+◌, ◌<◌, ◌++◌, ◌∙◌, ◌∷◌, [], ℕ, List, All, ap, arith, length, map, refl, subst}
use Rattle.std.proofs.lemmas.List.Elements.{All-head, All-tail}
use Rattle.cf_forms.specs.declared.forms.Of.{Of}
use Rattle.cf_plan.specs.declared.growing.AttachedRow.{AttachedRow}
use Rattle.cf_plan.specs.Growing.{attached_of, attached_dependents_of}
use Rattle.cf_forms.specs.Plans.{PlannedStage, sources_of}
use Rattle.cf_plan.proofs.GrowingLemmas.{AreGrowing-attached, attached_few, listed, short_list, lists_none, lists_one, lists_two}
use Rattle.cf_plan.proofs.AttachedListLemmas.{count_is, pushed, pushed_cells, pushed_few, pushed_heads}
use Rattle.cf_plan.proofs.growing.GrowingPlan.attach.Goals as goal

some_room : (rows : List AttachedRow) (room : ℕ) → 0 < room → 0 < length rows + room
some_room rows room some = omega arith

pub invariant_of-self : goal.invariant_of-self
invariant_of-self c =
    let s = c.self.inside in
    let cells = s.lists.cells.items in
    let heads = s.lists.heads.items in
    let none = ap (λ (o : Of). length (sources_of o)) c.in-None.is in
    let named = ap (λ (x : PlannedStage). x.sources) c.row_of.ensures.stage ∙ ap sources_of c.in-None.is in
    rw (c.push_reserved.ensures.items, c.push_reserved.ensures.capacity)
    (AreGrowing-attached s.opening s.rows.items c.row_of.result c.args.form c.args.of c.args.function heads heads cells cells s.room _ _ c.self.invariant
    (rw (← c.self.view_is) at c.requires.room) c.row_of.ensures.stage c.row_of.ensures.count c.requires.fits (rw (← c.self.view_is) at c.requires.sources)
    refl (omega arith) (lists_none s.opening s.rows.items c.row_of.result heads cells named c.self.invariant.lists))

pub push-requires-clause-target : goal.push-requires-clause-target
push-requires-clause-target c =
    let s = c.self.inside in
    let P : ℕ → Type 0 = λ j. j < length (s.opening.stages ++ map attached_of s.rows.items) in
    let lower : All P (c.in-One.a ∷ []) = subst (λ (o : Of). All P (sources_of o)) c.in-One.is (rw (← c.self.view_is) at c.requires.sources) in
    listed _ _ _ _ _ _ _ c.in-One.a c.self.invariant (some_room c.self.inside.rows.items _ (rw (← c.self.view_is) at c.requires.room)) (All-head P c.in-One.a [] lower)

pub push-requires-clause-short : goal.push-requires-clause-short
push-requires-clause-short c =
    let s = c.self.inside in
    let P : ℕ → Type 0 = λ j. j < length (s.opening.stages ++ map attached_of s.rows.items) in
    let lower : All P (c.in-One.a ∷ []) = subst (λ (o : Of). All P (sources_of o)) c.in-One.is (rw (← c.self.view_is) at c.requires.sources) in
    let there = listed _ _ _ _ _ _ _ c.in-One.a c.self.invariant (some_room c.self.inside.rows.items _ (rw (← c.self.view_is) at c.requires.room)) (All-head P c.in-One.a [] lower) in
    let few = short_list _ _ _ _ _ _ _ c.in-One.a c.self.invariant there in
    omega (arith, few)

pub invariant_of-self-in-One : goal.invariant_of-self-in-One
invariant_of-self-in-One c =
    let s = c.self.inside in
    let a = c.in-One.a in
    let rows = s.rows.items in
    let cells = s.lists.cells.items in
    let heads = s.lists.heads.items in
    let t = c.push.new.self in
    let number : c.stages.result + c.len.result ≡ length s.opening.stages + length rows = omega (arith, c.stages.ensures.count, c.len.ensures, s.rows.ok.0) in
    let P : ℕ → Type 0 = λ j. j < length (s.opening.stages ++ map attached_of rows) in
    let lower : All P (a ∷ []) = subst (λ (o : Of). All P (sources_of o)) c.in-One.is (rw (← c.self.view_is) at c.requires.sources) in
    let there = listed _ _ _ _ _ _ _ a c.self.invariant (some_room c.self.inside.rows.items _ (rw (← c.self.view_is) at c.requires.room)) (All-head P a [] lower) in
    let one = ap (λ (o : Of). length (sources_of o)) c.in-One.is in
    let named = ap (λ (x : PlannedStage). x.sources) c.row_of.ensures.stage ∙ ap sources_of c.in-One.is in
    let longer = pushed_cells cells t.cells.items _ c.push.ensures.cells in
    rw (c.push_reserved.ensures.items, c.push_reserved.ensures.capacity, c.push.ensures.room)
    (AreGrowing-attached s.opening rows c.row_of.result c.args.form c.args.of c.args.function heads t.heads.items cells t.cells.items s.room _ _ c.self.invariant
    (rw (← c.self.view_is) at c.requires.room) c.row_of.ensures.stage c.row_of.ensures.count c.requires.fits (rw (← c.self.view_is) at c.requires.sources)
    (pushed_heads heads t.heads.items a _ c.push.ensures.heads) (omega (arith, longer, one))
    (lists_one s.opening rows c.row_of.result t.heads.items t.cells.items a named
    (pushed heads t.heads.items cells t.cells.items (attached_dependents_of s.opening rows) a _ _ there c.self.invariant.lists number c.push.ensures.heads c.push.ensures.cells)))

pub push-requires-in-Two-clause-target : goal.push-requires-in-Two-clause-target
push-requires-in-Two-clause-target c =
    let s = c.self.inside in
    let P : ℕ → Type 0 = λ j. j < length (s.opening.stages ++ map attached_of s.rows.items) in
    let lower : All P (c.in-Two.a ∷ c.in-Two.b ∷ []) = subst (λ (o : Of). All P (sources_of o)) c.in-Two.is (rw (← c.self.view_is) at c.requires.sources) in
    listed _ _ _ _ _ _ _ c.in-Two.a c.self.invariant (some_room c.self.inside.rows.items _ (rw (← c.self.view_is) at c.requires.room)) (All-head P c.in-Two.a (c.in-Two.b ∷ []) lower)

pub push-requires-in-Two-clause-short : goal.push-requires-in-Two-clause-short
push-requires-in-Two-clause-short c =
    let s = c.self.inside in
    let P : ℕ → Type 0 = λ j. j < length (s.opening.stages ++ map attached_of s.rows.items) in
    let lower : All P (c.in-Two.a ∷ c.in-Two.b ∷ []) = subst (λ (o : Of). All P (sources_of o)) c.in-Two.is (rw (← c.self.view_is) at c.requires.sources) in
    let there = listed _ _ _ _ _ _ _ c.in-Two.a c.self.invariant (some_room c.self.inside.rows.items _ (rw (← c.self.view_is) at c.requires.room)) (All-head P c.in-Two.a (c.in-Two.b ∷ []) lower) in
    let few = short_list _ _ _ _ _ _ _ c.in-Two.a c.self.invariant there in
    omega (arith, few)

pub push-requires-in-Two-2-clause-target : goal.push-requires-in-Two-2-clause-target
push-requires-in-Two-2-clause-target c =
    let s = c.self.inside in
    let a = c.in-Two.a in
    let b = c.in-Two.b in
    let P : ℕ → Type 0 = λ j. j < length (s.opening.stages ++ map attached_of s.rows.items) in
    let lower : All P (a ∷ b ∷ []) = subst (λ (o : Of). All P (sources_of o)) c.in-Two.is (rw (← c.self.view_is) at c.requires.sources) in
    let there = listed _ _ _ _ _ _ _ b c.self.invariant (some_room c.self.inside.rows.items _ (rw (← c.self.view_is) at c.requires.room)) (All-head P b [] (All-tail P a (b ∷ []) lower)) in
    let same = pushed_heads s.lists.heads.items c.push-in-Two.new.self.heads.items a _ c.push-in-Two.ensures.heads in
    omega (arith, there, same)

pub push-requires-in-Two-2-clause-short : goal.push-requires-in-Two-2-clause-short
push-requires-in-Two-2-clause-short c =
    let s = c.self.inside in
    let a = c.in-Two.a in
    let b = c.in-Two.b in
    let rows = s.rows.items in
    let cells = s.lists.cells.items in
    let heads = s.lists.heads.items in
    let t = c.push-in-Two.new.self in
    let number : c.stages.result + c.len.result ≡ length s.opening.stages + length rows = omega (arith, c.stages.ensures.count, c.len.ensures, s.rows.ok.0) in
    let P : ℕ → Type 0 = λ j. j < length (s.opening.stages ++ map attached_of rows) in
    let lower : All P (a ∷ b ∷ []) = subst (λ (o : Of). All P (sources_of o)) c.in-Two.is (rw (← c.self.view_is) at c.requires.sources) in
    let there = listed _ _ _ _ _ _ _ a c.self.invariant (some_room c.self.inside.rows.items _ (rw (← c.self.view_is) at c.requires.room)) (All-head P a (b ∷ []) lower) in
    let other = listed _ _ _ _ _ _ _ b c.self.invariant (some_room c.self.inside.rows.items _ (rw (← c.self.view_is) at c.requires.room)) (All-head P b [] (All-tail P a (b ∷ []) lower)) in
    let same = pushed_heads heads t.heads.items a _ c.push-in-Two.ensures.heads in
    let first = pushed heads t.heads.items cells t.cells.items (attached_dependents_of s.opening rows) a _ _ there c.self.invariant.lists number c.push-in-Two.ensures.heads c.push-in-Two.ensures.cells in
    let count = count_is t.heads.items t.cells.items _ b first (omega (arith, other, same)) in
    let few = pushed_few a b (length s.opening.stages + length rows) (attached_dependents_of s.opening rows b) in
    omega (arith, count, few, attached_few s.opening rows b c.self.invariant.growing.built.few_edges)

pub invariant_of-self-in-Two : goal.invariant_of-self-in-Two
invariant_of-self-in-Two c =
    let s = c.self.inside in
    let a = c.in-Two.a in
    let b = c.in-Two.b in
    let rows = s.rows.items in
    let cells = s.lists.cells.items in
    let heads = s.lists.heads.items in
    let t = c.push-in-Two.new.self in
    let u = c.push-in-Two-2.new.self in
    let number : c.stages.result + c.len.result ≡ length s.opening.stages + length rows = omega (arith, c.stages.ensures.count, c.len.ensures, s.rows.ok.0) in
    let P : ℕ → Type 0 = λ j. j < length (s.opening.stages ++ map attached_of rows) in
    let lower : All P (a ∷ b ∷ []) = subst (λ (o : Of). All P (sources_of o)) c.in-Two.is (rw (← c.self.view_is) at c.requires.sources) in
    let there = listed _ _ _ _ _ _ _ a c.self.invariant (some_room c.self.inside.rows.items _ (rw (← c.self.view_is) at c.requires.room)) (All-head P a (b ∷ []) lower) in
    let other = listed _ _ _ _ _ _ _ b c.self.invariant (some_room c.self.inside.rows.items _ (rw (← c.self.view_is) at c.requires.room)) (All-head P b [] (All-tail P a (b ∷ []) lower)) in
    let same = pushed_heads heads t.heads.items a _ c.push-in-Two.ensures.heads in
    let again = pushed_heads t.heads.items u.heads.items b _ c.push-in-Two-2.ensures.heads in
    let longer = pushed_cells cells t.cells.items _ c.push-in-Two.ensures.cells in
    let longest = pushed_cells t.cells.items u.cells.items _ c.push-in-Two-2.ensures.cells in
    let two = ap (λ (o : Of). length (sources_of o)) c.in-Two.is in
    let named = ap (λ (x : PlannedStage). x.sources) c.row_of.ensures.stage ∙ ap sources_of c.in-Two.is in
    let first = pushed heads t.heads.items cells t.cells.items (attached_dependents_of s.opening rows) a _ _ there c.self.invariant.lists number c.push-in-Two.ensures.heads c.push-in-Two.ensures.cells in
    let second = pushed t.heads.items u.heads.items t.cells.items u.cells.items _ b _ _ (omega (arith, other, same)) first number c.push-in-Two-2.ensures.heads c.push-in-Two-2.ensures.cells in
    rw (c.push_reserved.ensures.items, c.push_reserved.ensures.capacity, c.push-in-Two-2.ensures.room, c.push-in-Two.ensures.room)
    (AreGrowing-attached s.opening rows c.row_of.result c.args.form c.args.of c.args.function heads u.heads.items cells u.cells.items s.room _ _ c.self.invariant
    (rw (← c.self.view_is) at c.requires.room) c.row_of.ensures.stage c.row_of.ensures.count c.requires.fits (rw (← c.self.view_is) at c.requires.sources)
    (again ∙ same) (omega (arith, longer, longest, two))
    (lists_two s.opening rows c.row_of.result u.heads.items u.cells.items a b named second))
