-- The callers of a new desk, one after another.
use Rattle.std.proofs.Common.{◌≡◌, ℕ, suc, ◌<◌, Option, Some, Result, Ok, Err, IfOk, List, [], ◌∷◌, ◌++◌, length, length-append, slice_set, refl, ap, sym, arith}
use Rattle.std.specs.Arc.{arc_value}
use Rattle.std.specs.Global.{Box}
use Rattle.cf_desk.specs.Views.{Desk, Pass}
use Rattle.cf_c_handles.specs.Opening.{AreBehind, AreBoxed, ArePut, IsBehind, IsCallerOf}
use Rattle.cf_c_handles.specs.declared.handle.CfHandle.{CfHandle}
use Rattle.cf_c_handles.specs.declared.handle.object.Caller.{Caller as Caller'}
use Rattle.cf_c_handles.specs.declared.handle.object.Object.{Object}
use Rattle.cf_c_handles.specs.declared.handle.object.Object.TheVariants.{Caller}

-- a caller in a box is of its desk, and has its pass
pub boxed_caller : {E : Type 0} (d : Desk) (p : Pass) (c : Caller') (r : Result (Box Object) E) → IfOk r (λ (b : Box Object). b.value ≡ Caller c) → arc_value c.desk ≡ d → c.pass ≡ p → IfOk r (λ (b : Box Object). IsCallerOf d p b.value)
boxed_caller d p c (Ok b) is desk pass = record { caller = c; is = is; desk = desk; pass = pass }
boxed_caller d p c (Err e) is desk pass = tt

-- one more is made
pub boxed_push : (d : Desk) (ps : List Pass) (bs : List (Box Object)) (p : Pass) (b : Box Object) → AreBoxed d ps bs → IsCallerOf d p b.value → AreBoxed d (ps ++ p ∷ []) (bs ++ b ∷ [])
boxed_push d [] [] p b made next = (next, tt)
boxed_push d [] (c ∷ bs) p b made next = absurd made
boxed_push d (q ∷ ps) [] p b made next = absurd made
boxed_push d (q ∷ ps) (c ∷ bs) p b made next = (made.0, boxed_push d ps bs p b made.1 next)

-- as many are made as there are passes
pub boxed_count : (d : Desk) (ps : List Pass) (bs : List (Box Object)) → AreBoxed d ps bs → length bs ≡ length ps
boxed_count d [] [] made = refl
boxed_count d [] (b ∷ bs) made = absurd made
boxed_count d (p ∷ ps) [] made = absurd made
boxed_count d (p ∷ ps) (b ∷ bs) made = ap suc (boxed_count d ps bs made.1)

-- one more is put behind a handle
pub put_push : (bs : List (Box Object)) (hs : List CfHandle) (b : Box Object) (h : CfHandle) → ArePut bs hs → h.inner.held ≡ Some b.value → ArePut (bs ++ b ∷ []) (hs ++ h ∷ [])
put_push [] [] b h put next = (next, tt)
put_push [] (g ∷ hs) b h put next = absurd put
put_push (c ∷ bs) [] b h put next = absurd put
put_push (c ∷ bs) (g ∷ hs) b h put next = (put.0, put_push bs hs b h put.1 next)

-- what is put behind the next handle leaves those before it and behind it
pub set_next : (front back : List CfHandle) (h g : CfHandle) → slice_set (front ++ h ∷ back) (length front) g ≡ (front ++ g ∷ []) ++ back
set_next [] back h g = refl
set_next (x ∷ front) back h g = ap (λ l. x ∷ l) (set_next front back h g)

behind_one : (d : Desk) (p : Pass) (held : Object) (h : Option Object) → IsCallerOf d p held → h ≡ Some held → IsBehind d p h
behind_one d p held h is put = rw put is

-- the callers that were made stand behind the handles
pub behind_of : (d : Desk) (ps : List Pass) (bs : List (Box Object)) (hs : List CfHandle) → AreBoxed d ps bs → ArePut bs hs → AreBehind d ps hs
behind_of d [] [] [] made put = tt
behind_of d [] [] (h ∷ hs) made put = absurd put
behind_of d [] (b ∷ bs) hs made put = absurd made
behind_of d (p ∷ ps) [] hs made put = absurd made
behind_of d (p ∷ ps) (b ∷ bs) [] made put = absurd put
behind_of d (p ∷ ps) (b ∷ bs) (h ∷ hs) made put = (behind_one d p b.value h.inner.held made.0 put.0, behind_of d ps bs hs made.1 put.1)

-- the handles with one more written, those behind it
pub record OneMore (handles front back : List CfHandle) (i : ℕ) (g : CfHandle) : Type 0 where
  pub rest : List CfHandle
  pub is : slice_set handles i g ≡ (front ++ g ∷ []) ++ rest
  pub left : length back ≡ suc (length rest)

pub one_more : (handles front back : List CfHandle) (i : ℕ) (g : CfHandle) → handles ≡ front ++ back → length front ≡ i → i < length handles → OneMore handles front back i g
one_more handles front [] i g is place below = absurd (let e = ap length is in let n = length-append front [] in omega arith)
one_more handles front (h ∷ back) i g is place below = record {
  rest = back;
  is = rw (is, sym place) (set_next front back h g);
  left = refl;
}
