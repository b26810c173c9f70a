-- What a pointer that C keeps owns: a box, or nothing.
use Rattle.std.specs.Prelude.{◌≡◌, Bool, true, false}
use base.Fml.{Fml, ftrue}
use denote.RawPtr.{Ptr}
use Rattle.std.specs.declared.option.Option.{Option}
use Rattle.std.specs.declared.option.Option.TheVariants.{None, Some}
use Rattle.std_alloc.specs.Box.Ownership.{box_owns}
use Rattle.std.specs.Global.{Global}
use Rattle.std_heap.specs.contracts.GlobalAllocator.TheImpl.{ghosts}
use Rattle.cf_c_handles.specs.contracts.handle.object.Object.{the_row}

abbrev pub seal_owns : Global → Ptr → Option the_row.Denot → Fml
seal_owns alloc p None = ftrue
seal_owns alloc p (Some v) = box_owns (ghosts.dealloc_token alloc) the_row p v

abbrev pub is_full : {X : Type 0} → Option X → Bool
is_full None = false
is_full (Some v) = true

abbrev pub IsFull : {X : Type 0} → Option X → Type 0
IsFull h = is_full h ≡ true
