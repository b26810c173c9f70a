-- What a machine keeps where nothing but memory or room is found.
use Rattle.std.proofs.Common.{◌≡◌, ◌<◌, ℕ, All, List, length, subst, sym}
use Rattle.std.specs.Prelude.{Err, Ok, OnErr, OnOk, Result}
use Rattle.cf_model.specs.States.{State}
use Rattle.cf_ledger.specs.Ledgers.{roomier, state_of}
use Rattle.cf_request.specs.Machines.{IsMachine}
use Rattle.cf_request.specs.Relays.{AreRelays, AreThere, NoneBehind}
use Rattle.cf_request.specs.Telling.{Teller, with_memory}
use Rattle.cf_request.specs.declared.deadlines.Deadline.{Deadline}
use Rattle.cf_request.specs.declared.relays.Relays.{Relays}
use Rattle.cf_request.proofs.Machines.{kept_found}

-- memory, or none
pub kept_reserved : {A E : Type 0} (result : Result A E) (words : ℕ) (a r : Teller) (w : Relays) (deadlines : List Deadline) (own : ℕ) → OnOk result (r ≡ with_memory words a) → OnErr result (r ≡ a) →
    IsMachine a w.follows.items deadlines own × NoneBehind w.follows.items (state_of a.ledger).stages × AreRelays (state_of a.ledger).stages w.follows.items w.followed w.waiting →
    IsMachine r w.follows.items deadlines own × NoneBehind w.follows.items (state_of r.ledger).stages × AreRelays (state_of r.ledger).stages w.follows.items w.followed w.waiting
kept_reserved (Ok x) words a r w deadlines own found refused h = kept_found words a r w deadlines own found h
kept_reserved (Err e) words a r w deadlines own found refused h =
    subst (λ (t : Teller). IsMachine t w.follows.items deadlines own × NoneBehind w.follows.items (state_of t.ledger).stages × AreRelays (state_of t.ledger).stages w.follows.items w.followed w.waiting) (sym refused) h

-- room
pub kept_roomier : (more : ℕ) (a r : Teller) (w : Relays) (deadlines : List Deadline) (own : ℕ) → state_of r.ledger ≡ roomier more (state_of a.ledger) →
    IsMachine a w.follows.items deadlines own × NoneBehind w.follows.items (state_of a.ledger).stages × AreRelays (state_of a.ledger).stages w.follows.items w.followed w.waiting →
    IsMachine r w.follows.items deadlines own × NoneBehind w.follows.items (state_of r.ledger).stages × AreRelays (state_of r.ledger).stages w.follows.items w.followed w.waiting
kept_roomier more a r w deadlines own is h = (
  record {
    relays = subst (λ (s : State). AreThere s w.follows.items) (sym is) h.0.relays;
    limits = record {
      there = subst (λ (s : State). All (λ (d : Deadline). d.stage < length s.plan.stages) deadlines) (sym is) h.0.limits.there;
      in_order = h.0.limits.in_order;
    };
    caller = h.0.caller;
  },
  subst (λ (s : State). NoneBehind w.follows.items s.stages) (sym is) h.1,
  subst (λ (s : State). AreRelays s.stages w.follows.items w.followed w.waiting) (sym is) h.2,
)
