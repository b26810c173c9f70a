use Rattle.std.proofs.Common.{◌≡◌, ◌+◌, ◌∙◌, [], List, ℕ, ap, arith, length, refl, subst, sym}
use Rattle.cf_event.specs.Decoding.{decoded}
use Rattle.cf_forms.specs.Plans.{Planned, reopened, with_room}
use Rattle.cf_model.specs.States.{State, start}
use Rattle.cf_model.proofs.Growing.{grown_reopens}
use Rattle.cf_ledger.specs.Ledgers.{IsKept}
use Rattle.cf_ledger.proofs.Reserving.{places_stay}
use Rattle.cf_ledger.proofs.Words.{all_flags}
use Rattle.cf_ledger.proofs.ledger.Ledger.restart.Goals as goal

pub invariant_of-self : goal.invariant_of-self
invariant_of-self c =
    let l = c.self.inside.book in
    let plan = with_room l.plan l.room in
    let g = c.start_again.new.graph in
    let h = c.self.invariant.kept in
    let whole : l.plan.opened ≡ length l.plan.stages = ap (λ (p : Planned). p.opened) c.self.invariant.whole in
    let again : g.state ≡ start plan =
    c.start_again.ensures.start ∙ ap (λ (s : State). start (reopened s.plan)) h.left ∙ ap start (grown_reopens l.plan l.room (decoded l.words.items) whole) in
    let none : IsKept plan [] g l.changed [] = record {
      place = h.place;
      written = refl;
      taken = tt;
      left = again;
      worked_out = c.start_again.ensures.worked_out;
      unset = h.unset;
      flags = all_flags plan l.words.items l.graph l.changed l.news.lists h ∙ sym (ap (λ (s : State). length s.plan.stages + s.plan.room) again);
      noted = tt;
    } in
    let empty = ap length c.clear.ensures.items in
    let same = c.clear.ensures.capacity in
    record {
      whole = c.self.invariant.whole;
      kept = subst (λ lists. IsKept plan c.clear.new.self.items g l.changed lists) (sym c.clear-2.ensures.lists)
          (subst (λ (words : List ℕ). IsKept plan words g l.changed []) (sym c.clear.ensures.items) none);
      places = places_stay l.free (length l.changed) (length l.changed) l.words c.clear.new.self l.news c.clear-2.new.self c.self.invariant.places refl (omega (arith, empty, same)) c.clear-2.ensures.kept_more c.clear-2.ensures.kept_free;
    }
