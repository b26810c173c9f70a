use Rattle.std.proofs.Common.{◌≡◌, ◌-◌, ◌+◌, ◌∙◌, ℕ, List, ap, arith, drop, inl, inr, length, length-drop, refl, subst, sym, take}
use Rattle.std.proofs.lemmas.List.{take_all}
use Rattle.std.proofs.lemmas.List.Elements.{All-nil}
use Rattle.cf_ledger.specs.Ledgers.{state_of}
use Rattle.cf_request.specs.Relays.{IsNotBehind, IsRelayDue, NoneBehind}
use Rattle.cf_request.proofs.Behind.{behind_next}
use Rattle.cf_request.proofs.Memory.{relay_waits, relays_fewer, spends_settle}
use Rattle.cf_request.proofs.Turns.{dues_more, follows_kept, keeps_settle}
use Rattle.cf_request.proofs.relays.settle_behind.Goals as goal

pub settle-requires-clause-memory : goal.settle-requires-clause-memory
settle-requires-clause-memory c =
    let some = relay_waits c.args.relays.now.follows.items c.loop-behind.teller c.in-Some.behind.due c.in-Some.ensures.is_open c.in-Some.ensures.behind.due in
    let kept = c.loop-behind.invariant.memory in
    let enough = c.requires.may.memory in
    omega (arith, some, kept, enough)

pub loop-behind-smaller : goal.loop-behind-smaller
loop-behind-smaller c = relays_fewer c.args.relays.now.follows.items c.args.who c.in-Some.behind.due c.loop-behind.teller c.settle.new.teller c.in-Some.ensures.is_open c.in-Some.ensures.behind.due c.settle.ensures

pub loop-behind-preserved : goal.loop-behind-preserved
loop-behind-preserved c =
    let b = c.loop-behind.teller in
    let e = c.settle.new.teller in
    let d = c.in-Some.behind.due in
    let follows = c.args.relays.now.follows.items in
    let flags = c.args.relays.now.followed in
    let stages = (state_of e.ledger).stages in
    let some = relay_waits follows b d c.in-Some.ensures.is_open c.in-Some.ensures.behind.due in
    let fewer = relays_fewer follows c.args.who d b e c.in-Some.ensures.is_open c.in-Some.ensures.behind.due c.settle.ensures in
    let one = spends_settle c.args.who d b e c.settle.ensures in
    let kept = c.loop-behind.invariant.memory in
    let enough = c.requires.may.memory in
    let most = c.loop-behind.invariant.waiting in
    let few = c.loop-behind.invariant.fewer in
    let left = c.saturating_sub-waiting.ensures in
    let seen = length c.told-seen.result.now in
    let rest = length c.told.result.now - seen in
    let news : take rest (drop seen c.told.result.now) ≡ drop seen e.told =
    take_all rest (drop seen c.told.result.now) (let size = length-drop seen c.told.result.now in omega (arith, size)) ∙ ap (drop seen) c.told.ensures.told in
    record {
      settles = dues_more (IsRelayDue follows) c.args.who c.args.teller.now b e d c.loop-behind.invariant.settles c.in-Some.ensures.is_open c.in-Some.ensures.behind.due c.settle.ensures;
      there = follows_kept b e follows (keeps_settle c.args.who d b e c.settle.ensures) c.loop-behind.invariant.there;
      before = elim c.next_place-from.ensures.next [
        | inl is ↦ subst (λ (n : ℕ). NoneBehind (take n follows) stages) (sym is)
            (behind_next follows flags c.args.who seen (take rest (drop seen c.told.result.now)) b e c.in-Some.behind c.in-Some.ensures.behind c.requires.marked c.settle.ensures (ap (λ (l : List ℕ). length l) c.told-seen.ensures.told) news (c.next_place-from.ensures.none is))
        | inr first ↦ subst (λ (n : ℕ). NoneBehind (take n follows) stages) (sym first) (All-nil (IsNotBehind stages))
      ];
      waiting = omega (arith, fewer, most, left);
      fewer = omega (arith, few, left);
      memory = omega (arith, some, fewer, one, kept, enough);
    }
