use Rattle.std.proofs.Common.{List, All, ◌∷◌, [], ap, arith, length, length-append, rules, subst, suc, sym}
use Rattle.std.proofs.lemmas.Bool.{false≢true}
use Rattle.cf_forms.specs.Meanings.{meanings_of}
use Rattle.cf_explore.specs.declared.trail.Trace.{Trace}
use Rattle.cf_explore.specs.declared.layer.Entry.{Entry}
use Rattle.cf_explore.specs.Programs.{Situated}
use Rattle.cf_explore.specs.Moves.{moved}
use Rattle.cf_explore.specs.Layers.{AreNumbered, IsLed, IsNowhere}
use Rattle.cf_explore.proofs.Adding.{left, longer-none, made-new, made-there, new-within}
use Rattle.cf_explore.proofs.program.Program.add_move.Goals as goal

pub returns-in_err-situation : goal.returns-in_err-situation
returns-in_err-situation g c = record {
  weighs = search rules;
  led = search rules;
  longer = search rules;
  numbered = search rules;
  full = search rules;
  past = search rules;
  within = λ few. search rules;
}

pub returns-in_err-added : goal.returns-in_err-added
returns-in_err-added g c = record {
  weighs = search rules;
  led = search rules;
  longer = search rules;
  numbered = search rules;
  full = search rules;
  past = search rules;
  within = λ few. search rules;
}

pub returns-in_err-push-in-New : goal.returns-in_err-push-in-New
returns-in_err-push-in-New g c = record {
  weighs = search rules;
  led = search rules;
  longer = search rules;
  numbered = search rules;
  full = search rules;
  past = search rules;
  within = λ few. search rules;
}

pub returns-in_ok-push-in-New : goal.returns-in_ok-push-in-New
returns-in_ok-push-in-New g c =
    let one : Trace = record { before = c.args.entry.now.number; by = c.args.by } in
    let made = made-new (meanings_of g.F.StageFn.meaning c.args.functions.now) c.args.self.now c.args.trail.now.items c.push.new.self.items c.args.next.now.entries.items c.add.new.self.entries.items c.args.entry.now c.args.by c.in_ok-situation.situation c.len.result c.new_number-number.result c.in_ok-added.added c.in-New.is c.in_ok-situation.ensures (omega arith) c.new_number-number.ensures.number c.in_ok-push-in-New.ensures.items c.in_ok-added.ensures in
    record {
      weighs = λ yes f. made.weighs f;
      led = made.led;
      longer = made.grows;
      numbered = made.numbered;
      full = λ wrong. absurd (false≢true (sym wrong));
      past = λ wrong. absurd (false≢true (sym wrong));
      within = λ few.
          let room = new-within c.args.next.now.entries.items c.add.new.self.entries.items c.in_ok-situation.situation c.args.entry.now.orders c.len.result c.args.bound c.new_number-number.result c.in_ok-added.added c.in-New.is c.new_number-number.ensures.room c.in_ok-added.ensures in
          omega (arith, room, ap length c.in_ok-push-in-New.ensures.items, length-append c.args.trail.now.items (one ∷ []));
    }

pub returns-in-There : goal.returns-in-There
returns-in-There g c =
    let made = made-there (meanings_of g.F.StageFn.meaning c.args.functions.now) c.args.self.now c.args.trail.now.items c.args.next.now.entries.items c.add.new.self.entries.items c.args.entry.now c.args.by c.in_ok-situation.situation c.new_number-number.result c.in_ok-added.added c.in-There.is c.in_ok-situation.ensures c.in_ok-added.ensures in
    record {
      weighs = λ yes f. made.weighs f;
      led = made.led;
      longer = made.grows;
      numbered = made.numbered;
      full = λ wrong. absurd (false≢true (sym wrong));
      past = λ wrong. absurd (false≢true (sym wrong));
      within = λ few. few;
    }

pub returns-in-NoRoom : goal.returns-in-NoRoom
returns-in-NoRoom g c =
    let to : Situated = moved (meanings_of g.F.StageFn.meaning c.args.functions.now) c.args.self.now c.args.entry.now.situation c.args.by in
    let here = left c.args.trail.now.items c.args.bound c.args.next.now.entries.items c.add.new.self.entries.items c.in_ok-situation.situation to c.args.entry.now.orders c.len.result c.new_number-number.result c.in_ok-added.added c.in-NoRoom.is c.in_ok-situation.ensures (omega arith) c.new_number-number.ensures.full c.in_ok-added.ensures in
    let trail = c.args.trail.now.items in
    record {
      weighs = λ wrong. absurd (false≢true wrong);
      led = λ can k one all. subst (λ (es : List Entry). All (IsLed (meanings_of g.F.StageFn.meaning c.args.functions.now) c.args.self.now trail (suc k)) es) (sym here.same) all;
      longer = longer-none trail;
      numbered = λ base all. subst (AreNumbered base trail) (sym here.same) all;
      full = λ stopped. here.full;
      past = λ stopped. subst (λ (es : List Entry). IsNowhere es to) (sym here.same) here.nowhere;
      within = λ few. few;
    }
