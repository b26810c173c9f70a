use Rattle.std.proofs.Common.{◌≡◌, ℕ, List, ◌++◌, ◌∷◌, [], length, length-append, sym, refl, ap, ◌∙◌, subst, append-nil, arith}
use Rattle.std.proofs.lemmas.List.Elements.{All-nil}
use Rattle.cf_desk.specs.declared.calls.Rec.TheVariants.{Saw}
use Rattle.cf_model.specs.States.{State}
use Rattle.cf_model.specs.Events.{told}
use Rattle.cf_model.specs.Ranges.{AskFits}
use Rattle.cf_desk.specs.declared.row.CallerView.{CallerView}
use Rattle.cf_desk.specs.Views.{Pass, IsBetween, known_of, state_of}
use Rattle.cf_desk.proofs.Passes.{agrees_told, none_new, asked_there}
use Rattle.cf_desk.proofs.pass.Pass.tell.Goals as goal
use Rattle.cf_desk.proofs.pass.Pass.tell.Goals.{After-push_reserved}

more : (c : After-push_reserved) → c.push_reserved.new.self.items ≡ c.self.inside.records.items ++ Saw c.self.inside.count c.args.ask c.tell-told.result ∷ []
more c = c.push_reserved.ensures.items

pub tell-told-requires : goal.tell-told-requires
tell-told-requires c =
    let known = ap (λ (h : Pass). h.known) c.self.view_is in
    asked_there (known_of c.self.inside.seat.me.0) _ c.args.ask c.self.invariant.agrees.state (subst (λ (x : CallerView). AskFits (length (state_of x).plan.stages) c.args.ask) (sym known) c.requires.asked)

pub invariant_of-self : goal.invariant_of-self
invariant_of-self c =
    let i = c.self.invariant in
    let m = more (goal.at.invariant_of-self c).After-push_reserved in
    let v = ap (λ (h : Pass). length h.records) c.self.view_is in
    let calls = ap (λ (h : Pass). h.calls) c.self.view_is in
    let longer = ap length m in
    let known = ap (λ (h : Pass). h.known) c.self.view_is in
    let there = asked_there (known_of c.self.inside.seat.me.0) _ c.args.ask i.agrees.state (subst (λ (x : CallerView). AskFits (length (state_of x).plan.stages) c.args.ask) (sym known) c.requires.asked) in record {
      one = i.one;
      agrees = agrees_told _ _ _ _ _ _ _ _ c.args.ask c.tell-told.result c.tell-told.ensures.unchanged c.tell-told.ensures.told there m i.agrees;
      room = (let r = i.room in omega (arith, c.push_reserved.ensures.capacity));
      within = omega (arith, length-append c.self.inside.records.items (Saw c.self.inside.count c.args.ask c.tell-told.result ∷ []));
      short = i.short;
    }

pub returns : goal.returns
returns c =
    let m = more (goal.at.returns c).After-push_reserved in
    let a = c.self.invariant.agrees in
    let k = known_of c.self.inside.seat.me.0 in
    rw (← c.self.view_is) (
      record {
        now = k.seen;
        more = [];
        caught = none_new k.caller k.seen;
        between = All-nil (IsBetween (length k.seen) (length k.seen));
        is = (λ i. record { table = c.self.inside.seat.table_id; known = k; records = m i; calls = c.self.inside.calls })
            ∙ ap (λ (n : ℕ). record { table = c.self.inside.seat.table_id; known = k; records = c.self.inside.records.items ++ Saw n c.args.ask c.tell-told.result ∷ []; calls = c.self.inside.calls }) a.count
            ∙ ap (λ (l : List ℕ). record { table = c.self.inside.seat.table_id; known = record k { looks = l }; records = c.self.inside.records.items ++ Saw (length k.seen) c.args.ask c.tell-told.result ∷ []; calls = c.self.inside.calls }) (sym (append-nil k.looks));
        told_is = c.tell-told.ensures.told ∙ ap (λ (s : State). told s c.args.ask) a.state;
      },
      refl,
    )
