use Rattle.std.proofs.Common.{◌≡◌, All, ◌∙◌, subst, sym}
use Rattle.std.proofs.lemmas.List.Elements.{All-push}
use Rattle.std.specs.Arc.{arc_value}
use Rattle.cf_desk.specs.Views.{Pass}
use Rattle.cf_c_handles.proofs.handle.object.Closing.add.Goals as goal

pub invariant_of-self-clause-own : goal.invariant_of-self-clause-own
invariant_of-self-clause-own c =
    let mine : Pass → Type 0 = λ p. p.table ≡ (arc_value c.args.self.now.desk).table in
    subst (All mine) (sym c.push_reserved.ensures.items) (All-push mine c.args.self.now.passes.items c.args.caller.pass c.args.self.now.own (c.args.caller.own ∙ c.requires.desk))
