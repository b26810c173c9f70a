use Rattle.std.proofs.Common.{ℕ, List, ◌∙◌, flat_map, map-id, subst, sym}
use Rattle.std.proofs.lemmas.Iterator.{YieldsList-from_chars}
use Rattle.std.proofs.lemmas.Iterator.Consumers.{YieldsList-end}
use Rattle.cf_telling.specs.Texts.{Adds}
use Rattle.cf_telling.proofs.Texts.{adds_more, adds_none, piece}
use Rattle.cf_telling.proofs.text.Text.add_inside.Goals as goal

pub loop-c-init : goal.loop-c-init
loop-c-init c = adds_none c.args.self.now

pub loop-c-preserved : goal.loop-c-preserved
loop-c-preserved c = adds_more c.loop-c.yielded c.in-Some.c c.args.self.now c.loop-c.self c.add_char.new.self c.loop-c.invariant c.add_char.ensures

pub returns : goal.returns
returns c =
    let end = YieldsList-end (YieldsList-from_chars c.args.said.now c.utf8.said cc) c.loop-c.yielded _ c.loop-c.yielded_by _ _ c.in-None.is c.next.ensures.steps in
    subst (λ (cs : List ℕ). Adds (flat_map (piece c.args.self.now.within) cs) c.args.self.now c.loop-c.self) (sym (map-id c.loop-c.yielded) ∙ end.0) c.loop-c.invariant
