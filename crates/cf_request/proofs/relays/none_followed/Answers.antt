use Rattle.std.proofs.Common.{◌≡◌, ℕ, List, arith, false, subst, ◌∙◌, sym}
use Rattle.std.proofs.lemmas.List.{take_all}
use Rattle.std.proofs.lemmas.List.Elements.{All-more}
use Rattle.cf_request.specs.Relays.{NoneFollowed, is_in_flags}
use Rattle.cf_request.proofs.relays.none_followed.Goals as goal

pub loop-stage-preserved : goal.loop-stage-preserved
loop-stage-preserved c =
    let P : ℕ → Type 0 = λ i. is_in_flags c.args.followed.now i ≡ false in
    All-more P c.args.stages.now c.loop-stage.stage-index 0 (omega arith) c.loop-stage.invariant (sym c.is_followed.ensures ∙ c.if-is_followed.false)

pub returns : goal.returns
returns c = λ on. subst (λ (l : List ℕ). NoneFollowed c.args.followed.now l) (take_all c.loop-stage.stage-index c.args.stages.now (omega arith)) c.loop-stage.invariant
