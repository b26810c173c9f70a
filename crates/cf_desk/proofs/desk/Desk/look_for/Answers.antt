use Rattle.std.proofs.Common.{◌≡◌, ◌≢◌, ◌+◌, Option, Some, None, true, false, is_some, inl, inr, refl, sym, ap, ◌∙◌, subst, arith}
use Rattle.cf_outcome.specs.declared.outcome.Outcome.{Outcome}
use Rattle.cf_model.specs.declared.asks.Ask.TheVariants.{Outcome as AsksOutcome}
use Rattle.cf_model.specs.States.{outcome_at}
use Rattle.cf_desk.specs.Views.{Pass, Follows, LooksFor, state_of}
use Rattle.cf_desk.proofs.Passes.{follows_itself, follows_then, still_asks_stage}
use Rattle.cf_desk.proofs.Looks.{looks_more, looks_found}
use Rattle.cf_desk.proofs.desk.Desk.look_for.Goals as goal
use Rattle.cf_desk.proofs.desk.Desk.look_for.Goals.{After-is_some}

pub outcome-requires : goal.outcome-requires
outcome-requires c = still_asks_stage c.args.p.now _ (AsksOutcome c.args.stage) (follows_then _ _ _ c.looks.invariant.seen c.catch_others.ensures.seen) c.requires.stage

pub looks-init : goal.looks-init
looks-init c = record { seen = follows_itself _; looks = inl (refl, refl) }

once_more : (c : After-is_some) → LooksFor c.args.self.now c.args.stage (c.looks.counter + 1) c.args.p.now c.outcome.new.self
once_more c =
    let o = c.catch_others.ensures in
    subst (LooksFor c.args.self.now c.args.stage (c.looks.counter + 1) c.args.p.now) (sym c.outcome.ensures.same) (looks_more _ _ _ _ _ _ c.looks.invariant.looks o.seen o.looks o.few)

-- what was found is what the pass has then
found : (c : After-is_some) → c.outcome.result ≡ outcome_at (state_of c.outcome.new.self.known) c.args.stage
found c = c.outcome.ensures.told ∙ ap (λ (p : Pass). outcome_at (state_of p.known) c.args.stage) (sym c.outcome.ensures.same)

there : (o : Option Outcome) → true ≡ is_some o → o ≢ None
there None some none = cc
there (Some x) some none = cc

nothing : (o : Option Outcome) → false ≡ is_some o → o ≡ None
nothing None none = refl
nothing (Some x) none = absurd cc

pub returns-then-is_some-clause-looks : goal.returns-then-is_some-clause-looks
returns-then-is_some-clause-looks c =
    let at = (goal.at.returns-then-is_some-clause-looks c).After-is_some in
    looks_found _ _ (c.looks.counter + 1) c.args.looks _ _ (omega arith) (λ none. there c.outcome.result c.if-is_some.ensures (found at ∙ none)) (once_more at)

pub looks-preserved : goal.looks-preserved
looks-preserved c =
    let at = (goal.at.looks-preserved c).After-is_some in record {
      seen = subst (Follows c.args.p.now) (sym c.outcome.ensures.same) (follows_then _ _ _ c.looks.invariant.seen c.catch_others.ensures.seen);
      looks = inr (once_more at, sym (found at) ∙ nothing c.outcome.result c.if-is_some.ensures);
    }
