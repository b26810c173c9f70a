use Rattle.std.proofs.Common.{List, length, All, ap, arith, refl, subst, sym}
use Rattle.cf_event.specs.Words.{IsEvent}
use Rattle.cf_model.specs.declared.events.Event.{Event}
use Rattle.cf_history.specs.Verdicts.{IsFirstUnfit}
use Rattle.cf_history.proofs.Words.{decoded_events, decoded_few, unfit_word}
use Rattle.cf_history.proofs.checking.judge_words.Goals as goal

pub find_unfit-requires : goal.find_unfit-requires
find_unfit-requires c = subst (All IsEvent) (sym c.requires) (decoded_events c.args.words.now)

pub returns-in-Some-clause-found : goal.returns-in-Some-clause-found
returns-in-Some-clause-found c =
    let s = c.args.graph.now.state in (
      c.in-Some.k,
      refl,
      unfit_word c.args.callers c.args.functions s c.args.words.now c.in-Some.k c.in-Some.why
          (subst (λ (es : List Event). IsFirstUnfit c.args.callers c.args.functions s c.in-Some.k es c.in-Some.why) c.requires c.in-Some.ensures.found),
    )

pub returns-else-events-words-clause-found : goal.returns-else-events-words-clause-found
returns-else-events-words-clause-found c =
    record {
      read = c.requires;
      all = (let few = decoded_few c.args.words.now in let read = ap length c.requires in omega arith);
      taken = c.in-None.ensures.found;
    }
