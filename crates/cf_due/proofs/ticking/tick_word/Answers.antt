-- The tick fits behind all that was seen.
use Rattle.std.proofs.Common.{refl, arith}
use Rattle.cf_model.specs.declared.events.Event.TheVariants.{Tick as Ticks}
use Rattle.cf_row.specs.Rows.{stages_of, state_of}
use Rattle.cf_row.proofs.Abandoned.{rule_small}
use Rattle.cf_due.proofs.AttachedStages.{word_for}
use Rattle.cf_due.proofs.ticking.tick_word.Goals as goal

pub encode-requires : goal.encode-requires
encode-requires c = (let r = c.args.view.now in rule_small r.seen r.session c.number-who.result c.number-who.ensures, omega arith)

pub returns : goal.returns
returns c =
    let r = c.args.view.now in
    let who = c.number-who.result in
    record {
      who = who;
      rule = c.number-who.ensures;
      is = c.encode.ensures.word;
      fits = (
        word_for who (stages_of r) (state_of r).plan.room c.encode.result (Ticks who 0) c.encode.ensures.back c.encode.ensures.word
            (rule_small r.seen r.session who c.number-who.ensures, omega arith) refl tt (omega arith),
        tt,
      );
    }
