use Rattle.std.proofs.Common.{arith, refl}
use Rattle.cf_model.specs.declared.events.Reply.TheVariants.{Claim as ToldClaim}
use Rattle.cf_model.specs.States.{stage_at}
use Rattle.cf_ledger.specs.Ledgers.{state_of}
use Rattle.cf_ledger.proofs.Words.{all_claims, all_states}
use Rattle.cf_c_handles.specs.Ledgers.{claimed_stages}
use Rattle.cf_c_handles.proofs.Claims.{claim_moves, claim_there, claim_written, does_claim}
use Rattle.cf_c_handles.proofs.ledger.telling.claim.Goals as goal

pub returns-in-Ok : goal.returns-in-Ok
returns-in-Ok c =
    let s = state_of c.args.ledger.now in
    let now = c.claim.new.self in
    let told = c.in-Ok.told in
    let done = c.in-Ok.ensures.done in
    let is = does_claim c.args.word c.args.ledger.now now told c.args.who c.args.stage c.requires.read done in
    let l = claim_there c.args.word c.args.ledger.now now told c.args.who c.args.stage c.requires.read done in
    let states = all_states c.args.ledger.now.plan c.args.ledger.now.events in
    let claims = all_claims c.args.ledger.now.plan c.args.ledger.now.events in
    record {
      told = ToldClaim told;
      now = now;
      is = refl;
      done = done;
      replied = c.put_claim.ensures;
      stages = claimed_stages told c.args.stage;
      changed = claim_moves s (state_of now) told c.args.who c.args.stage (omega (arith, l, states)) (stage_at s c.args.stage) refl is;
      given = claim_written told s (state_of now) c.args.who c.args.stage c.args.news.now c.give_claimed.new.news (omega (arith, l, states)) (omega (arith, l, claims)) is c.give_claimed.ensures.given;
      count = c.give_claimed.ensures.count;
    }
