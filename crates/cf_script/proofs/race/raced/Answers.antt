use Rattle.std.proofs.Common.{ap, subst, Err}
use Rattle.cf_script_reading.specs.Checks.{Fails}
use Rattle.cf_script_reading.specs.Reading.{race_reading}
use Rattle.cf_text.specs.Faults.{fault_of_reading}
use Rattle.cf_script.specs.Races.{IsRaceText, IsTooLargeToRace, RaceGives}
use Rattle.cf_script.proofs.PrintLemmas.{fault_given, misread, too_long_to_race, unread}
use Rattle.cf_script.proofs.race.raced.Goals as goal

pub returns-in_err-input-clause-gives : goal.returns-in_err-input-clause-gives
returns-in_err-input-clause-gives g c =
    let e = c.in_err-input.field-0.0 in
    let told = c.in_err-input.ensures in
    let found = unread (IsRaceText c.args.workers) (IsTooLargeToRace c.args.workers) race_reading too_long_to_race (g.I.Read.remaining c.args.r.now) e told.faults (λ long. told.too_long (ap Err long)) in
    (found.0, found.1, fault_given (RaceGives c.args.workers found.0) c.from_residual.result (fault_of_reading e) c.from_residual.ensures.1 found.2)

pub returns-in_err-script-clause-gives : goal.returns-in_err-script-clause-gives
returns-in_err-script-clause-gives g c =
    let e = c.in_err-script.field-0.0 in
    let input = c.in_ok-input.input.items in
    let said = subst (λ bytes. Fails e (race_reading bytes)) c.deref.ensures.value c.in_err-script.ensures.says in
    (input, c.in_ok-input.ensures.whole, fault_given (RaceGives c.args.workers input) c.from_residual-in_err-script.result (fault_of_reading e) c.from_residual-in_err-script.ensures.1 (misread (IsRaceText c.args.workers) (IsTooLargeToRace c.args.workers) (race_reading input) e said))
