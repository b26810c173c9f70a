use Rattle.cf_desk.proofs.OpenClaims.{claims_stay_open}
use Rattle.cf_desk.proofs.laws.claims_stay_open.Goals as goal

pub returns : goal.returns
returns c = claims_stay_open
