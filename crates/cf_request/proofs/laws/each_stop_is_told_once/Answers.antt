use Rattle.cf_request.specs.Endings.{StopsOnce}
use Rattle.cf_request.specs.Rows.{all_told}
use Rattle.cf_request.proofs.Rows.{first_settled, tells_once}
use Rattle.cf_request.proofs.Endings.{all_stops, apart_parts, apart_stops, calls_of, told_stops}
use Rattle.cf_request.proofs.laws.each_stop_is_told_once.Goals as goal

stops_once : StopsOnce
stops_once old new outs stops opened h =
    let told = tells_once old new outs opened (calls_of old new outs stops h) in
    record {
      apart = apart_stops old new outs stops h ((apart_parts (all_told outs) new.teller.told told.once.apart).first);
      told = told_stops old new outs stops h;
      all = λ i w k is. all_stops old new outs stops i w (first_settled old opened) h k is;
    }

pub returns : goal.returns
returns c = stops_once
