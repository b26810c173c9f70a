use Rattle.cf_script_reading.proofs.ElementPlaces.{stages_stand}
use Rattle.cf_script_reading.proofs.laws.stages_stand_where_told.Goals as goal

pub returns : goal.returns
returns c = stages_stand
