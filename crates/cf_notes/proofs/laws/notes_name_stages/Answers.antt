use Rattle.cf_notes.proofs.NamedStages.{notes_name}
use Rattle.cf_notes.proofs.laws.notes_name_stages.Goals as goal

pub returns : goal.returns
returns c = notes_name
