use Rattle.std.proofs.Common.{◌<◌, arith}
use Rattle.cf_c_handles.proofs.CodeNames.{no_text}
use Rattle.cf_c_handles.proofs.code.text_of.Goals as goal

above : (c : goal.In_default) → 44 < c.args.number
above c = let n = c.in_default in omega arith

pub returns-in_default : goal.returns-in_default
returns-in_default c = no_text c.args.number (above c) (λ e. absurd (let n = c.in_default in omega arith))
