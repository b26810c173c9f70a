use Rattle.std.proofs.Common.{◌-◌, vec_len}
use Rattle.cf_threads.specs.Slips.{all_parts}
use Rattle.cf_threads.proofs.team.run.Given as goal

abbrev pub ghosts-run_in : goal.ghosts-run_in
ghosts-run_in g a = record { table = a.cell.now.table.shared.table_id; start = a.machine; place = a.place; parts = all_parts - vec_len a.hands }
