use Rattle.cf_c_handles.proofs.RequestRows.{RowIs}
use Rattle.cf_c_handles.proofs.request.row.do_row.Given as goal

-- the calls so far are done
abbrev pub invariant-each : goal.invariant-each
invariant-each l = RowIs l.initial.machine l.initial.calls l.k l.machine l.calls
