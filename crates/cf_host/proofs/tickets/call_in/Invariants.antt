use Rattle.std.proofs.Common.{◌≡◌, drop}
use Rattle.cf_host.specs.Tickets.{call_in}
use Rattle.cf_host.proofs.tickets.call_in.Given as goal

-- what is to be found is found behind those so far
abbrev pub invariant-loop-ticket : goal.invariant-loop-ticket
invariant-loop-ticket l = call_in l.request l.stage l.waiting ≡ call_in l.request l.stage (drop l.ticket-index l.waiting)
