use Rattle.std.proofs.Common.{◌≡◌, drop}
use Rattle.cf_host.specs.Tickets.{ticket_of}
use Rattle.cf_host.proofs.tickets.ticket_of.Given as goal

-- what is to be found is found behind those so far
abbrev pub invariant-loop-ticket : goal.invariant-loop-ticket
invariant-loop-ticket l = ticket_of l.number l.waiting ≡ ticket_of l.number (drop l.ticket-index l.waiting)
