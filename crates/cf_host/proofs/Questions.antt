-- Questions about rows.
use Rattle.std.proofs.Common.{◌≡◌, ℕ, inl, inr, Bool, true, false, cond, Option, Some, None, List, ◌∷◌, length, refl, ap, sym, ◌∙◌, subst}
use Rattle.std.specs.Prelude.{slice_get}
use Rattle.cf_row.specs.declared.entry.Entry.{Entry}
use Rattle.cf_part.specs.declared.question.Question.{Question}
use Rattle.cf_part.specs.declared.question.Question.TheVariants.{Read, Put}
use Rattle.cf_part.specs.Parts.{seen_by}
use Rattle.cf_turn.specs.declared.turn.Turn.{Turn}
use Rattle.cf_turn.specs.declared.turn.Turn.TheVariants.{Tell as TellTurn, Show as ShowTurn, Stop as StopTurn, Call as CallTurn, Ask as AskTurn}
use Rattle.cf_turn.specs.declared.wish.Wish.{Wish}
use Rattle.cf_turn.specs.Turns.{Decides, Goes, Moment, Turns}
use Rattle.cf_turn.specs.Works.{Work}
use Rattle.cf_host.specs.declared.order.Order.{Order}
use Rattle.cf_host.specs.declared.order.Order.TheVariants.{Row}
use Rattle.cf_host.specs.declared.request.Request.{Request}
use Rattle.cf_host.specs.declared.ticket.Asked.TheVariants.{Row as OfRow}
use Rattle.cf_host.specs.Hosts.{FirstTurns, Host, Orders, OrdersTurn, moment_in}
use Rattle.cf_host.specs.Keeping.{AsksBehindSeen, IsAskedFor, place_in}
use Rattle.cf_host.specs.Laws.{ComesTo}
use Rattle.cf_host.specs.Laws.IsCall.{turns}
use Rattle.cf_host.specs.Requests.{IsAt}
use Rattle.cf_host.specs.Tickets.{ticket_of}
use Rattle.cf_host.proofs.CalledOnce.{kept_all}
use Rattle.cf_host.proofs.Numbers.{are_low, opened_found}
use Rattle.cf_host.proofs.Processes.{first_at}
use Rattle.cf_host.proofs.Steady.{turn_steady}

-- ---- a work

still_place : (none put read : Bool) (seen : ℕ) (q : Question) → cond none None (cond put (Some (Put seen)) (cond read (Some (Read seen)) None)) ≡ Some q → place_in q ≡ seen
still_place true put read seen q is = (let no : ⊥ = cc in absurd no)
still_place false true read seen q is = (let same : q ≡ Put seen = cc in ap place_in same)
still_place false false true seen q is = (let same : q ≡ Read seen = cc in ap place_in same)
still_place false false false seen q is = (let no : ⊥ = cc in absurd no)

-- a work asks behind all that it has seen
record AsksBehind (q : Question) (w v : Work) : Type 0 where
  asked : v.part.asked ≡ Some q
  place : place_in q ≡ seen_by w.part

asks_behind : (w v : Work) (at : Moment) (q : Question) → Turns w at (AskTurn q) v → AsksBehind q w v
asks_behind w v at q h = by_goes h.goes
  where
    by_first : (o : Option Wish) → Decides o w at (AskTurn q) v → AsksBehind q w v
    by_first None (inl (due, is, puts)) = record { asked = ap (λ (x : Work). x.part.asked) puts.rest; place = ap place_in puts.asks }
    by_first None (inr close) = record { asked = ap (λ (x : Work). x.part.asked) close.rest; place = ap place_in close.asks }
    by_first (Some wish) (a, does, puts) = record { asked = ap (λ (x : Work). x.part.asked) puts.rest; place = ap place_in puts.asks }

    by_goes : Goes w at (AskTurn q) v → AsksBehind q w v
    by_goes (inl (may, h)) = by_first (slice_get w.wishes 0) h
    by_goes (inr (may, (is, rest))) = record { asked = ap (λ (x : Work). x.part.asked) rest; place = still_place _ _ _ (seen_by w.part) q is }

-- ---- a host

by_turn : (session : ℕ) (outs : List (Option Order)) (old new : Host) (now request number : ℕ) (q : Question) (at : Moment) (r : ℕ) (t : Turn) → ComesTo session outs old → Orders old now (Row number request q) new →
    FirstTurns at old.requests r t new.requests → OrdersTurn now r t (Row number request q) old.tickets new.tickets → IsAskedFor new request number q
by_turn session outs old new now request number q at r (TellTurn n told) comes order f (is, rest) = (let no : ⊥ = cc in absurd no)
by_turn session outs old new now request number q at r (ShowTurn i shown) comes order f (is, rest) = (let no : ⊥ = cc in absurd no)
by_turn session outs old new now request number q at r (StopTurn i) comes order f (is, rest) = (let no : ⊥ = cc in absurd no)
by_turn session outs old new now request number q at r (CallTurn i function args) comes order f (n, is, rest) = (let no : ⊥ = cc in absurd no)
by_turn session outs old new now request number q at r (AskTurn p) comes order f (n, is, o) =
    let its : r ≡ request = cc in
    let named : n ≡ number = cc in
    let same : p ≡ q = cc in
    let goes = f.turns in
    let asks = asks_behind goes.before goes.after at p goes.calls in
    let steady = turn_steady goes.before goes.after at (AskTurn p) goes.calls in
    let after : ComesTo session (Some (Row number request q) ∷ outs) new = (old, comes, turns now (Row number request q) refl order) in
    let own : f.after.number ≡ request = ap (λ (x : Request). x.number) goes.rest ∙ f.named ∙ its in
    let first : IsAt f.after.number f.place new.requests = first_at new.requests (kept_all session (Some (Row number request q) ∷ outs) new after).apart f.place f.after f.is in
    let low = are_low session outs old comes in
    record {
      work = goes.after;
      is = record {
        place = f.place;
        at = record { request = f.after; is = f.is; named = own; first = λ k s less there same'. first.first k s less there (same' ∙ sym own) };
        is = ap (λ (x : Request). x.work) goes.rest;
      };
      asked = asks.asked ∙ ap (λ (x : Question). Some x) same;
      place = ap place_in (sym same) ∙ asks.place ∙ ap (λ (l : List Entry). length l) (sym steady.part.seen);
      ticket = o.ticket;
      found = subst (λ (k : ℕ). ticket_of k new.tickets.waiting ≡ Some o.ticket) (o.named ∙ named) (opened_found o.ticket old.tickets new.tickets low o.opens);
      of = o.is ∙ ap (λ (k : ℕ). OfRow k) its;
    }

pub asks_behind_seen : AsksBehindSeen
asks_behind_seen session outs old new now request number q comes order =
    by_turn session outs old new now request number q (moment_in old now order.may_claim) order.request order.turn comes order order.turns order.orders
