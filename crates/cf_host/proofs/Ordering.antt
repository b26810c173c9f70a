-- What a process orders, where there is memory for a ticket.
use Rattle.std.proofs.Common.{◌≡◌, ℕ, ◌∙◌, Bool, List, Some, ap, arith, get_or, length, refl, set, sym, subst, true}
use Rattle.std.proofs.Math.Nat.{le-max_left}
use Rattle.std.specs.Prelude.{slice_get}
use Rattle.std.proofs.lemmas.Option.{get_or_from_slice_get}
use Rattle.cf_turn.specs.declared.turn.Turn.{Turn}
use Rattle.cf_turn.specs.declared.turn.Turn.TheVariants.{Tell as TellTurn, Show as ShowTurn, Stop as StopTurn, Call as CallTurn, Ask as AskTurn}
use Rattle.cf_host.specs.declared.order.Order.{Order}
use Rattle.cf_host.specs.declared.order.Order.TheVariants.{Beats, News as LooksFor, Open, Row, Call, Stop, Show, Tell, Sleep}
use Rattle.cf_host.specs.declared.ticket.Asked.TheVariants.{Beats as OfBeats, News as OfNews, Open as OfOpen, Row as OfRow, Call as OfCall}
use Rattle.cf_host.specs.declared.pulse.Pulse.{Pulse}
use Rattle.cf_host.specs.declared.request.Request.{Request}
use Rattle.cf_host.specs.declared.ticket.Ticket.{Ticket}
use Rattle.cf_turn.specs.Turns.{moment_of}
use Rattle.cf_host.specs.Hosts.{AsksOpen, BeatsAreDue, FirstTurns, Host, IsToOpen, IsToOpenAt, MayClaim, NoLookIsDue, NoneToOpen, Orders, OrdersTurn, WorksOn, beats_sooner, moment_in}
use Rattle.cf_host.specs.Pulses.{clock_of}
use Rattle.cf_host.specs.Tickets.{AreSame, Opens, Shuts, Tickets}
use Rattle.cf_host.proofs.Placed.{found, opens_ready, ready}

same_ready : (old new : Tickets) → AreSame (found old) new → AreSame old new
same_ready old new s = let more = s.free in let most = le-max_left old.free 1 in record { last = s.last; waiting = s.waiting; free = omega (arith, more, most) }

shuts_ready : (number : ℕ) (old new : Tickets) → Shuts number (found old) new → Shuts number old new
shuts_ready number old new s = let more = s.places in let most = le-max_left old.free 1 in record { last = s.last; waiting = s.waiting; places = omega (arith, more, most) }

turn_ready : (now request : ℕ) (t : Turn) (order : Order) (old new : Tickets) → OrdersTurn now request t order (found old) new → OrdersTurn now request t order old new
turn_ready now request (TellTurn number told) order old new (is, s) = (is, shuts_ready number old new s)
turn_ready now request (ShowTurn i shown) order old new (is, s) = (is, same_ready old new s)
turn_ready now request (StopTurn i) order old new (is, s) = (is, same_ready old new s)
turn_ready now request (CallTurn i function args) order old new (number, is, o) = (number, is, opens_ready (OfCall request i) now number old new o)
turn_ready now request (AskTurn q) order old new (number, is, o) = (number, is, opens_ready (OfRow request) now number old new o)

works_ready : (old : Host) (now : ℕ) (order : Order) (new : Host) → WorksOn (ready old) now order new → WorksOn old now order new
works_ready old now order new w =
    record {
      beats = λ due. w.beats (record { free = due.free; due = due.due });
      news = w.news;
      opens = w.opens;
      may_claim = w.may_claim;
      may = record { busy = w.may.busy; are = w.may.are; is = w.may.is };
      request = w.request;
      turn = w.turn;
      turns = w.turns;
      orders = turn_ready now w.request w.turn order old.tickets new.tickets w.orders;
      rest = w.rest;
    }

pub orders_ready : (old : Host) (now : ℕ) (order : Order) (new : Host) → Orders (ready old) now order new → Orders old now order new
orders_ready old now (Beats number) new o =
    record { due = record { free = o.due.free; due = o.due.due }; opens = opens_ready OfBeats now number old.tickets new.tickets o.opens; rest = o.rest }
orders_ready old now (LooksFor number look) new o =
    record {
      beats = λ due. o.beats (record { free = due.free; due = due.due });
      free = o.free;
      due = o.due;
      is = o.is;
      opens = opens_ready OfNews now number old.tickets new.tickets o.opens;
      rest = o.rest;
    }
orders_ready old now (Open number request) new o =
    record {
      beats = λ due. o.beats (record { free = due.free; due = due.due });
      news = o.news;
      place = o.place;
      first = o.first;
      before = o.before;
      there = o.there;
      named = o.named;
      due = o.due;
      opens = opens_ready (OfOpen request) now number old.tickets new.tickets o.opens;
      rest = o.rest;
    }
orders_ready old now (Sleep until) new o =
    record {
      beats = λ due. o.beats (record { free = due.free; due = due.due });
      news = o.news;
      opens = o.opens;
      may_claim = o.may_claim;
      may = record { busy = o.may.busy; are = o.may.are; is = o.may.is };
      all = o.all;
      tickets = same_ready old.tickets new.tickets o.tickets;
      rest = o.rest;
      until_is = o.until_is;
    }
orders_ready old now (Row number request q) new o = works_ready old now (Row number request q) new o
orders_ready old now (Call number request i function args) new o = works_ready old now (Call number request i function args) new o
orders_ready old now (Stop number) new o = works_ready old now (Stop number) new o
orders_ready old now (Show request i shown) new o = works_ready old now (Show request i shown) new o
orders_ready old now (Tell number told) new o = works_ready old now (Tell number told) new o

-- what the first work that has a turn orders is no question of the process's own
ordered_by : (t : Turn) (old : Host) (now request : ℕ) (order : Order) (new : Host) → OrdersTurn now request t order old.tickets new.tickets → WorksOn old now order new → Orders old now order new
ordered_by (TellTurn number told) old now request order new (is, s) w = subst (λ (o : Order). Orders old now o new) (sym is) (subst (λ (o : Order). WorksOn old now o new) is w)
ordered_by (ShowTurn i shown) old now request order new (is, s) w = subst (λ (o : Order). Orders old now o new) (sym is) (subst (λ (o : Order). WorksOn old now o new) is w)
ordered_by (StopTurn i) old now request order new (is, s) w = subst (λ (o : Order). Orders old now o new) (sym is) (subst (λ (o : Order). WorksOn old now o new) is w)
ordered_by (CallTurn i function args) old now request order new (number, is, o) w = subst (λ (o : Order). Orders old now o new) (sym is) (subst (λ (o : Order). WorksOn old now o new) is w)
ordered_by (AskTurn q) old now request order new (number, is, o) w = subst (λ (o : Order). Orders old now o new) (sym is) (subst (λ (o : Order). WorksOn old now o new) is w)

pub works_order : (old : Host) (now : ℕ) (order : Order) (new : Host) → WorksOn old now order new → Orders old now order new
works_order old now order new w = ordered_by w.turn old now w.request order new w.orders w

pub turns_ready : (old view mid new : Host) (tickets : Tickets) (now : ℕ) (order : Order) → view ≡ old → tickets ≡ found view.tickets →
    mid ≡ record view { tickets = tickets } → Orders mid now order new → Orders old now order new
turns_ready old view mid new tickets now order is has mid_is o =
    let all : mid ≡ ready view = mid_is ∙ ap (λ (t : Tickets). record view { tickets = t }) has in
    subst (λ (h : Host). Orders h now order new) is (orders_ready view now order new (subst (λ (h : Host). Orders h now order new) all o))

-- ---- where nothing else is due

pub opens_first : (old view new : Host) (now place : ℕ) (x y : Request) (ticket : Ticket) (requests : List Request) → view ≡ old → ¬ BeatsAreDue old now → NoLookIsDue old now →
    requests ≡ view.requests → IsToOpenAt now place requests → NoneToOpen now place requests → x ≡ get_or view.requests place x → y ≡ get_or view.requests place y →
    Opens ticket view.tickets new.tickets → ticket.of ≡ OfOpen x.number → ticket.asked ≡ now →
    new ≡ record view { tickets = new.tickets; requests = set view.requests place (record y { is_asked = true }) } → AsksOpen old now ticket.number x.number new
opens_first old view new now place x y ticket requests is beats news all to_open first at_x at_y opens of asked rest =
    let there = subst (λ (l : List Request). slice_get l place ≡ Some to_open.0) all to_open.1 in
    let same_x : x ≡ to_open.0 = at_x ∙ get_or_from_slice_get view.requests place to_open.0 x there in
    let same_y : y ≡ to_open.0 = at_y ∙ get_or_from_slice_get view.requests place to_open.0 y there in
    subst (λ (h : Host). AsksOpen h now ticket.number x.number new) is
    (record {
      beats = subst (λ (h : Host). ¬ BeatsAreDue h now) (sym is) beats;
      news = subst (λ (h : Host). NoLookIsDue h now) (sym is) news;
      place = place;
      first = subst (λ (l : List Request). NoneToOpen now place l) all first;
      before = y;
      there = there ∙ ap (λ (r : Request). Some r) (sym same_y);
      named = ap (λ (r : Request). r.number) (same_y ∙ sym same_x);
      due = subst (λ (r : Request). IsToOpen now r) (sym same_y) to_open.2;
      opens = record { ticket = ticket; opens = opens; is = of; asked = asked; named = refl };
      rest = rest;
    })

pub works_first : (old view new : Host) (now clock request : ℕ) (order : Order) (t : Turn) (may_claim : Bool) (requests after : List Request) → view ≡ old → ¬ BeatsAreDue old now →
    NoLookIsDue old now → NoneToOpen now (length old.requests) old.requests → MayClaim old may_claim → clock ≡ clock_of view.pulse.reading → requests ≡ view.requests → new.requests ≡ after →
    FirstTurns (moment_of now view.watch clock may_claim) requests request t after → OrdersTurn now request t order view.tickets new.tickets →
    new.pulse ≡ beats_sooner view.is_taken_for_gone now t view.pulse → new ≡ record view { tickets = new.tickets; requests = new.requests; pulse = new.pulse } → Orders old now order new
works_first old view new now clock request order t may_claim requests after is beats news opens may clock_is all written turns orders sooner rest =
    let by_after = subst (FirstTurns (moment_of now view.watch clock may_claim) requests request t) (sym written) turns in
    let by_clock = subst (λ (c : ℕ). FirstTurns (moment_of now view.watch c may_claim) requests request t new.requests) clock_is by_after in
    let of_view = subst (λ (l : List Request). FirstTurns (moment_in view now may_claim) l request t new.requests) all by_clock in
    works_order old now order new
    (record {
      beats = beats;
      news = news;
      opens = opens;
      may_claim = may_claim;
      may = may;
      request = request;
      turn = t;
      turns = subst (λ (h : Host). FirstTurns (moment_in h now may_claim) h.requests request t new.requests) is of_view;
      orders = subst (λ (h : Host). OrdersTurn now request t order h.tickets new.tickets) is orders;
      rest = subst (λ (h : Host). new ≡ record h { tickets = new.tickets; requests = new.requests; pulse = beats_sooner h.is_taken_for_gone now t h.pulse }) is
          (rest ∙ ap (λ (p : Pulse). let h : Host = record view { tickets = new.tickets; requests = new.requests; pulse = p } in h) sooner);
    })
