use Rattle.std.proofs.Common.{◌≡◌, ℕ, sym, ap, ◌∙◌, subst, rules}
use Rattle.std.specs.List.{All, AllZip}
use Rattle.atomic_table.specs.Seated.{TableId}
use Rattle.cf_request.specs.Machines.{Machine}
use Rattle.cf_request.specs.Lanes.{NothingIsReady}
use Rattle.cf_threads.specs.Teams.{HasEnded, IsBack, IsDealt, turns_of}
use Rattle.cf_threads.specs.Turns.{AreTurns, weigh}
use Rattle.cf_threads.specs.declared.place.Place.{Place}
use Rattle.cf_threads.specs.declared.team.Worked.{Worked}
use Rattle.cf_threads.specs.declared.turn.Turn.{Turn}
use Rattle.cf_threads.proofs.Dealt.{all_back, all_new, all_worked, none_left, zip_length}
use Rattle.cf_threads.proofs.Kept.{told_apart}
use Rattle.cf_threads.proofs.team.run_in.Goals as goal

pub spread-requires-clause-jobs : goal.spread-requires-clause-jobs
spread-requires-clause-jobs g c κs within =
    all_new g.B.Room.table c.args.hands.items c.deal-jobs.result.items
    (subst (λ (t : TableId). AllZip (IsDealt t) c.args.hands.items c.deal-jobs.result.items) c.requires.own.1 c.deal-jobs.ensures.each)

pub take_all_back-workers-requires-clause-slips : goal.take_all_back-workers-requires-clause-slips
take_all_back-workers-requires-clause-slips g c =
    subst (λ (t : TableId). All (IsBack t) c.in_ok-desk.ended.items) (sym c.into_parts-machine.ensures.all.0) (all_back g.F.Functions.calls g.B.Room.table c.deal-jobs.result.items c.in_ok-desk.ended.items c.in_ok-desk.ensures.each)

pub take_all_back-workers-requires-clause-room : goal.take_all_back-workers-requires-clause-room
take_all_back-workers-requires-clause-room g c =
    let jobs = zip_length (IsDealt c.args.all.table_id) c.args.hands.items c.deal-jobs.result.items c.deal-jobs.ensures.each in
    let ended = zip_length (HasEnded g.F.Functions.calls g.B.Room.table) c.deal-jobs.result.items c.in_ok-desk.ended.items c.in_ok-desk.ensures.each in
    let room = c.in_ok-back.ensures.capacity in
    let count = c.len-count.ensures in
    search rules

pub compare-requires-clause-whole : goal.compare-requires-clause-whole
compare-requires-clause-whole g c =
    let back = c.take_all_back-workers.ensures in
    let knows = c.into_parts-machine.ensures.all.1 in
    let jobs = zip_length (IsDealt c.args.all.table_id) c.args.hands.items c.deal-jobs.result.items c.deal-jobs.ensures.each in
    let ended = zip_length (HasEnded g.F.Functions.calls g.B.Room.table) c.deal-jobs.result.items c.in_ok-desk.ended.items c.in_ok-desk.ensures.each in
    let parts = back.parts in
    let had = ap (λ v. v.parts) knows in
    let all = c.requires.parts in
    (back.same.1 ∙ ap (λ v. v.keeps) knows, search rules)

pub returns : goal.returns
returns g c =
    let parts = c.into_parts-machine.ensures in
    let turns = c.in_ok-desk.desk.turns in
    let end = c.into_parts-machine.result.0 in
    let there = subst (λ (m : Machine). AreTurns g.B.Room.place g.B.Room.start turns m) (sym parts.machine) parts.are in
    let from = subst (λ (m : Machine). AreTurns g.B.Room.place m turns end) (sym c.requires.start.0) there in
    let are = subst (λ (p : Place). AreTurns p c.args.machine turns end) (sym c.requires.start.1) from in
    let dealt = subst (λ (t : TableId). AllZip (IsDealt t) c.args.hands.items c.deal-jobs.result.items) c.requires.own.1 c.deal-jobs.ensures.each in
    let back = c.take_all_back-workers.ensures in
    let worked = all_worked g.F.Functions.calls g.B.Room.table c.args.hands.items c.deal-jobs.result.items c.in_ok-desk.ended.items c.take_all_back-workers.result.items dealt c.in_ok-desk.ensures.each back.workers in
    let all = back.same.2 ∙ ap (λ v. v.all) parts.all.1 in
    let shared : (weight : Turn → ℕ) → weigh (λ (w : Worked g.row.F.Denot). weigh weight (turns_of w)) c.take_all_back-workers.result.items ≡ weigh weight turns =
    λ weight. sym (back.weighs weight) ∙ c.compare.ensures.each weight ∙ ap (weigh weight) all in
    record {
      turns = turns;
      are = are;
      no_stage_twice = told_apart c.each_stage_is_run_once.ensures c.args.place c.args.machine end turns are;
      worked = worked;
      shared = shared;
      none = λ some clear.
          (let quiet = none_left g.F.Functions.calls c.args.hands.items c.take_all_back-workers.result.items g.B.Room.place.lane c.in_ok-desk.desk worked shared some clear parts.quiet in
          subst (λ (m : Machine). NothingIsReady m.teller c.args.place.lane) (sym parts.machine) (subst (λ (p : Place). NothingIsReady c.in_ok-desk.desk.machine.teller p.lane) (sym c.requires.start.1) quiet));
    }
