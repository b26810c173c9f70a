use Rattle.std.proofs.Common.{◌≡◌, None, length, subst}
use Rattle.cf_row.specs.Rows.{with_memory}
use Rattle.cf_part.specs.Parts.{Part}
use Rattle.cf_part.specs.Answers.{Meets}
use Rattle.cf_part.proofs.Meeting.{meets_by, ok_by}
use Rattle.cf_part.proofs.part.Part.others.Goals as goal

pub returns-in-Ok-clause-met : goal.returns-in-Ok-clause-met
returns-in-Ok-clause-met c =
    let i = c.self.inside in
    let old : Part = record {
      row = i.row;
      notes = i.notes;
      calls = i.calls.items;
      owed = i.owed.items;
      wanted = i.wanted.items;
      wants = i.wants.items;
      of = i.of;
      asked = i.asked;
      words = i.words;
      is_stale = i.is_stale;
      retry = i.retry;
      fault = i.fault;
      is_flow = i.is_flow;
      is_closed = i.is_closed;
    } in
    let new : Part = record old { row = c.see.new.row; notes = c.see.new.notes; wants = c.clear.new.self.items; asked = None } in
    let n = length c.args.entries.now in
    let found : c.reserve.new.self ≡ (record old.row { replica = with_memory old.row.replica n }) =
    ok_by c.reserve.result c.is_err.result (c.reserve.new.self ≡ (record old.row { replica = with_memory old.row.replica n })) c.is_err.ensures.value c.if-is_err.false c.reserve.ensures.found in
    subst (λ (p : Part). Meets p c.args.entries.now c.args.notes.now c.met-landed.result new) c.self.view_is
    (meets_by old c.reserve.new.self c.met-landed.new.self c.see.new.row c.see.new.notes c.clear.new.self.items n c.args.entries.now c.args.notes.now _ c.met-landed.result found c.requires.some c.met-landed.ensures.told c.met-landed.ensures.done
    c.in-Ok.ensures.all c.clear.ensures.items)
