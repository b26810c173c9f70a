use Rattle.std.proofs.Common.{rules}
use Rattle.cf_c_handles.proofs.ClosedLemmas.{kept_at}
use Rattle.cf_c_handles.proofs.handle.object.ClosedDesk.record.Goals as goal

pub record_of-requires : goal.record_of-requires
record_of-requires c = kept_at c.args.self.now.closed.passes.items c.args.caller c.in-Some.kept.now c.args.self.now.calls (search rules)
