use Rattle.std.proofs.Common.{List, ap, ◌∙◌}
use Rattle.cf_history.specs.declared.shared.SharedCaller.{SharedCaller}
use Rattle.cf_history.specs.Shared.{all_filled, entries_of, records_of}
use Rattle.cf_history.proofs.Fillings.{fills_by}
use Rattle.cf_history.proofs.filling.filled_callers.Goals as goal

pub returns-clause-fills : goal.returns-clause-fills
returns-clause-fills c =
    fills_by c.deref-2.result.now (entries_of c.args.shared.now.callers.items) (records_of c.in_ok-filled.filled.items)
    (c.in_ok-filled.ensures ∙ ap (λ (ks : List SharedCaller). all_filled c.deref-2.result.now (entries_of ks)) c.as_slice-callers.ensures.value)
