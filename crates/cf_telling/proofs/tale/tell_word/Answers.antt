use Rattle.std.proofs.Common.{sym, subst}
use Rattle.cf_ledger.specs.Ledgers.{Ledger, LedgerRefuses, state_of}
use Rattle.cf_ledger.specs.declared.faults.LedgerFault.{LedgerFault}
use Rattle.cf_telling.specs.Tales.{TellsOne}
use Rattle.cf_telling.proofs.Tales.{one_done, one_full}
use Rattle.cf_telling.proofs.tale.tell_word.Goals as goal

pub returns-in_ok-add-in-Ok : goal.returns-in_ok-add-in-Ok
returns-in_ok-add-in-Ok c =
    one_done c.args.word c.in-Some.event c.in-Ok.reply c.args.ledger.now c.apply_other.new.self c.args.entries.now.items c.add.new.entries.items
    (sym c.in-Some.ensures.value) c.in-Ok.ensures.done c.in_ok-add-in-Ok.ensures

pub returns-in_ok-add_full-in-Err-NoRoom : goal.returns-in_ok-add_full-in-Err-NoRoom
returns-in_ok-add_full-in-Err-NoRoom c =
    subst (λ (m : Ledger). TellsOne c.args.word (state_of c.args.ledger.now) c.args.entries.now.items (state_of m) c.add_full.new.entries.items)
    (sym c.in-Err-NoRoom.ensures.refused)
    (one_full c.args.word c.in-Some.event c.args.ledger.now c.args.entries.now.items c.add_full.new.entries.items
    (sym c.in-Some.ensures.value) (subst (λ (why : LedgerFault). LedgerRefuses (state_of c.args.ledger.now) c.args.word why) c.in-Err-NoRoom.field-0-is c.in-Err-NoRoom.ensures.why) c.in_ok-add_full-in-Err-NoRoom.ensures)
