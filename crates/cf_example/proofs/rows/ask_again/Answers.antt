use Rattle.std.proofs.Common.{◌≡◌, ◌≢◌, ◌++◌, drop, length, List, ap, sym, ◌∙◌, subst}
use Rattle.std.proofs.lemmas.Bool.{OnTrue_at, OnTrue_from, OnFalse_at, OnFalse_from}
use Rattle.cf_row.specs.declared.entry.Entry.{Entry}
use Rattle.cf_row.specs.Puts.{IsOnceOrNever, NoneStands, Row, StandsOnce}
use Rattle.cf_row.specs.Rows.{BeginsWith, FitsEachRow, Replays, Replica}
use Rattle.cf_example.proofs.WholeRows.{all_seen, begins_there, seen_is, whole_fits}
use Rattle.cf_example.proofs.rows.ask_again.Goals as goal

pub returns-then-branch-clause-fit : goal.returns-then-branch-clause-fit
returns-then-branch-clause-fit c =
    let old = c.args.row.now.replica in
    let put = c.args.row.now.put in
    let row = c.args.store.now in
    let done = OnTrue_at c.if-branch.true c.in_ok-put.ensures.stands in
    let known : c.seen-place.result.now ≡ old.seen = c.seen-place.ensures ∙ ap (λ (r : Replica). r.seen) c.replica.ensures in
    let same : length old.seen ≡ length row = sym (ap (λ (l : List Entry). length l) known) ∙ done.0 in
    let all : old.seen ++ put ≡ c.put-2.new.self = ap (λ (l : List Entry). l ++ put) (seen_is row old.seen c.requires.view same) ∙ ap (λ (l : List Entry). row ++ l) (sym c.put.ensures.put) ∙ sym done.1 in
    let fits : FitsEachRow c.landed.new.self.replica = subst (λ (r : Replica). FitsEachRow r) c.replica-then-branch.ensures c.records-records.ensures.fit in
    whole_fits old c.landed.new.self.replica put c.put-2.new.self c.landed.ensures.all fits all

pub returns-clause-stands : goal.returns-clause-stands
returns-clause-stands c =
    let seen = c.args.row.now.replica.seen in
    let row = c.put-2.new.self in
    let put = c.args.row.now.put in
    let taken = OnFalse_at c.if-branch.false c.in_ok-put.ensures.taken in
    let known : c.seen-place.result.now ≡ seen = c.seen-place.ensures ∙ ap (λ (r : Replica). r.seen) c.replica.ensures in
    let differ : length seen ≢ length row = subst (λ (l : List Entry). length seen ≢ length l) (sym taken.1) (subst (λ (l : List Entry). length l ≢ length c.args.store.now) known taken.0) in
    let view : BeginsWith row seen = subst (λ (l : List Entry). BeginsWith l seen) (sym taken.1) c.requires.view in
    let doubt : IsOnceOrNever row (length seen) put = subst (λ (l : List Entry). IsOnceOrNever l (length seen) put) (sym taken.1) c.requires.doubt in
    let behind : c.read-behind.result.now ≡ drop (length seen) row = c.read-behind.ensures ∙ ap (λ (l : List Entry). drop (length l) row) known in
    let begins = begins_there row seen c.read-behind.result.now (record { word = 0; token = 0 }) view behind differ in
    OnTrue_from c.met-stands.result (StandsOnce row (length seen) put) (c.met-stands.ensures.told.stands row begins doubt)

pub returns-clause-lost : goal.returns-clause-lost
returns-clause-lost c =
    let seen = c.args.row.now.replica.seen in
    let row = c.put-2.new.self in
    let put = c.args.row.now.put in
    let taken = OnFalse_at c.if-branch.false c.in_ok-put.ensures.taken in
    let known : c.seen-place.result.now ≡ seen = c.seen-place.ensures ∙ ap (λ (r : Replica). r.seen) c.replica.ensures in
    let differ : length seen ≢ length row = subst (λ (l : List Entry). length seen ≢ length l) (sym taken.1) (subst (λ (l : List Entry). length l ≢ length c.args.store.now) known taken.0) in
    let view : BeginsWith row seen = subst (λ (l : List Entry). BeginsWith l seen) (sym taken.1) c.requires.view in
    let doubt : IsOnceOrNever row (length seen) put = subst (λ (l : List Entry). IsOnceOrNever l (length seen) put) (sym taken.1) c.requires.doubt in
    let behind : c.read-behind.result.now ≡ drop (length seen) row = c.read-behind.ensures ∙ ap (λ (l : List Entry). drop (length l) row) known in
    let begins = begins_there row seen c.read-behind.result.now (record { word = 0; token = 0 }) view behind differ in
    OnFalse_from c.met-stands.result (NoneStands row put) (c.met-stands.ensures.told.lost row begins doubt)

pub returns-clause-fit : goal.returns-clause-fit
returns-clause-fit c =
    let old = c.args.row.now.replica in
    let row = c.put-2.new.self in
    let behind = c.read-behind.result.now in
    let taken = OnFalse_at c.if-branch.false c.in_ok-put.ensures.taken in
    let known : c.seen-place.result.now ≡ old.seen = c.seen-place.ensures ∙ ap (λ (r : Replica). r.seen) c.replica.ensures in
    let view : BeginsWith row old.seen = subst (λ (l : List Entry). BeginsWith l old.seen) (sym taken.1) c.requires.view in
    let is : behind ≡ drop (length old.seen) row = c.read-behind.ensures ∙ ap (λ (l : List Entry). drop (length l) row) known in
    let all : old.seen ++ behind ≡ row = ap (λ (l : List Entry). old.seen ++ l) is ∙ all_seen row old.seen view in
    let fits : FitsEachRow c.saw_all.new.self.replica = subst (λ (r : Replica). FitsEachRow r) c.replica-2.ensures c.records-records-2.ensures.fit in
    let kept : c.met-stands.new.self.replica ≡ old = ap (λ (r : Row). r.replica) c.met-stands.ensures.done in
    let replays : Replays old behind c.saw_all.new.self.replica = subst (λ (r : Replica). Replays r behind c.saw_all.new.self.replica) kept c.in_ok-saw_all.ensures.all in
    whole_fits old c.saw_all.new.self.replica behind row replays fits all
