use Rattle.std.proofs.Common.{inl, inr, refl, arith}
use Rattle.cf_desk.specs.declared.faults.DeskFault.TheVariants.{NoStage, BadAttach, PassFull, LogFull}
use Rattle.cf_desk.proofs.Passes.{follows_itself}
use Rattle.cf_desk.proofs.Results.{answered_there, recorded, refused_there, due_full, is_true, not_true}
use Rattle.cf_desk.proofs.desk.Desk.act.Goals as goal

pub returns-then-not-names-clause-refused : goal.returns-then-not-names-clause-refused
returns-then-not-names-clause-refused c =
    refused_there c.args.self.now c.args.p.now _ _ c.args.c c.names-known.result c.names-known.ensures.names.0 c.names-known.ensures.names.1 c.learn.ensures NoStage (follows_itself _) refl (inr refl) (λ h. not_true ((c.if-not-names.ensures).names.1 h))

pub returns-then-not-fits-clause-refused : goal.returns-then-not-fits-clause-refused
returns-then-not-fits-clause-refused c =
    refused_there c.args.self.now c.args.p.now _ _ c.args.c c.names-known.result c.names-known.ensures.names.0 c.names-known.ensures.names.1 c.learn.ensures BadAttach (follows_itself _) refl (inr refl)
    ((c.if-not-names.ensures).names.0 is_true, (λ h. not_true ((c.if-not-fits.ensures).fits.1 h)))

pub returns-then-left-eq0-clause-refused : goal.returns-then-left-eq0-clause-refused
returns-then-left-eq0-clause-refused c =
    let left = c.left.ensures in
    let none = c.if-left-eq0.true in
    refused_there c.args.self.now c.args.p.now _ _ c.args.c c.names-known.result c.names-known.ensures.names.0 c.names-known.ensures.names.1 c.learn.ensures PassFull (follows_itself _) refl (inr refl)
    ((c.if-not-names.ensures).names.0 is_true, (c.if-not-fits.ensures).fits.0 is_true, omega (arith, left, none))

pub returns-in-Some-clause-done : goal.returns-in-Some-clause-done
returns-in-Some-clause-done c =
    let left = c.left.ensures in
    let some = c.if-left-eq0.false in
    answered_there c.args.self.now c.args.p.now _ _ c.args.c c.names-known.result c.names-known.ensures.names.0 c.names-known.ensures.names.1 c.learn.ensures c.in-Some.reply
    ((c.if-not-names.ensures).names.0 is_true) ((c.if-not-fits.ensures).fits.0 is_true) (omega (arith, left, some)) c.in-Some.ensures

pub returns-in-None-clause-refused : goal.returns-in-None-clause-refused
returns-in-None-clause-refused c =
    let left = c.left.ensures in
    let some = c.if-left-eq0.false in
    let seen = c.in-None.ensures in
    refused_there c.args.self.now c.args.p.now _ _ c.args.c c.names-known.result c.names-known.ensures.names.0 c.names-known.ensures.names.1 c.learn.ensures LogFull seen.0 seen.1 (inl refl)
    (due_full c.args.self.now _ _ c.args.c seen.0 ((c.if-not-names.ensures).names.0 is_true) ((c.if-not-fits.ensures).fits.0 is_true) (omega (arith, left, some)) seen.2)

pub returns-in-Some-clause-recorded : goal.returns-in-Some-clause-recorded
returns-in-Some-clause-recorded c = recorded c.args.self.now c.args.p.now _ c.args.c c.in-Some.reply (returns-in-Some-clause-done c)
