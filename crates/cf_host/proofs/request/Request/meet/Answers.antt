use Rattle.std.proofs.Common.{inl, inr, refl}
use Rattle.cf_host.proofs.request.Request.meet.Goals as goal

pub returns-in-Ok : goal.returns-in-Ok
returns-in-Ok c =
    record { before = c.in-Some.work; after = c.others.new.self; is = c.in-Some.is; calls = inl (c.in-Ok._landed, c.in-Ok.ensures.met); rest = refl }

pub returns-in-Err : goal.returns-in-Err
returns-in-Err c =
    record { before = c.in-Some.work; after = c.others.new.self; is = c.in-Some.is; calls = inr (c.in-Err._misfit, c.in-Err.ensures.refused); rest = refl }
