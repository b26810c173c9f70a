use Rattle.cf_threads.proofs.team.work_as.Goals as goal

pub returns : goal.returns
returns g c =
    let w = c.work-stopped.ensures in
    record { back = ((w.mine.0, w.mine.1), w.mine.2); worked = w.worked }
