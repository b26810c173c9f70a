use Rattle.std.proofs.Common.{ℕ, subst, sym, ◌∙◌}
use Rattle.std.proofs.lemmas.Bool.{OnTrue_at}
use Rattle.cf_host.specs.Hosts.{IsShownPart}
use Rattle.cf_example.proofs.Led.{put_leads}
use Rattle.cf_example.proofs.processes.serve_put.Goals as goal

pub returns-then-branch : goal.returns-then-branch
returns-then-branch c =
    let w = c.args.worker.now in
    let part = c.in-Some.part.now in
    let shown = subst (λ (n : ℕ). IsShownPart w.host n part) c.number.ensures c.in-Some.ensures.some in
    let put = OnTrue_at c.if-branch.true c.in_ok-put.ensures.stands in
    put_leads c.args.stored.now c.put-2.new.self w c.stands.new.self part c.put.result.now c.args.place c.requires.led shown c.requires.seen put.0 put.1 c.put.ensures c.stands.ensures.session
    (λ u named put l. c.stands.ensures.led u (named ∙ sym c.number-then-branch.ensures) put l)
