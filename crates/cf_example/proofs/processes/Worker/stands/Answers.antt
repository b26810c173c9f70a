use Rattle.std.proofs.Common.{ℕ, refl, subst, sym}
use Rattle.cf_host.specs.Laws.IsCall.{lands}
use Rattle.cf_example.specs.Processes.{HasTaken}
use Rattle.cf_example.proofs.Led.{either_led}
use Rattle.cf_example.proofs.Told.{stands_knows}
use Rattle.cf_example.proofs.processes.Worker.stands.Goals as goal

pub returns-then-is_answered-clause-led : goal.returns-then-is_answered-clause-led
returns-then-is_answered-clause-led c =
    λ s named put l.
    let taken = subst (λ (n : ℕ). HasTaken n c.stands.new.self) (sym named) c.took_what_it_saw.ensures in
    either_led s c.args.self.now _ c.stands.result _ refl refl c.stands.ensures.ok c.stands.ensures.err (λ e. lands c.args.ticket refl e)
    (λ e k. stands_knows s.number s.plan s.row c.args.self.now.host c.args.ticket c.stands.new.self e put taken k) l
