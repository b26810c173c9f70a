use Rattle.std.proofs.Common.{false, ℕ, ap, refl, ◌∙◌}
use Rattle.cf_forms.specs.Plans.{with_room}
use Rattle.cf_host.specs.Laws.IsCall.{opens}
use Rattle.cf_example.proofs.Led.{either_led, grows_not}
use Rattle.cf_example.proofs.Told.{opened_knows}
use Rattle.cf_example.proofs.processes.Worker.opens.Goals as goal

pub returns : goal.returns
returns c =
    let s = c.args.stored.now in
    record {
      grows = grows_not s;
      session = refl;
      led = either_led s c.args.self.now _ c.opened.result _ refl refl c.opened.ensures.ok c.opened.ensures.err (λ e. opens c.plan.result.now c.notes.result.now c.room.result c.args.ticket false refl e)
          (λ e k. opened_knows s.number s.plan s.row c.plan.result.now c.notes.result.now c.room.result false c.args.self.now.host c.args.ticket c.opened.new.self e (ap (λ (n : ℕ). with_room c.plan.result.now n) c.room.ensures ∙ c.plan.ensures) k) c.requires;
    }
