use Rattle.std.proofs.Common.{ℕ, ap, drop, refl, subst, sym, ◌∙◌}
use Rattle.cf_host.specs.Laws.IsCall.{hears}
use Rattle.cf_example.specs.Processes.{HasTaken}
use Rattle.cf_example.proofs.Led.{either_led, grows_not}
use Rattle.cf_example.proofs.Told.{entries_know}
use Rattle.cf_example.proofs.processes.Worker.hears.Goals as goal

pub returns : goal.returns
returns c =
    let s = c.args.stored.now in
    let taken = subst (λ (n : ℕ). HasTaken n c.entries.new.self) c.number.ensures c.took_what_it_saw.ensures in
    record {
      grows = grows_not s;
      session = refl;
      led = either_led s c.args.self.now _ c.entries.result _ refl refl c.entries.ensures.ok c.entries.ensures.err (λ e. hears c.args.now c.args.ticket c.read-entries.result.now c.said-notes.result.now refl e)
          (λ e k. entries_know s.number s.plan s.row c.args.self.now.host c.args.now c.read-entries.result.now c.said-notes.result.now c.args.ticket c.entries.new.self e (λ w at. c.read-entries.ensures ∙ ap (λ n. drop n s.row) (sym (c.requires.seen w at))) taken k) c.requires.led;
    }
