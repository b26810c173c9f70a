use Rattle.std.proofs.Common.{Bool, List, ◌∙◌, ap, not, subst}
use Rattle.std.specs.Prelude.{◌&&◌}
use Rattle.cf_host.specs.declared.request.Request.{Request}
use Rattle.cf_host.specs.Busy.{AreBusy}
use Rattle.cf_host.specs.Hosts.{Host, MayClaim}
use Rattle.cf_host.proofs.Counted.{free_tells}
use Rattle.cf_host.proofs.host.Host.may_claim.Goals as goal

pub returns : goal.returns
returns c =
    let free = c.free_threads-free.ensures in
    subst (λ (h : Host). MayClaim h c.may_claim.result) c.self.view_is
    (record {
      busy = free.busy;
      are = subst (λ (l : List Request). AreBusy l free.busy) c.deref.ensures.value free.are;
      is = c.may_claim.ensures ∙ ap (λ (b : Bool). not c.self.inside.is_stopping && not c.self.inside.is_taken_for_gone && b) (free_tells c.self.inside.threads free.busy c.free_threads-free.result free.is);
    })
