use Rattle.std.proofs.Common.{◌∙◌, ap, subst}
use Rattle.cf_part.specs.Parts.{IsPut}
use Rattle.cf_host.specs.Answering.Hearing.{put}
use Rattle.cf_host.specs.Requests.{asked_in}
use Rattle.cf_host.proofs.request.Request.hear.Goals as goal

pub returns-clause-ok : goal.returns-clause-ok
returns-clause-ok c =
    let m = c.meet.ensures in
    record {
      before = m.before;
      after = m.after;
      is = m.is;
      calls = put (subst IsPut (c.asked-asked.ensures ∙ ap asked_in m.is) c.if-not-is_put.ensures.put) m.calls;
      rest = m.rest;
    }
