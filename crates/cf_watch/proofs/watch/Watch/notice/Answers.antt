use Rattle.std.proofs.Common.{List, [], ◌∷◌, ◌++◌, ◌∙◌, ap, refl, subst}
use Rattle.cf_watch.specs.Watches.{Notices, Watch, sight_of}
use Rattle.cf_watch.specs.declared.sight.Known.{Known}
use Rattle.cf_watch.specs.declared.sight.Sight.TheVariants.{Noticed}
use Rattle.cf_watch.proofs.Finding.{noticed_pushed}
use Rattle.cf_watch.proofs.watch.Watch.notice.Goals as goal

pub returns-clause-ok : goal.returns-clause-ok
returns-clause-ok c =
    let old = c.self.inside in
    subst (λ (w : Watch). Notices c.args.session w (record { lease = old.lease; last = old.last; known = c.push_reserved.new.self.items })) c.self.view_is
    (record {
      lease = refl;
      last = refl;
      known = λ s. ap (λ (ks : List Known). sight_of s ks) (c.push_reserved.ensures.items ∙ ap (λ (ks : List Known). ks ++ (record { session = c.args.session; sight = Noticed }) ∷ []) c.reserve.ensures.items) ∙
          noticed_pushed c.args.session old.known.items s;
    })
