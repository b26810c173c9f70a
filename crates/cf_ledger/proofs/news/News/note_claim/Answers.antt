use Rattle.std.proofs.Common.{◌≡◌, ◌+◌, ◌∷◌, ◌++◌, ◌∙◌, [], ap, arith, length, length-append, refl, subst, sym}
use Rattle.cf_core.proofs.Keeping.Written.{written_few}
use Rattle.cf_model.proofs.Shape.{answered-stages}
use Rattle.cf_model.specs.declared.events.Event.TheVariants.{Claim as Claims}
use Rattle.cf_model.specs.declared.replies.Claimed.{Claimed}
use Rattle.cf_model.specs.States.{State}
use Rattle.cf_ledger.specs.News.{AreEnds, News, parts}
use Rattle.cf_ledger.proofs.Parts.{ends_push, parts_push}
use Rattle.cf_ledger.proofs.news.News.note_claim.Goals as goal

pub invariant_of-self : goal.invariant_of-self
invariant_of-self c =
    let all = c.self.inside.all.items in
    let d = c.claim_telling-told.ensures.news in
    let len : c.len-end.result ≡ length c.claim_telling-told.new.news.items = omega (arith, c.len-end.ensures, c.claim_telling-told.new.news.ok.0) in
    let end : length c.claim_telling-told.new.news.items ≡ length all + length d.xs = ap length d.written ∙ length-append all d.xs in
    subst (λ n. AreEnds 0 n c.push_reserved.new.self.items) (sym end)
    (subst (AreEnds 0 (length all + length d.xs)) (sym (c.push_reserved.ensures.items ∙ ap (λ n. c.self.inside.ends.items ++ n ∷ []) (len ∙ end)))
    (ends_push 0 (length all) (length d.xs) c.self.inside.ends.items c.self.invariant))

pub returns-clause-lists : goal.returns-clause-lists
returns-clause-lists c =
    let all = c.self.inside.all.items in
    let ends = c.self.inside.ends.items in
    let d = c.claim_telling-told.ensures.news in
    let len : c.len-end.result ≡ length c.claim_telling-told.new.news.items = omega (arith, c.len-end.ensures, c.claim_telling-told.new.news.ok.0) in
    let end : length c.claim_telling-told.new.news.items ≡ length all + length d.xs = ap length d.written ∙ length-append all d.xs in
    let is = c.push_reserved.ensures.items ∙ ap (λ n. ends ++ n ∷ []) (len ∙ end) in
    record {
      xs = d.xs;
      written = ap (λ xs. parts 0 xs c.push_reserved.new.self.items) d.written ∙ ap (parts 0 (all ++ d.xs)) is ∙ parts_push 0 all d.xs ends c.self.invariant
          ∙ ap (λ (n : News). n.lists ++ d.xs ∷ []) c.self.view_is;
      news = d.news;
    }

-- no more stages are written than there are
pub returns-clause-free : goal.returns-clause-free
returns-clause-free c =
    let t = c.claim_telling-told.ensures in
    let old = c.args.graph.now.state in
    let new = c.claim_telling-told.new.self.state in
    let row = c.claim_telling-told.new.news in
    let count = length old.plan.stages in
    let before : length old.stages ≡ count = c.requires.all_stages in
    let after : length new.stages ≡ count = ap (λ (p : Claimed × State). length p.1.stages) t.told ∙ answered-stages old (Claims c.args.who c.args.stage) refl ∙ before in
    let few = written_few old.stages new.stages c.self.inside.all.items row.items count (omega (arith, before)) (omega (arith, after)) t.news in
    let places = t.places in
    rw (← c.self.view_is) (omega (arith, few, places))
