use Rattle.std.proofs.Common.{◌≡◌, ◌+◌, ◌∷◌, ◌++◌, ◌∙◌, [], ap, arith, length, length-append, subst, sym}
use Rattle.cf_ledger.specs.News.{AreEnds, News, parts}
use Rattle.cf_ledger.proofs.Parts.{ends_push, parts_push}
use Rattle.cf_ledger.proofs.news.News.note.Goals as goal

pub invariant_of-self : goal.invariant_of-self
invariant_of-self c =
    let all = c.self.inside.all.items in
    let d = c.answer_telling-reply.ensures.news in
    let len : c.len-end.result ≡ length c.answer_telling-reply.new.news.items = omega (arith, c.len-end.ensures, c.answer_telling-reply.new.news.ok.0) in
    let end : length c.answer_telling-reply.new.news.items ≡ length all + length d.xs = ap length d.written ∙ length-append all d.xs in
    subst (λ n. AreEnds 0 n c.push_reserved.new.self.items) (sym end)
    (subst (AreEnds 0 (length all + length d.xs)) (sym (c.push_reserved.ensures.items ∙ ap (λ n. c.self.inside.ends.items ++ n ∷ []) (len ∙ end)))
    (ends_push 0 (length all) (length d.xs) c.self.inside.ends.items c.self.invariant))

pub returns-clause-lists : goal.returns-clause-lists
returns-clause-lists c =
    let all = c.self.inside.all.items in
    let ends = c.self.inside.ends.items in
    let d = c.answer_telling-reply.ensures.news in
    let len : c.len-end.result ≡ length c.answer_telling-reply.new.news.items = omega (arith, c.len-end.ensures, c.answer_telling-reply.new.news.ok.0) in
    let end : length c.answer_telling-reply.new.news.items ≡ length all + length d.xs = ap length d.written ∙ length-append all d.xs in
    let is = c.push_reserved.ensures.items ∙ ap (λ n. ends ++ n ∷ []) (len ∙ end) in
    record {
      xs = d.xs;
      written = ap (λ xs. parts 0 xs c.push_reserved.new.self.items) d.written ∙ ap (parts 0 (all ++ d.xs)) is ∙ parts_push 0 all d.xs ends c.self.invariant
          ∙ ap (λ (n : News). n.lists ++ d.xs ∷ []) c.self.view_is;
      news = d.news;
    }
