use Rattle.std.proofs.Common.{◌≡◌, ℕ, ◌≤◌, Some, List, ◌++◌, ◌∙◌, ap, arith, drop, length, map, refl, subst, take}
use Rattle.std.proofs.lemmas.List.{length-map, take-append-le, take_all}
use Rattle.cf_watch.specs.Calls.{count_in}
use Rattle.cf_watch.specs.Watches.{TakesAnswer, Watch, known_after, known_met, looked_at, sight_of}
use Rattle.cf_watch.specs.declared.sight.Known.{Known}
use Rattle.cf_watch.proofs.Finding.{met_looked}
use Rattle.cf_watch.proofs.watch.Watch.take_answer.Goals as goal

-- what was written comes back
back : (n : ℕ) (new old : List Known) → n ≤ length new → length new ≤ n → take n (new ++ drop (length new) old) ≡ new
back n new old few most = rw take-append-le (take_all n new most)

pub returns-clause-ok : goal.returns-clause-ok
returns-clause-ok c =
    let old = c.self.inside in
    let beats = c.args.beats.now in
    let time = c.span_from-time.result in
    let mid : c.look_again.new.known ≡ map (looked_at old.lease time beats) old.known.items =
    c.look_again.ensures ∙ ap (λ (ks : List Known). map (looked_at old.lease time beats) ks) (c.deref_mut.ensures.value ∙ c.reserve.ensures.items) in
    let many = ap (λ (ks : List Known). length ks) mid in
    let first = c.reserve.ensures.len in
    let few = old.known.ok in
    let all = c.reserve.new.self.ok in
    let written = back c.reserve.new.self.len c.look_again.new.known c.reserve.new.self.items
    (omega (arith, many, first, few, all, length-map {A = Known} {B = Known})) (omega (arith, many, first, few, all, length-map {A = Known} {B = Known})) in
    subst (λ (w : Watch). TakesAnswer c.args.asked c.args.now beats w (record { lease = old.lease; last = Some c.args.now; known = c.meet_all.new.known.items })) c.self.view_is
    (record {
      lease = refl;
      last = refl;
      known = λ s. c.meet_all.ensures s ∙ ap (λ (ks : List Known). known_met old.lease (count_in s beats) (sight_of s ks)) (written ∙ mid) ∙
          met_looked old.lease time beats s old.known.items ∙
          ap (λ (t : ℕ). known_after old.lease t (count_in s beats) (sight_of s old.known.items)) c.span_from-time.ensures;
    })
