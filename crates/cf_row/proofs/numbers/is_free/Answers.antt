use Rattle.std.proofs.Common.{◌≡◌, ℕ, All, Contains, get_or, sym, ◌∙◌, subst, arith}
use Rattle.std.specs.Prelude.{◌≢◌}
use Rattle.std.proofs.lemmas.List.{take_all}
use Rattle.std.proofs.lemmas.List.Elements.{Contains-get_or}
use Rattle.cf_row.specs.declared.entry.Entry.{Entry}
use Rattle.cf_row.specs.Numbers.{numbers_in}
use Rattle.cf_row.specs.Puts.{pair_of, pairs_of, who_at}
use Rattle.cf_row.proofs.Elements.{contains_map}
use Rattle.cf_row.proofs.numbers.is_free.Goals as goal

pub returns-then-who_at-who-clause-taken : goal.returns-then-who_at-who-clause-taken
returns-then-who_at-who-clause-taken c =
    let seen = c.args.seen.now in
    let none : Entry = record { word = 0; token = 0 } in
    let x = get_or seen c.loop-entry.entry-index none in
    subst (λ (n : ℕ). Contains (numbers_in (pairs_of seen)) n) (let same : who_at x.word ≡ c.args.who = sym c.who_at.ensures ∙ c.if-who_at-who.true in same)
    (contains_map (λ (q : ℕ × ℕ). q.1) (pairs_of seen) (pair_of x) (contains_map pair_of seen x (Contains-get_or seen c.loop-entry.entry-index none (omega arith))))

pub returns-clause-free : goal.returns-clause-free
returns-clause-free c =
    subst (All (λ (x : Entry). who_at x.word ≢ c.args.who)) (take_all c.loop-entry.entry-index c.args.seen.now (omega arith)) c.loop-entry.invariant
