-- Looks leave no gap.
use Rattle.std.proofs.Common.{◌≡◌, ℕ, ◌≤◌, Bool, true, false, Option, Some, None, List, [], ◌∷◌, ap, sym, subst, inl, inr, arith}
use Rattle.std.proofs.lemmas.Bool.Decides.{leb_tells}
use Rattle.cf_host.specs.declared.news.Look.{Look}
use Rattle.cf_host.specs.declared.news.Look.TheVariants.{Since, Whole}
use Rattle.cf_host.specs.News.{Call, ComesTo, IsCovered, News, NothingIsMissed, answers, asks, look_of, stays, stirs, wants}

-- all up to the mark is covered, and an open look begins at the mark, unless it is whole
record IsKept (calls : List Call) (mark : Option ℕ) (look : Option Look) : Type 0 where
  covered : (m n : ℕ) → mark ≡ Some m → n ≤ m → IsCovered calls n
  begins : (from : ℕ) → look ≡ Some (Since from) → mark ≡ Some from

look_since : (b : Bool) (o : Option ℕ) (from : ℕ) → Some (look_of b o) ≡ Some (Since from) → o ≡ Some from
look_since true o from e = cc
look_since false None from e = cc
look_since false (Some m) from e = let is : m ≡ from = cc in ap Some is

covers : (calls : List Call) (look : Look) (old : Option ℕ) (asked : Option Look) (mark due n : ℕ) → IsKept calls old asked → asked ≡ Some look → n ≤ mark →
    IsCovered (answers look mark due ∷ calls) n
covers calls Whole old asked mark due n k e l = inl l
covers calls (Since from) old asked mark due n k e l = elim (leb_tells n from) [
  | inl p ↦ inr (k.covered from n (k.begins from e) p.1)
  | inr p ↦ inl (p.1, l)
]

kept : (calls : List Call) (w : News) → ComesTo calls w → IsKept calls w.mark w.asked
kept [] w h = subst (λ (v : News). IsKept [] v.mark v.asked) (sym h) (record { covered = λ m n e l. cc; begins = λ from e. cc })
kept (asks ∷ calls) w (v, before, call) =
    let k = kept calls v before in
    subst (λ (u : News). IsKept (asks ∷ calls) u.mark u.asked) (sym call.1) (record { covered = k.covered; begins = λ from e. look_since v.is_whole_due v.mark from e })
kept (answers look mark due ∷ calls) w (v, before, call) =
    let k = kept calls v before in
    subst (λ (u : News). IsKept (answers look mark due ∷ calls) u.mark u.asked) (sym call.1) (record {
      covered = λ m n e l. covers calls look v.mark v.asked mark due n k call.0 (let is : mark ≡ m = cc in omega (arith, is, l));
      begins = λ from e. cc;
    })
kept (stays due ∷ calls) w (v, before, call) =
    let k = kept calls v before in
    subst (λ (u : News). IsKept (stays due ∷ calls) u.mark u.asked) (sym call) (record { covered = k.covered; begins = λ from e. cc })
kept (wants ∷ calls) w (v, before, call) =
    let k = kept calls v before in
    subst (λ (u : News). IsKept (wants ∷ calls) u.mark u.asked) (sym call) (record { covered = k.covered; begins = k.begins })
kept (stirs due ∷ calls) w (v, before, call) =
    let k = kept calls v before in
    subst (λ (u : News). IsKept (stirs due ∷ calls) u.mark u.asked) (sym call) (record { covered = k.covered; begins = k.begins })

pub nothing_is_missed : NothingIsMissed
nothing_is_missed calls w mark n h e l = let k = kept calls w h in k.covered mark n e l
