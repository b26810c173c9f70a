-- Who is gone was silent, and who was silent is gone.
use Rattle.std.proofs.Common.{◌≡◌, ℕ, ◌+◌, ◌<◌, ◌≤◌, Bool, true, false, cond, eqb, not, Option, Some, None, List, [], ◌∷◌, ◌++◌, refl, ap, sym, subst, ◌∙◌, inl, inr, arith}
use Rattle.std.specs.Prelude.{◌⊎◌, is_some}
use Rattle.std.proofs.lemmas.Bool.{eq-eqb, eqb-true}
use Rattle.std.proofs.lemmas.Bool.Decides.{leb_tells}
use Rattle.cf_watch.specs.Calls.{Answer, Call, IsKnownBy, IsSameIn, IsSilent, answers, count_in, last_since, notices, silences, span, time_since}
use Rattle.cf_watch.specs.Laws.{ComesTo, TellsWhoIsSilent}
use Rattle.cf_watch.specs.Watches.{IsGone, Watch, is_gone_by, is_news, known_after, known_noticed, left_of, sight_of, span_from}
use Rattle.cf_watch.specs.declared.sight.Sight.{Sight}
use Rattle.cf_watch.specs.declared.sight.Sight.TheVariants.{Noticed, Seen}

-- ---- from what is known to the calls

-- what is left of a lease behind some time
abbrev IsLeft : ℕ → ℕ → Option ℕ → Type 0
IsLeft lease time None = lease < time
IsLeft lease time (Some left) = left + time ≡ lease

-- since an answer a session was silent, and so much of its lease is left
record IsSince (lease : ℕ) (calls : List Call) (s : ℕ) (last count left : Option ℕ) : Type 0 where
  since : List Call
  first : Answer
  before : List Call
  are : calls ≡ since ++ answers first ∷ before
  known : IsKnownBy s (answers first ∷ before)
  same : IsSameIn s (count_in s first.beats) since
  counted : count ≡ count_in s first.beats
  rest : IsLeft lease (time_since lease first since) left
  at : last ≡ Some (last_since first since).now

-- what the calls tell where this is known
abbrev IsWhy : ℕ → List Call → ℕ → Option ℕ → Option Sight → Type 0
IsWhy lease calls s last None = Unit {0}
IsWhy lease calls s last (Some Noticed) = IsKnownBy s calls
IsWhy lease calls s last (Some (Seen count left)) = IsSince lease calls s last count left

left_step : (lease time : ℕ) (left : Option ℕ) (more : ℕ) → IsLeft lease time left → IsLeft lease (more + time) (left_of left more)
left_step lease time None more h = omega (arith, h)
left_step lease time (Some left) more h = elim (leb_tells more left) [
  | inl p ↦ rw p.0 (let l = p.1 in omega (arith, h, l))
  | inr p ↦ rw p.0 (let l = p.1 in omega (arith, h, l))
]

anew : (lease : ℕ) (calls : List Call) (s : ℕ) (a : Answer) (told : Option ℕ) → count_in s a.beats ≡ told → IsKnownBy s (answers a ∷ calls) →
    IsSince lease (answers a ∷ calls) s (Some a.now) told (Some lease)
anew lease calls s a told e known = record {
  since = [];
  first = a;
  before = calls;
  are = refl;
  known = known;
  same = tt;
  counted = sym e;
  rest = omega arith;
  at = refl;
}

not_false : (b : Bool) → not b ≡ false → b ≡ true
not_false true h = refl
not_false false h = cc

not_news : (count told : Option ℕ) → is_news count told ≡ false → (told ≡ None) ⊎ (told ≡ count)
not_news count None h = inl refl
not_news None (Some n) h = cc
not_news (Some c) (Some n) h = inr (ap Some (sym (eqb-true c n (not_false (eqb c n) h))))

news_told : (count told : Option ℕ) → is_news count told ≡ true → told ≡ None → ⊥
news_told count None h e = cc
news_told count (Some n) h e = cc

on : (lease : ℕ) (calls : List Call) (s : ℕ) (a : Answer) (last count left : Option ℕ) → IsSince lease calls s last count left →
    (count_in s a.beats ≡ None) ⊎ (count_in s a.beats ≡ count) → IsSince lease (answers a ∷ calls) s (Some a.now) count (left_of left (span_from lease last a.asked))
on lease calls s a last count left h same = record {
  since = answers a ∷ h.since;
  first = h.first;
  before = h.before;
  are = ap (λ (cs : List Call). answers a ∷ cs) h.are;
  known = h.known;
  same = (elim same [ inl e ↦ inl e | inr e ↦ inr (e ∙ h.counted) ], h.same);
  counted = h.counted;
  rest = subst (λ (o : Option ℕ). IsLeft lease (span lease (last_since h.first h.since).now a.asked + time_since lease h.first h.since) (left_of left (span_from lease o a.asked))) (sym h.at)
      (left_step lease (time_since lease h.first h.since) left (span lease (last_since h.first h.since).now a.asked) h.rest);
  at = refl;
}

seen_on : (news : Bool) (lease : ℕ) (calls : List Call) (s : ℕ) (a : Answer) (last count left told : Option ℕ) → is_news count told ≡ news → count_in s a.beats ≡ told →
    IsSince lease calls s last count left →
    IsWhy lease (answers a ∷ calls) s (Some a.now) (Some (cond news (Seen told (Some lease)) (Seen count (left_of left (span_from lease last a.asked)))))
seen_on true lease calls s a last count left told news e h = anew lease calls s a told e (inl (λ none. news_told count told news (sym e ∙ none)))
seen_on false lease calls s a last count left told news e h =
    on lease calls s a last count left h (elim (not_news count told news) [ inl n ↦ inl (e ∙ n) | inr n ↦ inr (e ∙ n) ])

why_answered : (lease : ℕ) (calls : List Call) (s : ℕ) (a : Answer) (last told : Option ℕ) (o : Option Sight) → count_in s a.beats ≡ told → IsWhy lease calls s last o →
    IsWhy lease (answers a ∷ calls) s (Some a.now) (known_after lease (span_from lease last a.asked) told o)
why_answered lease calls s a last None None e h = tt
why_answered lease calls s a last (Some n) None e h = anew lease calls s a (Some n) e (inl (λ none. absurd (let z = sym e ∙ none in cc)))
why_answered lease calls s a last told (Some Noticed) e h = anew lease calls s a told e (inr h)
why_answered lease calls s a last told (Some (Seen count left)) e h = seen_on (is_news count told) lease calls s a last count left told refl e h

why_noticed : (is_it : Bool) (lease : ℕ) (calls : List Call) (s t : ℕ) (last : Option ℕ) (o : Option Sight) → (is_it ≡ true → t ≡ s) → IsWhy lease calls s last o →
    IsWhy lease (notices t ∷ calls) s last (known_noticed is_it o)
why_noticed true lease calls s t last None same h = inl (same refl)
why_noticed false lease calls s t last None same h = tt
why_noticed is_it lease calls s t last (Some Noticed) same h = inr h
why_noticed is_it lease calls s t last (Some (Seen count left)) same h = record {
  since = notices t ∷ h.since;
  first = h.first;
  before = h.before;
  are = ap (λ (cs : List Call). notices t ∷ cs) h.are;
  known = h.known;
  same = h.same;
  counted = h.counted;
  rest = h.rest;
  at = h.at;
}

pub lease_is : (lease : ℕ) (calls : List Call) (w : Watch) → ComesTo lease calls w → w.lease ≡ lease
lease_is lease [] w h = ap (λ (v : Watch). v.lease) h
lease_is lease (answers a ∷ calls) w (v, before, call) = call.lease ∙ lease_is lease calls v before
lease_is lease (silences ∷ calls) w (v, before, call) = ap (λ (v : Watch). v.lease) call ∙ lease_is lease calls v before
lease_is lease (notices t ∷ calls) w (v, before, call) = call.lease ∙ lease_is lease calls v before

why : (lease : ℕ) (calls : List Call) (w : Watch) (s : ℕ) → ComesTo lease calls w → IsWhy lease calls s w.last (sight_of s w.known)
why lease [] w s h = subst (λ (v : Watch). IsWhy lease [] s v.last (sight_of s v.known)) (sym h) tt
why lease (answers a ∷ calls) w s (v, before, call) =
    subst (λ (o : Option ℕ). IsWhy lease (answers a ∷ calls) s o (sight_of s w.known)) (sym call.last)
    (subst (λ (o : Option Sight). IsWhy lease (answers a ∷ calls) s (Some a.now) o) (sym (call.known s))
    (subst (λ (l : ℕ). IsWhy lease (answers a ∷ calls) s (Some a.now) (known_after l (span_from l v.last a.asked) (count_in s a.beats) (sight_of s v.known))) (sym (lease_is lease calls v before))
    (why_answered lease calls s a v.last (count_in s a.beats) (sight_of s v.known) refl (why lease calls v s before))))
why lease (silences ∷ calls) w s (v, before, call) = subst (λ (u : Watch). IsWhy lease (silences ∷ calls) s u.last (sight_of s u.known)) (sym call) tt
why lease (notices t ∷ calls) w s (v, before, call) =
    subst (λ (o : Option ℕ). IsWhy lease (notices t ∷ calls) s o (sight_of s w.known)) (sym call.last)
    (subst (λ (o : Option Sight). IsWhy lease (notices t ∷ calls) s v.last o) (sym (call.known s))
    (why_noticed (eqb t s) lease calls s t v.last (sight_of s v.known) (eqb-true t s) (why lease calls v s before)))

gone_why : (lease : ℕ) (calls : List Call) (s : ℕ) (last : Option ℕ) (o : Option Sight) → IsWhy lease calls s last o → is_gone_by o ≡ true → IsSilent lease calls s
gone_why lease calls s last None h g = cc
gone_why lease calls s last (Some Noticed) h g = cc
gone_why lease calls s last (Some (Seen count (Some left))) h g = cc
gone_why lease calls s last (Some (Seen count None)) h g = record {
  since = h.since;
  first = h.first;
  before = h.before;
  are = h.are;
  known = h.known;
  same = h.same;
  long = h.rest;
}

-- ---- from the calls to what is known

after_told : (lease time : ℕ) (told : Option ℕ) (o : Option Sight) → (told ≡ None → ⊥) → is_some (known_after lease time told o) ≡ true
after_told lease time told (Some x) h = refl
after_told lease time None None h = absurd (h refl)
after_told lease time (Some n) None h = refl

after_known : (lease time : ℕ) (told : Option ℕ) (o : Option Sight) → is_some o ≡ true → is_some (known_after lease time told o) ≡ true
after_known lease time told (Some x) h = refl
after_known lease time told None h = cc

noticed_is : (is_it : Bool) (o : Option Sight) → is_it ≡ true → is_some (known_noticed is_it o) ≡ true
noticed_is is_it (Some x) h = refl
noticed_is true None h = refl
noticed_is false None h = cc

noticed_known : (is_it : Bool) (o : Option Sight) → is_some o ≡ true → is_some (known_noticed is_it o) ≡ true
noticed_known is_it (Some x) h = refl
noticed_known is_it None h = cc

is_known : (lease : ℕ) (calls : List Call) (w : Watch) (s : ℕ) → ComesTo lease calls w → IsKnownBy s calls → is_some (sight_of s w.known) ≡ true
is_known lease [] w s h k = absurd k
is_known lease (answers a ∷ calls) w s (v, before, call) k =
    let time = span_from v.lease v.last a.asked in
    ap is_some (call.known s) ∙ elim k [
      | inl told ↦ after_told v.lease time (count_in s a.beats) (sight_of s v.known) told
      | inr known ↦ after_known v.lease time (count_in s a.beats) (sight_of s v.known) (is_known lease calls v s before known)
    ]
is_known lease (silences ∷ calls) w s (v, before, call) k = absurd k
is_known lease (notices t ∷ calls) w s (v, before, call) k =
    ap is_some (call.known s) ∙ elim k [
      | inl same ↦ noticed_is (eqb t s) (sight_of s v.known) (eq-eqb t s same)
      | inr known ↦ noticed_known (eqb t s) (sight_of s v.known) (is_known lease calls v s before known)
    ]

-- so much of a lease is left at most
abbrev IsFew : ℕ → ℕ → Option ℕ → Type 0
IsFew lease time None = Unit {0}
IsFew lease time (Some left) = left + time ≤ lease

-- since an answer that told this count, the time has been taken from a session's lease
record IsSpent (lease time : ℕ) (told : Option ℕ) (o : Option Sight) : Type 0 where
  count : Option ℕ
  left : Option ℕ
  is : o ≡ Some (Seen count left)
  same : (told ≡ None) ⊎ (told ≡ count)
  few : IsFew lease time left

few_step : (lease time : ℕ) (left : Option ℕ) (more : ℕ) → IsFew lease time left → IsFew lease (more + time) (left_of left more)
few_step lease time None more h = tt
few_step lease time (Some left) more h = elim (leb_tells more left) [
  | inl p ↦ rw p.0 (let l = p.1 in omega (arith, h, l))
  | inr p ↦ rw p.0 tt
]

few_less : (lease less : ℕ) (left : Option ℕ) → IsFew lease 0 left → IsFew lease 0 (left_of left less)
few_less lease less None h = tt
few_less lease less (Some left) h = elim (leb_tells less left) [
  | inl p ↦ rw p.0 (let l = p.1 in omega (arith, h, l))
  | inr p ↦ rw p.0 tt
]

-- whatever was known, no more than a lease is left
abbrev IsAtMost : ℕ → Option Sight → Type 0
IsAtMost lease None = Unit {0}
IsAtMost lease (Some Noticed) = Unit {0}
IsAtMost lease (Some (Seen count left)) = IsFew lease 0 left

at_most_why : (lease : ℕ) (calls : List Call) (s : ℕ) (last : Option ℕ) (o : Option Sight) → IsWhy lease calls s last o → IsAtMost lease o
at_most_why lease calls s last None h = tt
at_most_why lease calls s last (Some Noticed) h = tt
at_most_why lease calls s last (Some (Seen count None)) h = tt
at_most_why lease calls s last (Some (Seen count (Some left))) h = (let r = h.rest in omega (arith, r))

spent_seen : (news : Bool) (lease time : ℕ) (told count left : Option ℕ) → is_news count told ≡ news → IsFew lease 0 left →
    IsSpent lease 0 told (Some (cond news (Seen told (Some lease)) (Seen count (left_of left time))))
spent_seen true lease time told count left news h = record { count = told; left = Some lease; is = refl; same = inr refl; few = omega arith }
spent_seen false lease time told count left news h = record { count = count; left = left_of left time; is = refl; same = not_news count told news; few = few_less lease time left h }

spent_first : (lease time : ℕ) (told : Option ℕ) (o : Option Sight) → IsAtMost lease o → is_some (known_after lease time told o) ≡ true →
    IsSpent lease 0 told (known_after lease time told o)
spent_first lease time None None h k = cc
spent_first lease time (Some n) None h k = record { count = Some n; left = Some lease; is = refl; same = inr refl; few = omega arith }
spent_first lease time told (Some Noticed) h k = record { count = told; left = Some lease; is = refl; same = inr refl; few = omega arith }
spent_first lease time told (Some (Seen count left)) h k = spent_seen (is_news count told) lease time told count left refl h

no_news : (count told : Option ℕ) → told ≡ count → is_news count told ≡ false
no_news count None h = refl
no_news None (Some n) h = cc
no_news (Some c) (Some n) h = ap not (eq-eqb c n (let e : Some n ≡ Some c = h in cc))

no_news_in : (count told again : Option ℕ) → (told ≡ None) ⊎ (told ≡ count) → (again ≡ None) ⊎ (again ≡ told) → is_news count again ≡ false
no_news_in count told again same more = elim more [
  | inl none ↦ ap (λ (o : Option ℕ). is_news count o) none
  | inr is ↦ elim same [
    | inl none ↦ ap (λ (o : Option ℕ). is_news count o) (is ∙ none)
    | inr it ↦ no_news count again (is ∙ it)
  ]
]

spent_more : (lease time more : ℕ) (told again : Option ℕ) (o : Option Sight) → IsSpent lease time told o → (again ≡ None) ⊎ (again ≡ told) →
    IsSpent lease (more + time) told (known_after lease more again o)
spent_more lease time more told again o h same = record {
  count = h.count;
  left = left_of h.left more;
  is = ap (λ (q : Option Sight). known_after lease more again q) h.is ∙
      ap (λ (b : Bool). Some (cond b (Seen again (Some lease)) (Seen h.count (left_of h.left more)))) (no_news_in h.count told again h.same same);
  same = h.same;
  few = few_step lease time h.left more h.few;
}

-- the store answered last at this moment, and the time was taken
record IsThere (lease : ℕ) (first : Answer) (since : List Call) (s : ℕ) (w : Watch) : Type 0 where
  at : w.last ≡ Some (last_since first since).now
  spent : IsSpent lease (time_since lease first since) (count_in s first.beats) (sight_of s w.known)

noticed_seen : (is_it : Bool) (o : Option Sight) (x : Sight) → o ≡ Some x → known_noticed is_it o ≡ o
noticed_seen is_it (Some y) x h = refl
noticed_seen is_it None x h = cc

there : (lease : ℕ) (since : List Call) (first : Answer) (before : List Call) (w : Watch) (s : ℕ) → ComesTo lease (since ++ answers first ∷ before) w →
    IsKnownBy s (answers first ∷ before) → IsSameIn s (count_in s first.beats) since → IsThere lease first since s w
there lease [] first before w s (v, earlier, call) known same = record {
  at = call.last;
  spent =
      let time = span_from v.lease v.last first.asked in
      let some = sym (ap is_some (call.known s)) ∙ is_known lease (answers first ∷ before) w s (v, earlier, call) known in
      subst (IsSpent lease 0 (count_in s first.beats)) (sym (call.known s))
      (subst (λ (l : ℕ). IsSpent l 0 (count_in s first.beats) (known_after v.lease time (count_in s first.beats) (sight_of s v.known))) (lease_is lease before v earlier)
      (spent_first v.lease time (count_in s first.beats) (sight_of s v.known)
      (subst (λ (l : ℕ). IsAtMost l (sight_of s v.known)) (sym (lease_is lease before v earlier)) (at_most_why lease before s v.last (sight_of s v.known) (why lease before v s earlier))) some));
}
there lease (answers a ∷ since) first before w s (v, earlier, call) known same =
    let ih = there lease since first before v s earlier known same.1 in
    let at = last_since first since in
    let now = call.known s ∙ ap (λ (l : ℕ). known_after l (span_from l v.last a.asked) (count_in s a.beats) (sight_of s v.known)) (lease_is lease (since ++ answers first ∷ before) v earlier) ∙
    ap (λ (o : Option ℕ). known_after lease (span_from lease o a.asked) (count_in s a.beats) (sight_of s v.known)) ih.at in
    record {
      at = call.last;
      spent = subst (IsSpent lease (span lease at.now a.asked + time_since lease first since) (count_in s first.beats)) (sym now)
          (spent_more lease (time_since lease first since) (span lease at.now a.asked) (count_in s first.beats) (count_in s a.beats) (sight_of s v.known) ih.spent same.0);
    }
there lease (silences ∷ since) first before w s (v, earlier, call) known same = absurd same
there lease (notices t ∷ since) first before w s (v, earlier, call) known same =
    let ih = there lease since first before v s earlier known same in
    record {
      at = call.last ∙ ih.at;
      spent = subst (IsSpent lease (time_since lease first since) (count_in s first.beats))
          (sym (call.known s ∙ noticed_seen (eqb t s) (sight_of s v.known) (Seen ih.spent.count ih.spent.left) ih.spent.is)) ih.spent;
    }

spent_gone : (lease time : ℕ) (count left : Option ℕ) → IsFew lease time left → lease < time → is_gone_by (Some (Seen count left)) ≡ true
spent_gone lease time count None h l = refl
spent_gone lease time count (Some left) h l = absurd (omega (arith, h, l))

silent_gone : (lease : ℕ) (calls : List Call) (w : Watch) (s : ℕ) → ComesTo lease calls w → IsSilent lease calls s → IsGone w s
silent_gone lease calls w s h silent =
    let it = there lease silent.since silent.first silent.before w s (subst (λ (cs : List Call). ComesTo lease cs w) silent.are h) silent.known silent.same in
    ap is_gone_by it.spent.is ∙ spent_gone lease (time_since lease silent.first silent.since) it.spent.count it.spent.left it.spent.few silent.long

pub tells_who_is_silent : TellsWhoIsSilent
tells_who_is_silent lease calls w s h = (gone_why lease calls s w.last (sight_of s w.known) (why lease calls w s h), silent_gone lease calls w s h)
