-- Who beats isn't gone.
use Rattle.std.proofs.Common.{◌≡◌, ℕ, ◌+◌, ◌≤◌, Bool, true, false, cond, eqb, Option, Some, None, List, [], ◌∷◌, ◌++◌, refl, ap, sym, subst, ◌∙◌, inl, inr, arith}
use Rattle.std.specs.Prelude.{◌⊎◌}
use Rattle.std.proofs.lemmas.Bool.Decides.{eqb_tells, leb_tells}
use Rattle.cf_watch.specs.Calls.{Answer, Call, TellsBeat, answers, count_in, last_count, last_since, notices, silences, span, time_since, told_or}
use Rattle.cf_watch.specs.Laws.{ComesTo, SparesWhoBeats}
use Rattle.cf_watch.specs.Watches.{Watch, is_gone_by, is_news, known_after, known_noticed, left_of, sight_of, span_from}
use Rattle.cf_watch.specs.declared.sight.Sight.{Sight}
use Rattle.cf_watch.specs.declared.sight.Sight.TheVariants.{Noticed, Seen}
use Rattle.cf_watch.proofs.Silence.{lease_is}

-- ---- the count that is kept was told last

abbrev IsCounted : Option ℕ → Option Sight → Type 0
IsCounted last None = last ≡ None
IsCounted last (Some Noticed) = last ≡ None
IsCounted last (Some (Seen count left)) = count ≡ last

counted_answered : (lease time : ℕ) (told last : Option ℕ) (o : Option Sight) → IsCounted last o → IsCounted (told_or told last) (known_after lease time told o)
counted_answered lease time None last None h = h
counted_answered lease time (Some n) last None h = refl
counted_answered lease time None last (Some Noticed) h = sym h
counted_answered lease time (Some n) last (Some Noticed) h = refl
counted_answered lease time None last (Some (Seen count left)) h = h
counted_answered lease time (Some n) last (Some (Seen None left)) h = refl
counted_answered lease time (Some n) last (Some (Seen (Some c) left)) h = elim (eqb_tells c n) [
  | inl p ↦ rw p.0 (ap Some p.1)
  | inr p ↦ rw p.0 refl
]

counted_noticed : (is_it : Bool) (last : Option ℕ) (o : Option Sight) → IsCounted last o → IsCounted last (known_noticed is_it o)
counted_noticed is_it last (Some x) h = h
counted_noticed true last None h = h
counted_noticed false last None h = h

counted : (lease : ℕ) (calls : List Call) (w : Watch) (s : ℕ) → ComesTo lease calls w → IsCounted (last_count s calls) (sight_of s w.known)
counted lease [] w s h = subst (λ (v : Watch). IsCounted None (sight_of s v.known)) (sym h) refl
counted lease (answers a ∷ calls) w s (v, before, call) =
    subst (IsCounted (told_or (count_in s a.beats) (last_count s calls))) (sym (call.known s))
    (counted_answered v.lease (span_from v.lease v.last a.asked) (count_in s a.beats) (last_count s calls) (sight_of s v.known) (counted lease calls v s before))
counted lease (silences ∷ calls) w s (v, before, call) = subst (λ (u : Watch). IsCounted None (sight_of s u.known)) (sym call) refl
counted lease (notices t ∷ calls) w s (v, before, call) =
    subst (IsCounted (last_count s calls)) (sym (call.known s)) (counted_noticed (eqb t s) (last_count s calls) (sight_of s v.known) (counted lease calls v s before))

-- ---- enough is left of a lease

-- no more is taken from a session's lease than this time
abbrev IsAmple : ℕ → ℕ → Option Sight → Type 0
IsAmple lease time None = Unit {0}
IsAmple lease time (Some Noticed) = Unit {0}
IsAmple lease time (Some (Seen count None)) = ⊥
IsAmple lease time (Some (Seen count (Some left))) = lease ≤ left + time

ample_first : (lease time : ℕ) (told last : Option ℕ) (o : Option Sight) → IsCounted last o → (told ≡ None → ⊥) → (told ≡ last → ⊥) → IsAmple lease 0 (known_after lease time told o)
ample_first lease time None last o h some other = absurd (some refl)
ample_first lease time (Some n) last None h some other = omega arith
ample_first lease time (Some n) last (Some Noticed) h some other = omega arith
ample_first lease time (Some n) last (Some (Seen None left)) h some other = omega arith
ample_first lease time (Some n) last (Some (Seen (Some c) left)) h some other = elim (eqb_tells c n) [
  | inl p ↦ absurd (other (ap Some (sym p.1) ∙ h))
  | inr p ↦ rw p.0 (omega arith)
]

ample_seen : (news : Bool) (lease time taken more : ℕ) (told count : Option ℕ) (left : ℕ) → taken ≤ more → more + time ≤ lease → lease ≤ left + time →
    IsAmple lease (more + time) (Some (cond news (Seen told (Some lease)) (Seen count (left_of (Some left) taken))))
ample_seen true lease time taken more told count left few all h = omega arith
ample_seen false lease time taken more told count left few all h = elim (leb_tells taken left) [
  | inl p ↦ rw p.0 (let l = p.1 in omega (arith, few, all, h, l))
  | inr p ↦ absurd (let l = p.1 in omega (arith, few, all, h, l))
]

ample_answered : (lease time taken more : ℕ) (told : Option ℕ) (o : Option Sight) → taken ≤ more → more + time ≤ lease → IsAmple lease time o →
    IsAmple lease (more + time) (known_after lease taken told o)
ample_answered lease time taken more None None few all h = tt
ample_answered lease time taken more (Some n) None few all h = omega arith
ample_answered lease time taken more told (Some Noticed) few all h = omega arith
ample_answered lease time taken more told (Some (Seen count None)) few all h = absurd h
ample_answered lease time taken more told (Some (Seen count (Some left))) few all h = ample_seen (is_news count told) lease time taken more told count left few all h

ample_noticed : (is_it : Bool) (lease time : ℕ) (o : Option Sight) → IsAmple lease time o → IsAmple lease time (known_noticed is_it o)
ample_noticed is_it lease time (Some x) h = h
ample_noticed true lease time None h = tt
ample_noticed false lease time None h = tt

-- since an answer that told of a beat: where the store has answered since a silence, it answered last at this moment
record IsSpared (lease : ℕ) (a : Answer) (since : List Call) (s : ℕ) (w : Watch) : Type 0 where
  at : (w.last ≡ None) ⊎ (w.last ≡ Some (last_since a since).now)
  ample : IsAmple lease (time_since lease a since) (sight_of s w.known)

taken_few : (lease now asked : ℕ) (last : Option ℕ) → (last ≡ None) ⊎ (last ≡ Some now) → span_from lease last asked ≤ span lease now asked
taken_few lease now asked last h = elim h [
  | inl none ↦ subst (λ (o : Option ℕ). span_from lease o asked ≤ span lease now asked) (sym none) (omega arith)
  | inr at ↦ subst (λ (o : Option ℕ). span_from lease o asked ≤ span lease now asked) (sym at) (omega arith)
]

spared : (lease : ℕ) (since : List Call) (a : Answer) (before : List Call) (w : Watch) (s : ℕ) → ComesTo lease (since ++ answers a ∷ before) w →
    TellsBeat s a before → time_since lease a since ≤ lease → IsSpared lease a since s w
spared lease [] a before w s (v, earlier, call) beat few = record {
  at = inr call.last;
  ample = subst (IsAmple lease 0) (sym (call.known s))
      (subst (λ (l : ℕ). IsAmple l 0 (known_after v.lease (span_from v.lease v.last a.asked) (count_in s a.beats) (sight_of s v.known))) (lease_is lease before v earlier)
      (ample_first v.lease (span_from v.lease v.last a.asked) (count_in s a.beats) (last_count s before) (sight_of s v.known) (counted lease before v s earlier) beat.some beat.other));
}
spared lease (answers b ∷ since) a before w s (v, earlier, call) beat few =
    let now = (last_since a since).now in
    let more = span lease now b.asked in
    let time = time_since lease a since in
    let ih = spared lease since a before v s earlier beat (let f : more + time ≤ lease = few in omega (arith, f)) in
    record {
      at = inr call.last;
      ample = subst (IsAmple lease (more + time)) (sym (call.known s))
          (subst (λ (l : ℕ). IsAmple lease (more + time) (known_after l (span_from l v.last b.asked) (count_in s b.beats) (sight_of s v.known))) (sym (lease_is lease (since ++ answers a ∷ before) v earlier))
          (ample_answered lease time (span_from lease v.last b.asked) more (count_in s b.beats) (sight_of s v.known) (taken_few lease now b.asked v.last ih.at) few ih.ample));
    }
spared lease (silences ∷ since) a before w s (v, earlier, call) beat few = subst (IsSpared lease a (silences ∷ since) s) (sym call) (record { at = inl refl; ample = tt })
spared lease (notices t ∷ since) a before w s (v, earlier, call) beat few =
    let ih = spared lease since a before v s earlier beat few in
    record {
      at = elim ih.at [ inl none ↦ inl (call.last ∙ none) | inr it ↦ inr (call.last ∙ it) ];
      ample = subst (IsAmple lease (time_since lease a since)) (sym (call.known s)) (ample_noticed (eqb t s) lease (time_since lease a since) (sight_of s v.known) ih.ample);
    }

ample_there : (lease time : ℕ) (o : Option Sight) → IsAmple lease time o → is_gone_by o ≡ true → ⊥
ample_there lease time None h g = cc
ample_there lease time (Some Noticed) h g = cc
ample_there lease time (Some (Seen count None)) h g = h
ample_there lease time (Some (Seen count (Some left))) h g = cc

pub spares_who_beats : SparesWhoBeats
spares_who_beats lease since a before w s h beat few gone = ample_there lease (time_since lease a since) (sight_of s w.known) (spared lease since a before w s h beat few).ample gone
