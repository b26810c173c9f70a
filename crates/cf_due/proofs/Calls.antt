-- The claim of a stage, alone or behind a finish.
use Rattle.std.proofs.Common.{◌≡◌, ℕ, zero, suc, ◌+◌, ◌-◌, ◌<◌, ◌≤◌, ◌⊎◌, inl, inr, true, Option, Some, None, List, [], ◌∷◌, length, refl, sym, subst, arith}
use Rattle.std.specs.Prelude.{◌≢◌, slice_get, unwrap_or}
use Rattle.std.proofs.lemmas.Bool.{cases_lt}
use Rattle.cf_model.specs.declared.events.Event.{Event}
use Rattle.cf_model.specs.declared.events.Event.TheVariants.{Claim as Claims}
use Rattle.cf_event.specs.Words.{word_of}
use Rattle.cf_event.specs.Decoding.{event_of}
use Rattle.cf_ledger.specs.declared.step.Held.{Held}
use Rattle.cf_notes.specs.declared.noted.Noted.{Noted}
use Rattle.cf_notes.specs.declared.wants.Want.{Want}
use Rattle.cf_row.specs.Next.{Finishes, NextClaimsAreGranted, NoneToClaim}
use Rattle.cf_row.specs.Numbers.{FollowsRule}
use Rattle.cf_row.specs.Puts.{IsWordFor, attached_by, pairs_of}
use Rattle.cf_row.specs.Rows.{Replica, stages_of, state_of}
use Rattle.cf_due.specs.Claiming.{CanCall, ClaimsBehind, ClaimsNext, IsNextCall, IsPlain, NoneToCall, is_known}
use Rattle.cf_notes.specs.Noting.{function_of}

-- none is there below a stage which is the next that could be claimed
pub none_till : (r : Replica) (notes : List Noted) (ended : Option Held) (from to : ℕ) → NoneToCall r notes ended from → NoneToClaim r ended from to → NoneToCall r notes ended to
none_till r notes ended from to none free = λ k below can. split k below can (cases_lt k from)
  where
    split : (k : ℕ) → k < to → CanCall r notes ended k → (k < from) ⊎ (from ≤ k) → ⊥
    split k below can (inl lt) = none k lt can
    split k below can (inr le) = free k le below can.claim

-- nor up to that one, where its function isn't known
pub none_with : (r : Replica) (notes : List Noted) (ended : Option Held) (stage : ℕ) → NoneToCall r notes ended stage → is_known (function_of notes stage) ≢ true →
    NoneToCall r notes ended (stage + 1)
none_with r notes ended stage none unknown = λ k below can. split k below can (cases_lt k stage)
  where
    split : (k : ℕ) → k < stage + 1 → CanCall r notes ended k → (k < stage) ⊎ (stage ≤ k) → ⊥
    split k below can (inl lt) = none k lt can
    split k below can (inr le) = (let same : k ≡ stage = omega (arith, le, below) in unknown (subst (λ (i : ℕ). is_known (function_of notes i) ≡ true) same can.known))

-- a stage with an open claim is there
pub claimed_there : (claims : List (Option ℕ)) (i who : ℕ) → unwrap_or (slice_get claims i) None ≡ Some who → i < length claims
claimed_there [] i who is = cc
claimed_there (x ∷ claims) zero who is = omega arith
claimed_there (x ∷ claims) (suc i) who is = (let l = claimed_there claims i who is in omega (arith, l))

pub same_some : (m n : ℕ) → Some m ≡ Some n → m ≡ n
same_some m n e = cc

-- the word of a claim fits any graph that has the stage
claim_word : (who i w n room : ℕ) → who ≤ 63 → i ≤ 4095 → i < n → w ≡ word_of (Claims who i) → event_of w ≡ Some (Claims who i) → IsWordFor who n room w
claim_word who i w n room small few there word back = record {
  event = Claims who i;
  read = back;
  named = sym word;
  is = (small, few);
  mine = refl;
  fits = there;
  left = subst (λ (o : Option Event). attached_by o ≤ room) (sym back) (omega arith);
}

pub claims_next : (r : Replica) (notes : List Noted) (who i : ℕ) (want : Want) → NextClaimsAreGranted → FollowsRule (pairs_of r.seen) (r.session, who) → who ≤ 63 → i ≤ 4095 → i < stages_of r →
    IsNextCall r notes None i → want.word ≡ word_of (Claims who i) → event_of want.word ≡ Some (Claims who i) → IsPlain want → ClaimsNext r notes want
claims_next r notes who i want law rule small few there next word back plain = record {
  who = who;
  stage = i;
  rule = rule;
  next = next;
  is = word;
  fits = (claim_word who i want.word (stages_of r) (state_of r).plan.room small few there word back, tt);
  granted = law.alone r who i next.can.claim;
  plain = plain;
}

pub claims_behind : (r : Replica) (notes : List Noted) (held : Held) (finish i : ℕ) (want : Want) → NextClaimsAreGranted → (f : Finishes r held finish) → f.who ≤ 63 → i ≤ 4095 → i < stages_of r →
    IsNextCall r notes (Some held) i → want.word ≡ word_of (Claims f.who i) → event_of want.word ≡ Some (Claims f.who i) → IsPlain want → ClaimsBehind r notes held finish want
claims_behind r notes held finish i want law f small few there next word back plain = record {
  finishes = f;
  stage = i;
  next = next;
  is = word;
  fits = (f.fits.0, (claim_word f.who i want.word (stages_of r + attached_by (event_of finish)) ((state_of r).plan.room - attached_by (event_of finish)) small few (omega (arith, there)) word back, tt));
  granted = law.behind r held finish i f next.can.claim;
  plain = plain;
}
