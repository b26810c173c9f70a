-- What a claim changes.
use Rattle.std.proofs.Common.{◌≡◌, ◌≢◌, ℕ, ◌<◌, ◌∷◌, ◌∙◌, [], List, Option, Some, None, zero, suc, length, length-set, set, ap, sym, subst, refl, arith, inl, inr}
use Rattle.std.specs.Prelude.{slice_get, unwrap_or}
use Rattle.std.specs.Option.{option_map}
use Rattle.std.proofs.lemmas.Bool.Decides.{eqb_tells}
use Rattle.std.proofs.lemmas.List.Elements.{All-cons, All-nil}
use Rattle.cf_forms.specs.declared.forms.Args.{Args}
use Rattle.cf_model.specs.declared.events.Event.TheVariants.{Claim as Claims}
use Rattle.cf_model.specs.declared.events.Reply.{Reply}
use Rattle.cf_model.specs.declared.events.Reply.TheVariants.{Claim as ToldClaim}
use Rattle.cf_model.specs.declared.replies.Claimed.{Claimed}
use Rattle.cf_model.specs.declared.replies.Claimed.TheVariants as replies
use Rattle.cf_model.specs.declared.stage.Stage.{Stage}
use Rattle.cf_model.specs.declared.stage.Stage.TheVariants as stages
use Rattle.cf_model.specs.Events.{answered, claimed_by, claiming, told_as}
use Rattle.cf_model.specs.Graphs.{AreNews, stage_in}
use Rattle.cf_model.specs.Ranges.{EventFits}
use Rattle.cf_model.specs.States.{State, claim_at, stage_at}
use Rattle.cf_model.proofs.StateLemmas.{slice_get-set_other}
use Rattle.cf_event.specs.Decoding.{event_of}
use Rattle.cf_ledger.specs.Ledgers.{Does, Ledger, state_of}
use Rattle.cf_c_handles.specs.Ledgers.{AreWritten, as_stage, claimed_news, claimed_stages, news_in}
use Rattle.cf_c_handles.specs.declared.values.stage.CfNews.{CfNews}

-- the word of a claim is done by a claim
pub does_claim : (word : ℕ) (l now : Ledger) (told : Claimed) (who i : ℕ) → event_of word ≡ Some (Claims who i) → Does word l (ToldClaim told) now →
    (ToldClaim told, state_of now) ≡ told_as ToldClaim (claiming (state_of l) who i)
does_claim word l now told who i read d =
    let same : d.event ≡ Claims who i = ap (λ x. unwrap_or x d.event) (sym d.read ∙ read) in
    d.told ∙ ap (answered (state_of l)) same

-- and the stage is there
pub claim_there : (word : ℕ) (l now : Ledger) (told : Claimed) (who i : ℕ) → event_of word ≡ Some (Claims who i) → Does word l (ToldClaim told) now → i < length (state_of l).plan.stages
claim_there word l now told who i read d =
    subst (EventFits (length (state_of l).plan.stages)) (ap (λ x. unwrap_or x d.event) (sym d.read ∙ read)) d.taken.fits

there : {X : Type 0} (xs : List X) (i : ℕ) (y : X) → i < length xs → slice_get (set xs i y) i ≡ Some y
there [] i y l = absurd (omega (arith, l))
there (x ∷ xs) zero y l = refl
there (x ∷ xs) (suc i) y l = there xs i y (omega (arith, l))

none : (old new : List Stage) → new ≡ old → AreNews old new []
none old new same = record {
  rising = tt;
  differ = All-nil (λ i. stage_in new i ≢ stage_in old i);
  all = λ i other. absurd (other (ap (λ all. stage_in all i) same));
}

alone : (old new : List Stage) (i : ℕ) (args : Args) → i < length old → stage_in old i ≡ stages.Ready args → new ≡ set old i stages.Claimed → AreNews old new (i ∷ [])
alone old new i args l was written =
    let now : stage_in new i ≡ stages.Claimed = ap (λ all. stage_in all i) written ∙ ap (λ x. unwrap_or x stages.Pending) (there old i stages.Claimed l) in
    record {
      rising = (All-nil (λ later. i < later), tt);
      differ = All-cons (λ j. stage_in new j ≢ stage_in old j) i [] (λ same. let wrong : stages.Claimed ≡ stages.Ready args = sym now ∙ same ∙ was in cc) (All-nil (λ j. stage_in new j ≢ stage_in old j));
      all = λ j other. elim (eqb_tells j i) [
        | inl s ↦ (zero, omega arith, sym s.1)
        | inr s ↦ absurd (other (ap (λ all. stage_in all j) written ∙ ap (λ x. unwrap_or x stages.Pending) (slice_get-set_other old i j stages.Claimed s.1)))
      ];
    }

-- what a claim is told, by its reply
abbrev claimed_in : Claimed → Reply → Claimed
claimed_in other (ToldClaim told) = told
claimed_in other reply = other

-- it changes its own stage if it is granted, and else none
module _ (s s' : State) (told : Claimed) (who i : ℕ) (l : i < length s.stages) where
  abbrev Claiming : Stage → Type 0
  Claiming st = (ToldClaim told, s') ≡ told_as ToldClaim (claimed_by st s who i)

  changed_as : (other : Claimed) → told ≡ other → AreNews s.stages s'.stages (claimed_stages other i) → AreNews s.stages s'.stages (claimed_stages told i)
  changed_as other is news = subst (λ c. AreNews s.stages s'.stages (claimed_stages c i)) (sym is) news

  pub claim_moves : (st : Stage) → st ≡ stage_at s i → Claiming st → AreNews s.stages s'.stages (claimed_stages told i)
  claim_moves (stages.Ready args) is e =
      changed_as (replies.Granted args) (ap (λ (p : Reply × State). claimed_in told p.0) e) (alone s.stages s'.stages i args l (sym is) (ap (λ (p : Reply × State). p.1.stages) e))
  claim_moves stages.Pending is e =
      changed_as replies.NotReady (ap (λ (p : Reply × State). claimed_in told p.0) e) (none s.stages s'.stages (ap (λ (p : Reply × State). p.1.stages) e))
  claim_moves stages.Claimed is e =
      changed_as replies.Taken (ap (λ (p : Reply × State). claimed_in told p.0) e) (none s.stages s'.stages (ap (λ (p : Reply × State). p.1.stages) e))
  claim_moves (stages.Linked j) is e =
      changed_as replies.Taken (ap (λ (p : Reply × State). claimed_in told p.0) e) (none s.stages s'.stages (ap (λ (p : Reply × State). p.1.stages) e))
  claim_moves (stages.Settled o) is e =
      changed_as replies.Settled (ap (λ (p : Reply × State). claimed_in told p.0) e) (none s.stages s'.stages (ap (λ (p : Reply × State). p.1.stages) e))

abbrev shown : ℕ → Stage → Option ℕ → CfNews
shown i st who = record { stage = i; now = as_stage st who }

-- and that is what it is then
granted : (st : Stage) (s s' : State) (args : Args) (who i : ℕ) → i < length s.stages → i < length s.claims →
    (ToldClaim (replies.Granted args), s') ≡ told_as ToldClaim (claimed_by st s who i) → news_in s' i ≡ claimed_news who i
granted (stages.Ready a) s s' args who i l lc e =
    let now : stage_in s'.stages i ≡ stages.Claimed =
    ap (λ (p : Reply × State). stage_in p.1.stages i) e ∙ ap (λ x. unwrap_or x stages.Pending) (there s.stages i stages.Claimed l) in
    let by : claim_at s' i ≡ Some who =
    ap (λ (p : Reply × State). claim_at p.1 i) e ∙ ap (λ x. unwrap_or x None) (there s.claims i (Some who) lc) in
    ap (λ st. shown i st (claim_at s' i)) now ∙ ap (shown i stages.Claimed) by
granted stages.Pending s s' args who i l lc e = absurd (let wrong : replies.Granted args ≡ replies.NotReady = ap (λ (p : Reply × State). claimed_in (replies.Granted args) p.0) e in cc)
granted stages.Claimed s s' args who i l lc e = absurd (let wrong : replies.Granted args ≡ replies.Taken = ap (λ (p : Reply × State). claimed_in (replies.Granted args) p.0) e in cc)
granted (stages.Linked j) s s' args who i l lc e = absurd (let wrong : replies.Granted args ≡ replies.Taken = ap (λ (p : Reply × State). claimed_in (replies.Granted args) p.0) e in cc)
granted (stages.Settled o) s s' args who i l lc e = absurd (let wrong : replies.Granted args ≡ replies.Settled = ap (λ (p : Reply × State). claimed_in (replies.Granted args) p.0) e in cc)

-- so what is written of it is what it is
pub claim_written : (told : Claimed) (s s' : State) (who i : ℕ) (old new : List CfNews) → i < length s.stages → i < length s.claims →
    (ToldClaim told, s') ≡ told_as ToldClaim (claiming s who i) →
    AreWritten (claimed_news who) (claimed_stages told i) old new → AreWritten (news_in s') (claimed_stages told i) old new
claim_written (replies.Granted args) s s' who i old new l lc e w = record { reach = w.reach; given = first; kept = w.kept }
  where
    first : (k : ℕ) → k < 1 → k < length old → slice_get new k ≡ option_map (news_in s') (slice_get (i ∷ []) k)
    first zero few reach = w.given zero few reach ∙ ap (λ x. Some x) (sym (granted (stage_at s i) s s' args who i l lc e))
    first (suc k) few reach = absurd (omega (arith, few))
claim_written replies.Settled s s' who i old new l lc e w = record { reach = w.reach; given = λ k few reach. absurd (omega (arith, few)); kept = w.kept }
claim_written replies.Taken s s' who i old new l lc e w = record { reach = w.reach; given = λ k few reach. absurd (omega (arith, few)); kept = w.kept }
claim_written replies.NotReady s s' who i old new l lc e w = record { reach = w.reach; given = λ k few reach. absurd (omega (arith, few)); kept = w.kept }

-- ---- how it is written

pub first_written : (from : ℕ → CfNews) (i : ℕ) (old : List CfNews) (x : CfNews) → 0 < length old → x ≡ from i → AreWritten from (i ∷ []) old (set old 0 x)
first_written from i old x l is = record {
  reach = length-set old 0 x;
  given = λ k few reach. first k few;
  kept = λ k past. slice_get-set_other old 0 k x (λ e. (let at : k ≡ 0 = e in absurd (omega (arith, past, at))));
}
  where
    first : (k : ℕ) → k < 1 → slice_get (set old 0 x) k ≡ option_map from (slice_get (i ∷ []) k)
    first zero few = there old 0 x l ∙ ap (λ y. Some y) is
    first (suc k) few = absurd (omega (arith, few))

pub unreached : (from : ℕ → CfNews) (i : ℕ) (old : List CfNews) → length old ≡ 0 → AreWritten from (i ∷ []) old old
unreached from i old none = record { reach = refl; given = λ k few reach. absurd (omega (arith, none, reach)); kept = λ k past. refl }

pub unwritten : (from : ℕ → CfNews) (old : List CfNews) → AreWritten from [] old old
unwritten from old = record { reach = refl; given = λ k few reach. absurd (omega (arith, few)); kept = λ k past. refl }
