-- What is asked to be put fits.
use Rattle.std.proofs.Common.{◌≡◌, ℕ, ◌⊎◌, inl, inr, Bool, true, false, cond, nat_lt, Option, Some, None, List, [], ◌∷◌, length, refl, ap, sym, ◌∙◌, subst}
use Rattle.std.specs.Prelude.{slice_get}
use Rattle.std.proofs.lemmas.Bool.{ltb-true}
use Rattle.cf_forms.specs.declared.forms.Form.{Form}
use Rattle.cf_forms.specs.declared.forms.Of.{Of}
use Rattle.cf_forms.specs.Forms.{composes}
use Rattle.cf_row.specs.declared.entry.Entry.{Entry}
use Rattle.cf_row.specs.Rows.{Replica, words_in}
use Rattle.cf_row.proofs.Tokens.{stamped_words}
use Rattle.cf_notes.specs.declared.noted.Noted.{Noted}
use Rattle.cf_notes.specs.declared.wants.Want.{Want}
use Rattle.cf_due.specs.declared.acts.Act.{Act}
use Rattle.cf_due.specs.declared.acts.Act.TheVariants.{Complete, Fail, Cancel, Limit, Attach, Again}
use Rattle.cf_due.specs.declared.acts.Acting.{Acting}
use Rattle.cf_due.specs.declared.due.Due.{Due}
use Rattle.cf_due.specs.declared.due.Due.TheVariants.{Finish as FinishIsDue, Abandon as AbandonIsDue, Link as LinkIsDue, Cancel as CancelIsDue, Timer as TimerIsDue, Claim as ClaimIsDue}
use Rattle.cf_due.specs.Acts.{IsActing, IsAttaching}
use Rattle.cf_due.specs.Due.{FitBehind, word_in, words_of}
use Rattle.cf_part.specs.declared.question.Question.{Question}
use Rattle.cf_part.specs.declared.question.Question.TheVariants.{Put, Read}
use Rattle.cf_part.specs.Parts.{words_wanted}
use Rattle.cf_turn.specs.declared.planning.Putting.{Putting}
use Rattle.cf_turn.specs.declared.turn.Turn.TheVariants.{Ask}
use Rattle.cf_turn.specs.declared.wish.Wish.{Wish}
use Rattle.cf_turn.specs.Works.{Work}
use Rattle.cf_turn.specs.Turns.{Decides, Goes, Puts, putting_for, putting_of, wants_of, wants_with}
use Rattle.cf_turn.specs.Truth.{IsPutAgain, PutsFit}

-- ---- an act

alone : (r : Replica) (a : Acting) → a.second ≡ None → FitBehind r (a.first.word ∷ []) → FitBehind r (words_wanted (wants_with a.first a.second))
alone r a none h = subst (λ (o : Option Want). FitBehind r (words_wanted (wants_with a.first o))) (sym none) h

fit_attached : (r : Replica) (b : Bool) (form : Form) (of : Of) (function : Option ℕ) (a : Acting) → IsAttaching r b form of function a → FitBehind r (words_wanted (wants_with a.first a.second))
fit_attached r b form of None a h = alone r a h.alone (record { who = h.who; rule = h.rule; each = h.fits })
fit_attached r false form of (Some f) a h = alone r a h.alone (record { who = h.who; rule = h.rule; each = h.fits })
fit_attached r true form of (Some f) a h =
    subst (λ (o : Option Want). FitBehind r (words_wanted (wants_with a.first o))) (sym h.second) (record { who = h.who; rule = h.rule; each = h.fits })

fit_act : (r : Replica) (notes : List Noted) (act : Act) (a : Acting) → IsActing r notes act a → FitBehind r (words_wanted (wants_with a.first a.second))
fit_act r notes (Complete i) a h = alone r a h.alone (record { who = h.word.who; rule = h.word.rule; each = h.word.fits })
fit_act r notes (Fail i) a h = alone r a h.alone (record { who = h.word.who; rule = h.word.rule; each = h.word.fits })
fit_act r notes (Cancel i only_idle) a h = alone r a h.settles.alone (record { who = h.settles.word.who; rule = h.settles.word.rule; each = h.settles.word.fits })
fit_act r notes (Limit i moment gives) a h = alone r a h.alone (record { who = h.tick.who; rule = h.tick.rule; each = h.tick.fits })
fit_act r notes (Attach form of function) a h = fit_attached r (composes form) form of function a h
fit_act r notes (Again i) a h = alone r a h.attaches.alone (record { who = h.attaches.who; rule = h.attaches.rule; each = h.attaches.fits })

-- ---- what is due

two_words : (first : Want) (o : Option Want) → first.word ∷ word_in o ≡ words_wanted (wants_with first o)
two_words first None = refl
two_words first (Some want) = refl

due_words : (due : Due) → words_of due ≡ words_wanted (wants_of (putting_of due))
due_words (FinishIsDue f) = two_words f.finish f.claim
due_words (AbandonIsDue want) = refl
due_words (LinkIsDue want) = refl
due_words (CancelIsDue want) = refl
due_words (TimerIsDue want) = refl
due_words (ClaimIsDue want) = refl

-- ---- a put

put_words : (old new : Work) (p : Putting) (q : Question) → Puts old p q new → words_in new.part.row.put ≡ words_wanted (wants_of p)
put_words old new p q h =
    ap (λ (w : Work). words_in w.part.row.put) h.rest ∙ ap (λ (l : List Entry). words_in l) h.plans.row.put ∙ stamped_words old.part.row.next (words_wanted (wants_of p))

is_under_way : (b c d : Bool) (at seen : ℕ) → cond b None (cond c (Some (Put at)) (cond d (Some (Read at)) None)) ≡ Some (Put seen) → c ≡ true
is_under_way true c d at seen h = (let no : ⊥ = cc in absurd no)
is_under_way false true d at seen h = refl
is_under_way false false true at seen h = (let no : ⊥ = cc in absurd no)
is_under_way false false false at seen h = (let no : ⊥ = cc in absurd no)

pub puts_fit : PutsFit
puts_fit old new at seen h = by_goes h.goes
  where
    by_first : (o : Option Wish) → Decides o old at (Ask (Put seen)) new → IsPutAgain old new ⊎ FitBehind old.part.row.replica (words_in new.part.row.put)
    by_first None (inl (due, is, puts)) =
        inr (subst (FitBehind old.part.row.replica) (due_words due ∙ sym (put_words old new (putting_of due) (Put seen) puts)) is.fits)
    by_first None (inr close) = (let bad = close.asks in let no : ⊥ = cc in absurd no)
    by_first (Some wish) (a, does, puts) =
        inr (subst (FitBehind old.part.row.replica) (sym (put_words old new (putting_for a) (Put seen) puts)) (fit_act old.part.row.replica old.part.notes.stages wish.act a does))

    by_goes : Goes old at (Ask (Put seen)) new → IsPutAgain old new ⊎ FitBehind old.part.row.replica (words_in new.part.row.put)
    by_goes (inl (may, h)) = by_first (slice_get old.wishes 0) h
    by_goes (inr (may, (is, rest))) = inl (record {
      some = ltb-true 0 (length old.part.row.put) (is_under_way _ (nat_lt 0 (length old.part.row.put)) _ _ seen is);
      same = ap (λ (w : Work). w.part.row) rest;
    })
