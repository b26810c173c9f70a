-- One entry more.
use Rattle.std.proofs.Common.{◌≡◌, ◌∙◌, ℕ, zero, suc, ◌<◌, ◌≤◌, List, [], ◌∷◌, ◌++◌, length, refl, ap, sym, subst, arith, get_or, take}
use Rattle.std.specs.Prelude.{Some, None}
use Rattle.std.proofs.lemmas.List.{length-take-le, take_all}
use Rattle.cf_forms.specs.Plans.{attached_stage}
use Rattle.cf_model.specs.Events.{answered, attached_by, state_after, told_as}
use Rattle.cf_model.specs.States.{State}
use Rattle.cf_model.specs.declared.events.Event.{Event}
use Rattle.cf_model.specs.declared.events.Event.TheVariants.{Complete, Fail, FailAs, Cancel, Claim, Finish, Tick, Attach}
use Rattle.cf_model.specs.declared.events.Reply.TheVariants.{Attach as ToldAttach}
use Rattle.cf_model.specs.declared.replies.Attached.TheVariants.{StagesFull}
use Rattle.cf_model.specs.Ranges.{EventFits}
use Rattle.cf_model.specs.declared.events.Reply.{Reply}
use Rattle.cf_event.specs.Decoding.{event_of}
use Rattle.cf_ledger.specs.Ledgers.{Does, HasRoomFor, Ledger, LedgerRefuses, stages_of, state_of}
use Rattle.cf_ledger.specs.declared.faults.LedgerFault.TheVariants.{NoRoom}
use Rattle.cf_telling.specs.declared.tale.Entry.{Entry}
use Rattle.cf_ledger.specs.declared.faults.LedgerFault.{LedgerFault}
use Rattle.cf_telling.specs.Tales.{AreTold, AreToldOf, IsAdded, IsTold, NoGraphDoes, TellsOne, events_in, words_in}

pub told_more : (s : State) (es : List Entry) (e : Entry) → AreTold s es → IsTold (state_after s (events_in es)) e → AreTold s (es ++ e ∷ [])
told_more s [] e told is = (is, tt)
told_more s (d ∷ es) e told is = (told.0, told_more ((answered s d.event).1) es e told.1 is)

pub state_more : (s : State) (es : List Entry) (e : Entry) → state_after s (events_in (es ++ e ∷ [])) ≡ (answered (state_after s (events_in es)) e.event).1
state_more s [] e = refl
state_more s (d ∷ es) e = state_more ((answered s d.event).1) es e

pub words_more : (es : List Entry) (e : Entry) → words_in (es ++ e ∷ []) ≡ words_in es ++ e.word ∷ []
words_more [] e = refl
words_more (d ∷ es) e = ap (λ (ws : List ℕ). d.word ∷ ws) (words_more es e)

none_left : (room : ℕ) → ¬ (0 < room) → room ≡ 0
none_left zero never = refl
none_left (suc room) never = absurd (never (omega arith))

-- an event for which there is no room attaches a stage, and is told so
pub is_full : (s : State) (e : Event) → ¬ HasRoomFor s e → (ToldAttach StagesFull, s) ≡ answered s e
is_full s (Complete who i v) never = absurd (never tt)
is_full s (Fail who i code) never = absurd (never tt)
is_full s (FailAs who i failure) never = absurd (never tt)
is_full s (Cancel who i) never = absurd (never tt)
is_full s (Claim who i) never = absurd (never tt)
is_full s (Finish who i answer) never = absurd (never tt)
is_full s (Tick who now) never = absurd (never tt)
is_full s (Attach who form of function) never =
    sym (ap (λ room. told_as ToldAttach (attached_by room s (attached_stage form of function))) (none_left s.plan.room never))

-- the words are done, and are told so far
pub record HasTold (s : State) (words : List ℕ) (entries : List Entry) (now : State) : Type 0 where
  pub told : AreTold s entries
  pub are : words_in entries ≡ words
  pub left : now ≡ state_after s (events_in entries)

pub told_one : (s : State) (words : List ℕ) (word : ℕ) (old : List Entry) (before now : State) (new : List Entry) → HasTold s words old before → TellsOne word before old now new →
    HasTold s (words ++ word ∷ []) new now
told_one s words word old before now new h one =
    let e = one.entry in
    record {
      told = subst (AreTold s) (sym one.is) (told_more s old e h.told (subst (λ (t : State). IsTold t e) h.left one.told));
      are = ap words_in one.is ∙ words_more old e ∙ ap (λ (ws : List ℕ). ws ++ e.word ∷ []) h.are ∙ ap (λ w. words ++ w ∷ []) one.word_is;
      left = one.left ∙ ap (λ (t : State). (answered t e.event).1) h.left ∙ sym (state_more s old e) ∙ ap (λ (es : List Entry). state_after s (events_in es)) (sym one.is);
    }

count_of : (entries : List Entry) → length (words_in entries) ≡ length entries
count_of [] = refl
count_of (e ∷ es) = ap suc (count_of es)

-- what is told so far are the first words
pub told_first : (s : State) (words : List ℕ) (k : ℕ) (entries : List Entry) (now : State) (why : LedgerFault) → k ≤ length words → HasTold s (take k words) entries now →
    NoGraphDoes now (get_or words k 0) why → AreToldOf s words entries (Some why)
told_first s words k entries now why within h refuses =
    let count : length entries ≡ k = sym (count_of entries) ∙ ap length h.are ∙ length-take-le k words within in
    let there : NoGraphDoes (state_after s (events_in entries)) (get_or words k 0) why = subst (λ (t : State). NoGraphDoes t (get_or words k 0) why) h.left refuses in
    record {
      told = h.told;
      first = h.are ∙ ap (λ n. take n words) (sym count);
      all = λ e. absurd cc;
      stopped = subst (λ n. NoGraphDoes (state_after s (events_in entries)) (get_or words n 0) why) (sym count) there;
    }

pub told_all : (s : State) (words : List ℕ) (k : ℕ) (entries : List Entry) (now : State) → k ≡ length words → HasTold s (take k words) entries now → AreToldOf s words entries None
told_all s words k entries now end h =
    let whole : take k words ≡ words = ap (λ n. take n words) end ∙ take_all (length words) words (omega arith) in
    let count : length entries ≡ length words = sym (count_of entries) ∙ ap length (h.are ∙ whole) in
    record { told = h.told; first = h.are ∙ whole ∙ sym (ap (λ n. take n words) count ∙ take_all (length words) words (omega arith)); all = λ e. h.are ∙ whole; stopped = tt }

-- the entry of an event that a graph has answered
one_told : (word : ℕ) (event : Event) (reply : Reply) (s now : State) (old new : List Entry) → event_of word ≡ Some event → EventFits (length s.plan.stages) event → (reply, now) ≡ answered s event →
    IsAdded word event reply old new → TellsOne word s old now new
one_told word event reply s now old new read fits told added =
    let e = added.entry in
    let named = added.event_is in
    record {
      entry = e;
      is = added.is;
      word_is = added.word_is;
      told = record {
        read = ap event_of added.word_is ∙ read ∙ ap (λ (d : Event). Some d) (sym named);
        fits = subst (EventFits (length s.plan.stages)) (sym named) fits;
        reply = added.reply_is ∙ ap (λ p. p.0) told ∙ ap (λ (d : Event). (answered s d).0) (sym named);
      };
      left = ap (λ p. p.1) told ∙ ap (λ (d : Event). (answered s d).1) (sym named);
    }

pub one_done : (word : ℕ) (event : Event) (reply : Reply) (l m : Ledger) (old new : List Entry) → event_of word ≡ Some event → Does word l reply m → IsAdded word event reply old new →
    TellsOne word (state_of l) old (state_of m) new
one_done word event reply l m old new read does added =
    let there = does.read in
    let same : does.event ≡ event = cc in
    one_told word event reply (state_of l) (state_of m) old new read (subst (EventFits (stages_of l)) same does.taken.fits)
    (subst (λ (d : Event). (reply, state_of m) ≡ answered (state_of l) d) same does.told) added

pub one_full : (word : ℕ) (event : Event) (l : Ledger) (old new : List Entry) → event_of word ≡ Some event → LedgerRefuses (state_of l) word NoRoom → IsAdded word event (ToldAttach StagesFull) old new →
    TellsOne word (state_of l) old (state_of l) new
one_full word event l old new read (d, there, fits, never) added =
    let same : d ≡ event = cc in
    one_told word event (ToldAttach StagesFull) (state_of l) (state_of l) old new read (subst (EventFits (stages_of l)) same fits)
    (subst (λ (e : Event). (ToldAttach StagesFull, state_of l) ≡ answered (state_of l) e) same (is_full (state_of l) d never)) added
