-- What is new of a store's requests: looks at all that are open, and looks at what changed since a mark.
use Rattle.std.specs.Prelude.{◌≡◌, ◌⊎◌, ℕ, ◌<◌, ◌≤◌, Bool, true, false, ◌||◌, Option, Some, None, List, [], ◌∷◌}
use Rattle.cf_host.specs.declared.news.Look.{Look}
use Rattle.cf_host.specs.declared.news.Look.TheVariants.{Since, Whole}

-- the mark of the last answer, whether the next look is to be whole, which look is open, and when the next one is due
pub record News : Type 0 where
  pub mark : Option ℕ
  pub is_whole_due : Bool
  pub asked : Option Look
  pub due : ℕ

abbrev pub no_news : News
no_news = record { mark = None; is_whole_due = true; asked = None; due = 0 }

-- the look that is to be asked for
abbrev pub look_of : Bool → Option ℕ → Look
look_of true mark = Whole
look_of false None = Whole
look_of false (Some mark) = Since mark

abbrev pub is_whole : Option Look → Bool
is_whole None = false
is_whole (Some Whole) = true
is_whole (Some (Since mark)) = false

-- a look is asked for
abbrev pub asked_by : News → News
asked_by w = record w { is_whole_due = false; asked = Some (look_of w.is_whole_due w.mark) }

-- it is answered, up to this mark
abbrev pub answered_by : ℕ → ℕ → News → News
answered_by mark due w = record w { mark = Some mark; asked = None; due = due }

-- it isn't: a whole one is due again
abbrev pub unanswered_by : ℕ → News → News
unanswered_by due w = record w { is_whole_due = w.is_whole_due || is_whole w.asked; asked = None; due = due }

-- ---- laws

-- calls; lists of calls have the last one first
pub data Call : Type 0 where
  asks : Call
  answers : Look → ℕ → ℕ → Call
  stays : ℕ → Call
  wants : Call
  stirs : ℕ → Call

-- a call that may be made; an answer is to the look that is open
abbrev pub IsCall : Call → News → News → Type 0
IsCall asks old new = (old.asked ≡ None) × (new ≡ asked_by old)
IsCall (answers look mark due) old new = (old.asked ≡ Some look) × (new ≡ answered_by mark due old)
IsCall (stays due) old new = new ≡ unanswered_by due old
IsCall wants old new = new ≡ record old { is_whole_due = true }
IsCall (stirs due) old new = new ≡ record old { due = due }

abbrev pub ComesTo : List Call → News → Type 0
ComesTo [] w = w ≡ no_news
ComesTo (call ∷ calls) w = (before : News) × ComesTo calls before × IsCall call before w

-- a change with this number is among what an answer to this look tells, which has this mark
abbrev pub Covers : Look → ℕ → ℕ → Type 0
Covers Whole mark n = n ≤ mark
Covers (Since from) mark n = (from < n) × (n ≤ mark)

-- it is told by one of these answers
abbrev pub IsCovered : List Call → ℕ → Type 0
IsCovered [] n = ⊥
IsCovered (asks ∷ calls) n = IsCovered calls n
IsCovered (answers look mark due ∷ calls) n = Covers look mark n ⊎ IsCovered calls n
IsCovered (stays due ∷ calls) n = IsCovered calls n
IsCovered (wants ∷ calls) n = IsCovered calls n
IsCovered (stirs due ∷ calls) n = IsCovered calls n

-- whatever changed up to the mark that is known was told by an answer, however many looks stayed without one
abbrev pub NothingIsMissed : Type 0
NothingIsMissed = (calls : List Call) (w : News) (mark n : ℕ) → ComesTo calls w → w.mark ≡ Some mark → n ≤ mark → IsCovered calls n
