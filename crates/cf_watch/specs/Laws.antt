-- What holds of a watch behind any calls.
use Rattle.std.specs.Prelude.{◌≡◌, ◌↔◌, ℕ, ◌≤◌, List, [], ◌∷◌, ◌++◌}
use Rattle.cf_watch.specs.Calls.{Answer, Call, IsSilent, TellsBeat, answers, notices, silences, time_since}
use Rattle.cf_watch.specs.Watches.{IsGone, Notices, TakesAnswer, Watch, forgotten, new_watch}

-- a call that went well
abbrev pub IsCall : Call → Watch → Watch → Type 0
IsCall (answers a) old new = TakesAnswer a.asked a.now a.beats old new
IsCall silences old new = new ≡ forgotten old
IsCall (notices session) old new = Notices session old new

-- a new watch comes to this by these calls, the last one first
abbrev pub ComesTo : ℕ → List Call → Watch → Type 0
ComesTo lease [] w = w ≡ new_watch lease
ComesTo lease (call ∷ calls) w = (before : Watch) × ComesTo lease calls before × IsCall call before w

-- whoever is told gone was silent for more than a lease, and whoever was silent so long is told gone
abbrev pub TellsWhoIsSilent : Type 0
TellsWhoIsSilent = (lease : ℕ) (calls : List Call) (w : Watch) (s : ℕ) → ComesTo lease calls w → IsGone w s ↔ IsSilent lease calls s

-- whose beat was told isn't told gone before more than a lease of time has counted since
abbrev pub SparesWhoBeats : Type 0
SparesWhoBeats =
    (lease : ℕ) (since : List Call) (a : Answer) (before : List Call) (w : Watch) (s : ℕ) → ComesTo lease (since ++ answers a ∷ before) w →
    TellsBeat s a before → time_since lease a since ≤ lease → ¬ IsGone w s
