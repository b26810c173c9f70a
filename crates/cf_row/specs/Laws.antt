-- Laws of rows, of engines and of all sessions together.
use Rattle.std.specs.Prelude.{◌≡◌, ◌≢◌, ◌⊎◌, ℕ, ◌+◌, ◌<◌, List, [], ◌++◌, All, length}
use Rattle.cf_forms.specs.Plans.{Planned}
use Rattle.cf_row.specs.declared.entry.Entry.{Entry}
use Rattle.cf_row.specs.Rows.{BeginsWith, StandsAt, session_of}
use Rattle.cf_row.specs.Numbers.{AllFollow, AreSharedLast, HaveNoGaps, HaveOneEach}
use Rattle.cf_row.specs.Puts.{IsOnceOrNever, NoneStands, StandsOnce, pairs_of, stamped}
use Rattle.cf_row.specs.Engines.{Group, HaveOwnTokens, Puts, Runs}
use Rattle.cf_row.specs.Accounts.{Account, AllGiveAccount, AreOneHistory}

-- what an engine tells of a row makes the front longer that a session knows
abbrev pub ToldIsTrue : Type 0
ToldIsTrue = (row seen entries : List Entry) → BeginsWith row seen → StandsAt row (length seen) entries → BeginsWith row (seen ++ entries)

-- what stands stays, so what a session was told stays true
abbrev pub RowsOnlyGrow : Type 0
RowsOnlyGrow = (plan : Planned) (old new seen : List Entry) (asked : List Group) → Runs plan old asked new → BeginsWith old seen → BeginsWith new seen

-- no token of one session is another's, and none that is given later was given before
pub record TokensAreApart : Type 0 where
  pub sessions : (s t : ℕ) (put other : List Entry) → s ≢ t → All (λ (x : Entry). session_of x.token ≡ s) put → All (λ (x : Entry). session_of x.token ≡ t) other → NoneStands put other
  pub later : (next : ℕ) (put : List Entry) (words : List ℕ) → All (λ (x : Entry). x.token < next) put → NoneStands put (stamped next words)
  pub earlier : (next : ℕ) (put : List Entry) (words : List ℕ) → All (λ (x : Entry). x.token < next) put → NoneStands (stamped next words) put

-- a put that comes behind all that stands, where it stood once or never, stands once there
abbrev pub LandedPutsStandOnce : Type 0
LandedPutsStandOnce = (row put : List Entry) → 0 < length put → IsOnceOrNever row (length row) put → StandsOnce (row ++ put) (length row) put

-- whichever put an engine does, each put with tokens of its own stands once or never before and behind it
abbrev pub PutsKeepOnceOrNever : Type 0
PutsKeepOnceOrNever =
    (old new : List Entry) (g h : Group) → 0 < length g.put → Puts old h new → (h ≡ g) ⊎ NoneStands h.put g.put →
    IsOnceOrNever old (length g.by.seen) g.put → IsOnceOrNever new (length g.by.seen) g.put

-- a put that is asked for, once or often, stands once at its place or never anywhere, whatever was answered
abbrev pub PutsStandOnceOrNever : Type 0
PutsStandOnceOrNever =
    (plan : Planned) (asked : List Group) (row : List Entry) → Runs plan [] asked row → HaveOwnTokens asked →
    All (λ (g : Group). 0 < length g.put → IsOnceOrNever row (length g.by.seen) g.put) asked

-- where all follow the rule, no session has two numbers, none is two sessions' before all are taken, and where one is taken all lower ones are
pub record RuledNumbers (row : List (ℕ × ℕ)) : Type 0 where
  pub one_each : HaveOneEach row
  pub shared_last : AreSharedLast row
  pub no_gaps : HaveNoGaps row

abbrev pub NumbersAreRuled : Type 0
NumbersAreRuled = (row : List (ℕ × ℕ)) → AllFollow [] row → RuledNumbers row

-- whichever puts an engine was asked for, all that put something follow the rule
abbrev pub AllFollowTheRule : Type 0
AllFollowTheRule = (plan : Planned) (asked : List Group) (row : List Entry) → Runs plan [] asked row → AllFollow [] (pairs_of row)

-- ALL SESSIONS: whatever engine keeps the premises, whichever puts it was asked for, how often and how late, and whatever it answered, if
-- each session that put something gives account of what it has seen, all accounts and the row's words are one history.
abbrev pub RowsAreOneHistory : Type 0
RowsAreOneHistory =
    (plan : Planned) (asked : List Group) (row : List Entry) (accounts : List Account) →
    Runs plan [] asked row → AllGiveAccount plan row accounts → AreOneHistory plan row accounts
