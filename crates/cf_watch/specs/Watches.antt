-- What a watch keeps of sessions, and how each call changes it.
use Rattle.std.specs.Prelude.{◌≡◌, ℕ, ◌-◌, Bool, true, false, Option, Some, None, List, [], ◌∷◌, cond, eqb, leb, not}
use Rattle.cf_watch.specs.Calls.{count_in, span}
use Rattle.cf_watch.specs.declared.beat.Beat.{Beat}
use Rattle.cf_watch.specs.declared.sight.Known.{Known}
use Rattle.cf_watch.specs.declared.sight.Sight.{Sight}
use Rattle.cf_watch.specs.declared.sight.Sight.TheVariants.{Noticed, Seen}

-- the lease, when the store answered last, and what is known of which sessions
pub record Watch : Type 0 where
  pub lease : ℕ
  pub last : Option ℕ
  pub known : List Known

abbrev pub new_watch : ℕ → Watch
new_watch lease = record { lease = lease; last = None; known = [] }

-- what is known of a session
abbrev pub sight_of : ℕ → List Known → Option Sight
sight_of s [] = None
sight_of s (k ∷ ks) = cond (eqb k.session s) (Some k.sight) (sight_of s ks)

abbrev pub is_gone_by : Option Sight → Bool
is_gone_by None = false
is_gone_by (Some Noticed) = false
is_gone_by (Some (Seen count (Some left))) = false
is_gone_by (Some (Seen count None)) = true

-- nothing is left of a session's lease
abbrev pub IsGone : Watch → ℕ → Type 0
IsGone w s = is_gone_by (sight_of s w.known) ≡ true

-- ---- an answer

-- what counts up to a question, where the store has answered before
abbrev pub span_from : ℕ → Option ℕ → ℕ → ℕ
span_from lease None asked = 0
span_from lease (Some last) asked = span lease last asked

-- what is left of a lease behind this time, None if that is more
abbrev pub left_of : Option ℕ → ℕ → Option ℕ
left_of None time = None
left_of (Some left) time = cond (leb time left) (Some (left - time)) None

-- whether an answer tells another count
abbrev pub is_news : Option ℕ → Option ℕ → Bool
is_news count None = false
is_news None (Some n) = true
is_news (Some c) (Some n) = not (eqb c n)

-- what is known behind an answer that tells this count, and before which so much time counts
abbrev pub sight_after : ℕ → ℕ → Option ℕ → Sight → Sight
sight_after lease time told Noticed = Seen told (Some lease)
sight_after lease time told (Seen count left) = cond (is_news count told) (Seen told (Some lease)) (Seen count (left_of left time))

-- the same of a session of which nothing may be known
abbrev pub known_after : ℕ → ℕ → Option ℕ → Option Sight → Option Sight
known_after lease time told (Some sight) = Some (sight_after lease time told sight)
known_after lease time None None = None
known_after lease time (Some n) None = Some (Seen (Some n) (Some lease))

pub record TakesAnswer (asked now : ℕ) (beats : List Beat) (old new : Watch) : Type 0 where
  pub lease : new.lease ≡ old.lease
  pub last : new.last ≡ Some now
  pub known : (s : ℕ) → sight_of s new.known ≡ known_after old.lease (span_from old.lease old.last asked) (count_in s beats) (sight_of s old.known)

-- the same of one of those that are known
abbrev pub looked_at : ℕ → ℕ → List Beat → Known → Known
looked_at lease time beats k = record { session = k.session; sight = sight_after lease time (count_in k.session beats) k.sight }

-- one of which nothing was known is known by this count
abbrev pub known_met : ℕ → Option ℕ → Option Sight → Option Sight
known_met lease told (Some sight) = Some sight
known_met lease None None = None
known_met lease (Some n) None = Some (Seen (Some n) (Some lease))

abbrev pub AreMet : ℕ → List Beat → List Known → List Known → Type 0
AreMet lease beats old new = (s : ℕ) → sight_of s new ≡ known_met lease (count_in s beats) (sight_of s old)

-- ---- the other calls

abbrev pub forgotten : Watch → Watch
forgotten w = new_watch w.lease

abbrev pub known_noticed : Bool → Option Sight → Option Sight
known_noticed is_it (Some sight) = Some sight
known_noticed is_it None = cond is_it (Some Noticed) None

pub record Notices (session : ℕ) (old new : Watch) : Type 0 where
  pub lease : new.lease ≡ old.lease
  pub last : new.last ≡ old.last
  pub known : (s : ℕ) → sight_of s new.known ≡ known_noticed (eqb session s) (sight_of s old.known)
