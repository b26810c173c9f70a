-- What each call of a process does to all requests.
use Rattle.std.proofs.Common.{◌≡◌, ◌≢◌, ℕ, zero, suc, ◌<◌, ◌≤◌, inl, inr, Bool, true, false, cond, not, max, Option, Some, None, List, [], ◌∷◌, ◌++◌, map, refl, ap, sym, ◌∙◌, subst, arith, length, length-append, set}
use Rattle.std.specs.Prelude.{◌||◌, slice_get}
use Rattle.std.proofs.lemmas.Bool.{cases_lt}
use Rattle.std.proofs.lemmas.Bool.Decides.{eqb_tells}
use Rattle.std.proofs.lemmas.Option.{slice_get_within}
use Rattle.cf_model.proofs.StateLemmas.{slice_get-set_other}
use Rattle.cf_forms.proofs.ListLemmas.{slice_get-front, slice_get-seam}
use Rattle.cf_part.specs.Parts.{is_waited}
use Rattle.cf_turn.specs.declared.turn.Turn.{Turn}
use Rattle.cf_turn.specs.Rows.{IsCall as IsCallOfWork}
use Rattle.cf_turn.specs.Rows.IsCall.{hears as HearsOf, reads_again as ReadsAgainOf}
use Rattle.cf_turn.specs.Turns.{Moment, Rests, Turns}
use Rattle.cf_turn.specs.Works.{Work}
use Rattle.cf_host.specs.declared.request.Request.{Request}
use Rattle.cf_host.specs.declared.requests.Length.{Length}
use Rattle.cf_host.specs.Hosts.{AllRest, FirstTurns, RestsIn}
use Rattle.cf_host.specs.Requests.{Follows, Hears, HearsAll, NoneAt, fresh, hears, hears_in, is_told, looked_for, missed, missed_in, read_again, told_length}
use Rattle.cf_host.specs.Requests.Follows.{known as FollowsKnown, added as FollowsAdded}
use Rattle.cf_host.specs.Requests.Hears.{known as HearsKnown, added as HearsAdded, passed as HearsPassed}
use Rattle.cf_host.proofs.Worked.{AreApart, Carries, Comes, Effect, Kept, Moves, from, goes, kept_more, stays, taken}

pub get_set : (xs : List Request) (i : ℕ) (y : Request) → i < length xs → slice_get (set xs i y) i ≡ Some y
get_set [] i y there = absurd (omega (arith, there))
get_set (x ∷ xs) zero y there = refl
get_set (x ∷ xs) (suc i) y there = get_set xs i y (omega (arith, there))

pub get_some : (xs : List Request) (i : ℕ) → i < length xs → (x : Request) × (slice_get xs i ≡ Some x)
get_some [] i there = absurd (omega (arith, there))
get_some (x ∷ xs) zero there = (x, refl)
get_some (x ∷ xs) (suc i) there = get_some xs i (omega (arith, there))

pub same_some : (x y : Request) → Some x ≡ Some y → x ≡ y
same_some x y e = cc

-- none is forgotten
kept_by : {session : ℕ} {still : ℕ → Type 0} {does : ℕ → Work → Work → Type 0} → (old : List Request) (n k : ℕ) (r s : Request) → slice_get old k ≡ Some r → Comes session still does old k s → s.number ≢ n → r.number ≢ n
kept_by old n k r s at (from b bt named moves) other e =
    let is : b ≡ r = same_some b r (sym bt ∙ at) in
    other (named ∙ ap (λ (x : Request). x.number) is ∙ e)
kept_by old n k r s at (taken place work none) other e = let low = slice_get_within old k r at in absurd (omega (arith, low, place))

keeps_from : {session : ℕ} {still : ℕ → Type 0} {does : ℕ → Work → Work → Type 0} → (old fresh : List Request) → length old ≤ length fresh → ((k : ℕ) (r : Request) → slice_get fresh k ≡ Some r → Comes session still does old k r) →
    (n : ℕ) → NoneAt n (length fresh) fresh → NoneAt n (length old) old
keeps_from old fresh more comes n none k r low at =
    let it = get_some fresh k (omega (arith, low, more)) in
    kept_by old n k r it.0 at (comes k it.0 it.1) (none k it.0 (omega (arith, low, more)) it.1)

pub same_effect : {session : ℕ} {still : ℕ → Type 0} {does : ℕ → Work → Work → Type 0} → (requests : List Request) → ((n : ℕ) → still n) → Effect session still does requests requests
same_effect requests quiet = record { comes = λ place r at. from r at refl (stays refl (quiet r.number)); keeps = λ n h. h; absent = λ n h. quiet n }

-- ---- one request is changed

pub length_set : (xs : List Request) (i : ℕ) (y : Request) → length (set xs i y) ≡ length xs
length_set [] i y = refl
length_set (x ∷ xs) zero y = refl
length_set (x ∷ xs) (suc i) y = ap suc (length_set xs i y)

comes_set : {session : ℕ} {still : ℕ → Type 0} {does : ℕ → Work → Work → Type 0} → (old : List Request) (place : ℕ) (before after : Request) → ((n : ℕ) → still n) → slice_get old place ≡ Some before → after.number ≡ before.number →
    Moves session (still before.number) (does before.number) before.work after.work → (k : ℕ) (r : Request) → slice_get (set old place after) k ≡ Some r → Comes session still does old k r
comes_set {session} {still} {does} old place before after quiet at named moves k r there = elim (eqb_tells k place) [
  | inl p ↦
      let is : after ≡ r = same_some after r (sym (get_set old place after (slice_get_within old place before at)) ∙ ap (λ (i : ℕ). slice_get (set old place after) i) (sym p.1) ∙ there) in
      subst (λ (x : Request). Comes session still does old k x) is (from before (ap (λ (i : ℕ). slice_get old i) p.1 ∙ at) named moves)
  | inr p ↦ from r (sym (slice_get-set_other old place k after p.1) ∙ there) refl (stays refl (quiet r.number))
]

pub set_effect : {session : ℕ} {still : ℕ → Type 0} {does : ℕ → Work → Work → Type 0} → (old : List Request) (place : ℕ) (before after : Request) → ((n : ℕ) → still n) → slice_get old place ≡ Some before → after.number ≡ before.number →
    Moves session (still before.number) (does before.number) before.work after.work → Effect session still does old (set old place after)
set_effect old place before after quiet at named moves =
    let comes = comes_set old place before after quiet at named moves in
    let same = length_set old place after in
    record { comes = comes; keeps = keeps_from old (set old place after) (omega (arith, same)) comes; absent = λ n h. quiet n }

-- ---- one is taken up

comes_added : {session : ℕ} {still : ℕ → Type 0} {does : ℕ → Work → Work → Type 0} → (old : List Request) (number words : ℕ) → ((n : ℕ) → still n) → NoneAt number (length old) old → (k : ℕ) (r : Request) → slice_get (old ++ fresh number words ∷ []) k ≡ Some r →
    Comes session still does old k r
comes_added {session} {still} {does} old number words quiet none k r there = elim (eqb_tells k (length old)) [
  | inl p ↦
      let is : fresh number words ≡ r = same_some (fresh number words) r (sym (slice_get-seam old (fresh number words) []) ∙ ap (λ (i : ℕ). slice_get (old ++ fresh number words ∷ []) i) (sym p.1) ∙ there) in
      subst (λ (x : Request). Comes session still does old k x) is (taken p.1 refl none)
  | inr p ↦
      let within = slice_get_within (old ++ fresh number words ∷ []) k r there in
      let count = length-append old (fresh number words ∷ []) in
      let other = p.1 in
      let low : k < length old = omega (arith, within, count, other) in
      from r (sym (slice_get-front old (fresh number words ∷ []) k low) ∙ there) refl (stays refl (quiet r.number))
]

pub added_effect : {session : ℕ} {still : ℕ → Type 0} {does : ℕ → Work → Work → Type 0} → (old : List Request) (number words : ℕ) → ((n : ℕ) → still n) → NoneAt number (length old) old → Effect session still does old (old ++ fresh number words ∷ [])
added_effect old number words quiet none =
    let comes = comes_added old number words quiet none in
    let count = length-append old (fresh number words ∷ []) in
    record { comes = comes; keeps = keeps_from old (old ++ fresh number words ∷ []) (omega (arith, count)) comes; absent = λ n h. quiet n }

pub follows_effect : {session : ℕ} {still : ℕ → Type 0} {does : ℕ → Work → Work → Type 0} → (number : ℕ) (old after : List Request) → ((n : ℕ) → still n) → Follows number old after → Effect session still does old after
follows_effect {session} {still} {does} number old after quiet (FollowsKnown place at is) = subst (Effect session still does old) (sym is) (same_effect old quiet)
follows_effect {session} {still} {does} number old after quiet (FollowsAdded none is) = subst (Effect session still does old) (sym is) (added_effect old number 0 quiet none)

-- ---- words

-- nothing is said of a request whose work isn't changed; and else it was told of so many words, or is to be read
abbrev pub Anyhow : ℕ → Type 0
Anyhow n = Unit {0}

pub record Heard (n : ℕ) (w v : Work) : Type 0 where
  pub call : IsCallOfWork w None v
  pub words : ℕ
  pub is_stale : Bool
  pub is : v ≡ record w { part = record w.part { words = words; is_stale = is_stale } }

moves_hears : {session : ℕ} → (n words : ℕ) (work : Option Work) → Moves session (Anyhow n) (Heard n) work (hears_in words work)
moves_hears n words None = stays refl tt
moves_hears n words (Some w) = goes w (told_length words w) refl refl (record { call = HearsOf words refl refl; words = max w.part.words words; is_stale = w.part.is_stale; is = refl })

hears_effect : {session : ℕ} → (takes_all : Bool) (told : Length) (old after : List Request) → Hears takes_all told old after → Effect session Anyhow Heard old after
hears_effect {session} takes_all told old after (HearsKnown place at is) =
    subst (Effect session Anyhow Heard old) (sym is) (set_effect old place at.request (hears told.words at.request) (λ n. tt) at.is refl (moves_hears at.request.number told.words at.request.work))
hears_effect {session} takes_all told old after (HearsAdded all none is) = subst (Effect session Anyhow Heard old) (sym is) (added_effect old told.request told.words (λ n. tt) none)
hears_effect {session} takes_all told old after (HearsPassed all none is) = subst (Effect session Anyhow Heard old) (sym is) (same_effect old (λ n. tt))

pub hears_all_kept : {session : ℕ} {holds : ℕ → Option Work → Type 0} {absent : ℕ → Type 0} → (takes_all : Bool) (lengths : List Length) (old after : List Request) →
    Carries session Anyhow Heard holds absent holds absent → Kept holds absent old → HearsAll takes_all lengths old after → Kept holds absent after
hears_all_kept {session} {holds} {absent} takes_all [] old after c k is = subst (Kept holds absent) (sym is) k
hears_all_kept takes_all (told ∷ lengths) old after c k (between, one, rest) =
    hears_all_kept takes_all lengths between after c (kept_more old between c k (hears_effect takes_all told old between one)) rest

-- ---- looks at all

moves_missed : {session : ℕ} → (lengths : List Length) (n : ℕ) (work : Option Work) → Moves session (Anyhow n) (Heard n) work (missed_in lengths n work)
moves_missed lengths n None = stays refl tt
moves_missed {session} lengths n (Some w) = by_told (is_told lengths n || not (is_waited w.part.wanted))
  where
    by_told : (b : Bool) → Moves session (Anyhow n) (Heard n) (Some w) (Some (cond b w (read_again w)))
    by_told true = stays refl tt
    by_told false = goes w (read_again w) refl refl (record { call = ReadsAgainOf refl refl; words = w.part.words; is_stale = true; is = refl })

got_map : (lengths : List Length) (xs : List Request) (k : ℕ) (r : Request) → slice_get (map (missed lengths) xs) k ≡ Some r → (b : Request) × (slice_get xs k ≡ Some b) × (missed lengths b ≡ r)
got_map lengths [] k r at = (let low = slice_get_within [] k r at in absurd (omega (arith, low)))
got_map lengths (x ∷ xs) zero r at = (x, refl, same_some (missed lengths x) r at)
got_map lengths (x ∷ xs) (suc k) r at = got_map lengths xs k r at

length_missed : (lengths : List Length) (xs : List Request) → length (map (missed lengths) xs) ≡ length xs
length_missed lengths [] = refl
length_missed lengths (x ∷ xs) = ap suc (length_missed lengths xs)

missed_effect : {session : ℕ} → (lengths : List Length) (old : List Request) → Effect session Anyhow Heard old (map (missed lengths) old)
missed_effect {session} lengths old =
    let comes : (k : ℕ) (r : Request) → slice_get (map (missed lengths) old) k ≡ Some r → Comes session Anyhow Heard old k r =
    (λ k r there.
    let b = got_map lengths old k r there in
    subst (λ (x : Request). Comes session Anyhow Heard old k x) b.2 (from b.0 b.1 refl (moves_missed lengths b.0.number b.0.work))) in
    let same = length_missed lengths old in
    record { comes = comes; keeps = keeps_from old (map (missed lengths) old) (omega (arith, same)) comes; absent = λ n h. tt }

pub looked_kept : {session : ℕ} {holds : ℕ → Option Work → Type 0} {absent : ℕ → Type 0} → (whole : Bool) (lengths : List Length) (old : List Request) →
    Carries session Anyhow Heard holds absent holds absent → Kept holds absent old → Kept holds absent (looked_for whole lengths old)
looked_kept true lengths old c k = kept_more old (map (missed lengths) old) c k (missed_effect lengths old)
looked_kept false lengths old c k = k

-- ---- turns of works

rests_comes : {session : ℕ} {still : ℕ → Type 0} {does : ℕ → Work → Work → Type 0} → (at : Moment) (old : List Request) (k : ℕ) (b r : Request) → slice_get old k ≡ Some b → still b.number → ((w v : Work) → Rests w at v → does b.number w v) → RestsIn at b r →
    Comes session still does old k r
rests_comes {session} {still} {does} at old k b r there quiet rests (inl same) =
    subst (λ (x : Request). Comes session still does old k x) (sym same.1) (from b there refl (stays refl quiet))
rests_comes at old k b r there quiet rests (inr o) =
    from b there (ap (λ (x : Request). x.number) o.rest) (goes o.before o.after o.is (ap (λ (x : Request). x.work) o.rest) (rests o.before o.after o.calls))

pub rest_effect : {session : ℕ} {still : ℕ → Type 0} {does : ℕ → Work → Work → Type 0} → (at : Moment) (old after : List Request) → ((n : ℕ) → still n) → ((n : ℕ) (w v : Work) → Rests w at v → does n w v) → AllRest at old after → Effect session still does old after
rest_effect {session} {still} {does} at old after quiet rests all =
    let count = all.count in
    let comes : (k : ℕ) (r : Request) → slice_get after k ≡ Some r → Comes session still does old k r =
    (λ k r there.
    let within = slice_get_within after k r there in
    let low : k < length old = omega (arith, within, count) in
    let b = get_some old k low in
    let rest = all.each k b.0 low b.1 in
    let is : rest.0 ≡ r = same_some rest.0 r (sym rest.1 ∙ there) in
    rests_comes at old k b.0 r b.1 (quiet b.0.number) (rests b.0.number) (subst (RestsIn at b.0) is rest.2)) in
    record { comes = comes; keeps = keeps_from old after (omega (arith, count)) comes; absent = λ n h. quiet n }

-- a turn of one request's work, before which others' rest
pub record TurnDoes (at : Moment) (request : ℕ) (t : Turn) (still : ℕ → Type 0) (does : ℕ → Work → Work → Type 0) : Type 0 where
  pub turns : (w v : Work) → Turns w at t v → does request w v
  pub quiet : (n : ℕ) → request ≢ n → still n
  pub rests : (n : ℕ) → request ≢ n → (w v : Work) → Rests w at v → does n w v

turn_comes : {session : ℕ} {still : ℕ → Type 0} {does : ℕ → Work → Work → Type 0} → (at : Moment) (old : List Request) (request : ℕ) (t : Turn) (after : List Request) → TurnDoes at request t still does → AreApart old → FirstTurns at old request t after →
    (k : ℕ) (r : Request) → slice_get after k ≡ Some r → Comes session still does old k r
turn_comes {session} {still} {does} at old request t after d apart f k r there =
    let count = f.count in
    let within = slice_get_within after k r there in
    let low : k < length old = omega (arith, within, count) in
    let b = get_some old k low in
    let not_it : k ≢ f.place → request ≢ b.0.number = λ other e. other (apart k f.place b.0 f.before b.1 f.there (sym e ∙ sym f.named)) in
    elim (eqb_tells k f.place) [
      | inl p ↦
          let is : f.after ≡ r = same_some f.after r (sym f.is ∙ ap (λ (i : ℕ). slice_get after i) (sym p.1) ∙ there) in
          let o = f.turns in
          subst (λ (x : Request). Comes session still does old k x) is
          (from f.before (ap (λ (i : ℕ). slice_get old i) p.1 ∙ f.there) (ap (λ (x : Request). x.number) o.rest)
          (goes o.before o.after o.is (ap (λ (x : Request). x.work) o.rest) (subst (λ (n : ℕ). does n o.before o.after) (sym f.named) (d.turns o.before o.after o.calls))))
      | inr p ↦ elim (cases_lt k f.place) [
        | inl q ↦
            let rest = f.rest k b.0 q b.1 in
            let is : rest.0 ≡ r = same_some rest.0 r (sym rest.1 ∙ there) in
            rests_comes at old k b.0 r b.1 (d.quiet b.0.number (not_it p.1)) (d.rests b.0.number (not_it p.1)) (subst (RestsIn at b.0) is rest.2)
        | inr q ↦
            let other = p.1 in
            let same = sym (f.others k (omega (arith, q, other))) ∙ there in
            let is : b.0 ≡ r = same_some b.0 r (sym b.1 ∙ same) in
            from r same refl (stays refl (subst (λ (x : Request). still x.number) is (d.quiet b.0.number (not_it p.1))))
      ]
    ]

pub turn_effect : {session : ℕ} {still : ℕ → Type 0} {does : ℕ → Work → Work → Type 0} → (at : Moment) (old : List Request) (request : ℕ) (t : Turn) (after : List Request) → TurnDoes at request t still does → AreApart old → FirstTurns at old request t after →
    Effect session still does old after
turn_effect at old request t after d apart f =
    let comes = turn_comes at old request t after d apart f in
    let count = f.count in
    record {
      comes = comes;
      keeps = keeps_from old after (omega (arith, count)) comes;
      absent = λ n none. d.quiet n (λ e. none f.place f.before (slice_get_within old f.place f.before f.there) f.there (f.named ∙ e));
    }
