-- What is found in lists of beats and of sessions.
use Rattle.std.proofs.Common.{◌≡◌, ℕ, ◌+◌, ◌<◌, Bool, true, false, cond, eqb, Option, Some, None, List, [], ◌∷◌, ◌++◌, get_or, length, map, take, refl, ap, sym, subst, ◌∙◌}
use Rattle.std.specs.Prelude.{is_some}
use Rattle.std.proofs.lemmas.Bool.{eqb-true}
use Rattle.std.proofs.lemmas.List.{take_more}
use Rattle.cf_watch.specs.Calls.{count_in}
use Rattle.cf_watch.specs.Watches.{AreMet, known_after, known_met, known_noticed, looked_at, sight_after, sight_of}
use Rattle.cf_watch.specs.declared.beat.Beat.{Beat}
use Rattle.cf_watch.specs.declared.sight.Known.{Known}
use Rattle.cf_watch.specs.declared.sight.Sight.{Sight}
use Rattle.cf_watch.specs.declared.sight.Sight.TheVariants.{Noticed, Seen}

-- the first of two that is there
abbrev pub or_of : {A : Type 0} → Option A → Option A → Option A
or_of (Some x) o = Some x
or_of None o = o

or_none : {A : Type 0} (o : Option A) → or_of o None ≡ o
or_none (Some x) = refl
or_none None = refl

cond_or : {A : Type 0} (b : Bool) (x : A) (longer o last : Option A) → longer ≡ or_of o last → cond b (Some x) longer ≡ or_of (cond b (Some x) o) last
cond_or true x longer o last e = refl
cond_or false x longer o last e = e

pub sight_of-append : (s : ℕ) (ks : List Known) (k : Known) → sight_of s (ks ++ k ∷ []) ≡ or_of (sight_of s ks) (cond (eqb k.session s) (Some k.sight) None)
sight_of-append s [] k = refl
sight_of-append s (x ∷ ks) k = cond_or (eqb x.session s) x.sight (sight_of s (ks ++ k ∷ [])) (sight_of s ks) (cond (eqb k.session s) (Some k.sight) None) (sight_of-append s ks k)

count_in-append : (s : ℕ) (bs : List Beat) (b : Beat) → count_in s (bs ++ b ∷ []) ≡ or_of (count_in s bs) (cond (eqb b.session s) (Some b.count) None)
count_in-append s [] b = refl
count_in-append s (x ∷ bs) b = cond_or (eqb x.session s) x.count (count_in s (bs ++ b ∷ [])) (count_in s bs) (cond (eqb b.session s) (Some b.count) None) (count_in-append s bs b)

-- ---- what an answer tells of those that are known

met_none : (lease time : ℕ) (told : Option ℕ) → known_met lease told None ≡ known_after lease time told None
met_none lease time None = refl
met_none lease time (Some n) = refl

met_first : (b : Bool) (lease time : ℕ) (told own : Option ℕ) (sight : Sight) (looked rest : Option Sight) → (b ≡ true → own ≡ told) →
    known_met lease told looked ≡ known_after lease time told rest →
    known_met lease told (cond b (Some (sight_after lease time own sight)) looked) ≡ known_after lease time told (cond b (Some sight) rest)
met_first true lease time told own sight looked rest same e = ap (λ (o : Option ℕ). Some (sight_after lease time o sight)) (same refl)
met_first false lease time told own sight looked rest same e = e

pub met_looked : (lease time : ℕ) (beats : List Beat) (s : ℕ) (ks : List Known) →
    known_met lease (count_in s beats) (sight_of s (map (looked_at lease time beats) ks)) ≡ known_after lease time (count_in s beats) (sight_of s ks)
met_looked lease time beats s [] = met_none lease time (count_in s beats)
met_looked lease time beats s (k ∷ ks) =
    met_first (eqb k.session s) lease time (count_in s beats) (count_in k.session beats) k.sight (sight_of s (map (looked_at lease time beats) ks)) (sight_of s ks)
    (λ e. ap (λ (n : ℕ). count_in n beats) (eqb-true k.session s e)) (met_looked lease time beats s ks)

-- ---- one more beat

met_pushed : (b : Bool) (lease n : ℕ) (told : Option ℕ) (o mid : Option Sight) → mid ≡ known_met lease told o → (b ≡ true → mid ≡ None) →
    or_of mid (cond b (Some (Seen (Some n) (Some lease))) None) ≡ known_met lease (or_of told (cond b (Some n) None)) o
met_pushed false lease n told o mid e h = or_none mid ∙ e ∙ ap (λ (t : Option ℕ). known_met lease t o) (sym (or_none told))
met_pushed true lease n told (Some x) mid e h = let z = h refl in cc
met_pushed true lease n (Some m) None mid e h = let z = h refl in cc
met_pushed true lease n None None mid e h = ap (λ (m : Option Sight). or_of m (Some (Seen (Some n) (Some lease)))) (h refl)

met_kept : (b : Bool) (lease n : ℕ) (told : Option ℕ) (o mid : Option Sight) → mid ≡ known_met lease told o → (b ≡ true → is_some mid ≡ true) →
    mid ≡ known_met lease (or_of told (cond b (Some n) None)) o
met_kept false lease n told o mid e h = e ∙ ap (λ (t : Option ℕ). known_met lease t o) (sym (or_none told))
met_kept true lease n told (Some x) mid e h = e
met_kept true lease n (Some m) None mid e h = e
met_kept true lease n None None mid e h = let z = sym (h refl) ∙ ap is_some e in cc

is_none_of : {A : Type 0} (o : Option A) → is_some o ≡ false → o ≡ None
is_none_of (Some x) h = cc
is_none_of None h = refl

one_more : (s : ℕ) (beats : List Beat) (i : ℕ) (b : Beat) → i < length beats → count_in s (take (i + 1) beats) ≡ or_of (count_in s (take i beats)) (cond (eqb (get_or beats i b).session s) (Some (get_or beats i b).count) None)
one_more s beats i b l = ap (λ (bs : List Beat). count_in s bs) (take_more beats i b l) ∙ count_in-append s (take i beats) (get_or beats i b)

pub met_more_pushed : (lease : ℕ) (beats : List Beat) (i : ℕ) (d : Beat) (old mid : List Known) → i < length beats → AreMet lease (take i beats) old mid →
    is_some (sight_of (get_or beats i d).session mid) ≡ false →
    AreMet lease (take (i + 1) beats) old (mid ++ (record { session = (get_or beats i d).session; sight = Seen (Some (get_or beats i d).count) (Some lease) }) ∷ [])
met_more_pushed lease beats i d old mid l met none s =
    let b = get_or beats i d in
    sight_of-append s mid (record { session = b.session; sight = Seen (Some b.count) (Some lease) }) ∙
    met_pushed (eqb b.session s) lease b.count (count_in s (take i beats)) (sight_of s old) (sight_of s mid) (met s)
    (λ e. is_none_of (sight_of s mid) (subst (λ (n : ℕ). is_some (sight_of n mid) ≡ false) (eqb-true b.session s e) none)) ∙
    ap (λ (t : Option ℕ). known_met lease t (sight_of s old)) (sym (one_more s beats i d l))

pub met_more_kept : (lease : ℕ) (beats : List Beat) (i : ℕ) (d : Beat) (old mid : List Known) → i < length beats → AreMet lease (take i beats) old mid →
    is_some (sight_of (get_or beats i d).session mid) ≡ true → AreMet lease (take (i + 1) beats) old mid
met_more_kept lease beats i d old mid l met some s =
    let b = get_or beats i d in
    met_kept (eqb b.session s) lease b.count (count_in s (take i beats)) (sight_of s old) (sight_of s mid) (met s)
    (λ e. subst (λ (n : ℕ). is_some (sight_of n mid) ≡ true) (eqb-true b.session s e) some) ∙
    ap (λ (t : Option ℕ). known_met lease t (sight_of s old)) (sym (one_more s beats i d l))

-- ---- a session that is noticed

noticed_both : (b : Bool) (o : Option Sight) → or_of o (cond b (Some Noticed) None) ≡ known_noticed b o
noticed_both b (Some x) = refl
noticed_both b None = refl

pub noticed_pushed : (session : ℕ) (ks : List Known) (s : ℕ) → sight_of s (ks ++ (record { session = session; sight = Noticed }) ∷ []) ≡ known_noticed (eqb session s) (sight_of s ks)
noticed_pushed session ks s = sight_of-append s ks (record { session = session; sight = Noticed }) ∙ noticed_both (eqb session s) (sight_of s ks)

noticed_before : (b : Bool) (o : Option Sight) → (b ≡ true → is_some o ≡ true) → o ≡ known_noticed b o
noticed_before b (Some x) h = refl
noticed_before false None h = refl
noticed_before true None h = let z = h refl in cc

pub noticed_kept : (session : ℕ) (ks : List Known) → is_some (sight_of session ks) ≡ true → (s : ℕ) → sight_of s ks ≡ known_noticed (eqb session s) (sight_of s ks)
noticed_kept session ks some s =
    noticed_before (eqb session s) (sight_of s ks) (λ e. subst (λ (n : ℕ). is_some (sight_of n ks) ≡ true) (eqb-true session s e) some)
