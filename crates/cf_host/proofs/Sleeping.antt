-- Where a process sleeps, nothing comes before it wakes.
use Rattle.std.proofs.Common.{◌≡◌, ℕ, ◌≤◌, Bool, true, false, cond, Option, None, List, [], ◌∷◌, All, ap, arith}
use Rattle.std.specs.Prelude.{is_some, min}
use Rattle.std.proofs.Math.Nat.{min-le_left, min-le_right}
use Rattle.std.proofs.lemmas.List.Elements.{All-cons, All-nil}
use Rattle.cf_host.specs.declared.news.Look.{Look}
use Rattle.cf_host.specs.Hosts.{beats_at_in}
use Rattle.cf_host.specs.Laws.{SleepsInTime}
use Rattle.cf_turn.specs.Timers.{never}
use Rattle.cf_host.specs.Waking.{first_patience, first_wake, least, patience_of, wake_of}

least_each : {A : Type 0} (of : A → ℕ) (xs : List A) (until : ℕ) → until ≤ least of xs → All (λ x. until ≤ of x) xs
least_each of [] until h = All-nil (λ x. until ≤ of x)
least_each of (x ∷ xs) until h =
    let left = min-le_left (of x) (least of xs) in
    let right = min-le_right (of x) (least of xs) in
    All-cons (λ y. until ≤ of y) x xs (omega (arith, h, left)) (least_each of xs until (omega (arith, h, right)))

pub sleeps_in_time : SleepsInTime
sleeps_in_time old new now until s =
    let beats = cond new.pulse.is_asked never (beats_at_in new) in
    let news = cond (is_some new.news.asked) never new.news.due in
    let wake = first_wake now new.requests in
    let patience = first_patience new.tickets.waiting in
    let is = s.until_is in
    let front = min-le_left (min beats news) (min wake patience) in
    let back = min-le_right (min beats news) (min wake patience) in
    let of_beats = min-le_left beats news in
    let of_news = min-le_right beats news in
    let of_wake = min-le_left wake patience in
    let of_patience = min-le_right wake patience in
    record {
      beats = λ free.
          let it : beats ≡ beats_at_in new = ap (λ (b : Bool). cond b never (beats_at_in new)) free in
          omega (arith, is, front, of_beats, it);
      news = λ free.
          let it : news ≡ new.news.due = ap (λ (o : Option Look). cond (is_some o) never new.news.due) free in
          omega (arith, is, front, of_news, it);
      requests = least_each (wake_of now) new.requests until (omega (arith, is, back, of_wake));
      users = least_each patience_of new.tickets.waiting until (omega (arith, is, back, of_patience));
    }
