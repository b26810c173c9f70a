-- What is seen comes by answers.
use Rattle.std.proofs.Common.{◌≡◌, ℕ, Option, Some, None, refl, ap, sym, ◌∙◌, subst}
use Rattle.std.specs.Prelude.{slice_get}
use Rattle.cf_forms.specs.Plans.{Planned, with_room}
use Rattle.cf_turn.specs.declared.turn.Turn.{Turn}
use Rattle.cf_turn.specs.declared.turn.Turn.TheVariants.{Tell as TellTurn, Show as ShowTurn, Stop as StopTurn, Call as CallTurn, Ask as AskTurn}
use Rattle.cf_turn.specs.Rows.{IsCall as IsCallOfWork}
use Rattle.cf_turn.specs.Rows.IsCall.{reads as ReadsOf, misreads as MisreadsOf, lands as LandsOf, meets as MeetsOf, mismeets as MismeetsOf, grows as GrowsOf}
use Rattle.cf_turn.specs.Works.{Work}
use Rattle.cf_host.specs.declared.order.Order.{Order}
use Rattle.cf_host.specs.declared.request.Request.{Request}
use Rattle.cf_host.specs.Hosts.{Host, OnRequest}
use Rattle.cf_host.specs.Asking.{Growing}
use Rattle.cf_host.specs.Keeping.{ComesToSee, SeesByAnswers}
use Rattle.cf_host.specs.Keeping.ComesToSee.{stays as SeeStays, grows as SeeGrows, begins as SeeBegins, answers as SeeAnswers}
use Rattle.cf_host.specs.Requests.{IsAt}
use Rattle.cf_host.proofs.CalledOnce.{kept_all, same_sessions}
use Rattle.cf_host.proofs.Effects.{Anyhow, Heard}
use Rattle.cf_host.proofs.Going.{CarriesOn, CarriesWords, Does, IsMeant, Still, call_kept, turned, went}
use Rattle.cf_host.proofs.Processes.{first_at}
use Rattle.cf_host.proofs.Steady.{KeepsSeen, SeesRoomier, SeesSame, TurnSteady, keeps_seen, turn_steady}
use Rattle.cf_host.proofs.Worked.{AreApart, Begun, Kept, Moves, begins, goes, stays}

abbrev Holds : ℕ → Host → Option Order → Host → ℕ → Option Work → Type 0
Holds request old out new n None = Unit {0}
Holds request old out new n (Some w) = n ≡ request → ComesToSee request old out new w

see_on : (request : ℕ) (old : Host) (out : Option Order) (new : Host) (w v : Work) → SeesSame w v → ComesToSee request old out new w → ComesToSee request old out new v
see_on request old out new w v same (SeeStays before at plan seen) = SeeStays before at (same.plan ∙ plan) (same.seen ∙ seen)
see_on request old out new w v same (SeeGrows before more at meant plan seen) =
    SeeGrows before more at meant (same.plan ∙ plan ∙ ap (λ (p : Planned). with_room before.part.row.replica.plan p.room) (sym same.plan)) (same.seen ∙ seen)
see_on request old out new w v same (SeeBegins seen) = SeeBegins (same.seen ∙ seen)
see_on request old out new w v same (SeeAnswers row) = SeeAnswers row

-- with more room
see_roomier : (request more : ℕ) (old : Host) (out : Option Order) (new : Host) (w v : Work) → OnRequest (Growing more) request old new → SeesRoomier w v → ComesToSee request old out new w → ComesToSee request old out new v
see_roomier request more old out new w v meant same (SeeStays before at plan seen) =
    SeeGrows before more at meant (same.plan ∙ ap (λ (p : Planned). with_room p v.part.row.replica.plan.room) plan) (same.seen ∙ seen)
see_roomier request more old out new w v meant same (SeeGrows before other at meant' plan seen) =
    SeeGrows before more at meant (same.plan ∙ ap (λ (p : Planned). with_room p v.part.row.replica.plan.room) plan) (same.seen ∙ seen)
see_roomier request more old out new w v meant same (SeeBegins seen) = SeeBegins (same.seen ∙ seen)
see_roomier request more old out new w v meant same (SeeAnswers row) = SeeAnswers row

turn_sees : (t : Turn) (w v : Work) → TurnSteady t w v → SeesSame w v
turn_sees (TellTurn n told) w v same = record { plan = same.part.plan; seen = same.part.seen }
turn_sees (ShowTurn i shown) w v same = record { plan = same.1; seen = same.2 }
turn_sees (StopTurn i) w v same = record { plan = same.part.plan; seen = same.part.seen }
turn_sees (CallTurn i function args) w v same = record { plan = same.part.plan; seen = same.part.seen }
turn_sees (AskTurn q) w v same = record { plan = same.part.plan; seen = same.part.seen }

went_sees : (request : ℕ) (old : Host) (out : Option Order) (new : Host) (w v : Work) (call : IsCallOfWork w None v) → IsMeant old out new request w v None call → KeepsSeen w v None call → ComesToSee request old out new w →
    ComesToSee request old out new v
went_sees request old out new w v (ReadsOf entries notes is h rest) meant same see = SeeAnswers meant
went_sees request old out new w v (MisreadsOf now entries notes m is h rest) meant same see = SeeAnswers meant
went_sees request old out new w v (LandsOf is h) meant same see = SeeAnswers meant
went_sees request old out new w v (MeetsOf entries notes landed is h) meant same see = SeeAnswers meant
went_sees request old out new w v (MismeetsOf now entries notes m is h) meant same see = SeeAnswers meant
went_sees request old out new w v (GrowsOf more is h rest) meant same see = see_roomier request more old out new w v meant same see
went_sees request old out new w v call meant same see = see_on request old out new w v same see

does_see : {holds : ℕ → Option Work → Type 0} → (request : ℕ) (old : Host) (out : Option Order) (new : Host) (w v : Work) → ComesToSee request old out new w → Does holds old out new request w v → ComesToSee request old out new v
does_see request old out new w v see (turned t order at is orders turn) = see_on request old out new w v (turn_sees t w v (turn_steady w v at t turn)) see
does_see request old out new w v see (went still call meant) = went_sees request old out new w v call meant (keeps_seen w v call) see

begun_sees : (session request : ℕ) (old : Host) (out : Option Order) (new : Host) (w : Work) → Begun session w → ComesToSee request old out new w
begun_sees session request old out new w b = SeeBegins (ap (λ (x : Work). x.part.row.replica.seen) b.is)

moves_see : (session request : ℕ) (old : Host) (out : Option Order) (new : Host) (holds : ℕ → Option Work → Type 0) (n : ℕ) (before after : Option Work) → Holds request old out new n before →
    Moves session (Still holds old out new n) (Does holds old out new n) before after → Holds request old out new n after
moves_see session request old out new holds n before after see (stays same still) = subst (Holds request old out new n) (sym same) see
moves_see session request old out new holds n before after see (begins w was is begun still) = subst (Holds request old out new n) (sym is) (λ named. begun_sees session request old out new w begun)
moves_see session request old out new holds n before after see (goes w v was is does) =
    let its : n ≡ request → ComesToSee request old out new w = subst (Holds request old out new n) was see in
    subst (Holds request old out new n) (sym is) (λ named. does_see request old out new w v (its named) (subst (λ (m : ℕ). Does holds old out new m w v) named does))

words_see : (session request : ℕ) (old : Host) (out : Option Order) (new : Host) (n : ℕ) (before after : Option Work) → Holds request old out new n before → Moves session (Anyhow n) (Heard n) before after →
    Holds request old out new n after
words_see session request old out new n before after see (stays same still) = subst (Holds request old out new n) (sym same) see
words_see session request old out new n before after see (begins w was is begun still) = subst (Holds request old out new n) (sym is) (λ named. begun_sees session request old out new w begun)
words_see session request old out new n before after see (goes w v was is heard) =
    let its : n ≡ request → ComesToSee request old out new w = subst (Holds request old out new n) was see in
    let same : SeesSame w v = record { plan = ap (λ (x : Work). x.part.row.replica.plan) heard.is; seen = ap (λ (x : Work). x.part.row.replica.seen) heard.is } in
    subst (Holds request old out new n) (sym is) (λ named. see_on request old out new w v same (its named))

-- before the call all is as it was
as_it_was : (request : ℕ) (old : Host) (out : Option Order) (new : Host) → AreApart old.requests → (place : ℕ) (r : Request) → slice_get old.requests place ≡ Some r → Holds request old out new r.number r.work
as_it_was request old out new apart place r at = by_work r.work refl
  where
    by_work : (work : Option Work) → r.work ≡ work → Holds request old out new r.number work
    by_work None is = tt
    by_work (Some w) is = λ named.
        let first = first_at old.requests apart place r at in
        let there : IsAt request place old.requests = record { request = r; is = at; named = named; first = λ k s low found same. first.first k s low found (same ∙ sym named) } in
        SeeStays w (record { place = place; at = there; is = is }) refl refl

pub sees_by_answers : SeesByAnswers
sees_by_answers session outs old out new request w comes call at =
    let apart = (kept_all session outs old comes).apart in
    let k : Kept (Holds request old out new) Anyhow old.requests = record { apart = apart; each = λ place r there. as_it_was request old out new apart place r there; none = λ n h. tt } in
    let on : CarriesOn session old out new (Holds request old out new) Anyhow (Holds request old out new) Anyhow =
    record { moves = λ n a b see m. moves_see session request old out new (Holds request old out new) n a b see m; begun = λ n h still. tt; missing = λ n h still. tt } in
    let words : CarriesWords session (Holds request old out new) Anyhow =
    record { moves = λ n a b see m. words_see session request old out new n a b see m; begun = λ n h still. tt; missing = λ n h still. tt } in
    let after = call_kept old out new (same_sessions session outs old comes) on words k call in
    subst (Holds request old out new at.at.request.number) at.is (after.each at.place at.at.request at.at.is) at.at.named
