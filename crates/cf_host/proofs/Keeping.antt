-- What a process keeps of a request: who waits for its stages, and who asked for something.
use Rattle.std.proofs.Common.{◌≡◌, ◌≢◌, ℕ, zero, suc, ◌<◌, ◌≤◌, ◌⊎◌, inl, inr, true, false, Option, Some, None, leb, List, [], ◌∷◌, ◌++◌, Contains, length, map, refl, ap, sym, ◌∙◌, subst, arith}
use Rattle.std.specs.Prelude.{is_some, slice_get, slice_set}
use Rattle.std.specs.List.{remove}
use Rattle.std.proofs.lemmas.Bool.Decides.{eqb_tells, leb_tells}
use Rattle.std.proofs.lemmas.List.{get_or-set_other, get_or-set_same}
use Rattle.std.proofs.lemmas.List.Elements.{Contains-append_cases, Contains-append_left, Contains-append_right}
use Rattle.std.proofs.lemmas.Option.{slice_get_within}
use Rattle.cf_outcome.specs.declared.outcome.Outcome.{Outcome}
use Rattle.cf_model.specs.States.{outcome_at}
use Rattle.cf_part.specs.declared.question.Fault.{Fault}
use Rattle.cf_part.specs.Parts.{state_in, wanted_in}
use Rattle.cf_part.specs.Steps.{NoneToShow, is_time}
use Rattle.cf_part.proofs.Lists.{get_more, there_by}
use Rattle.cf_turn.specs.declared.turn.Turn.{Turn}
use Rattle.cf_turn.specs.declared.turn.Turn.TheVariants.{Tell as TellTurn, Show as ShowTurn, Stop as StopTurn, Call as CallTurn, Ask as AskTurn}
use Rattle.cf_turn.specs.declared.wish.End.{End}
use Rattle.cf_turn.specs.declared.wish.Told.{Told}
use Rattle.cf_turn.specs.declared.wish.Wish.{Wish}
use Rattle.cf_turn.specs.Rows.{IsCall as IsCallOfWork}
use Rattle.cf_turn.specs.Rows.IsCall.{asks as AsksOf, ends as EndsOf, wants as WantsOf, grows as GrowsOf}
use Rattle.cf_turn.specs.Turns.{Rests}
use Rattle.cf_turn.specs.Works.{Work}
use Rattle.cf_host.specs.declared.order.Order.{Order}
use Rattle.cf_host.specs.declared.order.Order.TheVariants.{Show, Tell}
use Rattle.cf_host.specs.declared.request.Request.{Request}
use Rattle.cf_host.specs.Asking.{Wanting}
use Rattle.cf_host.specs.Hosts.{Host, OnRequest, OrdersTurn, RestsIn, moment_in}
use Rattle.cf_host.specs.Keeping.{EndsWanting, IsAskedIn, IsUnsettled, IsWantedIn, ShowsBeforeSleep, StaysAsked, StaysWanted, asked_by}
use Rattle.cf_host.specs.Tickets.{Tickets}
use Rattle.cf_host.proofs.Going.{Does, IsMeant, turned, went}
use Rattle.cf_host.proofs.Single.{CarriesOne, Has, Of, one_call, same_work}
use Rattle.cf_host.proofs.Steady.{AsksSame, KeepsAsked, KeepsWanted, Tells as TellsOne, TurnSteady, asked_same, tells_end as EndIsTold, keeps_asked, keeps_wanted, turn_steady, tells_wish as WishIsTold}

-- ---- what is shown

abbrev Wants : ℕ → Work → Type 0
Wants stage w = (from : ℕ) × (wanted_in w.part.wanted stage ≡ Some from)

wanted_same : (stage : ℕ) (w v : Work) → v.part.wanted ≡ w.part.wanted → Wants stage w → Wants stage v
wanted_same stage w v same (from, h) = (from, ap (λ (l : List (Option ℕ)). wanted_in l stage) same ∙ h)

wanted_other : (stage i : ℕ) (from : Option ℕ) (w v : Work) → stage ≢ i → v.part.wanted ≡ slice_set w.part.wanted i from → Wants stage w → Wants stage v
wanted_other stage i from w v other same (at, h) = (at, ap (λ (l : List (Option ℕ)). wanted_in l stage) same ∙ get_or-set_other w.part.wanted i stage from None other ∙ h)

wanted_there : (stage from : ℕ) (w : Work) → wanted_in w.part.wanted stage ≡ Some from → stage < length w.part.wanted
wanted_there stage from w h = there_by w.part.wanted stage None (λ none. (let no : ⊥ = cc in no))

wanted_turn : (now request stage : ℕ) (t : Turn) (order : Order) (old : Host) (out : Option Order) (new : Host) (w v : Work) → out ≡ Some order → OrdersTurn now request t order old.tickets new.tickets → TurnSteady t w v → Wants stage w →
    Wants stage v ⊎ EndsWanting old out new request stage
wanted_turn now request stage (TellTurn n told) order old out new w v is orders same h = inl (wanted_same stage w v same.part.wanted h)
wanted_turn now request stage (ShowTurn i shown) order old out new w v is orders same h = elim (eqb_tells stage i) [
  | inl p ↦ inr (inl (shown, is ∙ ap (λ (o : Order). Some o) orders.0 ∙ ap (λ (j : ℕ). Some (Show request j shown)) (sym p.1)))
  | inr p ↦ inl (wanted_other stage i None w v p.1 same.0 h)
]
wanted_turn now request stage (StopTurn i) order old out new w v is orders same h = inl (wanted_same stage w v same.part.wanted h)
wanted_turn now request stage (CallTurn i function args) order old out new w v is orders same h = inl (wanted_same stage w v same.part.wanted h)
wanted_turn now request stage (AskTurn q) order old out new w v is orders same h = inl (wanted_same stage w v same.part.wanted h)

wanted_set : (request stage i : ℕ) (from : Option ℕ) (old : Host) (out : Option Order) (new : Host) (w v : Work) → v.part.wanted ≡ slice_set w.part.wanted i from → OnRequest (Wanting i from) request old new → Wants stage w →
    Wants stage v ⊎ EndsWanting old out new request stage
wanted_set request stage i (Some from) old out new w v same meant h = elim (eqb_tells stage i) [
  | inl p ↦
      let there = wanted_there stage h.0 w h.1 in
      inl (from, ap (λ (l : List (Option ℕ)). wanted_in l stage) same ∙ ap (λ (j : ℕ). wanted_in (slice_set w.part.wanted j (Some from)) stage) (sym p.1) ∙ get_or-set_same w.part.wanted stage (Some from) None there)
  | inr p ↦ inl (wanted_other stage i (Some from) w v p.1 same h)
]
wanted_set request stage i None old out new w v same meant h = elim (eqb_tells stage i) [
  | inl p ↦ inr (inr (subst (λ (j : ℕ). OnRequest (Wanting j None) request old new) (sym p.1) meant))
  | inr p ↦ inl (wanted_other stage i None w v p.1 same h)
]

wanted_call : (request stage : ℕ) (old : Host) (out : Option Order) (new : Host) (w v : Work) (call : IsCallOfWork w None v) → IsMeant old out new request w v None call → KeepsWanted w v None call → Wants stage w →
    Wants stage v ⊎ EndsWanting old out new request stage
wanted_call request stage old out new w v (WantsOf i b is rest) meant same h = wanted_set request stage i b old out new w v same meant h
wanted_call request stage old out new w v (GrowsOf more is grown rest) meant same h =
    inl (h.0, ap (λ (l : List (Option ℕ)). wanted_in l stage) same ∙ get_more w.part.wanted None more stage ∙ h.1)
wanted_call request stage old out new w v call meant same h = inl (wanted_same stage w v same h)

wanted_does : (request stage : ℕ) (old : Host) (out : Option Order) (new : Host) (w v : Work) → Wants stage w → Does (Of request (Wants stage)) old out new request w v → Wants stage v ⊎ EndsWanting old out new request stage
wanted_does request stage old out new w v h (turned t order at is orders turn) = wanted_turn at.now request stage t order old out new w v is orders (turn_steady w v at t turn) h
wanted_does request stage old out new w v h (went still call meant) = wanted_call request stage old out new w v call meant (keeps_wanted w v call) h

pub stays_wanted : StaysWanted
stays_wanted session outs old out new request stage comes call it =
    let carries : CarriesOne request (Wants stage) (EndsWanting old out new request stage) old out new =
    record { does = λ w v h does. wanted_does request stage old out new w v h does; words = λ w v h heard. wanted_same stage w v (ap (λ (x : Work). x.part.wanted) heard.is) h } in
    by_case (one_call session outs request (Wants stage) (EndsWanting old out new request stage) old out new comes carries call (record { work = it.work; at = it.is; so = (it.from, it.wanted) }))
  where
    by_case : Has (Wants stage) new request ⊎ EndsWanting old out new request stage → IsWantedIn new request stage ⊎ EndsWanting old out new request stage
    by_case (inl h) = inl (record { work = h.work; is = h.at; from = h.so.0; wanted = h.so.1 })
    by_case (inr other) = inr other

-- ---- before sleep

pub shows_before_sleep : ShowsBeforeSleep
shows_before_sleep old new now until request stage s it =
    let at = it.is.at in
    let rest = s.all.each it.is.place at.request (slice_get_within old.requests it.is.place at.request at.is) at.is in
    by_rest rest.2
  where
    none_is : (o : Option Outcome) → (o ≢ None → ⊥) → o ≡ None
    none_is None h = refl
    none_is (Some x) h = absurd (h (λ e. (let no : ⊥ = cc in no)))

    come : it.from ≤ now → leb it.from now ≡ true
    come low = elim (leb_tells it.from now) [
      | inl p ↦ p.0
      | inr p ↦ (let high = p.1 in absurd (omega (arith, low, high)))
    ]

    by_fault : (fault : Option Fault) → NoneToShow it.work.part.wanted (is_some fault) now (state_in it.work.part) (length it.work.part.wanted) →
        (it.from ≤ now → outcome_at (state_in it.work.part) stage ≡ None) × (fault ≡ None)
    by_fault None none = (
      (λ low. none_is (outcome_at (state_in it.work.part) stage) (λ some.
          none stage (wanted_there stage it.from it.work it.wanted) (record { time = ap (is_time false now) it.wanted ∙ come low; settled = inr some }))),
      refl,
    )
    by_fault (Some f) none = absurd (none stage (wanted_there stage it.from it.work it.wanted) (record { time = ap (is_time true now) it.wanted; settled = inl refl }))

    by_work : (w v : Work) → it.is.at.request.work ≡ Some w → Rests w (moment_in old now s.may_claim) v → IsUnsettled old now request stage it
    by_work w v is rests =
        let same : w ≡ it.work = same_work w it.work (sym is ∙ it.is.is) in
        let two = by_fault it.work.part.fault (subst (λ (x : Work). NoneToShow x.part.wanted (is_some x.part.fault) now (state_in x.part) (length x.part.wanted)) same rests.steps.shown) in
        record { pending = two.0; sound = two.1 }

    by_rest : {after : Request} → RestsIn (moment_in old now s.may_claim) it.is.at.request after → IsUnsettled old now request stage it
    by_rest (inl same) = (let was = it.is.is in let none = same.0 in let no : ⊥ = cc in absurd no)
    by_rest (inr o) = by_work o.before o.after o.is o.calls

-- ---- what users are told

only_one : (x n : ℕ) → Contains (x ∷ []) n → x ≡ n
only_one x n (zero, low, is) = is
only_one x n (suc k, low, is) = absurd (omega (arith, low))

numbers_left : {A : Type 0} → (number : A → ℕ) (xs : List A) (k : ℕ) (x : A) (n : ℕ) → slice_get xs k ≡ Some x → Contains (map number xs) n → (n ≡ number x) ⊎ Contains (map number (remove xs k)) n
numbers_left number [] k x n is h = (let low = slice_get_within [] k x is in absurd (omega (arith, low)))
numbers_left {A} number (y ∷ xs) zero x n is h = by_place (Contains-append_cases (number y ∷ []) (map number xs) n h)
  where
    same : y ≡ x
    same = cc

    by_place : Contains (number y ∷ []) n ⊎ Contains (map number xs) n → (n ≡ number x) ⊎ Contains (map number xs) n
    by_place (inl own) = inl (sym (only_one (number y) n own) ∙ ap number same)
    by_place (inr later) = inr later
numbers_left number (y ∷ xs) (suc k) x n is h = by_place (λ later. numbers_left number xs k x n is later) (Contains-append_cases (number y ∷ []) (map number xs) n h)
  where
    by_rest : (n ≡ number x) ⊎ Contains (map number (remove xs k)) n → (n ≡ number x) ⊎ Contains (number y ∷ map number (remove xs k)) n
    by_rest (inl its) = inl its
    by_rest (inr left) = inr (Contains-append_right (number y ∷ []) (map number (remove xs k)) n left)

    by_place : (Contains (map number xs) n → (n ≡ number x) ⊎ Contains (map number (remove xs k)) n) → Contains (number y ∷ []) n ⊎ Contains (map number xs) n → (n ≡ number x) ⊎ Contains (number y ∷ map number (remove xs k)) n
    by_place further (inl own) = inr (Contains-append_left (number y ∷ []) (map number (remove xs k)) n own)
    by_place further (inr later) = by_rest (further later)

abbrev Asks : ℕ → Work → Type 0
Asks number w = Contains (asked_by w) number

asked_tells : (number n : ℕ) (w v : Work) → TellsOne n w v → Asks number w → Asks number v ⊎ (number ≡ n)
asked_tells number n w v (WishIsTold place x is named left same) h = by_place (Contains-append_cases (map (λ (x : Wish). x.number) w.wishes) (map (λ (x : End). x.number) w.ends) number h)
  where
    wishes : List ℕ
    wishes = map (λ (x : Wish). x.number) v.wishes

    ends : List ℕ
    ends = map (λ (x : End). x.number) v.ends

    by_left : (number ≡ x.number) ⊎ Contains (map (λ (x : Wish). x.number) (remove w.wishes place)) number → Asks number v ⊎ (number ≡ n)
    by_left (inl its) = inr (its ∙ named)
    by_left (inr more) = inl (Contains-append_left wishes ends number (subst (λ (l : List Wish). Contains (map (λ (x : Wish). x.number) l) number) (sym left) more))

    by_place : Contains (map (λ (x : Wish). x.number) w.wishes) number ⊎ Contains (map (λ (x : End). x.number) w.ends) number → Asks number v ⊎ (number ≡ n)
    by_place (inl own) = by_left (numbers_left (λ (x : Wish). x.number) w.wishes place x number is own)
    by_place (inr later) = inl (Contains-append_right wishes ends number (subst (λ (l : List End). Contains (map (λ (x : End). x.number) l) number) (sym same) later))
asked_tells number n w v (EndIsTold place x is named left same) h = by_place (Contains-append_cases (map (λ (x : Wish). x.number) w.wishes) (map (λ (x : End). x.number) w.ends) number h)
  where
    wishes : List ℕ
    wishes = map (λ (x : Wish). x.number) v.wishes

    ends : List ℕ
    ends = map (λ (x : End). x.number) v.ends

    by_left : (number ≡ x.number) ⊎ Contains (map (λ (x : End). x.number) (remove w.ends place)) number → Asks number v ⊎ (number ≡ n)
    by_left (inl its) = inr (its ∙ named)
    by_left (inr more) = inl (Contains-append_right wishes ends number (subst (λ (l : List End). Contains (map (λ (x : End). x.number) l) number) (sym left) more))

    by_place : Contains (map (λ (x : Wish). x.number) w.wishes) number ⊎ Contains (map (λ (x : End). x.number) w.ends) number → Asks number v ⊎ (number ≡ n)
    by_place (inl own) = inl (Contains-append_left wishes ends number (subst (λ (l : List Wish). Contains (map (λ (x : Wish). x.number) l) number) (sym same) own))
    by_place (inr later) = by_left (numbers_left (λ (x : End). x.number) w.ends place x number is later)

asked_as : (number : ℕ) (w v : Work) → AsksSame w v → Asks number w → Asks number v
asked_as number w v same h = subst (λ (l : List ℕ). Contains l number) (sym (asked_same w v same)) h

-- its user is told
abbrev IsToldBy : Option Order → ℕ → Type 0
IsToldBy out number = (told : Told) × (out ≡ Some (Tell number told))

asked_turn : (now request number : ℕ) (t : Turn) (order : Order) (old new : Tickets) (out : Option Order) (w v : Work) → out ≡ Some order → OrdersTurn now request t order old new → TurnSteady t w v → Asks number w →
    Asks number v ⊎ IsToldBy out number
asked_turn now request number (TellTurn n told) order old new out w v is orders same h = by_told (asked_tells number n w v same.tells h)
  where
    by_told : Asks number v ⊎ (number ≡ n) → Asks number v ⊎ IsToldBy out number
    by_told (inl still) = inl still
    by_told (inr its) = inr (told, is ∙ ap (λ (o : Order). Some o) orders.0 ∙ ap (λ (k : ℕ). Some (Tell k told)) (sym its))
asked_turn now request number (ShowTurn i shown) order old new out w v is orders same h = inl (asked_as number w v same.3 h)
asked_turn now request number (StopTurn i) order old new out w v is orders same h = inl (asked_as number w v same.asks h)
asked_turn now request number (CallTurn i function args) order old new out w v is orders same h = inl (asked_as number w v same.asks h)
asked_turn now request number (AskTurn q) order old new out w v is orders same h = inl (asked_as number w v same.asks h)

-- one user more asks
asked_wish : (number n : ℕ) (w v : Work) → map (λ (x : Wish). x.number) v.wishes ≡ map (λ (x : Wish). x.number) w.wishes ++ n ∷ [] → v.ends ≡ w.ends → Asks number w → Asks number v
asked_wish number n w v wishes ends h = subst (λ (l : List ℕ). Contains l number) (sym is) (by_place (Contains-append_cases a b number h))
  where
    a : List ℕ
    a = map (λ (x : Wish). x.number) w.wishes

    b : List ℕ
    b = map (λ (x : End). x.number) w.ends

    is : asked_by v ≡ (a ++ n ∷ []) ++ b
    is = ap (λ (l : List ℕ). l ++ map (λ (x : End). x.number) v.ends) wishes ∙ ap (λ (l : List End). (a ++ n ∷ []) ++ map (λ (x : End). x.number) l) ends

    by_place : Contains a number ⊎ Contains b number → Contains ((a ++ n ∷ []) ++ b) number
    by_place (inl own) = Contains-append_left (a ++ n ∷ []) b number (Contains-append_left a (n ∷ []) number own)
    by_place (inr later) = Contains-append_right (a ++ n ∷ []) b number later

asked_end : (number n : ℕ) (w v : Work) → map (λ (x : End). x.number) v.ends ≡ map (λ (x : End). x.number) w.ends ++ n ∷ [] → v.wishes ≡ w.wishes → Asks number w → Asks number v
asked_end number n w v ends wishes h = subst (λ (l : List ℕ). Contains l number) (sym is) (by_place (Contains-append_cases a b number h))
  where
    a : List ℕ
    a = map (λ (x : Wish). x.number) w.wishes

    b : List ℕ
    b = map (λ (x : End). x.number) w.ends

    is : asked_by v ≡ a ++ (b ++ n ∷ [])
    is = ap (λ (l : List Wish). map (λ (x : Wish). x.number) l ++ map (λ (x : End). x.number) v.ends) wishes ∙ ap (λ (l : List ℕ). a ++ l) ends

    by_place : Contains a number ⊎ Contains b number → Contains (a ++ (b ++ n ∷ [])) number
    by_place (inl own) = Contains-append_left a (b ++ n ∷ []) number own
    by_place (inr later) = Contains-append_right a (b ++ n ∷ []) number (Contains-append_left b (n ∷ []) number later)

asked_call : (number : ℕ) (w v : Work) (call : IsCallOfWork w None v) → KeepsAsked w v None call → Asks number w → Asks number v
asked_call number w v (AsksOf n act until is rest) same h = asked_wish number n w v same.0 same.1 h
asked_call number w v (EndsOf end is rest) same h = asked_end number end.number w v same.0 same.1 h
asked_call number w v call same h = asked_as number w v same h

asked_does : (request number : ℕ) (old : Host) (out : Option Order) (new : Host) (w v : Work) → Asks number w → Does (Of request (Asks number)) old out new request w v → Asks number v ⊎ IsToldBy out number
asked_does request number old out new w v h (turned t order at is orders turn) = asked_turn at.now request number t order old.tickets new.tickets out w v is orders (turn_steady w v at t turn) h
asked_does request number old out new w v h (went still call meant) = inl (asked_call number w v call (keeps_asked w v call) h)

pub stays_asked : StaysAsked
stays_asked session outs old out new request number comes call it =
    let carries : CarriesOne request (Asks number) (IsToldBy out number) old out new =
    record { does = λ w v h does. asked_does request number old out new w v h does; words = λ w v h heard. subst (λ (x : Work). Asks number x) (sym heard.is) h } in
    by_case (one_call session outs request (Asks number) (IsToldBy out number) old out new comes carries call (record { work = it.work; at = it.is; so = it.asked }))
  where
    by_case : Has (Asks number) new request ⊎ IsToldBy out number → IsAskedIn new request number ⊎ IsToldBy out number
    by_case (inl h) = inl (record { work = h.work; is = h.at; asked = h.so })
    by_case (inr told) = inr told
