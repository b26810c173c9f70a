-- What was granted in a row is so in each longer row.
use Rattle.std.proofs.Common.{◌⊎◌, inl, inr, Option, Some, None, List, [], ◌∷◌, ◌++◌, Contains, subst, sym, arith}
use Rattle.std.proofs.lemmas.List.Elements.{Contains-append_cases, Contains-append_left, Contains-append_right}
use Rattle.cf_forms.specs.Plans.{Planned}
use Rattle.cf_model.specs.declared.events.Event.{Event}
use Rattle.cf_model.specs.States.{State, start}
use Rattle.cf_model.specs.Events.{answered}
use Rattle.cf_event.specs.Decoding.{decoded_with, event_of}
use Rattle.cf_row.specs.declared.entry.Entry.{Entry}
use Rattle.cf_row.specs.declared.grants.Claim.{Claim}
use Rattle.cf_row.specs.Rows.{BeginsWith, history_of, session_of}
use Rattle.cf_row.specs.Grants.{claim_of, granted_by, granted_from, granted_in}

none_in : (c : Claim) → Contains [] c → ⊥
none_in c h = let l = h.1 in omega (arith, l)

by_event : (s : State) (x : Entry) (seen more : List Entry) (c : Claim) (o : Option Event) →
    ((t : State) → Contains (granted_from t seen (history_of seen)) c → Contains (granted_from t (seen ++ more) (history_of (seen ++ more))) c) →
    Contains (granted_from s (x ∷ seen) (decoded_with o (history_of seen))) c → Contains (granted_from s (x ∷ (seen ++ more)) (decoded_with o (history_of (seen ++ more)))) c
by_event s x seen more c None next h = absurd (none_in c h)
by_event s x seen more c (Some e) next h = by_place (Contains-append_cases own (granted_from t seen (history_of seen)) c h)
  where
    own : List Claim
    own = claim_of (granted_by e ((answered s e).0)) (session_of x.token)

    t : State
    t = (answered s e).1

    by_place : Contains own c ⊎ Contains (granted_from t seen (history_of seen)) c → Contains (own ++ granted_from t (seen ++ more) (history_of (seen ++ more))) c
    by_place (inl a) = Contains-append_left own (granted_from t (seen ++ more) (history_of (seen ++ more))) c a
    by_place (inr b) = Contains-append_right own (granted_from t (seen ++ more) (history_of (seen ++ more))) c (next t b)

stays_from : (s : State) (seen more : List Entry) (c : Claim) → Contains (granted_from s seen (history_of seen)) c → Contains (granted_from s (seen ++ more) (history_of (seen ++ more))) c
stays_from s [] more c h = absurd (none_in c h)
stays_from s (x ∷ seen) more c h = by_event s x seen more c (event_of x.word) (λ t k. stays_from t seen more c k) h

pub granted_stays : (plan : Planned) (row seen : List Entry) (c : Claim) → BeginsWith row seen → Contains (granted_in plan seen) c → Contains (granted_in plan row) c
granted_stays plan row seen c begins h = subst (λ (l : List Entry). Contains (granted_in plan l) c) (sym begins.is) (stays_from (start plan) seen begins.rest c h)
