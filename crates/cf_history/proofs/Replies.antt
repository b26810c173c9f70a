-- The graph's replies one after another, and the records that have them.
use Rattle.std.proofs.Common.{◌≡◌, ℕ, ◌+◌, ◌<◌, ◌≤◌, false, List, [], ◌∷◌, ◌++◌, length, map, drop, get_or, refl, ap, sym, ◌∙◌, subst}
use Rattle.std.proofs.lemmas.List.{append_assoc, append-nil, drop_more, drop_all, map-append}
use Rattle.cf_model.specs.declared.events.Event.{Event}
use Rattle.cf_model.specs.declared.events.Reply.{Reply}
use Rattle.cf_model.specs.declared.events.Reply.TheVariants.{Flag}
use Rattle.cf_model.specs.States.{State}
use Rattle.cf_model.specs.Events.{answered}
use Rattle.cf_model.specs.Ranges.{EventsFit, EventFits}
use Rattle.cf_event.specs.declared.record.Record.{Record}
use Rattle.cf_history.specs.declared.history.Caller.{Caller}
use Rattle.cf_history.specs.declared.shared.SharedCaller.{SharedCaller}
use Rattle.cf_history.specs.Shared.{all_filled, entries_of, filled, merged_all, records_of, replies_at, replies_from}

-- how many events were answered, from this state on, and what was replied
pub record Replied (first : State) (events : List Event) (i : ℕ) (now : State) (replies : List Reply) : Type 0 where
  pub fits : EventsFit now (drop i events)
  pub all : replies_at first events ≡ replies ++ replies_from now (drop i events)

pub replied_none : (first : State) (events : List Event) (replies : List Reply) → replies ≡ Flag false ∷ [] → EventsFit first events → Replied first events 0 first replies
replied_none first events replies is fits = record { fits = fits; all = ap (λ (l : List Reply). l ++ replies_from first events) (sym is) }

pub next_fits : (first : State) (events : List Event) (i : ℕ) (d : Event) (now : State) (replies : List Reply) → i < length events → Replied first events i now replies →
    EventFits (length now.plan.stages) (get_or events i d)
next_fits first events i d now replies l k = (subst (EventsFit now) (drop_more events i d l) k.fits).0

pub replied_more : (first : State) (events : List Event) (i : ℕ) (d : Event) (now next : State) (replies : List Reply) (r : Reply) → i < length events →
    r ≡ (answered now (get_or events i d)).0 → next ≡ (answered now (get_or events i d)).1 → Replied first events i now replies →
    Replied first events (i + 1) next (replies ++ r ∷ [])
replied_more first events i d now next replies r l told after k =
    let e = get_or events i d in
    let split : drop i events ≡ e ∷ drop (i + 1) events = drop_more events i d l in
    let rest = drop (i + 1) events in record {
      fits = subst (λ (s : State). EventsFit s rest) (sym after) (subst (EventsFit now) split k.fits).1;
      all = k.all ∙ ap (λ (es : List Event). replies ++ replies_from now es) split
          ∙ ap (λ (x : Reply). replies ++ (x ∷ replies_from ((answered now e).1) rest)) (sym told)
          ∙ ap (λ (s : State). replies ++ (r ∷ replies_from s rest)) (sym after)
          ∙ sym (append_assoc replies (r ∷ []) (replies_from next rest));
    }

pub replied_all : (first : State) (events : List Event) (i : ℕ) (now : State) (replies : List Reply) → length events ≤ i → Replied first events i now replies →
    replies ≡ replies_at first events
replied_all first events i now replies l k =
    sym (k.all ∙ ap (λ (es : List Event). replies ++ replies_from now es) (drop_all i events l) ∙ append-nil replies)

-- one element more
pub map_more : {X Y : Type 0} (f : X → Y) (xs : List X) (i : ℕ) (d : X) (out : List Y) → i < length xs → map f xs ≡ out ++ map f (drop i xs) →
    map f xs ≡ (out ++ f (get_or xs i d) ∷ []) ++ map f (drop (i + 1) xs)
map_more f xs i d out l all =
    all ∙ ap (λ (ys : List _). out ++ map f ys) (drop_more xs i d l) ∙ sym (append_assoc out (f (get_or xs i d) ∷ []) (map f (drop (i + 1) xs)))

pub map_all : {X Y : Type 0} (f : X → Y) (xs : List X) (i : ℕ) (out : List Y) → length xs ≤ i → map f xs ≡ out ++ map f (drop i xs) → out ≡ map f xs
map_all f xs i out l all = sym (all ∙ ap (λ (ys : List _). out ++ map f ys) (drop_all i xs l) ∙ append-nil out)

-- one caller more
pub callers_more : (replies : List Reply) (callers : List SharedCaller) (i : ℕ) (d : SharedCaller) (told : List Caller) (k : Caller) → i < length callers →
    k.records.items ≡ map (filled replies) (merged_all [] (get_or callers i d).sessions.items) →
    all_filled replies (entries_of callers) ≡ records_of told ++ all_filled replies (entries_of (drop i callers)) →
    all_filled replies (entries_of callers) ≡ records_of (told ++ k ∷ []) ++ all_filled replies (entries_of (drop (i + 1) callers))
callers_more replies callers i d told k l is all =
    let rest = all_filled replies (entries_of (drop (i + 1) callers)) in
    all ∙ ap (λ (ks : List SharedCaller). records_of told ++ all_filled replies (entries_of ks)) (drop_more callers i d l)
    ∙ ap (λ (rs : List Record). records_of told ++ (rs ∷ rest)) (sym is)
    ∙ sym (append_assoc (records_of told) (k.records.items ∷ []) rest)
    ∙ ap (λ (rss : List (List Record)). rss ++ rest) (sym (map-append (λ (x : Caller). x.records.items) told (k ∷ [])))

pub callers_all : (replies : List Reply) (callers : List SharedCaller) (i : ℕ) (told : List Caller) → length callers ≤ i →
    all_filled replies (entries_of callers) ≡ records_of told ++ all_filled replies (entries_of (drop i callers)) → records_of told ≡ all_filled replies (entries_of callers)
callers_all replies callers i told l all =
    sym (all ∙ ap (λ (ks : List SharedCaller). records_of told ++ all_filled replies (entries_of ks)) (drop_all i callers l) ∙ append-nil (records_of told))
