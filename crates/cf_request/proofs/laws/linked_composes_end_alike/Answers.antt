use Rattle.std.proofs.Common.{◌≡◌, ℕ, false, List, [], ◌∷◌, Contains, refl, ap, sym, ◌∙◌, arith, subst}
use Rattle.std.proofs.lemmas.List.Elements.{All-contains, Contains-append_left, Contains-append_right}
use Rattle.cf_forms.specs.Forms.{composes}
use Rattle.cf_forms.specs.Plans.{form_at}
use Rattle.cf_model.specs.declared.events.Reply.TheVariants.{Finish as ToldFinish}
use Rattle.cf_ledger.specs.Ledgers.{stages_of, state_of}
use Rattle.cf_ledger.specs.Steps.{finished_as}
use Rattle.cf_request.specs.Joins.{IsJoin}
use Rattle.cf_request.specs.Linked.{LinksEndAlike}
use Rattle.cf_request.specs.Machines.{Machine, state_in}
use Rattle.cf_request.specs.Relays.{IsRelayDue}
use Rattle.cf_request.specs.Rows.{nothing}
use Rattle.cf_request.specs.Rows.IsCall.{applies}
use Rattle.cf_request.specs.Telling.{Teller, is_settled_in}
use Rattle.cf_request.specs.declared.joins.Join.{Join}
use Rattle.cf_request.proofs.Endings.{Walk, call, called_set, called_still, compose_ended, ends_by, exact_by, finish_links, follows_exactly, onward_then, onward_word, plan_in_turn, relay_ended, row, sound_first, sound_row, still_found, still_onward, walk_more, walk_still, walk_then, walk_turns}
use Rattle.cf_request.proofs.laws.linked_composes_end_alike.Goals as goal

links_end_alike : LinksEndAlike
links_end_alike first old linked new before after who composed stage finish opened none calls named form lower h late rest =
    let c = composed.stage in
    let r = composed.relay in
    let sets = h.linked.follows in
    let j = sets.join in
    let m : Machine = record old { teller = h.found } in
    let between = h.linked.between in
    let applied = h.linked.finishes.applies in
    let K = Unit {0} in
    let sound = sound_row first old before (sound_first first none) calls j in
    let found = still_found h.finds.words old.teller h.found h.finds.is in
    let found_sound = called_still K j old m refl found sound in
    let one = called_set K j j m between found_sound.sound sets.sets in
    let among : Contains between.follows j = subst (λ (l : List Join). Contains l j) (sym sets.sets.set) (Contains-append_right old.follows (j ∷ []) j (0, omega arith, refl)) in
    let done = applies finish.word 0 (ToldFinish (finished_as finish.late)) refl applied in
    let two = call K j between linked nothing (λ k. among) one.sound done in
    let linked_follows : linked.follows ≡ between.follows = ap (λ (m : Machine). m.follows) applied.same in
    let among_linked : Contains linked.follows j = subst (λ (l : List Join). Contains l j) (sym linked_follows) among in
    let on = row K j linked new after (λ k. among_linked) two.sound rest in
    let more = λ (l : List Join) (a b : Teller) (same : l ≡ linked.follows) (w : Walk K l j a b). subst (λ (fs : List Join). Walk K fs j a b) (sym on.follows) (walk_more K linked.follows on.more j a b (subst (λ (fs : List Join). Walk K fs j a b) same w)) in
    let to_found = walk_still K new.follows j old.teller h.found found in
    let to_between = more between.follows h.found between.teller (sym linked_follows) one.walk in
    let to_linked = more linked.follows between.teller linked.teller refl two.walk in
    let all = walk_then K new.follows j old.teller h.found new.teller to_found
    (walk_then K new.follows j h.found between.teller new.teller to_between (walk_then K new.follows j between.teller linked.teller new.teller to_linked on.walk)) in
    let last_found = still_found applied.finds.words between.teller applied.found applied.finds.is in
    let b = applied.between in
    let tail = walk_turns K between.follows j between.own applied.catches_up.settles.dues b linked.teller applied.catches_up.settles.are in
    let behind = walk_then K new.follows j b linked.teller new.teller (more between.follows b linked.teller (sym linked_follows) tail) on.walk in
    let front = onward_then old.teller h.found b to_found.on
    (onward_then h.found between.teller b one.walk.on (onward_then between.teller applied.found b (still_onward between.teller applied.found last_found) (onward_word applied.found b finish.word (ToldFinish (finished_as finish.late)) applied.tells.tells))) in
    let plan : (state_of applied.found.ledger).plan ≡ (state_in old).plan = ap (λ (t : Teller). (state_of t.ledger).plan) applied.finds.is ∙ plan_in_turn (IsRelayDue between.follows) old.own sets.sets.catches_up.settles.dues sets.sets.found between.teller sets.sets.catches_up.settles.are
    ∙ ap (λ (t : Teller). (state_of t.ledger).plan) sets.sets.finds.is ∙ ap (λ (t : Teller). (state_of t.ledger).plan) h.finds.is in
    let now = finish_links who composed finish applied.found b (ToldFinish (finished_as finish.late)) named (ap (λ p. composes (form_at p.stages c)) plan ∙ form) lower late h.linked.finishes.word refl applied.tells.tells in
    let ends = ends_by c r old.teller b new.teller front behind.on (behind.linked c r) now in
    let in_new : Contains new.follows j = subst (λ (l : List Join). Contains l j) (sym on.follows) (Contains-append_left linked.follows on.more j among_linked) in
    record {
      settled = λ is. compose_ended c r old.teller new.teller ends (relay_ended (state_in new) new.follows j r stage on.sound.there on.sound.none in_new sets.is is);
      compose = ends;
      relay = λ o. follows_exactly new.follows j r stage (stages_of new.teller.ledger) old.teller new.teller sets.is (All-contains (IsJoin (stages_of new.teller.ledger)) new.follows j on.sound.there in_new) in_new
          (exact_by new.follows j old.teller new.teller in_new on.sound.none (all.fate tt (subst (λ (i : ℕ). is_settled_in (state_in old).stages i ≡ false) (sym sets.is.same) o)));
    }

pub returns : goal.returns
returns c = links_end_alike
