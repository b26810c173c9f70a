-- What is kept of a part as it is opened, and as a put is planned.
use Rattle.std.proofs.Common.{◌≡◌, ℕ, ◌≤◌, Option, None, List, [], length, refl, ap, sym, ◌∙◌, subst, arith}
use Rattle.cf_forms.specs.Plans.{Planned, with_room}
use Rattle.cf_notes.specs.declared.note.Note.{Note}
use Rattle.cf_notes.specs.declared.wants.Owed.{Owed}
use Rattle.cf_notes.specs.declared.wants.Want.{Want}
use Rattle.cf_notes.specs.Noting.{noted_plan}
use Rattle.cf_notes.specs.Tables.{Table}
use Rattle.cf_notes.proofs.NamedStages.{notes_name}
use Rattle.cf_row.specs.Rows.{Replica, words_in}
use Rattle.cf_row.specs.Puts.{Plans, Row}
use Rattle.cf_row.proofs.Tokens.{stamped_count, stamped_words}
use Rattle.cf_part.specs.declared.progress.Progress.{Progress}
use Rattle.cf_part.specs.declared.question.Question.{Question}
use Rattle.cf_part.specs.Parts.{AreOfStages, FitsPut, IsPutOfWants, IsSound, most_wants, places_of, words_wanted}

-- ---- a part that is opened

-- there are as many notes as stages, and places for the room
pub opened_stages : (plan : Planned) (notes : List Note) (room : ℕ) (r : Replica) (table : Table) → length notes ≡ length plan.stages →
    r ≡ (record { plan = with_room plan room; session = r.session; seen = []; records = []; free = 0 }) → table ≡ (record { stages = noted_plan [] plan.stages notes; room = room }) → AreOfStages r table
opened_stages plan notes room r table same is noted =
    let count = (notes_name plan notes [] [] same refl).each_stage in
    subst (λ (q : Replica). AreOfStages q table) (sym is) (subst (AreOfStages (record { plan = with_room plan room; session = r.session; seen = []; records = []; free = 0 })) (sym noted)
    (record { each_stage = count; places = omega (arith, count) }))

-- ---- a put that is planned

put_planned : (old new : Row) (wants : List Want) → Plans old (words_wanted wants) new → length wants ≤ most_wants → IsPutOfWants new wants
put_planned old new wants h few =
    let words = words_wanted wants in
    let count : length new.put ≡ length words = ap length h.put ∙ stamped_count old.next words in
    let found = ap (λ (r : Replica). r.free) h.replica in
    record {
      words = sym (ap words_in h.put ∙ stamped_words old.next words);
      few = few;
      memory = omega (arith, count, found);
    }

pub planned_sound : (old new : Row) (calls : List Progress) (owed : List (Option Owed)) (wanted : List (Option ℕ)) (before wants : List Want) (asked : Option Question) → asked ≡ None → IsSound old calls owed wanted before asked →
    Plans old (words_wanted wants) new → length wants ≤ most_wants → IsSound new calls owed wanted wants asked
planned_sound old new calls owed wanted before wants asked none h p few =
    let places = ap (λ (r : Replica). places_of r.plan) p.replica in
    let most = h.few in
    record {
      of_calls = h.of_calls ∙ sym places;
      of_owed = h.of_owed ∙ sym places;
      of_wanted = h.of_wanted ∙ sym places;
      few = omega (arith, places, most);
      put = put_planned old new wants p few;
      fits = subst (FitsPut new) (sym none) tt;
    }

pub planned_stages : (old new : Row) (words : List ℕ) (notes : Table) → Plans old words new → AreOfStages old.replica notes → AreOfStages new.replica notes
planned_stages old new words notes p are = subst (λ (r : Replica). AreOfStages r notes) (sym p.replica) (record { each_stage = are.each_stage; places = are.places })
