-- What acts are told is so, behind any calls.
use Rattle.std.proofs.Common.{◌≡◌, ℕ, zero, suc, ◌<◌, Option, Some, None, List, [], ◌∷◌, ◌++◌, drop, length, ap, sym, ◌∙◌, subst, append_assoc, arith}
use Rattle.std.specs.Prelude.{slice_get}
use Rattle.std.specs.List.{remove}
use Rattle.std.proofs.Math.Seq.{drop-append_seam}
use Rattle.cf_row.specs.declared.entry.Entry.{Entry}
use Rattle.cf_row.specs.Rows.{BeginsWith, Replica, StandsAt, stages_of}
use Rattle.cf_row.specs.Puts.{Row, StandsOnce, stamped}
use Rattle.cf_notes.specs.declared.noted.Noted.{Noted}
use Rattle.cf_notes.specs.declared.wants.Want.{Want}
use Rattle.cf_due.specs.declared.acts.Act.{Act}
use Rattle.cf_due.specs.declared.acts.Acting.{Acting}
use Rattle.cf_due.specs.Acts.{IsActing}
use Rattle.cf_part.specs.Parts.{words_wanted}
use Rattle.cf_turn.specs.declared.wish.Told.{Told}
use Rattle.cf_turn.specs.declared.wish.Told.TheVariants.{Stands, Not, Refused, Unknown, Closed, Ended}
use Rattle.cf_turn.specs.declared.wish.Wish.{Wish}
use Rattle.cf_turn.specs.Works.{answered_first, stage_of}
use Rattle.cf_turn.specs.Turns.{wants_with}
use Rattle.cf_turn.specs.Answers.{wishes_standing}
use Rattle.cf_turn.specs.Truth.{StandsIn}

-- ---- answers

-- an answer that is kept is so: it stands, or it was refused
abbrev pub IsSoKept : List Entry → Act → Option Told → Type 0
IsSoKept row act None = Unit {0}
IsSoKept row act (Some (Stands i)) = StandsIn row act i
IsSoKept row act (Some Refused) = Unit {0}
IsSoKept row act (Some (Not why)) = ⊥
IsSoKept row act (Some Unknown) = ⊥
IsSoKept row act (Some Closed) = ⊥
IsSoKept row act (Some (Ended fault)) = ⊥

-- each of these is
abbrev pub AreSo : List Entry → List Wish → Type 0
AreSo row [] = Unit {0}
AreSo row (w ∷ wishes) = IsSoKept row w.act w.answer × AreSo row wishes

pub so_at : (row : List Entry) (wishes : List Wish) (k : ℕ) (w : Wish) → AreSo row wishes → slice_get wishes k ≡ Some w → IsSoKept row w.act w.answer
so_at row [] k w so at = (let no : ⊥ = cc in absurd no)
so_at row (x ∷ wishes) zero w so at = (let same : x ≡ w = cc in subst (λ (v : Wish). IsSoKept row v.act v.answer) same so.0)
so_at row (x ∷ wishes) (suc k) w so at = so_at row wishes k w so.1 at

pub so_append : (row : List Entry) (xs ys : List Wish) → AreSo row xs → AreSo row ys → AreSo row (xs ++ ys)
so_append row [] ys h k = k
so_append row (x ∷ xs) ys h k = (h.0, so_append row xs ys h.1 k)

pub so_remove : (row : List Entry) (xs : List Wish) (k : ℕ) → AreSo row xs → AreSo row (remove xs k)
so_remove row [] zero h = tt
so_remove row [] (suc k) h = tt
so_remove row (x ∷ xs) zero h = h.1
so_remove row (x ∷ xs) (suc k) h = (h.0, so_remove row xs k h.1)

pub so_refused : (row : List Entry) (xs : List Wish) → AreSo row xs → AreSo row (answered_first Refused xs)
so_refused row [] h = tt
so_refused row (x ∷ xs) h = (tt, h.1)

-- ---- the put of the first act

-- the put that is under way is that of the first act, and does what was asked where it stands
pub record ActsFirst (wishes : List Wish) (r : Row) : Type 0 where
  pub wish : Wish
  pub rest : List Wish
  pub are : wishes ≡ wish ∷ rest
  pub view : Replica
  pub notes : List Noted
  pub acting : Acting
  pub token : ℕ
  pub does : IsActing view notes wish.act acting
  pub put : r.put ≡ stamped token (words_wanted (wants_with acting.first acting.second))
  pub seen : r.replica.seen ≡ view.seen
  pub stages : stages_of r.replica ≡ stages_of view

some_words : (token : ℕ) (first : Want) (second : Option Want) → 0 < length (stamped token (words_wanted (wants_with first second)))
some_words token first None = omega arith
some_words token first (Some want) = omega arith

pub has_put : (wishes : List Wish) (r : Row) → ActsFirst wishes r → 0 < length r.put
has_put wishes r h = subst (λ (l : List Entry). 0 < length l) (sym h.put) (some_words h.token h.acting.first h.acting.second)

-- ---- where it stands

pub stands_behind : (row seen put : List Entry) → BeginsWith row (seen ++ put) → StandsAt row (length seen) put
stands_behind row seen put h = record {
  rest = h.rest;
  is = ap (λ (l : List Entry). drop (length seen) l) (h.is ∙ append_assoc seen put h.rest) ∙ drop-append_seam seen (put ++ h.rest);
}

pub stands_once : (row put : List Entry) (place : ℕ) → StandsOnce row place put → StandsAt row place put
stands_once row put place h =
    subst (λ (n : ℕ). StandsAt row n put) h.count (record {
      rest = h.rest;
      is = ap (λ (l : List Entry). drop (length h.front) l) h.is ∙ drop-append_seam h.front (put ++ h.rest);
    })

pub begins_front : (row seen more : List Entry) → BeginsWith row (seen ++ more) → BeginsWith row seen
begins_front row seen more h = record { rest = more ++ h.rest; is = h.is ∙ append_assoc seen more h.rest }

-- the first one is told so
pub so_standing : (row : List Entry) (wishes : List Wish) (r : Row) → AreSo row wishes → (h : ActsFirst wishes r) → BeginsWith row r.replica.seen →
    StandsAt row (length r.replica.seen) r.put → AreSo row (wishes_standing (stages_of r.replica) wishes)
so_standing row wishes r so h begins stands =
    subst (λ (l : List Wish). AreSo row (wishes_standing (stages_of r.replica) l)) (sym h.are) (
      record {
        view = h.view;
        notes = h.notes;
        acting = h.acting;
        token = h.token;
        begins = subst (λ (l : List Entry). BeginsWith row l) h.seen begins;
        does = h.does;
        stand = subst (λ (l : List Entry). StandsAt row (length l) (stamped h.token (words_wanted (wants_with h.acting.first h.acting.second)))) h.seen
            (subst (λ (l : List Entry). StandsAt row (length r.replica.seen) l) h.put stands);
        stage = ap (λ (n : ℕ). stage_of n h.wish.act) h.stages;
      },
      (subst (λ (l : List Wish). AreSo row l) h.are so).1,
    )
