-- What has become of a stage, and which claims the steps left open.
use Rattle.std.specs.Prelude.{◌≡◌, ◌≢◌, ℕ, Bool, true, false, Option, Some, None, List, slice_get, slice_set, unwrap_or, if◌then◌else◌}
use Rattle.cf_forms.specs.declared.forms.Answer.{Answer}
use Rattle.cf_forms.specs.declared.forms.Answer.TheVariants.{Link as Links}
use Rattle.cf_model.specs.declared.events.Event.{Event}
use Rattle.cf_model.specs.declared.events.Event.TheVariants.{Claim as Claims, Finish as Finishes}
use Rattle.cf_model.specs.declared.events.Reply.{Reply}
use Rattle.cf_model.specs.declared.events.Reply.TheVariants.{Claim as ToldClaim, Finish as ToldFinish}
use Rattle.cf_model.specs.declared.replies.Claimed.TheVariants.{Granted}
use Rattle.cf_model.specs.declared.replies.Finished.TheVariants.{Won}
use Rattle.cf_model.specs.declared.stage.Stage.{Stage}
use Rattle.cf_model.specs.declared.stage.Stage.TheVariants as stages
use Rattle.cf_model.specs.States.{State, stage_at}
use Rattle.cf_picture.specs.declared.notes.Note.{Note}
use Rattle.cf_picture.specs.declared.fate.Fate.{Fate}
use Rattle.cf_picture.specs.declared.fate.Fate.TheVariants.{Pending, Ready, Claimed, Linked, Settled}

-- what has become of a stage that was claimed: a caller has its function while the claim that a step made is open
abbrev pub claimed_or_linked : Bool → Fate
claimed_or_linked is_open = if is_open then Claimed else Linked

-- what has become of a stage, of whose claim it was noted whether it is open
abbrev pub fate_in : Stage → Bool → Fate
fate_in stages.Pending is_open = Pending
fate_in (stages.Ready args) is_open = Ready
fate_in stages.Claimed is_open = claimed_or_linked is_open
fate_in (stages.Linked j) is_open = claimed_or_linked is_open
fate_in (stages.Settled o) is_open = Settled o

-- no other stage than i has changed
abbrev pub IsElsewhereAs : ℕ → State → State → Type 0
IsElsewhereAs i s s' = (j : ℕ) → j ≢ i → stage_at s' j ≡ stage_at s j

-- of a stage that no step claimed
abbrev pub no_note : Note
no_note = record { is_open = false; link = None }

-- the stage that an answer links to
abbrev pub linked_by : Answer → Option ℕ
linked_by (Links j) = Some j
linked_by answer = None

-- with this note of a stage
abbrev pub with_note : List Note → ℕ → Bool → Option ℕ → List Note
with_note notes i is_open link = slice_set notes i (record { is_open = is_open; link = link })

-- the notes once an event was answered so: a granted claim is open, and the finish that won closes it
abbrev pub noted : Event → Reply → List Note → List Note
noted (Claims who i) (ToldClaim (Granted args)) notes = with_note notes i true None
noted (Finishes who i answer) (ToldFinish Won) notes = with_note notes i false (linked_by answer)
noted event reply notes = notes

-- the note of a stage
abbrev pub note_at : List Note → ℕ → Note
note_at notes i = unwrap_or (slice_get notes i) no_note
