-- How a growing plan is kept: a row for each attached stage, and for each stage the attached ones that name it.
use Rattle.std.specs.Prelude.{◌≡◌, ℕ, ◌+◌, ◌*◌, ◌<◌, ◌≤◌, List, ◌++◌, length, map, reverse, take, All}
use Rattle.cf_plan.specs.declared.growing.AttachedRow.{AttachedRow}
use Rattle.cf_plan.specs.declared.attached_lists.Cell.{Cell}
use Rattle.cf_plan.specs.declared.attached_lists.Head.{Head}
use Rattle.cf_forms.specs.Plans.{IsGrowing, Planned, PlannedStage, dependents_from, dependents_of, edges_of, opening_of, plan_of}
use Rattle.cf_plan.specs.AttachedLists.{AreAttachedLists}

-- the stage that a row stands for
abbrev pub attached_of : AttachedRow → PlannedStage
attached_of row = record { form = row.form; sources = take row.count row.sources; function = row.function }

-- the plan that is kept so
abbrev pub grown_of : Planned → List AttachedRow → ℕ → Planned
grown_of opening rows room = record {
  stages = opening.stages ++ map attached_of rows;
  limits = opening.limits;
  opened = length opening.stages;
  room = room;
}

-- the stages of the opening that name stage i
abbrev pub opening_dependents : Planned → ℕ → List ℕ
opening_dependents plan i = dependents_of (opening_of plan).stages i

-- the attached stages that name stage i, the newest first
abbrev pub attached_dependents_of : Planned → List AttachedRow → ℕ → List ℕ
attached_dependents_of opening rows i = reverse (dependents_from (length opening.stages) (map attached_of rows) i)

-- The rows and lists are those of a plan that grows, and there is room for the rows and cells of all that may be attached, and a list for each stage where one may be. Without its attached stages the plan has room for as many more.
pub record AreGrowing (opening : Planned) (rows : List AttachedRow) (heads : List Head) (cells : List Cell) (room row_room cell_room : ℕ) : Type 0 where
  pub is_opening : opening ≡ plan_of opening.stages opening.limits
  pub growing : IsGrowing (grown_of opening rows room)
  pub short : All (λ (row : AttachedRow). row.count ≤ 2) rows
  pub room_for_rows : length rows + room ≤ row_room
  pub room_for_cells : length cells + 2 * room ≤ cell_room
  pub room_again : 2 * (length rows + room) ≤ cell_room
  pub edges_again : edges_of opening.stages + 2 * (length rows + room) ≤ 16384
  pub all_cells : length cells ≡ edges_of (map attached_of rows)
  pub all_heads : 0 < length rows + room → length heads ≡ length opening.stages + length rows + room
  pub lists : AreAttachedLists heads cells (attached_dependents_of opening rows)
