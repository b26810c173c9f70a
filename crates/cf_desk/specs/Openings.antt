-- How a desk is opened.
use Rattle.std.specs.Prelude.{◌≡◌, ℕ, ◌-◌, List, []}
use Rattle.atomic_table.specs.Seated.{TableId}
use Rattle.atomic_table.specs.Table.{Me}
use Rattle.cf_forms.specs.Plans.{Planned, with_room}
use Rattle.cf_desk.specs.declared.desk.Opening.{Opening}
use Rattle.cf_desk.specs.declared.row.CallerView.{CallerView}
use Rattle.cf_desk.specs.declared.row.DeskConfig.{DeskConfig}
use Rattle.cf_desk.specs.declared.sizes.DeskGrowth.{DeskGrowth}
use Rattle.cf_desk.specs.declared.sizes.DeskSizes.{DeskSizes}
use Rattle.cf_desk.specs.Functions.{function_bound}
use Rattle.cf_desk.specs.Rule.{blank, fresh}
use Rattle.cf_desk.specs.Views.{Desk, Pass, new_pass, opened}

-- what a desk is opened with to which no stage can be attached: the plan itself, and as many functions as it names
abbrev pub fixed_setting : Planned → DeskSizes → DeskConfig
fixed_setting plan sizes = record { plan = plan; callers = sizes.callers; functions = function_bound plan.stages }

-- what a desk is opened with that may grow so far: the plan with this room, and so many functions
abbrev pub growing_setting : Planned → DeskSizes → DeskGrowth → DeskConfig
growing_setting plan sizes growth =
    record { plan = with_room plan growth.room; callers = sizes.callers; functions = growth.functions }

-- the desk has this setting and so many words, and these are its callers' passes, none of which has seen or recorded anything
abbrev pub IsOpened : DeskConfig → DeskSizes → Desk → List Pass → Type 0
IsOpened setting sizes d passes = (d.setting ≡ setting) × (d.words ≡ sizes.log) × (passes ≡ opened d.table d.setting sizes.calls)

-- the setting of the desk that is being opened
abbrev pub setting_of : Opening → DeskConfig
setting_of opening = growing_setting opening.plan.now opening.sizes opening.growth

-- a row of so many words, and no slots
abbrev pub IsRowOf : ℕ → TableId → Type 0
IsRowOf words z = (z.words ≡ words) × (z.slots ≡ 0)

-- a seat stands for the passes of this caller and of each after it, none of which has seen anything
abbrev pub StandsFrom : ℕ → Opening → Me ℕ (List CallerView) → Type 0
StandsFrom caller opening me = me ≡ (fresh (setting_of opening) caller (opening.sizes.callers - caller), [])

-- and for those of all callers
abbrev pub StandsForAll : Opening → Me ℕ (List CallerView) → Type 0
StandsForAll opening me = me ≡ (fresh (setting_of opening) 0 opening.sizes.callers, [])

-- the pass of this caller at its row, and those of all callers
abbrev pub pass_at : Opening → TableId → ℕ → Pass
pass_at opening z caller = new_pass z opening.sizes.calls (blank (setting_of opening) caller)

abbrev pub passes_at : Opening → TableId → List Pass
passes_at opening z = opened z (setting_of opening) opening.sizes.calls
