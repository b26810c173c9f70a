-- Which limits never fire, since another settles their stage first.
use Rattle.std.specs.Prelude.{ℕ, ◌+◌, Bool, Option, Some, None, List, [], ◌∷◌, ◌++◌, ◌&&◌, ◌||◌, ◌==◌, nat_lt, codes, if◌then◌else◌, option_and_then, unwrap_or}
use Rattle.serde_json.specs.Data.{Data, Items, no_items, item}
use Rattle.serde_json.specs.Find.{get, as_array, as_number, as_u64}
use Rattle.cf_explain.specs.declared.behind.Firing.{Firing}
use Rattle.cf_explain.specs.declared.remark.Remark.{Remark}
use Rattle.cf_explain.specs.declared.remark.Remark.TheVariants.{Behind}
use Rattle.cf_explain.specs.Places.{limit_place}

-- limit j fires before limit k could, and on the same stage: earlier, or at the same moment and given before it
abbrev pub fires_before : ℕ → Firing → ℕ → Firing → Bool
fires_before j other k limit = (other.stage == limit.stage) && (nat_lt other.at limit.at || ((other.at == limit.at) && nat_lt j k))

-- the first of these limits, which are numbered from j on, that fires before limit k could
abbrev pub first_from : ℕ → List Firing → ℕ → Firing → Option ℕ
first_from j [] k limit = None
first_from j (other ∷ others) k limit = if fires_before j other k limit then Some j else first_from (j + 1) others k limit

-- what is remarked of limit k, whose stage this limit settles first, if one does
abbrev pub behind_remarks : ℕ → Option ℕ → List Remark
behind_remarks k None = []
behind_remarks k (Some j) = Behind (limit_place k) (limit_place j) ∷ []

-- what is remarked of limit k among all
abbrev pub remarks_of_limit : List Firing → ℕ → Firing → List Remark
remarks_of_limit all k limit = behind_remarks k (first_from 0 all k limit)

-- what is remarked of limits that are numbered from k on, each among all
abbrev pub behinds_from : List Firing → ℕ → List Firing → List Remark
behinds_from all k [] = []
behinds_from all k (limit ∷ limits) = remarks_of_limit all k limit ++ behinds_from all (k + 1) limits

-- a number by its name, 0 where there is none
abbrev pub number_in : Option Data → ℕ
number_in said = unwrap_or (option_and_then as_u64 (option_and_then as_number said)) 0

-- when a limit fires, and on which stage, as it is written
abbrev pub firing_of : Data → Firing
firing_of d = record { stage = number_in (get (codes "stage") d); at = number_in (get (codes "at") d) }

abbrev pub firings_of : Items → List Firing
firings_of no_items = []
firings_of (item d ds) = firing_of d ∷ firings_of ds

-- the items of an array, none of what is no array
abbrev pub items_in : Option Data → Items
items_in said = unwrap_or (option_and_then as_array said) no_items

-- the limits of a script as they are written, and what is remarked of them
abbrev pub firings_said : Data → List Firing
firings_said d = firings_of (items_in (get (codes "limits") d))

abbrev pub behinds : Data → List Remark
behinds d = behinds_from (firings_said d) 0 (firings_said d)
