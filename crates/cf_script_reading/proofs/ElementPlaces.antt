-- Where a step's stage stands: as the steps are read, and as the table of their elements says.
use Rattle.std.proofs.Common.{◌≡◌, ℕ, List, Bool, true, false, Option, Some, None, refl, sym, subst}
use Rattle.std.specs.Prelude.{◌==◌, codes, option_and_then, option_map, if◌then◌else◌}
use Rattle.std.specs.Option.{option_or}
use Rattle.std.specs.Str.{bytes_eq}
use Rattle.std.proofs.lemmas.Slice.Eq.{bytes_eq-Decides}
use Rattle.serde_json.specs.Data.{Data}
use Rattle.serde_json.specs.Find.{at, get, as_str}
use Rattle.cf_outcome.specs.declared.outcome.Value.TheVariants.{Nil}
use Rattle.cf_model.specs.declared.asks.Ask.TheVariants.{Now as AsksNow}
use Rattle.cf_script_reading.specs.declared.func.Func.{Func}
use Rattle.cf_script_reading.specs.declared.script.Step.{Step}
use Rattle.cf_script_reading.specs.declared.script.Step.TheVariants.{Asks}
use Rattle.cf_script_reading.specs.declared.version.Version.{Version}
use Rattle.cf_script_reading.specs.declared.version.Version.TheVariants as versions
use Rattle.cf_script_reading.specs.Attaching.{attach_said, can_attach, few_sources_said}
use Rattle.cf_script_reading.specs.Elements.{StagesStandWhereTold, elements_of, other_elements, stage_named, stage_there}
use Rattle.cf_script_reading.specs.Funcs.{function_said}
use Rattle.cf_script_reading.specs.Parts.{◌>>=◌, elements, exactly, number_at, stage_at, value_at}
use Rattle.cf_script_reading.specs.Stages.{form_of, number_after}
use Rattle.cf_script_reading.specs.Steps.{answer_at, caller_at, cancel_said, claim_said, complete_said, fail_as_said, fail_said, failure_code, failure_named, finish_said, now_said, nudge_said, other_step, outcome_said, own_step, step_alone, step_named, step_worded, tick_said, work_said}

-- ---- what is read, if anything, names this stage, or none

abbrev Names : Option ℕ → Option Step → Type 0
Names i None = Unit {0}
Names i (Some s) = stage_named s ≡ i

abbrev NamesToo : Option ℕ → Option (Step × Option Func) → Type 0
NamesToo i None = Unit {0}
NamesToo i (Some said) = stage_named said.0 ≡ i

names-next : {A : Type 0} (i : Option ℕ) (o : Option A) (next : A → Option Step) → ((x : A) → o ≡ Some x → Names i (next x)) → Names i (o >>= next)
names-next i None next h = tt
names-next i (Some x) next h = h x refl

names-too-next : {A : Type 0} (i : Option ℕ) (o : Option A) (next : A → Option (Step × Option Func)) → ((x : A) → NamesToo i (next x)) → NamesToo i (o >>= next)
names-too-next i None next h = tt
names-too-next i (Some x) next h = h x

names-too-if : (i : Option ℕ) (b : Bool) (x : Step × Option Func) → stage_named x.0 ≡ i → NamesToo i (if b then Some x else None)
names-too-if i true x h = h
names-too-if i false x h = tt

names-if : (i : Option ℕ) (b : Bool) (x y : Option Step) → Names i x → Names i y → Names i (if b then x else y)
names-if i true x y h k = h
names-if i false x y h k = k

names-or : (i : Option ℕ) (x y : Option Step) → Names i x → Names i y → Names i (option_or x y)
names-or i None y h k = k
names-or i (Some s) y h k = h

names-alone : (i : Option ℕ) (o : Option Step) → Names i o → NamesToo i (option_map (λ s. (s, None)) o)
names-alone i None h = tt
names-alone i (Some s) h = h

names-now : (i : Option ℕ) → Names i (option_map (λ j. Asks (AsksNow j Nil)) i)
names-now None = tt
names-now (Some j) = refl

-- ---- each step by itself

module _ (stages : ℕ) (d : Data) where
  abbrev there : List ℕ → Option ℕ
  there = stage_there stages d

  complete : Names (there (codes "complete")) (complete_said stages d)
  unfolding complete_said elements_of
  complete = names-next _ (exactly 3 d) _ (λ here w. names-next _ (stage_at stages 1 d) _ (λ i is. names-next _ (value_at 2 d) _ (λ v u. sym is)))

  fail : Names (there (codes "fail")) (fail_said stages d)
  unfolding fail_said elements_of
  fail = names-next _ (exactly 3 d) _ (λ here w. names-next _ (stage_at stages 1 d) _ (λ i is. names-next _ (number_at 4294967295 2 d) _ (λ v u. sym is)))

  fail_as : Names (there (codes "failAs")) (fail_as_said stages d)
  unfolding fail_as_said elements_of
  fail_as = names-next _ (failure_code d) _ (λ code w. names-next _ (stage_at stages 1 d) _ (λ i is. names-next _ (option_and_then (failure_named code) (option_and_then as_str (at 2 d))) _ (λ v u. sym is)))

  cancel : Names (there (codes "cancel")) (cancel_said stages d)
  unfolding cancel_said elements_of
  cancel = names-next _ (exactly 2 d) _ (λ here w. names-next _ (stage_at stages 1 d) _ (λ i is. sym is))

  tick : Names (there (codes "tick")) (tick_said d)
  unfolding tick_said elements_of
  tick = names-next _ (exactly 2 d) _ (λ here w. names-next _ (number_at 4294967295 1 d) _ (λ m u. refl))

  claim : Names (there (codes "claim")) (claim_said stages d)
  unfolding claim_said elements_of other_elements
  claim = names-next _ (exactly 3 d) _ (λ here w. names-next _ (caller_at 1 d) _ (λ who u. names-next _ (stage_at stages 2 d) _ (λ i is. sym is)))

  finish : Names (there (codes "finish")) (finish_said stages d)
  unfolding finish_said elements_of other_elements
  finish = names-next _ (exactly 4 d) _ (λ here w. names-next _ (caller_at 1 d) _ (λ who u. names-next _ (stage_at stages 2 d) _ (λ i is. names-next _ (answer_at 3 d) _ (λ a x. sym is))))

  now : Names (there (codes "now")) (now_said stages d)
  unfolding now_said elements_of other_elements
  now = names-if _ (elements d == 2) _ _ (names-now (stage_at stages 1 d))
      (names-next _ (exactly 3 d) _ (λ here w. names-next _ (stage_at stages 1 d) _ (λ i is. names-next _ (value_at 2 d) _ (λ v u. sym is))))

  outcome : Names (there (codes "outcome")) (outcome_said stages d)
  unfolding outcome_said elements_of other_elements
  outcome = names-next _ (exactly 2 d) _ (λ here w. names-next _ (stage_at stages 1 d) _ (λ i is. sym is))

  work : Names (there (codes "work")) (work_said d)
  unfolding work_said elements_of other_elements
  work = names-next _ (exactly 1 d) _ (λ here w. refl)

  nudge : Names (there (codes "nudge")) (nudge_said d)
  unfolding nudge_said elements_of other_elements
  nudge = names-next _ (exactly 2 d) _ (λ here w. names-next _ (number_at 4294967295 1 d) _ (λ k u. refl))

  attach : (functions : List Func) → NamesToo (there (codes "attach")) (attach_said stages functions d)
  unfolding attach_said elements_of other_elements
  attach functions =
      names-too-next _ (exactly 2 d) _ (λ here.
      names-too-next _ (at 1 d) _ (λ stage.
      names-too-next _ (form_of versions.Two stage) _ (λ form.
      names-too-next _ (few_sources_said stages (get (codes "of") stage)) _ (λ of.
      names-too-next _ (function_said (get (codes "fn") stage)) _ (λ function.
      names-too-if _ (can_attach form of (number_after functions function)) _ refl)))))

  -- ---- and by its word

  tested-by : (b : Bool) (word text : List ℕ) (x y : Option Step) → (b ≡ true → word ≡ text) → Names (there text) x → Names (there word) y → Names (there word) (if b then x else y)
  tested-by true word text x y is h k = subst (λ w. Names (there w) x) (sym (is refl)) h
  tested-by false word text x y is h k = k

  tested : (word text : List ℕ) (x y : Option Step) → Names (there text) x → Names (there word) y → Names (there word) (if bytes_eq word text then x else y)
  tested word text x y h k = tested-by (bytes_eq word text) word text x y (λ e. (bytes_eq-Decides word text).0 e) h k

  tested-too-by : (b : Bool) (word text : List ℕ) (x y : Option (Step × Option Func)) → (b ≡ true → word ≡ text) → NamesToo (there text) x → NamesToo (there word) y → NamesToo (there word) (if b then x else y)
  tested-too-by true word text x y is h k = subst (λ w. NamesToo (there w) x) (sym (is refl)) h
  tested-too-by false word text x y is h k = k

  tested-too : (word text : List ℕ) (x y : Option (Step × Option Func)) → NamesToo (there text) x → NamesToo (there word) y → NamesToo (there word) (if bytes_eq word text then x else y)
  tested-too word text x y h k = tested-too-by (bytes_eq word text) word text x y (λ e. (bytes_eq-Decides word text).0 e) h k

  own : (word : List ℕ) → Names (there word) (own_step stages d word)
  unfolding own_step
  own word =
      tested word (codes "complete") _ _ complete (
      tested word (codes "fail") _ _ fail (
      tested word (codes "cancel") _ _ cancel (
      tested word (codes "tick") _ _ tick tt)))

  other : (word : List ℕ) → Names (there word) (other_step stages d word)
  unfolding other_step
  other word =
      tested word (codes "claim") _ _ claim (
      tested word (codes "finish") _ _ finish (
      tested word (codes "now") _ _ now (
      tested word (codes "outcome") _ _ outcome (
      tested word (codes "work") _ _ work (
      tested word (codes "nudge") _ _ nudge tt)))))

  named : (word : List ℕ) → Names (there word) (step_named stages d word)
  unfolding step_named
  named word = names-or _ (own_step stages d word) (other_step stages d word) (own word) (other word)

  alone : (word : List ℕ) → NamesToo (there word) (step_alone stages d word)
  alone word = names-alone _ (step_named stages d word) (named word)

  worded : (version : Version) (functions : List Func) (word : List ℕ) → NamesToo (there word) (step_worded version stages functions d word)
  unfolding step_worded
  worded versions.One functions word = alone word
  worded versions.Two functions word = tested-too word (codes "attach") _ _ (attach functions) (alone word)
  worded versions.Three functions word =
      tested-too word (codes "attach") _ _ (attach functions) (
      tested-too word (codes "failAs") _ _ (names-alone _ (fail_as_said stages d) fail_as) (alone word))

names-of : (i : Option ℕ) (o : Option (Step × Option Func)) (said : Step × Option Func) → o ≡ Some said → NamesToo i o → stage_named said.0 ≡ i
names-of i o said e h = (let there : NamesToo i (Some said) = subst (NamesToo i) e h in there)

pub stages_stand : StagesStandWhereTold
stages_stand version stages functions d word said e = names-of _ _ said e (worded stages d version functions word)
