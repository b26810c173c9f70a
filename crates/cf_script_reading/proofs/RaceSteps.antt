-- The steps that a race reads, beside those that a run reads.
use Rattle.std.proofs.Common.{◌≡◌, ◌≤◌, ◌+◌, ℕ, zero, suc, List, [], ◌∷◌, ◌++◌, length, All, Bool, true, false, Option, Some, None, Result, Ok, Err, refl, sym, ap, subst, ◌∙◌, arith, append_assoc, append-nil, inl, inr}
use Rattle.std.specs.Prelude.{◌⊎◌, nat_lt}
use Rattle.std.proofs.lemmas.List.{length-append}
use Rattle.std.proofs.lemmas.List.Elements.{All-push, All-head, All-tail}
use Rattle.serde_json.specs.Data.{Data, Items, no_items, item}
use Rattle.cf_script_reading.specs.declared.fault.ReadingFault.{ReadingFault}
use Rattle.cf_script_reading.specs.declared.fault.ReadingFault.TheVariants as faults
use Rattle.cf_script_reading.specs.declared.purpose.Purpose.TheVariants.{Run, Race}
use Rattle.cf_script_reading.specs.declared.script.Step.{Step}
use Rattle.cf_script_reading.specs.declared.func.Func.{Func}
use Rattle.cf_script_reading.specs.declared.version.Version.{Version}
use Rattle.cf_script_reading.specs.Checks.{◌>>=◌, fold_items}
use Rattle.cf_script_reading.specs.ReadingProgress.{Progress, with_step}
use Rattle.cf_script_reading.specs.Purposes.{takes_in_race, IsForRace}
use Rattle.cf_script_reading.specs.RaceReadings.{first_items}
use Rattle.cf_script_reading.specs.Steps.{step_next, step_said}

-- ---- lists of steps

last_same : (xs : List Step) (a b : Step) → xs ++ a ∷ [] ≡ xs ++ b ∷ [] → a ≡ b
last_same [] a b e = cc
last_same (x ∷ xs) a b e = let f : xs ++ a ∷ [] ≡ xs ++ b ∷ [] = cc in last_same xs a b f

pub among : (xs : List Step) (a : Step) (more : List Step) → All IsForRace ((xs ++ a ∷ []) ++ more) → takes_in_race a ≡ true
among [] a more h = All-head IsForRace a more h
among (x ∷ xs) a more h = among xs a more (All-tail IsForRace x ((xs ++ a ∷ []) ++ more) h)

-- ---- one step, and many

module _ (version : Version) where
  abbrev run : Progress → Data → Result Progress ReadingFault
  run = step_next Run version

  abbrev race : Progress → Data → Result Progress ReadingFault
  race = step_next Race version

  abbrev pub runs : Progress → Items → Result Progress ReadingFault
  runs = fold_items run

  abbrev pub races : Progress → Items → Result Progress ReadingFault
  races = fold_items race

  -- the next step is one, which a race takes or not
  record Is (found : Progress) (d : Data) : Type 0 where
    said : Step × Option Func
    runs_on : run found d ≡ Ok (with_step found said)
    taken : takes_in_race said.0 ≡ true → race found d ≡ Ok (with_step found said)
    refused : takes_in_race said.0 ≡ false → race found d ≡ Err (faults.Step (length found.steps))

  -- or it's none
  record IsNone (found : Progress) (d : Data) : Type 0 where
    run_told : run found d ≡ Err (faults.Step (length found.steps))
    race_told : race found d ≡ Err (faults.Step (length found.steps))

  next_by : (found : Progress) (d : Data) (b : Bool) (o : Option (Step × Option Func)) → nat_lt (length found.steps) 20000 ≡ b → step_said version found d ≡ o → Is found d ⊎ IsNone found d
  unfolding step_next
  next_by found d false o few is = inr (record { run_told = rw few refl; race_told = rw few refl })
  next_by found d true None few is = inr (record { run_told = rw (few, is) refl; race_told = rw (few, is) refl })
  next_by found d true (Some said) few is = inl (record {
    said = said;
    runs_on = rw (few, is) refl;
    taken = λ t. rw (few, is, t) refl;
    refused = λ t. rw (few, is, t) refl;
  })

  next : (found : Progress) (d : Data) → Is found d ⊎ IsNone found d
  next found d = next_by found d (nat_lt (length found.steps) 20000) (step_said version found d) refl refl

  -- these steps stay, and a fault comes behind them
  abbrev pub After : List Step → Result Progress ReadingFault → Type 0
  After found (Ok progress) = (more : List Step) × (progress.steps ≡ found ++ more)
  After found (Err fault) = (k : ℕ) × (fault ≡ faults.Step k) × (length found ≤ k)

  longer : (found : List Step) (step : Step) (r : Result Progress ReadingFault) → After (found ++ step ∷ []) r → After found r
  longer found step (Ok progress) h = (step ∷ h.0, h.1 ∙ append_assoc found (step ∷ []) h.0)
  longer found step (Err fault) h = let one = length-append found (step ∷ []) in (h.0, h.1, omega arith)

  after : (items : Items) (found : Progress) → After found.steps (runs found items)
  unfolding fold_items
  after no_items found = ([], sym (append-nil found.steps))
  after (item d items) found = elim (next found d) [
    | inl is ↦ subst (λ r. After found.steps (r >>= λ t. runs t items)) (sym is.runs_on) (longer found.steps is.said.0 (runs (with_step found is.said) items) (after items (with_step found is.said)))
    | inr none ↦ subst (λ r. After found.steps (r >>= λ t. runs t items)) (sym none.run_told) (length found.steps, refl, omega arith)
  ]

  -- after the steps before it comes one that a race doesn't take
  pub record Alone (found : Progress) (items : Items) (m : ℕ) (before : Progress) : Type 0 where
    pub step : Step
    pub with_it : Progress
    pub goes_on : runs found (first_items (suc m) items) ≡ Ok with_it
    pub adds : with_it.steps ≡ before.steps ++ step ∷ []
    pub not_taken : takes_in_race step ≡ false
    pub rest : After (before.steps ++ step ∷ []) (runs found items)

  -- all steps are a race's
  pub record Same (found : Progress) (items : Items) : Type 0 where
    pub progress : Progress
    pub run_ok : runs found items ≡ Ok progress
    pub race_ok : races found items ≡ Ok progress
    pub for_race : All IsForRace progress.steps

  -- step k is the first that isn't
  pub record Differ (found : Progress) (items : Items) : Type 0 where
    pub m : ℕ
    pub before : Progress
    pub reads : runs found (first_items m items) ≡ Ok before
    pub count : length before.steps ≡ length found.steps + m
    pub for_race : All IsForRace before.steps
    pub race_told : races found items ≡ Err (faults.Step (length before.steps))
    pub wrong : (runs found items ≡ Err (faults.Step (length before.steps))) ⊎ Alone found items m before

  cases-is : (d : Data) (items : Items) (found : Progress) → All IsForRace found.steps → (is : Is found d) →
      (All IsForRace (with_step found is.said).steps → Same (with_step found is.said) items ⊎ Differ (with_step found is.said) items) →
      (b : Bool) → takes_in_race is.said.0 ≡ b → Same found (item d items) ⊎ Differ found (item d items)
  unfolding fold_items
  cases-is d items found h is rest false e =
      let on = ap (λ r. r >>= λ t. runs t items) is.runs_on in
      inr (record {
        m = zero;
        before = found;
        reads = refl;
        count = omega arith;
        for_race = h;
        race_told = ap (λ r. r >>= λ t. races t items) (is.refused e);
        wrong = inr (record {
          step = is.said.0;
          with_it = with_step found is.said;
          goes_on = ap (λ r. r >>= λ t. runs t no_items) is.runs_on;
          adds = refl;
          not_taken = e;
          rest = subst (After (found.steps ++ is.said.0 ∷ [])) (sym on) (after items (with_step found is.said));
        });
      })
  cases-is d items found h is rest true e =
      let one = length-append found.steps (is.said.0 ∷ []) in
      let on = ap (λ r. r >>= λ t. runs t items) is.runs_on in
      elim (rest (All-push IsForRace found.steps is.said.0 h e)) [
        | inl same ↦ inl (record { progress = same.progress; run_ok = on ∙ same.run_ok; race_ok = ap (λ r. r >>= λ t. races t items) (is.taken e) ∙ same.race_ok; for_race = same.for_race })
        | inr w ↦ inr (record {
          m = suc w.m;
          before = w.before;
          reads = ap (λ r. r >>= λ t. runs t (first_items w.m items)) is.runs_on ∙ w.reads;
          count = let count = w.count in omega arith;
          for_race = w.for_race;
          race_told = ap (λ r. r >>= λ t. races t items) (is.taken e) ∙ w.race_told;
          wrong = elim w.wrong [
            | inl told ↦ inl (on ∙ told)
            | inr alone ↦ inr (record {
              step = alone.step;
              with_it = alone.with_it;
              goes_on = ap (λ r. r >>= λ t. runs t (first_items (suc w.m) items)) is.runs_on ∙ alone.goes_on;
              adds = alone.adds;
              not_taken = alone.not_taken;
              rest = subst (After (w.before.steps ++ alone.step ∷ [])) (sym on) alone.rest;
            })
          ];
        })
      ]

  pub cases : (items : Items) (found : Progress) → All IsForRace found.steps → Same found items ⊎ Differ found items
  unfolding fold_items
  cases no_items found h = inl (record { progress = found; run_ok = refl; race_ok = refl; for_race = h })
  cases (item d items) found h = elim (next found d) [
    | inl is ↦ cases-is d items found h is (cases items (with_step found is.said)) (takes_in_race is.said.0) refl
    | inr none ↦ inr (record {
      m = zero;
      before = found;
      reads = refl;
      count = omega arith;
      for_race = h;
      race_told = ap (λ r. r >>= λ t. races t items) none.race_told;
      wrong = inl (ap (λ r. r >>= λ t. runs t items) none.run_told);
    })
  ]

  -- Where the steps before it are a race's, a wrong one is what a race is told.
  pub record Exceeds (found : Progress) (items : Items) (m : ℕ) (before : Progress) : Type 0 where
    pub step : Step
    pub with_it : Progress
    pub goes_on : runs found (first_items (suc m) items) ≡ Ok with_it
    pub adds : with_it.steps ≡ before.steps ++ step ∷ []
    pub not_taken : takes_in_race step ≡ false

  abbrev pub IsWrong : Progress → Items → ℕ → Progress → Type 0
  IsWrong found items m before = (runs found items ≡ Err (faults.Step (length before.steps))) ⊎ Exceeds found items m before

  pub at_first : (items : Items) (found : Progress) (m : ℕ) (before : Progress) → runs found (first_items m items) ≡ Ok before → length before.steps ≡ length found.steps + m →
      All IsForRace before.steps → IsWrong found items m before → races found items ≡ Err (faults.Step (length before.steps))
  unfolding fold_items
  at_first no_items found zero before reads count h (inl told) = absurd cc
  at_first no_items found zero before reads count h (inr alone) =
      let e : found ≡ before = cc in
      let same : found ≡ alone.with_it = (let on = alone.goes_on in cc) in
      let f = ap (λ (c : Progress). length c.steps) e in
      let g = ap (λ (c : Progress). length c.steps) same in
      let adds = ap length alone.adds ∙ length-append before.steps (alone.step ∷ []) in
      absurd (omega arith)
  at_first no_items found (suc m) before reads count h wrong =
      let e : found ≡ before = cc in
      let f = ap (λ (c : Progress). length c.steps) e in
      absurd (omega arith)
  at_first (item d items) found zero before reads count h wrong =
      let e : found ≡ before = cc in
      subst (λ (c : Progress). races found (item d items) ≡ Err (faults.Step (length c.steps))) e (elim (next found d) [
        | inl is ↦ ap (λ r. r >>= λ t. races t items) (is.refused (elim wrong [
          | inl told ↦ (let on = ap (λ r. r >>= λ t. runs t items) is.runs_on in
              let behind = subst (After (found.steps ++ is.said.0 ∷ [])) (sym on ∙ told) (after items (with_step found is.said)) in
              let one = length-append found.steps (is.said.0 ∷ []) in
              let same : length before.steps ≡ behind.0 = cc in
              let f = ap (λ (c : Progress). length c.steps) e in
              let le = behind.2 in
              absurd (omega arith))
          | inr alone ↦ (let on = ap (λ r. r >>= λ t. runs t no_items) is.runs_on in
              let goes_on = alone.goes_on in
              let both : with_step found is.said ≡ alone.with_it = cc in
              let steps = ap (λ (c : Progress). c.steps) both ∙ alone.adds ∙ ap (λ (c : Progress). c.steps ++ alone.step ∷ []) (sym e) in
              ap takes_in_race (last_same found.steps is.said.0 alone.step steps) ∙ alone.not_taken)
        ]))
        | inr none ↦ ap (λ r. r >>= λ t. races t items) none.race_told
      ])
  at_first (item d items) found (suc m) before reads count h wrong = elim (next found d) [
    | inl is ↦ (let on = ap (λ r. r >>= λ t. runs t items) is.runs_on in
        let reads_on = sym (ap (λ r. r >>= λ t. runs t (first_items m items)) is.runs_on) ∙ reads in
        let front = subst (After (found.steps ++ is.said.0 ∷ [])) reads_on (after (first_items m items) (with_step found is.said)) in
        let taken = among found.steps is.said.0 front.0 (subst (All IsForRace) front.1 h) in
        let one = length-append found.steps (is.said.0 ∷ []) in
        ap (λ r. r >>= λ t. races t items) (is.taken taken)
        ∙ at_first items (with_step found is.said) m before reads_on (omega arith) h (elim wrong [
          | inl told ↦ inl (sym on ∙ told)
          | inr alone ↦ inr (record {
            step = alone.step;
            with_it = alone.with_it;
            goes_on = sym (ap (λ r. r >>= λ t. runs t (first_items (suc m) items)) is.runs_on) ∙ alone.goes_on;
            adds = alone.adds;
            not_taken = alone.not_taken;
          })
        ]))
    | inr none ↦ (let out = ap (λ r. r >>= λ t. runs t (first_items m items)) none.run_told in absurd cc)
  ]
