-- The stage is noted behind those before it.
use Rattle.std.proofs.Common.{◌≡◌, [], ◌∷◌, ◌++◌, ◌+◌, ◌<◌, All, length, rules, arith, ap, refl, sym, ◌∙◌, subst, drop, get_or}
use Rattle.std.proofs.lemmas.List.{length_push}
use Rattle.cf_forms.specs.Plans.{form_at, function_at}
use Rattle.cf_notes.specs.declared.note.Note.TheVariants.{Nothing}
use Rattle.cf_notes.specs.declared.noted.Noted.{Noted}
use Rattle.cf_notes.specs.Noting.{NamesStages, noted_as, noted_plan}
use Rattle.cf_notes.proofs.NamedStages.{names_noted_as, names_push, noted_plan_next}
use Rattle.cf_notes.proofs.notes.Notes.new.Goals as goal

pub loop-stage-preserved : goal.loop-stage-preserved
loop-stage-preserved c =
    let i = c.loop-stage.stage in
    let stages = c.loop-stage.stages.items in
    let plan = c.args.plan.now.stages in
    let notes = c.args.notes.now in
    let one = noted_as stages (form_at plan i) (function_at plan i) (get_or notes i Nothing) in
    let is : c.noted_as-new.result ≡ one =
    (c.noted_as-new.ensures ∙ rw (c.deref.ensures.value, c.form.ensures, c.function.ensures) refl) in
    let items : c.push_reserved.new.self.items ≡ stages ++ one ∷ [] =
    (c.push_reserved.ensures.items ∙ ap (λ (n : Noted). stages ++ n ∷ []) is) in
    let there : i < length plan = omega arith in
    record {
      so_far = ap (λ xs. noted_plan xs (drop (i + 1) plan) (drop (i + 1) notes)) items
          ∙ sym (noted_plan_next stages plan notes i Nothing there (omega arith)) ∙ c.loop-stage.invariant.so_far;
      count = ap length items ∙ length_push stages one ∙ ap (λ n. n + 1) c.loop-stage.invariant.count;
      names = subst (λ xs. All (NamesStages (length xs)) xs) (sym items)
          (names_push stages one c.loop-stage.invariant.names (names_noted_as stages (form_at plan i) (function_at plan i) (get_or notes i Nothing)));
      places = search rules;
    }
