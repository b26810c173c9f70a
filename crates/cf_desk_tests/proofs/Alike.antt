-- Workers whose functions answer the same, whatever their memory is.
use Rattle.std.proofs.Common.{◌≡◌, List, [], ◌∷◌, refl}
use Rattle.std.specs.List.{All}
use Rattle.std.proofs.lemmas.List.Elements.{All-cons, All-nil}
use Rattle.cf_pool.specs.Answering.{Answers}
use Rattle.cf_pool.specs.Calling.{AnswerAlike, first_answers}

same : {M : Type 0} (answers : Answers) (ms : List M) → All (λ m. answers ≡ answers) ms
same answers [] = All-nil (λ m. answers ≡ answers)
same answers (m ∷ ms) = All-cons (λ x. answers ≡ answers) m ms refl (same answers ms)

pub alike : {M : Type 0} (answers : Answers) (ms : List M) → AnswerAlike (λ m. answers) ms
alike {M} answers [] = All-nil (λ (m : M). answers ≡ first_answers (λ (x : M). answers) [])
alike answers (m ∷ ms) = same answers (m ∷ ms)
