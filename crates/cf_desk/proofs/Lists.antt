-- Parts of lists.
use Rattle.std.proofs.Common.{◌≡◌, List, [], ◌∷◌, ◌++◌, All, refl}
use Rattle.std.proofs.lemmas.List.Elements.{All-nil, All-cons, All-head, All-tail}

pub none_of_both : {A : Type 0} (xs ys : List A) → xs ++ ys ≡ [] → (xs ≡ []) × (ys ≡ [])
none_of_both [] ys e = (refl, e)
none_of_both (x ∷ xs) ys e = cc

pub same_rest : {A : Type 0} (xs r q : List A) → xs ++ r ≡ xs ++ q → r ≡ q
same_rest [] r q e = e
same_rest (x ∷ xs) r q e = same_rest xs r q cc

pub one_of : {A : Type 0} (k l : A) → k ∷ [] ≡ l ∷ [] → k ≡ l
one_of k l e = cc

pub all_front : {A : Type 0} (P : A → Type 0) (xs ys : List A) → All P (xs ++ ys) → All P xs
all_front P [] ys h = All-nil P
all_front P (x ∷ xs) ys h = All-cons P x xs (All-head P x (xs ++ ys) h) (all_front P xs ys (All-tail P x (xs ++ ys) h))
