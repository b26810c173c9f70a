-- What a text of fixed room holds after a successful `write!`.
use Rattle.std.proofs.Common.{◌≡◌, ℕ, List, [], ◌∷◌, ◌++◌, sym, ap, ◌∙◌, append_assoc, append-nil}
use Rattle.std.specs.List.{FoldsTo, concat}
use Rattle.std.specs.Fmt.{WritesInCalls}
use Rattle.std.specs.Fmt.InlineText.{inline_text, IsIntact, AppendsIfIntact}
use Rattle.std.specs.declared.fmt.InlineText.{InlineText}

module _ {n : ℕ} where
  after_calls : (s : InlineText n) (xs : List (List ℕ)) (t : InlineText n) → IsIntact s → FoldsTo AppendsIfIntact s xs t → inline_text t ≡ inline_text s ++ concat xs
  after_calls s [] t h p = ap inline_text (sym p) ∙ sym (append-nil (inline_text s))
  after_calls s (x ∷ xs) t h p =
      let one = p.1 h in
      after_calls p.0 xs t one.0 p.2 ∙ ap (λ l. l ++ concat xs) one.1 ∙ append_assoc (inline_text s) x (concat xs)

  pub inline_written : (s : InlineText n) (bs : List ℕ) (t : InlineText n) → WritesInCalls AppendsIfIntact s bs t → IsIntact s → inline_text s ≡ [] → inline_text t ≡ bs
  inline_written s bs t w h e = after_calls s w.parts t h w.calls ∙ ap (λ l. l ++ concat w.parts) e ∙ w.whole
