-- Tokens that differ.
use Rattle.std.proofs.Common.{◌≡◌, ℕ, suc, ◌+◌, ◌*◌, ◌<◌, ◌≤◌, List, [], ◌∷◌, ◌++◌, length, All, refl, ap, sym, ◌∙◌, subst, arith}
use Rattle.std.specs.Prelude.{◌≢◌}
use Rattle.std.proofs.lemmas.List.Elements.{All-nil, All-cons}
use Rattle.cf_row.specs.declared.entry.Entry.{Entry}
use Rattle.cf_row.specs.Rows.{session_of, words_in}
use Rattle.cf_row.specs.Puts.{HasTokens, NoneStands, end_of_tokens, stamped}
use Rattle.cf_row.specs.Laws.{TokensAreApart}

-- the tokens of a put that is stamped are at its first one or behind
stamped_from : (first next : ℕ) (words : List ℕ) → first ≤ next → All (λ (x : Entry). first ≤ x.token) (stamped next words)
stamped_from first next [] le = All-nil (λ (x : Entry). first ≤ x.token)
stamped_from first next (w ∷ words) le = All-cons (λ (x : Entry). first ≤ x.token) (record { word = w; token = next }) (stamped (next + 1) words) le (stamped_from first (next + 1) words (omega arith))

apart_sessions : (s t : ℕ) (put other : List Entry) → s ≢ t → All (λ (x : Entry). session_of x.token ≡ s) put → All (λ (x : Entry). session_of x.token ≡ t) other → NoneStands put other
apart_sessions s t put other differ h g = λ k d l j e m same. differ (sym (h k d l) ∙ ap session_of same ∙ g j e m)

apart_later : (next : ℕ) (put : List Entry) (words : List ℕ) → All (λ (x : Entry). x.token < next) put → NoneStands put (stamped next words)
apart_later next put words h = λ k d l j e m same. (let a = h k d l in let b = stamped_from next next words (omega arith) j e m in absurd (omega (arith, a, b, same)))

apart_earlier : (next : ℕ) (put : List Entry) (words : List ℕ) → All (λ (x : Entry). x.token < next) put → NoneStands (stamped next words) put
apart_earlier next put words h = λ k d l j e m same. (let a = h j e m in let b = stamped_from next next words (omega arith) k d l in absurd (omega (arith, a, b, same)))

pub apart : TokensAreApart
apart = record { sessions = apart_sessions; later = apart_later; earlier = apart_earlier }

-- ---- new tokens

pub stamped_each : (s next : ℕ) (words : List ℕ) → s * 8388608 ≤ next → next + length words ≤ s * 8388608 + 8388608 → All (λ (x : Entry). (session_of x.token ≡ s) × (x.token < next + length words)) (stamped next words)
stamped_each s next [] first last = All-nil (λ (x : Entry). (session_of x.token ≡ s) × (x.token < next + 0))
stamped_each s next (w ∷ words) first last =
    let sum : next + suc (length words) ≡ next + 1 + length words = omega arith in
    let P : ℕ → Entry → Type 0 = λ (m : ℕ) (x : Entry). (session_of x.token ≡ s) × (x.token < m) in
    subst (λ (m : ℕ). All (P m) (stamped next (w ∷ words))) (sym sum)
    (All-cons (P (next + 1 + length words)) (record { word = w; token = next }) (stamped (next + 1) words) (omega arith, omega arith) (stamped_each s (next + 1) words (omega arith) (omega arith)))

-- the entry of a word and a token
abbrev pub entry_of : ℕ → ℕ → Entry
entry_of w n = record { word = w; token = n }

pub stamped_push : (first : ℕ) (ws : List ℕ) (w : ℕ) → stamped first (ws ++ w ∷ []) ≡ stamped first ws ++ entry_of w (first + length ws) ∷ []
stamped_push first [] w = ap (λ (n : ℕ). entry_of w n ∷ []) (let h : first ≡ first + 0 = omega arith in h)
stamped_push first (x ∷ ws) w = ap (λ (l : List Entry). entry_of x first ∷ l)
    (stamped_push (first + 1) ws w ∙ ap (λ (n : ℕ). stamped (first + 1) ws ++ entry_of w n ∷ []) (let h : first + 1 + length ws ≡ first + suc (length ws) = omega arith in h))

pub stamped_words : (first : ℕ) (ws : List ℕ) → words_in (stamped first ws) ≡ ws
stamped_words first [] = refl
stamped_words first (w ∷ ws) = ap (λ (l : List ℕ). w ∷ l) (stamped_words (first + 1) ws)

pub stamped_count : (first : ℕ) (ws : List ℕ) → length (stamped first ws) ≡ length ws
stamped_count first [] = refl
stamped_count first (w ∷ ws) = ap suc (stamped_count (first + 1) ws)

pub planned : (s next : ℕ) (words : List ℕ) (put none : List Entry) → HasTokens s none next → next + length words ≤ end_of_tokens s → put ≡ stamped next words → HasTokens s put (next + length words)
planned s next words put none h few is =
    let small = h.small in
    let first = h.first in
    record {
      small = small;
      first = omega arith;
      last = few;
      each = subst (All (λ (x : Entry). (session_of x.token ≡ s) × (x.token < next + length words))) (sym is) (stamped_each s next words first few);
    }
