-- Where the tokens of a text stand, and what the bytes of a word are.
use mathlib.Core.Path.{◌≡◌}
use mathlib.Core.Bool.{Bool, true, false}
use mathlib.Core.List.{List, [], ◌∷◌}
use Prim.Native.Nat.{ℕ, suc, ◌+◌, ◌-◌, ◌≤◌, ◌<◌}
use native.Mathlib.Omega.{arith}
use lib.Dec.{ltb, eqb}
use lib.ListN.{length, drop, get_or, take, length-drop}
use lib.Seq.{take-nil}
use borrow.Author.Tests.{ltb-true}
use Rattle.octets.specs.Tests.{all}
use Rattle.octets.specs.Bytes.{part}
use Rattle.octets.proofs.Bools.{and_i, choice}
use Rattle.text_words.specs.Classes.{is_blank}
use Rattle.fmd_lex.specs.Chars.{is_word}
use Rattle.fmd_lex.specs.Tokens.{word_kind, kind_number, sign_kind, skip_from, word_from, token_here, token_at, token_bytes}
use Rattle.fmd_lex.specs.Invariants.{Within}
use Rattle.fmd_lex.specs.declared.Kind.{Kind}
use Rattle.fmd_lex.specs.declared.Token.{Token}
use Rattle.fmd_lex.proofs.Tokens.{word_in}

abbrev Between : ℕ → ℕ → ℕ → Type 0
Between l h x = (l ≤ x) × (x ≤ h)

pub skip-bounds : (c : Bool) (xs : List ℕ) (at : ℕ) → (at ≤ skip_from c xs at) × (skip_from c xs at ≤ at + length xs)
unfolding skip_from
skip-bounds true [] at = (omega arith, omega arith)
skip-bounds false [] at = (omega arith, omega arith)
skip-bounds true (x ∷ xs) at =
    let p = skip-bounds false xs (suc at) in
    let q = skip-bounds true xs (suc at) in
    choice (Between at (at + suc (length xs))) (eqb x 10) _ _ (λ e. (omega arith, omega arith)) (λ e. (omega arith, omega arith))
skip-bounds false (x ∷ xs) at =
    let p = skip-bounds false xs (suc at) in
    let q = skip-bounds true xs (suc at) in
    choice (Between at (at + suc (length xs))) (is_blank x) _ _ (λ e. (omega arith, omega arith))
    (λ e. choice (Between at (at + suc (length xs))) (eqb x 35) _ _ (λ f. (omega arith, omega arith)) (λ f. (omega arith, omega arith)))

pub word-bounds : (xs : List ℕ) (at : ℕ) → (at ≤ word_from xs at) × (word_from xs at ≤ at + length xs)
unfolding word_from
word-bounds [] at = (omega arith, omega arith)
word-bounds (x ∷ xs) at =
    let p = word-bounds xs (suc at) in
    choice (Between at (at + suc (length xs))) (is_word x) _ _ (λ e. (omega arith, omega arith)) (λ e. (omega arith, omega arith))

-- the bytes up to a word's end are bytes of a word
word-all : (xs : List ℕ) (at : ℕ) → all is_word (take (word_from xs at - at) xs) ≡ true
unfolding word_from
word-all [] at = rw take-nil
word-all (x ∷ xs) at =
    let p = word-bounds xs (suc at) in
    let q = word-all xs (suc at) in
    choice (λ (e : ℕ). all is_word (take (e - at) (x ∷ xs)) ≡ true) (is_word x) _ _
    (λ e. let n : word_from xs (suc at) - at ≡ suc (word_from xs (suc at) - suc at) = omega arith in rw n (and_i _ _ e q))
    (λ e. let n : at - at ≡ 0 = omega arith in rw n)

module _ (s : List ℕ) (at : ℕ) (h : at ≤ length s) where
  pub token-within : Within (length s) at (token_at s at)
  unfolding token_at token_here
  token-within =
      let p = skip_from false (drop at s) at in
      let b = skip-bounds false (drop at s) at in
      let d = length-drop at s in
      let P = Within (length s) at in
      choice P (ltb p (length s)) _ _
      (λ e.
      let l : p < length s = ltb-true p (length s) e in
      choice P (is_word (get_or s p 0)) _ _
      (λ f.
      let w = word-bounds (drop (p + 1) s) (p + 1) in
      let k = length-drop (p + 1) s in
      record { after = omega arith; ordered = omega arith; inside = omega arith; filled = λ z. omega arith })
      (λ f. record { after = omega arith; ordered = omega arith; inside = omega arith; filled = λ z. omega arith }))
      (λ e. record { after = omega arith; ordered = omega arith; inside = omega arith; filled = λ z. omega arith })

sign-no-word : (b : ℕ) → kind_number (sign_kind b) ≡ word_kind → ⊥
unfolding sign_kind
sign-no-word b =
    choice P (eqb b 40) _ _ (λ e z. omega arith)
    (λ e. choice P (eqb b 41) _ _ (λ f z. omega arith)
    (λ f. choice P (eqb b 64) _ _ (λ g z. omega arith)
    (λ g. choice P (eqb b 123) _ _ (λ h z. omega arith)
    (λ h. choice P (eqb b 125) _ _ (λ i z. omega arith) (λ i z. omega arith)))))
  where
    P : Kind → Type 0
    P k = kind_number k ≡ word_kind → ⊥

-- (L5) a word has bytes of 21 to 7E hex, no sign and no #
pub word_bytes : (s : List ℕ) (at : ℕ) → kind_number (token_at s at).kind ≡ word_kind → all is_word (token_bytes s (token_at s at)) ≡ true
unfolding token_at token_here part
word_bytes s at =
    let p = skip_from false (drop at s) at in
    choice P (ltb p (length s)) _ _
    (λ e.
    choice P (is_word (get_or s p 0)) _ _
    (λ f z. rw (word_in s p (ltb-true p (length s) e) f) (word-all (drop p s) p))
    (λ f z. absurd (sign-no-word (get_or s p 0) z)))
    (λ e z. absurd (omega arith))
  where
    P : Token → Type 0
    P t = kind_number t.kind ≡ word_kind → all is_word (take (t.end - t.start) (drop t.start s)) ≡ true
