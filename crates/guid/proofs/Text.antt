-- Laws of the text's form and of the byte order. A list of known length is taken apart element by element, and both sides compute.
use mathlib.Core.Path.{◌≡◌, sym, ap, ◌∙◌}
use mathlib.Core.List.{List, map}
use Prim.Native.Nat.{ℕ}
use lib.ListN.{length, get_or, replicate}
use Rattle.octets.specs.Ascii.{ascii}
use Rattle.octets.specs.Bytes.{part, rest, put}
use Rattle.octets.specs.Tests.{◌and◌}
use Rattle.octets.proofs.Filled.{each, each-is}
use Rattle.guid.specs.Hex.{upper}
use Rattle.guid.specs.Text.{digits_in, dashes_in, grouped, reordered}

-- ---- the byte order

module _ (bs : List ℕ) (l : length bs ≡ 16) where
  pub reordered-each : reordered (each 16 0 bs) ≡ reordered bs
  reordered-each = ap reordered (sym (each-is 16 bs l))

  pub reordered-twice : reordered (reordered bs) ≡ bs
  unfolding reordered part rest
  reordered-twice = ap (λ (xs : List ℕ). reordered (reordered xs)) (each-is 16 bs l) ∙ sym (each-is 16 bs l)

  pub length-reordered : length (reordered bs) ≡ 16
  unfolding reordered part rest
  length-reordered = ap (λ (xs : List ℕ). length (reordered xs)) (each-is 16 bs l)

-- ---- groups and dashes

module _ (ds : List ℕ) (l : length ds ≡ 32) where
  pub digits-grouped : digits_in (grouped ds) ≡ ds
  unfolding digits_in grouped part
  digits-grouped = ap (λ (xs : List ℕ). digits_in (grouped xs)) (each-is 32 ds l) ∙ sym (each-is 32 ds l)

  pub dashes-grouped : dashes_in (grouped ds) ≡ ascii "----"
  unfolding dashes_in grouped part
  dashes-grouped = ap (λ (xs : List ℕ). dashes_in (grouped xs)) (each-is 32 ds l)

  pub length-grouped : length (grouped ds) ≡ 36
  unfolding grouped part
  length-grouped = ap (λ (xs : List ℕ). length (grouped xs)) (each-is 32 ds l)

  pub upper-grouped : map upper (grouped ds) ≡ grouped (map upper ds)
  unfolding grouped part upper ◌and◌
  upper-grouped = ap (λ (xs : List ℕ). map upper (grouped xs)) (each-is 32 ds l) ∙ ap (λ (xs : List ℕ). grouped (map upper xs)) (sym (each-is 32 ds l))

  -- what five copies leave
  pub groups-copied : (a b c d e : List ℕ) → a ≡ put 0 (part 0 8 ds) (replicate 36 45) → b ≡ put 9 (part 8 4 ds) a → c ≡ put 14 (part 12 4 ds) b
      → d ≡ put 19 (part 16 4 ds) c → e ≡ put 24 (part 20 12 ds) d → e ≡ grouped ds
  unfolding grouped part put
  groups-copied a b c d e p q r s u =
      rw (u, s, r, q, p)
      (ap
      (λ (xs : List ℕ). put 24 (part 20 12 xs) (put 19 (part 16 4 xs) (put 14 (part 12 4 xs) (put 9 (part 8 4 xs) (put 0 (part 0 8 xs) (replicate 36 45))))))
      (each-is 32 ds l)
      ∙ ap grouped (sym (each-is 32 ds l)))

module _ (t : List ℕ) (l : length t ≡ 36) where
  pub length-digits_in : length (digits_in t) ≡ 32
  unfolding digits_in part
  length-digits_in = ap (λ (xs : List ℕ). length (digits_in xs)) (each-is 36 t l)

  pub grouped-digits : dashes_in t ≡ ascii "----" → grouped (digits_in t) ≡ t
  unfolding digits_in dashes_in grouped part
  grouped-digits e =
      let a : get_or t 8 0 ≡ 45 = ap (λ (xs : List ℕ). get_or xs 0 0) e in
      let b : get_or t 13 0 ≡ 45 = ap (λ (xs : List ℕ). get_or xs 1 0) e in
      let c : get_or t 18 0 ≡ 45 = ap (λ (xs : List ℕ). get_or xs 2 0) e in
      let d : get_or t 23 0 ≡ 45 = ap (λ (xs : List ℕ). get_or xs 3 0) e in
      let s : each 36 0 t ≡ grouped (digits_in (each 36 0 t)) = rw (a, b, c, d) in
      ap (λ (xs : List ℕ). grouped (digits_in xs)) (each-is 36 t l) ∙ sym (each-is 36 t l ∙ s)

  -- what five copies leave
  pub digits-copied : (a b c d e : List ℕ) → a ≡ put 0 (part 0 8 t) (replicate 32 0) → b ≡ put 8 (part 9 4 t) a → c ≡ put 12 (part 14 4 t) b
      → d ≡ put 16 (part 19 4 t) c → e ≡ put 20 (part 24 12 t) d → e ≡ digits_in t
  unfolding digits_in part put
  digits-copied a b c d e p q r s u =
      rw (u, s, r, q, p)
      (ap
      (λ (xs : List ℕ). put 20 (part 24 12 xs) (put 16 (part 19 4 xs) (put 12 (part 14 4 xs) (put 8 (part 9 4 xs) (put 0 (part 0 8 xs) (replicate 32 0))))))
      (each-is 36 t l)
      ∙ ap digits_in (sym (each-is 36 t l)))
