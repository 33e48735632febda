-- The names of the areas: legal, different where the text's names are, and FMAP where the text says so.
use mathlib.Core.Path.{◌≡◌, sym, ap, ◌∙◌}
use mathlib.Core.Bool.{true, false}
use mathlib.Core.List.{List, [], ◌∷◌, ◌++◌}
use Prim.Native.Nat.{ℕ, suc, ◌+◌, ◌-◌, ◌≤◌, ◌<◌}
use native.Mathlib.Omega.{arith}
use lib.ListN.{length, take, length-append}
use lib.Seq.{take_at, get_or-take, length-take-le}
use borrow.Author.Tests.{leb-true, le-leb}
use Rattle.octets.specs.Tests.{all, find_ix}
use Rattle.octets.specs.Bytes.{part, rest, zeros, same, is_zero}
use Rattle.octets.proofs.Bools.{and_l, and_r, and_i, clash}
use Rattle.octets.proofs.Tests.{any_none}
use Rattle.octets.proofs.Equal.{same_true, same_refl, same_false, zero-zeros}
use Rattle.octets.proofs.Parts.{length_part, length-zeros, rest_at}
use Rattle.fmap_rules.specs.Map.{stops, name_length, legal_name, fmap_name, named}
use Rattle.fmap_rules.proofs.Names.{below}
use Rattle.fmd_lex.specs.Chars.{is_word}
use Rattle.fmd_lex.specs.Names.{good_name}
use Rattle.fmd_parse.specs.Trees.{Named, Tree, blank_section}
use Rattle.fmd_table.specs.declared.Section.{Section}
use Rattle.fmd_parse.specs.Rows.{repeats, fmap, is_fmap}
use Rattle.fmd_table.specs.declared.Placed.{Placed}
use Rattle.fmd_check.specs.Areas.{stored_name, area_from, area_at}

length-name : (s : List ℕ) (p n : ℕ) → p + n ≤ length s → n ≤ 32 → length (stored_name s p n) ≡ 32
unfolding stored_name
length-name s p n h g = simp (length-append, length-zeros) (omega (arith, length_part s p n h))

-- a byte of a word is a byte of a name
word-goes : (b : ℕ) → is_word b ≡ true → stops b ≡ false
unfolding is_word stops
word-goes b e = rw (and_l _ _ (and_l _ _ e))

-- a word and then a zero: the name ends where the word does
word-ends : (w : List ℕ) (m : ℕ) → all is_word w ≡ true → find_ix stops (w ++ zeros (suc m)) ≡ length w
unfolding zeros
word-ends [] m e = rw (below 0 (omega arith), find_ix)
word-ends (b ∷ w) m e = rw (word-goes b (and_l _ _ e), find_ix) (ap suc (word-ends w m (and_r _ _ e)))

module _ {s : List ℕ} {p n : ℕ} (d : Named s p n) where
  length-text : length (part p n s) ≡ n
  length-text = length_part s p n d.inside

  short : n ≤ 31
  unfolding good_name
  short = rw length-text at (leb-true (length (part p n s)) 31 (and_r _ _ (and_l _ _ d.good)))

  some : 1 ≤ n
  unfolding good_name
  some = rw length-text at (leb-true 1 (length (part p n s)) (and_l _ _ (and_l _ _ d.good)))

  ends_at : name_length (stored_name s p n) ≡ n
  unfolding name_length stored_name
  ends_at =
      let h = short in
      let e : 32 - n ≡ suc (31 - n) = omega arith in
      rw e (word-ends (part p n s) (31 - n) d.word ∙ length-text)

  zeros_after : rest n (stored_name s p n) ≡ zeros (32 - n)
  unfolding stored_name
  zeros_after = rest_at (part p n s) (zeros (32 - n)) n length-text

  pub name-short : (p + n ≤ length s) × (n ≤ 32)
  name-short = (d.inside, omega (arith, short))

  pub length-stored : length (stored_name s p n) ≡ 32
  length-stored = length-name s p n d.inside name-short.1

  pub stored-legal : legal_name (stored_name s p n) ≡ true
  unfolding legal_name
  stored-legal =
      rw ends_at
      (and_i _ _ (le-leb 1 n some) (and_i _ _ (le-leb n 31 short) (ap is_zero zeros_after ∙ zero-zeros (32 - n))))

  -- the text's name, of the stored one
  taken : take (name_length (stored_name s p n)) (stored_name s p n) ≡ part p n s
  unfolding stored_name
  taken = rw ends_at (take_at (part p n s) (zeros (32 - n)) n length-text)

  pub stored-fmap : same (part p n s) fmap ≡ true → stored_name s p n ≡ fmap_name
  unfolding stored_name
  stored-fmap e =
      let q = same_true (part p n s) fmap e in
      let l : n ≡ 4 = sym length-text ∙ ap length q in
      ap (λ (w : List ℕ). w ++ zeros (32 - n)) q ∙ ap (λ (k : ℕ). fmap ++ zeros (32 - k)) l

pub stored-differ : {s : List ℕ} {p n q m : ℕ} → Named s p n → Named s q m → same (part p n s) (part q m s) ≡ false
    → same (stored_name s p n) (stored_name s q m) ≡ false
stored-differ {s} {p} {n} {q} {m} d e f =
    same_false (stored_name s p n) (stored_name s q m)
    (λ x.
    let y : part p n s ≡ part q m s = sym (taken d) ∙ ap (λ (w : List ℕ). take (name_length w) w) x ∙ taken e in
    clash (ap (same (part p n s)) (sym y) ∙ same_refl (part p n s)) f)

-- ---- the areas

module _ (s : List ℕ) (l : List Section) (ps : List Placed) (t : Tree s l) where
  pub area-legal : (k : ℕ) → k < length l → legal_name (area_at s l ps k).name ≡ true
  unfolding area_at area_from
  area-legal k h = stored-legal (t.each k h).named

  pub area-name-length : (k : ℕ) → k < length l → length (area_at s l ps k).name ≡ 32
  unfolding area_at area_from
  area-name-length k h = length-stored (t.each k h).named

  pub area-fmap : (k : ℕ) → k < length l → is_fmap s l k ≡ true → (area_at s l ps k).name ≡ fmap_name
  unfolding area_at area_from is_fmap
  area-fmap k h e = stored-fmap (t.each k h).named e

  pub area-names-differ : (j k : ℕ) → j < k → k < length l → repeats s l k ≡ false → named (area_at s l ps j).name (area_at s l ps k) ≡ false
  unfolding area_at area_from named repeats
  area-names-differ j k g h e =
      stored-differ (t.each j (omega arith)).named (t.each k h).named
      (rw (get_or-take k l j blank_section g) at (any_none _ (take k l) blank_section e j (rw (length-take-le k l (omega arith)) g)))
