-- The entry of each partition in the table that was built: its bytes are what was asked, and it stands by the partitions before it alone.
use mathlib.Core.Path.{◌≡◌, refl, sym, ap, subst, ◌∙◌}
use mathlib.Core.Logic.{◌⊎◌, inl, inr, ◌≢◌}
use mathlib.Core.Bool.{Bool, true}
use mathlib.Core.List.{List, [], ◌∷◌, ◌++◌, map}
use mathlib.Core.Option.{none}
use Prim.Native.Nat.{ℕ, zero, suc, ◌+◌, ◌-◌, ◌*◌, ◌/◌, ◌^◌, ◌≤◌, ◌<◌}
use native.Mathlib.Nat.{mul-zero, mul-div_cancel, zero-lt-suc}
use native.Mathlib.Decide.{dec_le}
use native.Mathlib.Omega.{arith}
use lib.ListN.{length, get_or, take, replicate, length-append, length-map}
use borrow.Author.Tests.{leb-true, eqb-true}
use Rattle.octets.specs.Tests.{◌or◌, any}
use Rattle.octets.specs.Rows.{refusal}
use Rattle.octets.specs.Bytes.{unle, part, zeros}
use Rattle.octets.proofs.Bools.{and_l, and_r, not_f}
use Rattle.octets.proofs.Numbers.{unle-le}
use Rattle.octets.proofs.Tests.{any-get}
use Rattle.octets.proofs.Chunks.{length-chunks}
use Rattle.gpt_model.specs.Table.{unused, BlockRange, no_blocks, range_of, entries, ranges_of}
use Rattle.gpt_model.specs.Disk.{Shape, last_usable}
use Rattle.gpt_model.specs.Ranges.{block_in, in_some, AlignedFrom}
use Rattle.gpt_model.specs.Stored.{entry_first, entry_last, EntryHolds}
use Rattle.gpt_model.proofs.Room.{not-in-none, Start}
use Rattle.gpt_model.proofs.Fields.{new-type, new-unique, new-first, new-last, new-attributes, new-name}
use Rattle.gpt_model.proofs.Entries.{range-unused, unused-zeros, get_or-range, entry_at}
use Rattle.gpt_model.proofs.StoredTable.{type-is, unique-is, first-is, last-is, attributes-is, name_is, used-is, holds-is}
use Rattle.std.specs.Prelude.{None}
use Rattle.gpt_string_model.specs.declared.WantedPartition.{WantedPartition}
use Rattle.gpt_string_model.specs.Build.{needed, as_new, first_block, size_in_blocks, part_rows, entry_for}
use Rattle.gpt_string_model.specs.Claims.{Needs, AsAsked}
use Rattle.gpt_string_model.proofs.Parts.{formed, part_room, part-given, part-lowest, part-blocks, part-needs, part-final, part-needs-one, part-ends}
use Rattle.gpt_string_model.proofs.Parts.{part-used}
use Rattle.gpt_string_model.proofs.Builds.{Open}

-- ---- the first entries of a table

get_or-seam : {A : Type 0} (xs : List A) (y : A) (ys : List A) (d : A) → get_or (xs ++ (y ∷ ys)) (length xs) d ≡ y
get_or-seam [] y ys d = refl
get_or-seam (x ∷ xs) y ys d = get_or-seam xs y ys d

take-seam : {A B : Type 0} (f : A → B) (xs ys : List A) → take (length xs) (map f (xs ++ ys)) ≡ map f xs
take-seam f [] ys = refl
take-seam {B = B} f (x ∷ xs) ys = ap (λ (r : List B). f x ∷ r) (take-seam f xs ys)

get_d_front : {A : Type 0} (xs : List A) (i j : ℕ) (d : A) → j < i → get_or (take i xs) j d ≡ get_or xs j d
get_d_front xs zero j d h = absurd (omega arith)
get_d_front [] (suc i) j d h = refl
get_d_front (x ∷ xs) (suc i) zero d h = refl
get_d_front (x ∷ xs) (suc i) (suc j) d h = get_d_front xs i j d (omega arith)

-- unused entries hold no block
some-front : (b : ℕ) (placed : List (List ℕ)) (k : ℕ)
    → any (block_in b) (map range_of (placed ++ replicate k (zeros 128))) ≡ any (block_in b) (map range_of placed)
unfolding ◌or◌
some-front b [] zero = refl
some-front b [] (suc k) = rw (range-unused (zeros 128) (unused-zeros 128), not-in-none b) (some-front b [] k)
some-front b (e ∷ es) k = ap (λ (r : Bool). block_in b (range_of e) or r) (some-front b es k)

-- one number of blocks has that many bytes
multiples : (b x y z : ℕ) → z ≢ 0 → x * b ≡ z → y * b ≡ z → x ≡ y
multiples zero x y z ne p q = absurd (ne (sym p ∙ mul-zero x))
multiples (suc b) x y z ne p q =
    sym (mul-div_cancel x (zero-lt-suc b)) ∙ ap (λ (k : ℕ). k / suc b) (p ∙ sym q) ∙ mul-div_cancel y (zero-lt-suc b)

-- ---- a partition that was placed on the table es, and is entry i of the table es', of which the entries before it are those that es has

module _ (g : Shape) (n a : ℕ) (small : last_usable g n < 256 ^ 8) (es : List ℕ) (placed : List (List ℕ)) (o : Open g n es placed) (w : WantedPartition)
    (final : Bool)
    (fw : formed w ≡ true) (e : refusal (part_rows g n a es w final) ≡ none) (es' : List ℕ) (more : List (List ℕ))
    (seam : entries es' ≡ placed ++ (entry_for g n a es w final ∷ more)) where
  abbrev i : ℕ
  i = length placed

  abbrev s : ℕ
  s = first_block g n a es w final

  abbrev size : ℕ
  size = size_in_blocks g n a es w final

  abbrev d : List ℕ
  d = entry_for g n a es w final

  low : i < 128
  low = let q = ap length seam in omega (arith, length-chunks 128 128 es', length-append placed (entry_for g n a es w final ∷ more))

  is-entry : entry_at es' i ≡ d
  is-entry = ap (λ (x : List (List ℕ)). get_or x i []) seam ∙ get_or-seam placed d more []

  before : take i (ranges_of es') ≡ map range_of placed
  before = ap (λ (x : List (List ℕ)). take i (map range_of x)) seam ∙ take-seam range_of placed (d ∷ more)

  blocks-before : (b : ℕ) → in_some (ranges_of es) b ≡ in_some (take i (ranges_of es')) b
  blocks-before b =
      ap (λ (x : List (List ℕ)). in_some (map range_of x) b) o.front.entries-are ∙ some-front b placed (128 - length placed)
      ∙ ap (λ (x : List BlockRange). in_some x b) (sym before)

  first-block : entry_first es' i ≡ s
  first-block =
      let r = part_room g n a es w final e in let z = r.1.0 in let p = r.0 in
      sym (first-is es' i low) ∙ ap (λ (x : List ℕ). unle (part 32 8 x)) is-entry ∙ new-first (as_new a w size) s (omega arith)

  last_block : entry_last es' i ≡ s + size - 1
  last_block =
      let r = part_room g n a es w final e in let z = r.1.0 in let p = r.0 in
      sym (last-is es' i low) ∙ ap (λ (x : List ℕ). unle (part 40 8 x)) is-entry ∙ new-last (as_new a w size) s (omega arith)

  taken-by : (b : ℕ) → in_some (ranges_of es) b ≡ true → (j : ℕ) × (j < i) × EntryHolds es' j b
  taken-by b q = go (any-get (block_in b) (take i (ranges_of es')) no_blocks (sym (blocks-before b) ∙ q))
    where
      go : (j : ℕ) × (j < length (take i (ranges_of es'))) × (block_in b (get_or (take i (ranges_of es')) j no_blocks) ≡ true) → (j : ℕ) × (j < i)
          × EntryHolds es' j b
      go (j, h, p) =
          let lt : j < i = omega (arith, ap length before, length-map placed range_of) in
          let hi : j < 128 = omega (arith, low) in (
            j,
            lt,
            (holds-is es' j hi b).0 (ap (block_in b) (sym (get_or-range es' j))
                ∙ ap (block_in b) (sym (get_d_front (ranges_of es') i j no_blocks lt)) ∙ p),
          )

  free-before : (k b : ℕ) → Start (ranges_of es) (last_usable g n) k a b → g.first ≤ b → AlignedFrom g n (take i (ranges_of es')) k a b
  free-before k b v l = (v.0, (l, v.1.0, λ c h m. sym (blocks-before c) ∙ v.1.1 c h m))

  free-then : (k b : ℕ) → AlignedFrom g n (take i (ranges_of es')) k a b → Start (ranges_of es) (last_usable g n) k a b
  free-then k b v = (v.0, (v.1.1, λ c h m. blocks-before c ∙ v.1.2 c h m))

  -- as many blocks as it needs
  need-is : (k : ℕ) → Needs g w k → k ≡ needed g w final
  need-is k (inr v) = v.1 ∙ sym (part-needs-one g n a es w final e v.0)
  need-is k (inl v) =
      let p = part-needs g n a es w final e v.0 in
      multiples g.block k (needed g w final) w.size v.0 v.1 p

  pub as-asked : AsAsked g n a es' i w final
  as-asked = record {
    used = sym (used-is es' i low) ∙ ap unused is-entry ∙ part-used g n a es w final e small o.len o.good fw;
    kind = sym (type-is es' i low) ∙ ap (part 0 16) is-entry
        ∙ new-type (as_new a w size) s (eqb-true _ _ (and_l _ _ (and_l _ _ (and_l _ _ fw))));
    unique = sym (unique-is es' i low) ∙ ap (part 16 16) is-entry
        ∙ new-unique (as_new a w size) s (eqb-true _ _ (and_r _ _ (and_l _ _ (and_l _ _ fw))));
    attributes = let l : w.attributes ≤ 4 = leb-true _ _ (and_r _ _ fw) in
        sym (attributes-is es' i low) ∙ ap (λ (x : List ℕ). unle (part 48 8 x)) is-entry
        ∙ ap unle (new-attributes (as_new a w size) s) ∙ unle-le 8 w.attributes (omega (arith, l));
    name = sym (name_is es' i low) ∙ ap (part 56 72) is-entry
        ∙ new-name (as_new a w size) s (eqb-true _ _ (and_r _ _ (and_l _ _ fw)));
    given = λ at q. ap (λ (x : ℕ). x * g.block) first-block ∙ part-given g n a es w final e at q;
    lowest = λ q k v. lowest-from q k (need-is k v);
    sized = λ ne.
        let r = part_room g n a es w final e in let p = r.0 in
        let z : suc (entry_last es' i) - entry_first es' i ≡ size = omega (arith, first-block, last_block) in
        ap (λ (x : ℕ). x * g.block) z ∙ part-blocks g n a es w final e ne;
    reaching = λ z. (part-final g n a es w final e z, ends z (dec_le (s + size) (last_usable g n)));
  }
    where
      lowest-from : w.start ≡ None → (k : ℕ) → k ≡ needed g w final
          → AlignedFrom g n (take i (ranges_of es')) k a (entry_first es' i)
          × ((b : ℕ) → b < entry_first es' i → ¬ AlignedFrom g n (take i (ranges_of es')) k a b)
      lowest-from q k r =
          let p = part-lowest g n a es w final e q in
          subst (λ (m : ℕ). AlignedFrom g n (take i (ranges_of es')) m a (entry_first es' i)
          × ((b : ℕ) → b < entry_first es' i → ¬ AlignedFrom g n (take i (ranges_of es')) m a b)) (sym r)
          (subst (λ (x : ℕ). AlignedFrom g n (take i (ranges_of es')) (needed g w final) a x
          × ((b : ℕ) → b < x → ¬ AlignedFrom g n (take i (ranges_of es')) (needed g w final) a b)) (sym first-block)
          (free-before (needed g w final) s p.1 p.0, λ b h v. p.2 b v.1.0 h (free-then (needed g w final) b v)))

      ends : w.size ≡ 0 → Dec (s + size ≤ last_usable g n)
          → (entry_last es' i ≡ last_usable g n) ⊎ ((j : ℕ) × (j < i) × EntryHolds es' j (suc (entry_last es' i)))
      ends z (no h) = let r = part_room g n a es w final e in let p = r.0 in let q = r.1.0 in inl (omega (arith, last_block))
      ends z (yes h) =
          let r = part_room g n a es w final e in let p = r.0 in
          let at : s + size ≡ suc (entry_last es' i) = omega (arith, last_block) in
          inr (subst (λ (b : ℕ). (j : ℕ) × (j < i) × EntryHolds es' j b) at (taken-by (s + size) (not_f _ (part-ends g n a es w final e z h))))
