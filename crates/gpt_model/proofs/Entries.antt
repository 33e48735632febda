-- Entries, and a table with one entry replaced.
use mathlib.Core.Path.{◌≡◌, refl, sym, ap, ap₂, subst, subst₂, ◌∙◌}
use mathlib.Core.Logic.{◌⊎◌, inl, inr, ⊎_elim, ◌≢◌}
use mathlib.Core.Bool.{true, false, not}
use mathlib.Core.List.{List, [], ◌∷◌, map}
use Prim.Native.Nat.{ℕ, zero, suc, ◌+◌, ◌-◌, ◌≤◌, ◌<◌}
use native.Mathlib.Nat.{le_refl}
use native.Mathlib.Decide.{dec_le, dec_lt, ℕ_discrete}
use native.Mathlib.Omega.{arith}
use lib.Dec.{ltb}
use lib.ListN.{length, get_or, set, take, drop, replicate, length-map, get_or-map}
use lib.Seq.{get_or-set_same, get_or-set_other}
use borrow.Author.Tests.{ltb-false}
use Rattle.octets.specs.Tests.{◌and◌, ◌or◌, all, pairs}
use Rattle.octets.specs.Bytes.{part, put, zeros, is_zero, same, chunks, put_chunk}
use Rattle.octets.proofs.Bools.{and_l, and_r, and_i, or_cases, or-il, or-ir, or-false-i, bool_cases, clash, not_t}
use Rattle.octets.proofs.Tests.{all-get, all-make, pairs-get, pairs-make, any_none}
use Rattle.octets.proofs.Equal.{same_true, same_refl, zero-zeros}
use Rattle.octets.proofs.Chunks.{length-chunks, chunks-put}
use Rattle.gpt_model.specs.Table.{BlockRange, no_blocks, spans, range_size, bounded, apart, type_of, unique_of, first_of, last_of, unused, range_of}
use Rattle.gpt_model.specs.Table.{entry_ok, pair_ok, entries, ranges_of, good_table}
use Rattle.gpt_model.specs.Ranges.{block_in}
use Rattle.gpt_model.proofs.Fields.{behind-type, behind-unique, behind-first, behind-last}
use Rattle.gpt_model.proofs.Room.{Room, block_in-make}
use Rattle.gpt_model.proofs.Counts.{bounded-get, bounded-make}

-- ---- lists

pub map-set : {A B : Type 0} (f : A → B) (l : List A) (i : ℕ) (y : A) → map f (set l i y) ≡ set (map f l) i (f y)
map-set f [] i y = refl
map-set f (x ∷ l) zero y = refl
map-set {B = B} f (x ∷ l) (suc i) y = ap (λ (r : List B). f x ∷ r) (map-set f l i y)

zero-take : (k : ℕ) (xs : List ℕ) → is_zero xs ≡ true → is_zero (take k xs) ≡ true
zero-take zero xs e = refl
zero-take (suc k) [] e = refl
zero-take (suc k) (x ∷ xs) e = and_i _ _ (and_l _ _ e) (zero-take k xs (and_r _ _ e))

zero-drop : (k : ℕ) (xs : List ℕ) → is_zero xs ≡ true → is_zero (drop k xs) ≡ true
zero-drop zero xs e = e
zero-drop (suc k) [] e = refl
zero-drop (suc k) (x ∷ xs) e = zero-drop k xs (and_r _ _ e)

zero-part : (at k : ℕ) (xs : List ℕ) → is_zero xs ≡ true → is_zero (part at k xs) ≡ true
unfolding part
zero-part at k xs e = zero-take k (drop at xs) (zero-drop at xs e)

pub same-sym : (xs ys : List ℕ) → same xs ys ≡ false → same ys xs ≡ false
same-sym xs ys e = go (bool_cases (same ys xs))
  where
    go : (same ys xs ≡ true) ⊎ (same ys xs ≡ false) → same ys xs ≡ false
    go (inr f) = f
    go (inl f) = absurd (clash (subst (λ (z : List ℕ). same z ys ≡ true) (same_true ys xs f) (same_refl ys)) e)

-- ---- an entry

pub range-unused : (e : List ℕ) → unused e ≡ true → range_of e ≡ no_blocks
unfolding range_of
range-unused e q = rw (q, range_of)

pub range-used : (e : List ℕ) → unused e ≡ false → range_of e ≡ spans (first_of e) (last_of e)
unfolding range_of
range-used e q = rw (q, range_of)

-- the one law that knows what an unused entry is; all others hold whatever it is, but for those over the bytes of Stored
pub unused-type : (e : List ℕ) → unused e ≡ is_zero (type_of e)
unfolding unused
unused-type e = refl

pub zero-unused : (e : List ℕ) → is_zero e ≡ true → unused e ≡ true
zero-unused e q = unused-type e ∙ zero-part 0 16 e q

-- an entry with the type GUID of another is used where that one is
pub typed-alike : (e d : List ℕ) → type_of e ≡ type_of d → unused e ≡ unused d
typed-alike e d q = unused-type e ∙ ap is_zero q ∙ sym (unused-type d)

pub unused-nil : unused [] ≡ true
unused-nil = zero-unused [] refl

pub unused-zeros : (k : ℕ) → unused (zeros k) ≡ true
unused-zeros k = zero-unused (zeros k) (zero-zeros k)

-- what is known of a used entry
pub record Used (first last : ℕ) (e : List ℕ) : Type 0 where
  pub used : unused e ≡ false
  pub unique : is_zero (unique_of e) ≡ false
  pub low : first ≤ first_of e
  pub mid : first_of e ≤ last_of e
  pub high : last_of e ≤ last

pub ok-used : (first last : ℕ) (e : List ℕ) → entry_ok first last e ≡ true → unused e ≡ false → Used first last e
unfolding entry_ok
ok-used first last e k u = go (or_cases _ _ k)
  where
    go : (unused e ≡ true) ⊎ ((not (is_zero (unique_of e)) and bounded first last (range_of e)) ≡ true) → Used first last e
    go (inl f) = absurd (clash f u)
    go (inr f) =
        let b = bounded-get first last (first_of e) (last_of e) (subst (λ (s : BlockRange). bounded first last s ≡ true) (range-used e u) (and_r _ _ f)) in
        record { used = u; unique = not_t _ (and_l _ _ f); low = b.0; mid = b.1; high = b.2 }

pub used-ok : (first last : ℕ) (e : List ℕ) → Used first last e → entry_ok first last e ≡ true
unfolding entry_ok
used-ok first last e u =
    or-ir _ _ (and_i _ _ (ap not u.unique)
    (subst (λ (s : BlockRange). bounded first last s ≡ true) (sym (range-used e u.used))
    (bounded-make first last (first_of e) (last_of e) u.low u.mid u.high)))

pub unused-ok : (first last : ℕ) (e : List ℕ) → unused e ≡ true → entry_ok first last e ≡ true
unfolding entry_ok
unused-ok first last e q = or-il _ _ q

bounded-none : (first last : ℕ) → bounded first last no_blocks ≡ true
unfolding bounded
bounded-none first last = refl

pub ok-bounded : (first last : ℕ) (e : List ℕ) → entry_ok first last e ≡ true → bounded first last (range_of e) ≡ true
unfolding entry_ok
ok-bounded first last e k =
    ⊎_elim (λ f. subst (λ (s : BlockRange). bounded first last s ≡ true) (sym (range-unused e f)) (bounded-none first last)) (λ f. and_r _ _ f)
    (or_cases _ _ k)

-- ---- two entries

abbrev pub PairOk : List ℕ → List ℕ → Type 0
PairOk e d = unused e ≡ false → unused d ≡ false → (same (unique_of e) (unique_of d) ≡ false) × (apart (range_of e) (range_of d) ≡ true)

pub pair-get : (e d : List ℕ) → pair_ok e d ≡ true → PairOk e d
unfolding pair_ok
pair-get e d k ue ud = go (or_cases _ _ k)
  where
    go : ((unused e or unused d) ≡ true) ⊎ ((not (same (unique_of e) (unique_of d)) and apart (range_of e) (range_of d)) ≡ true)
        → (same (unique_of e) (unique_of d) ≡ false) × (apart (range_of e) (range_of d) ≡ true)
    go (inl f) = absurd (clash f (or-false-i _ _ ue ud))
    go (inr f) = (not_t _ (and_l _ _ f), and_r _ _ f)

pub pair-make : (e d : List ℕ) → PairOk e d → pair_ok e d ≡ true
unfolding pair_ok
pair-make e d f = go (bool_cases (unused e)) (bool_cases (unused d))
  where
    go : (unused e ≡ true) ⊎ (unused e ≡ false) → (unused d ≡ true) ⊎ (unused d ≡ false)
        → (unused e or unused d or (not (same (unique_of e) (unique_of d)) and apart (range_of e) (range_of d))) ≡ true
    go (inl p) q = or-il _ _ (or-il _ _ p)
    go (inr p) (inl q) = or-il _ _ (or-ir _ _ q)
    go (inr p) (inr q) = let w = f p q in or-ir _ _ (and_i _ _ (ap not w.0) w.1)

apart-sym : (s u : BlockRange) → apart s u ≡ true → apart u s ≡ true
unfolding apart
apart-sym no_blocks no_blocks e = refl
apart-sym no_blocks (spans g m) e = refl
apart-sym (spans f l) no_blocks e = refl
apart-sym (spans f l) (spans g m) e = ⊎_elim (λ x. or-ir _ _ x) (λ x. or-il _ _ x) (or_cases _ _ e)

pub pair-sym : (e d : List ℕ) → PairOk e d → PairOk d e
pair-sym e d f p q = let w = f q p in (same-sym _ _ w.0, apart-sym (range_of e) (range_of d) w.1)

apart-none-l : (s : BlockRange) → apart no_blocks s ≡ true
unfolding apart
apart-none-l s = refl

pub pair-apart : (e d : List ℕ) → pair_ok e d ≡ true → apart (range_of e) (range_of d) ≡ true
pair-apart e d k = go (bool_cases (unused e)) (bool_cases (unused d))
  where
    go : (unused e ≡ true) ⊎ (unused e ≡ false) → (unused d ≡ true) ⊎ (unused d ≡ false) → apart (range_of e) (range_of d) ≡ true
    go (inl p) q = subst (λ (s : BlockRange). apart s (range_of d) ≡ true) (sym (range-unused e p)) (apart-none-l _)
    go (inr p) (inl q) =
        subst (λ (s : BlockRange). apart (range_of e) s ≡ true) (sym (range-unused d q)) (apart-sym no_blocks (range_of e) (apart-none-l _))
    go (inr p) (inr q) = (pair-get e d k p q).1

-- a range whose blocks are all outside u shares none with u
pub free-apart : (first last f l : ℕ) (u : BlockRange) → bounded first last u ≡ true → f ≤ l → ((b : ℕ) → f ≤ b → b ≤ l → block_in b u ≡ false)
    → apart (spans f l) u ≡ true
unfolding apart
free-apart first last f l no_blocks k h w = refl
free-apart first last f l (spans g m) k h w = go (bool_cases (ltb l g)) (bool_cases (ltb m f))
  where
    go : (ltb l g ≡ true) ⊎ (ltb l g ≡ false) → (ltb m f ≡ true) ⊎ (ltb m f ≡ false) → (ltb l g or ltb m f) ≡ true
    go (inl p) q = or-il _ _ p
    go (inr p) (inl q) = or-ir _ _ q
    go (inr p) (inr q) = absurd (hit (dec_le g f))
      where
        b : (first ≤ g) × (g ≤ m) × (m ≤ last)
        b = bounded-get first last g m k

        x : g ≤ l
        x = ltb-false _ _ p

        y : f ≤ m
        y = ltb-false _ _ q

        hit : Dec (g ≤ f) → ⊥
        hit (yes z) = clash (block_in-make f g m z y) (w f (le_refl f) h)
        hit (no z) = clash (block_in-make g g m (le_refl g) b.1) (w g (omega arith) x)

-- ---- two entries that the rules can't tell apart, as an entry and the same with other attributes or another name

abbrev pub Alike : List ℕ → List ℕ → Type 0
Alike e d = (unused e ≡ unused d) × (unique_of e ≡ unique_of d) × (range_of e ≡ range_of d)

pub ok-alike : (first last : ℕ) (e d : List ℕ) → Alike e d → entry_ok first last d ≡ true → entry_ok first last e ≡ true
unfolding entry_ok
ok-alike first last e d a k = rw (a.0, a.1, a.2) k

pub pair-alike : (e d x : List ℕ) → Alike e d → PairOk d x → PairOk e x
pair-alike e d x a f = rw (a.0, a.1, a.2) f

range-alike : (e d : List ℕ) → unused e ≡ unused d → first_of e ≡ first_of d → last_of e ≡ last_of d → range_of e ≡ range_of d
range-alike e d u f l = go (bool_cases (unused d))
  where
    go : (unused d ≡ true) ⊎ (unused d ≡ false) → range_of e ≡ range_of d
    go (inl q) = range-unused e (u ∙ q) ∙ sym (range-unused d q)
    go (inr q) = range-used e (u ∙ q) ∙ ap₂ spans f l ∙ sym (range-used d q)

pub behind-alike : (e bytes : List ℕ) (at : ℕ) → 48 ≤ at → Alike (put at bytes e) e
behind-alike e bytes at h =
    let u = typed-alike (put at bytes e) e (behind-type e bytes at h) in
    (u, behind-unique e bytes at h, range-alike (put at bytes e) e u (behind-first e bytes at h) (behind-last e bytes at h))

-- ---- the table

pub range-nil : range_of [] ≡ no_blocks
range-nil = range-unused [] unused-nil

pub get_or-range : (es : List ℕ) (i : ℕ) → get_or (ranges_of es) i no_blocks ≡ range_of (get_or (entries es) i [])
get_or-range es i = ap (get_or (ranges_of es) i) (sym range-nil) ∙ get_or-map range_of (entries es) i []

pub length-ranges_of : (es : List ℕ) → length (ranges_of es) ≡ 128
length-ranges_of es = length-map (entries es) range_of ∙ length-chunks 128 128 es

abbrev pub entry_at : List ℕ → ℕ → List ℕ
entry_at es i = get_or (entries es) i []

module _ (first last : ℕ) (es : List ℕ) where
  pub good-at : good_table first last es ≡ true → (i : ℕ) → i < 128 → entry_ok first last (entry_at es i) ≡ true
  unfolding good_table
  good-at k i h = all-get (entry_ok first last) (entries es) [] (and_l _ _ k) i (omega (arith, length-chunks 128 128 es))

  pub good-pair : good_table first last es ≡ true → (i j : ℕ) → i < 128 → j < 128 → i ≢ j → PairOk (entry_at es i) (entry_at es j)
  unfolding good_table
  good-pair k i j h g ne = go (dec_lt i j)
    where
      go : Dec (i < j) → PairOk (entry_at es i) (entry_at es j)
      go (yes x) = pair-get _ _ (pairs-get pair_ok (entries es) [] (and_r _ _ k) i j x (omega (arith, length-chunks 128 128 es)))
      go (no x) = pair-sym _ _ (pair-get _ _ (pairs-get pair_ok (entries es) [] (and_r _ _ k) j i (omega arith) (omega (arith, length-chunks 128 128 es))))

  pub good-make : ((i : ℕ) → i < 128 → entry_ok first last (entry_at es i) ≡ true)
      → ((i j : ℕ) → i < 128 → j < 128 → i < j → PairOk (entry_at es i) (entry_at es j)) → good_table first last es ≡ true
  unfolding good_table
  good-make p q =
      let w : length (entries es) ≡ 128 = length-chunks 128 128 es in
      and_i _ _ (all-make (entry_ok first last) (entries es) [] (λ i h. p i (omega arith)))
      (pairs-make pair_ok (entries es) [] (λ i j h g. pair-make _ _ (q i j (omega arith) (omega arith) h)))

  pub good-bounded : good_table first last es ≡ true → all (bounded first last) (ranges_of es) ≡ true
  good-bounded k =
      all-make (bounded first last) (ranges_of es) no_blocks
      (λ i h. subst (λ (s : BlockRange). bounded first last s ≡ true) (sym (get_or-range es i))
      (ok-bounded first last (entry_at es i) (good-at k i (omega (arith, length-ranges_of es)))))

  pub good-apart : good_table first last es ≡ true → pairs apart (ranges_of es) ≡ true
  good-apart k =
      pairs-make apart (ranges_of es) no_blocks
      (λ i j h g. rw (get_or-range es i, get_or-range es j)
      (pair-apart (entry_at es i) (entry_at es j)
      (pair-make _ _ (good-pair k i j (omega (arith, length-ranges_of es)) (omega (arith, length-ranges_of es)) (λ e. omega arith)))))

-- one entry replaced
module _ (first last : ℕ) (es : List ℕ) (size : length es ≡ 16384) (i : ℕ) (e : List ℕ) (hi : i < 128) (len : length e ≡ 128) where
  pub entries-put : entries (put_chunk 128 i e es) ≡ set (entries es) i e
  entries-put = chunks-put 128 128 i e es len hi size

  pub ranges-put : ranges_of (put_chunk 128 i e es) ≡ set (ranges_of es) i (range_of e)
  ranges-put = ap (map range_of) entries-put ∙ map-set range_of (entries es) i e

  pub at_same : get_or (entries (put_chunk 128 i e es)) i [] ≡ e
  at_same = ap (λ (l : List (List ℕ)). get_or l i []) entries-put ∙ get_or-set_same (entries es) i e [] (omega (arith, length-chunks 128 128 es))

  pub at_other : (j : ℕ) → j ≢ i → get_or (entries (put_chunk 128 i e es)) j [] ≡ entry_at es j
  at_other j ne = ap (λ (l : List (List ℕ)). get_or l j []) entries-put ∙ get_or-set_other (entries es) i j e [] ne

  -- what holds of the new entry and of each old one holds of each
  pub each-put : (Q : List ℕ → Type 0) → ((j : ℕ) → j < 128 → Q (entry_at es j)) → Q e → (j : ℕ) → j < 128 → Q (entry_at (put_chunk 128 i e es) j)
  each-put Q old new j h = go (ℕ_discrete j i)
    where
      go : Dec (j ≡ i) → Q (entry_at (put_chunk 128 i e es) j)
      go (yes q) = subst (λ (x : ℕ). Q (entry_at (put_chunk 128 i e es) x)) (sym q) (subst Q (sym at_same) new)
      go (no q) = subst Q (sym (at_other j q)) (old j h)

  -- and what holds of the new entry with each other one, and of each two old ones, holds of each two
  pub two-put : (Q : List ℕ → List ℕ → Type 0) → ((d d' : List ℕ) → Q d d' → Q d' d)
      → ((j k : ℕ) → j < 128 → k < 128 → j ≢ k → Q (entry_at es j) (entry_at es k)) → ((j : ℕ) → j < 128 → j ≢ i → Q e (entry_at es j))
      → (j k : ℕ) → j < 128 → k < 128 → j ≢ k → Q (entry_at (put_chunk 128 i e es) j) (entry_at (put_chunk 128 i e es) k)
  two-put Q turn old new j k h g ne = go (ℕ_discrete j i) (ℕ_discrete k i)
    where
      at : ℕ → List ℕ
      at x = entry_at (put_chunk 128 i e es) x

      go : Dec (j ≡ i) → Dec (k ≡ i) → Q (at j) (at k)
      go (yes p) (yes q) = absurd (ne (p ∙ sym q))
      go (yes p) (no q) = subst (λ (x : ℕ). Q (at x) (at k)) (sym p) (subst₂ Q (sym at_same) (sym (at_other k q)) (new k g q))
      go (no p) (yes q) = subst (λ (x : ℕ). Q (at j) (at x)) (sym q) (subst₂ Q (sym (at_other j p)) (sym at_same) (turn e (entry_at es j) (new j h p)))
      go (no p) (no q) = subst₂ Q (sym (at_other j p)) (sym (at_other k q)) (old j k h g ne)

  pub good-put : good_table first last es ≡ true → entry_ok first last e ≡ true → ((j : ℕ) → j < 128 → j ≢ i → PairOk e (entry_at es j))
      → good_table first last (put_chunk 128 i e es) ≡ true
  good-put k ok bs =
      good-make first last (put_chunk 128 i e es) (each-put (λ d. entry_ok first last d ≡ true) (good-at first last es k) ok)
      (λ a b h g l. two-put PairOk pair-sym (good-pair first last es k) bs a b h g (λ x. omega arith))

-- ---- the table with no entries

-- every entry of an all-zero table is unused, and takes no blocks
zero-entry : (k : ℕ) (xs : List ℕ) → is_zero xs ≡ true → (i : ℕ) → unused (get_or (chunks 128 k xs) i []) ≡ true
unfolding chunks
zero-entry zero xs e i = unused-nil
zero-entry (suc k) xs e zero = zero-unused (take 128 xs) (zero-take 128 xs e)
zero-entry (suc k) xs e (suc i) = zero-entry k (drop 128 xs) (zero-drop 128 xs e) i

zero-ranges : (k : ℕ) (xs : List ℕ) → is_zero xs ≡ true → map range_of (chunks 128 k xs) ≡ replicate k no_blocks
unfolding chunks
zero-ranges zero xs e = refl
zero-ranges (suc k) xs e =
    ap₂ ◌∷◌ (range-unused (take 128 xs) (zero-unused (take 128 xs) (zero-take 128 xs e))) (zero-ranges k (drop 128 xs) (zero-drop 128 xs e))

sizes-none : (k : ℕ) → map range_size (replicate k no_blocks) ≡ replicate k 0
sizes-none zero = refl
sizes-none (suc k) = ap (λ (r : List ℕ). 0 ∷ r) (sizes-none k)

pub empty-sizes : map range_size (ranges_of (zeros 16384)) ≡ replicate 128 0
empty-sizes = ap (map range_size) (zero-ranges 128 (zeros 16384) (zero-zeros 16384)) ∙ sizes-none 128

pub empty-unused : (i : ℕ) → unused (entry_at (zeros 16384) i) ≡ true
empty-unused i = zero-entry 128 (zeros 16384) (zero-zeros 16384) i

pub empty-good : (first last : ℕ) → good_table first last (zeros 16384) ≡ true
empty-good first last =
    good-make first last (zeros 16384) (λ i h. unused-ok first last _ (empty-unused i)) (λ i j h g l a b. absurd (clash (empty-unused i) a))

-- ---- a run of free blocks shares none with a range of the table
pub room_apart : (first last : ℕ) (t : List BlockRange) (size f j : ℕ) → 0 < size → Room t last size f → j < length t
    → bounded first last (get_or t j no_blocks) ≡ true
    → apart (spans f (f + size - 1)) (get_or t j no_blocks) ≡ true
room_apart first last t size f j pos r h b =
    free-apart first last f (f + size - 1) (get_or t j no_blocks) b (omega arith) (λ c x y. any_none (block_in c) t no_blocks (r.1 c x (omega arith)) j h)
