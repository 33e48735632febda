-- Where a partition of a string stands, and why it does not, by the free blocks from its start on.
use mathlib.Core.Path.{◌≡◌, refl, sym, ap, ap₂, ◌∙◌}
use mathlib.Core.Logic.{◌⊎◌, inl, inr, ◌≢◌}
use mathlib.Core.Bool.{Bool, true, false, not, cond}
use mathlib.Core.List.{List, [], ◌∷◌}
use mathlib.Core.Option.{Option, none, some}
use Prim.Native.Nat.{ℕ, suc, ◌+◌, ◌-◌, ◌*◌, ◌/◌, ◌%◌, ◌≤◌, ◌<◌}
use native.Mathlib.Nat.{le_refl}
use native.Mathlib.Decide.{dec_lt}
use native.Mathlib.Omega.{arith}
use lib.Dec.{leb, eqb}
use lib.ListN.{length}
use borrow.Author.Tests.{eq-eqb, ne_eqb, le-leb, lt-leb, leb-true, leb-false}
use Rattle.octets.specs.Tests.{◌and◌, ◌or◌}
use Rattle.octets.specs.Rows.{Row, row, refusal}
use Rattle.octets.specs.Bytes.{put, put_chunk}
use Rattle.octets.proofs.Bools.{bool_cases, not_f, clash}
use Rattle.octets.proofs.Tests.{find_ix-get}
use Rattle.octets.proofs.Rows.{pick_true, pick-false, passes, refusal-append, refusal-first}
use Rattle.octets.proofs.Chunks.{length-chunks, put_chunk-put}
use Rattle.gpt_model.specs.Table.{unused, entries, ranges_of}
use Rattle.gpt_model.specs.Disk.{Shape, last_usable}
use Rattle.gpt_model.specs.Ranges.{in_none, room_at, run_from}
use Rattle.gpt_model.specs.Calls.{add, is_none, or_zero, add_rows, lowest_unused, new_entry, start_for, table_rows}
use Rattle.gpt_model.proofs.Longest.{run_holds, run-bound, run-least, room-run}
use Rattle.gpt_model.proofs.Edits.{nonzero}
use Rattle.std.specs.Prelude.{Option as Found, None, Some, unwrap_or}
use Rattle.gpt_string_model.specs.declared.WantedPartition.{WantedPartition}
use Rattle.gpt_string_model.specs.Build.{uneven, blocked, needed, as_new, standing, first_block, size_in_blocks}
use Rattle.gpt_string_model.specs.Build.{part_rows, with_part, faulty, complete, unless_faulty}
use Rattle.gpt_string_model.proofs.Parts.{part_room}
use Rattle.gpt_model.specs.declared.NewPartition.{NewPartition}
use Rattle.gpt_checks.specs.declared.Refusal.{Refusal as DiskRefusal}
use Rattle.gpt_checks.specs.Refusals.{number_of as disk_number}
use Rattle.std.specs.Prelude.{Result, Ok, Err, IsErr, IsErrAnd}
use Rattle.gpt_build.specs.declared.Placed.{Placed}
use Rattle.gpt_build.specs.declared.Refusal.{Refusal}
use Rattle.gpt_build.specs.declared.Refusal.TheVariants.{Disk}
use Rattle.gpt_build.specs.Answers.{number_of}
use Rattle.gpt_build.specs.Invariants.{usable_run, blocks_from, rows_from72, PartPlace, stopped, from, part_place_by, part_place_unless, part_place_of}

-- ---- choices

uneven-by : (g : Shape) (size : ℕ) (start : Found ℕ) → (not (eqb (unwrap_or start 0 % g.block) 0) or not (eqb (size % g.block) 0)) ≡ uneven g size start
unfolding ◌or◌
uneven-by g size None = rw (let z : 0 % g.block ≡ 0 = omega arith in z)
uneven-by g size (Some at) = refl

-- s is the start, or 0
module _ (g : Shape) (size s : ℕ) (start : Found ℕ) (is-s : s ≡ unwrap_or start 0) where
  pub uneven-start : s % g.block ≢ 0 → not (eqb (s % g.block) 0) ≡ uneven g size start
  unfolding ◌or◌
  uneven-start h =
      let e = ne_eqb (s % g.block) 0 h in
      ap not e ∙ ap (λ (b : Bool). not b or not (eqb (size % g.block) 0)) (sym e)
      ∙ ap (λ (x : ℕ). not (eqb (x % g.block) 0) or not (eqb (size % g.block) 0)) is-s ∙ uneven-by g size start

  pub uneven-size : s % g.block ≡ 0 → not (eqb (size % g.block) 0) ≡ uneven g size start
  unfolding ◌or◌
  uneven-size h =
      ap (λ (b : Bool). not b or not (eqb (size % g.block) 0)) (sym (eq-eqb (s % g.block) 0 h))
      ∙ ap (λ (x : ℕ). not (eqb (x % g.block) 0) or not (eqb (size % g.block) 0)) is-s ∙ uneven-by g size start

pub and_no : (b x : Bool) → b ≡ false → false ≡ (b and x)
unfolding ◌and◌
and_no b x e = rw e

pub and_yes : (b x : Bool) → b ≡ true → x ≡ (b and x)
unfolding ◌and◌
and_yes b x e = rw e

pub cond_yes : (b : Bool) (x y : ℕ) → b ≡ true → x ≡ cond b x y
cond_yes b x y e = sym (ap (λ (c : Bool). cond c x y) e)

pub cond_no : (b : Bool) (x y : ℕ) → b ≡ false → y ≡ cond b x y
cond_no b x y e = sym (ap (λ (c : Bool). cond c x y) e)

pub run-last : (p : ℕ → Bool) (b : ℕ) {l : ℕ} (last : ℕ) → l ≡ last → run_from p b (suc l - b) ≡ run_from p b (suc last - b)
run-last p b last e = ap (λ (x : ℕ). run_from p b (suc x - b)) e

-- ---- the free blocks from a usable block on

module _ (g : Shape) (n : ℕ) (es : List ℕ) (at : ℕ) where
  abbrev b : ℕ
  b = at / g.block

  abbrev run : ℕ
  run = run_from (in_none (ranges_of es)) b (suc (last_usable g n) - b)

  blocked-by : (low : Bool) → leb g.first b ≡ low → blocked g n es (Some at) ≡ eqb (cond low run 0) 0
  unfolding ◌and◌
  blocked-by false e = rw e
  blocked-by true e = rw e (go (bool_cases (leb b (last_usable g n))) (bool_cases (in_none (ranges_of es) b)))
    where
      go : (leb b (last_usable g n) ≡ true) ⊎ (leb b (last_usable g n) ≡ false) → (in_none (ranges_of es) b ≡ true) ⊎ (in_none (ranges_of es) b ≡ false)
          → not (leb b (last_usable g n) and in_none (ranges_of es) b) ≡ eqb run 0
      go (inr h) c =
          rw h (sym (eq-eqb run 0 (let z = leb-false b (last_usable g n) h in
          let k = run-bound (in_none (ranges_of es)) b (suc (last_usable g n) - b) in omega arith)))
      go (inl h) (inl c) = rw (h, c) (sym (ne_eqb run 0 (λ z. let k = one c in omega arith)))
        where
          one : in_none (ranges_of es) b ≡ true → 1 ≤ run
          one c =
              let l : b ≤ last_usable g n = leb-true _ _ h in
              run-least (in_none (ranges_of es)) b (suc (last_usable g n) - b) 1 (omega arith)
              (λ x p q. let z : x ≡ b = omega arith in ap (in_none (ranges_of es)) z ∙ c)
      go (inl h) (inr c) = rw (h, c) (sym (eq-eqb run 0 (none_from (dec_lt 0 run))))
        where
          none_from : Dec (0 < run) → run ≡ 0
          none_from (no k) = omega arith
          none_from (yes k) = absurd (clash (run_holds (in_none (ranges_of es)) b (suc (last_usable g n) - b) b (le_refl b) (omega arith)) c)

  pub start-blocked : blocked g n es (Some at) ≡ eqb (usable_run g n es b) 0
  start-blocked = blocked-by (leb g.first b) refl

  run_is : usable_run g n es b ≢ 0 → usable_run g n es b ≡ run
  run_is ne = go (leb g.first b) ne
    where
      go : (low : Bool) → cond low run 0 ≢ 0 → cond low run 0 ≡ run
      go true ne = refl
      go false ne = absurd (ne refl)

-- ---- a spot by the rows

module _ (g : Shape) (n a : ℕ) (es : List ℕ) (w : WantedPartition) (final : Bool) where
  pub spot-stop : (start : Found ℕ) (rows : List Row) (k : ℕ) → refusal rows ≡ some k → stopped k ≡ part_place_of g n a es w final start rows
  spot-stop start rows k e =
      let f = or_zero (standing g n a es w final start) in sym (ap (λ (o : Option ℕ). part_place_unless o f (blocks_from g n es w final f)) e)

  pub spot-from : (start : Found ℕ) (rows : List Row) (f s : ℕ) → refusal rows ≡ none → or_zero (standing g n a es w final start) ≡ f
      → s ≡ blocks_from g n es w final f → from f s ≡ part_place_of g n a es w final start rows
  spot-from start rows f s e p q =
      ap (from f) q ∙ ap (λ (x : ℕ). from x (blocks_from g n es w final x)) (sym p)
      ∙ sym (ap (λ (o : Option ℕ). part_place_unless o (or_zero (standing g n a es w final start))
      (blocks_from g n es w final (or_zero (standing g n a es w final start)))) e)

  -- ---- 71

  pub rows-uneven : uneven g w.size w.start ≡ true → refusal (part_rows g n a es w final) ≡ some 71
  rows-uneven e = pick_true _ 71 _ e

  pub rows-even : uneven g w.size w.start ≡ false → refusal (part_rows g n a es w final) ≡ refusal (rows_from72 g n a es w final w.start)
  rows-even e = pick-false _ 71 _ e

  pub spot-even : (start : Found ℕ) → w.start ≡ start → uneven g w.size w.start ≡ false → (x : PartPlace)
      → x ≡ part_place_of g n a es w final start (rows_from72 g n a es w final start) → x ≡ part_place_of g n a es w final w.start (part_rows g n a es w final)
  spot-even start q e x z =
      z ∙ ap (λ (o : Found ℕ). part_place_of g n a es w final o (rows_from72 g n a es w final o)) (sym q)
      ∙ (let b = or_zero (standing g n a es w final w.start) in
      ap (λ (o : Option ℕ). part_place_unless o b (blocks_from g n es w final b)) (sym (rows-even e)))

  -- ---- a given start

  module _ (at : ℕ) where
    abbrev own : List Row
    own = add_rows es (as_new a w (needed g w final))

    abbrev room25 : List Row
    room25 = row (is_none (standing g n a es w final (Some at))) 25 ∷ []

    abbrev all-rows : List Row
    all-rows = rows_from72 g n a es w final (Some at)

    pub given-taken : usable_run g n es (at / g.block) ≡ 0 → refusal all-rows ≡ some 72
    given-taken z = pick_true _ 72 _ (start-blocked g n es at ∙ eq-eqb _ 0 z)

    module _ (ne : usable_run g n es (at / g.block) ≢ 0) where
      open-start : blocked g n es (Some at) ≡ false
      open-start = start-blocked g n es at ∙ ne_eqb _ 0 ne

      pub given-stop : (k : ℕ) → refusal own ≡ some k → refusal all-rows ≡ some k
      given-stop k e = pick-false _ 72 _ open-start ∙ refusal-first own room25 k e

      module _ (e : refusal own ≡ none) where
        from25 : refusal all-rows ≡ refusal room25
        from25 = pick-false _ 72 _ open-start ∙ refusal-append own room25 e

        room-is : room_at (ranges_of es) (last_usable g n) (needed g w final) (at / g.block) ≡ leb (needed g w final) (usable_run g n es (at / g.block))
        room-is =
            sym (ap (leb (needed g w final)) (run_is g n es at ne)
            ∙ room-run (ranges_of es) (last_usable g n) (needed g w final) (at / g.block) (nonzero _ (passes 20 own e)))

        pub given-short : usable_run g n es (at / g.block) < needed g w final → refusal all-rows ≡ some 25
        given-short h =
            from25
            ∙ pick_true _ 25 _ (ap (λ (c : Bool). is_none (cond c (some (at / g.block)) none))
            (room-is ∙ lt-leb (needed g w final) (usable_run g n es (at / g.block)) h))

        pub given-stands : needed g w final ≤ usable_run g n es (at / g.block)
            → (refusal all-rows ≡ none) × (or_zero (standing g n a es w final (Some at)) ≡ at / g.block)
        given-stands h =
            let q = room-is ∙ le-leb _ _ h in (
              from25 ∙ pick-false _ 25 _ (ap (λ (c : Bool). is_none (cond c (some (at / g.block)) none)) q),
              ap (λ (c : Bool). or_zero (cond c (some (at / g.block)) none)) q,
            )

  -- ---- without start

  pub lowest-rows : refusal (rows_from72 g n a es w final None) ≡ refusal (table_rows g.first (last_usable g n) es (add (as_new a w (needed g w final))))
  lowest-rows = pick-false _ 72 _ refl

  pub lowest-stands : (b : ℕ) → start_for g.first (last_usable g n) es (as_new a w (needed g w final)) ≡ some b
      → or_zero (standing g n a es w final None) ≡ b
  lowest-stands b e = ap or_zero e

-- ---- in the words of the code: the free blocks r from the start on, the blocks s that are needed, what adding is given

module _ (g : Shape) (n a : ℕ) (es : List ℕ) (w : WantedPartition) (final : Bool) (s : ℕ) (p : NewPartition)
    (is-s : s ≡ needed g w final) (is-p : p ≡ as_new a w s) where
  own_is : refusal (add_rows es (as_new a w (needed g w final))) ≡ refusal (add_rows es p)
  own_is = ap (λ (x : ℕ). refusal (add_rows es (as_new a w x))) (sym is-s) ∙ ap (λ (x : NewPartition). refusal (add_rows es x)) (sym is-p)

  module _ (at r : ℕ) (is-r : r ≡ usable_run g n es (at / g.block)) (ne : r ≢ 0) where
    pub given-says-stop : (k : ℕ) → refusal (add_rows es p) ≡ some k
        → stopped k ≡ part_place_of g n a es w final (Some at) (rows_from72 g n a es w final (Some at))
    given-says-stop k e =
        spot-stop g n a es w final (Some at) (rows_from72 g n a es w final (Some at)) k
        (given-stop g n a es w final at (λ z. ne (is-r ∙ z)) k (own_is ∙ e))

    pub given-says-short : refusal (add_rows es p) ≡ none → r < s
        → stopped 25 ≡ part_place_of g n a es w final (Some at) (rows_from72 g n a es w final (Some at))
    given-says-short e h =
        spot-stop g n a es w final (Some at) (rows_from72 g n a es w final (Some at)) 25
        (given-short g n a es w final at (λ z. ne (is-r ∙ z)) (own_is ∙ e) (omega arith))

    pub given-says-from : refusal (add_rows es p) ≡ none → s ≤ r → (x : ℕ) → x ≡ blocks_from g n es w final (at / g.block)
        → from (at / g.block) x ≡ part_place_of g n a es w final (Some at) (rows_from72 g n a es w final (Some at))
    given-says-from e h x q =
        let v = given-stands g n a es w final at (λ z. ne (is-r ∙ z)) (own_is ∙ e) (omega arith) in
        spot-from g n a es w final (Some at) (rows_from72 g n a es w final (Some at)) (at / g.block) x v.0 v.1 q

  abbrev lowest : NewPartition → Option ℕ
  lowest x = refusal (table_rows g.first (last_usable g n) es (add x))

  lowest-is : refusal (rows_from72 g n a es w final None) ≡ lowest p
  lowest-is = lowest-rows g n a es w final ∙ ap (λ (x : ℕ). lowest (as_new a w x)) (sym is-s) ∙ ap lowest (sym is-p)

  pub lowest-says-stop : (k : ℕ) → lowest p ≡ some k → stopped k ≡ part_place_of g n a es w final None (rows_from72 g n a es w final None)
  lowest-says-stop k e = spot-stop g n a es w final None (rows_from72 g n a es w final None) k (lowest-is ∙ e)

  pub lowest-says-from : lowest p ≡ none → (b : ℕ) → start_for g.first (last_usable g n) es p ≡ some b → (x : ℕ) → x ≡ blocks_from g n es w final b
      → from b x ≡ part_place_of g n a es w final None (rows_from72 g n a es w final None)
  lowest-says-from e b q x z =
      let start = start_for g.first (last_usable g n) es in
      spot-from g n a es w final None (rows_from72 g n a es w final None) b x (lowest-is ∙ e)
      (lowest-stands g n a es w final b (ap (λ (y : ℕ). start (as_new a w y)) (sym is-s) ∙ ap start (sym is-p) ∙ q)) z

-- what a `?` hands on of adding's refusals
pub handed : (y : Result Placed Refusal) (r : DiskRefusal) → IsErr y → IsErrAnd y (λ z. z ≡ Disk r) → part_place_by y ≡ stopped (disk_number r)
handed (Ok p) r v w = absurd w
handed (Err z) r v w = ap (λ (k : Refusal). stopped (number_of k)) w

-- ---- what a spot says

pub spot-stopped : (o : Option ℕ) (f s k : ℕ) → stopped k ≡ part_place_unless o f s → o ≡ some k
spot-stopped none f s k e = let z : ◌≡◌ {A = ℕ} 0 1 = cc in absurd (omega arith)
spot-stopped (some j) f s k e = let q : j ≡ k = cc in ap some q

pub spot-at : (o : Option ℕ) (f s x y : ℕ) → from x y ≡ part_place_unless o f s → (o ≡ none) × (x ≡ f) × (y ≡ s)
spot-at none f s x y e = (refl, cc, cc)
spot-at (some j) f s x y e = let z : ◌≡◌ {A = ℕ} 0 1 = cc in absurd (omega arith)

-- what the writer of its entry needs
module _ (g : Shape) (n a : ℕ) (es : List ℕ) (w : WantedPartition) (final : Bool) (e : refusal (part_rows g n a es w final) ≡ none) where
  pub slot-free : lowest_unused es < 128
  slot-free =
      let u = find_ix-get unused (entries es) [] (not_f _ (passes 24 (part_rows g n a es w final) e)) in omega (arith, u.0, length-chunks 128 128 es)

  pub size-some : 0 < size_in_blocks g n a es w final
  size-some = (part_room g n a es w final e).0

  pub size-bound : n ≤ 4294967296 → first_block g n a es w final + size_in_blocks g n a es w final < 18446744073709551616
  size-bound h = let r = (part_room g n a es w final e).1.0 in omega arith

-- ---- the answer of placing, and the table afterwards

module _ (g : Shape) (n a : ℕ) (es : List ℕ) (w : WantedPartition) (final : Bool) where
  abbrev spot : PartPlace
  spot = part_place_of g n a es w final w.start (part_rows g n a es w final)

  pub part-stopped : (k : ℕ) → stopped k ≡ spot → faulty k ≡ unless_faulty (refusal (part_rows g n a es w final)) (complete (with_part g n a es w final))
  part-stopped k e =
      sym (ap (λ (o : Option ℕ). unless_faulty o (complete (with_part g n a es w final))) (spot-stopped (refusal (part_rows g n a es w final)) _ _ k e))

  module _ (f b : ℕ) (p : NewPartition) (is-p : p ≡ as_new a w b) (e : from f b ≡ spot) where
    at : (refusal (part_rows g n a es w final) ≡ none) × (f ≡ first_block g n a es w final) × (b ≡ size_in_blocks g n a es w final)
    at = spot-at (refusal (part_rows g n a es w final)) _ _ f b e

    size_is : p.size ≡ size_in_blocks g n a es w final
    size_is = ap (λ (x : NewPartition). x.size) is-p ∙ at.2

    pub part-put : (es' : List ℕ) → es' ≡ put_chunk 128 (lowest_unused es) (new_entry p f) es
        → complete es' ≡ unless_faulty (refusal (part_rows g n a es w final)) (complete (with_part g n a es w final))
    part-put es' q =
        ap complete (q ∙ ap (λ (x : NewPartition). put_chunk 128 (lowest_unused es) (new_entry x f) es) is-p
        ∙ ap₂ (λ (x y : ℕ). put_chunk 128 (lowest_unused es) (new_entry (as_new a w x) y) es) at.2 at.1)
        ∙ sym (ap (λ (o : Option ℕ). unless_faulty o (complete (with_part g n a es w final))) at.0)

    pub put-needs : n ≤ 4294967296 → (lowest_unused es < 128) × (0 < p.size) × (f + p.size < 18446744073709551616)
    put-needs h =
        let s = size-some g n a es w final at.0 in
        let l = size-bound g n a es w final at.0 h in
        (slot-free g n a es w final at.0, omega (arith, size_is), omega (arith, size_is, at.1))

pub entry_at : (es : List ℕ) → length es ≡ 16384 → (i : ℕ) (e d : List ℕ) → i ≡ lowest_unused es → lowest_unused es < 128 → e ≡ d → length e ≡ 128
    → put (i * 128) e es ≡ put_chunk 128 (lowest_unused es) d es
entry_at es len i e d q h z l =
    ap₂ (λ (k : ℕ) (x : List ℕ). put (k * 128) x es) q z ∙ sym (put_chunk-put 128 128 (lowest_unused es) d es (ap length (sym z) ∙ l) h (len ∙ omega arith))
