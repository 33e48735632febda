-- One partition of a layout string, on the table that the earlier ones left: it fits as an added one does, and stands where and as large as was asked.
use mathlib.Core.Path.{◌≡◌, refl, ap, ◌∙◌}
use mathlib.Core.Logic.{◌⊎◌, inl, inr, ◌≢◌}
use mathlib.Core.Bool.{Bool, true, false, not, cond, true≢false}
use mathlib.Core.List.{List, [], map}
use mathlib.Core.Option.{none, some}
use Rattle.std.specs.Prelude.{Option, None, Some}
use Prim.Native.Nat.{ℕ, suc, ◌+◌, ◌-◌, ◌*◌, ◌/◌, ◌%◌, ◌^◌, ◌≤◌, ◌<◌}
use native.Mathlib.Nat.{div-add-mod', div-le_self}
use native.Mathlib.Omega.{arith}
use lib.Dec.{leb, eqb}
use lib.ListN.{length}
use borrow.Author.Tests.{leb-true, eqb-true}
use Rattle.octets.specs.Tests.{◌and◌}
use Rattle.octets.specs.Rows.{Row, refusal}
use Rattle.octets.proofs.Bools.{and_l, and_r, or-false-l, or-false-r, bool_cases, not_t, not_f}
use Rattle.octets.proofs.Tests.{find_ix-get}
use Rattle.octets.proofs.Rows.{passes}
use Rattle.octets.proofs.Chunks.{length-chunks}
use Rattle.gpt_model.specs.Table.{unused, BlockRange, range_size, range_of, entries, ranges_of, good_table}
use Rattle.gpt_model.specs.Disk.{Shape, last_usable}
use Rattle.gpt_model.specs.Ranges.{in_none, room_at, run_from}
use Rattle.gpt_model.specs.Calls.{add, is_none, or_zero, lowest_unused}
use Rattle.gpt_model.proofs.Room.{Room, Start, room-get, start-some}
use Rattle.gpt_model.proofs.Longest.{run_holds, run-bound, run-stops, run-least}
use Rattle.gpt_model.proofs.Entries.{range-unused, entry_at}
use Rattle.gpt_model.proofs.Edits.{nonzero, some-or_zero, Fits, new-fits}
use Rattle.gpt_string_model.specs.declared.WantedPartition.{WantedPartition}
use Rattle.gpt_string_model.specs.Build.{reaches, needed, as_new, standing, first_block, size_in_blocks, uneven, blocked, part_rows, entry_for}

-- what the partitions of a taken text are: type, unique GUID and name as long as an entry has them, attributes that it has room for
abbrev pub formed : WantedPartition → Bool
formed w = eqb (length w.kind) 16 and eqb (length w.unique) 16 and eqb (length w.name) 36 and leb w.attributes 4

-- the blocks that it takes are free: those that it needs, or the rest of the run
widened : (t : List BlockRange) (last : ℕ) (b : Bool) (k s : ℕ) → 0 < cond b 1 k → Room t last (cond b 1 k) s
    → (0 < cond b (run_from (in_none t) s (suc last - s)) k) × Room t last (cond b (run_from (in_none t) s (suc last - s)) k) s
widened t last false k s pos r = (pos, r)
widened t last true k s pos r =
    let a = r.0 in
    let p = run-least (in_none t) s (suc last - s) 1 (omega arith) (λ c h l. ap not (r.1 c h l)) in
    let q = run-bound (in_none t) s (suc last - s) in
    (p, (omega arith, λ c h l. not_t _ (run_holds (in_none t) s (suc last - s) c h l)))

pub whole : (x block : ℕ) → eqb (x % block) 0 ≡ true → x / block * block ≡ x
whole x block e = let w = div-add-mod' x block in let z = eqb-true (x % block) 0 e in omega arith

-- it fits as an added partition of its size does
abbrev pub FitsPart : Shape → ℕ → ℕ → List ℕ → WantedPartition → Bool → Type 0
FitsPart g n a es w final =
    Fits g.first (last_usable g n) es (add (as_new a w (size_in_blocks g n a es w final))) (suc (lowest_unused es)) (lowest_unused es)
    (entry_for g n a es w final)

module _ (g : Shape) (n a : ℕ) (es : List ℕ) (w : WantedPartition) (final : Bool) (e : refusal (part_rows g n a es w final) ≡ none) where
  abbrev rows : List Row
  rows = part_rows g n a es w final

  abbrev last : ℕ
  last = last_usable g n

  abbrev need : ℕ
  need = needed g w final

  -- where it stands, the blocks that it needs are free
  stands : (o : Option ℕ) → blocked g n es o ≡ false → is_none (standing g n a es w final o) ≡ false
      → (g.first ≤ or_zero (standing g n a es w final o)) × Room (ranges_of es) last need (or_zero (standing g n a es w final o))
  stands None b q = let p = start-some (ranges_of es) g.first last need a _ (some-or_zero _ q) in (p.0, p.1.1)
  stands (Some at) b q = go (room_at (ranges_of es) last need (at / g.block)) refl q
    where
      go : (c : Bool) → room_at (ranges_of es) last need (at / g.block) ≡ c → is_none (cond c (some (at / g.block)) none) ≡ false
          → (g.first ≤ or_zero (cond c (some (at / g.block)) none)) × Room (ranges_of es) last need (or_zero (cond c (some (at / g.block)) none))
      go false r q = absurd (true≢false q)
      go true r q = (leb-true _ _ (and_l _ _ (and_l _ _ (not_f _ b))), room-get _ _ _ _ r)

  pub part-stands : (g.first ≤ first_block g n a es w final) × Room (ranges_of es) last need (first_block g n a es w final)
  part-stands = stands w.start (passes 72 rows e) (passes 25 rows e)

  pub part_room : (0 < size_in_blocks g n a es w final) × Room (ranges_of es) last (size_in_blocks g n a es w final) (first_block g n a es w final)
  part_room =
      widened (ranges_of es) last (reaches w final) (w.size / g.block) (first_block g n a es w final) (nonzero _ (passes 20 rows e)) part-stands.1

  -- b8: with it, the partition stands exactly there
  pub part-given : (at : ℕ) → w.start ≡ Some at → first_block g n a es w final * g.block ≡ at
  part-given at q = go w.start q (passes 71 rows e) (passes 25 rows e)
    where
      go : (o : Option ℕ) → o ≡ Some at → uneven g w.size o ≡ false → is_none (standing g n a es w final o) ≡ false
          → or_zero (standing g n a es w final o) * g.block ≡ at
      go None q u v = let z : ◌≡◌ {A = ℕ} 0 1 = cc in absurd (omega arith)
      go (Some x) q u v = there (room_at (ranges_of es) last need (x / g.block)) v ∙ (let z : x ≡ at = cc in z)
        where
          there : (c : Bool) → is_none (cond c (some (x / g.block)) none) ≡ false → or_zero (cond c (some (x / g.block)) none) * g.block ≡ x
          there true v = whole x g.block (not_f _ (or-false-l _ _ u))
          there false v = absurd (true≢false v)

  pub part-lowest : w.start ≡ None
      → (g.first ≤ first_block g n a es w final) × Start (ranges_of es) last need a (first_block g n a es w final)
      × ((b : ℕ) → g.first ≤ b → b < first_block g n a es w final → Start (ranges_of es) last need a b → ⊥)
  part-lowest q = go w.start q (passes 25 rows e)
    where
      go : (o : Option ℕ) → o ≡ None → is_none (standing g n a es w final o) ≡ false → let s = or_zero (standing g n a es w final o) in
          (g.first ≤ s) × Start (ranges_of es) last need a s × ((b : ℕ) → g.first ≤ b → b < s → Start (ranges_of es) last need a b → ⊥)
      go None q v = start-some (ranges_of es) g.first last need a _ (some-or_zero _ v)
      go (Some x) q v = let z : ◌≡◌ {A = ℕ} 0 1 = cc in absurd (omega arith)

  pub part-even : w.size / g.block * g.block ≡ w.size
  part-even = whole w.size g.block (even w.start (passes 71 rows e))
    where
      even : (o : Option ℕ) → uneven g w.size o ≡ false → eqb (w.size % g.block) 0 ≡ true
      even None q = not_f _ q
      even (Some at) q = not_f _ (or-false-r _ _ q)

  -- a size other than 0 is what it takes
  not-reaching : w.size ≢ 0 → reaches w final ≡ false
  not-reaching ne = go (bool_cases (reaches w final))
    where
      go : (reaches w final ≡ true) ⊎ (reaches w final ≡ false) → reaches w final ≡ false
      go (inl q) = absurd (ne (eqb-true w.size 0 (and_r _ _ q)))
      go (inr q) = q

  pub part-blocks : w.size ≢ 0 → size_in_blocks g n a es w final * g.block ≡ w.size
  part-blocks ne = rw (not-reaching ne) part-even

  pub part-needs : w.size ≢ 0 → need * g.block ≡ w.size
  part-needs ne = rw (not-reaching ne) part-even

  -- a size 0 is the last partition's
  pub part-reaches : w.size ≡ 0 → reaches w final ≡ true
  part-reaches z = go (bool_cases (reaches w final))
    where
      go : (reaches w final ≡ true) ⊎ (reaches w final ≡ false) → reaches w final ≡ true
      go (inl q) = q
      go (inr q) =
          let p : 0 < cond (reaches w final) 1 (w.size / g.block) = nonzero _ (passes 20 rows e) in
          let r : 0 < w.size / g.block = rw q at p in
          absurd (omega (arith, div-le_self w.size g.block))

  pub part-final : w.size ≡ 0 → final ≡ true
  part-final z = and_l _ _ (part-reaches z)

  pub part-needs-one : w.size ≡ 0 → need ≡ 1
  part-needs-one z = ap (λ (b : Bool). cond b 1 (w.size / g.block)) (part-reaches z)

  -- b7: to the end of that free run
  pub part-ends : w.size ≡ 0 → let f = first_block g n a es w final in
      f + size_in_blocks g n a es w final ≤ last → in_none (ranges_of es) (f + size_in_blocks g n a es w final) ≡ false
  part-ends z h = rw (part-reaches z) (run-stops (in_none (ranges_of es)) (first_block g n a es w final) (suc last - first_block g n a es w final) short)
    where
      short : run_from (in_none (ranges_of es)) (first_block g n a es w final) (suc last - first_block g n a es w final) < suc last - first_block g n a es
          w final
      short =
          let p : first_block g n a es w final + run_from (in_none (ranges_of es)) (first_block g n a es w final) (suc last - first_block g n a es w final) ≤ last
          = rw (part-reaches z) at h in
          omega arith

  module _ (small : last_usable g n < 256 ^ 8) (len : length es ≡ 16384) (good : good_table g.first (last_usable g n) es ≡ true) (f : formed w ≡ true) where
    pub part-fits : FitsPart g n a es w final
    part-fits =
        let u = find_ix-get unused (entries es) [] (not_f _ (passes 24 rows e)) in
        new-fits g.first last small es len good (lowest_unused es) (first_block g n a es w final) (as_new a w (size_in_blocks g n a es w final))
        (omega (arith, u.0, length-chunks 128 128 es)) u.1 part_room.0 part-stands.0 part_room.1
        (eqb-true _ _ (and_l _ _ (and_l _ _ (and_l _ _ f)))) (eqb-true _ _ (and_r _ _ (and_l _ _ (and_l _ _ f))))
        (passes 21 rows e) (or-false-l _ _ (passes 22 rows e)) (or-false-r _ _ (passes 22 rows e))

    pub part-size : range_size (range_of (entry_for g n a es w final)) ≡ size_in_blocks g n a es w final
    part-size =
        let u = find_ix-get unused (entries es) [] (not_f _ (passes 24 rows e)) in
        let b = part-fits.balance (record { granted = 0; back = 0; sizes = map range_size (ranges_of es) }) refl in
        omega (arith, ap range_size (range-unused (entry_at es (lowest_unused es)) u.1))

    pub part-used : unused (entry_for g n a es w final) ≡ false
    part-used = go (bool_cases (unused (entry_for g n a es w final)))
      where
        go : (unused (entry_for g n a es w final) ≡ true) ⊎ (unused (entry_for g n a es w final) ≡ false) → unused (entry_for g n a es w final) ≡ false
        go (inr q) = q
        go (inl q) = let z = ap range_size (range-unused _ q) in let p = part-size in let t = part_room.0 in absurd (omega arith)
