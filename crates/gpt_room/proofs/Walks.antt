-- Laws of the walk from gap to gap, and that its outcome hangs on the free blocks alone.
use mathlib.Core.Path.{◌≡◌, sym, ap, ap₂, subst, fun_ext, ◌∙◌}
use mathlib.Core.Bool.{Bool, not}
use mathlib.Core.List.{List, [], map}
use mathlib.Core.Option.{none, some}
use Prim.Native.Nat.{ℕ, suc, ◌+◌, ◌-◌, ◌%◌, ◌≤◌, ◌<◌, max}
use native.Mathlib.Nat.{le_refl}
use native.Mathlib.Omega.{arith}
use lib.Dec.{leb, eqb}
use lib.ListN.{set}
use Rattle.octets.specs.Tests.{◌and◌}
use Rattle.gpt_model.specs.Ranges.{block_in, in_none, MultipleOf, all_from, lowest_from, room_at, lowest_start, count_from, free_count, run_from}
use Rattle.gpt_model.specs.Ranges.{longest as longest_of, longest_free}
use Rattle.gpt_model.specs.Table.{BlockRange, no_blocks, range_of, entries, ranges_of}
use Rattle.gpt_model.proofs.Entries.{map-set}
use Rattle.gpt_model.proofs.Multiples.{Up, up_is}
use Rattle.gpt_model.proofs.Walk.{Low, low-start, low-over, low-gap, low-found, low-none, Counted, Longest, counted_start, longest-start, counted-over}
use Rattle.gpt_model.proofs.Walk.{longest-over, counted-gap, longest-step, counted-end, longest-end}
use Rattle.gpt_table.specs.Invariants.{blocks_of, without, InOrder}
use Rattle.std.specs.Prelude.{None}
use Rattle.gpt_table.specs.declared.order.Range.{Range}
use Rattle.gpt_table.proofs.Used.{lies-used, slot-nil}
use Rattle.gpt_table.proofs.Good.{some_in_order}
use Rattle.gpt_room.specs.Answers.{free_of}
use Rattle.gpt_room.specs.Invariants.{Full, Clear}

-- ---- the same blocks are free

-- the ranges of used entries in order leave the same blocks free as the entries
pub free-ranges : (es : List (List ℕ)) {rs : List Range} → InOrder es rs → in_none (map blocks_of rs) ≡ in_none (map range_of es)
free-ranges es w = fun_ext (λ b. ap not (some_in_order es w (block_in b) ∙ lies-used b es))

-- and as the slots but slot `but`
pub free-but : (t : List (List ℕ)) (but : ℕ) {rs : List Range} → InOrder (set t but []) rs
    → in_none (map blocks_of rs) ≡ in_none (set (map range_of t) but no_blocks)
free-but t but w = free-ranges (set t but []) w ∙ ap in_none (map-set range_of t but [] ∙ ap (set (map range_of t) but) slot-nil)

pub run-same : (p q : ℕ → Bool) → p ≡ q → (last a : ℕ) → run_from p a (suc last - a) ≡ run_from q a (suc last - a)
run-same p q e last a = ap (λ (p : ℕ → Bool). run_from p a (suc last - a)) e

module _ (s u : List BlockRange) (e : in_none s ≡ in_none u) (last : ℕ) where
  pub room-same : (size : ℕ) {a b : ℕ} → a ≡ b → room_at s last size a ≡ room_at u last size b
  unfolding room_at
  room-same size q = ap₂ (λ (p : ℕ → Bool) (x : ℕ). leb (x + size) (suc last) and all_from p x size) e q

  module _ (first : ℕ) where
    pub place_same : (size m : ℕ) → lowest_start s first last size m ≡ lowest_start u first last size m
    unfolding lowest_start room_at
    place_same size m =
        ap (λ (p : ℕ → Bool). lowest_from (λ (a : ℕ). eqb (a % m) 0 and (leb (a + size) (suc last) and all_from p a size)) first (suc last - first)) e

    pub counts_same : free_of s first last ≡ free_of u first last
    unfolding free_count longest_free
    counts_same = ap (λ (p : ℕ → Bool). record { blocks = count_from p first (suc last - first); longest = longest_of p first (suc last - first) }) e

-- ---- placing: what is known at block a

pub record Looked (s : List BlockRange) (first last size m a : ℕ) : Type 0 where
  pub from : first ≤ a
  pub low : (pos : 0 < size) → Low s first last size m pos a

pub looked-start : {s : List BlockRange} {first last size m : ℕ} → Looked s first last size m first
looked-start {s} {first} {last} {size} {m} = record { from = le_refl first; low = λ p. low-start s first last size m p }

module _ {s : List BlockRange} {first last size m a : ℕ} (k : Looked s first last size m a) where
  pub looked-over : {x : ℕ} → Full s a x → Looked s first last size m (x + 1)
  looked-over {x} w =
      record { from = omega (arith, k.from, w.from); low = λ p. low-over s first last size m p a x (k.low p) w.taken }

  -- a gap up to but without g, with a padding of d blocks
  module _ {d g : ℕ} (v : (d < m) × MultipleOf m (a + d)) (w : Clear s a last g) where
    up : Up m a (a + d)
    up = let l = v.0 in up_is m a (a + d) (omega arith) v.1 (omega arith)

    pub looked-on : g - a < d + size → Looked s first last size m g
    looked-on h =
        let u = w.past in
        record { from = omega (arith, k.from); low = λ p. low-gap s first last size m p a g (a + d) (k.low p) up (omega arith) w.stop }

    pub looked-found : 0 < size → d + size ≤ g - a → some (a + d) ≡ lowest_start s first last size m
    looked-found pos h =
        let u = w.past in
        sym (low-found s first last size m pos a g (a + d) (k.low pos) up k.from (omega arith) w.end w.free)

  pub looked-none : 0 < size → last < a → none ≡ lowest_start s first last size m
  looked-none pos h = sym (low-none s first last size m pos a (k.low pos) h)

-- ---- counting: n free blocks before block a, the longest run of them m

pub record Tallied (s : List BlockRange) (first last n m a : ℕ) : Type 0 where
  pub fit : n + first ≤ a
  pub counted : Counted s first last n a
  pub longest : Longest s first last m a

pub tallied-start : {s : List BlockRange} {first last : ℕ} → Tallied s first last 0 0 first
tallied-start {s} {first} {last} = record { fit = omega arith; counted = counted_start s first last; longest = longest-start s first last }

module _ {s : List BlockRange} {first last n m a : ℕ} (k : Tallied s first last n m a) where
  pub tallied-over : {x : ℕ} → x ≤ last → Full s a x → Tallied s first last n m (x + 1)
  tallied-over {x} h w =
      record {
        fit = omega (arith, k.fit, w.from);
        counted = counted-over s first last n a x h w.from k.counted w.taken;
        longest = longest-over s first last m a x h w.from k.longest w.taken;
      }

  pub tallied-gap : {g q : ℕ} → Clear s a last g → q ≡ max m (g - a) → Tallied s first last (n + (g - a)) q g
  tallied-gap {g} {q} w e =
      let u = w.past in
      let ag : a ≤ g = omega arith in
      record {
        fit = omega (arith, k.fit);
        counted = counted-gap s first last n a g ag w.end k.counted w.free;
        longest = subst (λ (y : ℕ). Longest s first last y g) (sym e)
            (longest-step s first last m a g ag w.end k.longest w.free w.stop);
      }

  pub tallied-end : last < a → record { blocks = n; longest = m } ≡ free_of s first last
  tallied-end h =
      ap₂ (λ (x y : ℕ). record { blocks = x; longest = y }) (counted-end s first last n a h k.counted) (longest-end s first last m a h k.longest)

pub tallied-full : {s : List BlockRange} {first last n m a x : ℕ} → Tallied s first last n m a → a ≤ last → last ≤ x → Full s a x
    → record { blocks = n; longest = m } ≡ free_of s first last
tallied-full {s} {first} {last} {n} {m} {a} {x} k al h w =
    tallied-end (tallied-over k (le_refl last) (record { from = al; taken = λ c p q. w.taken c p (omega arith) })) (omega arith)

-- ---- what the trace names: with no slot left out, the blocks free are those in no range of the table

pub free_all : (t : List ℕ) {rs : List Range} → InOrder (without None (entries t)) rs → in_none (map blocks_of rs) ≡ in_none (ranges_of t)
free_all t w = free-ranges (entries t) w
