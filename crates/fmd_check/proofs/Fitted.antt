-- Every resolution: offsets and sizes are those of the text or follow from the siblings', sections lie in their parents, siblings ascend without overlap.
use Rattle.std.specs.Prelude.{Option, Some, None, Result, Ok, Err}
use mathlib.Core.Path.{◌≡◌, refl, sym, ap, subst, ◌∙◌}
use mathlib.Core.Bool.{Bool, true, false}
use mathlib.Core.Logic.{◌⊎◌, inl, inr}
use mathlib.Core.List.{List, [], ◌∷◌, ◌++◌}
use Prim.Native.Nat.{ℕ, zero, suc, ◌+◌, ◌-◌, ◌≤◌, ◌<◌}
use native.Mathlib.Nat.{not-suc-le-zero, eq-or-lt_of_le}
use native.Mathlib.Numerals.{add-one}
use native.Mathlib.Omega.{arith}
use lib.Dec.{ltb, leb, eqb}
use lib.ListN.{length, get_or, take, drop, length-append, length-drop, get_or-append}
use lib.Seq.{get_or-append_seam, get_or-drop, take-append-le, take_at, drop-cons}
use borrow.Author.Tests.{ltb-true, ltb-false, leb-true, eqb-true, eq-eqb, ne_eqb}
use Rattle.octets.specs.Tests.{◌and◌}
use Rattle.octets.proofs.Bools.{choice, and_l, and_r}
use Rattle.fmd_parse.specs.Trees.{blank_section}
use Rattle.fmd_table.specs.Table.{blank_placed}
use Rattle.fmd_table.specs.declared.ParentOffset.{ParentOffset}
use Rattle.fmd_table.specs.declared.Section.{Section}
use Rattle.fmd_table.specs.declared.Placed.{Placed}
use Rattle.fmd_check.specs.Plans.{placed_end, end_with, sibling_end, room_of, start_of, fits, spot_of, spot_by, spot_in, spot_for, Resolved, after_spot}
use Rattle.fmd_check.specs.Plans.{resolve_from}
use Rattle.fmd_check.specs.Fitted.{Siblings, Neighbours, BeginsAt, EndsAt, Lies, Sized}
use Rattle.fmd_check.specs.Claims.{ResolvedFacts}
use Rattle.fmd_parse.specs.Rows.{sibling_in, reach_of, is_undecided, undecided}
use Rattle.fmd_parse.specs.declared.rows.Reach.{Reach}
use Rattle.fmd_parse.specs.declared.rows.Reach.TheVariants.{OfSize, UpTo, ToParentEnd, Undecided}
use Rattle.fmd_check.specs.declared.plan.Misfit.{Misfit}
use Rattle.fmd_check.specs.declared.plan.Misfit.TheVariants.{Unfit, NoSize}

-- ---- one section

-- a section's end, by its reach in a parent with this room
abbrev Reaches : Placed → ℕ → Reach → Type 0
Reaches p room (OfSize n) = p.size ≡ n
Reaches p room (UpTo o) = placed_end p ≡ o.0
Reaches p room ToParentEnd = placed_end p ≡ room
Reaches p room Undecided = ⊥

-- what fits: a section of h's parent and level, at its start, after e and within the room, as far as it reaches
pub record Spotted (h : Section) (e start room : ℕ) (r : Reach) (p : Placed) : Type 0 where
  pub begin : p.offset.0 ≡ start
  pub reach : Reaches p room r
  pub some : 1 ≤ p.size
  pub after : e ≤ p.offset.0
  pub within : placed_end p ≤ room
  pub parent : p.parent ≡ h.parent
  pub level : p.level ≡ h.level

abbrev SpotFacts : Section → ℕ → ℕ → ℕ → Reach → Result Placed Misfit → Type 0
SpotFacts h e start room r (Ok p) = Spotted h e start room r p × (is_undecided r ≡ false)
SpotFacts h e start room r (Err Unfit) = is_undecided r ≡ false
SpotFacts h e start room r (Err NoSize) = is_undecided r ≡ true

spot-facts : (h : Section) (e start size room : ℕ) (r : Reach) → is_undecided r ≡ false
    → ((p : Placed) → p.offset.0 ≡ start → p.size ≡ size → 1 ≤ size → Reaches p room r) → SpotFacts h e start room r (spot_of h e start size room)
unfolding spot_of fits
spot-facts h e start size room r u f =
    choice (SpotFacts h e start room r) (leb 1 size and leb e start and leb (start + size) room) _ _
    (λ q.
    let a = and_l (leb 1 size and leb e start) (leb (start + size) room) q in
    let some = leb-true 1 size (and_l _ _ a) in (
      record {
        begin = refl;
        reach = f (record { offset = record { 0 = start }; size = size; parent = h.parent; level = h.level }) refl refl some;
        some = some;
        after = leb-true e start (and_r _ _ a);
        within = leb-true (start + size) room (and_r _ _ q);
        parent = refl;
        level = refl;
      },
      u,
    ))
    (λ q. u)

reach-facts : (h : Section) (e start room : ℕ) (r : Reach) → SpotFacts h e start room r (spot_by h e start room r)
reach-facts h e start room (OfSize n) = spot-facts h e start _ room (OfSize n) refl (λ p a b c. b)
reach-facts h e start room (UpTo o) = spot-facts h e start _ room (UpTo o) refl (λ p a b c. omega arith)
reach-facts h e start room ToParentEnd = spot-facts h e start _ room ToParentEnd refl (λ p a b c. omega arith)
reach-facts h e start room Undecided = refl

-- how far h reaches, before the sections hs
abbrev reach_in : Section → List Section → Reach
reach_in h hs = reach_of h.size (sibling_in h.parent hs)

place-facts : (z : ℕ) (ps : List Placed) (h : Section) (hs : List Section)
    → SpotFacts h (sibling_end h.parent 0 ps) (start_of h.offset (sibling_end h.parent 0 ps)) (room_of z h.parent ps) (reach_in h hs) (spot_for z ps h hs)
unfolding spot_for spot_in
place-facts z ps h hs = reach-facts h (sibling_end h.parent 0 ps) _ (room_of z h.parent ps) (reach_in h hs)

lacks-at : (l : List Section) (k : ℕ) (h : Section) (hs : List Section) → get_or l k blank_section ≡ h → drop (suc k) l ≡ hs
    → is_undecided (reach_in h hs) ≡ undecided l k
unfolding undecided
lacks-at l k h hs a b = rw (add-one k, a, b)

sized-more : (l : List Section) (k : ℕ) → Sized l k → undecided l k ≡ false → Sized l (k + 1)
sized-more l k f e j h = cases (eq-or-lt_of_le {n = j} {m = k} (omega arith))
  where
    cases : (j ≡ k) ⊎ (j < k) → undecided l j ≡ false
    cases (inl q) = rw q e
    cases (inr q) = f j q

-- ---- the last end with a parent, one section further on

end-push : (par e : ℕ) (ps : List Placed) (p : Placed) → sibling_end par e (ps ++ (p ∷ [])) ≡ end_with par (sibling_end par e ps) p
unfolding sibling_end
end-push par e [] p = refl
end-push par e (q ∷ ps) p = end-push par (end_with par e q) ps p

-- no section has the parent
end_none : (par e : ℕ) (ps : List Placed) → ((j : ℕ) → j < length ps → (get_or ps j blank_placed).parent ≡ par → ⊥) → sibling_end par e ps ≡ e
unfolding sibling_end end_with
end_none par e [] f = refl
end_none par e (p ∷ ps) f = rw (ne_eqb p.parent par (f 0 (omega arith))) (end_none par e ps (λ j h. f (suc j) (omega arith)))

-- section j is the last with the parent
end-last : (par e : ℕ) (ps : List Placed) (j : ℕ) → j < length ps → (get_or ps j blank_placed).parent ≡ par
    → ((i : ℕ) → j < i → i < length ps → (get_or ps i blank_placed).parent ≡ par → ⊥) → sibling_end par e ps ≡ placed_end (get_or ps j blank_placed)
unfolding sibling_end end_with
end-last par e [] j h q f = absurd (omega arith)
end-last par e (p ∷ ps) zero h q f = rw (eq-eqb p.parent par q) (end_none par (placed_end p) ps (λ i g. f (suc i) (omega arith) (omega arith)))
end-last par e (p ∷ ps) (suc j) h q f = end-last par (end_with par e p) ps j (omega arith) q (λ i a b. f (suc i) (omega arith) (omega arith))

-- ---- the next section with a parent

next-none : (par : ℕ) (xs : List Section) → ((i : ℕ) → i < length xs → (get_or xs i blank_section).parent ≡ par → ⊥) → sibling_in par xs ≡ None
unfolding sibling_in
next-none par [] f = refl
next-none par (x ∷ xs) f = rw (ne_eqb x.parent par (f 0 (omega arith))) (next-none par xs (λ i h. f (suc i) (omega arith)))

-- section i is the first with the parent
next-first : (par : ℕ) (xs : List Section) (i : ℕ) → i < length xs → (get_or xs i blank_section).parent ≡ par
    → ((j : ℕ) → j < i → (get_or xs j blank_section).parent ≡ par → ⊥) → sibling_in par xs ≡ Some (get_or xs i blank_section).offset
unfolding sibling_in
next-first par [] i h q f = absurd (omega arith)
next-first par (x ∷ xs) zero h q f = rw (eq-eqb x.parent par q)
next-first par (x ∷ xs) (suc i) h q f =
    rw (ne_eqb x.parent par (f 0 (omega arith))) (next-first par xs i (omega arith) q (λ j g. f (suc j) (omega arith)))

-- ---- section k of the list l

module _ (l : List Section) (k : ℕ) where
  -- by the last end e of its parent
  begins-at : (ps : List Placed) (o : Option ParentOffset) (x e : ℕ) → x ≡ start_of o e → ((j : ℕ) → Neighbours l j k → e ≡ placed_end (get_or ps j blank_placed))
      → (((j : ℕ) → j < k → Siblings l j k → ⊥) → e ≡ 0) → BeginsAt l ps k o x
  begins-at ps (Some o) x e q f g = q
  begins-at ps None x e q f g = (λ j n. q ∙ f j n, λ n. q ∙ g n)

  up-to : (p : Placed) (room : ℕ) (o : Option ParentOffset) → Reaches p room (reach_of None (Some o)) → o ≡ Some (record { 0 = placed_end p })
  up-to p room (Some o) q = ap (λ (n : ℕ). Some (record { 0 = n })) (sym q)
  up-to p room None q = absurd q

  -- by its next sibling
  ends_at : (z : ℕ) (ps : List Placed) (n : Option ℕ) (p : Placed) (next : Option (Option ParentOffset)) (room : ℕ) → Reaches p room (reach_of n next)
      → ((i : ℕ) → i < length l → Neighbours l k i → next ≡ Some (get_or l i blank_section).offset)
      → (((i : ℕ) → k < i → i < length l → Siblings l i k → ⊥) → next ≡ None) → room ≡ room_of z p.parent (take k ps) → EndsAt z l ps k n p
  ends_at z ps (Some n) p next room q f g e = q
  ends_at z ps None p next room q f g e = (
    λ i h n. up-to p room _ (subst (λ (s : Option (Option ParentOffset)). Reaches p room (reach_of None s)) (f i h n) q),
    λ n. subst (λ (s : Option (Option ParentOffset)). Reaches p room (reach_of None s)) (g n) q ∙ e,
  )

  -- its next sibling is the first of those after it with its parent
  after-k : (m : ℕ) → get_or (drop (suc k) l) m blank_section ≡ get_or l (suc k + m) blank_section
  after-k m = get_or-drop (suc k) l m blank_section

  length-after : length (drop (suc k) l) ≡ length l - suc k
  length-after = length-drop (suc k) l

  next-is : (i : ℕ) → i < length l → Neighbours l k i → sibling_in (get_or l k blank_section).parent (drop (suc k) l) ≡ Some (get_or l i blank_section).offset
  next-is i h n =
      let a = n.before in
      let m : suc k + (i - suc k) ≡ i = omega arith in
      let x : get_or (drop (suc k) l) (i - suc k) blank_section ≡ get_or l i blank_section = after-k (i - suc k)
      ∙ ap (λ (j : ℕ). get_or l j blank_section) m in
      next-first (get_or l k blank_section).parent (drop (suc k) l) (i - suc k) (omega (arith, length-after))
      (ap (λ (y : Section). y.parent) x ∙ sym n.siblings)
      (λ j g q. n.between (suc k + j) (omega arith) (omega arith) (sym (ap (λ (y : Section). y.parent) (after-k j)) ∙ (q ∙ n.siblings)))
      ∙ ap (λ (y : Section). Some y.offset) x

  next_last : ((i : ℕ) → k < i → i < length l → Siblings l i k → ⊥) → sibling_in (get_or l k blank_section).parent (drop (suc k) l) ≡ None
  next_last f =
      next-none (get_or l k blank_section).parent (drop (suc k) l)
      (λ i h q. f (suc k + i) (omega arith) (omega (arith, length-after)) (sym (ap (λ (y : Section). y.parent) (after-k i)) ∙ q))

-- every section with the parent ends at or before the last end
abbrev Ends : List Placed → Type 0
Ends ps = (k : ℕ) → k < length ps → placed_end (get_or ps k blank_placed) ≤ sibling_end (get_or ps k blank_placed).parent 0 ps

-- ---- the plan with one section more

module _ (ps : List Placed) (p : Placed) where
  one_more : length (ps ++ (p ∷ [])) ≡ length ps + 1
  one_more = length-append ps (p ∷ [])

  last : get_or (ps ++ (p ∷ [])) (length ps) blank_placed ≡ p
  last = get_or-append_seam ps p [] blank_placed

  before : (k : ℕ) → k < length ps → get_or (ps ++ (p ∷ [])) k blank_placed ≡ get_or ps k blank_placed
  before k h = get_or-append ps (p ∷ []) blank_placed k h

  -- what holds at every index before, and at the last, holds at every index
  every : (P : ℕ → Placed → Type 0) → ((k : ℕ) → k < length ps → P k (get_or ps k blank_placed)) → P (length ps) p
      → (k : ℕ) → k < length (ps ++ (p ∷ [])) → P k (get_or (ps ++ (p ∷ [])) k blank_placed)
  every P f g k h = by_place (ltb k (length ps)) refl
    where
      by_place : (b : Bool) → ltb k (length ps) ≡ b → P k (get_or (ps ++ (p ∷ [])) k blank_placed)
      by_place true e = let x = ltb-true k (length ps) e in rw (before k x) (f k x)
      by_place false e =
          let n = one_more in
          let x : k ≡ length ps = omega (arith, ltb-false k (length ps) e) in
          rw (x, last) g

module _ (z : ℕ) (ps : List Placed) {h : Section} {start : ℕ} {r : Reach} {p : Placed}
    (s : Spotted h (sibling_end h.parent 0 ps) start (room_of z h.parent ps) r p) (o : Ends ps) where
  earlier-ends : (j : ℕ) → j < length ps → (get_or ps j blank_placed).parent ≡ p.parent → placed_end (get_or ps j blank_placed) ≤ p.offset.0
  earlier-ends j q e =
      let a = o j q in
      let b = s.after in
      let x : sibling_end (get_or ps j blank_placed).parent 0 ps ≡ sibling_end h.parent 0 ps = ap (λ (n : ℕ). sibling_end n 0 ps) (e ∙ s.parent) in
      omega arith

  -- the last end with the parent of an earlier section, after p
  old-end : (k : ℕ) → k < length ps
      → placed_end (get_or ps k blank_placed) ≤ end_with (get_or ps k blank_placed).parent (sibling_end (get_or ps k blank_placed).parent 0 ps) p
  unfolding end_with
  old-end k q =
      choice (λ (n : ℕ). placed_end (get_or ps k blank_placed) ≤ n) (eqb p.parent (get_or ps k blank_placed).parent) _ _
      (λ e. let a = earlier-ends k q (sym (eqb-true p.parent (get_or ps k blank_placed).parent e)) in omega arith)
      (λ e. o k q)

  new-end : placed_end p ≤ end_with p.parent (sibling_end p.parent 0 ps) p
  unfolding end_with
  new-end = rw (eq-eqb p.parent p.parent refl) (omega arith)

  ends-push : Ends (ps ++ (p ∷ []))
  ends-push =
      every ps p (λ k q. placed_end q ≤ sibling_end q.parent 0 (ps ++ (p ∷ [])))
      (λ k q. rw (end-push (get_or ps k blank_placed).parent 0 ps p) (old-end k q)) (rw (end-push p.parent 0 ps p) new-end)

  lies-push : ((k : ℕ) → k < length ps → Lies z ps k (get_or ps k blank_placed))
      → (k : ℕ) → k < length (ps ++ (p ∷ [])) → Lies z (ps ++ (p ∷ [])) k (get_or (ps ++ (p ∷ [])) k blank_placed)
  lies-push f = every ps p (λ k q. Lies z (ps ++ (p ∷ [])) k q) (λ k q. old k q (f k q)) new
    where
      old : (k : ℕ) → k < length ps → {q : Placed} → Lies z ps k q → Lies z (ps ++ (p ∷ [])) k q
      old k x {q} t =
          record {
            some = t.some;
            within = rw (take-append-le k ps (p ∷ []) (omega arith)) t.within;
            after = λ j y. rw (before ps p j (omega arith)) (t.after j y);
          }

      new : Lies z (ps ++ (p ∷ [])) (length ps) p
      new =
          record {
            some = s.some;
            within = rw (take_at ps (p ∷ []) (length ps) refl, s.parent) s.within;
            after = λ j y. rw (before ps p j y) (earlier-ends j y);
          }

-- ---- all sections of the list l

-- as many as ps, and one more, p
module _ (z : ℕ) (l : List Section) (ps : List Placed) (p : Placed)
    (parents : (k : ℕ) → k < length ps → (get_or ps k blank_placed).parent ≡ (get_or l k blank_section).parent) where
  abbrev h : Section
  h = get_or l (length ps) blank_section

  last_end : (j : ℕ) → Neighbours l j (length ps) → sibling_end h.parent 0 ps ≡ placed_end (get_or (ps ++ (p ∷ [])) j blank_placed)
  last_end j n =
      rw (before ps p j n.before)
      (end-last h.parent 0 ps j n.before (parents j n.before ∙ n.siblings)
      (λ i a b q. n.between i a b (sym (parents i b) ∙ q)))

  no_end : ((j : ℕ) → j < length ps → Siblings l j (length ps) → ⊥) → sibling_end h.parent 0 ps ≡ 0
  no_end f = end_none h.parent 0 ps (λ j a q. f j a (sym (parents j a) ∙ q))

  begins-push : p.offset.0 ≡ start_of h.offset (sibling_end h.parent 0 ps)
      → ((k : ℕ) → k < length ps → BeginsAt l ps k (get_or l k blank_section).offset (get_or ps k blank_placed).offset.0)
      → (k : ℕ) → k < length (ps ++ (p ∷ []))
      → BeginsAt l (ps ++ (p ∷ [])) k (get_or l k blank_section).offset (get_or (ps ++ (p ∷ [])) k blank_placed).offset.0
  begins-push e f =
      every ps p (λ k q. BeginsAt l (ps ++ (p ∷ [])) k (get_or l k blank_section).offset q.offset.0)
      (λ k a. old k a (get_or l k blank_section).offset _ (f k a))
      (begins-at l (length ps) (ps ++ (p ∷ [])) h.offset p.offset.0 _ e last_end no_end)
    where
      old : (k : ℕ) → k < length ps → (o : Option ParentOffset) (x : ℕ) → BeginsAt l ps k o x → BeginsAt l (ps ++ (p ∷ [])) k o x
      old k a (Some o) x t = t
      old k a None x t = (λ j n. let b = n.before in rw (before ps p j (omega arith)) (t.0 j n), t.1)

  sizes-push : Reaches p (room_of z h.parent ps) (reach_in h (drop (suc (length ps)) l)) → p.parent ≡ h.parent
      → ((k : ℕ) → k < length ps → EndsAt z l ps k (get_or l k blank_section).size (get_or ps k blank_placed))
      → (k : ℕ) → k < length (ps ++ (p ∷ [])) → EndsAt z l (ps ++ (p ∷ [])) k (get_or l k blank_section).size (get_or (ps ++ (p ∷ [])) k blank_placed)
  sizes-push r e f =
      every ps p (λ k q. EndsAt z l (ps ++ (p ∷ [])) k (get_or l k blank_section).size q) (λ k a. old k a (get_or l k blank_section).size _ (f k a))
      (ends_at l (length ps) z (ps ++ (p ∷ [])) h.size p _ (room_of z h.parent ps) r (next-is l (length ps)) (next_last l (length ps))
      (rw (take_at ps (p ∷ []) (length ps) refl, e)))
    where
      old : (k : ℕ) → k < length ps → (n : Option ℕ) (q : Placed) → EndsAt z l ps k n q → EndsAt z l (ps ++ (p ∷ [])) k n q
      old k a (Some n) q t = t
      old k a None q t = (t.0, λ g. rw (take-append-le k ps (p ∷ []) (omega arith)) (t.1 g))

record Done (z : ℕ) (l : List Section) (ps : List Placed) : Type 0 where
  sized : Sized l (length ps)
  short : length ps ≤ length l
  before : Ends ps
  begins : (k : ℕ) → k < length ps → BeginsAt l ps k (get_or l k blank_section).offset (get_or ps k blank_placed).offset.0
  ends : (k : ℕ) → k < length ps → EndsAt z l ps k (get_or l k blank_section).size (get_or ps k blank_placed)
  each : (k : ℕ) → k < length ps → Lies z ps k (get_or ps k blank_placed)
  parent : (k : ℕ) → k < length ps → (get_or ps k blank_placed).parent ≡ (get_or l k blank_section).parent
  level : (k : ℕ) → k < length ps → (get_or ps k blank_placed).level ≡ (get_or l k blank_section).level

after-spot : (z : ℕ) (l : List Section) (h : Section) (e start room k : ℕ) (r : Reach) (t : Result Placed Misfit) (f : Placed → Resolved) → SpotFacts h e start room r t
    → k < length l → is_undecided r ≡ undecided l k → Sized l k → ((p : Placed) → Spotted h e start room r p → Sized l (k + 1) → ResolvedFacts z l (f p))
    → ResolvedFacts z l (after_spot t k f)
after-spot z l h e start room k r (Ok p) f w q u d g = g p w.0 (sized-more l k d (sym u ∙ w.1))
after-spot z l h e start room k r (Err Unfit) f w q u d g = (q, sized-more l k d (sym u ∙ w))
after-spot z l h e start room k r (Err NoSize) f w q u d g = (q, d, sym u ∙ w)

from-rest : (z : ℕ) (l : List Section) (hs : List Section) (ps : List Placed) → drop (length ps) l ≡ hs → Done z l ps
    → ResolvedFacts z l (resolve_from z ps hs)
unfolding resolve_from
from-rest z l [] ps e w =
    let a = w.short in
    let n : length ps ≡ length l = omega (arith, sym (length-drop (length ps) l) ∙ ap length e) in (
      record {
        count = n;
        begins = w.begins;
        ends = w.ends;
        each = w.each;
        parent = w.parent;
        level = w.level;
      },
      rw n at w.sized,
    )
from-rest z l (h ∷ hs) ps e w =
    let a : length l - length ps ≡ suc (length hs) = sym (length-drop (length ps) l) ∙ ap length e in
    let q : length ps < length l = omega arith in
    let c : get_or l (length ps) blank_section ∷ drop (suc (length ps)) l ≡ h ∷ hs = sym (drop-cons l (length ps) blank_section q) ∙ e in
    let c0 : get_or l (length ps) blank_section ≡ h = ap (λ (xs : List Section). get_or xs 0 blank_section) c in
    let c1 : drop (suc (length ps)) l ≡ hs = ap (λ (xs : List Section). drop 1 xs) c in
    after-spot z l h (sibling_end h.parent 0 ps) _ (room_of z h.parent ps) (length ps) (reach_in h hs) (spot_for z ps h hs) _ (place-facts z ps h hs) q
    (lacks-at l (length ps) h hs c0 c1) w.sized
    (λ p s d.
    let n = one_more ps p in
    let m : length (ps ++ (p ∷ [])) ≡ suc (length ps) = omega arith in
    from-rest z l hs (ps ++ (p ∷ [])) (rw m c1)
    (record {
      sized = rw n d;
      short = omega arith;
      before = ends-push z ps s w.before;
      begins = begins-push z l ps p w.parent (rw c0 s.begin) w.begins;
      ends = sizes-push z l ps p w.parent (rw (c0, c1) s.reach) (s.parent ∙ ap (λ (x : Section). x.parent) (sym c0)) w.ends;
      each = lies-push z ps s w.before w.each;
      parent = every ps p (λ k x. x.parent ≡ (get_or l k blank_section).parent) w.parent (s.parent ∙ ap (λ (x : Section). x.parent) (sym c0));
      level = every ps p (λ k x. x.level ≡ (get_or l k blank_section).level) w.level (s.level ∙ ap (λ (x : Section). x.level) (sym c0));
    }))

-- an index that does not fit is one of the list; else the sections lie in their parents, and siblings ascend without overlap
pub resolve-facts : (z : ℕ) (l : List Section) → ResolvedFacts z l (resolve_from z [] l)
resolve-facts z l =
    from-rest z l l [] refl
    (record {
      sized = λ k h. absurd (not-suc-le-zero h);
      short = omega arith;
      before = λ k h. absurd (not-suc-le-zero h);
      begins = λ k h. absurd (not-suc-le-zero h);
      ends = λ k h. absurd (not-suc-le-zero h);
      each = λ k h. absurd (not-suc-le-zero h);
      parent = λ k h. absurd (not-suc-le-zero h);
      level = λ k h. absurd (not-suc-le-zero h);
    })
