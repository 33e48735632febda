-- Laws of the links among the sections of a table.
use Rattle.std.specs.Prelude.{Option, Some, None}
use mathlib.Core.Path.{◌≡◌, refl, sym, ap, ◌∙◌}
use mathlib.Core.Bool.{true, false}
use mathlib.Core.Logic.{◌⊎◌, inl, inr}
use mathlib.Core.List.{List, [], ◌∷◌, ◌++◌}
use Prim.Native.Nat.{ℕ, ◌+◌, ◌≤◌, ◌<◌}
use native.Mathlib.Nat.{eq-or-lt_of_le, not-suc-le-zero}
use native.Mathlib.Omega.{arith}
use lib.Dec.{eqb}
use lib.ListN.{length, get_or, set, length-set, get_or-append}
use lib.Seq.{get_or_at, get_or-set_same, get_or-set_other}
use borrow.Author.Tests.{eqb-true, eqb-false}
use Rattle.octets.proofs.Bools.{bool_cases}
use Rattle.fmd_table.specs.Table.{image_row, blank_row, section_at, sections_in, HasRows}
use Rattle.fmd_table.specs.Invariants.{row_of, next_link, last_link, next_sibling_at, last_child_at, linked_behind, parent_at, IsParent, NextIn, LastIn, Linked, linked_to}
use Rattle.fmd_table.specs.declared.Section.{Section}
use Rattle.fmd_table.proofs.Listed.{listed_same}
use Rattle.fmd_table.specs.declared.SectionRow.{SectionRow}
use Rattle.fmd_table.proofs.Table.{row_put, length-sections, section-in}

either : (a b : ℕ) → (a ≡ b) ⊎ (a ≡ b → ⊥)
either a b = cases (bool_cases (eqb a b))
  where
    cases : (eqb a b ≡ true) ⊎ (eqb a b ≡ false) → (a ≡ b) ⊎ (a ≡ b → ⊥)
    cases (inl e) = inl (eqb-true a b e)
    cases (inr e) = inr (eqb-false a b e)

-- ---- a row written

-- what a written row has as before
keep : {B : Type 0} (f : SectionRow → B) (rows : List SectionRow) (a k : ℕ) (v : SectionRow) → a < length rows → f v ≡ f (get_or rows a blank_row)
    → f (get_or (set rows a v) k blank_row) ≡ f (get_or rows k blank_row)
keep f rows a k v room e = cases (either k a)
  where
    cases : (k ≡ a) ⊎ (k ≡ a → ⊥) → f (get_or (set rows a v) k blank_row) ≡ f (get_or rows k blank_row)
    cases (inl q) = rw q (ap f (get_or-set_same rows a v blank_row room) ∙ e)
    cases (inr d) = ap f (get_or-set_other rows a k v blank_row d)

-- a link to a row of a section
link-some : (o : Option ℕ) (j : ℕ) → j ≡ row_of o → j < image_row → o ≡ Some j
link-some (Some k) j e b = ap (λ (i : ℕ). Some i) (sym e)
link-some None j e b = absurd (omega arith)

-- ---- the next sibling of the last child

module _ (n : ℕ) (rows : List SectionRow) (room : HasRows 129 rows) where
  length-behind : (o : Option ℕ) → length (linked_behind o n rows) ≡ length rows
  length-behind (Some j) = length-set rows j _
  length-behind None = refl

  behind-section : (o : Option ℕ) → row_of o ≤ image_row → (k : ℕ) → section_at (linked_behind o n rows) k ≡ section_at rows k
  unfolding section_at
  behind-section (Some j) c k = keep (λ (r : SectionRow). r.section) rows j k _ (omega (arith, room)) refl
  behind-section None c k = refl

  behind-last : (o : Option ℕ) → row_of o ≤ image_row → (k : ℕ) → last_link (linked_behind o n rows) k ≡ last_link rows k
  unfolding last_link
  behind-last (Some j) c k = keep (λ (r : SectionRow). r.last) rows j k _ (omega (arith, room)) refl
  behind-last None c k = refl

  behind-next : (o : Option ℕ) (k : ℕ) → (k ≡ row_of o → ⊥) → next_link (linked_behind o n rows) k ≡ next_link rows k
  unfolding next_link
  behind-next (Some j) k d = ap (λ (r : SectionRow). r.next) (get_or-set_other rows j k _ blank_row d)
  behind-next None k d = refl

  behind-own : (j : ℕ) → j ≤ image_row → next_link (linked_behind (Some j) n rows) j ≡ Some n
  unfolding next_link
  behind-own j b = ap (λ (r : SectionRow). r.next) (get_or-set_same rows j _ blank_row (omega (arith, room)))

-- ---- the links of row n written, p its parent

module _ (n p : ℕ) (rows : List SectionRow) (room : HasRows 129 rows) (b : p ≤ image_row) (c : last_child_at rows p ≤ image_row) where
  inner : List SectionRow
  inner = linked_behind (last_link rows p) n rows

  length-inner : length inner ≡ length rows
  unfolding inner
  length-inner = length-behind n rows room (last_link rows p)

  own : p < length inner
  own = omega (arith, length-inner, room)

  linked-section : (k : ℕ) → section_at (linked_to n p rows) k ≡ section_at rows k
  unfolding linked_to section_at inner
  linked-section k = keep (λ (r : SectionRow). r.section) inner p k _ own refl ∙ behind-section n rows room (last_link rows p) c k

  linked-sections : (k : ℕ) → sections_in k (linked_to n p rows) ≡ sections_in k rows
  unfolding sections_in
  linked-sections k = listed_same (section_at (linked_to n p rows)) (section_at rows) k (λ j h. linked-section j)

  length-linked : length (linked_to n p rows) ≡ length rows
  unfolding linked_to inner
  length-linked = length-set inner p _ ∙ length-inner

  next-kept : (j : ℕ) → next_link (linked_to n p rows) j ≡ next_link inner j
  unfolding linked_to next_link inner
  next-kept j = keep (λ (r : SectionRow). r.next) inner p j _ own refl

  linked-next : (j : ℕ) → j < image_row → j ≡ last_child_at rows p → next_link (linked_to n p rows) j ≡ Some n
  unfolding inner
  linked-next j h e =
      let o : last_link rows p ≡ Some j = link-some (last_link rows p) j e h in
      next-kept j ∙ ap (λ (l : Option ℕ). next_link (linked_behind l n rows) j) o ∙ behind-own n rows room j (omega arith)

  linked-next-other : (j : ℕ) → (j ≡ last_child_at rows p → ⊥) → next_link (linked_to n p rows) j ≡ next_link rows j
  unfolding inner
  linked-next-other j d = next-kept j ∙ behind-next n rows room (last_link rows p) j d

  linked-last : last_link (linked_to n p rows) p ≡ Some n
  unfolding linked_to last_link inner
  linked-last = ap (λ (r : SectionRow). r.last) (get_or-set_same inner p _ blank_row own)

  linked-last-other : (j : ℕ) → (j ≡ p → ⊥) → last_link (linked_to n p rows) j ≡ last_link rows j
  unfolding linked_to last_link inner
  linked-last-other j d =
      ap (λ (r : SectionRow). r.last) (get_or-set_other inner p j _ blank_row d) ∙ behind-last n rows room (last_link rows p) c j

-- ---- row n written

-- the row of a section without links
abbrev pub bare_row : Section → SectionRow
bare_row h = record { section = h; next = None; last = None }

module _ (n : ℕ) (h : Section) (rows : List SectionRow) where
  put-next-other : (j : ℕ) → (j ≡ n → ⊥) → next_link (set rows n (bare_row h)) j ≡ next_link rows j
  unfolding next_link
  put-next-other j d = ap (λ (r : SectionRow). r.next) (get_or-set_other rows n j (bare_row h) blank_row d)

  put-last-other : (j : ℕ) → (j ≡ n → ⊥) → last_link (set rows n (bare_row h)) j ≡ last_link rows j
  unfolding last_link
  put-last-other j d = ap (λ (r : SectionRow). r.last) (get_or-set_other rows n j (bare_row h) blank_row d)

  put_next : HasRows (n + 1) rows → next_link (set rows n (bare_row h)) n ≡ None
  unfolding next_link
  put_next room = ap (λ (r : SectionRow). r.next) (get_or-set_same rows n (bare_row h) blank_row (omega (arith, room)))

  put_last : HasRows (n + 1) rows → last_link (set rows n (bare_row h)) n ≡ None
  unfolding last_link
  put_last room = ap (λ (r : SectionRow). r.last) (get_or-set_same rows n (bare_row h) blank_row (omega (arith, room)))

-- ---- what is known of the table with h in row n, linked

record Pushed (n : ℕ) (h : Section) (rows new : List SectionRow) : Type 0 where
  pub sections : sections_in (n + 1) new ≡ sections_in n rows ++ (h ∷ [])
  pub old : (j : ℕ) → j < n → parent_at new j ≡ parent_at rows j
  pub own : parent_at new n ≡ h.parent
  pub no-next : next_link new n ≡ None
  pub no-child : last_link new n ≡ None
  pub next : (j : ℕ) → j < n → j ≡ last_child_at rows h.parent → next_link new j ≡ Some n
  pub next-other : (j : ℕ) → j < n → (j ≡ last_child_at rows h.parent → ⊥) → next_link new j ≡ next_link rows j
  pub child : last_link new h.parent ≡ Some n
  pub child-other : (p : ℕ) → IsParent n p → (p ≡ h.parent → ⊥) → last_link new p ≡ last_link rows p

module _ (n : ℕ) (h : Section) (rows : List SectionRow) (room : HasRows 129 rows) (few : n < image_row) (p : IsParent n h.parent) (l : Linked n rows) where
  parent_in : (q : ℕ) → IsParent n q → (q ≡ n → ⊥) × (q ≤ image_row)
  parent_in q (inl e) = ((λ d. omega arith), omega arith)
  parent_in q (inr e) = ((λ d. omega arith), omega arith)

  last-in : last_child_at rows h.parent ≤ image_row
  last-in = cases (l.last h.parent p)
    where
      cases : LastIn n rows h.parent → last_child_at rows h.parent ≤ image_row
      cases (inl e) = rw e (omega arith)
      cases (inr e) = omega (arith, e.0)

  pub linkable : (h.parent ≤ image_row) × (last_child_at rows h.parent ≤ image_row)
  linkable = ((parent_in h.parent p).1, last-in)

  room-left : HasRows (n + 1) (linked_to n h.parent rows)
  room-left = let l = linkable in omega (arith, room, length-linked n h.parent rows room l.0 l.1)

  grown : sections_in (n + 1) (set (linked_to n h.parent rows) n (bare_row h)) ≡ sections_in n rows ++ (h ∷ [])
  grown = let l = linkable in row_put (linked_to n h.parent rows) n (bare_row h) room-left ∙ rw (linked-sections n h.parent rows room l.0 l.1 n)

  -- the section of row j, by the lists
  at : (xs : List SectionRow) (k j : ℕ) → j < k → section_at xs j ≡ get_or (sections_in k xs) j h
  at xs k j b = sym (section-in k xs j h b)

  pushed : Pushed n h rows (set (linked_to n h.parent rows) n (bare_row h))
  pushed = record {
    sections = grown;
    old = λ j b. ap (λ (e : Section). e.parent)
        (at _ (n + 1) j (omega arith) ∙ ap (λ (l : List Section). get_or l j h) grown
        ∙ get_or-append (sections_in n rows) (h ∷ []) h j (omega (arith, length-sections n rows)) ∙ sym (at rows n j b));
    own = ap (λ (e : Section). e.parent)
        (at _ (n + 1) n (omega arith) ∙ ap (λ (l : List Section). get_or l n h) grown ∙ get_or_at (sections_in n rows) h [] h n (length-sections n rows));
    no-next = put_next n h _ room-left;
    no-child = put_last n h _ room-left;
    next = λ j b e. put-next-other n h _ j (λ d. omega arith) ∙ linked-next n h.parent rows room linkable.0 linkable.1 j (omega arith) e;
    next-other = λ j b d. put-next-other n h _ j (λ e. omega arith) ∙ linked-next-other n h.parent rows room linkable.0 linkable.1 j d;
    child = put-last-other n h _ h.parent (parent_in h.parent p).0 ∙ linked-last n h.parent rows room linkable.0 linkable.1;
    child-other = λ q i d. put-last-other n h _ q (parent_in q i).0 ∙ linked-last-other n h.parent rows room linkable.0 linkable.1 q d;
  }

-- ---- it is linked

module _ (n : ℕ) (h : Section) (rows new : List SectionRow) (few : n < image_row) (p : IsParent n h.parent) (l : Linked n rows) (u : Pushed n h rows new) where
  split : (j : ℕ) → j < n + 1 → (j ≡ n) ⊎ (j < n)
  split j b = eq-or-lt_of_le {n = j} {m = n} (omega arith)

  widen : {a b q : ℕ} → a ≤ b → IsParent a q → IsParent b q
  widen w (inl e) = inl e
  widen w (inr e) = inr (omega arith)

  -- a section that is the last child of h's parent
  of-parent : (j : ℕ) → j < n → j ≡ last_child_at rows h.parent → parent_at rows j ≡ h.parent
  of-parent j b e = cases (l.last h.parent p)
    where
      cases : LastIn n rows h.parent → parent_at rows j ≡ h.parent
      cases (inl d) = let z : j ≡ image_row = e ∙ ap row_of d in absurd (omega arith)
      cases (inr d) = rw e d.1

  under : (j : ℕ) → (j ≡ n) ⊎ (j < n) → IsParent j (parent_at new j)
  under j (inl e) = rw (e, u.own) p
  under j (inr b) = rw (u.old j b) (l.under j b)

  after : (j : ℕ) → (j ≡ n) ⊎ (j < n) → NextIn (n + 1) new j
  after j (inl e) = inl (rw e u.no-next)
  after j (inr b) = cases (either j (last_child_at rows h.parent))
    where
      older : NextIn n rows j
          → (next_link rows j ≡ None) ⊎ ((j < next_sibling_at rows j) × (next_sibling_at rows j < n + 1)
          × (parent_at new (next_sibling_at rows j) ≡ parent_at new j))
      older (inl e) = inl e
      older (inr e) = inr (e.0, omega (arith, e.1), u.old (next_sibling_at rows j) e.1 ∙ e.2 ∙ sym (u.old j b))

      cases : (j ≡ last_child_at rows h.parent) ⊎ (j ≡ last_child_at rows h.parent → ⊥) → NextIn (n + 1) new j
      cases (inl e) = inr (rw (u.next j b e) (b, omega arith, u.own ∙ sym (u.old j b ∙ of-parent j b e)))
      cases (inr d) = rw (u.next-other j b d) (older (l.after j b))

  between : (j i : ℕ) → j < i → (i ≡ n) ⊎ (i < n) → parent_at new i ≡ parent_at new j → next_sibling_at new j ≤ i
  between j i o (inl e) q = cases (either j (last_child_at rows h.parent))
    where
      b : j < n
      b = omega arith

      own : parent_at rows j ≡ h.parent
      own = sym (u.old j b) ∙ sym q ∙ rw e u.own

      most : (j ≤ last_child_at rows h.parent) × (last_child_at rows h.parent < n)
      most = rw (sym own) (l.greatest j b)

      cases : (j ≡ last_child_at rows h.parent) ⊎ (j ≡ last_child_at rows h.parent → ⊥) → next_sibling_at new j ≤ i
      cases (inl d) = rw (u.next j b d) (omega arith)
      cases (inr d) =
          let m = most in
          let k = l.between j (last_child_at rows h.parent) (omega arith) m.1 (of-parent (last_child_at rows h.parent) m.1 refl ∙ sym own) in
          rw (u.next-other j b d) (omega arith)
  between j i o (inr c) q = cases (either j (last_child_at rows h.parent))
    where
      b : j < n
      b = omega arith

      same : parent_at rows i ≡ parent_at rows j
      same = sym (u.old i c) ∙ q ∙ u.old j b

      cases : (j ≡ last_child_at rows h.parent) ⊎ (j ≡ last_child_at rows h.parent → ⊥) → next_sibling_at new j ≤ i
      cases (inl d) = absurd (omega (arith, d, ap (last_child_at rows) (same ∙ of-parent j b d), (l.greatest i c).0))
      cases (inr d) = rw (u.next-other j b d) (l.between j i o c same)

  last : (q : ℕ) → IsParent (n + 1) q → (q ≡ h.parent) ⊎ (q ≡ h.parent → ⊥) → LastIn (n + 1) new q
  last q i (inl e) = inr (rw (e, u.child) (omega arith, u.own))
  last q i (inr d) = place i
    where
      older : LastIn n rows q
          → (last_link rows q ≡ None) ⊎ ((last_child_at rows q < n + 1) × (parent_at new (last_child_at rows q) ≡ q))
      older (inl e) = inl e
      older (inr e) = inr (omega (arith, e.0), u.old (last_child_at rows q) e.0 ∙ e.1)

      known : IsParent n q → LastIn (n + 1) new q
      known k = rw (u.child-other q k d) (older (l.last q k))

      row : (q ≡ n) ⊎ (q < n) → LastIn (n + 1) new q
      row (inl e) = inl (rw e u.no-child)
      row (inr e) = known (inr e)

      place : IsParent (n + 1) q → LastIn (n + 1) new q
      place (inl e) = known (inl e)
      place (inr e) = row (split q e)

  greatest : (j : ℕ) → (j ≡ n) ⊎ (j < n) → (j ≤ last_child_at new (parent_at new j)) × (last_child_at new (parent_at new j) < n + 1)
  greatest j (inl e) = rw (e, u.own, u.child) (omega arith, omega arith)
  greatest j (inr b) = rw (u.old j b) (cases (either (parent_at rows j) h.parent))
    where
      cases : (parent_at rows j ≡ h.parent) ⊎ (parent_at rows j ≡ h.parent → ⊥) → (j ≤ last_child_at new (parent_at rows j))
          × (last_child_at new (parent_at rows j) < n + 1)
      cases (inl e) = rw (e, u.child) (omega arith, omega arith)
      cases (inr d) =
          let m = l.greatest j b in
          rw (u.child-other (parent_at rows j) (widen (omega arith) (l.under j b)) d) (m.0, omega arith)

  linked_on : Linked (n + 1) new
  linked_on = record {
    room = omega arith;
    under = λ j b. under j (split j b);
    after = λ j b. after j (split j b);
    between = λ j i o c q. between j i o (split i c) q;
    last = λ q i. last q i (either q h.parent);
    greatest = λ j b. greatest j (split j b);
  }

pub push-linked : (n : ℕ) (h : Section) (rows : List SectionRow) → HasRows 129 rows → n < image_row → IsParent n h.parent → Linked n rows
    → (sections_in (n + 1) (set (linked_to n h.parent rows) n (bare_row h)) ≡ sections_in n rows ++ (h ∷ []))
    × Linked (n + 1) (set (linked_to n h.parent rows) n (bare_row h))
push-linked n h rows room few p l = let u = pushed n h rows room few p l in (u.sections, linked_on n h rows _ few p l u)

-- ---- no section

pub none-linked : (rows : List SectionRow) (r : SectionRow) → HasRows 129 rows → r.last ≡ None → Linked 0 (set rows 128 r)
unfolding last_link
none-linked rows r room none = record {
  room = omega arith;
  under = λ j b. absurd (not-suc-le-zero b);
  after = λ j b. absurd (not-suc-le-zero b);
  between = λ j i o c q. absurd (not-suc-le-zero c);
  last = λ q i. inl (image-only q i);
  greatest = λ j b. absurd (not-suc-le-zero b);
}
  where
    image-only : (q : ℕ) → IsParent 0 q → last_link (set rows 128 r) q ≡ None
    image-only q (inl e) = rw e (ap (λ (s : SectionRow). s.last) (get_or-set_same rows 128 r blank_row (omega (arith, room))) ∙ none)
    image-only q (inr e) = absurd (not-suc-le-zero e)
