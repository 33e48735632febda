-- The two copies by their bytes: when each is good, and what reading answers.
use mathlib.Core.Path.{◌≡◌, refl, sym, ap, subst, ◌∙◌}
use mathlib.Core.Logic.{◌≢◌, ◌↔◌}
use mathlib.Core.Bool.{Bool, true, false, not}
use mathlib.Core.List.{List, [], ◌∷◌}
use Prim.Native.Nat.{ℕ, zero, suc, ◌+◌, ◌-◌, ◌≤◌}
use native.Mathlib.Decide.{ℕ_discrete}
use native.Mathlib.Omega.{arith}
use lib.ListN.{length, get_or}
use borrow.Author.Tests.{eq-eqb, ne_eqb, le-leb}
use Rattle.octets.specs.Rows.{refusal}
use Rattle.octets.specs.Bytes.{part, same}
use Rattle.octets.proofs.Bools.{and_l, and_r, and_i, clash}
use Rattle.octets.proofs.Parts.{length_part, part-part}
use Rattle.octets.proofs.Equal.{same_true, same_refl}
use Rattle.octets.proofs.Rows.{rows_from, pick-false, pick_true}
use Rattle.gpt_model.specs.Disk.{Shape, last_usable, Side, primary, backup, other, header_block, entries_block, lent_bytes, header_at, header_in, guid_in}
use Rattle.gpt_model.specs.Disk.{entries_in, good_copy, state_of, same_copies, state}
use Rattle.gpt_model.specs.Calls.{read, Answer, refused, accepted, Outcome, common_rows, step}
use Rattle.gpt_model.specs.Stored.{TableRules, HeaderSays, HeadGood, TailGood, Alike, SizesOk}
use Rattle.gpt_model.specs.Claims.{GoodByBytes, ReadByBytes}
use Rattle.gpt_model.proofs.Copies.{header-inside}
use Rattle.gpt_model.proofs.States.{good-header, good-table, table-four, table-primary}
use Rattle.gpt_model.proofs.Outcomes.{step-refused, step-accepted}
use Rattle.gpt_model.proofs.StoredTable.{rules-iff}
use Rattle.gpt_model.proofs.StoredHeader.{says-iff}

-- ---- one copy

module _ (g : Shape) (wide : 92 ≤ g.block) (n : ℕ) (side : Side) (b : List ℕ) (lb : length b ≡ lent_bytes g side) where
  abbrev Good : Type 0
  Good =
      HeaderSays (header_block side n) (header_block (other side) n) g.first (last_usable g n) (entries_block g side n) (entries_in g side b)
      (header_in g side b)
      × TableRules g.first (last_usable g n) (entries_in g side b)

  good-make : Good → good_copy g n side b ≡ true
  unfolding good_copy
  good-make w =
      let len = length_part b (header_at g side) 92 (omega (arith, header-inside g wide side)) in
      let e = (says-iff g n side (entries_in g side b) (header_in g side b) len).1 w.0 in
      and_i _ _ (subst (λ (x : List ℕ). same (header_in g side b) x ≡ true) e (same_refl _)) ((rules-iff _ _ _).1 w.1)

  pub good-iff : (good_copy g n side b ≡ true) ↔ Good
  good-iff = (
    λ k. (
      (says-iff g n side (entries_in g side b) (header_in g side b) (length_part b (header_at g side) 92 (omega (arith, header-inside g wide side)))).0
          (good-header g n side b k),
      (rules-iff _ _ _).0 (good-table g n side b k),
    ),
    good-make,
  )

pub good_by_bytes : GoodByBytes
good_by_bytes g n h t l = (good-iff g l.wide n primary h l.head, good-iff g l.wide n backup t l.tail)

-- ---- reading

-- equal disk GUID and entries
pub alike-iff : (g : Shape) (h t : List ℕ) → (same_copies g h t ≡ true) ↔ Alike g h t
alike-iff g h t = (
  λ e. (sym (guid primary h) ∙ same_true _ _ (and_l _ _ e) ∙ guid backup t, same_true _ _ (and_r _ _ e)),
  λ w. and_i _ _ (subst (λ (x : List ℕ). same (guid_in g primary h) x ≡ true) (guid primary h ∙ w.0 ∙ sym (guid backup t)) (same_refl _))
      (subst (λ (x : List ℕ). same (entries_in g primary h) x ≡ true) w.1 (same_refl _)),
)
  where
    guid : (side : Side) (b : List ℕ) → guid_in g side b ≡ part (header_at g side + 56) 16 b
    guid side b = part-part 56 16 (header_at g side) 92 b (omega arith)

-- what reading answers, by the state
abbrev pub reply : ℕ → Answer
reply zero = refused 10
reply (suc s) = accepted (suc s ∷ [])

pub reply-read : (s : ℕ) → s ≢ 0 → accepted (s ∷ []) ≡ reply s
reply-read zero ne = absurd (ne refl)
reply-read (suc s) ne = refl

-- only row 10 can hold
pub sizes-rows : (g : Shape) (n : ℕ) (h t : List ℕ) → SizesOk g n h t
    → refusal (common_rows g n h t true) ≡ refusal (rows_from 10 (common_rows g n h t true))
sizes-rows g n h t l =
    pick-false _ 1 _ (ap not (and_i _ _ (and_i _ _ (eq-eqb _ _ l.head) (eq-eqb _ _ l.tail)) refl))
    ∙ pick-false _ 2 _ (ap not (and_i _ _ (le-leb _ _ l.low) (le-leb _ _ l.high)))

pub read-replies : (g : Shape) (n : ℕ) (h t : List ℕ) → SizesOk g n h t → (step g n h t read).answer ≡ reply (state g n h t)
read-replies g n h t l = go (ℕ_discrete (state g n h t) 0)
  where
    go : Dec (state g n h t ≡ 0) → (step g n h t read).answer ≡ reply (state g n h t)
    go (yes z) = ap (λ (o : Outcome). o.answer) (step-refused g n h t read 10 (sizes-rows g n h t l ∙ pick_true _ 10 _ (eq-eqb _ _ z))) ∙ ap reply (sym z)
    go (no z) =
        ap (λ (o : Outcome). o.answer) (step-accepted g n h t read (sizes-rows g n h t l ∙ pick-false _ 10 _ (ne_eqb _ _ z))) ∙ reply-read (state g n h t) z

-- an answer as a number: the state, or 0 for a refusal
abbrev pub state_in : Answer → ℕ
state_in (refused k) = 0
state_in (accepted values) = get_or values 0 0

-- both hold, or neither does
both : {P Q : Type 0} → P → Q → P ↔ Q
both p q = (λ x. q, λ y. p)

neither : {P Q : Type 0} → ¬ P → ¬ Q → P ↔ Q
neither p q = (λ x. absurd (p x), λ y. absurd (q y))

-- the five answers, by three facts and their tests
module _ (P Q R : Type 0) where
  abbrev Answers : Answer → Type 0
  Answers a =
      ((a ≡ accepted (1 ∷ [])) ↔ (P × Q × R)) × ((a ≡ accepted (2 ∷ [])) ↔ (P × Q × (¬ R))) × ((a ≡ accepted (3 ∷ [])) ↔ (P × (¬ Q)))
      × ((a ≡ accepted (4 ∷ [])) ↔ ((¬ P) × Q)) × ((a ≡ refused 10) ↔ ((¬ P) × (¬ Q)))

  answers : (p q r : Bool) → ((p ≡ true) ↔ P) → ((q ≡ true) ↔ Q) → ((r ≡ true) ↔ R) → Answers (reply (state_of p q r))
  answers p q r f g h = go p q r refl refl refl
    where
      no : {b : Bool} {X : Type 0} → ((b ≡ true) ↔ X) → b ≡ false → ¬ X
      no w e x = clash (w.1 x) e

      other : {a c : Answer} → state_in a ≢ state_in c → a ≢ c
      other ne e = ne (ap state_in e)

      go : (x y z : Bool) → p ≡ x → q ≡ y → r ≡ z → Answers (reply (state_of x y z))
      go true true true a b c =
          let v : P = f.0 a in
          let w : Q = g.0 b in (
            both refl (v, w, h.0 c),
            neither (other (λ e. omega arith)) (λ x. x.2 (h.0 c)),
            neither (other (λ e. omega arith)) (λ x. x.1 w),
            neither (other (λ e. omega arith)) (λ x. x.0 v),
            neither (other (λ e. omega arith)) (λ x. x.0 v),
          )
      go true true false a b c =
          let v : P = f.0 a in
          let w : Q = g.0 b in (
            neither (other (λ e. omega arith)) (λ x. no h c x.2),
            both refl (v, w, no h c),
            neither (other (λ e. omega arith)) (λ x. x.1 w),
            neither (other (λ e. omega arith)) (λ x. x.0 v),
            neither (other (λ e. omega arith)) (λ x. x.0 v),
          )
      go true false z a b c =
          let v : P = f.0 a in (
            neither (other (λ e. omega arith)) (λ x. no g b x.1),
            neither (other (λ e. omega arith)) (λ x. no g b x.1),
            both refl (v, no g b),
            neither (other (λ e. omega arith)) (λ x. x.0 v),
            neither (other (λ e. omega arith)) (λ x. x.0 v),
          )
      go false true z a b c =
          let w : Q = g.0 b in (
            neither (other (λ e. omega arith)) (λ x. no f a x.0),
            neither (other (λ e. omega arith)) (λ x. no f a x.0),
            neither (other (λ e. omega arith)) (λ x. no f a x.0),
            both refl (no f a, w),
            neither (other (λ e. omega arith)) (λ x. x.1 w),
          )
      go false false z a b c = (
        neither (other (λ e. omega arith)) (λ x. no f a x.0),
        neither (other (λ e. omega arith)) (λ x. no f a x.0),
        neither (other (λ e. omega arith)) (λ x. no f a x.0),
        neither (other (λ e. omega arith)) (λ x. no g b x.1),
        both refl (no f a, no g b),
      )

pub read_by_bytes : ReadByBytes
unfolding state
read_by_bytes g n h t l =
    let good = good_by_bytes g n h t l in
    let a = read-replies g n h t l in
    let w = subst (Answers (HeadGood g n h) (TailGood g n t) (Alike g h t)) (sym a)
    (answers (HeadGood g n h) (TailGood g n t) (Alike g h t) (good_copy g n primary h) (good_copy g n backup t) (same_copies g h t) good.0 good.1
    (alike-iff g h t)) in
    record {
      one = w.0;
      two = w.1;
      three = w.2;
      four = w.3;
      neither = w.4;
      in_head = λ ne. table-primary g n h t (λ e. ne (a ∙ four e));
      in_tail = λ e. table-four g n h t (state-four (sym a ∙ e));
    }
  where
    four : state g n h t ≡ 4 → reply (state g n h t) ≡ accepted (4 ∷ [])
    four e = ap reply e ∙ sym (reply-read 4 (λ z. omega arith))

    state-four : reply (state g n h t) ≡ accepted (4 ∷ []) → state g n h t ≡ 4
    state-four e = go (ℕ_discrete (state g n h t) 0)
      where
        go : Dec (state g n h t ≡ 0) → state g n h t ≡ 4
        go (yes z) = absurd (omega (arith, ap state_in (sym (ap reply z) ∙ e)))
        go (no z) = ap state_in (reply-read _ z ∙ e)
