-- What repair writes, by bytes.
use mathlib.Core.Path.{◌≡◌, refl, sym, ap, subst, ◌∙◌}
use mathlib.Core.Logic.{◌≢◌}
use mathlib.Core.List.{List}
use Prim.Native.Nat.{ℕ, ◌+◌, ◌-◌, ◌*◌, ◌≤◌}
use native.Mathlib.Decide.{ℕ_discrete}
use native.Mathlib.Omega.{arith}
use lib.ListN.{length}
use borrow.Author.Tests.{eq-eqb, ne_eqb}
use Rattle.octets.specs.Bytes.{part, put, zeros}
use Rattle.octets.proofs.Parts.{length-zeros, part-zeros}
use Rattle.octets.proofs.Puts.{part-put-below, part-put-above}
use Rattle.octets.proofs.Rows.{pick-false, pick_true}
use Rattle.gpt_model.specs.Disk.{Shape, primary, backup, header, state, with_table, with_copy}
use Rattle.gpt_model.specs.Calls.{repair, refused, Outcome, outcome, repaired, step}
use Rattle.gpt_model.specs.Stored.{HeadGood, TailGood, Alike, SizesOk, RepairSays}
use Rattle.gpt_model.specs.Claims.{RepairWrites}
use Rattle.gpt_model.proofs.Copies.{length-header, length-entries}
use Rattle.gpt_model.proofs.States.{Holds, four, not-four, one-good, from-backup, from-primary}
use Rattle.gpt_model.proofs.Outcomes.{step-refused, step-accepted, repair-answer}
use Rattle.gpt_model.proofs.StoredCopies.{good_by_bytes, alike-iff, reply, reply-read, sizes-rows, read-replies, state_in}
use Rattle.gpt_model.proofs.StoredEdits.{inner}

-- a copy written over its cleared header block
module _ (g : Shape) (n : ℕ) (guid es : List ℕ) where
  head_tail : (h : List ℕ) → 92 ≤ g.block → length h ≡ 2 * g.block + 16384
      → part (g.block + 92) (g.block - 92) (with_copy g n primary guid es h) ≡ zeros (g.block - 92)
  unfolding with_table
  head_tail h wide l =
      let c = put g.block (zeros g.block) h in
      part-put-below (header g n primary guid es) _ (g.block + 92) (g.block - 92) g.block (omega (arith, length-header g n primary guid es))
      ∙ part-put-above es c (g.block + 92) (g.block - 92) (2 * g.block) (omega arith)
      ∙ inner h (zeros g.block) g.block g.block (length-zeros _) 92 (g.block - 92) (omega arith) (omega arith)
      ∙ part-zeros 92 (g.block - 92) g.block (omega arith)

  head-block0 : (h : List ℕ) → part 0 g.block (with_copy g n primary guid es h) ≡ part 0 g.block h
  unfolding with_table
  head-block0 h =
      part-put-above (header g n primary guid es) _ 0 g.block g.block (omega arith)
      ∙ part-put-above es (put g.block (zeros g.block) h) 0 g.block (2 * g.block) (omega arith)
      ∙ part-put-above (zeros g.block) h 0 g.block g.block (omega arith)

  tail-tail : (t : List ℕ) → length es ≡ 16384 → 92 ≤ g.block → length t ≡ 16384 + g.block
      → part (16384 + 92) (g.block - 92) (with_copy g n backup guid es t) ≡ zeros (g.block - 92)
  unfolding with_table
  tail-tail t le' wide l =
      let c = put 16384 (zeros g.block) t in
      part-put-below (header g n backup guid es) _ (16384 + 92) (g.block - 92) 16384 (omega (arith, length-header g n backup guid es))
      ∙ part-put-below es c (16384 + 92) (g.block - 92) 0 (omega arith)
      ∙ inner t (zeros g.block) 16384 g.block (length-zeros _) 92 (g.block - 92) (omega arith) (omega arith)
      ∙ part-zeros 92 (g.block - 92) g.block (omega arith)

module _ (g : Shape) (n : ℕ) (h t : List ℕ) (l : SizesOk g n h t) where
  abbrev s : ℕ
  s = state g n h t

  -- head and tail that read as state 1
  good : (h' t' es : List ℕ) → Holds g n h' t' es → HeadGood g n h' × TailGood g n t' × Alike g h' t'
  good h' t' es w =
      let k = one-good g n h' t' w.reads in
      let b = good_by_bytes g n h' t' (record { wide = l.wide; head = w.len_head; tail = w.len_tail; low = l.low; high = l.high }) in
      (b.0.0 k.0, b.1.0 k.1, (alike-iff g h' t').0 k.2)

  refused_says : RepairSays g n h t (outcome (refused 10) h t)
  refused_says = record {
    one = λ e. absurd (omega (arith, ap state_in e));
    primary_used = λ k e p q. let z : ◌≡◌ {A = ℕ} 0 1 = cc in absurd (omega arith);
    backup_used = λ e. absurd (omega (arith, ap state_in e));
  }

  accepted-says : s ≢ 0 → RepairSays g n h t (repaired g n h t (state g n h t))
  accepted-says ne = go (ℕ_discrete (state g n h t) 1) (ℕ_discrete (state g n h t) 4)
    where
      go : Dec (state g n h t ≡ 1) → Dec (state g n h t ≡ 4) → RepairSays g n h t (repaired g n h t (state g n h t))
      go (yes p) q = rw (eq-eqb _ _ p) (record {
        one = λ e. (refl, refl);
        primary_used = λ k e a b. let z : state g n h t ≡ k = ap state_in e in absurd (a (omega arith));
        backup_used = λ e. let z : state g n h t ≡ 4 = ap state_in e in absurd (omega arith);
      })
      go (no p) (yes q) = rw (ne_eqb _ _ p, eq-eqb _ _ q)
          (let w = good _ t _ (from-backup g l.wide n h t l.head l.tail (four g n h t q)) in
          record {
            one = λ e. absurd (p (ap state_in e));
            primary_used = λ k e a b. let z : state g n h t ≡ k = ap state_in e in absurd (b (omega arith));
            backup_used = λ e. (refl, w.0, w.2, head_tail g n _ _ h l.wide l.head, head-block0 g n _ _ h);
          })
      go (no p) (no q) = rw (ne_eqb _ _ p, ne_eqb _ _ q)
          (let w = good h _ _ (from-primary g l.wide n h t l.head l.tail (not-four g n h t q ne)) in
          record {
            one = λ e. absurd (p (ap state_in e));
            primary_used = λ k e a b. (refl, w.1, w.2, tail-tail g n _ _ t (length-entries g l.wide primary h l.head) l.wide l.tail);
            backup_used = λ e. absurd (q (ap state_in e));
          })

pub repair_writes : RepairWrites
repair_writes g n h t l = let w = go (ℕ_discrete (state g n h t) 0) in (w.0 ∙ sym (read-replies g n h t l), w.1)
  where
    go : Dec (state g n h t ≡ 0) → ((step g n h t repair).answer ≡ reply (state g n h t)) × RepairSays g n h t (step g n h t repair)
    go (yes z) =
        let o = step-refused g n h t repair 10 (sizes-rows g n h t l ∙ pick_true _ 10 _ (eq-eqb _ _ z)) in
        (ap (λ (o : Outcome). o.answer) o ∙ ap reply (sym z), subst (RepairSays g n h t) (sym o) (refused_says g n h t l))
    go (no z) =
        let o = step-accepted g n h t repair (sizes-rows g n h t l ∙ pick-false _ 10 _ (ne_eqb _ _ z)) in
        (ap (λ (o : Outcome). o.answer) o ∙ repair-answer g n h t ∙ reply-read _ z, subst (RepairSays g n h t) (sym o) (accepted-says g n h t l z))
