-- What an accepted carry leaves.
use mathlib.Core.Path.{◌≡◌, refl, sym, ap, subst, ◌∙◌}
use mathlib.Core.Logic.{◌⊎◌, inl, inr}
use mathlib.Core.Bool.{true}
use mathlib.Core.List.{List}
use mathlib.Core.Option.{Option, none, some}
use Prim.Native.Nat.{ℕ, ◌+◌, ◌≤◌, ◌<◌}
use native.Mathlib.Nat.{add-zero}
use native.Mathlib.Omega.{arith}
use lib.ListN.{length, get_or}
use Rattle.octets.specs.Tests.{all}
use Rattle.octets.specs.Rows.{refusal}
use Rattle.octets.specs.Bytes.{part}
use Rattle.octets.proofs.Parts.{get_d_part}
use Rattle.fmap_rules.specs.declared.Area.{Area}
use Rattle.fmap_rules.specs.Map.{blank_area, end_of}
use Rattle.fmap_carry.specs.Carry.{target, carry_rows, carried, Outcome, unless_refused, carry_areas}
use Rattle.fmap_carry.specs.Invariants.{ends_in}
use Rattle.fmap_carry.specs.Claims.{Arrived}
use Rattle.fmap_carry.proofs.Passed.{all_apart, fitting}
use Rattle.fmap_carry.proofs.Carrying.{length-carried, part-carried, arrives}

-- a byte is a part of one byte
byte : (xs ys : List ℕ) (p : ℕ) → part p 1 xs ≡ part p 1 ys → get_or xs p 0 ≡ get_or ys p 0
byte xs ys p e = at xs ∙ ap (λ (l : List ℕ). get_or l 0 0) e ∙ sym (at ys)
  where
    at : (zs : List ℕ) → get_or zs p 0 ≡ get_or (part p 1 zs) 0 0
    at zs = ap (λ (k : ℕ). get_or zs k 0) (sym (add-zero p)) ∙ sym (get_d_part zs p 1 0 (omega arith))

was_free : (o : Option ℕ) (done new image : List ℕ) → unless_refused o done new ≡ record { answer = none; image = image } → (o ≡ none) × (done ≡ image)
was_free none done new image e = (refl, ap (λ (r : Outcome). r.image) e)
was_free (some k) done new image e = let z : ◌≡◌ {A = ℕ} 0 1 = cc (ap (λ (r : Outcome). r.answer) e) in absurd (omega arith)

module _ (old : List ℕ) (olds : List Area) (new : List ℕ) (news : List Area) (image : List ℕ)
    (a : all (ends_in (length old)) olds ≡ true) (b : all (ends_in (length new)) news ≡ true) where
  left : refusal (carry_rows olds news) ≡ none → Arrived old olds new news (carried old news olds new)
  left e =
      let f = fitting olds news e (length old) (length new) a b in
      record {
        same_length = length-carried old news olds new;
        arrive = λ i h p. arrives old news (length new) olds new refl (all_apart olds news e) f i h p;
        stay = λ p c. byte (carried old news olds new) new p
            (part-carried old news (length new) olds new p 1 f (λ i h q. side (get_or olds i blank_area) p (c i h q)));
      }
    where
      side : (x : Area) (p : ℕ) → (p < (target news x).start.0) ⊎ (end_of (target news x) ≤ p)
          → (end_of (target news x) ≤ p) ⊎ (p + 1 ≤ (target news x).start.0)
      side x p (inl h) = inr (omega arith)
      side x p (inr h) = inl h

  pub accepted : carry_areas old olds new news ≡ record { answer = none; image = image } → Arrived old olds new news image
  unfolding carry_areas
  accepted e =
      let w = was_free (refusal (carry_rows olds news)) (carried old news olds new) new image e in
      subst (λ (l : List ℕ). Arrived old olds new news l) w.1 (left w.0)
