-- A call by its block size is that of its shape, or 6; so is the part that reading hands back.
use mathlib.Core.Path.{◌≡◌, refl, sym, ap, ap₂, ◌∙◌}
use mathlib.Core.List.{List, []}
use Rattle.std.specs.Prelude.{Option, None, Some, Ok, Err, ok_or, IfOk}
use Prim.Native.Nat.{ℕ}
use Rattle.gpt_model.specs.Disk.{Shape}
use Rattle.gpt_model.specs.Calls.{Call, refused, outcome, read, step, format}
use Rattle.gpt_model.specs.Sizes.{shape_of, step_by, format_by}
use Rattle.gpt_model.proofs.Sizes.{on_its_shape, step-none, format-none}
use Rattle.gpt_places.specs.Sides.{behind}
use Rattle.gpt_places.specs.Invariants.{Legal}
use Rattle.gpt_places.proofs.Shapes.{shape-legal}
use Rattle.gpt_checks.specs.Refusals.{number_of}
use Rattle.gpt_checks.specs.declared.Refusal.{Refusal}
use Rattle.gpt_checks.specs.declared.Refusal.TheVariants.{BlockSize}
use Rattle.gpt_calls.proofs.Refusals.{handed_refusal}
use Rattle.gpt_calls.specs.Answers.{Handed, handed, entries_on, handed_on}
use Rattle.gpt_calls.proofs.Found.{entries-of-reading}
use Rattle.gpt.specs.Parts.{part_on, entries_by, handed_part}
use Rattle.gpt.specs.Claims.{EntriesOfReading}

-- ---- the shape as the code finds it, and a call by it

shape-known : (o : Option Shape) (g : Shape) → Ok g ≡ ok_or o BlockSize → o ≡ Some g
shape-known None g e = cc
shape-known (Some x) g e = let z : g ≡ x = cc in ap Some (sym z)

shape-other : (o : Option Shape) (r : Refusal) → Err r ≡ ok_or o BlockSize → (o ≡ None) × (r ≡ BlockSize)
shape-other None r e = (refl, cc)
shape-other (Some x) r e = absurd cc

legal-by : (o : Option Shape) → ((g : Shape) → o ≡ Some g → Legal g) → IfOk (ok_or o BlockSize) Legal
legal-by None f = tt
legal-by (Some g) f = f g refl

pub found_legal : (size : ℕ) → IfOk (ok_or (shape_of size) BlockSize) Legal
found_legal size = legal-by (shape_of size) (shape-legal size)

module _ (size n : ℕ) (h t : List ℕ) where
  pub shaped : (g : Shape) (c : Call) → Ok g ≡ ok_or (shape_of size) BlockSize → step_by size n h t c ≡ step g n h t c
  shaped g c e = (on_its_shape size n h t g (shape-known _ g e)).0 c

  pub unshaped : (r : Refusal) (c : Call) → Err r ≡ ok_or (shape_of size) BlockSize → step_by size n h t c ≡ outcome (refused (number_of r)) h t
  unshaped r c e =
      let w = shape-other _ r e in
      step-none size n h t w.0 c ∙ ap (λ (x : Refusal). outcome (refused (number_of x)) h t) (sym w.1)

  pub shaped_format : (g : Shape) (guid : List ℕ) → Ok g ≡ ok_or (shape_of size) BlockSize → format_by size n guid h t ≡ format g n guid h t
  shaped_format g guid e = (on_its_shape size n h t g (shape-known _ g e)).1 guid

  pub unshaped_format : (r : Refusal) (guid : List ℕ) → Err r ≡ ok_or (shape_of size) BlockSize
      → format_by size n guid h t ≡ outcome (refused (number_of r)) h t
  unshaped_format r guid e =
      let w = shape-other _ r e in
      format-none size n h t w.0 guid ∙ ap (λ (x : Refusal). outcome (refused (number_of x)) h t) (sym w.1)

pub ruleset by_shape = (handed_refusal, shaped, unshaped, found_legal, shaped_format, unshaped_format)

-- ---- the part that reading hands back

module _ (size : ℕ) (head : ℕ × ℕ) (p : Shape → Handed) where
  pub part-on : (g : Shape) → shape_of size ≡ Some g → p g ≡ part_on (shape_of size) head p
  part-on g e = sym (ap (λ (s : Option Shape). part_on s head p) e)

  pub part_none : shape_of size ≡ None → (bs : List ℕ) (q : ℕ × ℕ) → bs ≡ [] → q ≡ behind 0 head → handed bs q ≡ part_on (shape_of size) head p
  part_none e bs q a b = ap₂ handed a b ∙ sym (ap (λ (s : Option Shape). part_on s head p) e)

pub entries_of_reading : EntriesOfReading
entries_of_reading size n h t head tail r e = go (shape_of size) refl
  where
    go : (s : Option Shape) → shape_of size ≡ s → entries_by size h t head tail r ≡ handed_part size n h t head tail
    go None q = sym (part_none size head (λ g. entries_on g h t head tail r) q [] (behind 0 head) refl refl)
        ∙ part_none size head (λ g. handed_on g h t head tail n) q [] (behind 0 head) refl refl
    go (Some g) q =
        sym (part-on size head (λ g. entries_on g h t head tail r) g q)
        ∙ entries-of-reading g n h t head tail r (e ∙ (on_its_shape size n h t g q).0 read)
        ∙ part-on size head (λ g. handed_on g h t head tail n) g q
