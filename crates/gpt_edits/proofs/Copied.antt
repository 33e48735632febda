-- A copy written from the other side's parts.
use mathlib.Core.Path.{◌≡◌, ap₂, ◌∙◌}
use mathlib.Core.List.{List}
use Prim.Native.Nat.{ℕ}
use Rattle.gpt_model.specs.Disk.{Shape, Side, with_copy}

pub copied : (g : Shape) (n : ℕ) (side : Side) (d d' es es' b b' : List ℕ) → d ≡ d' → es ≡ es' → b' ≡ with_copy g n side d es b
    → b' ≡ with_copy g n side d' es' b
copied g n side d d' es es' b b' p q r = r ∙ ap₂ (λ (x y : List ℕ). with_copy g n side x y b) p q
