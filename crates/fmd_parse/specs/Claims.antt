-- What is claimed of every fault in a text, and of every text that has none: the statement of a theorem (proofs/Trees: layout-facts).
use Rattle.std.specs.Prelude.{◌≡◌, true, List, [], ◌∷◌, ℕ, ◌≤◌, ◌<◌, eqb, length}
use Rattle.octets.specs.Tests.{any}
use Rattle.fmd_parse.specs.Layouts.{Layout, layout, refused}
use Rattle.fmd_parse.specs.Trees.{Tree, Imaged}

-- R33: the first fault in the text (51, 52, 53, 55, unknown or repeated flag 56)
abbrev pub FaultNumber : ℕ → Type 0
FaultNumber n = any (eqb n) (51 ∷ 52 ∷ 53 ∷ 55 ∷ 56 ∷ []) ≡ true

-- L3: Braces hold at least one section.
abbrev pub LayoutFacts : List ℕ → Layout → Type 0
LayoutFacts s (refused n p) = FaultNumber n × (p ≤ length s)
LayoutFacts s (layout i l) = Imaged s i × Tree s l × (0 < length l)
