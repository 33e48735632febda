-- The length of a name.
use Rattle.std.specs.Prelude.{Bool, List, ℕ, leb, length}
use Rattle.octets.specs.Tests.{◌and◌}

-- 1 to `most` bytes
abbrev pub is_sized : ℕ → List ℕ → Bool
is_sized most w = leb 1 (length w) and leb (length w) most
