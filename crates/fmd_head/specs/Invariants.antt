-- Invariants of the code, for its proofs: no part of what is to be believed.
use Rattle.std.specs.Prelude.{ℕ, ◌≤◌, ◌<◌, Ok, Err}
use Rattle.fmd_lex.specs.Invariants.{Within}
use Rattle.fmd_table.specs.declared.Section.{Section}
use Rattle.fmd_head.specs.Heads.{ReadPart}

-- where the token after a part stands: in the text of n bytes, at or after `at`
abbrev pub ReadIn : {A : Type 0} → ℕ → ℕ → ReadPart A → Type 0
ReadIn n at (Ok r) = Within n at r.1
ReadIn n at (Err f) = Unit {0}

-- and a section that is read is neither too deep, at the level lv, nor one too many, after k others
abbrev pub HeadIn : ℕ → ℕ → ℕ → ℕ → ReadPart Section → Type 0
HeadIn n at lv k (Ok r) = Within n at r.1 × (lv ≤ 8) × (k < 128)
HeadIn n at lv k (Err f) = Unit {0}
