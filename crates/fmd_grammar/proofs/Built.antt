-- The parts of the grammar, with what they make of a section or an image.
use Rattle.std.specs.Prelude.{Option, None}
use mathlib.Core.Path.{◌≡◌}
use mathlib.Core.Bool.{Bool, true}
use mathlib.Core.List.{List, ◌∷◌, ◌++◌, append_assoc}
use Prim.Native.Nat.{ℕ, ◌+◌, ◌≤◌, ◌<◌}
use lib.ListN.{length}
use Rattle.fmd_lex.specs.Names.{good_name}
use Rattle.fmd_table.specs.declared.ParentOffset.{ParentOffset}
use Rattle.fmd_table.specs.declared.Section.{Section}
use Rattle.fmd_head.specs.declared.TextImage.{TextImage}
use Rattle.fmd_grammar.specs.Grammar.{Lexeme, word, OptionalFlags, OptionalOffset, OptionalSize, SectionTree, section, OptionalBraces, OptionalAddress}

abbrev pub built : ℕ → ℕ → ℕ → ℕ → Bool → Bool → Option ParentOffset → Option ℕ → Section
built p n lv par c v o z = record { offset = o; size = z; place = p; length = n; cbfs = c; preserve = v; parent = par; level = lv }

abbrev pub Flagged : ℕ → ℕ → ℕ → ℕ → List Lexeme → Section → Type 0
Flagged p n lv par own h = (c : Bool) × (v : Bool) × OptionalFlags own c v × (h ≡ built p n lv par c v None None)

abbrev pub Placed : ℕ → ℕ → ℕ → ℕ → Bool → Bool → List Lexeme → Section → Type 0
Placed p n lv par c v own h = (o : Option ParentOffset) × OptionalOffset own o × (h ≡ built p n lv par c v o None)

abbrev pub Sized : ℕ → ℕ → ℕ → ℕ → Bool → Bool → Option ParentOffset → List Lexeme → Section → Type 0
Sized p n lv par c v o own h = (z : Option ℕ) × OptionalSize own z × (h ≡ built p n lv par c v o z)

-- a section up to its braces
pub record Head (most deepest lv par k : ℕ) (own : List Lexeme) (h : Section) : Type 0 where
  pub p : ℕ
  pub w : List ℕ
  pub fs : List Lexeme
  pub os : List Lexeme
  pub zs : List Lexeme
  pub c : Bool
  pub v : Bool
  pub o : Option ParentOffset
  pub z : Option ℕ
  pub good : good_name w ≡ true
  pub room : k < most
  pub deep : lv ≤ deepest
  pub flags : OptionalFlags fs c v
  pub offsets : OptionalOffset os o
  pub sizes : OptionalSize zs z
  pub list : own ≡ word p w ∷ (fs ++ (os ++ zs))
  pub says : h ≡ built p (length w) lv par c v o z

pub section-of : {most deepest lv par k : ℕ} {own bs : List Lexeme} {h : Section} {l : List Section}
    → Head most deepest lv par k own h → OptionalBraces most deepest (lv + 1) k (k + 1) bs l → SectionTree most deepest lv par k (own ++ bs) (h ∷ l)
section-of {own} {bs} {h} {l} d b =
    rw (d.says, d.list, append_assoc d.fs (d.os ++ d.zs) bs, append_assoc d.os d.zs bs)
    (section d.good d.room d.deep d.flags d.offsets d.sizes b)

abbrev pub pictured : ℕ → ℕ → Option ℕ → ℕ → TextImage
pictured p n d z = record { address = d; size = z; place = p; length = n }

abbrev pub Addressed : ℕ → ℕ → List Lexeme → TextImage → Type 0
Addressed p n own i = (d : Option ℕ) × OptionalAddress own d × (i ≡ pictured p n d 0)
