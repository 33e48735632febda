-- The header that the writer leaves is the model's.
use mathlib.Core.Path.{◌≡◌, ap, ap₂, ◌∙◌}
use mathlib.Core.List.{List, []}
use Prim.Native.Nat.{ℕ}
use lib.ListN.{length, take, drop}
use Rattle.octets.specs.Bytes.{le, put}
use Rattle.crc_lanes.specs.Crc.{crc32}
use Rattle.gpt_model.specs.Table.{write_all}
use Rattle.gpt_model.specs.Disk.{Shape, Side, primary, header_fields, header_with, header_crc, header}
use Rattle.gpt_model.proofs.Writes.{header-over, header-stored}

-- the fields in three runs, and then the CRC
module _ (g : Shape) (n : ℕ) (side : Side) (guid out a b c d : List ℕ) (crc own : ℕ) (lo : length out ≡ 92) (lg : length guid ≡ 16) where
  pub header-written : ((g : Shape) → a ≡ write_all (take 5 (header_fields g 0 primary [] [] 0)) out)
      → b ≡ write_all (take 4 (drop 5 (header_fields g n side [] [] 0))) a
      → ((es : List ℕ) → crc ≡ crc32 es → c ≡ write_all (drop 9 (header_fields g n side guid es 0)) b)
      → own ≡ crc32 c → d ≡ put 16 (le 4 own) c → (es : List ℕ) → crc ≡ crc32 es → d ≡ header g n side guid es
  unfolding header_crc
  header-written p q r s t es e =
      let table = drop 9 (header_fields g n side guid es 0) in
      let blocks = take 4 (drop 5 (header_fields g n side [] [] 0)) in
      let w : c ≡ header_with g n side guid es 0 = r es e ∙ ap (write_all table) (q ∙ ap (write_all blocks) (p g))
      ∙ header-over g n side guid es lg 0 out lo in
      t ∙ ap₂ (λ (x : ℕ) (l : List ℕ). put 16 (le 4 x) l) (s ∙ ap crc32 w) w ∙ header-stored g n side guid es

-- a number stored, one store after the other
pub stored : (at k : ℕ) {x y : ℕ} {a b c : List ℕ} → b ≡ put at (le k x) a → x ≡ y → a ≡ c → b ≡ put at (le k y) c
stored at k p e q = p ∙ ap₂ (λ (v : ℕ) (l : List ℕ). put at (le k v) l) e q
