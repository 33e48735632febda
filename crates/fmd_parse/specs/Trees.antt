-- What image and sections of a text are: their names lie in it, and children stand after their parents. Definitions only.
use Rattle.std.specs.Prelude.{◌≡◌, ◌⊎◌, true, false, List, ℕ, ◌+◌, ◌≤◌, ◌<◌, length, get_or, Option, Some, None}
use Rattle.octets.specs.Tests.{all}
use Rattle.octets.specs.Bytes.{part}
use Rattle.fmd_lex.specs.Chars.{is_word}
use Rattle.fmd_lex.specs.Names.{good_name}
use Rattle.fmd_table.specs.declared.Section.{Section}
use Rattle.fmd_head.specs.declared.TextImage.{TextImage}

-- a name of n bytes at the place p: in the text, of bytes of a word, as L6 says
pub record Named (s : List ℕ) (p n : ℕ) : Type 0 where
  pub inside : p + n ≤ length s
  pub word : all is_word (part p n s) ≡ true
  pub good : good_name (part p n s) ≡ true

-- what get_or answers past the end of a list: the value that an index of the code has there
abbrev pub blank_section : Section
blank_section =
    record {
      offset = Some (record { 0 = 0 });
      size = Some 0;
      place = 0;
      length = 0;
      cbfs = false;
      preserve = false;
      parent = 0;
      level = 0;
    }

-- the parent of a section of the level lv at the index k: the image at level 1, else an earlier section, one level above
abbrev pub Under : List Section → ℕ → ℕ → ℕ → Type 0
Under l k lv par = ((lv ≡ 1) × (par ≡ 128)) ⊎ ((par < k) × ((get_or l par blank_section).level + 1 ≡ lv))

pub record Standing (s : List ℕ) (l : List Section) (k : ℕ) (h : Section) : Type 0 where
  pub named : Named s h.place h.length
  pub low : 1 ≤ h.level
  pub high : h.level ≤ 8
  pub under : Under l k h.level h.parent

-- (Q5) at most 128 sections, 8 levels; children after parents
pub record Tree (s : List ℕ) (l : List Section) : Type 0 where
  pub room : length l ≤ 128
  pub each : (k : ℕ) → k < length l → Standing s l k (get_or l k blank_section)

-- (L8) at most 4,294,967,295
abbrev pub AddressFits : Option ℕ → Type 0
AddressFits (Some a) = a ≤ 4294967295
AddressFits None = Unit {0}

-- L1: size (an image length in range); Q4: A flash image is 98 to 16,777,216 bytes.
pub record Imaged (s : List ℕ) (i : TextImage) : Type 0 where
  pub named : Named s i.place i.length
  pub address : AddressFits i.address
  pub low : 98 ≤ i.size
  pub high : i.size ≤ 16777216
