-- What C gets of a call of the layout language. Definitions only.
use Rattle.std.specs.Prelude.{cond, List, [], ◌∷◌, ℕ, eqb, length}
use Rattle.std.proofs.Math.Option.{Option, none, some}
use Rattle.octets.specs.Rows.{code_of}
use Rattle.fmd.specs.Calls.{Read, Recorded, Written}
use Rattle.fmd.specs.declared.Image.{Image}

-- reading: the result, the name's buffer, and the numbers behind the pointers for size, address and count afterwards
pub record ReadEffect : Type 0 where
  pub result : ℕ
  pub name : List ℕ
  pub values : List ℕ

-- R1: A refusal returns its number alone: name and numbers are as they were
abbrev pub replied : List ℕ → List ℕ → Image → Option ℕ → ReadEffect
replied name old i none = record { result = 0; name = i.name; values = i.size ∷ i.address ∷ i.count ∷ [] }
replied name old i (some k) = record { result = k; name = name; values = old }

abbrev pub image_effect : List ℕ → List ℕ → Read → ReadEffect
image_effect name old r = replied name old r.image r.answer

-- (R4) a name's buffer has 32 bytes; with another length nothing is read
unfoldable pub read_effect : List ℕ → List ℕ → Read → ReadEffect
read_effect name old r = cond (eqb (length name) 32) (image_effect name old r) (record { result = 1; name = name; values = old })

-- listing: the result, the records and the count behind its pointer afterwards
pub record RecordsEffect : Type 0 where
  pub result : ℕ
  pub records : List ℕ
  pub count : ℕ

-- the count, where old stood there
abbrev pub count_for : ℕ → Image → Option ℕ → ℕ
count_for old i none = i.count
count_for old i (some k) = old

abbrev pub records_effect : ℕ → Recorded → RecordsEffect
records_effect old o = record { result = code_of o.answer; records = o.records; count = count_for old o.image o.answer }

-- writing: the result, and the image afterwards
pub record WriteEffect : Type 0 where
  pub result : ℕ
  pub image : List ℕ

abbrev pub write_effect : Written → WriteEffect
write_effect o = record { result = code_of o.answer; image = o.image }
