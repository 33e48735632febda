-- The starred samples of the rules over the definitions, one statement each, and `Starred`, all of them.
-- The disk samples hold whatever the disk GUID is and whatever head and tail held before.
use Rattle.std.specs.Prelude.{◌≡◌, Bool, true, false, List, [], ◌∷◌, ◌++◌, map, ℕ, length, take, drop, replicate, Option, Some, None}
use Rattle.std.proofs.Math.Option.{none}
use Rattle.octets.specs.Ascii.{ascii}
use Rattle.octets.specs.Bytes.{field, zeros}
use Rattle.gpt_model.specs.Table.{spans}
use Rattle.gpt_model.specs.Disk.{disk512, last_usable, primary, backup, header_in, header_block, entries_block, lent_bytes}
use Rattle.gpt_model.specs.Ranges.{taken, free_count}
use Rattle.gpt_model.specs.Calls.{Edit, add, new_partition, delete, resize, Call, read, free_counts, repair, check, edit, Answer, refused, accepted}
use Rattle.gpt_model.specs.Calls.{lengths_of, step, format}
use Rattle.gpt_model.specs.declared.Rule.TheVariants.{Present}
use Rattle.gpt_model.specs.Lists.{Snapshot, after_all, answers, start_after, ranges_in}
use Rattle.gpt_model.specs.Claims.{Formats}
use Rattle.guid.specs.Calls.{read_type_of}
use Rattle.fmd_parse.specs.Layouts.{layout, refused as refused_text, layout_of}
use Rattle.fmd_head.specs.declared.TextImage.{TextImage}
use Rattle.fmd_table.specs.declared.Section.{Section}

-- what holds of the answers to a list of edits, and of what it leaves, on every freshly formatted disk of n blocks
abbrev pub After : ℕ → List Edit → (List Answer → Snapshot → Type 0) → Type 0
After n ds P =
    (guid h t : List ℕ) → Formats disk512 n guid h t
    → let r = start_after (format disk512 n guid h t) in P (answers (step disk512 n) (map edit ds) r) (after_all (step disk512 n) (map edit ds) r)

-- add, with some type, unique GUID and name, at any start, no attributes
abbrev pub adding : ℕ → ℕ → Edit
adding id size = add (new_partition (replicate 16 7) (replicate 16 id) size 1 0 Present (replicate 36 0))

-- a call's own lent buffers have their lengths
abbrev pub lengths_in : Call → Bool
lengths_in read = true
lengths_in free_counts = true
lengths_in repair = true
lengths_in (check rule) = true
lengths_in (edit d) = lengths_of d

-- S1: (1*) N 67: 2.
abbrev pub Sample1 : Type 0
Sample1 =
    (guid h t : List ℕ) → length guid ≡ 16 → length h ≡ lent_bytes disk512 primary → length t ≡ lent_bytes disk512 backup
    → ((format disk512 67 guid h t).answer ≡ refused 2) × ((c : Call) → lengths_in c ≡ true → (step disk512 67 h t c).answer ≡ refused 2)

-- S2: (2*) N 68: usable 34 to 34; add 1 gives 34 to 34, next add 25.
abbrev pub edits2 : List Edit
edits2 = adding 1 1 ∷ adding 2 1 ∷ []

abbrev pub Sample2 : Type 0
Sample2 =
    (disk512.first ≡ 34) × (last_usable disk512 68 ≡ 34)
    × After 68 edits2 (λ a r. (a ≡ accepted (1 ∷ 34 ∷ []) ∷ refused 25 ∷ []) × (take 1 (ranges_in disk512 68 r) ≡ spans 34 34 ∷ []))

-- S3: (3*) N 100: last usable 66, backup header 99, entries from 67.
abbrev pub Sample3 : Type 0
Sample3 =
    (last_usable disk512 100 ≡ 66) × (header_block backup 100 ≡ 99) × (entries_block disk512 backup 100 ≡ 67)
    × After 100 [] (λ a r.
    (field 48 8 (header_in disk512 primary r.head) ≡ 66) × (field 32 8 (header_in disk512 primary r.head) ≡ 99)
    × (field 48 8 (header_in disk512 backup r.tail) ≡ 66) × (field 24 8 (header_in disk512 backup r.tail) ≡ 99)
    × (field 72 8 (header_in disk512 backup r.tail) ≡ 67))

-- S4: (4*) There: add 10 (34–43), add 5 (44–48), delete 1, add 11 (49–59, slot 1), add 10 (34–43, slot 3): 26 in partitions, 36 granted, 10 back, 7 free.
abbrev pub edits4 : List Edit
edits4 = adding 1 10 ∷ adding 2 5 ∷ delete 1 ∷ adding 3 11 ∷ adding 4 10 ∷ []

abbrev pub Sample4 : Type 0
Sample4 =
    After 100 (take 2 edits4) (λ a r. take 2 (ranges_in disk512 100 r) ≡ spans 34 43 ∷ spans 44 48 ∷ [])
    × After 100 edits4 (λ a r.
    (a ≡ accepted (1 ∷ 34 ∷ []) ∷ accepted (2 ∷ 44 ∷ []) ∷ accepted [] ∷ accepted (1 ∷ 49 ∷ []) ∷ accepted (3 ∷ 34 ∷ []) ∷ [])
    × (take 3 (ranges_in disk512 100 r) ≡ spans 49 59 ∷ spans 44 48 ∷ spans 34 43 ∷ [])
    × (taken (ranges_in disk512 100 r) 34 66 ≡ 26) × (r.ledger.granted ≡ 36) × (r.ledger.back ≡ 10) × (free_count (ranges_in disk512 100 r) 34 66 ≡ 7))

-- S5: (5*) Then resizing slot 1 to 19 is 25, to 18 accepted, free 0.
abbrev pub edits5 : List Edit
edits5 = edits4 ++ (resize 1 19 ∷ resize 1 18 ∷ [])

abbrev pub Sample5 : Type 0
Sample5 = After 100 edits5 (λ a r. (drop 5 a ≡ refused 25 ∷ accepted [] ∷ []) × (free_count (ranges_in disk512 100 r) 34 66 ≡ 0))

-- S6: (6*) Type data is stored A2 A0 D0 EB E5 B9 33 44 87 C0 68 B6 B7 26 99 C7.
abbrev pub Sample6 : Type 0
Sample6 =
    read_type_of (ascii "data") (zeros 16)
    ≡ record {
      number = none;
      buffer =
          0xA2 ∷ 0xA0 ∷ 0xD0 ∷ 0xEB ∷ 0xE5 ∷ 0xB9 ∷ 0x33 ∷ 0x44 ∷ 0x87 ∷ 0xC0 ∷ 0x68 ∷ 0xB6 ∷ 0xB7 ∷ 0x26 ∷ 0x99 ∷ 0xC7 ∷ [];
    }

-- the image I of 98 bytes, its name at the text's start
abbrev pub image : TextImage
image = record { address = None; size = 98; place = 0; length = 1 }

-- a section of level 1 with a name of one byte at place p
abbrev pub section : ℕ → Option ℕ → Section
section p z = record { offset = None; size = z; place = p; length = 1; cbfs = false; preserve = false; parent = 128; level = 1 }

-- S7: (7*) "A 10 K" is section A of size 10, then section K.
abbrev pub Sample7 : Type 0
Sample7 = layout_of (ascii "I 98{A 10 K}") ≡ layout image (section 5 (Some 10) ∷ section 10 None ∷ [])

-- S8: (8*) 010 is 52; 0x10 is 16.
abbrev pub Sample8 : Type 0
Sample8 =
    (layout_of (ascii "I 010{A}") ≡ refused_text 52 2) × (layout_of (ascii "I 98{A 0x10}") ≡ layout image (section 5 (Some 16) ∷ []))

-- S0: Those marked * are one proved list over the definitions.
abbrev pub Starred : Type 0
Starred = Sample1 × Sample2 × Sample3 × Sample4 × Sample5 × Sample6 × Sample7 × Sample8
