-- Texts, and what the rules make of them; the numbers were reckoned by hand. Statements, proved under the same names in lower case.
use Rattle.std.specs.Prelude.{◌≡◌, true, false, List, [], ◌∷◌, ◌++◌, map, ℕ, length, replicate, Some}
use Prim.Native.String.{String}
use Rattle.octets.specs.Ascii.{ascii}
use Rattle.octets.specs.Tests.{all, any}
use Rattle.octets.specs.Bytes.{zeros}
use Rattle.gpt_model.specs.Table.{table_bytes}
use Rattle.gpt_model.specs.Disk.{disk512, disk4096, primary, backup, lent_bytes}
use Rattle.gpt_model.specs.Calls.{accepted}
use Rattle.gpt_string_model.specs.Text.{is_layout, wanted_in}
use Rattle.gpt_string_model.specs.Build.{Built, faulty, complete, build, grants}
use Rattle.gpt_string_model.specs.Calls.{build_string}

-- a text with a disk GUID, and behind it s
abbrev pub with_disk : String → List ℕ
with_disk s = ascii "uuid_disk=00112233-4455-6677-8899-AABBCCDDEEFF;" ++ ascii s

-- fields in any order, each value in its form, a last semicolon, an equals sign in a name, leading zeros, size 0, the largest number
abbrev pub TextsTaken : Type 0
TextsTaken =
    all is_layout (map with_disk (
    "name=a,size=512,uuid=00112233-4455-6677-8899-aabbccddeeff"
    ∷ "name=a,size=512,uuid=00112233-4455-6677-8899-aabbccddeeff;"
    ∷ "bootable,uuid=00112233-4455-6677-8899-aabbccddeeff,start=1MiB,type=linux,size=0060KiB,name=a=b"
    ∷ "name=a,size=0GiB,uuid=00112233-4455-6677-8899-aabbccddeeff,type=EBD0A0A2-B9E5-4433-87C0-68B6B72699C7"
    ∷ "name=a,size=18446744073709551615,uuid=00112233-4455-6677-8899-aabbccddeeff;name=a,size=0,uuid=00112233-4455-6677-8899-aabbccddeeff"
    ∷ [])) ≡ true

-- no partition, an empty one, an empty field, a second last semicolon, a blank; a key that is unknown, missing, given twice, given without its value or with
-- one too many, uuid_disk in a partition; a unit in another spelling, a sign, 2^64, no digit; a type that is neither; an empty name, and one of 37 bytes
abbrev pub TextsRefused : Type 0
TextsRefused =
    any is_layout (map with_disk (
    ""
    ∷ ";"
    ∷ "name=a,size=512,uuid=00112233-4455-6677-8899-aabbccddeeff;;"
    ∷ "name=a,,size=512,uuid=00112233-4455-6677-8899-aabbccddeeff"
    ∷ "name=a, size=512,uuid=00112233-4455-6677-8899-aabbccddeeff"
    ∷ "name=a,size=512,uuid=00112233-4455-6677-8899-aabbccddeeff,colour=1"
    ∷ "name=a,size=512"
    ∷ "name=a,name=b,size=512,uuid=00112233-4455-6677-8899-aabbccddeeff"
    ∷ "name,size=512,uuid=00112233-4455-6677-8899-aabbccddeeff"
    ∷ "name=a,size=512,uuid=00112233-4455-6677-8899-aabbccddeeff,bootable="
    ∷ "name=a,size=512,uuid=00112233-4455-6677-8899-aabbccddeeff,uuid_disk=00112233-4455-6677-8899-AABBCCDDEEFF"
    ∷ "name=a,size=60Mib,uuid=00112233-4455-6677-8899-aabbccddeeff"
    ∷ "name=a,size=+60,uuid=00112233-4455-6677-8899-aabbccddeeff"
    ∷ "name=a,size=18014398509481984KiB,uuid=00112233-4455-6677-8899-aabbccddeeff"
    ∷ "name=a,size=KiB,uuid=00112233-4455-6677-8899-aabbccddeeff"
    ∷ "name=a,size=512,uuid=00112233-4455-6677-8899-aabbccddeeff,type=DATA"
    ∷ "name=,size=512,uuid=00112233-4455-6677-8899-aabbccddeeff"
    ∷ "name=abcdefghijklmnopqrstuvwxyz01234567890,size=512,uuid=00112233-4455-6677-8899-aabbccddeeff"
    ∷ [])) ≡ false

-- what a text asks for: type linux and the unique GUID as stored, start and size in bytes, attribute bit 2, the name's units
abbrev pub TextAsks : Type 0
TextAsks =
    wanted_in (with_disk "bootable,uuid=00112233-4455-6677-8899-aabbccddeeff,start=1MiB,type=linux,size=0060KiB,name=a=b;")
    ≡ record {
      kind = 0xAF ∷ 0x3D ∷ 0xC6 ∷ 0x0F ∷ 0x83 ∷ 0x84 ∷ 0x72 ∷ 0x47 ∷ 0x8E ∷ 0x79 ∷ 0x3D ∷ 0x69 ∷ 0xD8 ∷ 0x47 ∷ 0x7D ∷ 0xE4 ∷ [];
      unique = 0x33 ∷ 0x22 ∷ 0x11 ∷ 0 ∷ 0x55 ∷ 0x44 ∷ 0x77 ∷ 0x66 ∷ 0x88 ∷ 0x99 ∷ 0xAA ∷ 0xBB ∷ 0xCC ∷ 0xDD ∷ 0xEE ∷ 0xFF ∷ [];
      start = Some 1048576;
      size = 61440;
      attributes = 4;
      name = ascii "a=b" ++ replicate 33 0;
    } ∷ []

abbrev pub sample_text : List ℕ
sample_text =
    with_disk "name=a,start=50KiB,size=5KiB,uuid=00112233-4455-6677-8899-aabbccddeeff;name=b,size=0,uuid=11112233-4455-6677-8899-aabbccddeeff"

-- N 200: the first partition is given block 100, the second reaches: from the lowest free block, 34, to the end of that run, though a longer one follows
abbrev pub TextGrants : Type 0
TextGrants =
    grants disk512 200 1 (zeros table_bytes) (wanted_in sample_text) ≡ 10 ∷ 66 ∷ []

-- the refusal of the partitions of a text, 0 for none
abbrev pub refusal_in : Built → ℕ
refusal_in (faulty k) = k
refusal_in (complete es) = 0

-- 71: a size or a start that is no multiple of 512. 72: a start that is not usable, or taken by the partition before it. 20: size 0 that is not the last.
-- 21, 22: a type or a unique GUID of zeros, a unique GUID twice. 25: no room, too short a run from a given start, nothing free. 0: all 133 blocks, the last
-- block alone
abbrev pub PartsRefused : Type 0
PartsRefused =
    map (λ s. refusal_in (build disk512 200 1 (zeros table_bytes) (wanted_in (with_disk s)))) (
    "name=a,size=1,uuid=00112233-4455-6677-8899-aabbccddeeff"
    ∷ "name=a,start=513,size=512,uuid=00112233-4455-6677-8899-aabbccddeeff"
    ∷ "name=a,start=0,size=512,uuid=00112233-4455-6677-8899-aabbccddeeff"
    ∷ "name=a,size=512,uuid=00112233-4455-6677-8899-aabbccddeeff;name=b,start=17408,size=0,uuid=11112233-4455-6677-8899-aabbccddeeff"
    ∷ "name=a,size=0,uuid=00112233-4455-6677-8899-aabbccddeeff;name=b,size=512,uuid=11112233-4455-6677-8899-aabbccddeeff"
    ∷ "name=a,size=512,uuid=00112233-4455-6677-8899-aabbccddeeff,type=00000000-0000-0000-0000-000000000000"
    ∷ "name=a,size=512,uuid=00000000-0000-0000-0000-000000000000"
    ∷ "name=a,size=512,uuid=00112233-4455-6677-8899-aabbccddeeff;name=b,size=512,uuid=00112233-4455-6677-8899-aabbccddeeff"
    ∷ "name=a,size=1GiB,uuid=00112233-4455-6677-8899-aabbccddeeff"
    ∷ "name=a,start=84992,size=1KiB,uuid=00112233-4455-6677-8899-aabbccddeeff"
    ∷ "name=a,size=68096,uuid=00112233-4455-6677-8899-aabbccddeeff;name=b,size=0,uuid=11112233-4455-6677-8899-aabbccddeeff"
    ∷ "name=a,size=68096,uuid=00112233-4455-6677-8899-aabbccddeeff"
    ∷ "name=a,start=84992,size=0,uuid=00112233-4455-6677-8899-aabbccddeeff"
    ∷ [])
    ≡ 71 ∷ 71 ∷ 72 ∷ 72 ∷ 20 ∷ 21 ∷ 22 ∷ 22 ∷ 25 ∷ 25 ∷ 25 ∷ 0 ∷ 0 ∷ []

-- 26: the second of two names that are alike. 27: an alignment of 3, after 71, 72 and 20; at 8 a given start stands unaligned, and nothing is free from a
-- multiple on (N 73: usable are 34 to 39). 71 on 4,096-byte blocks: 512 is no multiple
abbrev pub PartsAligned : Type 0
PartsAligned =
    refusal_in (build disk512 200 1 (zeros table_bytes) (wanted_in (with_disk
    "name=a,size=512,uuid=00112233-4455-6677-8899-aabbccddeeff;name=a,size=512,uuid=11112233-4455-6677-8899-aabbccddeeff")))
    ∷ map (λ s. refusal_in (build disk512 200 3 (zeros table_bytes) (wanted_in (with_disk s)))) (
    "name=a,size=1,uuid=00112233-4455-6677-8899-aabbccddeeff"
    ∷ "name=a,start=0,size=512,uuid=00112233-4455-6677-8899-aabbccddeeff"
    ∷ "name=a,start=17408,size=512,uuid=00112233-4455-6677-8899-aabbccddeeff"
    ∷ "name=a,size=0,uuid=00112233-4455-6677-8899-aabbccddeeff"
    ∷ [])
    ++ (refusal_in (build disk512 73 8 (zeros table_bytes) (wanted_in (with_disk "name=a,size=0,uuid=00112233-4455-6677-8899-aabbccddeeff")))
    ∷ refusal_in (build disk512 73 8 (zeros table_bytes) (wanted_in (with_disk "name=a,start=17408,size=0,uuid=00112233-4455-6677-8899-aabbccddeeff")))
    ∷ refusal_in (build disk4096 12 1 (zeros table_bytes) (wanted_in (with_disk "name=a,size=512,uuid=00112233-4455-6677-8899-aabbccddeeff")))
    ∷ refusal_in (build disk4096 12 1 (zeros table_bytes) (wanted_in (with_disk "name=a,size=4KiB,uuid=00112233-4455-6677-8899-aabbccddeeff")))
    ∷ [])
    ≡ 26 ∷ 71 ∷ 72 ∷ 27 ∷ 27 ∷ 25 ∷ 0 ∷ 71 ∷ 0 ∷ []

-- a string is accepted on every disk of 200 blocks, whatever head and tail held
abbrev pub SampleAccepted : Type 0
SampleAccepted =
    (h t : List ℕ) → length h ≡ lent_bytes disk512 primary → length t ≡ lent_bytes disk512 backup
    → (build_string disk512 200 1 sample_text h t).answer ≡ accepted []
