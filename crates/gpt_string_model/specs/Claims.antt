-- What is claimed of the definitions: the statements of the theorems, proved under the same names in lower case. A reader relies on these.
use Rattle.std.specs.Prelude.{◌≡◌, ◌⊎◌, ◌≢◌, Bool, true, not, List, [], ◌∷◌, ◌++◌, ℕ, suc, ◌-◌, ◌*◌, ◌≤◌, ◌<◌, eqb, length, take, None, Some}
use Rattle.octets.specs.Tests.{all, any}
use Rattle.octets.specs.Bytes.{part, zeros}
use Rattle.gpt_model.specs.Table.{entry_bytes, slot_count, ranges_of}
use Rattle.gpt_model.specs.Disk.{Shape, last_usable, header_bytes, primary, guid_in, state, table_of}
use Rattle.gpt_model.specs.Ranges.{AlignedFrom}
use Rattle.gpt_model.specs.declared.Rule.TheVariants.{Present}
use Rattle.gpt_model.specs.Calls.{Call, refused, accepted, outcome, step}
use Rattle.gpt_model.specs.Sizes.{shape_of}
use Rattle.gpt_model.specs.Lists.{Snapshot, after_all, answers, applied, StartsAfresh}
use Rattle.gpt_model.specs.Stored.{EntryUsed, entry_type, entry_unique, entry_first, entry_last, entry_attributes, entry_name_bytes}
use Rattle.gpt_model.specs.Stored.{unit_bytes, EntryHolds, NoneOffends}
use Rattle.gpt_model.specs.Claims.{Sound, NamesDifferIn, Serves}
use Rattle.gpt_string_model.specs.declared.WantedPartition.{WantedPartition}
use Rattle.gpt_string_model.specs.Text.{split, are_fields, wanted_by, disk_guid_of, wanted_in}
use Rattle.gpt_string_model.specs.Build.{is_nil}
use Rattle.gpt_string_model.specs.Calls.{build_string, start_built, build_by}

-- ---- the text

-- parts with bytes c between them
abbrev pub joined : ℕ → List (List ℕ) → List ℕ
joined c [] = []
joined c (p ∷ []) = p
joined c (p ∷ q ∷ ps) = p ++ (c ∷ joined c (q ∷ ps))

-- b1: parted by semicolons, fields by commas: the parts, joined, are the text, and none of them holds the byte that parts them
abbrev pub SplitSays : Type 0
SplitSays = (c : ℕ) (text : List ℕ) → (joined c (split c text) ≡ text) × (all (λ part. not (any (λ b. eqb b c) part)) (split c text) ≡ true)

-- b4: fields come in any order: two neighbours may change places, and what is asked for is the same
abbrev pub AnyOrder : Type 0
AnyOrder =
    (fs : List (List ℕ)) (f d : List ℕ) (gs : List (List ℕ)) → let one = fs ++ (f ∷ d ∷ gs) in let other = fs ++ (d ∷ f ∷ gs) in
    (are_fields one ≡ are_fields other) × (are_fields one ≡ true → wanted_by one ≡ wanted_by other)

-- ---- demand 2: slot k holds the text's partition k

-- the blocks that a partition must find: as many as its size has; one where its size is 0
abbrev pub Needs : Shape → WantedPartition → ℕ → Type 0
Needs g w k = ((w.size ≢ 0) × (k * g.block ≡ w.size)) ⊎ ((w.size ≡ 0) × (k ≡ 1))

-- entry i of the table es is what the string asks for with its partition w; the partitions before it are those of the first i entries, `final`: none follow
pub record AsAsked (g : Shape) (n alignment : ℕ) (es : List ℕ) (i : ℕ) (w : WantedPartition) (final : Bool) : Type 0 where
  pub used : EntryUsed es i
  pub kind : entry_type es i ≡ w.kind
  pub unique : entry_unique es i ≡ w.unique
  pub attributes : entry_attributes es i ≡ w.attributes
  pub name : entry_name_bytes es i ≡ unit_bytes w.name
  -- b8: with it, the partition stands exactly there
  pub given : (at : ℕ) → w.start ≡ Some at → entry_first es i * g.block ≡ at
  -- Without start, placing is as in adding: the lowest multiple of the alignment with room enough
  pub lowest : w.start ≡ None → (k : ℕ) → Needs g w k
      → AlignedFrom g n (take i (ranges_of es)) k alignment (entry_first es i)
      × ((s : ℕ) → s < entry_first es i → ¬ AlignedFrom g n (take i (ranges_of es)) k alignment s)
  pub sized : w.size ≢ 0 → (suc (entry_last es i) - entry_first es i) * g.block ≡ w.size
  -- b7: Size 0 in the last partition reaches from its start .. to the end of that free run; any other [gets 20]
  pub reaching : w.size ≡ 0
      → (final ≡ true) × ((entry_last es i ≡ last_usable g n) ⊎ ((j : ℕ) × (j < i) × EntryHolds es j (suc (entry_last es i))))

-- the call is accepted
abbrev pub Builds : Shape → ℕ → ℕ → List ℕ → List ℕ → List ℕ → Type 0
Builds g n alignment text h t = (values : List ℕ) × ((build_string g n alignment text h t).answer ≡ accepted values)

-- b1: should become a formatted head and tail: the disk reads as state 1, with the disk GUID and the partitions of the text, each in its slot, and all other
-- entries zero
pub record BuiltAsAsked (g : Shape) (n alignment : ℕ) (text h t : List ℕ) : Type 0 where
  pub reads : state g n h t ≡ 1
  pub guid : guid_in g primary h ≡ disk_guid_of text
  pub count : length (wanted_in text) ≤ slot_count
  pub partitions : (before : List WantedPartition) (w : WantedPartition) (after : List WantedPartition) → wanted_in text ≡ before ++ (w ∷ after)
      → AsAsked g n alignment (table_of g n h t) (length before) w (is_nil after)
  pub others : (i : ℕ) → length (wanted_in text) ≤ i → i < slot_count → part (i * entry_bytes) entry_bytes (table_of g n h t) ≡ zeros entry_bytes

abbrev pub BuildReads : Type 0
BuildReads =
    (g : Shape) → header_bytes ≤ g.block → (n alignment : ℕ) (text h t : List ℕ) → Builds g n alignment text h t
    → let o = build_string g n alignment text h t in BuiltAsAsked g n alignment text o.head o.tail

-- a taken text has a partition: formatting is never what a string becomes
abbrev pub NeverBuiltEmpty : Type 0
NeverBuiltEmpty =
    (g : Shape) → header_bytes ≤ g.block → (n alignment : ℕ) (text h t : List ℕ) → Builds g n alignment text h t
    → let o = build_string g n alignment text h t in EntryUsed (table_of g n o.head o.tail) 0

-- ---- demand 3. b9: In demand 3 an accepted string counts as formatting

-- it starts afresh with the table that then reads; every partition is granted, to its slot, in its size
abbrev pub BuildStarts : Type 0
BuildStarts =
    (g : Shape) → header_bytes ≤ g.block → (n alignment : ℕ) (text h t : List ℕ) → Builds g n alignment text h t
    → let r = start_built g n alignment text h t in StartsAfresh g n (table_of g n r.head r.tail) r

-- what holds of every list of calls, refused ones included, that follows an accepted string, and of what stands after it
abbrev pub AfterStrings : (List Call → Shape → ℕ → Snapshot → Snapshot → Type 0) → Type 0
AfterStrings Holds =
    (g : Shape) → header_bytes ≤ g.block → (n alignment : ℕ) (text h t : List ℕ) → Builds g n alignment text h t → (cs : List Call)
    → let r = start_built g n alignment text h t in Holds cs g n r (after_all (step g n) cs r)

abbrev pub Demand3AfterStrings : Type 0
Demand3AfterStrings = AfterStrings (λ cs g n r after. Sound g n after)

-- and it is not empty: the table is that which the accepted calls make of the string's
abbrev pub NotEmptyAfterStrings : Type 0
NotEmptyAfterStrings =
    AfterStrings (λ cs g n r after.
    Serves g n (applied g.first (last_usable g n) (table_of g n r.head r.tail) cs (answers (step g n) cs r)) after)

abbrev pub OneByNameAfterStrings : Type 0
OneByNameAfterStrings = AfterStrings (λ cs g n r after. NamesDifferIn g n after)

-- k5: The string builder goes by the present rule.
abbrev pub BitsStayZeroAfterStrings : Type 0
BitsStayZeroAfterStrings = AfterStrings (λ cs g n r after. NoneOffends Present (table_of g n after.head after.tail))

-- ---- demand 1. R1: A refusal returns its number alone .. and changes no lent byte.

abbrev pub BuildRefusedStays : Type 0
BuildRefusedStays =
    (g : Shape) (n alignment k : ℕ) (text h t : List ℕ) → (build_string g n alignment text h t).answer ≡ refused k
    → build_string g n alignment text h t ≡ outcome (refused k) h t

-- ---- the two block sizes. l7: 6 for another block size, before all others

abbrev pub BuildsOnItsShape : Type 0
BuildsOnItsShape =
    (size n alignment : ℕ) (text h t : List ℕ)
    → ((g : Shape) → shape_of size ≡ Some g → build_by size n alignment text h t ≡ build_string g n alignment text h t)
    × (size ≢ 512 → size ≢ 4096 → build_by size n alignment text h t ≡ outcome (refused 6) h t)
