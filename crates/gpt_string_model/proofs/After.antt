-- The theorems about layout strings: the disk that an accepted one becomes, and every list of calls that follows it.
use mathlib.Core.Path.{◌≡◌, refl, sym, ap, ap₂, subst, ◌∙◌}
use mathlib.Core.Bool.{Bool, true}
use mathlib.Core.List.{List, [], ◌∷◌, ◌++◌, append_assoc}
use mathlib.Core.Option.{Option, none, some}
use Rattle.std.specs.Prelude.{Option as Found, None, Some}
use Prim.Native.Nat.{ℕ, zero, suc, ◌+◌, ◌-◌, ◌*◌, ◌^◌, ◌≤◌, ◌<◌}
use native.Mathlib.Omega.{arith}
use lib.ListN.{length, get_or, replicate, length-append, length-replicate, get_or-replicate}
use borrow.Author.Tests.{leb-true, eqb-true}
use Rattle.octets.specs.Tests.{all}
use Rattle.octets.specs.Rows.{refusal}
use Rattle.octets.specs.Bytes.{part, zeros}
use Rattle.octets.proofs.Bools.{and_l, and_r, not_f}
use Rattle.octets.proofs.Parts.{length-zeros}
use Rattle.octets.proofs.Rows.{passes}
use Rattle.octets.proofs.Chunks.{length-chunks, chunk_part}
use Rattle.gpt_model.specs.Table.{entries}
use Rattle.gpt_model.specs.Disk.{Shape, last_usable, in_range, header_bytes, primary, lent_bytes, guid_in, state, table_of, block0, fresh_head, fresh_tail}
use Rattle.gpt_model.specs.declared.Rule.TheVariants.{Present}
use Rattle.gpt_model.specs.Calls.{refused, accepted, Outcome, outcome, unless_refused}
use Rattle.gpt_model.specs.Sizes.{shape_of, on_shape}
use Rattle.gpt_model.specs.Lists.{total, StartsAfresh}
use Rattle.gpt_model.specs.Stored.{NamesDiffer, NoneOffends}
use Rattle.gpt_model.proofs.Fields.{length-write_all}
use Rattle.gpt_model.proofs.Copies.{written-guid}
use Rattle.gpt_model.proofs.States.{Holds, fresh_holds}
use Rattle.gpt_model.proofs.Demand3.{demand3_from, not_empty_from}
use Rattle.gpt_model.proofs.Names.{placed-differ, empty-differ, one_by_name_from}
use Rattle.gpt_model.proofs.Checks.{placed-keeps, empty-keeps, bits_stay_zero_from}
use Rattle.gpt_model.proofs.Sizes.{shapes_by_size}
use Rattle.gpt_string_model.specs.declared.WantedPartition.{WantedPartition}
use Rattle.gpt_string_model.specs.Text.{disk_guid_of, wanted_in}
use Rattle.gpt_string_model.specs.Build.{as_new, first_block, size_in_blocks, part_rows, entry_for, with_part, Built, faulty, complete, is_nil, build, grants}
use Rattle.gpt_string_model.specs.Calls.{written_disk, string_rows, table_in, build_string, start_built, build_by}
use Rattle.gpt_string_model.specs.Claims.{AsAsked, Builds, BuiltAsAsked, BuildReads, NeverBuiltEmpty, BuildStarts, Demand3AfterStrings}
use Rattle.gpt_string_model.specs.Claims.{NotEmptyAfterStrings, OneByNameAfterStrings, BitsStayZeroAfterStrings, BuildRefusedStays, BuildsOnItsShape}
use Rattle.gpt_string_model.proofs.Parts.{formed, FitsPart}
use Rattle.gpt_string_model.proofs.Formed.{TextFormed, layout-formed}
use Rattle.gpt_string_model.proofs.Builds.{Open, open-on, first_passes, laid, length-laid, built-open, built-sizes, built-keeps, open-empty, total-append}
use Rattle.gpt_string_model.proofs.Builds.{front-sizes}
use Rattle.gpt_string_model.proofs.Stands.{as-asked}

-- ---- the outcome

module _ (g : Shape) (n a : ℕ) (text h t : List ℕ) where
  pub string-is : build_string g n a text h t ≡ unless_refused (refusal (string_rows g n a text h t)) h t
      (written_disk g n (disk_guid_of text) h t (table_in g n a text h t))
  unfolding build_string
  string-is = refl

  -- no row refuses an accepted string, and its table is complete
  pub string-accepted : Builds g n a text h t → (refusal (string_rows g n a text h t) ≡ none) × ((es : List ℕ) × (table_in g n a text h t ≡ complete es))
  string-accepted v = go (refusal (string_rows g n a text h t)) refl (table_in g n a text h t) refl (sym (ap (λ (o : Outcome). o.answer) string-is) ∙ v.1)
    where
      go : (r : Option ℕ) → refusal (string_rows g n a text h t) ≡ r → (b : Built) → table_in g n a text h t ≡ b
          → (unless_refused r h t (written_disk g n (disk_guid_of text) h t b)).answer ≡ accepted v.0
          → (refusal (string_rows g n a text h t) ≡ none) × ((es : List ℕ) × (table_in g n a text h t ≡ complete es))
      go none p (complete es) q e = (p, (es, q))
      go none p (faulty k) q e = let z : ◌≡◌ {A = ℕ} 0 1 = cc in absurd (omega arith)
      go (some k) p b q e = let z : ◌≡◌ {A = ℕ} 0 1 = cc in absurd (omega arith)

  string-refused : (k : ℕ) → (build_string g n a text h t).answer ≡ refused k → build_string g n a text h t ≡ outcome (refused k) h t
  string-refused k v =
      string-is ∙ go (refusal (string_rows g n a text h t)) (table_in g n a text h t) (sym (ap (λ (o : Outcome). o.answer) string-is) ∙ v)
    where
      go : (r : Option ℕ) (b : Built) → (unless_refused r h t (written_disk g n (disk_guid_of text) h t b)).answer ≡ refused k
          → unless_refused r h t (written_disk g n (disk_guid_of text) h t b) ≡ outcome (refused k) h t
      go none (complete es) e = let z : ◌≡◌ {A = ℕ} 0 1 = cc in absurd (omega arith)
      go none (faulty j) e = let q : j ≡ k = cc in ap (λ (x : ℕ). outcome (refused x) h t) q
      go (some j) b e = let q : j ≡ k = cc in ap (λ (x : ℕ). outcome (refused x) h t) q

pub build_refused_stays : BuildRefusedStays
build_refused_stays g n a k text h t v = string-refused g n a text h t k v

module _ (g : Shape) (wide : header_bytes ≤ g.block) (n a : ℕ) (text h t : List ℕ) (v : Builds g n a text h t) where
  abbrev made : (refusal (string_rows g n a text h t) ≡ none) × ((es : List ℕ) × (table_in g n a text h t ≡ complete es))
  made = string-accepted g n a text h t v

  abbrev table : List ℕ
  table = made.1.0

  abbrev ws : List WantedPartition
  ws = wanted_in text

  text-formed : TextFormed text
  text-formed = layout-formed text (not_f _ (passes 70 (string_rows g n a text h t) made.0))

  range : in_range g n ≡ true
  range = not_f _ (passes 2 (string_rows g n a text h t) made.0)

  small : last_usable g n < 256 ^ 8
  small = let s : n ≤ 4294967296 = leb-true _ _ (and_r _ _ range) in omega arith

  built : Open g n table (laid g n a (zeros 16384) ws)
  built = built-open g n a small ws text-formed.partitions (zeros 16384) [] (open-empty g n) table made.1.1

  outcome-is : build_string g n a text h t ≡ outcome (accepted []) (fresh_head g n (disk_guid_of text) table) (fresh_tail g n (disk_guid_of text) table)
  outcome-is =
      string-is g n a text h t ∙ ap₂ (λ (r : Option ℕ) (b : Built). unless_refused r h t (written_disk g n (disk_guid_of text) h t b)) made.0 made.1.1

  held : Holds g n (fresh_head g n (disk_guid_of text) table) (fresh_tail g n (disk_guid_of text) table) table
  held = fresh_holds g wide n (disk_guid_of text) table text-formed.guid built.len built.good

  table_is : table_of g n (build_string g n a text h t).head (build_string g n a text h t).tail ≡ table
  table_is = ap (λ (o : Outcome). table_of g n o.head o.tail) outcome-is ∙ held.table

  -- ---- each partition in its slot

  partition-from : (before : List WantedPartition) (w : WantedPartition) (after : List WantedPartition) (es : List ℕ) (placed : List (List ℕ))
      → all formed (before ++ (w ∷ after)) ≡ true → Open g n es placed → build g n a es (before ++ (w ∷ after)) ≡ complete table
      → AsAsked g n a table (length placed + length before) w (is_nil after)
  unfolding laid
  partition-from [] w after es placed fs o e =
      let p = first_passes g n a small es w after table e in
      let b = built-open g n a small (w ∷ after) fs es placed o table e in
      let i : length placed ≡ length placed + 0 = omega arith in
      subst (λ (k : ℕ). AsAsked g n a table k w (is_nil after)) i
      (as-asked g n a small es placed o w (is_nil after) (and_l _ _ fs) p.0 table _
      (b.front.entries-are ∙ append_assoc placed (laid g n a es (w ∷ after)) _))
  partition-from (x ∷ before) w after es placed fs o e =
      let p = first_passes g n a small es x (before ++ (w ∷ after)) table e in
      let d = entry_for g n a es x (is_nil (before ++ (w ∷ after))) in
      let i : length (placed ++ (d ∷ [])) + length before ≡ length placed + suc (length before) = omega (arith, length-append placed (d ∷ [])) in
      subst (λ (k : ℕ). AsAsked g n a table k w (is_nil after)) i
      (partition-from before w after (with_part g n a es x (is_nil (before ++ (w ∷ after)))) (placed ++ (d ∷ [])) (and_r _ _ fs)
      (open-on g n a small es placed x (is_nil (before ++ (w ∷ after))) o (and_l _ _ fs) p.0) p.1)

  entries-built : entries table ≡ laid g n a (zeros 16384) ws ++ replicate (128 - length ws) (zeros 128)
  entries-built =
      built.front.entries-are
      ∙ ap (λ (k : ℕ). laid g n a (zeros 16384) ws ++ replicate (128 - k) (zeros 128)) (length-laid g n a (zeros 16384) ws)

  get_or-behind : (xs : List (List ℕ)) (k i : ℕ) (e d : List ℕ) → length xs ≤ i → i < length xs + k → get_or (xs ++ replicate k e) i d ≡ e
  get_or-behind [] k i e d l h = get_or-replicate k i e d (omega arith)
  get_or-behind (x ∷ xs) k zero e d l h = absurd (omega arith)
  get_or-behind (x ∷ xs) k (suc i) e d l h = get_or-behind xs k i e d (omega arith) (omega arith)

  fits : length ws ≤ 128
  fits =
      let q = ap length entries-built in
      let ls = laid g n a (zeros 16384) ws in
      omega (
        arith,
        length-chunks 128 128 table,
        length-append ls (replicate (128 - length ws) (zeros 128)),
        length-replicate (128 - length ws) (zeros 128),
        length-laid g n a (zeros 16384) ws,
      )

  pub string-reads : BuiltAsAsked g n a text (build_string g n a text h t).head (build_string g n a text h t).tail
  string-reads = record {
    reads = ap (λ (o : Outcome). state g n o.head o.tail) outcome-is ∙ held.reads;
    guid = ap (λ (o : Outcome). guid_in g primary o.head) outcome-is
        ∙ written-guid g wide n primary (disk_guid_of text) table _ built.len (length-write_all (block0 n) (zeros (lent_bytes g primary)) ∙ length-zeros _)
        text-formed.guid;
    count = fits;
    partitions = λ before w after q.
        let i : 0 + length before ≡ length before = omega arith in
        subst (λ (es : List ℕ). AsAsked g n a es (length before) w (is_nil after)) (sym table_is)
        (subst (λ (k : ℕ). AsAsked g n a table k w (is_nil after)) i
        (partition-from before w after (zeros 16384) [] (subst (λ (x : List WantedPartition). all formed x ≡ true) q text-formed.partitions)
        (open-empty g n)
        (subst (λ (x : List WantedPartition). build g n a (zeros 16384) x ≡ complete table) q made.1.1)));
    others = λ i l h. ap (part (i * 128) 128) table_is ∙ sym (chunk_part 128 128 i table h)
        ∙ ap (λ (x : List (List ℕ)). get_or x i []) entries-built
        ∙ get_or-behind (laid g n a (zeros 16384) ws) (128 - length ws) i (zeros 128) []
        (let q = length-laid g n a (zeros 16384) ws in omega arith) (let q = length-laid g n a (zeros 16384) ws in omega arith);
  }

  -- ---- what follows

  pub string-starts : StartsAfresh g n (table_of g n (start_built g n a text h t).head (start_built g n a text h t).tail) (start_built g n a text h t)
  string-starts =
      let gs = grants g n a (zeros 16384) ws in
      let sizes = front-sizes table (laid g n a (zeros 16384) ws) gs built.front
      (built-sizes g n a small ws text-formed.partitions (zeros 16384) [] (open-empty g n) table made.1.1) in
      subst (λ (es : List ℕ). StartsAfresh g n es (start_built g n a text h t)) (sym table_is)
      (subst (λ (o : Outcome). StartsAfresh g n table
      (record { head = o.head; tail = o.tail; ledger = record { granted = total gs; back = 0; sizes = gs ++ replicate (128 - length gs) 0 } }))
      (sym outcome-is)
      (record {
        len_head = held.len_head;
        len_tail = held.len_tail;
        reads = held.reads;
        table = held.table;
        sizes = sym sizes;
        granted = sym (ap total sizes ∙ total-append gs (128 - length gs));
        back = refl;
      }))

  keeps : (P : List ℕ → Type 0) → P (zeros 16384)
      → ((es : List ℕ) (w : WantedPartition) (final : Bool) → length es ≡ 16384 → FitsPart g n a es w final → formed w ≡ true
      → refusal (part_rows g n a es w final) ≡ none → P es → P (with_part g n a es w final))
      → P (table_of g n (start_built g n a text h t).head (start_built g n a text h t).tail)
  keeps P p parts =
      subst P (sym table_is)
      (built-keeps g n a small P parts ws text-formed.partitions (zeros 16384) [] (open-empty g n) p table made.1.1)

  names : NamesDiffer (table_of g n (start_built g n a text h t).head (start_built g n a text h t).tail)
  names = keeps NamesDiffer empty-differ (λ es w final len p f e old.
      placed-differ g.first (last_usable g n) es len _ (as_new a w (size_in_blocks g n a es w final)) (first_block g n a es w final) p.index p.len
      (eqb-true _ _ (and_r _ _ (and_l _ _ f))) (passes 26 (part_rows g n a es w final) e) old)

  bits : NoneOffends Present (table_of g n (start_built g n a text h t).head (start_built g n a text h t).tail)
  bits = keeps (NoneOffends Present) (empty-keeps Present) (λ es w final len p f e old.
      placed-keeps Present g.first (last_usable g n) es len _ (as_new a w (size_in_blocks g n a es w final)) (first_block g n a es w final) p.index p.len
      (passes 28 (part_rows g n a es w final) e) old)

  in-range : in_range g n ≡ true
  in-range = range

  pub first-used : (w : WantedPartition)
      × ((after : List WantedPartition) × AsAsked g n a (table_of g n (build_string g n a text h t).head (build_string g n a text h t).tail) 0 w
      (is_nil after))
  first-used =
      let p = text-formed.some-partition in
      (p.0, (p.1.0, string-reads.partitions [] p.0 p.1.0 p.1.1))

pub build_reads : BuildReads
build_reads g wide n a text h t v = string-reads g wide n a text h t v

pub never_built_empty : NeverBuiltEmpty
never_built_empty g wide n a text h t v = (first-used g wide n a text h t v).1.1.used

pub build_starts : BuildStarts
build_starts g wide n a text h t v = string-starts g wide n a text h t v

pub demand3_after_strings : Demand3AfterStrings
demand3_after_strings g wide n a text h t v cs = demand3_from g wide n _ (start_built g n a text h t) (string-starts g wide n a text h t v) cs

pub not_empty_after_strings : NotEmptyAfterStrings
not_empty_after_strings g wide n a text h t v cs =
    not_empty_from g wide n _ (start_built g n a text h t) (in-range g wide n a text h t v) (string-starts g wide n a text h t v) cs

pub one_by_name_after_strings : OneByNameAfterStrings
one_by_name_after_strings g wide n a text h t v cs =
    one_by_name_from g wide n _ (start_built g n a text h t) (string-starts g wide n a text h t v) (names g wide n a text h t v) cs

pub bits_stay_zero_after_strings : BitsStayZeroAfterStrings
bits_stay_zero_after_strings g wide n a text h t v cs =
    (bits_stay_zero_from g wide n _ (start_built g n a text h t) (string-starts g wide n a text h t v) cs).0 (bits g wide n a text h t v)

-- ---- by the block size

module _ (size n a : ℕ) (text h t : List ℕ) where
  pub string-by : (g : Shape) → shape_of size ≡ Some g → build_by size n a text h t ≡ build_string g n a text h t
  unfolding build_by
  string-by g e = ap (λ (s : Found Shape). on_shape s h t (λ g. build_string g n a text h t)) e

  pub string-other : shape_of size ≡ None → build_by size n a text h t ≡ outcome (refused 6) h t
  unfolding build_by
  string-other e = ap (λ (s : Found Shape). on_shape s h t (λ g. build_string g n a text h t)) e

pub builds_on_its_shape : BuildsOnItsShape
builds_on_its_shape size n a text h t = (string-by size n a text h t, λ p q. string-other size n a text h t (shapes_by_size.2 size p q))
