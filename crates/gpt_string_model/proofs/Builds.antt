-- All partitions of a layout string, one after the other: they stand in slots 1, 2, .. in order, each as it was asked for, and their sizes are the grants.
use mathlib.Core.Path.{◌≡◌, refl, sym, ap, ap₂, subst, ◌∙◌}
use mathlib.Core.Logic.{◌⊎◌, inl, inr}
use mathlib.Core.Bool.{Bool, true, false}
use mathlib.Core.List.{List, [], ◌∷◌, ◌++◌, map, append-nil, append_assoc}
use mathlib.Core.Option.{Option, none, some}
use Prim.Native.Nat.{ℕ, zero, suc, ◌+◌, ◌-◌, ◌*◌, ◌^◌, ◌<◌}
use native.Mathlib.Omega.{arith}
use lib.ListN.{length, set, replicate, length-append, length-replicate, get_or-replicate, length-map}
use lib.Seq.{set_at, ext_get_or}
use Rattle.octets.specs.Tests.{all, any, find_ix}
use Rattle.octets.specs.Rows.{refusal}
use Rattle.octets.specs.Bytes.{zeros, put_chunk}
use Rattle.octets.proofs.Bools.{and_l, and_r, or-false-l, or-false-r, or-false-i, option_cases}
use Rattle.octets.proofs.Parts.{length-zeros, part-zeros}
use Rattle.octets.proofs.Chunks.{length-chunks, chunk_part, length_put_chunk}
use Rattle.gpt_model.specs.Table.{unused, range_size, range_of, entries, ranges_of, good_table}
use Rattle.gpt_model.specs.Disk.{Shape, last_usable}
use Rattle.gpt_model.specs.Lists.{total}
use Rattle.gpt_model.specs.Calls.{lowest_unused}
use Rattle.gpt_model.proofs.Counts.{total-zeros}
use Rattle.gpt_model.proofs.Entries.{range-unused, unused-zeros, entries-put, good-put, empty-good}
use Rattle.gpt_string_model.specs.declared.WantedPartition.{WantedPartition}
use Rattle.gpt_string_model.specs.Build.{part_rows, entry_for, with_part, faulty, complete, unless_faulty, is_nil, build, grants}
use Rattle.gpt_string_model.proofs.Parts.{formed, FitsPart, part-fits, part-size, part-used}

-- ---- slots 1, 2, .. in order

-- the table's entries are those placed, then unused ones
pub record Front (es : List ℕ) (placed : List (List ℕ)) : Type 0 where
  pub entries-are : entries es ≡ placed ++ replicate (128 - length placed) (zeros 128)
  pub used : any unused placed ≡ false

find_ix-seam : (placed : List (List ℕ)) (k : ℕ) → any unused placed ≡ false → find_ix unused (placed ++ replicate k (zeros 128)) ≡ length placed
find_ix-seam [] zero u = refl
find_ix-seam [] (suc k) u = rw (unused-zeros 128, find_ix)
find_ix-seam (e ∷ es) k u = rw (or-false-l _ _ u, find_ix) (ap suc (find_ix-seam es k (or-false-r _ _ u)))

any_append : (xs : List (List ℕ)) (e : List ℕ) → any unused xs ≡ false → unused e ≡ false → any unused (xs ++ (e ∷ [])) ≡ false
any_append [] e u q = or-false-i _ _ q refl
any_append (x ∷ xs) e u q = or-false-i _ _ (or-false-l _ _ u) (any_append xs e (or-false-r _ _ u) q)

pub front-lowest : (es : List ℕ) (placed : List (List ℕ)) → Front es placed → lowest_unused es ≡ length placed
front-lowest es placed f = ap (find_ix unused) f.entries-are ∙ find_ix-seam placed (128 - length placed) f.used

front-on : (es : List ℕ) (placed : List (List ℕ)) (e : List ℕ) → length es ≡ 16384 → length e ≡ 128 → lowest_unused es < 128 → unused e ≡ false
    → Front es placed
    → Front (put_chunk 128 (lowest_unused es) e es) (placed ++ (e ∷ []))
front-on es placed e len le' hi u f = record {
  entries-are =
      entries-put 0 0 es len (lowest_unused es) e hi le'
      ∙ ap₂ (λ (x : List (List ℕ)) (i : ℕ). set x i e) f.entries-are (front-lowest es placed f)
      ∙ ap (λ (k : ℕ). set (placed ++ replicate k (zeros 128)) (length placed) e) one
      ∙ set_at placed (zeros 128) (replicate (128 - length (placed ++ (e ∷ []))) (zeros 128)) e (length placed) refl
      ∙ sym (append_assoc placed (e ∷ []) _);
  used = any_append placed e f.used u;
}
  where
    one : 128 - length placed ≡ suc (128 - length (placed ++ (e ∷ [])))
    one = let l = front-lowest es placed f in let h = hi in omega (arith, length-append placed (e ∷ []))

-- ---- one step of building

pub build-nil : (g : Shape) (n a : ℕ) (es : List ℕ) → build g n a es [] ≡ complete es
unfolding build
build-nil g n a es = refl

build-step : (g : Shape) (n a : ℕ) (es : List ℕ) (w : WantedPartition) (ws : List WantedPartition)
    → build g n a es (w ∷ ws)
    ≡ unless_faulty (refusal (part_rows g n a es w (is_nil ws))) (build g n a (with_part g n a es w (is_nil ws)) ws)
unfolding build
build-step g n a es w ws = refl

pub build-on : (g : Shape) (n a : ℕ) (es : List ℕ) (w : WantedPartition) (ws : List WantedPartition) → refusal (part_rows g n a es w (is_nil ws)) ≡ none
    → build g n a es (w ∷ ws) ≡ build g n a (with_part g n a es w (is_nil ws)) ws
build-on g n a es w ws r =
    build-step g n a es w ws ∙ ap (λ (o : Option ℕ). unless_faulty o (build g n a (with_part g n a es w (is_nil ws)) ws)) r

pub build-stop : (g : Shape) (n a : ℕ) (es : List ℕ) (w : WantedPartition) (ws : List WantedPartition) (k : ℕ)
    → refusal (part_rows g n a es w (is_nil ws)) ≡ some k → build g n a es (w ∷ ws) ≡ faulty k
build-stop g n a es w ws k r =
    build-step g n a es w ws ∙ ap (λ (o : Option ℕ). unless_faulty o (build g n a (with_part g n a es w (is_nil ws)) ws)) r

-- the entries that they make, in order
unfoldable pub laid : Shape → ℕ → ℕ → List ℕ → List WantedPartition → List (List ℕ)
laid g n a es [] = []
laid g n a es (w ∷ ws) = entry_for g n a es w (is_nil ws) ∷ laid g n a (with_part g n a es w (is_nil ws)) ws

-- what holds of the table before a partition is placed
pub record Open (g : Shape) (n : ℕ) (es : List ℕ) (placed : List (List ℕ)) : Type 0 where
  pub len : length es ≡ 16384
  pub good : good_table g.first (last_usable g n) es ≡ true
  pub front : Front es placed

module _ (g : Shape) (n a : ℕ) (small : last_usable g n < 256 ^ 8) where
  -- one partition more
  pub open-on : (es : List ℕ) (placed : List (List ℕ)) (w : WantedPartition) (final : Bool) → Open g n es placed → formed w ≡ true
      → refusal (part_rows g n a es w final) ≡ none → Open g n (with_part g n a es w final) (placed ++ (entry_for g n a es w final ∷ []))
  open-on es placed w final o f e =
      let p = part-fits g n a es w final e small o.len o.good f in
      let d = entry_for g n a es w final in
      record {
        len = length_put_chunk 128 128 (lowest_unused es) d es p.len p.index o.len;
        good = good-put g.first (last_usable g n) es o.len (lowest_unused es) d p.index p.len o.good p.ok p.pair;
        front = front-on es placed d o.len p.len p.index (part-used g n a es w final e small o.len o.good f) o.front;
      }

  -- a complete building has passed the rows of its first partition
  pub first_passes : (es : List ℕ) (w : WantedPartition) (ws : List WantedPartition) (es' : List ℕ) → build g n a es (w ∷ ws) ≡ complete es'
      → (refusal (part_rows g n a es w (is_nil ws)) ≡ none) × (build g n a (with_part g n a es w (is_nil ws)) ws ≡ complete es')
  first_passes es w ws es' e = go (option_cases (refusal (part_rows g n a es w (is_nil ws))))
    where
      go : (refusal (part_rows g n a es w (is_nil ws)) ≡ none) ⊎ ((k : ℕ) × (refusal (part_rows g n a es w (is_nil ws)) ≡ some k))
          → (refusal (part_rows g n a es w (is_nil ws)) ≡ none) × (build g n a (with_part g n a es w (is_nil ws)) ws ≡ complete es')
      go (inl r) = (r, sym (build-on g n a es w ws r) ∙ e)
      go (inr k) = let q = build-stop g n a es w ws k.0 k.1 in let z : ◌≡◌ {A = ℕ} 0 1 = cc in absurd (omega arith)

  -- what a table that is built is
  pub built-open : (ws : List WantedPartition) → all formed ws ≡ true → (es : List ℕ) (placed : List (List ℕ)) → Open g n es placed
      → (es' : List ℕ) → build g n a es ws ≡ complete es' → Open g n es' (placed ++ laid g n a es ws)
  unfolding laid
  built-open [] fs es placed o es' e =
      let q : es ≡ es' = cc (build-nil g n a es) in
      subst (λ (x : List ℕ). Open g n x (placed ++ [])) q (subst (Open g n es) (sym (append-nil placed)) o)
  built-open (w ∷ ws) fs es placed o es' e =
      let p = first_passes es w ws es' e in
      let d = entry_for g n a es w (is_nil ws) in
      subst (Open g n es') (append_assoc placed (d ∷ []) (laid g n a (with_part g n a es w (is_nil ws)) ws))
      (built-open ws (and_r _ _ fs) (with_part g n a es w (is_nil ws)) (placed ++ (d ∷ []))
      (open-on es placed w (is_nil ws) o (and_l _ _ fs) p.0) es' p.1)

  pub built-sizes : (ws : List WantedPartition) → all formed ws ≡ true → (es : List ℕ) (placed : List (List ℕ)) → Open g n es placed
      → (es' : List ℕ) → build g n a es ws ≡ complete es' → map (λ e. range_size (range_of e)) (laid g n a es ws) ≡ grants g n a es ws
  unfolding laid grants
  built-sizes [] fs es placed o es' e = refl
  built-sizes (w ∷ ws) fs es placed o es' e =
      let p = first_passes es w ws es' e in
      let d = entry_for g n a es w (is_nil ws) in
      ap₂ ◌∷◌ (part-size g n a es w (is_nil ws) p.0 small o.len o.good (and_l _ _ fs))
      (built-sizes ws (and_r _ _ fs) (with_part g n a es w (is_nil ws)) (placed ++ (d ∷ [])) (open-on es placed w (is_nil ws) o (and_l _ _ fs) p.0) es' p.1)

  -- what every partition that is placed keeps of the table, building keeps
  pub built-keeps : (P : List ℕ → Type 0)
      → ((es : List ℕ) (w : WantedPartition) (final : Bool) → length es ≡ 16384 → FitsPart g n a es w final → formed w ≡ true
      → refusal (part_rows g n a es w final) ≡ none → P es → P (with_part g n a es w final))
      → (ws : List WantedPartition) → all formed ws ≡ true → (es : List ℕ) (placed : List (List ℕ)) → Open g n es placed → P es
      → (es' : List ℕ) → build g n a es ws ≡ complete es' → P es'
  built-keeps P parts [] fs es placed o p es' e = let q : es ≡ es' = cc (build-nil g n a es) in subst P q p
  built-keeps P parts (w ∷ ws) fs es placed o p es' e =
      let r = first_passes es w ws es' e in
      let d = entry_for g n a es w (is_nil ws) in
      built-keeps P parts ws (and_r _ _ fs) (with_part g n a es w (is_nil ws)) (placed ++ (d ∷ []))
      (open-on es placed w (is_nil ws) o (and_l _ _ fs) r.0)
      (parts es w (is_nil ws) o.len (part-fits g n a es w (is_nil ws) r.0 small o.len o.good (and_l _ _ fs)) (and_l _ _ fs) r.0 p) es' r.1

-- ---- from the table with no entries

front-empty : Front (zeros 16384) []
front-empty = record {
  entries-are =
      ext_get_or [] (entries (zeros 16384)) (replicate 128 (zeros 128)) (length-chunks 128 128 (zeros 16384) ∙ sym (length-replicate 128 (zeros 128)))
      (λ i h. let w : i < 128 = omega (arith, length-chunks 128 128 (zeros 16384)) in
      chunk_part 128 128 i (zeros 16384) w ∙ part-zeros (i * 128) 128 16384 (omega arith) ∙ sym (get_or-replicate 128 i (zeros 128) [] w));
  used = refl;
}

pub open-empty : (g : Shape) (n : ℕ) → Open g n (zeros 16384) []
open-empty g n = record { len = length-zeros 16384; good = empty-good g.first (last_usable g n); front = front-empty }

pub length-laid : (g : Shape) (n a : ℕ) (es : List ℕ) (ws : List WantedPartition) → length (laid g n a es ws) ≡ length ws
unfolding laid
length-laid g n a es [] = refl
length-laid g n a es (w ∷ ws) = ap suc (length-laid g n a (with_part g n a es w (is_nil ws)) ws)

-- ---- sizes

sizes-front : (placed : List (List ℕ)) (k : ℕ)
    → map range_size (map range_of (placed ++ replicate k (zeros 128))) ≡ map (λ e. range_size (range_of e)) placed ++ replicate k 0
sizes-front [] zero = refl
sizes-front [] (suc k) = ap₂ ◌∷◌ (ap range_size (range-unused (zeros 128) (unused-zeros 128))) (sizes-front [] k)
sizes-front (e ∷ es) k = ap (λ (r : List ℕ). range_size (range_of e) ∷ r) (sizes-front es k)

pub total-append : (ks : List ℕ) (k : ℕ) → total (ks ++ replicate k 0) ≡ total ks
total-append [] k = total-zeros k
total-append (x ∷ ks) k = ap (λ (r : ℕ). x + r) (total-append ks k)

pub front-sizes : (es : List ℕ) (placed : List (List ℕ)) (gs : List ℕ) → Front es placed → map (λ e. range_size (range_of e)) placed ≡ gs
    → map range_size (ranges_of es) ≡ gs ++ replicate (128 - length gs) 0
front-sizes es placed gs f q =
    ap (λ (x : List (List ℕ)). map range_size (map range_of x)) f.entries-are ∙ sizes-front placed (128 - length placed)
    ∙ ap₂ (λ (x : List ℕ) (k : ℕ). x ++ replicate (128 - k) 0) q (sym (length-map placed (λ e. range_size (range_of e))) ∙ ap length q)
