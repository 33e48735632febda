-- The partitions of a layout string, one after the other: what the rest of the text makes of the table so far is what the whole text makes.
use mathlib.Core.Path.{◌≡◌, refl, sym, ap, ap₂, subst, ◌∙◌}
use mathlib.Core.Bool.{Bool, true, cond}
use mathlib.Core.List.{List, ◌∷◌, map}
use mathlib.Core.Option.{Option, none, some}
use Rattle.std.specs.Prelude.{Option as Found, None, Some, IsSome}
use borrow.Author.Rules.{rules}
use Prim.Native.Nat.{ℕ, ◌<◌}
use native.Mathlib.Decide.{dec_lt}
use native.Mathlib.Omega.{arith}
use lib.Dec.{eqb}
use lib.ListN.{length}
use borrow.Author.Tests.{eq-eqb, ne_eqb}
use Rattle.octets.specs.Tests.{all}
use Rattle.octets.specs.Rows.{refusal}
use Rattle.octets.proofs.Bools.{and_l, and_r}
use Rattle.gpt_model.specs.Disk.{Shape}
use Rattle.gpt_string_model.specs.declared.WantedPartition.{WantedPartition}
use Rattle.gpt_string_model.specs.Text.{is_partition, wanted_of, parts_of, is_layout, wanted_in}
use Rattle.gpt_string_model.specs.Build.{part_rows, with_part, faulty, complete, unless_faulty, is_nil, build}
use Rattle.gpt_string_model.proofs.Reading.{first_part, behind_first, parts-nil, parts-next, parts-behind}
use Rattle.gpt_string_model.proofs.Asked.{layout-partitions}
use Rattle.gpt_string_model.proofs.Builds.{build-nil, build-on, build-stop}
use Rattle.std.specs.Prelude.{Result, Ok, Err, IsErr, IsErrAnd}
use Rattle.gpt_build.specs.declared.Refusal.{Refusal}
use Rattle.gpt_build.specs.Answers.{number_of, built_by}

-- what one partition more answers
part-cases : (o : Option ℕ) (es es' : List ℕ) → complete es' ≡ unless_faulty o (complete es) → (o ≡ none) × (es' ≡ es)
part-cases none es es' e = (refl, cc)
part-cases (some k) es es' e = let z : ◌≡◌ {A = ℕ} 0 1 = cc in absurd (omega arith)

part-fault : (o : Option ℕ) (es : List ℕ) (k : ℕ) → faulty k ≡ unless_faulty o (complete es) → o ≡ some k
part-fault none es k e = let z : ◌≡◌ {A = ℕ} 0 1 = cc in absurd (omega arith)
part-fault (some j) es k e = let q : j ≡ k = cc in ap some q

-- what a `?` hands on
pub handed : {A : Type 0} (y : Result A Refusal) (r : Refusal) → IsErr y → IsErrAnd y (λ z. z ≡ r) → (es : List ℕ) → built_by y es ≡ faulty (number_of r)
handed (Ok b) r v w es = absurd w
handed (Err z) r v w es = ap (λ (k : Refusal). faulty (number_of k)) w

-- what is read of a partition
module _ (part : List ℕ) (r : Found WantedPartition) (a : r ≡ cond (is_partition part) (Some (wanted_of part)) None) (e : is_partition part ≡ true) where
  read : r ≡ Some (wanted_of part)
  read = a ∙ ap (λ (b : Bool). cond b (Some (wanted_of part)) None) e

  pub next-asks : IsSome r
  next-asks = rw read (search rules)

  pub next-wanted : (w : WantedPartition) → r ≡ Some w → w ≡ wanted_of part
  next-wanted w q = let z = read in cc

module _ (g : Shape) (n a : ℕ) (text es₀ : List ℕ) where
  -- the table es, with the partitions of the text `rest` still to come
  pub record Filling (es rest : List ℕ) : Type 0 where
    pub parts : all is_partition (parts_of rest) ≡ true
    pub left : build g n a es (map wanted_of (parts_of rest)) ≡ build g n a es₀ (wanted_in text)

  pub filling-start : is_layout text ≡ true → (rest : List ℕ) → rest ≡ behind_first text → Filling es₀ rest
  unfolding wanted_in
  filling-start t rest e =
      let r = parts-behind text ∙ ap parts_of (sym e) in
      record {
        parts = subst (λ (ps : List (List ℕ)). all is_partition ps ≡ true) r (layout-partitions text t);
        left = ap (λ (ps : List (List ℕ)). build g n a es₀ (map wanted_of ps)) (sym r);
      }

  -- at the end
  pub filling-end : (es rest : List ℕ) → Filling es rest → length rest ≡ 0 → complete es ≡ build g n a es₀ (wanted_in text)
  filling-end es rest f h =
      sym (build-nil g n a es) ∙ ap (λ (ps : List (List ℕ)). build g n a es (map wanted_of ps)) (sym (parts-nil rest h)) ∙ f.left

  -- ---- the next partition: `part`, which asks for w, with the text `behind` after it; `last`: nothing stands there

  module _ (es rest : List ℕ) (f : Filling es rest) (h : 0 < length rest) (part behind : List ℕ) (is-part : part ≡ first_part rest)
      (is-behind : behind ≡ behind_first rest) where
    next-parts : parts_of rest ≡ part ∷ parts_of behind
    next-parts = parts-next rest h ∙ ap₂ (λ (x y : List ℕ). x ∷ parts_of y) (sym is-part) (sym is-behind)

    pub next-is : is_partition part ≡ true
    next-is = and_l _ _ (sym (ap (all is_partition) next-parts) ∙ f.parts)

    next-all : all is_partition (parts_of behind) ≡ true
    next-all = and_r _ _ (sym (ap (all is_partition) next-parts) ∙ f.parts)

    module _ (last : Bool) (is-last : last ≡ eqb (length behind) 0) where
      last_is : last ≡ is_nil (map wanted_of (parts_of behind))
      last_is = is-last ∙ go (dec_lt 0 (length behind))
        where
          go : Dec (0 < length behind) → eqb (length behind) 0 ≡ is_nil (map wanted_of (parts_of behind))
          go (yes q) = ne_eqb _ 0 (λ z. omega arith) ∙ sym (ap (λ (ps : List (List ℕ)). is_nil (map wanted_of ps)) (parts-next behind q))
          go (no q) =
              eq-eqb _ 0 (omega arith) ∙ sym (ap (λ (ps : List (List ℕ)). is_nil (map wanted_of ps)) (parts-nil behind (omega arith)))

      module _ (w : WantedPartition) (is-w : w ≡ wanted_of part) where
        abbrev ws : List WantedPartition
        ws = map wanted_of (parts_of behind)

        abbrev rows : Option ℕ
        rows = refusal (part_rows g n a es w last)

        now-build : build g n a es (w ∷ ws) ≡ build g n a es₀ (wanted_in text)
        now-build =
            ap (λ (x : WantedPartition). build g n a es (x ∷ ws)) is-w
            ∙ ap (λ (ps : List (List ℕ)). build g n a es (map wanted_of ps)) (sym next-parts) ∙ f.left

        rows_are : (o : Option ℕ) → rows ≡ o → refusal (part_rows g n a es w (is_nil ws)) ≡ o
        rows_are o q = ap (λ (b : Bool). refusal (part_rows g n a es w b)) (sym last_is) ∙ q

        module _ {A : Type 0} (r : Result A Refusal) (es' : List ℕ) (q : built_by r es' ≡ unless_faulty rows (complete (with_part g n a es w last))) where
          pub filling-stop : (k : Refusal) → r ≡ Err k → faulty (number_of k) ≡ build g n a es₀ (wanted_in text)
          filling-stop k z =
              let o = part-fault rows _ (number_of k) (ap (λ (x : Result A Refusal). built_by x es') (sym z) ∙ q) in
              sym (build-stop g n a es w ws (number_of k) (rows_are (some (number_of k)) o)) ∙ now-build

          pub filling-on : (u : A) → r ≡ Ok u → Filling es' behind
          filling-on u z =
              let o = part-cases rows (with_part g n a es w last) es' (ap (λ (x : Result A Refusal). built_by x es') (sym z) ∙ q) in
              record {
                parts = next-all;
                left =
                    ap (λ (x : List ℕ). build g n a x ws) (o.1 ∙ ap (λ (b : Bool). with_part g n a es w b) last_is)
                    ∙ sym (build-on g n a es w ws (rows_are none o.0)) ∙ now-build;
              }
