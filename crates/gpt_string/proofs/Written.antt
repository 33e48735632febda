-- The outcome of building by its rows and by the table that the text makes.
use mathlib.Core.Path.{◌≡◌, refl, sym, ap, ap₂, ◌∙◌}
use mathlib.Core.Bool.{Bool, true, false, not, cond}
use mathlib.Core.Logic.{◌⊎◌, inl, inr}
use Rattle.octets.proofs.Bools.{bool_cases}
use Rattle.std.specs.Prelude.{Option as Found, None, Some, ok_or}
use mathlib.Core.List.{List, [], ◌∷◌}
use mathlib.Core.Option.{Option, none, some}
use Prim.Native.Nat.{ℕ}
use lib.ListN.{replicate}
use Rattle.octets.specs.Rows.{row, refusal}
use Rattle.octets.specs.Bytes.{zeros, is_zero}
use Rattle.octets.proofs.Rows.{pick_true, pick-false, refusal-append, refusal-first}
use Rattle.gpt_model.specs.Disk.{Shape, fresh_head, fresh_tail}
use Rattle.gpt_model.specs.Calls.{refused, accepted, outcome, unless_refused, lent_rows}
use Rattle.gpt_string_model.specs.Text.{is_layout, disk_guid_of, wanted_in}
use Rattle.gpt_string_model.specs.Build.{Built, faulty, complete, build}
use Rattle.gpt_string_model.specs.Calls.{written_disk, string_rows, table_in, build_string}
use Rattle.gpt_string_model.proofs.After.{string-is}
use Rattle.std.specs.Prelude.{Result, Ok, Err, IsErr, IsErrAnd}
use Rattle.gpt_string.specs.Answers.{build_answer}
use Rattle.gpt_build.specs.declared.Refusal.{Refusal}
use Rattle.gpt_build.specs.Answers.{number_of, built_by}

pub empty-table : (k : ℕ) → replicate k 0 ≡ zeros k
unfolding zeros
empty-table k = refl

-- the disk GUID that was read, and whether it is zero
pub guid-zero : (guid d : List ℕ) (z : Bool) → guid ≡ d → z ≡ is_zero guid → z ≡ true → is_zero d ≡ true
guid-zero guid d z p q r = ap is_zero (sym p) ∙ sym q ∙ r

pub guid-some : (guid d : List ℕ) (z : Bool) → guid ≡ d → z ≡ is_zero guid → z ≡ false → is_zero d ≡ false
guid-some guid d z p q r = ap is_zero (sym p) ∙ sym q ∙ r

-- what a `?` hands on
pub handed : {A : Type 0} (y : Result A Refusal) (r : Refusal) → IsErr y → IsErrAnd y (λ z. z ≡ r) → (h t : List ℕ)
    → outcome (build_answer y) h t ≡ outcome (refused (number_of r)) h t
handed (Ok b) r v w h t = absurd w
handed (Err z) r v w h t = ap (λ (k : Refusal). outcome (refused (number_of k)) h t) w

-- what `ok_or` answers
module _ {A E : Type 0} (e : E) where
  pub or-some : (o : Found A) (r : Result A E) → r ≡ ok_or o e → (x : A) → r ≡ Ok x → o ≡ Some x
  or-some None r p x q = cc
  or-some (Some y) r p x q = cc

  pub or-none : (o : Found A) (r : Result A E) → r ≡ ok_or o e → (z : E) → r ≡ Err z → (o ≡ None) × (z ≡ e)
  or-none None r p z q = (refl, cc)
  or-none (Some y) r p z q = cc

-- whether the text is a layout string, by the disk GUID that was read
module _ (text : List ℕ) (r : Found (List ℕ)) (e : r ≡ cond (is_layout text) (Some (disk_guid_of text)) None) where
  pub laid-by : (guid : List ℕ) → r ≡ Some guid → (is_layout text ≡ true) × (guid ≡ disk_guid_of text)
  laid-by guid q = go (bool_cases (is_layout text))
    where
      go : (is_layout text ≡ true) ⊎ (is_layout text ≡ false) → (is_layout text ≡ true) × (guid ≡ disk_guid_of text)
      go (inl l) = let z : r ≡ Some (disk_guid_of text) = rw l at e in (l, cc)
      go (inr l) = let z : r ≡ None = rw l at e in cc

  pub unlaid-by : r ≡ None → is_layout text ≡ false
  unlaid-by q = go (bool_cases (is_layout text))
    where
      go : (is_layout text ≡ true) ⊎ (is_layout text ≡ false) → is_layout text ≡ false
      go (inl l) = let z : r ≡ Some (disk_guid_of text) = rw l at e in cc
      go (inr l) = l

module _ (g : Shape) (n a : ℕ) (text h t : List ℕ) where
  refused-by-row : (k : ℕ) → refusal (string_rows g n a text h t) ≡ some k → outcome (refused k) h t ≡ build_string g n a text h t
  refused-by-row k e =
      sym (string-is g n a text h t ∙ ap (λ (o : Option ℕ). unless_refused o h t (written_disk g n (disk_guid_of text) h t (table_in g n a text h t))) e)

  pub refused-lent : (k : ℕ) → refusal (lent_rows g n h t true) ≡ some k → outcome (refused k) h t ≡ build_string g n a text h t
  refused-lent k e = refused-by-row k (refusal-first (lent_rows g n h t true) (row (not (is_layout text)) 70 ∷ row (is_zero (disk_guid_of text)) 3 ∷ []) k e)

  module _ (e : refusal (lent_rows g n h t true) ≡ none) where
    later : refusal (string_rows g n a text h t) ≡ refusal (row (not (is_layout text)) 70 ∷ row (is_zero (disk_guid_of text)) 3 ∷ [])
    later = refusal-append (lent_rows g n h t true) (row (not (is_layout text)) 70 ∷ row (is_zero (disk_guid_of text)) 3 ∷ []) e

    pub refused-form : is_layout text ≡ false → outcome (refused 70) h t ≡ build_string g n a text h t
    refused-form q = refused-by-row 70 (later ∙ pick_true _ 70 _ (ap not q))

    module _ (l : is_layout text ≡ true) where
      pub refused-guid : is_zero (disk_guid_of text) ≡ true → outcome (refused 3) h t ≡ build_string g n a text h t
      refused-guid z = refused-by-row 3 (later ∙ pick-false _ 70 _ (ap not l) ∙ pick_true _ 3 _ z)

      module _ (z : is_zero (disk_guid_of text) ≡ false) where
        by-table : (b : Built) → table_in g n a text h t ≡ b → written_disk g n (disk_guid_of text) h t b ≡ build_string g n a text h t
        by-table b q =
            sym (string-is g n a text h t
            ∙ ap₂ (λ (o : Option ℕ) (x : Built). unless_refused o h t (written_disk g n (disk_guid_of text) h t x))
            (later ∙ pick-false _ 70 _ (ap not l) ∙ pick-false _ 3 _ z) q)

        module _ (table : List ℕ) (is : table ≡ zeros 16384) {A : Type 0} (r : Result A Refusal) (es : List ℕ) (q : built_by r es ≡ build g n a table (wanted_in text)) where
          table_is : table_in g n a text h t ≡ built_by r es
          table_is = ap (λ (x : List ℕ). build g n a x (wanted_in text)) (sym is) ∙ sym q

          pub refused-part : (k : Refusal) → r ≡ Err k → outcome (refused (number_of k)) h t ≡ build_string g n a text h t
          refused-part k p = by-table (faulty (number_of k)) (table_is ∙ ap (λ (x : Result A Refusal). built_by x es) p)

          pub written_all : (u : A) → r ≡ Ok u → (guid : List ℕ) → guid ≡ disk_guid_of text → (h' t' : List ℕ) → h' ≡ fresh_head g n guid es
              → t' ≡ fresh_tail g n guid es
              → outcome (accepted []) h' t' ≡ build_string g n a text h t
          written_all u p guid d h' t' x y =
              ap₂ (outcome (accepted [])) (x ∙ ap (λ (v : List ℕ). fresh_head g n v es) d) (y ∙ ap (λ (v : List ℕ). fresh_tail g n v es) d)
              ∙ by-table (complete es) (table_is ∙ ap (λ (x : Result A Refusal). built_by x es) p)
