-- The first used slot that offends, by its place among a table's entries.
use Rattle.std.proofs.Common.{◌≡◌, ◌∙◌, sym, ap, ℕ, suc, ◌+◌, Bool, cond, List, Option, Some, None, is_some, unwrap_or, option_map, position, add-one, refl}
use Rattle.octets.specs.Tests.{any, find_ix}
use Rattle.gpt_model.specs.Table.{entries}
use Rattle.gpt_model.specs.Attributes.{used_offends, first_offending}
use Rattle.gpt_model.specs.declared.Rule.{Rule}
use Rattle.gpt_table.proofs.Entries.{some-place, place-found}

module _ (rule : Rule) where
  placed : (xs : List (List ℕ)) (o : Option ℕ) → position (used_offends rule) xs ≡ o
      → unwrap_or (option_map (λ i. i + 1) o) 0 ≡ cond (any (used_offends rule) xs) (suc (find_ix (used_offends rule) xs)) 0
  placed xs None q =
      ap (λ (b : Bool). cond b (suc (find_ix (used_offends rule) xs)) 0) (sym (sym (some-place (used_offends rule) xs) ∙ ap is_some q))
  placed xs (Some i) q =
      add-one i ∙ ap suc (place-found (used_offends rule) xs i q)
      ∙ ap (λ (b : Bool). cond b (suc (find_ix (used_offends rule) xs)) 0) (sym (sym (some-place (used_offends rule) xs) ∙ ap is_some q))

  -- over a table's bytes es, whose entries are t
  pub first-is : (es : List ℕ) {t : List (List ℕ)} {o : Option ℕ} → t ≡ entries es → o ≡ option_map (λ i. i + 1) (position (used_offends rule) t)
      → unwrap_or o 0 ≡ first_offending rule es
  unfolding first_offending
  first-is es e q = rw (q, e) (placed (entries es) _ refl)
