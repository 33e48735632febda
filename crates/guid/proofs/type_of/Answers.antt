use Rattle.std.proofs.Common.{◌≡◌, sym, ap, ◌∙◌, Option, Some, None, MatchOption, List, ℕ}
use Rattle.std.specs.Bool.{then_some}
use Rattle.std.specs.Option.{option_or}
use Rattle.guid.specs.Text.{is_guid_text, stored_of}
use Rattle.guid.specs.Types.{expand}
use Rattle.guid.proofs.Table.{type_read}
use Rattle.guid.proofs.type_of.Goals as goal

-- the bytes of a short name, or else those of the text
either : (t : List ℕ) (o r : Option (List ℕ)) → r ≡ then_some (is_guid_text t) (stored_of t)
    → MatchOption o (expand t ≡ t) (λ x. Some x ≡ then_some (is_guid_text (expand t)) (stored_of (expand t)))
    → option_or o r ≡ then_some (is_guid_text (expand t)) (stored_of (expand t))
either t None r e h = e ∙ ap (λ (u : List ℕ). then_some (is_guid_text u) (stored_of u)) (sym h)
either t (Some x) r e h = h

pub returns : goal.returns
returns c =
    c.or.ensures ∙ either c.args.text.now c.short_type.result c.stored_of.result c.stored_of.ensures (type_read c.args.text.now c.short_type.ensures)
