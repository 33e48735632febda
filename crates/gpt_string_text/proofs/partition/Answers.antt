use mathlib.Core.Path.{◌≡◌, sym, ◌∙◌}
use borrow.Author.Rules.{rules}
use Rattle.std.specs.Prelude.{None}
use Rattle.gpt_string_text.proofs.Taken.{not-read, read-wanted}
use Rattle.gpt_string_text.proofs.partition.Goals as goal

pub returns-in_err-all_fields : goal.returns-in_err-all_fields
returns-in_err-all_fields c =
    let none : c.from_residual.result ≡ None = search rules in
    none ∙ not-read c.args.p.now (sym c.all_fields.ensures ∙ c.in_err-all_fields.was)

pub returns : goal.returns
returns c = c.wanted.ensures ∙ read-wanted c.args.p.now _ (sym c.all_fields.ensures ∙ c.in_ok-all_fields.was)
