use mathlib.Core.Path.{◌≡◌}
use borrow.Author.Rules.{rules}
use Rattle.std.specs.Prelude.{Some, unwrap_or}
use Rattle.octets.specs.Ascii.{ascii}
use Rattle.gpt_string_model.specs.Text.{type_named}
use Rattle.gpt_string_text.specs.Invariants.{wanted_from}
use Rattle.gpt_string_text.proofs.Taken.{data-kind}
use Rattle.gpt_string_text.proofs.fields.Fields.wanted.Goals as goal

pub returns-in_err-self : goal.returns-in_err-self
unfolding wanted_from
returns-in_err-self c = search rules

pub returns-in_err-self-2 : goal.returns-in_err-self-2
unfolding wanted_from
returns-in_err-self-2 c = search rules

pub returns-in_err-self-3 : goal.returns-in_err-self-3
unfolding wanted_from
returns-in_err-self-3 c = search rules

pub returns-in_err-or_else : goal.returns-in_err-or_else
unfolding wanted_from
returns-in_err-or_else c =
    let k : c.or_else.result ≡ Some (unwrap_or c.args.self.kind (type_named (ascii "data"))) = search (rules, data-kind) in
    search rules

pub returns : goal.returns
unfolding wanted_from
returns c =
    let k : c.or_else.result ≡ Some (unwrap_or c.args.self.kind (type_named (ascii "data"))) = search (rules, data-kind) in
    search rules
