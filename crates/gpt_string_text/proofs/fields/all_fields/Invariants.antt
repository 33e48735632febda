use mathlib.Core.Path.{◌≡◌}
use mathlib.Core.Bool.{true}
use mathlib.Core.List.{map}
use Rattle.gpt_string_model.proofs.Reading.{are_once}
use Rattle.gpt_string_text.specs.Invariants.{fields_in}
use Rattle.gpt_string_text.proofs.fields.all_fields.Given as goal

abbrev pub invariant-loop-field : goal.invariant-loop-field
invariant-loop-field l = record {
  once : are_once (map (λ x. x.now) l.yielded) ≡ true;
  says : l.fields ≡ fields_in (map (λ x. x.now) l.yielded);
}
