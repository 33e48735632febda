-- W15: When an answer is an enum, a definition states this paper's number and values for each enum case. Definitions only.
use Rattle.std.specs.Prelude.{[], Result, Ok, Err}
use Rattle.gpt_model.specs.Calls.{Answer as DiskAnswer, refused, accepted}
use Rattle.gpt_build.specs.Answers.{number_of}
use Rattle.gpt_build.specs.declared.Refusal.{Refusal}

-- R3: other writers only that they accepted
abbrev pub build_answer : {A : Type 0} → Result A Refusal → DiskAnswer
build_answer (Ok u) = accepted []
build_answer (Err r) = refused (number_of r)
