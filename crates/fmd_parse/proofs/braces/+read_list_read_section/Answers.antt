use mathlib.Core.Path.{sym, ◌∙◌}
use native.Mathlib.Omega.{arith}
use borrow.Author.Rules.{rules}
use Rattle.fmd_lex.proofs.Tokens.{earlier}
use Rattle.fmd_parse.proofs.Parents.{head-parent}
use Rattle.fmd_parse.proofs.Layouts.{section-stopped, section-shut, section-open, list-stopped, here, list-closed, list-more}
use Rattle.fmd_parse.proofs.braces.+read_list_read_section.Goals as goal

pub read_list-returns-in_err-k : goal.read_list-returns-in_err-k
read_list-returns-in_err-k t c = c.sections.invariant.4 _ _ (list-stopped c.read_section.ensures c.in_err-k.was (search rules))

pub read_list-returns-then-is : goal.read_list-returns-then-is
read_list-returns-then-is t c =
    c.sections.invariant.4 _ _
    (list-closed c.read_section.ensures c.in_ok-k.was (sym c.is.ensures ∙ c.if-is.true) c.next_token.ensures.value c.next_token.ensures.within)

pub read_list-sections-preserved : goal.read_list-sections-preserved
read_list-sections-preserved t c =
    let w = here c.read_section.ensures c.in_ok-k.was in
    let v = c.sections.invariant in (
      earlier w.0 (omega arith),
      omega arith,
      w.1,
      w.2,
      λ after r g. v.4 after r (list-more c.read_section.ensures c.in_ok-k.was (sym c.is.ensures ∙ c.if-is.false) g),
    )

pub read_section-returns-in_err-h : goal.read_section-returns-in_err-h
read_section-returns-in_err-h t c = section-stopped _ _ (sym c.head_at.ensures.value ∙ c.in_err-h.was) (search rules)

pub read_section-push-requires : goal.read_section-push-requires
read_section-push-requires t c =
    let w = c.in_ok-h.ensures.within in
    let e = head-parent _ _ _ _ _ (sym c.head_at.ensures.value ∙ c.in_ok-h.was) in
    (c.requires.2, w.2, rw e c.requires.3, c.requires.4)

pub read_section-returns-then-not-is : goal.read_section-returns-then-not-is
read_section-returns-then-not-is t c =
    section-shut _ _ _ (sym c.head_at.ensures.value ∙ c.in_ok-h.was) c.in_ok-h.ensures.within.0 c.push.ensures.0 c.requires.3
    c.push.ensures.1 (sym c.is.ensures ∙ c.if-not-is.true)

pub read_section-returns : goal.read_section-returns
read_section-returns t c =
    let w = c.in_ok-h.ensures.within in
    section-open _ _ _ (sym c.head_at.ensures.value ∙ c.in_ok-h.was) w.0 c.push.ensures.0 (sym c.is.ensures ∙ c.if-not-is.false)
    c.next_token-v.ensures.value c.next_token-v.ensures.within c.read_list.ensures w.2 c.requires.3
