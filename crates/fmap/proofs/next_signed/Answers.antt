use Rattle.std.proofs.Common.{rules, arith, sym, ◌∙◌, length}
use Rattle.fmap.specs.Find.{signed_at}
use Rattle.fmap.proofs.Lowest.{first_step, first-skip, first-stop, first-none}
use Rattle.fmap.proofs.Finding.{signed-short, signed-slice, unsigned}
use Rattle.fmap.proofs.next_signed.Goals as goal

pub returns-then-is_signed : goal.returns-then-is_signed
returns-then-is_signed c =
    let s = c.args.image.now in
    let i = c.loop-i.i in
    record {
      next = sym (c.loop-i.invariant.1
          ∙ first-stop (length s) i (signed_at s) (omega arith) (signed-slice s i _ _ c.is_signed.ensures c.if-is_signed.true));
      within = omega arith;
    }

pub loop-i-preserved-then-is_letter : goal.loop-i-preserved-then-is_letter
loop-i-preserved-then-is_letter c =
    let s = c.args.image.now in
    let i = c.loop-i.i in (
      omega arith,
      c.loop-i.invariant.1
          ∙ first_step (length s) i (signed_at s) (omega arith) (signed-slice s i _ _ c.is_signed.ensures c.if-is_signed.false),
    )

pub loop-i-preserved : goal.loop-i-preserved
loop-i-preserved c =
    let s = c.args.image.now in
    let i = c.loop-i.i in (
      omega arith,
      c.loop-i.invariant.1 ∙ first-skip 8 (length s) i (signed_at s) (omega arith)
          (λ j a b. unsigned s i j (sym c.is_letter.ensures ∙ c.if-is_letter.false) a b),
    )

pub returns : goal.returns
returns c =
    let s = c.args.image.now in
    let i = c.loop-i.i in
    record {
      next = sym (c.loop-i.invariant.1 ∙ first-none (length s) i (signed_at s) (omega arith) (λ j a b. signed-short s j (omega arith)));
      within = search rules;
    }
