use mathlib.Core.Path.{sym, ap, ◌∙◌}
use mathlib.Core.List.{[]}
use Prim.Native.Nat.{ℕ}
use lib.ListN.{get_or}
use native.Mathlib.Omega.{arith}
use borrow.Author.Count.{below_more}
use Rattle.octets.proofs.Bools.{not_t, not_f}
use Rattle.gpt_table.specs.Invariants.{Whole}
use Rattle.gpt_table.proofs.Used.{decoding-as, decoding-skip, decoding-more, decoding-end}
use Rattle.gpt_table.proofs.Entries.{length-without, used-in, wanted_is}
use Rattle.gpt_table.proofs.decode.Goals as goal
use Rattle.gpt_table.proofs.decode.Goals.{then-wanted, else-wanted}

pub loop-i-preserved : goal.loop-i-preserved
loop-i-preserved g c =
    let a = c.args in
    let l = c.loop-i in
    let t = a.t.now in
    let here = wanted_is t l.i (omega arith) a.but in
    let long = length-without a.but t ∙ c.told-t in
    let whole = below_more (λ (k : ℕ). Whole (get_or t k [])) l.i l.invariant.1 c.wanted.ensures.1 in
    elim c.if-wanted.branch [
      | then-wanted w ↦
          let u = not_t _ (sym here ∙ sym c.wanted.ensures.0 ∙ w.if-wanted.true) in
          let e = used-in t l.i (omega arith) a.but u in
          (decoding-as w.items-is w.n-is (decoding-more long (omega arith) l.invariant.0 u (w.from_entry.ensures ∙ ap g.T.FromEntry.meaning (sym e))), whole)
      | else-wanted w ↦ (
        decoding-as w.items-is w.n-is
            (decoding-skip long (omega arith) l.invariant.0 (not_f _ (sym here ∙ sym c.wanted.ensures.0 ∙ w.if-wanted.false))),
        whole,
      )
    ]

pub returns : goal.returns
returns g c =
    let a = c.args in
    let l = c.loop-i in
    let size = length-without a.but a.t.now in
    decoding-end (size ∙ c.told-t) (omega arith)
    (λ k h u. rw (used-in a.t.now k (omega arith) a.but u) (l.invariant.1 k (omega arith))) l.invariant.0
