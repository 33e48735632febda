use borrow.Author.Rules.{rules}
use Rattle.gpt_calls.proofs.Found.{found-lent, repaired-is, repaired-tail}
use mathlib.Core.Path.{sym}
use Rattle.gpt_model.specs.Calls.{repair}
use Rattle.gpt_calls.proofs.Found.{answer-refused}
use Rattle.gpt_calls.proofs.Refusals.{stops}
use Rattle.gpt_calls.proofs.repair.Goals as goal

pub returns-in_err-found : goal.returns-in_err-found
returns-in_err-found c =
    let a = c.args in
    stops a.shape a.n a.head.now a.tail.now _ repair _ _ c.from_residual.ensures (sym (answer-refused a.shape a.n a.head.now a.tail.now _ c.in_err-found.ensures))

pub invariant_of-disk : goal.invariant_of-disk
invariant_of-disk c =
    let a = c.args in
    record { fits = record { legal = search rules; least = (found-lent a.shape a.n a.head.now a.tail.now _ c.in_ok-found.ensures).least } }

pub invariant_of-disk-in-BackupOnly : goal.invariant_of-disk-in-BackupOnly
invariant_of-disk-in-BackupOnly c =
    let a = c.args in
    record { fits = record { legal = search rules; least = (found-lent a.shape a.n a.head.now a.tail.now _ c.in_ok-found.ensures).least } }

pub repair-requires : goal.repair-requires
repair-requires c =
    let a = c.args in
    let f = found-lent a.shape a.n a.head.now a.tail.now _ c.in_ok-found.ensures in
    (f.tail, f.head)

pub repair-requires-in-BackupOnly : goal.repair-requires-in-BackupOnly
repair-requires-in-BackupOnly c =
    let a = c.args in
    let f = found-lent a.shape a.n a.head.now a.tail.now _ c.in_ok-found.ensures in
    (f.head, f.tail)

pub returns-in-Both : goal.returns-in-Both
returns-in-Both c =
    let a = c.args in
    rw c.in-Both.is (rw c.in-Both.is at (repaired-is a.shape a.n a.head.now a.tail.now _ c.in_ok-found.ensures))

pub returns-in-Differ : goal.returns-in-Differ
returns-in-Differ c =
    let a = c.args in
    repaired-tail a.shape a.n a.head.now a.tail.now _ c.in_ok-found.ensures c.in-Differ.is c.repair.ensures

pub returns-in-BackupOnly : goal.returns-in-BackupOnly
returns-in-BackupOnly c =
    let a = c.args in
    rw (c.repair-in-BackupOnly.ensures, c.in-BackupOnly.is) (rw c.in-BackupOnly.is at (repaired-is a.shape a.n a.head.now a.tail.now _ c.in_ok-found.ensures))
