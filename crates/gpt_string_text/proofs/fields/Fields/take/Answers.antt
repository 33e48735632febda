use mathlib.Core.Path.{◌≡◌, sym, ap, ◌∙◌}
use mathlib.Core.Bool.{false}
use Rattle.octets.specs.Ascii.{ascii}
use Rattle.octets.specs.Tests.{◌and◌}
use Rattle.octets.specs.Bytes.{same}
use Rattle.octets.proofs.Equal.{same_true}
use Rattle.guid.specs.Text.{stored_of}
use Rattle.std.specs.Prelude.{unwrap_or}
use Rattle.gpt_string_model.proofs.Asked.{no_field}
use Rattle.gpt_string_model.specs.Text.{key_of, has_key, byte_count, name_units, type_named}
use Rattle.gpt_string_text.specs.Invariants.{fields_in}
use Rattle.gpt_string_text.specs.declared.fields.Fields.{Fields}
use Rattle.gpt_string_text.proofs.Taken.{taken, not-taken, name-offered, size-offered, uuid-offered, start-offered, type-offered, bootable-offered}
use Rattle.gpt_string_text.proofs.fields.Fields.take.Goals as goal

pub returns-then-same : goal.returns-then-same
unfolding fields_in same ◌and◌
returns-then-same c fs e =
    let f = c.args.field.now in
    let q : key_of f ≡ ascii "name=" = sym c.keyed.ensures.key ∙ same_true _ _ (sym c.same.ensures ∙ c.if-same.true) in
    taken fs f _ q name_units _ _ _ _ _ (ap (λ (x : Fields). x.name) e) (c.name_in.ensures ∙ name-offered f _ c.keyed.ensures.value q)
    c.set_once.ensures.given c.set_once.ensures.set (λ s. rw (e, s))

pub returns-then-same-2 : goal.returns-then-same-2
unfolding fields_in same ◌and◌
returns-then-same-2 c fs e =
    let f = c.args.field.now in
    let q : key_of f ≡ ascii "size=" = sym c.keyed.ensures.key ∙ same_true _ _ (sym c.same-else-same.ensures ∙ c.if-same-2.true) in
    taken fs f _ q (λ v. unwrap_or (byte_count v) 0) _ _ _ _ _ (ap (λ (x : Fields). x.size) e) (c.byte_count.ensures ∙ size-offered f _ c.keyed.ensures.value q)
    c.set_once-then-same-2.ensures.given c.set_once-then-same-2.ensures.set (λ s. rw (e, s))

pub returns-then-same-3 : goal.returns-then-same-3
unfolding fields_in same ◌and◌
returns-then-same-3 c fs e =
    let f = c.args.field.now in
    let q : key_of f ≡ ascii "uuid=" = sym c.keyed.ensures.key ∙ same_true _ _ (sym c.same-else-same-2.ensures ∙ c.if-same-3.true) in
    taken fs f _ q stored_of _ _ _ _ _ (ap (λ (x : Fields). x.unique) e) (c.guid_in.ensures ∙ uuid-offered f _ c.keyed.ensures.value q)
    c.set_once-then-same-3.ensures.given c.set_once-then-same-3.ensures.set (λ s. rw (e, s))

pub returns-then-same-4 : goal.returns-then-same-4
unfolding fields_in same ◌and◌
returns-then-same-4 c fs e =
    let f = c.args.field.now in
    let q : key_of f ≡ ascii "start=" = sym c.keyed.ensures.key ∙ same_true _ _ (sym c.same-else-same-3.ensures ∙ c.if-same-4.true) in
    taken fs f _ q (λ v. unwrap_or (byte_count v) 0) _ _ _ _ _ (ap (λ (x : Fields). x.start) e) (c.byte_count-then-same-4.ensures ∙ start-offered f _ c.keyed.ensures.value q)
    c.set_once-then-same-4.ensures.given c.set_once-then-same-4.ensures.set (λ s. rw (e, s))

pub returns-then-same-5 : goal.returns-then-same-5
unfolding fields_in same ◌and◌
returns-then-same-5 c fs e =
    let f = c.args.field.now in
    let q : key_of f ≡ ascii "type=" = sym c.keyed.ensures.key ∙ same_true _ _ (sym c.same-else-same-4.ensures ∙ c.if-same-5.true) in
    taken fs f _ q type_named _ _ _ _ _ (ap (λ (x : Fields). x.kind) e) (c.type_in.ensures ∙ type-offered f _ c.keyed.ensures.value q)
    c.set_once-then-same-5.ensures.given c.set_once-then-same-5.ensures.set (λ s. rw (e, s))

pub returns-then-same-6 : goal.returns-then-same-6
unfolding fields_in same ◌and◌
returns-then-same-6 c fs e =
    let f = c.args.field.now in
    let q : key_of f ≡ ascii "bootable" = sym c.keyed.ensures.key ∙ same_true _ _ (sym c.same-else-same-5.ensures ∙ c.if-same-6.true) in
    taken fs f _ q (λ v. 4) _ _ _ _ _ (ap (λ (x : Fields). x.attributes) e) (bootable-offered f q)
    c.set_once-then-same-6.ensures.given c.set_once-then-same-6.ensures.set (λ s. rw (e, s))

pub returns-else-same-6 : goal.returns-else-same-6
returns-else-same-6 c fs e =
    let f = c.args.field.now in
    let n : has_key (ascii "name=") f ≡ false = rw c.keyed.ensures.key at (sym c.same.ensures ∙ c.if-same.false) in
    let s : has_key (ascii "size=") f ≡ false = rw c.keyed.ensures.key at (sym c.same-else-same.ensures ∙ c.if-same-2.false) in
    let u : has_key (ascii "uuid=") f ≡ false = rw c.keyed.ensures.key at (sym c.same-else-same-2.ensures ∙ c.if-same-3.false) in
    let a : has_key (ascii "start=") f ≡ false = rw c.keyed.ensures.key at (sym c.same-else-same-3.ensures ∙ c.if-same-4.false) in
    let t : has_key (ascii "type=") f ≡ false = rw c.keyed.ensures.key at (sym c.same-else-same-4.ensures ∙ c.if-same-5.false) in
    let b : has_key (ascii "bootable") f ≡ false = rw c.keyed.ensures.key at (sym c.same-else-same-5.ensures ∙ c.if-same-6.false) in
    not-taken fs f (no_field f n s u a t b)
