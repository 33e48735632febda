-- The claims of specs/Claims.antt, proved.
use mathlib.Core.Path.{◌≡◌, refl, sym, ap, ◌∙◌}
use mathlib.Core.Bool.{true}
use mathlib.Core.List.{List, ◌++◌, map, reverse}
use mathlib.Core.Option.{Option, none, some}
use Prim.Native.Nat.{ℕ}
use native.Mathlib.Omega.{arith}
use lib.ListN.{length, drop}
use borrow.Author.Tests.{eqb-true, eq-eqb}
use Rattle.octets.specs.Ascii.{ascii}
use Rattle.octets.specs.Bytes.{part, rest, put, same}
use Rattle.octets.specs.Rows.{refusal}
use Rattle.octets.specs.Tests.{all}
use Rattle.octets.proofs.Bools.{and_i, or-false-l, not_f, some-none}
use Rattle.octets.proofs.Equal.{same_refl}
use Rattle.octets.proofs.Puts.{put_all}
use Rattle.octets.proofs.Rows.{passes}
use Rattle.octets.proofs.Tests.{all_append, all_take, all_drop, all-reverse}
use Rattle.guid.specs.Hex.{is_hex_digit, bytes_of, digits_of, upper}
use Rattle.guid.specs.Text.{digits_in, is_guid_text, grouped, reordered, stored_of, text_of}
use Rattle.guid.specs.Calls.{unless_refused, read_text_rows, read_of, write_rows, write_of}
use Rattle.guid.specs.Claims.{are_bytes, WrittenReadsBack, ReadWritesUpper, RefusedStays}
use Rattle.guid.proofs.Hex.{length_digits, digits_are, bytes-digits, length-bytes, digits-bytes}
use Rattle.guid.proofs.Text.{length-reordered, reordered-twice, digits-grouped, dashes-grouped, length-grouped, upper-grouped, length-digits_in}
use Rattle.guid.proofs.Text.{grouped-digits}
use Rattle.guid.proofs.Calls.{text-length, text-dashes, text-all, length-stored, length-text, read_done, write_done}

-- ---- the text of bytes is read back

bytes-group : (g : List ℕ) → are_bytes g ≡ true → (at k : ℕ) → are_bytes (reverse (part at k g)) ≡ true
unfolding part
bytes-group g e at k = all-reverse _ (part at k g) (all_take _ k (drop at g) (all_drop _ at g e))

bytes-reordered : (g : List ℕ) → are_bytes g ≡ true → are_bytes (reordered g) ≡ true
unfolding reordered part rest
bytes-reordered g e =
    let a = reverse (part 0 4 g) in
    let b = reverse (part 4 2 g) in
    let c = reverse (part 6 2 g) in
    all_append _ (a ++ b ++ c) (rest 8 g)
    (all_append _ (a ++ b) c (all_append _ a b (bytes-group g e 0 4) (bytes-group g e 4 2)) (bytes-group g e 6 2))
    (all_drop _ 8 g e)

module _ (g : List ℕ) (l : length g ≡ 16) (e : are_bytes g ≡ true) where
  digits-32 : length (digits_of (reordered g)) ≡ 32
  digits-32 = let n = length-reordered g l in length_digits (reordered g) ∙ omega arith

  pub text-is : is_guid_text (text_of g) ≡ true
  unfolding is_guid_text text_of
  text-is =
      let ds = digits_of (reordered g) in
      and_i _ _ (eq-eqb (length (grouped ds)) 36 (length-grouped ds digits-32))
      (and_i _ _ (ap (λ (xs : List ℕ). same xs (ascii "----")) (dashes-grouped ds digits-32) ∙ same_refl (ascii "----"))
      (ap (all is_hex_digit) (digits-grouped ds digits-32) ∙ digits_are (reordered g) (bytes-reordered g e)))

  pub stored-text : stored_of (text_of g) ≡ g
  unfolding stored_of text_of
  stored-text =
      ap (λ (xs : List ℕ). reordered (bytes_of xs)) (digits-grouped (digits_of (reordered g)) digits-32)
      ∙ ap reordered (bytes-digits (reordered g) (bytes-reordered g e))
      ∙ reordered-twice g l

-- ---- the bytes of a text are written in upper case

pub text-stored : (t : List ℕ) → is_guid_text t ≡ true → text_of (stored_of t) ≡ map upper t
unfolding text_of stored_of
text-stored t e =
    let l = text-length t e in
    let n = length-digits_in t l in
    ap (λ (xs : List ℕ). grouped (digits_of xs)) (reordered-twice (bytes_of (digits_in t)) (length-bytes 16 (digits_in t) n))
    ∙ ap grouped (digits-bytes 16 (digits_in t) n (text-all t e))
    ∙ sym (upper-grouped (digits_in t) n)
    ∙ ap (map upper) (grouped-digits t l (text-dashes t e))

-- ---- an accepted call

number_is : (r : Option ℕ) (new old : List ℕ) → (unless_refused r new old).number ≡ r
unfolding unless_refused
number_is none new old = refl
number_is (some k) new old = refl

buffer-is : (r : Option ℕ) (new old : List ℕ) → r ≡ none → (unless_refused r new old).buffer ≡ new
unfolding unless_refused
buffer-is none new old e = refl
buffer-is (some k) new old e = absurd (some-none e)

module _ (t g : List ℕ) (e : (read_of t g).number ≡ none) where
  pub read-rows : refusal (read_text_rows t g) ≡ none
  unfolding read_of
  read-rows = sym (number_is (refusal (read_text_rows t g)) (stored_of t) g) ∙ e

  pub read-is-text : is_guid_text t ≡ true
  read-is-text = not_f _ (passes 30 (read_text_rows t g) read-rows)

  pub read-buffer : (read_of t g).buffer ≡ stored_of t
  unfolding read_of
  read-buffer = buffer-is (refusal (read_text_rows t g)) (stored_of t) g read-rows

module _ (g t : List ℕ) (e : (write_of g t).number ≡ none) where
  pub write-rows : refusal (write_rows g t) ≡ none
  unfolding write_of
  write-rows = sym (number_is (refusal (write_rows g t)) (text_of g) t) ∙ e

  pub write-length : length g ≡ 16
  write-length = eqb-true (length g) 16 (not_f _ (or-false-l _ _ (passes 1 (write_rows g t) write-rows)))

  pub write-buffer : (write_of g t).buffer ≡ text_of g
  unfolding write_of
  write-buffer = buffer-is (refusal (write_rows g t)) (text_of g) t write-rows

-- ---- the claims

stays : (r : Option ℕ) (new old : List ℕ) (k : ℕ) → (unless_refused r new old).number ≡ some k → (unless_refused r new old).buffer ≡ old
unfolding unless_refused
stays none new old k e = absurd (some-none (sym e))
stays (some j) new old k e = refl

pub refused-stays : RefusedStays
unfolding read_of write_of
refused-stays text guid k = (stays (refusal (read_text_rows text guid)) (stored_of text) guid k, stays (refusal (write_rows guid text)) (text_of guid) text k)

pub written-reads-back : WrittenReadsBack
written-reads-back guid text buffer b e n =
    let l = write-length guid text e in
    ap (λ (t : List ℕ). read_of t buffer) (write-buffer guid text e)
    ∙ sym
    (read_done (text_of guid) buffer guid n (text-is guid l b)
    (sym (put_all guid buffer (l ∙ sym n)) ∙ ap (λ (v : List ℕ). put 0 v buffer) (sym (stored-text guid l b))))

pub read-writes-upper : ReadWritesUpper
read-writes-upper text guid buffer e n =
    let t = read-is-text text guid e in
    let l = length-stored text t in
    ap (λ (g : List ℕ). write_of g buffer) (read-buffer text guid e)
    ∙ sym
    (write_done (stored_of text) buffer (map upper text) l n
    (sym (text-stored text t) ∙ sym (put_all (text_of (stored_of text)) buffer (length-text (stored_of text) l ∙ sym n))))
