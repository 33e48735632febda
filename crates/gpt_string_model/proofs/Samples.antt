-- The samples of specs/Samples, computed.
use mathlib.Core.Path.{◌≡◌, refl, ap, ◌∙◌}
use mathlib.Core.Bool.{Bool, true, false, not, false≢true}
use mathlib.Core.List.{[]}
use mathlib.Core.Option.{Option, none}
use Prim.Native.Nat.{ℕ}
use borrow.Author.Tests.{eq-eqb}
use Rattle.octets.specs.Tests.{◌and◌, ◌or◌}
use Rattle.octets.specs.Rows.{pick_row, refusal}
use Rattle.octets.specs.Bytes.{le, unle, part, rest, put, zeros, is_zero, same, chunks, put_chunk}
use Rattle.octets.proofs.Bools.{and_i}
use Rattle.octets.proofs.Rows.{pick-false}
use Rattle.guid.specs.Hex.{hex_value, bytes_of}
use Rattle.guid.specs.Text.{digits_in, dashes_in, is_guid_text, reordered, stored_of}
use Rattle.guid.specs.Types.{short_at, expand}
use Rattle.text_words.specs.Classes.{digit_of}
use Rattle.text_words.specs.Numerals.{up_to, digits_from, some_digits}
use Rattle.gpt_model.specs.Table.{unused, range_of}
use Rattle.gpt_model.specs.Disk.{disk512, in_range}
use Rattle.gpt_model.specs.Ranges.{block_in, all_from, room_at, lowest_from, lowest_start, run_from}
use Rattle.gpt_model.specs.Attributes.{offends}
use Rattle.gpt_model.specs.Calls.{accepted, unless_refused}
use Rattle.gpt_string_model.specs.Text.{split, key_of, field_value, factor_in, byte_count, is_partition_name, is_field, are_fields, is_partition, value_in}
use Rattle.gpt_string_model.specs.Text.{wanted_by, wanted_of, is_layout, disk_guid_of, wanted_in}
use Rattle.gpt_string_model.specs.Build.{Built, faulty, complete, build, grants}
use Rattle.gpt_string_model.specs.Calls.{written_disk, string_rows, build_string}
use Rattle.gpt_string_model.specs.Samples.{TextsTaken, TextsRefused, TextAsks, TextGrants, PartsRefused, PartsAligned, sample_text, SampleAccepted}

pub texts_taken : TextsTaken
unfolding split key_of field_value some_digits digits_from up_to digit_of factor_in byte_count is_partition_name is_field are_fields is_partition is_layout
    same part rest ◌and◌ ◌or◌ hex_value digits_in dashes_in is_guid_text short_at expand
texts_taken = refl

pub texts_refused : TextsRefused
unfolding split key_of field_value some_digits digits_from up_to digit_of factor_in byte_count is_partition_name is_field are_fields is_partition is_layout
    same part rest ◌and◌ ◌or◌ hex_value digits_in dashes_in is_guid_text short_at expand
texts_refused = refl

pub text_asks : TextAsks
unfolding split key_of field_value some_digits digits_from up_to digit_of factor_in byte_count value_in wanted_by wanted_of wanted_in same part rest zeros
    ◌and◌ ◌or◌ hex_value bytes_of digits_in reordered stored_of short_at expand
text_asks = refl

pub text_grants : TextGrants
unfolding grants split key_of field_value some_digits digits_from up_to digit_of factor_in byte_count value_in wanted_by wanted_of wanted_in same part rest
    zeros ◌and◌ ◌or◌ hex_value bytes_of digits_in reordered stored_of short_at expand unused range_of chunks put_chunk le unle put block_in all_from
    lowest_from room_at lowest_start run_from offends
text_grants = refl

pub parts_refused : PartsRefused
unfolding build pick_row split key_of field_value some_digits digits_from up_to digit_of factor_in byte_count value_in wanted_by wanted_of wanted_in same
    part rest zeros ◌and◌ ◌or◌ hex_value bytes_of digits_in reordered stored_of short_at expand unused range_of chunks put_chunk le unle put block_in
    all_from lowest_from room_at lowest_start run_from offends
parts_refused = refl

pub parts_aligned : PartsAligned
unfolding build pick_row split key_of field_value some_digits digits_from up_to digit_of factor_in byte_count value_in wanted_by wanted_of wanted_in same
    part rest zeros ◌and◌ ◌or◌ hex_value bytes_of digits_in reordered stored_of short_at expand unused range_of chunks put_chunk le unle put block_in
    all_from lowest_from room_at lowest_start run_from offends
parts_aligned = refl

-- ---- a string that is accepted

abbrev is_complete : Built → Bool
is_complete (faulty k) = false
is_complete (complete es) = true

sample-built : is_complete (build disk512 200 1 (zeros 16384) (wanted_in sample_text)) ≡ true
unfolding build pick_row split key_of field_value some_digits digits_from up_to digit_of factor_in byte_count value_in wanted_by wanted_of wanted_in same
    part rest zeros ◌and◌ ◌or◌ hex_value bytes_of digits_in reordered stored_of short_at expand unused range_of chunks put_chunk le unle put block_in
    all_from lowest_from room_at lowest_start run_from offends
sample-built = refl

sample-text : (is_layout sample_text ≡ true) × (is_zero (disk_guid_of sample_text) ≡ false)
unfolding split key_of field_value some_digits digits_from up_to digit_of factor_in byte_count is_partition_name is_field are_fields is_partition is_layout
    same part rest ◌and◌ ◌or◌ hex_value digits_in dashes_in is_guid_text short_at expand bytes_of reordered stored_of disk_guid_of
sample-text = (refl, refl)

sample-range : in_range disk512 200 ≡ true
unfolding ◌and◌
sample-range = refl

pub sample_accepted : SampleAccepted
unfolding build_string
sample_accepted h t lh lt =
    ap (λ (o : Option ℕ).
    (unless_refused o h t
    (written_disk disk512 200 (disk_guid_of sample_text) h t (build disk512 200 1 (zeros 16384) (wanted_in sample_text)))).answer) rows
    ∙ go (build disk512 200 1 (zeros 16384) (wanted_in sample_text)) sample-built
  where
    rows : refusal (string_rows disk512 200 1 sample_text h t) ≡ none
    rows =
        pick-false _ 1 _ (ap not (and_i _ _ (and_i _ _ (eq-eqb _ _ lh) (eq-eqb _ _ lt)) refl))
        ∙ pick-false _ 2 _ (ap not sample-range)
        ∙ pick-false _ 70 _ (ap not sample-text.0)
        ∙ pick-false _ 3 _ sample-text.1

    go : (b : Built) → is_complete b ≡ true → (written_disk disk512 200 (disk_guid_of sample_text) h t b).answer ≡ accepted []
    go (faulty k) e = absurd (false≢true e)
    go (complete es) e = refl
