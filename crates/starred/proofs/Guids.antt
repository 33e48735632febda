-- Sample 6.
use mathlib.Core.Path.{refl}
use Rattle.octets.specs.Bytes.{zeros, part, rest, same}
use Rattle.octets.specs.Rows.{pick_row}
use Rattle.octets.specs.Tests.{◌and◌}
use Rattle.guid.specs.Hex.{hex_value, bytes_of}
use Rattle.guid.specs.Text.{digits_in, dashes_in, is_guid_text, reordered, stored_of}
use Rattle.guid.specs.Types.{short_at, expand}
use Rattle.guid.specs.Calls.{unless_refused, read_of}
use Rattle.starred.specs.Claims.{Sample6}

pub sample6 : Sample6
unfolding zeros part rest same ◌and◌ pick_row hex_value bytes_of digits_in dashes_in is_guid_text reordered stored_of short_at expand unless_refused read_of
sample6 = refl
