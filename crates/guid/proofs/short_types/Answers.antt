use mathlib.Core.Path.{refl}
use Rattle.octets.specs.Bytes.{part, rest, same}
use Rattle.octets.specs.Tests.{◌and◌}
use Rattle.guid.specs.Table.{table_agrees}
use Rattle.guid.specs.Text.{digits_in, dashes_in, is_guid_text, reordered, stored_of}
use Rattle.guid.specs.Hex.{hex_value, bytes_of}
use Rattle.guid.proofs.short_types.Goals as goal

pub returns : goal.returns
unfolding table_agrees is_guid_text stored_of digits_in dashes_in reordered bytes_of hex_value part rest same ◌and◌
returns c = refl
