-- The constant table of short names against the rules' list. Definitions only.
use Rattle.std.specs.Prelude.{Bool, true, false, List, [], ◌∷◌}
use Rattle.octets.specs.Tests.{◌and◌}
use Rattle.octets.specs.Bytes.{same}
use Rattle.guid.specs.Text.{is_guid_text, stored_of}
use Rattle.guid.specs.Types.{ShortName, short_names}
use Rattle.guid.specs.declared.ShortType.{ShortType}

-- W8: Constant table of names with 16-byte GUIDs; its agreement with the text form proved over all five.

-- an entry of the table has the name of the list's entry, and its GUID is what that entry's text is stored as
abbrev pub entry_agrees : ShortType → ShortName → Bool
entry_agrees c s =
    same c.name.now s.name and (is_guid_text s.text and same c.guid (stored_of s.text))

abbrev pub entries_agree : List ShortType → List ShortName → Bool
entries_agree [] [] = true
entries_agree [] (s ∷ ss) = false
entries_agree (c ∷ cs) [] = false
entries_agree (c ∷ cs) (s ∷ ss) = entry_agrees c s and entries_agree cs ss

unfoldable pub table_agrees : List ShortType → Bool
table_agrees cs = entries_agree cs short_names
