-- The side of a copy in the words of gpt_model, a good header, and where entries lie in memory. Definitions only.
use Rattle.std.specs.Prelude.{Bool, List, ℕ, ◌+◌}
use Rattle.octets.specs.Bytes.{same}
use Rattle.gpt_model.specs.Disk as disk
use Rattle.gpt_places.specs.declared.Side.{Side}
use Rattle.gpt_places.specs.declared.Side.TheVariants.{Primary, Backup}

abbrev pub side_of : Side → disk.Side
side_of Primary = disk.primary
side_of Backup = disk.backup

-- D8: A copy is good when every named header field, both CRCs [..] hold: what `good_copy` asks of the header
abbrev pub good_header : disk.Shape → ℕ → disk.Side → List ℕ → Bool
good_header g n side b = same (disk.header_in g side b) (disk.header g n side (disk.guid_in g side b) (disk.entries_in g side b))

-- a place in memory is a pair: which memory, and which byte of it. The place that many bytes behind another one
abbrev pub behind : ℕ → ℕ × ℕ → ℕ × ℕ
behind k p = (p.0, p.1 + k)

-- where the entries of a copy begin, by where head and tail begin
abbrev pub entries_place : disk.Shape → disk.Side → ℕ × ℕ → ℕ × ℕ → ℕ × ℕ
entries_place g disk.primary h t = behind (disk.entries_at g disk.primary) h
entries_place g disk.backup h t = behind (disk.entries_at g disk.backup) t
