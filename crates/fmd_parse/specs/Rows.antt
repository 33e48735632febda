-- Rows 54, 56 and 57 of a section list, each by the index of the first section at fault.
use Rattle.std.specs.Prelude.{Bool, true, false, cond, List, [], ◌∷◌, ℕ, zero, suc, ◌+◌, eqb, length, get_or, take, drop, Option, Some, None}
use Rattle.octets.specs.Ascii.{ascii}
use Rattle.octets.specs.Tests.{◌and◌, any}
use Rattle.octets.specs.Bytes.{part, same}
use Rattle.fmd_parse.specs.Trees.{blank_section}
use Rattle.fmd_table.specs.declared.ParentOffset.{ParentOffset}
use Rattle.fmd_table.specs.declared.Section.{Section}
use Rattle.fmd_parse.specs.declared.rows.Reach.{Reach}
use Rattle.fmd_parse.specs.declared.rows.Reach.TheVariants.{OfSize, UpTo, ToParentEnd, Undecided}

-- the first of the n indices from k on that passes
unfoldable pub found_from : (ℕ → Bool) → ℕ → ℕ → Option ℕ
found_from p zero k = None
found_from p (suc n) k = cond (p k) (Some k) (found_from p n (suc k))

-- one was found
abbrev pub is_found : Option ℕ → Bool
is_found (Some k) = true
is_found None = false

-- the bytes of a section's name
abbrev pub section_name : List ℕ → Section → List ℕ
section_name s h = part h.place h.length s

-- (R19) 54: section name used twice. Section k has the name of an earlier one.
unfoldable pub repeats : List ℕ → List Section → ℕ → Bool
repeats s l k = any (λ e. same (section_name s e) (section_name s (get_or l k blank_section))) (take k l)

unfoldable pub first_repeat : List ℕ → List Section → Option ℕ
first_repeat s l = found_from (repeats s l) (length l) 0

abbrev pub fmap : List ℕ
fmap = ascii "FMAP"

unfoldable pub is_fmap : List ℕ → List Section → ℕ → Bool
is_fmap s l k = same (section_name s (get_or l k blank_section)) fmap

-- (R22) section FMAP; nested ones count too
unfoldable pub fmap_in : List ℕ → List Section → Option ℕ
fmap_in s l = found_from (is_fmap s l) (length l) 0

-- section k has children
unfoldable pub has_child : List Section → ℕ → Bool
has_child l k = any (λ e. eqb e.parent k) l

-- R20: 56: .. CBFS on a section with children
unfoldable pub holds_cbfs : List Section → ℕ → Bool
holds_cbfs l k = (get_or l k blank_section).cbfs and has_child l k

unfoldable pub first_cbfs : List Section → Option ℕ
first_cbfs l = found_from (holds_cbfs l) (length l) 0

-- the next sibling of a section with this parent, by its offset; the list: the sections after it
unfoldable pub sibling_in : ℕ → List Section → Option (Option ParentOffset)
sibling_in par [] = None
sibling_in par (x ∷ xs) = cond (eqb x.parent par) (Some x.offset) (sibling_in par xs)

-- L13: A missing size reaches to the next sibling's given offset (57 if it has none), for the last sibling to the parent's end.
abbrev pub reach_of : Option ℕ → Option (Option ParentOffset) → Reach
reach_of (Some n) next = OfSize n
reach_of None (Some (Some o)) = UpTo o
reach_of None (Some None) = Undecided
reach_of None None = ToParentEnd

-- R21: 57 .. size undecided
abbrev pub is_undecided : Reach → Bool
is_undecided (OfSize n) = false
is_undecided (UpTo o) = false
is_undecided ToParentEnd = false
is_undecided Undecided = true

-- section k, with the sections after it
unfoldable pub undecided : List Section → ℕ → Bool
undecided l k = is_undecided (reach_of (get_or l k blank_section).size (sibling_in (get_or l k blank_section).parent (drop (k + 1) l)))

unfoldable pub first_undecided : List Section → Option ℕ
first_undecided l = found_from (undecided l) (length l) 0
