-- What is claimed of attribute bits: the statements of the theorems, as Claims has the others.
use Rattle.std.specs.Prelude.{◌≡◌, ◌↔◌, true, false, List, [], ◌∷◌, ℕ, ◌≤◌, get_or}
use Rattle.std.proofs.Math.Option.{none}
use Rattle.octets.specs.Rows.{refusal}
use Rattle.gpt_model.specs.Disk.{Shape, header_bytes, table_of}
use Rattle.gpt_model.specs.Attributes.{offends}
use Rattle.gpt_model.specs.declared.NewPartition.{NewPartition}
use Rattle.gpt_model.specs.declared.Rule.{Rule}
use Rattle.gpt_model.specs.declared.Rule.TheVariants.{Present, Earlier}
use Rattle.gpt_model.specs.Calls.{add, Call, read, check, edit, refused, accepted, lengths_of, open_rows, step}
use Rattle.gpt_model.specs.Lists.{Snapshot, after_all, StartsAfresh}
use Rattle.gpt_model.specs.Stored.{BreaksRule, NoneOffends, CheckSays}
use Rattle.gpt_model.specs.Claims.{AfterLists, AfterListsAt512, AfterListsAt4096, GivenOk, NameFree, AnyBytesRead}

-- an attribute value offends, by the definition, exactly when a bit that the rule wants zero is set
abbrev pub OffendsByBits : Type 0
OffendsByBits = (rule : Rule) (attributes : ℕ) → (offends rule attributes ≡ true) ↔ BreaksRule rule attributes

abbrev pub CheckByBytes : Type 0
CheckByBytes =
    (g : Shape) (n : ℕ) (h t : List ℕ) (rule : Rule) → CheckSays rule h t (table_of g n h t) (step g n h t read).answer (step g n h t (check rule))

-- k4: A table passing the earlier rule passes the present one. So does an entry
abbrev pub EarlierPassesPresent : Type 0
EarlierPassesPresent =
    ((attributes : ℕ) → offends Earlier attributes ≡ false → offends Present attributes ≡ false)
    × ((g : Shape) (n : ℕ) (h t : List ℕ)
    → (step g n h t (check Earlier)).answer ≡ accepted (0 ∷ []) → (step g n h t (check Present)).answer ≡ accepted (0 ∷ []))

-- k5: The string builder goes by the present rule. The attributes that it gives, none and bit 2, pass it
abbrev pub StringAttributesPass : Type 0
StringAttributesPass = (offends Present 0 ≡ false) × (offends Present 4 ≡ false)

-- k6: 28 in adding, after 26 and before 24: exactly where no row before it holds and a bit is set that the rule wants zero
abbrev pub OffendingRefused : Type 0
OffendingRefused =
    (g : Shape) (n : ℕ) (h t : List ℕ) (p : NewPartition)
    → ((step g n h t (edit (add p))).answer ≡ refused 28)
    ↔ ((refusal (open_rows g n h t (lengths_of (add p))) ≡ none) × GivenOk (table_of g n h t) p × NameFree (table_of g n h t) p.name
    × BreaksRule p.rule p.attributes)

-- every add of the list names the earlier rule
abbrev pub NameEarlier : List Call → Type 0
NameEarlier cs = (k : ℕ) (p : NewPartition) → get_or cs k read ≡ edit (add p) → p.rule ≡ Earlier

-- On a disk that this library formatted, no used slot offends the present rule after any list of calls, and none the earlier one if every add named it.
abbrev pub NoneOffendsIn : List Call → Shape → ℕ → Snapshot → Type 0
NoneOffendsIn cs g n r =
    let es = table_of g n r.head r.tail in
    NoneOffends Present es × (NameEarlier cs → NoneOffends Earlier es)

abbrev pub BitsStayZero : Type 0
BitsStayZero = AfterLists NoneOffendsIn

abbrev pub BitsStayZeroAt512 : Type 0
BitsStayZeroAt512 = AfterListsAt512 NoneOffendsIn

abbrev pub BitsStayZeroAt4096 : Type 0
BitsStayZeroAt4096 = AfterListsAt4096 NoneOffendsIn

-- and from every start afresh with a table of which no used slot offends
abbrev pub BitsStayZeroFrom : Type 0
BitsStayZeroFrom =
    (g : Shape) → header_bytes ≤ g.block → (n : ℕ) (es : List ℕ) (r : Snapshot) → StartsAfresh g n es r → (cs : List Call)
    → let r' = after_all (step g n) cs r in
    let es' = table_of g n r'.head r'.tail in
    (NoneOffends Present es → NoneOffends Present es') × (NoneOffends Earlier es → NameEarlier cs → NoneOffends Earlier es')

-- (k2) the rule is for adds and checks: a disk reads whatever an entry has as attributes
abbrev pub AnyAttributesRead : Type 0
AnyAttributesRead = AnyBytesRead 48 8
