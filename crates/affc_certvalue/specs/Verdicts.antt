-- What is wrong with a value that stands for a number, a form, a list or an object.
use Rattle.affc_certvalue.specs.declared.verdict.Verdict.{Verdict}
use Rattle.affc_certvalue.specs.declared.verdict.Verdict.TheVariants.{Shape, Number, Fine}
use Rattle.serde_json.specs.Data.{Num, Data, Items, no_items, item, Members, no_members, member}
use Rattle.serde_json.specs.Events.{items_len}
use Rattle.serde_json.specs.Find.{as_number, as_i64, as_array, as_object}
use Rattle.std.specs.Prelude.{ℕ, ◌+◌, ◌==◌, ◌||◌, ℤ, pos, negsuc, neg_ℤ, List, [], ◌∷◌, int_lt, if◌then◌else◌, Option, Some, None, bytes_eq}

-- shape goes before numbers
abbrev pub worse : Verdict → Verdict → Verdict
worse Shape v = Shape
worse Number Shape = Shape
worse Number Number = Number
worse Number Fine = Number
worse Fine v = v

-- ---- Numbers

abbrev pub in_range : ℤ → ℤ → Option ℤ → Verdict
in_range low high None = Number
in_range low high (Some z) = if int_lt z low || int_lt high z then Number else Fine

abbrev pub whole_of : ℤ → ℤ → Option Num → Verdict
whole_of low high None = Shape
whole_of low high (Some n) = in_range low high (as_i64 n)

-- a number that is whole and between these
abbrev pub whole : ℤ → ℤ → Data → Verdict
whole low high d = whole_of low high (as_number d)

abbrev pub within : ℤ → Data → Verdict
within most d = whole (neg_ℤ most) most d

-- a number without a limit of its own
abbrev pub any_number : Data → Verdict
any_number = whole (negsuc 9223372036854775807) (pos 9223372036854775807)

-- ---- Lists

abbrev pub all_of : (Data → Verdict) → Items → Verdict
all_of judge no_items = Fine
all_of judge (item d ds) = worse (judge d) (all_of judge ds)

abbrev pub in_list : (Items → Verdict) → Option Items → Verdict
in_list judge None = Shape
in_list judge (Some ds) = judge ds

-- a list that is judged so
abbrev pub list : (Items → Verdict) → Data → Verdict
list judge d = in_list judge (as_array d)

-- a list of exactly these parts
abbrev pub exactly : List (Data → Verdict) → Items → Verdict
exactly [] no_items = Fine
exactly [] (item d ds) = Shape
exactly (judge ∷ more) no_items = Shape
exactly (judge ∷ more) (item d ds) = worse (judge d) (exactly more ds)

-- so many values, each judged so
abbrev pub many : ℕ → (Data → Verdict) → Items → Verdict
many n judge ds = if items_len ds == n then all_of judge ds else Shape

-- coefficients and then a constant
abbrev pub form_entries : ℤ → ℤ → Items → Verdict
form_entries most most_constant no_items = Shape
form_entries most most_constant (item d no_items) = within most_constant d
form_entries most most_constant (item d (item e ds)) = worse (within most d) (form_entries most most_constant (item e ds))

-- a form over so many columns
abbrev pub form_over : (columns : ℕ) (most most_constant : ℤ) → Items → Verdict
form_over columns most most_constant ds = if items_len ds == columns + 1 then form_entries most most_constant ds else Shape

-- ---- Objects

-- exactly these keys, in order by bytes, whose values are judged so
abbrev pub keyed : List (List ℕ × (Data → Verdict)) → Members → Verdict
keyed [] no_members = Fine
keyed [] (member l d ms) = Shape
keyed (part ∷ more) no_members = Shape
keyed (part ∷ more) (member l d ms) = if bytes_eq l part.0 then worse (part.1 d) (keyed more ms) else Shape

abbrev pub in_object : (Members → Verdict) → Option Members → Verdict
in_object judge None = Shape
in_object judge (Some ms) = judge ms

-- an object with exactly these keys
abbrev pub members : List (List ℕ × (Data → Verdict)) → Data → Verdict
members parts d = in_object (keyed parts) (as_object d)

-- the verdict on what stands under a key
abbrev pub at_key : (Data → Verdict) → Option Data → Verdict
at_key judge None = Shape
at_key judge (Some d) = judge d

-- ---- Proofs

abbrev pub behind_tag : Items → Items
behind_tag no_items = no_items
behind_tag (item d ds) = ds
