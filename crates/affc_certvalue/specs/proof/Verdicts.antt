-- What is wrong with a value that stands for a proof.
use Rattle.affc_certvalue.specs.declared.proof.kind.Kind.{Kind}
use Rattle.affc_certvalue.specs.declared.proof.kind.Kind.TheVariants.{Leaf, Cut, Split, Other}
use Rattle.affc_certvalue.specs.Verdicts.{worse, whole, within, any_number, all_of, list, exactly, form_entries, behind_tag}
use Rattle.affc_certvalue.specs.declared.verdict.Verdict.{Verdict}
use Rattle.affc_certvalue.specs.declared.verdict.Verdict.TheVariants.{Shape, Fine}
use Rattle.serde_json.specs.Data.{Data, Items, no_items, item}
use Rattle.serde_json.specs.Events.{items_len}
use Rattle.serde_json.specs.Find.{as_number, as_i64, as_array, as_str, at}
use Rattle.std.specs.Prelude.{ℕ, zero, suc, ◌+◌, ◌&&◌, ℤ, pos, List, [], ◌∷◌, Bool, true, nat_lt, int_lt, if◌then◌else◌, Option, Some, None, option_and_then, codes, bytes_eq}

-- ---- Multipliers

-- the number of a row, where it is whole
abbrev pub row_of : Data → Option ℤ
row_of d = option_and_then as_i64 (option_and_then as_number (at 0 d))

abbrev pub is_above : Option ℤ → ℤ → Bool
is_above None z = true
is_above (Some y) z = int_lt y z

-- row numbers that don't rise, where all of them are whole; before these came the last one, and the numbers rose so far or didn't
abbrev pub if_whole : Option ℤ → (ℤ → Verdict) → Verdict
if_whole None more = Fine
if_whole (Some z) more = more z

abbrev pub order_from : Option ℤ → Bool → Items → Verdict
order_from last rises no_items = if rises then Fine else Shape
order_from last rises (item d ds) = if_whole (row_of d) (λ z. order_from (Some z) (rises && is_above last z) ds)

abbrev pub pair : Data → Verdict
pair = list (exactly (whole (pos 0) (pos 4294967295) ∷ whole (pos 1) (pos 9007199254740992) ∷ []))

-- row numbers with their multipliers, 1,024 at most, by rising numbers
abbrev pub multipliers : Items → Verdict
multipliers ds = if nat_lt 1024 (items_len ds) then Shape else worse (order_from None true ds) (all_of pair ds)

-- ---- Proofs

abbrev pub kind_of_tag : Option (List ℕ) → Kind
kind_of_tag None = Other
kind_of_tag (Some s) = if bytes_eq s (codes "f") then Leaf else (if bytes_eq s (codes "c") then Cut else (if bytes_eq s (codes "s") then Split else Other))

abbrev pub kind_of : Items → Kind
kind_of no_items = Other
kind_of (item d ds) = kind_of_tag (as_str d)

abbrev pub most_coefficient : ℤ
most_coefficient = pos 1099511627776

abbrev pub most_constant : ℤ
most_constant = pos 1152921504606846976

abbrev pub parts : Kind → Items → Verdict
parts Leaf = exactly (list multipliers ∷ [])
parts Cut = exactly (list multipliers ∷ any_number ∷ list (form_entries most_coefficient most_constant) ∷ [])
parts Split = exactly (list (all_of (within most_coefficient)) ∷ within most_constant ∷ [])
parts Other = λ ds. Shape

-- a node of a proof: ["f", m], ["c", m, g, form] or ["s", coefficients, at]
abbrev pub proof_node : Items → Verdict
proof_node ds = parts (kind_of ds) (behind_tag ds)

-- how many proofs come behind a node
abbrev pub arity : Kind → ℕ
arity Leaf = 0
arity Cut = 1
arity Split = 2
arity Other = 0

abbrev pub arity_of : Option Items → ℕ
arity_of None = 0
arity_of (Some ds) = arity (kind_of ds)

-- the nodes of so many proofs in preorder
abbrev pub proof_nodes : ℕ → Items → Verdict
proof_nodes zero no_items = Fine
proof_nodes zero (item d ds) = Shape
proof_nodes (suc wanted) no_items = Shape
proof_nodes (suc wanted) (item d ds) = worse (list proof_node d) (proof_nodes (wanted + arity_of (as_array d)) ds)

abbrev pub proof : Data → Verdict
proof = list (proof_nodes 1)
