-- What is written for a condition where it stands.
use Rattle.std.specs.Prelude.{Bool, true, false, not, ◌&&◌, ◌++◌, ℕ, List, [], ◌∷◌, codes, ℤ, nat_abs, if◌then◌else◌, decimal as digits_of}
use Rattle.std.specs.List.{flat_map}
use Rattle.affc_ast.specs.declared.tree.Cond.{Cond}
use Rattle.affc_ast.specs.declared.tree.Ix.{Ix}
use Rattle.affc_ast.specs.declared.tree.Rel.{Rel}
use Rattle.affc_ast.specs.Recursion.{by_ix, by_cond}
use Rattle.affc_grammar.specs.Grammar.{rel_mark, zero_mark}
use Rattle.affc_grammar.specs.Printed.{Names, CondWritten, ix_text, ix_step, cond_step}
use Rattle.affc_cprint.specs.declared.brackets.Place.TheVariants.{RightOfSum}
use Rattle.affc_cprint.specs.declared.brackets.Standing.{Standing}
use Rattle.affc_cprint.specs.declared.brackets.Standing.TheVariants.{Alone, InAny, InAll}
use Rattle.affc_cprint.specs.Forms.{is_none}
use Rattle.affc_cprint.specs.Layout.{◌then◌, ix_layout, cond_layout, all_layout, prim_layout}
use Rattle.affc_cprint.specs.Places.{ix_at, bracketed, divides}

abbrev pub cond_at : {prelude : Bool} → Standing → CondWritten prelude → List ℕ
cond_at Alone w = cond_layout w.whole
cond_at InAny w = all_layout w.in_any
cond_at InAll w = prim_layout w.in_all

abbrev pub is_joined_at : Standing → Bool
is_joined_at Alone = false
is_joined_at _ = true

abbrev pub is_in_all : Standing → Bool
is_in_all InAll = true
is_in_all _ = false

abbrev pub written : (prelude : Bool) → Names → Cond → CondWritten prelude
written prelude names c = by_cond (cond_step prelude names) c

-- A comparison, and a remainder; one by a number that no text divides by is written as a condition that is false.
abbrev pub comparison_layout : (prelude : Bool) → Names → Ix → Rel → Ix → List ℕ
comparison_layout prelude names left rel right = ix_layout (ix_text prelude names left) then codes " " then rel_mark rel then codes " " then ix_layout (ix_text prelude names right)

abbrev pub remainder_layout : (prelude : Bool) → Names → Ix → ℤ → (so : Bool) → List ℕ
remainder_layout prelude names value by so =
    if divides true by then ix_at RightOfSum (by_ix (ix_step prelude names) value) then codes " % " then digits_of (nat_abs by) then codes " " then zero_mark so then codes " 0" else codes "0 < 0"

-- ---- Conditions that are joined, by what is written of them

-- a condition behind another
abbrev pub behind : {prelude : Bool} → (mark : List ℕ) → Standing → CondWritten prelude → List ℕ
behind mark place w = mark then cond_at place w

abbrev pub side_by_side : {prelude : Bool} → (mark : List ℕ) → Standing → List (CondWritten prelude) → List ℕ
side_by_side mark place [] = []
side_by_side mark place (w ∷ ws) = cond_at place w ++ flat_map (behind mark place) ws

-- where there are none, a condition that is false
abbrev pub entries_layout : {prelude : Bool} → (mark : List ℕ) → Standing → List (CondWritten prelude) → List ℕ
entries_layout mark place [] = codes "0 < 0"
entries_layout mark place (w ∷ ws) = side_by_side mark place (w ∷ ws)

abbrev pub all_layout_at : {prelude : Bool} → Standing → List (CondWritten prelude) → List ℕ
all_layout_at place ws = bracketed (is_in_all place && not (is_none ws)) (entries_layout (codes " && ") InAll ws)

abbrev pub any_layout_at : {prelude : Bool} → Standing → List (CondWritten prelude) → List ℕ
any_layout_at place ws = bracketed (is_joined_at place && not (is_none ws)) (entries_layout (codes " || ") InAny ws)
