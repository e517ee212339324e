-- What the comparison answers at small programs, where N is 2. Each answer was found by hand from the rules.
use Rattle.std.specs.Prelude.{◌≡◌, ℕ, zero, suc, ℤ, pos, negsuc, false, List, [], ◌∷◌, length, map, None, refl}
use Rattle.std.specs.declared.cmp.Ordering.{Ordering}
use Rattle.std.specs.declared.cmp.Ordering.TheVariants as o
use Rattle.std.proofs.Common.{subst, lit≤}
use Rattle.std.proofs.lemmas.List.Elements.{All-nil, All-cons}
use Rattle.std.proofs.lemmas.Option.{same_Some, none-some}
use Rattle.affc_rows.specs.Forms.{Affine, columns_of, composed_form, HaveColumns}
use Rattle.affc_ast.specs.declared.tree.Cond.TheVariants as cond
use Rattle.affc_ast.specs.declared.tree.Instance.{Instance}
use Rattle.affc_ast.specs.declared.tree.Ix.{Ix}
use Rattle.affc_ast.specs.declared.tree.Ix.TheVariants.{Lit, Name}
use Rattle.affc_ast.specs.declared.tree.Param.TheVariants.{Number, Array}
use Rattle.affc_ast.specs.declared.tree.Program.{Program}
use Rattle.affc_ast.specs.declared.tree.Rel.TheVariants.{Less}
use Rattle.affc_ast.specs.declared.tree.Role.TheVariants.{Output}
use Rattle.affc_ast.specs.declared.tree.Stmt.{Stmt}
use Rattle.affc_ast.specs.declared.tree.Stmt.TheVariants.{For, If, Assign}
use Rattle.affc_ast.specs.declared.tree.Val.TheVariants.{Const}
use Rattle.affc_trace.specs.declared.schedule.Schedule.{Schedule}
use Rattle.affc_trace.specs.declared.schedule.Schedule.TheVariants.{Source, Time}
use Rattle.affc_trace.specs.declared.schedule.TimeMap.{TimeMap}
use Rattle.affc_trace.specs.Examples.{two_columns, undone}
use Rattle.affc_trace.specs.Inverses.{column, GivesColumn}
use Rattle.affc_trace.specs.Target.{target}
use Rattle.affc_compare.specs.Asked.{AreAsked}
use Rattle.affc_compare.specs.Compared.{IsOrderIn}
use Rattle.affc_compare.specs.Sharing.{common_loops}

-- ---- Programs over N, from 1 to 4, and an array of N numbers

abbrev n : Ix
n = Name (record { 0 = 0 })

-- for (int64_t x = 0; x < N; x++) { body }
abbrev each : List Stmt → Stmt
each body = For [] (Lit (pos 0)) Less n body

-- out[x] = 0, at this name
abbrev clear : (name : ℕ) → Stmt
clear name = Assign None (record { 0 = 0 }) (Name (record { 0 = name }) ∷ []) (Const 0)

abbrev program : List Stmt → Program
program body = record {
  name = [];
  params = Number [] (pos 1) (pos 4) ∷ Array (record { name = []; role = Output; extents = n ∷ [] }) ∷ [];
  context = [];
  temps = [];
  body = body;
  prelude = false;
}

abbrev pub two : List ℤ
two = pos 2 ∷ []

abbrev pub at : (statement x : ℕ) → Instance
at statement x = record { statement = statement; iterators = pos x ∷ [] }

abbrev pub at_both : (statement x y : ℕ) → Instance
at_both statement x y = record { statement = statement; iterators = pos x ∷ pos y ∷ [] }

-- the call may be asked this, and no other answer is right
abbrev Answers : Program → Schedule → (a b : Instance) → Ordering → Type 0
Answers program schedule a b answer = AreAsked program schedule two a b × ((r : Ordering) → IsOrderIn (target program schedule two) a b r → r ≡ answer)

-- ---- The source

-- for i { for j { S0 } for k { S1 } }
abbrev pub side_by_side : Program
side_by_side = program (each (each (clear 2 ∷ []) ∷ each (clear 2 ∷ []) ∷ []) ∷ [])

-- in one turn of the outer loop S0 is first, whatever j and k are; an earlier turn goes before
abbrev pub OneLoopIsShared : Type 0
OneLoopIsShared =
    Answers side_by_side Source (at_both 0 0 1) (at_both 1 0 0) o.Less
    × Answers side_by_side Source (at_both 0 1 0) (at_both 1 0 1) o.Greater
    × Answers side_by_side Source (at_both 1 0 1) (at_both 1 0 1) o.Equal

-- for i { if (N < 1) for j { S0 } else { S1 for k { S2 S3 } } }
abbrev branching : Program
branching = program (each (If (cond.Compare Less n (Lit (pos 1))) (each (clear 2 ∷ []) ∷ []) (clear 1 ∷ each (clear 2 ∷ clear 2 ∷ []) ∷ []) ∷ []) ∷ [])

-- two branches share the loops round their `if`
abbrev pub SharedByBranches : Type 0
SharedByBranches =
    (map (common_loops branching 0) (0 ∷ 1 ∷ 2 ∷ []) ≡ 2 ∷ 1 ∷ 1 ∷ [])
    × (map (common_loops branching 3) (0 ∷ 1 ∷ 2 ∷ []) ≡ 1 ∷ 1 ∷ 2 ∷ [])

-- ---- Times

-- a form over N and one iterator, or two
abbrev of_one : (x : ℤ) → Affine
of_one x = record { coefs = pos 0 ∷ x ∷ []; constant = pos 0 }

abbrev of_two : (x y : ℤ) → Affine
of_two x y = record { coefs = pos 0 ∷ x ∷ y ∷ []; constant = pos 0 }

pub three_columns : (f g : Affine) → length f.coefs ≡ 3 → length g.coefs ≡ 3 → HaveColumns 3 (f ∷ g ∷ [])
three_columns f g e d = All-cons (λ h. length h.coefs ≡ 3) f (g ∷ []) e (All-cons (λ h. length h.coefs ≡ 3) g [] d (All-nil (λ h. length h.coefs ≡ 3)))

pub both_undone : (images : List Affine) (f g : Affine) → composed_form f images ≡ column (columns_of images) 1 → composed_form g images ≡ column (columns_of images) 2 → (k : ℕ) → GivesColumn (f ∷ g ∷ []) images 1 k
both_undone images f g e d zero h same = subst (λ h. composed_form h images ≡ column (columns_of images) 1) (same_Some f h same) e
both_undone images f g e d (suc zero) h same = subst (λ h. composed_form h images ≡ column (columns_of images) 2) (same_Some g h same) d
both_undone images f g e d (suc (suc k)) h same = absurd (none-some h same)

-- (j, i) for i, j
abbrev turned : TimeMap
turned = record {
  forms = of_two (pos 0) (pos 1) ∷ of_two (pos 1) (pos 0) ∷ [];
  inverse = of_two (pos 0) (pos 1) ∷ of_two (pos 1) (pos 0) ∷ [];
  shaped = three_columns (of_two (pos 0) (pos 1)) (of_two (pos 1) (pos 0)) refl refl;
  inverse_shaped = three_columns (of_two (pos 0) (pos 1)) (of_two (pos 1) (pos 0)) refl refl;
  at_least_iterators = lit≤ tt;
  inverts = both_undone (column 3 0 ∷ of_two (pos 0) (pos 1) ∷ of_two (pos 1) (pos 0) ∷ []) (of_two (pos 0) (pos 1)) (of_two (pos 1) (pos 0)) refl refl;
}

-- (-i) for i
abbrev backwards : TimeMap
backwards = record {
  forms = of_one (negsuc 0) ∷ [];
  inverse = of_one (negsuc 0) ∷ [];
  shaped = two_columns (of_one (negsuc 0)) refl;
  inverse_shaped = two_columns (of_one (negsuc 0)) refl;
  at_least_iterators = lit≤ tt;
  inverts = undone (column 2 0 ∷ of_one (negsuc 0) ∷ []) (of_one (negsuc 0)) refl;
}

-- for i { for j { S0 } }
abbrev pub square : Program
square = program (each (each (clear 2 ∷ []) ∷ []) ∷ [])

abbrev pub interchanged : Schedule
interchanged = Time 2 (turned ∷ [])

-- with the loops interchanged, j decides first
abbrev pub LoopsInterchanged : Type 0
LoopsInterchanged =
    Answers square Source (at_both 0 0 1) (at_both 0 1 0) o.Less
    × Answers square interchanged (at_both 0 0 1) (at_both 0 1 0) o.Greater
    × Answers square interchanged (at_both 0 0 1) (at_both 0 1 1) o.Less

-- for i { S0 S1 }
abbrev pub pairs : Program
pairs = program (each (clear 1 ∷ clear 1 ∷ []) ∷ [])

abbrev pub reversed : Schedule
reversed = Time 1 (backwards ∷ backwards ∷ [])

-- run backwards, the last turn is first; S0 and S1 of one turn tie, and S0 goes before
abbrev pub TurnsReversed : Type 0
TurnsReversed =
    Answers pairs reversed (at 0 0) (at 0 1) o.Greater
    × Answers pairs reversed (at 1 1) (at 0 0) o.Less
    × Answers pairs reversed (at 0 1) (at 1 1) o.Less
    × Answers pairs reversed (at 1 1) (at 0 1) o.Greater
