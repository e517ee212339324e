-- Programs whose index expressions keep within `int64_t`: small affine ones, over names that keep within 2^31.
use Rattle.std.specs.Prelude.{◌≡◌, ℕ, length, ℤ, Bool, true, ◌&&◌, ◌||◌, int_lt, nat_le, nat_lt, List, [], ◌∷◌, ◌++◌, map, slice_get, IsTrue, Some, Ok}
use Rattle.affc_ast.specs.declared.tree.Decl.{Decl}
use Rattle.affc_ast.specs.declared.tree.Instance.{Instance}
use Rattle.affc_ast.specs.declared.tree.Ix.{Ix}
use Rattle.affc_ast.specs.declared.tree.Program.{Program}
use Rattle.affc_ast.specs.declared.tree.Stmt.TheOpen.{Stmt-F, For, If, Assign, Block}
use Rattle.affc_ast.specs.declared.tree.Val.{Val}
use Rattle.affc_ast.specs.declared.tree.Val.TheVariants as v
use Rattle.affc_ast.specs.declared.tree.Val.TheBlock.{more_of-Val, end_of-Val}
use Rattle.affc_ast.specs.Fits.{whole}
use Rattle.affc_ast.specs.Index.{index_value}
use Rattle.affc_ast.specs.Recursion.{by_stmt}
use Rattle.affc_ast.specs.Trace.{Assignment, assignments, trace}
use Rattle.affc_trace.specs.Law.{IsIn}
use Rattle.affc_domain.specs.Arrays.{declared_arrays}
use Rattle.affc_domain.specs.Plain.{is_plain, plain_cond}
use Rattle.affc_domain.specs.Ranges.{is_near, number_ranges, range_of}

-- ---- Loops and conditions, by the interval rule

abbrev pub all_near : List (List (ℤ × ℤ) → Bool) → List (ℤ × ℤ) → Bool
all_near [] ranges = true
all_near (f ∷ fs) ranges = f ranges && all_near fs ranges

-- a loop that is never entered, or whose iterator keeps within 2^31 in magnitude
abbrev pub near_or_never : ℤ × ℤ → (inside : Bool) → Bool
near_or_never r inside = int_lt r.1 r.0 || ((is_near r.0 && is_near r.1) && inside)

-- Where the names in sight lie within these ranges, at most 16 of them. What stands in a loop that is never entered isn't
-- looked at, and neither are assignments.
abbrev pub near_step : Stmt-F (List (ℤ × ℤ) → Bool) → (ranges : List (ℤ × ℤ)) → Bool
near_step (For iter low rel high body) ranges =
    let r = range_of ranges low rel high in
    nat_lt (length ranges) 16 && (is_plain (length ranges) low && (is_plain (length ranges) high && near_or_never r (all_near body (ranges ++ r ∷ []))))
near_step (If cond body other) ranges = plain_cond (length ranges) cond && (all_near body ranges && all_near other ranges)
near_step (Assign op array subs value) ranges = true
near_step (Block locals body) ranges = all_near body ranges

abbrev pub near_ranges : List (ℤ × ℤ) → Bool
near_ranges [] = true
near_ranges (r ∷ rs) = (is_near r.0 && is_near r.1) && near_ranges rs

-- parameters and iterators keep within 2^31, and bounds and conditions are small and affine
abbrev pub keeps_near : Program → Bool
keeps_near program =
    let ranges = number_ranges program.params in
    nat_le (length ranges) 16 && (near_ranges ranges && all_near (map (by_stmt near_step) program.body) ranges)

-- ---- Extents and assignments

-- the expression is read in `int64_t` as the whole number that it is, at any node
abbrev pub IsReadable : Ix → (names : List ℤ) → Type 0
IsReadable e names = (node : ℕ) → index_value e node names ≡ Ok (whole e names)

abbrev pub AreReadable : List Ix → (names : List ℤ) → Type 0
AreReadable [] names = Unit {0}
AreReadable (e ∷ es) names = IsReadable e names × AreReadable es names

-- all subscripts and casts of a value
abbrev pub ReadsValue : Val → (names : List ℤ) → Type 0
ReadsValue (v.Load array subs) names = AreReadable subs names
ReadsValue (v.Const n) names = Unit {0}
ReadsValue (v.Cast e) names = IsReadable e names
ReadsValue (v.Not' s (more_of-Val a end_of-Val)) names = ReadsValue a names
ReadsValue (v.Bin' op s (more_of-Val a end_of-Val) t (more_of-Val b end_of-Val)) names = ReadsValue a names × ReadsValue b names
ReadsValue (v.Shift' left s (more_of-Val a end_of-Val) by) names = ReadsValue a names

pub record ReadsAssignment (a : Assignment) (names : List ℤ) : Type 0 where
  pub subs : AreReadable a.subs names
  pub value : ReadsValue a.value names

-- whatever a run at p reads, up to its end, keeps within `int64_t`
pub record NeverOverflows (program : Program) (p : List ℤ) : Type 0 where
  pub near : IsTrue (keeps_near program)
  pub extents : (d : Decl) → IsIn d (declared_arrays program) → AreReadable d.extents p
  pub assignments : (b : Instance) (a : Assignment) → IsIn b (trace program p) → slice_get (assignments program) b.statement ≡ Some a → ReadsAssignment a (p ++ b.iterators)
