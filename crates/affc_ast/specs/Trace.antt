-- Which instances a program has, in the order of the text and of the turns, and which elements each touches. Bounds,
-- conditions and subscripts are read as whole numbers. This is said of programs without the prelude, which have
-- no locals, so the visible names are the parameters and the iterators.
use Rattle.std.specs.Prelude.{ℕ, zero, suc, ◌+◌, ℤ, pos, ◌+ℤ◌, if◌then◌else◌, List, [], ◌∷◌, ◌++◌, Option, Some, None, map, flat_map, sum_by, slice_get}
use Rattle.affc_ast.specs.declared.tree.ArrayId.{ArrayId}
use Rattle.affc_ast.specs.declared.tree.Instance.{Instance}
use Rattle.affc_ast.specs.declared.tree.Ix.{Ix}
use Rattle.affc_ast.specs.declared.tree.Op.{Op}
use Rattle.affc_ast.specs.declared.tree.Program.{Program}
use Rattle.affc_ast.specs.declared.tree.Stmt.TheOpen.{Stmt-F, For, If, Assign, Block}
use Rattle.affc_ast.specs.declared.tree.Val.{Val}
use Rattle.affc_ast.specs.declared.tree.Val.TheOpen.{Val-F, Load, Const, Cast, Not, Bin, Shift}
use Rattle.affc_ast.specs.Fits.{whole, is_true_at}
use Rattle.affc_ast.specs.Meaning.{turns_of}
use Rattle.affc_ast.specs.Recursion.{by_val, by_stmt}
use Rattle.affc_ast.specs.Store.{Element}

-- ---- Instances

-- so many whole numbers from x on
abbrev pub count_from : (count : ℕ) → ℤ → List ℤ
count_from zero x = []
count_from (suc count) x = x ∷ count_from count (x +ℤ pos 1)

-- a statement: how many assignments it has, and its instances, where its first assignment has this number and the iterators round it these values
pub record Walk : Type 0 where
  pub assigns : ℕ
  pub instances : (statement : ℕ) (iterators : List ℤ) → List Instance

abbrev pub in_walk_order : List Walk → (statement : ℕ) → (iterators : List ℤ) → List Instance
in_walk_order [] statement iterators = []
in_walk_order (w ∷ ws) statement iterators = w.instances statement iterators ++ in_walk_order ws (statement + w.assigns) iterators

abbrev pub assigns_of : List Walk → ℕ
assigns_of ws = sum_by (λ w. w.assigns) ws

abbrev pub walk_step : (p : List ℤ) → Stmt-F Walk → Walk
walk_step p (For iter low rel high body) = record {
  assigns = assigns_of body;
  instances = λ statement iterators.
      let first = whole low (p ++ iterators) in
      let last = whole high (p ++ iterators) in
      flat_map (λ x. in_walk_order body statement (iterators ++ x ∷ [])) (count_from (turns_of rel first last) first);
}
walk_step p (If cond body other) = record {
  assigns = assigns_of body + assigns_of other;
  instances = λ statement iterators.
      if is_true_at cond (p ++ iterators) then in_walk_order body statement iterators else in_walk_order other (statement + assigns_of body) iterators;
}
walk_step p (Assign op array subs value) = record {
  assigns = 1;
  instances = λ statement iterators. record { statement = statement; iterators = iterators } ∷ [];
}
walk_step p (Block locals body) = record {
  assigns = assigns_of body;
  instances = in_walk_order body;
}

abbrev pub trace : Program → (p : List ℤ) → List Instance
trace program p = in_walk_order (map (by_stmt (walk_step p)) program.body) 0 []

-- ---- Events

pub record Assignment : Type 0 where
  pub op : Option Op
  pub array : ArrayId
  pub subs : List Ix
  pub value : Val

abbrev pub joined : {A : Type 0} → List (List A) → List A
joined xs = flat_map (λ x. x) xs

abbrev pub assignments_step : Stmt-F (List Assignment) → List Assignment
assignments_step (For iter low rel high body) = joined body
assignments_step (If cond body other) = joined body ++ joined other
assignments_step (Assign op array subs value) = record { op = op; array = array; subs = subs; value = value } ∷ []
assignments_step (Block locals body) = joined body

-- a program's assignments in the order of the text: statement S0, S1, ..
abbrev pub assignments : Program → List Assignment
assignments program = flat_map (by_stmt assignments_step) program.body

abbrev pub element : (names : List ℤ) → ArrayId → List Ix → Element
element names array subs = (array.0, map (λ e. whole e names) subs)

abbrev pub loads_step : Val-F (List ℤ → List Element) → List ℤ → List Element
loads_step (Load array subs) names = element names array subs ∷ []
loads_step (Const n) names = []
loads_step (Cast e) names = []
loads_step (Not a) names = a names
loads_step (Bin op a b) names = a names ++ b names
loads_step (Shift left a by) names = a names

-- the elements that a value loads, in the order of the text
abbrev pub loads_of_value : Val → (names : List ℤ) → List Element
loads_of_value = by_val loads_step

abbrev pub own_load : Option Op → Element → List Element
own_load None x = []
own_load (Some op) x = x ∷ []

abbrev pub stored_by : Option Assignment → (names : List ℤ) → Element
stored_by None names = (0, [])
stored_by (Some a) names = element names a.array a.subs

abbrev pub loaded_by : Option Assignment → (names : List ℤ) → List Element
loaded_by None names = []
loaded_by (Some a) names = own_load a.op (element names a.array a.subs) ++ loads_of_value a.value names

-- the element that an instance stores
abbrev pub store_of : Program → (p : List ℤ) → Instance → Element
store_of program p x = stored_by (slice_get (assignments program) x.statement) (p ++ x.iterators)

-- the elements that an instance loads, in order
abbrev pub loads_of : Program → (p : List ℤ) → Instance → List Element
loads_of program p x = loaded_by (slice_get (assignments program) x.statement) (p ++ x.iterators)

-- an instance's events: the elements that it touches, its loads in order and then its store
abbrev pub events : Program → (p : List ℤ) → Instance → List Element
events program p x = loads_of program p x ++ store_of program p x ∷ []
