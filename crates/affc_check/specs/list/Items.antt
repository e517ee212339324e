-- The items of a certificate of a program: systems that it proves to have no integer point, and points that it shows, in order.
use Rattle.std.specs.Prelude.{ℕ, suc, nat_eq, ℤ, pos, negsuc, int_lt, Bool, ◌&&◌, if◌then◌else◌, List, [], ◌∷◌, ◌++◌, length, map, flat_map, take, Option, Some, None, slice_get}
use Rattle.std.specs.Cmp.Lexicographic.{slice_cmp}
use Rattle.std.specs.Ordering.{is_eq, int_cmp}
use Rattle.affc_rows.specs.Forms.{Affine, value, values_of}
use Rattle.affc_system.specs.Systems.{Rows}
use Rattle.affc_system.specs.declared.pairs.PairSystem.{PairSystem}
use Rattle.affc_ast.specs.declared.tree.Rel.TheVariants.{Equal}
use Rattle.affc_trace.specs.declared.schedule.Schedule.{Schedule}
use Rattle.affc_basis.specs.declared.fold.Mark.{Mark}
use Rattle.affc_basis.specs.declared.fold.Mark.TheVariants.{Least, Bound}
use Rattle.affc_basis.specs.declared.fold.Modulus.{Modulus}
use Rattle.affc_nest.specs.Domains.{compare_rows, number_form}
use Rattle.affc_nest.specs.Nests.{nowhere}
use Rattle.affc_nest.specs.Questions.{whole_context, extent_questions, bound_questions}
use Rattle.affc_nest.specs.declared.nest.Nest.{Nest}
use Rattle.affc_sched.specs.Questions.{legality_questions}
use Rattle.affc_quast.specs.Trees.{Tree}
use Rattle.affc_flow.specs.Questions.{flow_questions}
use Rattle.affc_conflicts.specs.Questions.{distance, positive_question, greater_question, distance_questions, shown_system}

-- a system that is to have no integer point; or one with a point that it is to have
pub data Item : Type 0 where
  Question : (system : Rows) → Item
  Shown : (system : Rows) → (point : List ℤ) → Item

-- ---- What a certificate says of a fold

-- That a modulus is least: values of the parameters, and where the modulus is more than 1 there, the number of a clash system
-- with a point of it.
pub record LeastShown : Type 0 where
  pub p : List ℤ
  pub pair : Option (ℤ × List ℤ)

pub record ModulusShown : Type 0 where
  pub form : Affine
  pub least : Option LeastShown

-- the fold of an array, beside the array's clash systems
pub record FoldShown : Type 0 where
  pub array : ℕ
  pub rows : List Affine
  pub moduli : List ModulusShown
  pub systems : List PairSystem

-- ---- The points that show that a modulus is least

-- the clash system with this number
abbrev pub numbered : List PairSystem → ℤ → Option PairSystem
numbered systems (pos n) = slice_get systems n
numbered systems (negsuc n) = None

-- whether the point has a number for each column of the system, the first ones being p
abbrev pub is_point_at : (parameters : ℕ) → (p point : List ℤ) → PairSystem → Bool
is_point_at parameters p point s = nat_eq (length point) s.system.columns && is_eq (slice_cmp int_cmp (take parameters point) p)

-- whether x lies behind y along the row
abbrev pub is_behind : (row : Affine) → PairSystem → (point : List ℤ) → Bool
is_behind row s point = int_lt (value (distance row s.x.items s.y.items) point) (pos 0)

module _ (nest : Nest) (rows : List Affine) (k : ℕ) (row modulus : Affine) where
  -- nothing is shown
  abbrev pub nothing : Item
  nothing = Shown (nowhere 0) []

  -- at the point the two elements lie apart by the modulus less 1, and by at least 1
  abbrev pub farthest : PairSystem → (point : List ℤ) → Item
  farthest s point =
      if is_behind row s point then Shown (shown_system rows k row modulus s s.y.items s.x.items) point else Shown (shown_system rows k row modulus s s.x.items s.y.items) point

  abbrev pub pair_in : (p point : List ℤ) → Option PairSystem → Item
  pair_in p point None = nothing
  pair_in p point (Some s) = if is_point_at nest.context.columns p point s then farthest s point else nothing

  -- a pair, or without one that the modulus is 1
  abbrev pub pair_item : List PairSystem → (p : List ℤ) → Option (ℤ × List ℤ) → Item
  pair_item systems p None = Shown (record { columns = nest.context.columns; rows = compare_rows Equal modulus (number_form nest.context.columns (pos 1)) }) p
  pair_item systems p (Some pair) = pair_in p pair.1 (numbered systems pair.0)

  -- p in the context, the pair there, and that the modulus is nowhere greater
  abbrev pub mark_items : List PairSystem → Option LeastShown → List Item
  mark_items systems None = []
  mark_items systems (Some l) = Shown (whole_context nest) l.p ∷ pair_item systems l.p l.pair ∷ Question (greater_question nest.context nest.params modulus l.p) ∷ []

-- ---- The items of a fold

-- of row k: that its modulus is at least 1, that it exceeds each distance in its slice, and what its mark says of it
abbrev pub row_items : Nest → List PairSystem → (rows : List Affine) → (k : ℕ) → (row : Affine) → ModulusShown → List Item
row_items nest systems rows k row m =
    Question (positive_question nest.context nest.params m.form)
    ∷ (map Question (distance_questions rows k row m.form systems) ++ mark_items nest rows k row m.form systems m.least)

-- per row from the k-th on
abbrev pub rows_items : Nest → List PairSystem → (rows : List Affine) → (k : ℕ) → List Affine → List ModulusShown → List Item
rows_items nest systems rows k [] ms = []
rows_items nest systems rows k (row ∷ more) [] = []
rows_items nest systems rows k (row ∷ more) (m ∷ ms) = row_items nest systems rows k row m ++ rows_items nest systems rows (suc k) more ms

abbrev pub fold_items : Nest → FoldShown → List Item
fold_items nest f = rows_items nest f.systems f.rows 0 f.rows f.moduli

-- ---- All items: the context, extents, accesses, trees, the schedule, folds

abbrev pub items : Nest → Schedule → (context : List ℤ) → List Tree → List FoldShown → List Item
items nest schedule context trees folds =
    Shown (whole_context nest) context
    ∷ (map Question (extent_questions nest)
    ++ (map Question (bound_questions nest)
    ++ (map (λ q. Question q.system) (flow_questions nest trees)
    ++ (map (λ q. Question q.system) (legality_questions nest schedule)
    ++ flat_map (fold_items nest) folds))))

-- ---- The moduli that a certificate marks

-- the two elements at the point, the second at least as far along the row
abbrev pub elements_at : (row : Affine) → (point : List ℤ) → Option PairSystem → Option (List ℤ × List ℤ)
elements_at row point None = None
elements_at row point (Some s) =
    if is_behind row s point then Some (values_of s.x.items point, values_of s.y.items point) else Some (values_of s.y.items point, values_of s.x.items point)

abbrev pub pair_of : List PairSystem → (row : Affine) → Option (ℤ × List ℤ) → Option (List ℤ × List ℤ)
pair_of systems row None = None
pair_of systems row (Some pair) = elements_at row pair.1 (numbered systems pair.0)

abbrev pub mark_of : List PairSystem → (row : Affine) → Option LeastShown → Mark
mark_of systems row None = Bound
mark_of systems row (Some l) = Least l.p (pair_of systems row l.pair)

abbrev pub moduli_of : List PairSystem → List Affine → List ModulusShown → List Modulus
moduli_of systems [] ms = []
moduli_of systems (row ∷ rows) [] = []
moduli_of systems (row ∷ rows) (m ∷ ms) = record { form = m.form; mark = mark_of systems row m.least } ∷ moduli_of systems rows ms
