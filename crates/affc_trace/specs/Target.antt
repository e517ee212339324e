-- The order in which a schedule runs a program's instances.
use Rattle.std.specs.Prelude.{◌≡◌, ℕ, suc, ◌+◌, ◌^◌, length, ℤ, Bool, true, ◌&&◌, nat_le, nat_abs, if◌then◌else◌, List, [], ◌∷◌, ◌++◌, Option, Some, None, map, slice_get}
use Rattle.std.specs.declared.cmp.Ordering.{Ordering}
use Rattle.std.specs.declared.cmp.Ordering.TheVariants.{Less}
use Rattle.std.specs.Ordering.{is_lt, ordering_then, nat_cmp, int_cmp}
use Rattle.std.specs.Cmp.Lexicographic.{slice_cmp}
use Rattle.affc_rows.specs.Forms.{Affine, columns_of, values_of}
use Rattle.affc_ast.specs.declared.tree.Instance.{Instance}
use Rattle.affc_ast.specs.declared.tree.Param.{Param}
use Rattle.affc_ast.specs.declared.tree.Param.TheVariants.{Number, Array}
use Rattle.affc_ast.specs.declared.tree.Program.{Program}
use Rattle.affc_ast.specs.declared.tree.Stmt.TheOpen.{Stmt-F, For, If, Assign, Block}
use Rattle.affc_ast.specs.Recursion.{by_stmt}
use Rattle.affc_ast.specs.Trace.{trace}
use Rattle.affc_trace.specs.declared.schedule.TimeMap.{TimeMap}
use Rattle.affc_trace.specs.declared.schedule.Schedule.{Schedule}
use Rattle.affc_trace.specs.declared.schedule.Schedule.TheVariants.{Source, Time}
use Rattle.affc_trace.specs.Orders.{Earlier, IsReordered}

abbrev pub time_by : Option TimeMap → List ℤ → List ℤ
time_by None point = []
time_by (Some m) point = values_of m.forms point

-- an instance's time tuple
abbrev pub time_of : List TimeMap → List ℤ → Instance → List ℤ
time_of maps p b = time_by (slice_get maps b.statement) (p ++ b.iterators)

-- by time, lexicographically, and then by the statement's number
abbrev pub time_cmp : List TimeMap → List ℤ → Instance → Instance → Ordering
time_cmp maps p a b = ordering_then (slice_cmp int_cmp (time_of maps p a) (time_of maps p b)) (nat_cmp a.statement b.statement)

-- in increasing order, and those that tie as they stood
abbrev pub put_in : {A : Type 0} → (A → A → Ordering) → A → List A → List A
put_in cmp x [] = x ∷ []
put_in cmp x (y ∷ ys) = if is_lt (cmp y x) then y ∷ put_in cmp x ys else x ∷ y ∷ ys

abbrev pub in_order_of : {A : Type 0} → (A → A → Ordering) → List A → List A
in_order_of cmp [] = []
in_order_of cmp (x ∷ xs) = put_in cmp x (in_order_of cmp xs)

-- what stands with instances, in the order in which the schedule runs these
abbrev pub ordered : {A : Type 0} → (A → Instance) → Schedule → List ℤ → List A → List A
ordered of Source p xs = xs
ordered of (Time length_of_time maps) p xs = in_order_of (λ x y. time_cmp maps p (of x) (of y)) xs

-- the trace in that order
abbrev pub target : Program → Schedule → List ℤ → List Instance
target program schedule p = ordered (λ b. b) schedule p (trace program p)

-- the same entries, each once, and each less than those after it
pub record IsInOrder {A : Type 0} (cmp : A → A → Ordering) (xs ys : List A) : Type 0 where
  pub reordered : IsReordered xs ys
  pub increasing : (a b : A) → Earlier ys a b → cmp a b ≡ Less

-- ---- Schedules of a program

abbrev pub each_round : List (ℕ → List ℕ) → ℕ → List ℕ
each_round [] depth = []
each_round (f ∷ fs) depth = f depth ++ each_round fs depth

-- for each statement, how many loops stand round it
abbrev pub loops_step : Stmt-F (ℕ → List ℕ) → (depth : ℕ) → List ℕ
loops_step (For iter low rel high body) depth = each_round body (suc depth)
loops_step (If cond body other) depth = each_round body depth ++ each_round other depth
loops_step (Assign op array subs value) depth = depth ∷ []
loops_step (Block locals body) depth = each_round body depth

abbrev pub loops_round : Program → List ℕ
loops_round program = each_round (map (by_stmt loops_step) program.body) 0

-- how many parameters are numbers
abbrev pub numbers_in : List Param → ℕ
numbers_in [] = 0
numbers_in (Number name low high ∷ ps) = suc (numbers_in ps)
numbers_in (Array decl ∷ ps) = numbers_in ps

-- a form for each component, over the parameters and the loops' iterators, and an inverse form for each loop
pub record IsMapOf (parameters loops length_of_time : ℕ) (m : TimeMap) : Type 0 where
  pub columns : columns_of m.forms ≡ parameters + loops
  pub components : length m.forms ≡ length_of_time
  pub iterators : length m.inverse ≡ loops

abbrev pub AreMapsOf : (parameters length_of_time : ℕ) → List ℕ → List TimeMap → Type 0
AreMapsOf parameters length_of_time [] [] = Unit {0}
AreMapsOf parameters length_of_time (loops ∷ ls) (m ∷ ms) = IsMapOf parameters loops length_of_time m × AreMapsOf parameters length_of_time ls ms
AreMapsOf parameters length_of_time _ _ = ⊥

-- a schedule has a map for each statement
abbrev pub IsScheduleOf : Program → Schedule → Type 0
IsScheduleOf program Source = Unit {0}
IsScheduleOf program (Time length_of_time maps) = AreMapsOf (numbers_in program.params) length_of_time (loops_round program) maps

-- ---- Limits of schedules

-- coefficients up to 256 in magnitude
abbrev pub are_slight : List ℤ → Bool
are_slight [] = true
are_slight (c ∷ cs) = nat_le (nat_abs c) 256 && are_slight cs

-- and constants up to 2^30
abbrev pub all_slight : List Affine → Bool
all_slight [] = true
all_slight (f ∷ fs) = (nat_le (nat_abs f.constant) (2 ^ 30) && are_slight f.coefs) && all_slight fs

abbrev pub maps_within : List TimeMap → Bool
maps_within [] = true
maps_within (m ∷ ms) = (all_slight m.forms && all_slight m.inverse) && maps_within ms

-- what the limits of a schedule's text give: 1 to 12 components, and slight forms, as those of the inverses are
abbrev pub within_limits : Schedule → Bool
within_limits Source = true
within_limits (Time length_of_time maps) = (nat_le 1 length_of_time && nat_le length_of_time 12) && maps_within maps
