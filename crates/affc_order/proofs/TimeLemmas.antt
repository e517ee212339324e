-- Comparisons of times, and the values of their forms.
use Rattle.std.proofs.Common.{◌≡◌, ℕ, zero, suc, ◌+◌, ℤ, pos, ◌+ℤ◌, ◌≤ℤ◌, Bool, true, false, IsTrue, cond, List, [], ◌∷◌, ◌++◌, length, map, Some, refl, sym, ap, subst, ◌∙◌, ◌⊎◌, inl, inr, arith, Ordering}
use Rattle.std.specs.Prelude.{nat_lt, slice_get, ◌==◌}
use Rattle.std.specs.declared.cmp.Ordering.TheVariants as ord
use Rattle.std.specs.Ordering.{ordering_then, nat_cmp, int_cmp}
use Rattle.std.specs.Cmp.{int_cmp_total, tied_itself}
use Rattle.std.specs.Cmp.Lexicographic.{slice_cmp}
use Rattle.std.specs.FinMap.{int_cmp-IsAntisymmetric}
use Rattle.affc_rows.specs.Forms.{Affine, values_of, HaveColumns}
use Rattle.affc_ast.specs.declared.tree.Instance.{Instance}
use Rattle.affc_ast.specs.declared.tree.Program.{Program}
use Rattle.affc_ast.specs.Trace.{trace}
use Rattle.affc_trace.specs.declared.schedule.Schedule.TheVariants.{Time}
use Rattle.affc_trace.specs.declared.schedule.TimeMap.{TimeMap}
use Rattle.affc_trace.specs.Inverses.{columns_from}
use Rattle.affc_trace.specs.Law.{IsIn}
use Rattle.affc_trace.specs.Target.{time_by, time_of, IsMapOf, IsScheduleOf, numbers_in, loops_round}
use Rattle.affc_trace.proofs.Depths.{depth}
use Rattle.affc_trace.proofs.Ordered.{map_of}
use Rattle.affc_trace.proofs.Runs.{length_append}
use Rattle.affc_domain.specs.Loops.{IsBefore}
use Rattle.affc_domain.proofs.ColumnLemmas.{append_columns, values_append, values_long}
use Rattle.affc_domain.proofs.Lists.{int_less, less_int}
use Rattle.affc_order.specs.Posed.{Posed, IsPosed, form_at}
use Rattle.affc_order.specs.Systems.{forms_or_none}
use Rattle.affc_order.proofs.ColumnLemmas.{at_values, from_width, from_long, segment}

-- ---- Comparisons

pub nat_less : (m n : ℕ) → nat_cmp m n ≡ ord.Less → IsTrue (nat_lt m n)
nat_less m n h = chosen (nat_lt m n) h
  where
    other : (u : Bool) → cond u ord.Equal ord.Greater ≡ ord.Less → ⊥
    other true h = cc
    other false h = cc

    chosen : (t : Bool) → cond t ord.Less (cond (m == n) ord.Equal ord.Greater) ≡ ord.Less → IsTrue t
    chosen true h = refl
    chosen false h = absurd (other (m == n) h)

pub less_nat : (m n : ℕ) → IsTrue (nat_lt m n) → nat_cmp m n ≡ ord.Less
less_nat m n h = ap (λ t. cond t ord.Less (cond (m == n) ord.Equal ord.Greater)) h

-- a comparison of tuples with so many components, and then this
pub less_before : (n : ℕ) (xs ys : List ℤ) (r : Ordering) → length xs ≡ n → length ys ≡ n → ordering_then (slice_cmp int_cmp xs ys) r ≡ ord.Less → IsBefore n xs ys (r ≡ ord.Less)
less_before zero [] [] r e f h = h
less_before zero [] (y ∷ ys) r e f h = absurd (omega arith)
less_before zero (x ∷ xs) ys r e f h = absurd (omega arith)
less_before (suc n) [] ys r e f h = absurd (omega arith)
less_before (suc n) (x ∷ xs) [] r e f h = absurd (omega arith)
less_before (suc n) (x ∷ xs) (y ∷ ys) r e f h = by_first (int_cmp x y) refl (less_before n xs ys r (omega (arith, e)) (omega (arith, f))) h
  where
    by_first : (o : Ordering) → int_cmp x y ≡ o → (ordering_then (slice_cmp int_cmp xs ys) r ≡ ord.Less → IsBefore n xs ys (r ≡ ord.Less))
        → ordering_then (ordering_then o (slice_cmp int_cmp xs ys)) r ≡ ord.Less → ((x +ℤ pos 1) ≤ℤ y) ⊎ ((x ≡ y) × IsBefore n xs ys (r ≡ ord.Less))
    by_first ord.Less q rest h = inl (int_less x y q)
    by_first ord.Equal q rest h = inr (int_cmp-IsAntisymmetric x y q, rest h)
    by_first ord.Greater q rest h = absurd (cc)

pub before_less : (n : ℕ) (xs ys : List ℤ) (r : Ordering) → length xs ≡ n → length ys ≡ n → IsBefore n xs ys (r ≡ ord.Less) → ordering_then (slice_cmp int_cmp xs ys) r ≡ ord.Less
before_less zero [] [] r e f h = h
before_less zero [] (y ∷ ys) r e f h = absurd (omega arith)
before_less zero (x ∷ xs) ys r e f h = absurd (omega arith)
before_less (suc n) [] ys r e f h = absurd (omega arith)
before_less (suc n) (x ∷ xs) [] r e f h = absurd (omega arith)
before_less (suc n) (x ∷ xs) (y ∷ ys) r e f (inl h) = ap (λ o. ordering_then (ordering_then o (slice_cmp int_cmp xs ys)) r) (less_int x y h)
before_less (suc n) (x ∷ xs) (y ∷ ys) r e f (inr q) =
    ap (λ o. ordering_then (ordering_then o (slice_cmp int_cmp xs ys)) r) (ap (int_cmp x) (sym q.0) ∙ tied_itself int_cmp_total x)
    ∙ before_less n xs ys r (omega (arith, e)) (omega (arith, f)) q.1

-- ---- Times

module _ (program : Program) (n : ℕ) (maps : List TimeMap) (p more : List ℤ) (fits : IsScheduleOf program (Time n maps)) (numbers : length p ≡ numbers_in program.params)
    (a : Posed) (i : Instance) (stands : IsIn i (trace program p)) (posed : IsPosed (p ++ more) a i) where
  abbrev zs : List ℤ
  zs = p ++ more

  abbrev pub images : List Affine
  images = columns_from (length zs) 0 (length p) ++ a.iterators

  images_width : HaveColumns (length zs) images
  images_width = append_columns (length zs) (columns_from (length zs) 0 (length p)) a.iterators (from_width (length zs) 0 (length p)) posed.columns

  images_value : values_of images zs ≡ p ++ i.iterators
  images_value =
      values_append (columns_from (length zs) 0 (length p)) a.iterators zs
      ∙ ap (λ ys. ys ++ values_of a.iterators zs) (segment [] p more) ∙ ap (λ ys. p ++ ys) posed.iterators

  images_long : length images ≡ length p + length i.iterators
  images_long =
      length_append (columns_from (length zs) 0 (length p)) a.iterators
      ∙ omega (arith, from_long (length zs) 0 (length p), values_long a.iterators zs, ap length posed.iterators)

  -- the forms of a time at the point, where this is the number of the instance's statement, and how many components it has
  pub time_value : (statement : ℕ) → statement ≡ i.statement → (values_of (map (form_at (length zs) images) (forms_or_none (slice_get maps statement))) zs ≡ time_of maps p i) × (length (time_of maps p i) ≡ n)
  time_value statement same =
      let r = map_of (numbers_in program.params) n (loops_round program) maps fits i.statement (length i.iterators) (depth program p i stands) in
      let m : TimeMap = r.0 in
      let at : slice_get maps statement ≡ Some m = ap (slice_get maps) same ∙ r.1 in
      let shape : IsMapOf (numbers_in program.params) (length i.iterators) n m = r.2 in
      let w : HaveColumns (length images) m.forms = subst (λ k. HaveColumns k m.forms) (shape.columns ∙ ap (λ k. k + length i.iterators) (sym numbers) ∙ sym images_long) m.shaped in
      let time : time_of maps p i ≡ values_of m.forms (p ++ i.iterators) = ap (λ o. time_by o (p ++ i.iterators)) r.1 in (
        ap (λ o. values_of (map (form_at (length zs) images) (forms_or_none o)) zs) at ∙ at_values images m.forms zs w images_width ∙ ap (values_of m.forms) images_value ∙ sym time,
        ap length time ∙ values_long m.forms (p ++ i.iterators) ∙ shape.components,
      )
