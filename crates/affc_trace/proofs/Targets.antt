-- The target has the trace's instances, each once; and tests for equal instances and elements.
use Rattle.std.proofs.Common.{◌≡◌, ℤ, true, T, List, [], ◌∷◌, map, refl, sym, ap, subst, ◌∙◌, Ordering}
use Rattle.std.specs.Bool.{Decides}
use Rattle.std.specs.declared.cmp.Ordering.TheVariants.{Less, Equal, Greater}
use Rattle.std.specs.Ordering.{is_eq, ordering_then, nat_cmp, int_cmp}
use Rattle.std.specs.Cmp.{IsTotalOrder, nat_cmp_total, int_cmp_total, then_total, on_total, tied_itself}
use Rattle.std.specs.Cmp.Lexicographic.{lists_total, slice_cmp}
use Rattle.std.specs.FinMap.{nat_cmp-IsAntisymmetric, int_cmp-IsAntisymmetric, slice_cmp-IsAntisymmetric}
use Rattle.affc_ast.specs.declared.tree.Instance.{Instance}
use Rattle.affc_ast.specs.declared.tree.Program.{Program}
use Rattle.affc_ast.specs.Store.{Element, element_cmp}
use Rattle.affc_ast.specs.Trace.{trace}
use Rattle.affc_trace.specs.declared.schedule.Schedule.{Schedule}
use Rattle.affc_trace.specs.declared.schedule.Schedule.TheVariants.{Source, Time}
use Rattle.affc_trace.specs.Orders.{AreDistinct, IsReordered}
use Rattle.affc_ast.specs.Follows.{Stored}
use Rattle.affc_trace.specs.Target.{time_cmp, in_order_of, ordered, target}
use Rattle.affc_trace.specs.Dataflow.{same_element, same_instance, instance_cmp}
use Rattle.affc_trace.proofs.Runs.{element_cmp_total}
use Rattle.affc_trace.proofs.Reorders.{is_reordered, order_map}

-- ---- tests for equality

tied : (r : Ordering) → is_eq r ≡ true → r ≡ Equal
tied Less e = absurd (subst T (sym e) tt)
tied Equal e = refl
tied Greater e = absurd (subst T (sym e) tt)

pub both_tied : (r s : Ordering) → ordering_then r s ≡ Equal → (r ≡ Equal) × (s ≡ Equal)
both_tied Less s e = absurd (subst (λ o. T (is_eq o)) (sym e) tt)
both_tied Equal s e = (refl, e)
both_tied Greater s e = absurd (subst (λ o. T (is_eq o)) (sym e) tt)

decides_by : {K : Type 0} (R : K → K → Ordering) → IsTotalOrder R → ((x y : K) → R x y ≡ Equal → x ≡ y) → (x y : K) → Decides (is_eq (R x y)) (x ≡ y)
decides_by R o a x y = (λ e. a x y (tied (R x y) e), λ e. ap is_eq (ap (R x) (sym e) ∙ tied_itself o x))

pub element_cmp_same : (x y : Element) → element_cmp x y ≡ Equal → x ≡ y
element_cmp_same x y e =
    let b = both_tied (nat_cmp x.0 y.0) (slice_cmp int_cmp x.1 y.1) e in
    let p = nat_cmp-IsAntisymmetric x.0 y.0 b.0 in
    let q = slice_cmp-IsAntisymmetric int_cmp-IsAntisymmetric x.1 y.1 b.1 in
    λ i. (p i, q i)

pub same_element_decides : (x y : Element) → Decides (same_element x y) (x ≡ y)
same_element_decides = decides_by element_cmp element_cmp_total element_cmp_same

pub instance_cmp_total : IsTotalOrder instance_cmp
instance_cmp_total = then_total (on_total (λ (x : Instance). x.statement) nat_cmp_total) (on_total (λ (x : Instance). x.iterators) (lists_total int_cmp_total))

pub instance_cmp_same : (x y : Instance) → instance_cmp x y ≡ Equal → x ≡ y
instance_cmp_same x y e =
    let b = both_tied (nat_cmp x.statement y.statement) (slice_cmp int_cmp x.iterators y.iterators) e in
    let p = nat_cmp-IsAntisymmetric x.statement y.statement b.0 in
    let q = slice_cmp-IsAntisymmetric int_cmp-IsAntisymmetric x.iterators y.iterators b.1 in
    λ i. record { statement = p i; iterators = q i }

pub same_instance_decides : (x y : Instance) → Decides (same_instance x y) (x ≡ y)
same_instance_decides = decides_by instance_cmp instance_cmp_total instance_cmp_same

-- ---- in the order of a schedule

pub map_map : {A B C : Type 0} (f : A → B) (g : B → C) (xs : List A) → map g (map f xs) ≡ map (λ x. g (f x)) xs
map_map f g [] = refl
map_map f g (x ∷ xs) = ap (λ l. g (f x) ∷ l) (map_map f g xs)

pub target_is_reordered : (program : Program) (schedule : Schedule) (p : List ℤ) → AreDistinct (trace program p) → IsReordered (trace program p) (target program schedule p)
target_is_reordered program Source p d = record { once = d; once_in_target = d; kept = λ a i. i; no_other = λ a i. i }
target_is_reordered program (Time length maps) p d = is_reordered (time_cmp maps p) (trace program p) d

-- stores by these instances, in the order of the schedule
pub ordered_stores : (schedule : Schedule) (p : List ℤ) (g : Instance → Stored) → ((b : Instance) → (g b).instance ≡ b) → (is : List Instance)
    → ordered (λ (s : Stored). s.instance) schedule p (map g is) ≡ map g (ordered (λ b. b) schedule p is)
ordered_stores Source p g own is = refl
ordered_stores (Time length maps) p g own is = order_map g (λ (x y : Stored). time_cmp maps p x.instance y.instance) is
    ∙ ap (λ f. map g (in_order_of f is)) (λ i x y. time_cmp maps p (own x i) (own y i))
