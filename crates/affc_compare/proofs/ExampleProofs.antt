-- Each example computes.
use Rattle.std.proofs.Common.{refl, inl, inr, lit≤}
use denote.Hole.Carrier.{hidden}
use Rattle.affc_ast.specs.declared.tree.Ix.TheBlock.{shape-the_row-Ix-0, hidden-the_row-Ix-0}
use Rattle.affc_ast.specs.declared.tree.Val.TheBlock.{shape-the_row-Val-0, hidden-the_row-Val-0}
use Rattle.affc_ast.specs.declared.tree.Stmt.TheBlock.{shape-the_row-Stmt-0, hidden-the_row-Stmt-0}
use Rattle.affc_ast.specs.declared.tree.Instance.{Instance}
use Rattle.affc_ast.specs.Trace.{trace}
use Rattle.affc_trace.specs.declared.schedule.Schedule.TheVariants.{Source}
use Rattle.affc_trace.specs.Law.{IsIn}
use Rattle.affc_trace.specs.Target.{IsScheduleOf}
use Rattle.affc_domain.specs.Plain.{IsPlain}
use Rattle.affc_compare.specs.Asked.{AreAsked}
use Rattle.affc_compare.specs.Examples.{two, at, at_both, side_by_side, square, pairs, interchanged, reversed, OneLoopIsShared, SharedByBranches, LoopsInterchanged, TurnsReversed}

pub one_loop_is_shared : OneLoopIsShared
unfolding shape-the_row-Ix-0 hidden-the_row-Ix-0 shape-the_row-Val-0 hidden-the_row-Val-0 shape-the_row-Stmt-0 hidden-the_row-Stmt-0 hidden
one_loop_is_shared =
    let plain : IsPlain side_by_side = record { few_numbers = lit≤ tt; ranges = refl; few_conditions = lit≤ tt; context = refl; arrays = refl; temps = refl; body = refl; full = refl; tests = refl; few_assignments = lit≤ tt } in
    let asked : (a b : Instance) → IsIn a (trace side_by_side two) → IsIn b (trace side_by_side two) → AreAsked side_by_side Source two a b =
    λ a b i j. record { plain = plain; fits = tt; slight = refl; numbers = refl; first = i; second = j } in (
      (asked (at_both 0 0 1) (at_both 1 0 0) (inr (inl refl)) (inr (inr (inl refl))), λ r h. h.less.1 (inr (inl (refl, inl refl)))),
      (asked (at_both 0 1 0) (at_both 1 0 1) (inr (inr (inr (inr (inl refl))))) (inr (inr (inr (inl refl)))), λ r h. h.greater.1 (inr (inr (inr (inl (refl, inl refl)))))),
      (asked (at_both 1 0 1) (at_both 1 0 1) (inr (inr (inr (inl refl)))) (inr (inr (inr (inl refl)))), λ r h. h.equal.1 refl),
    )

pub shared_by_branches : SharedByBranches
unfolding shape-the_row-Ix-0 hidden-the_row-Ix-0 shape-the_row-Val-0 hidden-the_row-Val-0 shape-the_row-Stmt-0 hidden-the_row-Stmt-0 hidden
shared_by_branches = (refl, refl)

pub loops_interchanged : LoopsInterchanged
unfolding shape-the_row-Ix-0 hidden-the_row-Ix-0 shape-the_row-Val-0 hidden-the_row-Val-0 shape-the_row-Stmt-0 hidden-the_row-Stmt-0 hidden
loops_interchanged =
    let plain : IsPlain square = record { few_numbers = lit≤ tt; ranges = refl; few_conditions = lit≤ tt; context = refl; arrays = refl; temps = refl; body = refl; full = refl; tests = refl; few_assignments = lit≤ tt } in
    let fits : IsScheduleOf square interchanged = (record { columns = refl; components = refl; iterators = refl }, tt) in
    let asked : (a b : Instance) → IsIn a (trace square two) → IsIn b (trace square two) → AreAsked square interchanged two a b =
    λ a b i j. record { plain = plain; fits = fits; slight = refl; numbers = refl; first = i; second = j } in (
      (record { plain = plain; fits = tt; slight = refl; numbers = refl; first = inr (inl refl); second = inr (inr (inl refl)) }, λ r h. h.less.1 (inr (inl (refl, inl refl)))),
      (asked (at_both 0 0 1) (at_both 0 1 0) (inr (inl refl)) (inr (inr (inl refl))), λ r h. h.greater.1 (inr (inl (refl, inl refl)))),
      (asked (at_both 0 0 1) (at_both 0 1 1) (inr (inl refl)) (inr (inr (inr (inl refl)))), λ r h. h.less.1 (inr (inr (inl (refl, inl refl))))),
    )

pub turns_reversed : TurnsReversed
unfolding shape-the_row-Ix-0 hidden-the_row-Ix-0 shape-the_row-Val-0 hidden-the_row-Val-0 shape-the_row-Stmt-0 hidden-the_row-Stmt-0 hidden
turns_reversed =
    let plain : IsPlain pairs = record { few_numbers = lit≤ tt; ranges = refl; few_conditions = lit≤ tt; context = refl; arrays = refl; temps = refl; body = refl; full = refl; tests = refl; few_assignments = lit≤ tt } in
    let fits : IsScheduleOf pairs reversed = (record { columns = refl; components = refl; iterators = refl }, (record { columns = refl; components = refl; iterators = refl }, tt)) in
    let asked : (a b : Instance) → IsIn a (trace pairs two) → IsIn b (trace pairs two) → AreAsked pairs reversed two a b =
    λ a b i j. record { plain = plain; fits = fits; slight = refl; numbers = refl; first = i; second = j } in (
      (asked (at 0 0) (at 0 1) (inl refl) (inr (inr (inl refl))), λ r h. h.greater.1 (inl (refl, inr (inl refl)))),
      (asked (at 1 1) (at 0 0) (inr (inr (inr (inl refl)))) (inl refl), λ r h. h.less.1 (inr (inl (refl, inl refl)))),
      (asked (at 0 1) (at 1 1) (inr (inr (inl refl))) (inr (inr (inr (inl refl)))), λ r h. h.less.1 (inl (refl, inl refl))),
      (asked (at 1 1) (at 0 1) (inr (inr (inr (inl refl)))) (inr (inr (inl refl))), λ r h. h.greater.1 (inl (refl, inl refl))),
    )
