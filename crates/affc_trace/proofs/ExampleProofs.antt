-- Each example computes.
use Rattle.std.proofs.Common.{◌≡◌, ℕ, zero, suc, ◌<◌, ℤ, List, [], ◌∷◌, refl, ap, inl, inr, arith, lit≤, sym, subst}
use denote.Hole.Carrier.{hidden}
use Rattle.affc_ast.specs.declared.tree.Ix.TheBlock.{shape-the_row-Ix-0, hidden-the_row-Ix-0}
use Rattle.affc_ast.specs.declared.tree.Val.TheBlock.{shape-the_row-Val-0, hidden-the_row-Val-0}
use Rattle.affc_ast.specs.declared.tree.Cond.TheBlock.{shape-the_row-Cond-0, hidden-the_row-Cond-0}
use Rattle.affc_ast.specs.declared.tree.Stmt.TheBlock.{shape-the_row-Stmt-0, hidden-the_row-Stmt-0}
use Rattle.affc_ast.specs.declared.tree.Instance.{Instance}
use Rattle.affc_ast.specs.Meaning.{Outcome, Ended, Stuck}
use Rattle.affc_trace.specs.Law.{IsIn}
use Rattle.affc_trace.specs.Laws.{IsUnwritten}
use Rattle.affc_trace.specs.Examples.{S0, S1, BlurTakesTurns, BlurSources, BlurLivePairs, BlurIsLegal, BlurHasItsMaps, TwelveComponents, SlightForms, SlightMaps, LoadsDependOnNothing, FoldedBlurFollows, FoldedBlurDoes, InputIsNotShared, at_input, NumberDecidesTies, TieIsIllegal, FirstComponentDecides, TiesStayAsTheyStood, OrdersKeepInstances, BackwardsIsIllegal, OwnStoreComesAfter, HandedInIsNoSource, LoopsAreCounted, LocalsAreSeen, ScalarHasOneElement, StuckForAValueRunsTarget, StuckOutOfBoundsDoesNot}

one_is_not_two : ◌≡◌ {A = ℕ} 1 2 → ⊥
one_is_not_two e = omega arith

zero_is_not_one : ◌≡◌ {A = ℕ} 0 1 → ⊥
zero_is_not_one e = omega arith

-- another statement than the one of the list
is_another : (a b : Instance) → (a.statement ≡ b.statement → ⊥) → IsIn a (b ∷ []) → ⊥
is_another a b h (inl e) = h (ap (λ c. c.statement) e)
is_another a b h (inr i) = i

pub blur_takes_turns : BlurTakesTurns
unfolding shape-the_row-Ix-0 hidden-the_row-Ix-0 shape-the_row-Val-0 hidden-the_row-Val-0 shape-the_row-Stmt-0 hidden-the_row-Stmt-0 shape-the_row-Cond-0 hidden-the_row-Cond-0 hidden
blur_takes_turns = refl

pub blur_sources : BlurSources
unfolding shape-the_row-Ix-0 hidden-the_row-Ix-0 shape-the_row-Val-0 hidden-the_row-Val-0 shape-the_row-Stmt-0 hidden-the_row-Stmt-0 shape-the_row-Cond-0 hidden-the_row-Cond-0 hidden
blur_sources = (refl, refl)

pub blur_live_pairs : BlurLivePairs
unfolding shape-the_row-Ix-0 hidden-the_row-Ix-0 shape-the_row-Val-0 hidden-the_row-Val-0 shape-the_row-Stmt-0 hidden-the_row-Stmt-0 shape-the_row-Cond-0 hidden-the_row-Cond-0 hidden
blur_live_pairs = refl

pub blur_is_legal : BlurIsLegal
unfolding shape-the_row-Ix-0 hidden-the_row-Ix-0 shape-the_row-Val-0 hidden-the_row-Val-0 shape-the_row-Stmt-0 hidden-the_row-Stmt-0 shape-the_row-Cond-0 hidden-the_row-Cond-0 hidden
blur_is_legal = refl

pub blur_has_its_maps : BlurHasItsMaps
unfolding shape-the_row-Ix-0 hidden-the_row-Ix-0 shape-the_row-Val-0 hidden-the_row-Val-0 shape-the_row-Stmt-0 hidden-the_row-Stmt-0 shape-the_row-Cond-0 hidden-the_row-Cond-0 hidden
blur_has_its_maps = (
  (record { columns = refl; components = refl; iterators = refl }, (record { columns = refl; components = refl; iterators = refl }, tt)),
  λ h. h.1,
  λ h. one_is_not_two h.0.components,
)

pub twelve_components : TwelveComponents
twelve_components = (refl, refl, refl, refl, refl)

pub slight_forms : SlightForms
slight_forms = (refl, refl, refl, refl)

pub slight_maps : SlightMaps
slight_maps = (refl, refl, refl)

pub loads_depend_on_nothing : LoadsDependOnNothing
unfolding shape-the_row-Ix-0 hidden-the_row-Ix-0 shape-the_row-Val-0 hidden-the_row-Val-0 shape-the_row-Stmt-0 hidden-the_row-Stmt-0 shape-the_row-Cond-0 hidden-the_row-Cond-0 hidden
loads_depend_on_nothing = (refl, refl)

pub folded_blur_follows : FoldedBlurFollows
unfolding shape-the_row-Ix-0 hidden-the_row-Ix-0 shape-the_row-Val-0 hidden-the_row-Val-0 shape-the_row-Stmt-0 hidden-the_row-Stmt-0 shape-the_row-Cond-0 hidden-the_row-Cond-0 hidden
folded_blur_follows = record { source_end = _; source_ends = refl; target_end = _; target_ends = refl; own_elements = refl; written = refl }

pub folded_blur_does : FoldedBlurDoes
unfolding shape-the_row-Ix-0 hidden-the_row-Ix-0 shape-the_row-Val-0 hidden-the_row-Val-0 shape-the_row-Stmt-0 hidden-the_row-Stmt-0 shape-the_row-Cond-0 hidden-the_row-Cond-0 hidden
folded_blur_does = refl

parameter_stays : (array : ℕ) (x : List ℤ) → array < 2 → at_input (array, x) ≡ (array, x)
parameter_stays zero x h = refl
parameter_stays (suc zero) x h = refl
parameter_stays (suc (suc n)) x h = absurd (omega (arith, h))

two_is_not_below : 2 < 2 → ⊥
two_is_not_below h = omega (arith, h)

pub input_is_not_shared : InputIsNotShared
unfolding shape-the_row-Ix-0 hidden-the_row-Ix-0 shape-the_row-Val-0 hidden-the_row-Val-0 shape-the_row-Stmt-0 hidden-the_row-Stmt-0 hidden
input_is_not_shared = (λ x. refl, λ x h. parameter_stays x.0 x.1 h, λ k. two_is_not_below (k.no_other 2 (lit≤ tt)))

pub number_decides_ties : NumberDecidesTies
unfolding shape-the_row-Ix-0 hidden-the_row-Ix-0 shape-the_row-Val-0 hidden-the_row-Val-0 shape-the_row-Stmt-0 hidden-the_row-Stmt-0 shape-the_row-Cond-0 hidden-the_row-Cond-0 hidden
number_decides_ties = refl

pub tie_is_illegal : TieIsIllegal
unfolding shape-the_row-Ix-0 hidden-the_row-Ix-0 shape-the_row-Val-0 hidden-the_row-Val-0 shape-the_row-Stmt-0 hidden-the_row-Stmt-0 shape-the_row-Cond-0 hidden-the_row-Cond-0 hidden
tie_is_illegal = refl

pub first_component_decides : FirstComponentDecides
unfolding shape-the_row-Ix-0 hidden-the_row-Ix-0 shape-the_row-Val-0 hidden-the_row-Val-0 shape-the_row-Stmt-0 hidden-the_row-Stmt-0 shape-the_row-Cond-0 hidden-the_row-Cond-0 hidden
first_component_decides = refl

pub ties_stay_as_they_stood : TiesStayAsTheyStood
unfolding shape-the_row-Ix-0 hidden-the_row-Ix-0 shape-the_row-Val-0 hidden-the_row-Val-0 shape-the_row-Stmt-0 hidden-the_row-Stmt-0 shape-the_row-Cond-0 hidden-the_row-Cond-0 hidden
ties_stay_as_they_stood = refl

pub orders_keep_instances : OrdersKeepInstances
orders_keep_instances = (
  λ r. r.once_in_target.0 (inr (inl refl)),
  λ r. r.once.0 (inr (inl refl)),
  λ r. is_another (S0 0) (S1 0) zero_is_not_one (r.kept (S0 0) (inl refl)),
  λ r. is_another (S1 0) (S0 0) (λ e. zero_is_not_one (sym e)) (r.no_other (S1 0) (inl refl)),
)

pub backwards_is_illegal : BackwardsIsIllegal
unfolding shape-the_row-Ix-0 hidden-the_row-Ix-0 shape-the_row-Val-0 hidden-the_row-Val-0 shape-the_row-Stmt-0 hidden-the_row-Stmt-0 shape-the_row-Cond-0 hidden-the_row-Cond-0 hidden
backwards_is_illegal = (refl, refl)

pub own_store_comes_after : OwnStoreComesAfter
unfolding shape-the_row-Ix-0 hidden-the_row-Ix-0 shape-the_row-Val-0 hidden-the_row-Val-0 shape-the_row-Stmt-0 hidden-the_row-Stmt-0 shape-the_row-Cond-0 hidden-the_row-Cond-0 hidden
own_store_comes_after = refl

pub handed_in_is_no_source : HandedInIsNoSource
unfolding shape-the_row-Ix-0 hidden-the_row-Ix-0 shape-the_row-Val-0 hidden-the_row-Val-0 shape-the_row-Stmt-0 hidden-the_row-Stmt-0 shape-the_row-Cond-0 hidden-the_row-Cond-0 hidden
handed_in_is_no_source = (refl, refl)

pub loops_are_counted : LoopsAreCounted
unfolding shape-the_row-Ix-0 hidden-the_row-Ix-0 shape-the_row-Val-0 hidden-the_row-Val-0 shape-the_row-Stmt-0 hidden-the_row-Stmt-0 shape-the_row-Cond-0 hidden-the_row-Cond-0 hidden
loops_are_counted = refl

pub locals_are_seen : LocalsAreSeen
unfolding shape-the_row-Ix-0 hidden-the_row-Ix-0 shape-the_row-Val-0 hidden-the_row-Val-0 shape-the_row-Stmt-0 hidden-the_row-Stmt-0 shape-the_row-Cond-0 hidden-the_row-Cond-0 hidden
locals_are_seen = (refl, refl)

pub scalar_has_one_element : ScalarHasOneElement
unfolding shape-the_row-Ix-0 hidden-the_row-Ix-0 shape-the_row-Val-0 hidden-the_row-Val-0 shape-the_row-Stmt-0 hidden-the_row-Stmt-0 shape-the_row-Cond-0 hidden-the_row-Cond-0 hidden
scalar_has_one_element = (refl, refl)

-- stuck, if at all, for want of a value
abbrev IsAtMostUnwritten : Outcome → Type 0
IsAtMostUnwritten (Ended end) = Unit {0}
IsAtMostUnwritten (Stuck cause steps) = IsUnwritten cause

pub stuck_for_a_value : StuckForAValueRunsTarget
unfolding shape-the_row-Ix-0 hidden-the_row-Ix-0 shape-the_row-Val-0 hidden-the_row-Val-0 shape-the_row-Stmt-0 hidden-the_row-Stmt-0 shape-the_row-Cond-0 hidden-the_row-Cond-0 hidden
stuck_for_a_value = ((_, refl), record { does = refl; only_unwritten = λ cause steps e. subst IsAtMostUnwritten e tt })

pub stuck_out_of_bounds : StuckOutOfBoundsDoesNot
unfolding shape-the_row-Ix-0 hidden-the_row-Ix-0 shape-the_row-Val-0 hidden-the_row-Val-0 shape-the_row-Stmt-0 hidden-the_row-Stmt-0 shape-the_row-Cond-0 hidden-the_row-Cond-0 hidden
stuck_out_of_bounds = ((_, refl), λ r. r.only_unwritten _ _ refl)
