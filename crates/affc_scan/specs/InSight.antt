-- Trees whose names have numbers below a bound, so that a number of names more fits too.
use Rattle.std.specs.Prelude.{◌≡◌, Bool, true, ◌&&◌, List, [], ◌∷◌}
use Rattle.affc_ast.specs.declared.tree.Cond.{Cond}
use Rattle.affc_ast.specs.declared.tree.Cond.TheOpen as cond
use Rattle.affc_ast.specs.declared.tree.Cond.TheOpen.{Cond-F}
use Rattle.affc_ast.specs.declared.tree.Ix.{Ix}
use Rattle.affc_ast.specs.declared.tree.Val.{Val}
use Rattle.affc_ast.specs.declared.tree.Val.TheOpen.{Val-F, Load, Const, Cast, Not, Bin, Shift}
use Rattle.affc_ast.specs.Fits.{all_true}
use Rattle.affc_ast.specs.Recursion.{by_val, by_cond}
use Rattle.affc_ast.specs.Trace.{Assignment}
use Rattle.affc_domain.specs.Affine.{sees}
use Rattle.affc_domain.specs.Rounds.{Round, Loop, Test}

abbrev pub in_sight : Ix → Bool
in_sight = sees 1024

abbrev pub all_in_sight : List Ix → Bool
all_in_sight [] = true
all_in_sight (e ∷ es) = in_sight e && all_in_sight es

abbrev pub cond_sight_step : Cond-F Bool → Bool
cond_sight_step (cond.Compare rel left right) = in_sight left && in_sight right
cond_sight_step (cond.All bs) = all_true bs
cond_sight_step (cond.Any bs) = all_true bs
cond_sight_step (cond.Divides value by so) = in_sight value

abbrev pub cond_in_sight : Cond → Bool
cond_in_sight = by_cond cond_sight_step

abbrev pub value_sight_step : Val-F Bool → Bool
value_sight_step (Load array subs) = all_in_sight subs
value_sight_step (Const n) = true
value_sight_step (Cast e) = in_sight e
value_sight_step (Not a) = a
value_sight_step (Bin op a b) = a && b
value_sight_step (Shift left a by) = a

abbrev pub value_in_sight : Val → Bool
value_in_sight = by_val value_sight_step

abbrev pub round_in_sight : Round → Bool
round_in_sight (Loop iter low rel high) = in_sight low && in_sight high
round_in_sight (Test cond) = cond_in_sight cond

abbrev pub rounds_in_sight : List Round → Bool
rounds_in_sight [] = true
rounds_in_sight (r ∷ rs) = round_in_sight r && rounds_in_sight rs

pub record IsInSight (a : Assignment) : Type 0 where
  pub subs : all_in_sight a.subs ≡ true
  pub value : value_in_sight a.value ≡ true
