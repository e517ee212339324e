-- What may be scanned of the example.
use Rattle.std.proofs.Common.{◌≡◌, ◌^◌, ◌≤◌, List, [], ◌∷◌, ℤ, pos, negsuc, lit≤, refl, sym, ap, subst, ◌∙◌}
use Rattle.std.specs.Prelude.{None, unsigned_abs}
use Rattle.std.specs.Global.{Vec}
use Rattle.std.specs.List.{All}
use denote.Hole.Carrier.{hidden}
use Rattle.std.proofs.lemmas.List.Elements.{All-nil, All-cons}
use Rattle.affc_rows.specs.Forms.{Affine}
use Rattle.affc_ast.specs.declared.tree.Ix.{Ix}
use Rattle.affc_ast.specs.declared.tree.Ix.TheBlock.{shape-the_row-Ix-0, hidden-the_row-Ix-0}
use Rattle.affc_ast.specs.declared.tree.Ix.TheVariants.{Neg, Add, Min, Max}
use Rattle.affc_ast.specs.declared.tree.Rel.TheVariants.{Less}
use Rattle.affc_ast.specs.declared.tree.Stmt.TheBlock.{shape-the_row-Stmt-0, hidden-the_row-Stmt-0}
use Rattle.affc_ast.specs.declared.tree.Val.TheBlock.{shape-the_row-Val-0, hidden-the_row-Val-0}
use Rattle.affc_ast.specs.declared.tree.Val.TheVariants.{Load}
use Rattle.affc_domain.specs.Ranges.{number_ranges}
use Rattle.affc_domain.specs.Rounds.{Loop}
use Rattle.affc_loops.specs.Between.{program_between}
use Rattle.affc_loops.specs.Ends.{ends_of}
use Rattle.affc_loops.specs.Examples.{lit, name, n, backwards}
use Rattle.affc_loops.specs.Loops.{Scheduled, scheduled, time_ranges}
use Rattle.affc_loopends.specs.declared.bounds.Bounds.TheVariants.{Between}
use Rattle.affc_loopends.specs.Ends.{AreEnds}
use Rattle.affc_loopends.specs.Examples as ends
use Rattle.affc_loopends.specs.Sizes.{IsModest}
use Rattle.affc_loopends.specs.TimeRows.{system_of}
use Rattle.affc_loopends.proofs.ExampleProofs.{reversed_ends}
use Rattle.affc_loopends.specs.scanned.Examples.{nine, NineHasLoops, ScansBetweenRows}
use Rattle.affc_loopends.specs.scanned.Scanned.{AreBoundsOfEach, all_loose}

-- ---- The program

pub has_loops : NineHasLoops
unfolding shape-the_row-Ix-0 hidden-the_row-Ix-0 shape-the_row-Val-0 hidden-the_row-Val-0 shape-the_row-Stmt-0 hidden-the_row-Stmt-0 hidden
has_loops = record {
  plain = record { few_numbers = lit≤ tt; ranges = refl; few_conditions = lit≤ tt; context = refl; arrays = refl; temps = refl; body = refl; full = refl; tests = refl; few_assignments = lit≤ tt };
  near = refl;
  scheduled = (record { columns = refl; components = refl; iterators = refl }, tt);
  limits = refl;
}

abbrev pub its_statement : Scheduled
its_statement = record {
  statement = 0;
  around = Loop [] (lit 0) Less n ∷ [];
  assignment = record { op = None; array = record { 0 = 1 }; subs = name 1 ∷ []; value = Load (record { 0 = 0 }) (name 1 ∷ []) };
  times = backwards;
  ranges = (pos 0, pos 8) ∷ [];
}

abbrev its_scheduled : List Scheduled
its_scheduled = scheduled nine (backwards ∷ [])

abbrev pub its_ranges : List (ℤ × ℤ)
its_ranges = (negsuc 7, pos 0) ∷ []

pub scheduled_are : its_scheduled ≡ its_statement ∷ []
unfolding shape-the_row-Ix-0 hidden-the_row-Ix-0 shape-the_row-Val-0 hidden-the_row-Val-0 shape-the_row-Stmt-0 hidden-the_row-Stmt-0 hidden
scheduled_are = refl

-- ---- Its bounds

abbrev known : List (ℤ × ℤ)
known = (pos 1, pos 9) ∷ its_ranges

abbrev Few : ℤ → Type 0
Few c = unsigned_abs c ≤ 2 ^ 40

from_is_modest : All (IsModest known) (ends.from ∷ [])
from_is_modest =
    All-cons (IsModest known) ends.from []
    (record { terms = lit≤ tt; coefs = All-cons Few (pos 1) (pos 1 ∷ []) (lit≤ tt) (All-cons Few (pos 1) [] (lit≤ tt) (All-nil Few)); constant = lit≤ tt })
    (All-nil (IsModest known))

up_to_is_modest : All (IsModest known) (ends.up_to ∷ [])
up_to_is_modest =
    All-cons (IsModest known) ends.up_to []
    (record { terms = lit≤ tt; coefs = All-cons Few (pos 0) (negsuc 0 ∷ []) (lit≤ tt) (All-cons Few (negsuc 0) [] (lit≤ tt) (All-nil Few)); constant = lit≤ tt })
    (All-nil (IsModest known))

-- the statement is that of affc_loopends' example
bounds_are : (lower upper : Vec Affine) → AreEnds (system_of ends.reversed) 1 lower.items upper.items → All (IsModest known) lower.items → All (IsModest known) upper.items
    → AreBoundsOfEach nine its_ranges (its_statement ∷ []) ((Between lower upper ∷ []) ∷ [])
unfolding shape-the_row-Ix-0 hidden-the_row-Ix-0 hidden
bounds_are lower upper e l u = (record { one_each = refl; projected = ((e, l, u), tt) }, tt)

abbrev ends_by : (lower upper : List Affine) → List (Ix × Ix)
ends_by lower upper = ends_of nine (backwards ∷ []) (((lower, upper) ∷ []) ∷ [])

ends_are : ends_by (ends.from ∷ []) (ends.up_to ∷ []) ≡ (Max (Add (Neg n) (lit 1)) (Neg (lit 8)), Min (lit 0) (lit 0)) ∷ []
unfolding shape-the_row-Ix-0 hidden-the_row-Ix-0 shape-the_row-Val-0 hidden-the_row-Val-0 shape-the_row-Stmt-0 hidden-the_row-Stmt-0 hidden
ends_are = refl

pub scans : ScansBetweenRows
scans lower upper none below above empty =
    let bounds = (Between lower upper ∷ []) ∷ [] in
    let e =
    subst (λ rs. AreEnds (system_of ends.reversed) 1 lower.items rs) (sym above)
    (subst (λ rs. AreEnds (system_of ends.reversed) 1 rs (ends.up_to ∷ [])) (sym below) reversed_ends) in
    let l = subst (All (IsModest known)) (sym below) from_is_modest in
    let u = subst (All (IsModest known)) (sym above) up_to_is_modest in
    record {
      bounds = bounds;
      are_bounds = subst (λ es. AreBoundsOfEach nine (time_ranges (number_ranges nine.params) es) es bounds) (sym scheduled_are) (bounds_are lower upper e l u);
      is = ap (λ es. program_between nine (backwards ∷ []) es) (sym (ap (λ rs. ends_by rs upper.items) below ∙ ap (λ rs. ends_by (ends.from ∷ []) rs) above ∙ ends_are));
      loose = empty ∙ ap (λ es. all_loose es bounds) (sym scheduled_are);
    }
