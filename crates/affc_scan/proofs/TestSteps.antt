-- The steps by which tests are made.
use Rattle.std.proofs.Common.{◌≡◌, ℕ, suc, ◌+◌, ◌^◌, ◌≤◌, ℤ, List, [], ◌∷◌, ◌++◌, get_or, ap, ◌∙◌, arith}
use Rattle.std.specs.Prelude.{unsigned_abs}
use Rattle.affc_rows.specs.Forms.{Affine}
use Rattle.affc_ast.specs.declared.tree.Cond.{Cond}
use Rattle.affc_ast.specs.declared.tree.Cond.TheVariants as c
use Rattle.affc_ast.specs.declared.tree.Rel.TheVariants.{Equal}
use Rattle.affc_trace.proofs.EndedReads.{append_assoc}
use Rattle.affc_loops.specs.Limits.{IsSlight}
use Rattle.affc_loops.specs.Loops.{box_tests, time_tests}
use Rattle.affc_loops.specs.Trees.{name_at, form_tree}
use Rattle.affc_loops.specs.terms.Sizes.{IsModest}
use Rattle.affc_scan.specs.Conditions.{conditions}

-- a form of a schedule can be printed
pub slight_is_modest : (f : Affine) → IsSlight f → IsModest f
slight_is_modest f s = record {
  coefs = λ i c l. let w : unsigned_abs (get_or f.coefs i c) ≤ 256 = s.0 i c l in omega arith;
  constant = let w : unsigned_abs f.constant ≤ 2 ^ 30 = s.1 in omega arith;
}

pub one_more_range : (made : List Cond) (r : ℤ × ℤ) (rs : List (ℤ × ℤ)) (from next : ℕ) → next ≡ from + 1
    → (made ++ conditions (box_tests from (r ∷ []))) ++ conditions (box_tests next rs) ≡ made ++ conditions (box_tests from (r ∷ rs))
one_more_range made r rs from next e =
    let q : next ≡ suc from = omega arith in
    ap (λ n. (made ++ conditions (box_tests from (r ∷ []))) ++ conditions (box_tests n rs)) q ∙ append_assoc made (conditions (box_tests from (r ∷ []))) (conditions (box_tests (suc from) rs))

pub one_more_time : (made : List Cond) (f : Affine) (fs : List Affine) (first from component next : ℕ) → next ≡ component + 1
    → (made ++ c.Compare Equal (name_at component) (form_tree first from f) ∷ []) ++ conditions (time_tests first from next fs) ≡ made ++ conditions (time_tests first from component (f ∷ fs))
one_more_time made f fs first from component next e =
    let q : next ≡ suc component = omega arith in
    let a : Cond = c.Compare Equal (name_at component) (form_tree first from f) in
    ap (λ n. (made ++ a ∷ []) ++ conditions (time_tests first from n fs)) q ∙ append_assoc made (a ∷ []) (conditions (time_tests first from (suc component) fs))
