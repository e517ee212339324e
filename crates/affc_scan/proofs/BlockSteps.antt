-- The steps by which a block is made.
use Rattle.std.proofs.Common.{◌≡◌, ℕ, suc, ◌+◌, Bool, true, false, List, [], ◌∷◌, ◌++◌, map, refl, sym, ap, ◌∙◌, arith}
use Rattle.affc_ast.specs.declared.tree.Compare.{Compare}
use Rattle.affc_ast.specs.declared.tree.Cond.{Cond}
use Rattle.affc_ast.specs.declared.tree.Cond.TheVariants as c
use Rattle.affc_ast.specs.declared.tree.Cond.TheVariants.{All}
use Rattle.affc_ast.specs.declared.tree.Cond.TheBlock.{Row_of-Cond, more_of-Cond, end_of-Cond}
use Rattle.affc_ast.specs.declared.tree.Ix.{Ix}
use Rattle.affc_ast.specs.declared.tree.Local.{Local}
use Rattle.affc_ast.specs.declared.tree.Rel.{Rel}
use Rattle.affc_ast.specs.declared.tree.Stmt.{Stmt}
use Rattle.affc_ast.specs.declared.tree.Stmt.TheVariants.{If}
use Rattle.affc_ast.specs.Denials.{denied_step, denied}
use Rattle.affc_ast.specs.Fits.{all_true}
use Rattle.affc_ast.specs.Recursion.{by_entries}
use Rattle.affc_ast.proofs.Steps.{all_here, any_here}
use Rattle.affc_rows.specs.Forms.{Affine}
use Rattle.affc_trace.proofs.EndedReads.{append_assoc}
use Rattle.affc_trace.proofs.LastStores.{append_nil}
use Rattle.affc_domain.specs.Rounds.{Round, Loop, Test, loops_in}
use Rattle.affc_domain.proofs.Lists.{both_true}
use Rattle.affc_loops.specs.Loops.{locals_of, if_any, loop_tests, guarded}
use Rattle.affc_loops.specs.Trees.{form_tree, moved_cond}
use Rattle.affc_nest.specs.Frames.{denied_if}
use Rattle.affc_scan.specs.Conditions.{conditions, under_all, under_round}
use Rattle.affc_scan.specs.InSight.{cond_sight_step, cond_in_sight, round_in_sight, rounds_in_sight}

-- ---- Under conditions

-- tests as conditions
pub tests_under : (cs : List Compare) (body : List Stmt) → under_all (conditions cs) body ≡ if_any cs body
tests_under [] body = refl
tests_under (c ∷ []) body = refl
tests_under (c ∷ d ∷ cs) body = refl

-- the tests of ranges round those of times
pub tested_is : (boxes times : List Compare) (boxed timed new others : List Cond) (inner mid whole : List Stmt) → boxed ≡ others ++ conditions boxes → others ≡ [] → timed ≡ new ++ conditions times → new ≡ []
    → mid ≡ under_all timed inner → whole ≡ under_all boxed mid → whole ≡ if_any boxes (if_any times inner)
tested_is boxes times boxed timed new others inner mid whole b o t n m w =
    w
    ∙ ap (λ cs. under_all cs mid) (b ∙ ap (λ cs. cs ++ conditions boxes) o)
    ∙ tests_under boxes mid
    ∙ ap (if_any boxes) (m ∙ ap (λ cs. under_all cs inner) (t ∙ ap (λ cs. cs ++ conditions times) n) ∙ tests_under times inner)

pub under_bounds : (first more from : ℕ) (low : Ix) (rel : Rel) (high : Ix) (body : List Stmt) → under_all (conditions (loop_tests first more from low rel high)) body ≡ if_any (loop_tests first more from low rel high) body
under_bounds first more from low rel high body = tests_under (loop_tests first more from low rel high) body

-- the last of them taken away, and where there are more put back
pub under_one : (conds less : List Cond) (last : Cond) (body : List Stmt) → conds ≡ less ++ last ∷ [] → less ≡ [] → If last body [] ∷ [] ≡ under_all conds body
under_one conds less last body e f = sym (ap (λ cs. under_all cs body) (e ∙ ap (λ cs. cs ++ last ∷ []) f))

pub under_more : (conds less again : List Cond) (last : Cond) (body : List Stmt) → conds ≡ less ++ last ∷ [] → (less ≡ [] → ⊥) → again ≡ less ++ last ∷ [] → If (All again) body [] ∷ [] ≡ under_all conds body
under_more conds [] again last body e f g = absurd (f refl)
under_more conds (c ∷ []) again last body e f g = ap (λ cs. If (All cs) body [] ∷ []) g ∙ sym (ap (λ cs. under_all cs body) e)
under_more conds (c ∷ d ∷ cs) again last body e f g = ap (λ cs. If (All cs) body [] ∷ []) g ∙ sym (ap (λ cs. under_all cs body) e)

mutual
  denied_sight' : (x : Cond) → cond_in_sight (denied x) ≡ cond_in_sight x
  denied_sight' (c.Compare rel left right) = refl
  denied_sight' (c.All' shape entries) = any_here cond_sight_step (by_entries denied_step entries) ∙ ap all_true (all_denied_sight entries)
  denied_sight' (c.Any' shape entries) = all_here cond_sight_step (by_entries denied_step entries) ∙ ap all_true (all_denied_sight entries)
  denied_sight' (c.Divides value by so) = refl

  all_denied_sight : {n : _} (entries : Row_of-Cond n) → map cond_in_sight (by_entries denied_step entries) ≡ by_entries cond_sight_step entries
  all_denied_sight end_of-Cond = refl
  all_denied_sight (more_of-Cond x rest) = λ i. denied_sight' x i ∷ all_denied_sight rest i

pub denied_sight : (is_denied : Bool) (x : Cond) → cond_in_sight (denied_if is_denied x) ≡ true → cond_in_sight x ≡ true
denied_sight false x h = h
denied_sight true x h = sym (denied_sight' x) ∙ h

pub guarded_step : (first more from next : ℕ) (r : Round) (rs : List Round) (body : List Stmt) → next ≡ from + loops_in (r ∷ [])
    → under_round first more from r (guarded first more next rs body) ≡ guarded first more from (r ∷ rs) body
guarded_step first more from next (Loop iter low rel high) rs body e =
    let q : next ≡ suc from = omega arith in
    ap (λ n. if_any (loop_tests first more from low rel high) (guarded first more n rs body)) q
guarded_step first more from next (Test cond) rs body e =
    let q : next ≡ from = omega arith in
    ap (λ n. If (moved_cond first more cond) (guarded first more n rs body) [] ∷ []) q

pub in_sight_parts : (r : Round) (rs : List Round) → rounds_in_sight (r ∷ rs) ≡ true → (round_in_sight r ≡ true) × (rounds_in_sight rs ≡ true)
in_sight_parts r rs e = both_true (round_in_sight r) (rounds_in_sight rs) e

pub loops_parts : (r : Round) (rs : List Round) → loops_in (r ∷ rs) ≡ loops_in (r ∷ []) + loops_in rs
loops_parts (Loop iter low rel high) rs = omega arith
loops_parts (Test cond) rs = omega arith

pub locals_step : (made : List Local) (first : ℕ) (w : List ℕ) (ws : List (List ℕ)) (g : Affine) (gs : List Affine)
    → (made ++ locals_of first (w ∷ []) (g ∷ [])) ++ locals_of first ws gs ≡ made ++ locals_of first (w ∷ ws) (g ∷ gs)
locals_step made first w ws g gs = append_assoc made (record { name = w; value = form_tree first first g } ∷ []) (locals_of first ws gs)

pub no_local : (made : List Local) (first : ℕ) (gs : List Affine) → made ≡ made ++ locals_of first [] gs
no_local made first gs = sym (append_nil made)

pub locals_end : (made : List Local) (first : ℕ) (w : List ℕ) (ws : List (List ℕ)) → made ≡ made ++ locals_of first (w ∷ ws) []
locals_end made first w ws = sym (append_nil made)
