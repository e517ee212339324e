-- A body under its guards is done where all their tests hold.
use Rattle.std.proofs.Common.{◌≡◌, ℕ, suc, ℤ, Bool, true, false, ◌&&◌, if◌then◌else◌, List, [], ◌∷◌, refl, ap, ◌∙◌}
use Rattle.affc_ast.specs.declared.tree.Compare.{Compare}
use Rattle.affc_ast.specs.declared.tree.Rel.TheVariants.{LessEqual}
use Rattle.affc_ast.specs.declared.tree.Stmt.{Stmt}
use Rattle.affc_ast.specs.Fits.{holds, all_hold, is_true_at}
use Rattle.affc_domain.specs.Rounds.{Round, Loop, Test}
use Rattle.affc_loops.specs.Loops.{guarded}
use Rattle.affc_loops.specs.Trees.{name_at, moved, moved_cond}
use Rattle.affc_loops.proofs.Guards.{guard_tests, all_true_at}
use Rattle.affc_loops.proofs.NestEffects.{done_by, one_test, one_if}

two_then : {A : Type 0} (a b r : Bool) (xs : List A) → (if a && (b && true) then (if r then xs else []) else []) ≡ (if a && (b && r) then xs else [])
two_then true true r xs = refl
two_then true false r xs = refl
two_then false b r xs = refl

one_then : {A : Type 0} (a r : Bool) (xs : List A) → (if a then (if r then xs else []) else []) ≡ (if a && r then xs else [])
one_then true r xs = refl
one_then false r xs = refl

pub guarded_does : (first more from : ℕ) (gs : List Round) (body : List Stmt) (names : List ℤ)
    → done_by (guarded first more from gs body) names ≡ (if all_true_at (guard_tests first more from gs) names then done_by body names else [])
guarded_does first more from [] body names = refl
guarded_does first more from (Loop iter low rel high ∷ gs) body names =
    let c : Compare = record { rel = LessEqual; left = moved first more low; right = name_at from } in
    let d : Compare = record { rel = rel; left = name_at from; right = moved first more high } in
    one_if (c ∷ d ∷ []) (guarded first more (suc from) gs body) names
    ∙ ap (λ l. if all_hold (c ∷ d ∷ []) names then l else []) (guarded_does first more (suc from) gs body names)
    ∙ two_then (holds c names) (holds d names) (all_true_at (guard_tests first more (suc from) gs) names) (done_by body names)
guarded_does first more from (Test cond ∷ gs) body names =
    one_test (moved_cond first more cond) (guarded first more from gs body) names
    ∙ ap (λ l. if is_true_at (moved_cond first more cond) names then l else []) (guarded_does first more from gs body names)
    ∙ one_then (is_true_at (moved_cond first more cond) names) (all_true_at (guard_tests first more from gs) names) (done_by body names)
