-- What the loops of a printed program do: what the blocks do, at each time that the loops run through.
use Rattle.std.proofs.Common.{◌≡◌, ℕ, suc, ℤ, if◌then◌else◌, List, [], ◌∷◌, ◌++◌, map, flat_map, refl, sym, ap, ◌∙◌}
use Rattle.std.proofs.lemmas.List.Concat.{flat_map-append}
use Rattle.affc_ast.specs.declared.tree.Compare.{Compare}
use Rattle.affc_ast.specs.declared.tree.Cond.{Cond}
use Rattle.affc_ast.specs.declared.tree.Ix.{Ix}
use Rattle.affc_ast.specs.declared.tree.Local.{Local}
use Rattle.affc_ast.specs.declared.tree.Rel.TheVariants.{LessEqual}
use Rattle.affc_ast.specs.declared.tree.Stmt.{Stmt}
use Rattle.affc_ast.specs.declared.tree.Stmt.TheVariants.{For, If, Block}
use Rattle.affc_ast.specs.Fits.{whole, all_hold, is_true_at}
use Rattle.affc_ast.specs.Meaning.{turns_of}
use Rattle.affc_ast.specs.Recursion.{by_stmt}
use Rattle.affc_ast.specs.Store.{Element}
use Rattle.affc_ast.specs.Trace.{count_from}
use Rattle.affc_ast.proofs.Steps.{for_here, if_here, block_here}
use Rattle.affc_trace.specs.Law.{Effect}
use Rattle.affc_trace.specs.Effects.{with_all, each_of, effects_step}
use Rattle.affc_trace.proofs.LastStores.{append_nil, push_append}
use Rattle.affc_loops.proofs.AllOf.{all_of_true}
use Rattle.affc_loops.proofs.PointsOrder.{numbers_of, points}
use Rattle.affc_loops.specs.Between.{loops_between}
use Rattle.affc_loops.specs.Loops.{time_name, all_of, if_any}

-- ---- lists

flat_map_mapped : {A B C : Type 0} (f : B → List C) (g : A → B) (xs : List A) → flat_map f (map g xs) ≡ flat_map (λ x. f (g x)) xs
flat_map_mapped f g [] = refl
flat_map_mapped f g (x ∷ xs) = ap (λ l. f (g x) ++ l) (flat_map_mapped f g xs)

flat_twice : {A B C : Type 0} (f : B → List C) (g : A → List B) (xs : List A) → flat_map f (flat_map g xs) ≡ flat_map (λ x. flat_map f (g x)) xs
flat_twice f g [] = refl
flat_twice f g (x ∷ xs) = flat_map-append f (g x) (flat_map g xs) ∙ ap (λ l. flat_map f (g x) ++ l) (flat_twice f g xs)

pub flat_same : {A B : Type 0} (f g : A → List B) → ((x : A) → f x ≡ g x) → (xs : List A) → flat_map f xs ≡ flat_map g xs
flat_same f g e [] = refl
flat_same f g e (x ∷ xs) = ap (λ l. l ++ flat_map f xs) (e x) ∙ ap (λ l. g x ++ l) (flat_same f g e xs)

-- ---- what statements do

abbrev pub done_by : List Stmt → List ℤ → List (Effect Element ℕ)
done_by body names = each_of (map (by_stmt effects_step) body) names

pub one_for : (iter : List ℕ) (low high : Ix) (body : List Stmt) (names : List ℤ)
    → done_by (For iter low LessEqual high body ∷ []) names
    ≡ flat_map (λ x. done_by body (names ++ x ∷ [])) (count_from (turns_of LessEqual (whole low names) (whole high names)) (whole low names))
one_for iter low high body names =
    ap (λ f. f names ++ []) (for_here effects_step iter low LessEqual high body)
    ∙ append_nil (flat_map (λ x. done_by body (names ++ x ∷ [])) (count_from (turns_of LessEqual (whole low names) (whole high names)) (whole low names)))

pub one_test : (cond : Cond) (body : List Stmt) (names : List ℤ) → done_by (If cond body [] ∷ []) names ≡ (if is_true_at cond names then done_by body names else [])
one_test cond body names =
    ap (λ f. f names ++ []) (if_here effects_step cond body [])
    ∙ append_nil (if is_true_at cond names then done_by body names else [])

pub one_if : (conds : List Compare) (body : List Stmt) (names : List ℤ) → done_by (if_any conds body) names ≡ (if all_hold conds names then done_by body names else [])
one_if [] body names = refl
one_if (c ∷ cs) body names =
    one_test (all_of c cs) body names ∙ ap (λ b. if b then done_by body names else []) (all_of_true c cs names)

pub one_block : (locals : List Local) (body : List Stmt) (names : List ℤ) → by_stmt effects_step (Block locals body) names ≡ done_by body (with_all locals names)
one_block locals body names = ap (λ f. f names) (block_here effects_step locals body)

-- the loops run through the times between their ends
pub loops_do : (ends : List (Ix × Ix)) (component : ℕ) (body : List Stmt) (names : List ℤ)
    → done_by (loops_between ends component body) names ≡ flat_map (λ t. done_by body (names ++ t)) (points ends names)
loops_do [] component body names = ap (done_by body) (sym (append_nil names)) ∙ sym (append_nil (done_by body (names ++ [])))
loops_do (e ∷ es) component body names =
    let turns : List ℤ = numbers_of (whole e.0 names, whole e.1 names) in
    one_for (time_name component) e.0 e.1 (loops_between es (suc component) body) names
    ∙ flat_same (λ x. done_by (loops_between es (suc component) body) (names ++ x ∷ [])) (λ x. flat_map (λ t. done_by body (names ++ t)) (map (λ t. x ∷ t) (points es (names ++ x ∷ []))))
    (λ x.
    loops_do es (suc component) body (names ++ x ∷ [])
    ∙ flat_same (λ t. done_by body ((names ++ x ∷ []) ++ t)) (λ t. done_by body (names ++ x ∷ t)) (λ t. ap (done_by body) (push_append names x t)) (points es (names ++ x ∷ []))
    ∙ sym (flat_map_mapped (λ t. done_by body (names ++ t)) (λ t. x ∷ t) (points es (names ++ x ∷ []))))
    turns
    ∙ sym (flat_twice (λ t. done_by body (names ++ t)) (λ x. map (λ t. x ∷ t) (points es (names ++ x ∷ []))) turns)
