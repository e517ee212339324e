-- What stands round each assignment, and which iterators its instances have: the loops and conditions that surround a
-- statement give its iteration domain (Feautrier 1991).
use Rattle.std.specs.Prelude.{ℕ, suc, ◌+◌, ℤ, Bool, true, false, ◌&&◌, int_le, int_lt, List, [], ◌∷◌, ◌++◌, map, flat_map}
use Rattle.affc_ast.specs.declared.tree.Cond.{Cond}
use Rattle.affc_ast.specs.declared.tree.Ix.{Ix}
use Rattle.affc_ast.specs.declared.tree.Program.{Program}
use Rattle.affc_ast.specs.declared.tree.Rel.{Rel}
use Rattle.affc_ast.specs.declared.tree.Rel.TheVariants.{Less, LessEqual}
use Rattle.affc_ast.specs.declared.tree.Stmt.TheOpen.{Stmt-F, For, If, Assign, Block}
use Rattle.affc_ast.specs.Denials.{denied}
use Rattle.affc_ast.specs.Fits.{whole, is_true_at}
use Rattle.affc_ast.specs.Pieces.{comparisons_of}
use Rattle.affc_ast.specs.Recursion.{by_stmt}
use Rattle.affc_ast.specs.Trace.{joined}

-- a loop, or a condition
pub data Round : Type 0 where
  Loop : (iter : List ℕ) (low : Ix) (rel : Rel) (high : Ix) → Round
  Test : (cond : Cond) → Round

-- a condition stands round the body of its `if`, and its denial round the other
abbrev pub rounds_step : Stmt-F (List (List Round)) → List (List Round)
rounds_step (For iter low rel high body) = map (λ rs. Loop iter low rel high ∷ rs) (joined body)
rounds_step (If cond body other) = map (λ rs. Test cond ∷ rs) (joined body) ++ map (λ rs. Test (denied cond) ∷ rs) (joined other)
rounds_step (Assign op array subs value) = [] ∷ []
rounds_step (Block locals body) = joined body

-- for each assignment, in the order of the text, the loops and conditions round it, from the outermost on
abbrev pub rounds : Program → List (List Round)
rounds program = flat_map (by_stmt rounds_step) program.body

-- whether a loop goes on at x
abbrev pub goes_on : Rel → (x high : ℤ) → Bool
goes_on Less x high = int_lt x high
goes_on LessEqual x high = int_le x high
goes_on _ x high = false

-- Whether iterators turn under what stands round them, where the names in sight outside have these values: there is one
-- for each loop, it lies within the loop's bounds, and all conditions hold.
abbrev pub turns : List Round → (names iterators : List ℤ) → Bool
turns [] names [] = true
turns [] names (x ∷ xs) = false
turns (Loop iter low rel high ∷ rs) names [] = false
turns (Loop iter low rel high ∷ rs) names (x ∷ xs) = int_le (whole low names) x && (goes_on rel x (whole high names) && turns rs (names ++ x ∷ []) xs)
turns (Test cond ∷ rs) names xs = is_true_at cond names && turns rs names xs

-- how many loops
abbrev pub loops_in : List Round → ℕ
loops_in [] = 0
loops_in (Loop iter low rel high ∷ rs) = suc (loops_in rs)
loops_in (Test cond ∷ rs) = loops_in rs

-- how many comparisons of conditions
abbrev pub comparisons_in : List Round → ℕ
comparisons_in [] = 0
comparisons_in (Loop iter low rel high ∷ rs) = comparisons_in rs
comparisons_in (Test cond ∷ rs) = comparisons_of cond + comparisons_in rs
