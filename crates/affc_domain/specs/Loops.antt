-- Which loops stand round each assignment, by their numbers in the order of the text; and the order of instances by the loops that they share.
use Rattle.std.specs.Prelude.{◌≡◌, ℕ, zero, suc, ◌+◌, nat_eq, ℤ, pos, ◌+ℤ◌, ◌≤ℤ◌, ◌⊎◌, if◌then◌else◌, List, [], ◌∷◌, ◌++◌, map, sum_by}
use Rattle.affc_ast.specs.declared.tree.Program.{Program}
use Rattle.affc_ast.specs.declared.tree.Stmt.TheOpen.{Stmt-F, For, If, Assign, Block}
use Rattle.affc_ast.specs.Recursion.{by_stmt}

-- a statement: how many loops it has, and for each assignment in it the numbers of the loops round it from outer to inner, where its first loop has this number
pub record Numbered : Type 0 where
  pub loops : ℕ
  pub numbers : (first : ℕ) → List (List ℕ)

abbrev pub all_loops : List Numbered → ℕ
all_loops ns = sum_by (λ n. n.loops) ns

abbrev pub in_text_order : List Numbered → (first : ℕ) → List (List ℕ)
in_text_order [] first = []
in_text_order (n ∷ ns) first = n.numbers first ++ in_text_order ns (first + n.loops)

abbrev pub numbered_step : Stmt-F Numbered → Numbered
numbered_step (For iter low rel high body) = record { loops = suc (all_loops body); numbers = λ first. map (λ ls. first ∷ ls) (in_text_order body (suc first)) }
numbered_step (If cond body other) = record {
  loops = all_loops body + all_loops other;
  numbers = λ first. in_text_order body first ++ in_text_order other (first + all_loops body);
}
numbered_step (Assign op array subs value) = record { loops = 0; numbers = λ first. [] ∷ [] }
numbered_step (Block locals body) = record { loops = all_loops body; numbers = in_text_order body }

abbrev pub loop_numbers : Program → List (List ℕ)
loop_numbers program = in_text_order (map (by_stmt numbered_step) program.body) 0

-- how many loops two assignments share
abbrev pub shared : List ℕ → List ℕ → ℕ
shared [] ys = 0
shared (x ∷ xs) [] = 0
shared (x ∷ xs) (y ∷ ys) = if nat_eq x y then suc (shared xs ys) else 0

-- the first is less in the first of so many iterators in which they differ, or they agree in all of them and this holds
abbrev pub IsBefore : ℕ → (xs ys : List ℤ) → Type 0 → Type 0
IsBefore zero xs ys Tie = Tie
IsBefore (suc n) [] ys Tie = ⊥
IsBefore (suc n) (x ∷ xs) [] Tie = ⊥
IsBefore (suc n) (x ∷ xs) (y ∷ ys) Tie = ((x +ℤ pos 1) ≤ℤ y) ⊎ ((x ≡ y) × IsBefore n xs ys Tie)
