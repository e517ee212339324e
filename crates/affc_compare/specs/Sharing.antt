-- How many loops two assignments share, found by going down through the statements that hold both.
use Rattle.std.specs.Prelude.{ℕ, suc, ◌+◌, ◌-◌, nat_lt, if◌then◌else◌, List, [], ◌∷◌, map, sum_by}
use Rattle.affc_ast.specs.declared.tree.Program.{Program}
use Rattle.affc_ast.specs.declared.tree.Stmt.{Stmt}
use Rattle.affc_ast.specs.declared.tree.Stmt.TheOpen.{Stmt-F, For, If, Assign, Block}
use Rattle.affc_ast.specs.Recursion.{by_stmt}

-- a statement: how many assignments it has, and how many of its loops two of them share, which are numbered from its first
pub record Sharing : Type 0 where
  pub assigns : ℕ
  pub loops : (a b : ℕ) → ℕ

abbrev pub assigns_among : List Sharing → ℕ
assigns_among ss = sum_by (λ s. s.assigns) ss

-- of two parts, where the first has so many assignments: two in different parts share none
abbrev pub in_parts : (count : ℕ) → (first second : (a b : ℕ) → ℕ) → (a b : ℕ) → ℕ
in_parts count first second a b =
    if nat_lt a count
    then (if nat_lt b count then first a b else 0)
    else (if nat_lt b count then 0 else second (a - count) (b - count))

abbrev pub loops_among : List Sharing → (a b : ℕ) → ℕ
loops_among [] a b = 0
loops_among (s ∷ ss) a b = in_parts s.assigns s.loops (loops_among ss) a b

abbrev pub sharing_step : Stmt-F Sharing → Sharing
sharing_step (For iter low rel high body) = record { assigns = assigns_among body; loops = λ a b. suc (loops_among body a b) }
sharing_step (If cond body other) = record {
  assigns = assigns_among body + assigns_among other;
  loops = in_parts (assigns_among body) (loops_among body) (loops_among other);
}
sharing_step (Assign op array subs value) = record { assigns = 1; loops = λ a b. 0 }
sharing_step (Block locals body) = record { assigns = assigns_among body; loops = loops_among body }

abbrev pub sharing : Stmt → Sharing
sharing = by_stmt sharing_step

-- how many loops two of a program's assignments share
abbrev pub common_loops : Program → (a b : ℕ) → ℕ
common_loops program = loops_among (map sharing program.body)
