-- The numbers of loops: where those of a statement start, and which of them two statements share.
use Rattle.std.proofs.Common.{◌≡◌, ℕ, zero, suc, ◌+◌, ◌<◌, ◌≤◌, true, false, if◌then◌else◌, List, [], ◌∷◌, map, Some, refl, sym, ap, subst, inl, inr, arith}
use Rattle.std.specs.Prelude.{slice_get, nat_eq}
use Rattle.std.proofs.lemmas.Bool.Decides.{nat_tests}
use Rattle.std.proofs.lemmas.List.Sums.{sum_by-cons}
use Rattle.std.proofs.lemmas.Option.{none-some, same_Some}
use Rattle.affc_ast.specs.declared.tree.Stmt.{Stmt}
use Rattle.affc_ast.specs.declared.tree.Stmt.TheVariants as s
use Rattle.affc_ast.specs.declared.tree.Stmt.TheBlock.{Row_of-Stmt, more_of-Stmt, end_of-Stmt}
use Rattle.affc_ast.specs.Recursion.{by_stmt, by_each}
use Rattle.affc_domain.specs.Loops.{all_loops, in_text_order, numbered_step, shared}
use Rattle.affc_domain.proofs.Lists.{from_append, from_map}

-- numbers from one on, and fewer than so many
abbrev pub StartIn : ℕ → ℕ → List ℕ → Type 0
StartIn first n [] = Unit {0}
StartIn first n (l ∷ ls) = (first ≤ l) × (l < first + n)

wider : (first n k m : ℕ) (ls : List ℕ) → m ≡ n + k → StartIn first n ls → StartIn first m ls
wider first n k m [] e s = tt
wider first n k m (l ∷ ls) e s = (s.0, omega arith)

later : (first n k m : ℕ) (ls : List ℕ) → m ≡ n + k → StartIn (first + n) k ls → StartIn first m ls
later first n k m [] e s = tt
later first n k m (l ∷ ls) e s = (omega arith, omega arith)

alone : (i : ℕ) (ls : List ℕ) → slice_get ([] ∷ []) i ≡ Some ls → ls ≡ []
alone zero ls e = sym (same_Some [] ls e)
alone (suc i) ls e = absurd (none-some ls e)

-- a loop's numbers start with its own
loop_starts : (first n : ℕ) (numbers : List (List ℕ)) (i : ℕ) (ls : List ℕ) → slice_get (map (λ q. first ∷ q) numbers) i ≡ Some ls → StartIn first (suc n) ls
loop_starts first n numbers i ls e = let r = from_map (λ q. first ∷ q) numbers i ls e in subst (StartIn first (suc n)) (sym r.2) (omega arith, omega arith)

mutual
  pub starts : (x : Stmt) (first i : ℕ) (ls : List ℕ) → slice_get ((by_stmt numbered_step x).numbers first) i ≡ Some ls → StartIn first (by_stmt numbered_step x).loops ls
  starts (s.For' iter low rel high shape body) first i ls e = loop_starts first (all_loops (by_each numbered_step body)) (in_text_order (by_each numbered_step body) (suc first)) i ls e
  starts (s.If' cond shape body shape' other) first i ls e =
      elim (from_append (in_text_order (by_each numbered_step body) first) (in_text_order (by_each numbered_step other) (first + all_loops (by_each numbered_step body))) i ls e) [
        | inl h ↦ wider first (all_loops (by_each numbered_step body)) _ _ ls refl (row_starts body first i ls h)
        | inr r ↦ later first (all_loops (by_each numbered_step body)) _ _ ls refl (row_starts other (first + all_loops (by_each numbered_step body)) r.0 ls r.2)
      ]
  starts (s.Assign op array subs value) first i ls e = subst (StartIn first 0) (sym (alone i ls e)) tt
  starts (s.Block' locals shape body) first i ls e = row_starts body first i ls e

  pub row_starts : {n : _} (body : Row_of-Stmt n) (first i : ℕ) (ls : List ℕ) → slice_get (in_text_order (by_each numbered_step body) first) i ≡ Some ls → StartIn first (all_loops (by_each numbered_step body)) ls
  row_starts end_of-Stmt first i ls e = absurd (none-some ls e)
  row_starts (more_of-Stmt x rest) first i ls e = elim (from_append ((by_stmt numbered_step x).numbers first) (in_text_order (by_each numbered_step rest) (first + (by_stmt numbered_step x).loops)) i ls e) [
    | inl h ↦ wider first (by_stmt numbered_step x).loops _ _ ls (sum_by-cons (λ n. n.loops) (by_stmt numbered_step x) (by_each numbered_step rest)) (starts x first i ls h)
    | inr r ↦ later first (by_stmt numbered_step x).loops _ _ ls (sum_by-cons (λ n. n.loops) (by_stmt numbered_step x) (by_each numbered_step rest)) (row_starts rest (first + (by_stmt numbered_step x).loops) r.0 ls r.2)
  ]

-- loops that start in different places share nothing
pub shared_none : (first n m : ℕ) (xs ys : List ℕ) → StartIn first n xs → StartIn (first + n) m ys → (shared xs ys ≡ 0) × (shared ys xs ≡ 0)
shared_none first n m [] [] s t = (refl, refl)
shared_none first n m [] (y ∷ ys) s t = (refl, refl)
shared_none first n m (x ∷ xs) [] s t = (refl, refl)
shared_none first n m (x ∷ xs) (y ∷ ys) s t = (ap (λ t. if t then suc (shared xs ys) else 0) (apart x y (omega arith)), ap (λ t. if t then suc (shared ys xs) else 0) (apart' x y (omega arith)))
  where
    apart : (x y : ℕ) → x < y → nat_eq x y ≡ false
    apart x y h = grind (arith, nat_tests)

    apart' : (x y : ℕ) → x < y → nat_eq y x ≡ false
    apart' x y h = grind (arith, nat_tests)

eq_self : (l : ℕ) → nat_eq l l ≡ true
eq_self l = grind (arith, nat_tests)

pub shared_same : (l : ℕ) (xs ys : List ℕ) → shared (l ∷ xs) (l ∷ ys) ≡ suc (shared xs ys)
shared_same l xs ys = ap (λ t. if t then suc (shared xs ys) else 0) (eq_self l)
