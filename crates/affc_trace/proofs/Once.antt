-- Each instance stands once in the trace.
use Rattle.std.proofs.Common.{◌≡◌, ℕ, zero, suc, ◌+◌, ◌<◌, ℤ, pos, ◌+ℤ◌, Bool, true, false, if◌then◌else◌, List, [], ◌∷◌, ◌++◌, map, flat_map, sum_by, refl, sym, ap, subst, ◌∙◌, ◌⊎◌, inl, inr, arith, ◌≤ℤ◌}
use Rattle.std.proofs.lemmas.Int.{ints}
use Rattle.std.proofs.lemmas.List.Sums.{sum_by-cons}
use Rattle.affc_ast.specs.declared.tree.Instance.{Instance}
use Rattle.affc_ast.specs.declared.tree.Stmt.{Stmt}
use Rattle.affc_ast.specs.declared.tree.Stmt.TheVariants as s
use Rattle.affc_ast.specs.declared.tree.Stmt.TheBlock.{Row_of-Stmt, more_of-Stmt, end_of-Stmt}
use Rattle.affc_ast.specs.declared.tree.Program.{Program}
use Rattle.affc_ast.specs.Fits.{is_true_at}
use Rattle.affc_ast.specs.Trace.{count_from, walk_step, in_walk_order, trace}
use Rattle.affc_ast.specs.Recursion.{by_stmt, by_each}
use Rattle.affc_trace.specs.Law.{IsIn}
use Rattle.affc_trace.specs.Orders.{AreDistinct}
use Rattle.affc_trace.proofs.LastStores.{append_nil}
use Rattle.affc_trace.proofs.EndedReads.{append_assoc}

pub in_append : {I : Type 0} (xs ys : List I) (a : I) → IsIn a (xs ++ ys) → IsIn a xs ⊎ IsIn a ys
in_append [] ys a i = inr i
in_append (x ∷ xs) ys a (inl e) = inl (inl e)
in_append (x ∷ xs) ys a (inr i) = elim (in_append xs ys a i) [ inl j ↦ inl (inr j) | inr j ↦ inr j ]

distinct_append : {I : Type 0} (xs ys : List I) → AreDistinct xs → AreDistinct ys → ((a : I) → IsIn a xs → ¬ (IsIn a ys)) → AreDistinct (xs ++ ys)
distinct_append [] ys d e n = e
distinct_append (x ∷ xs) ys d e n = (λ i. elim (in_append xs ys x i) [ inl j ↦ d.0 j | inr j ↦ n x (inl refl) j ], distinct_append xs ys d.1 e (λ a i. n a (inr i)))

pub in_flat_map : {A I : Type 0} (f : A → List I) (xs : List A) (b : I) → IsIn b (flat_map f xs) → (x : A) × IsIn x xs × IsIn b (f x)
in_flat_map f [] b i = absurd i
in_flat_map f (x ∷ xs) b i = elim (in_append (f x) (flat_map f xs) b i) [ inl j ↦ (x, inl refl, j) | inr j ↦ let r = in_flat_map f xs b j in (r.0, inr r.1, r.2) ]

distinct_flat_map : {A I : Type 0} (f : A → List I) (xs : List A) → AreDistinct xs → ((x : A) → AreDistinct (f x)) → ((x y : A) (b : I) → IsIn b (f x) → IsIn b (f y) → x ≡ y) → AreDistinct (flat_map f xs)
distinct_flat_map f [] d e n = tt
distinct_flat_map f (x ∷ xs) d e n =
    distinct_append (f x) (flat_map f xs) (e x) (distinct_flat_map f xs d.1 e n)
    (λ b i j. let r = in_flat_map f xs b j in d.0 (subst (λ y. IsIn y xs) (sym (n x r.0 b i r.2)) r.1))

from_least : (n : ℕ) (x y : ℤ) → IsIn y (count_from n x) → x ≤ℤ y
from_least zero x y i = absurd i
from_least (suc n) x y (inl e) = omega (arith, ints)
from_least (suc n) x y (inr i) = let h : (x +ℤ pos 1) ≤ℤ y = from_least n (x +ℤ pos 1) y i in omega (arith, ints)

from_distinct : (n : ℕ) (x : ℤ) → AreDistinct (count_from n x)
from_distinct zero x = tt
from_distinct (suc n) x = (λ i. let h : (x +ℤ pos 1) ≤ℤ x = from_least n (x +ℤ pos 1) x i in omega (arith, ints), from_distinct n (x +ℤ pos 1))

abbrev head_or : {A : Type 0} → A → List A → A
head_or d [] = d
head_or d (x ∷ xs) = x

abbrev tail_of : {A : Type 0} → List A → List A
tail_of [] = []
tail_of (x ∷ xs) = xs

same_next : (ts : List ℤ) (x y : ℤ) (m n : List ℤ) → (ts ++ x ∷ []) ++ m ≡ (ts ++ y ∷ []) ++ n → x ≡ y
same_next [] x y m n e = ap (head_or x) e
same_next (t ∷ ts) x y m n e = same_next ts x y m n (ap tail_of e)

-- among this many statements count_from the k-th on, and within these turns
pub Within : ℕ → ℕ → List ℤ → Instance → Type 0
Within k n ts b = (m : ℕ) × (more : List ℤ) × (m < n) × (b.statement ≡ k + m) × (b.iterators ≡ ts ++ more)

module _ (p : List ℤ) where
  assigns_of : {n : _} → Row_of-Stmt n → ℕ
  assigns_of body = sum_by (λ w. w.assigns) (by_each (walk_step p) body)

  pub if_in : (b : Bool) (a : Instance) (is js : List Instance) → IsIn a (if b then is else js) → ((b ≡ true) × IsIn a is) ⊎ ((b ≡ false) × IsIn a js)
  if_in true a is js i = inl (refl, i)
  if_in false a is js i = inr (refl, i)

  -- among the first of these statements, or the others
  within_first : (k n m : ℕ) (ts : List ℤ) (b : Instance) → Within k n ts b → Within k (n + m) ts b
  unfolding Within
  within_first k n m ts b w = let l : w.0 < n = w.2 in (w.0, w.1, omega arith, w.3, w.4)

  within_second : (k n m : ℕ) (ts : List ℤ) (b : Instance) → Within (k + n) m ts b → Within k (n + m) ts b
  unfolding Within
  within_second k n m ts b w =
      let l : w.0 < m = w.2 in
      let q : b.statement ≡ (k + n) + w.0 = w.3 in
      (n + w.0, w.1, omega arith, omega arith, w.4)

  mutual
    unfolding Within assigns_of

    lies : (x : Stmt) (k : ℕ) (ts : List ℤ) (b : Instance) → IsIn b ((by_stmt (walk_step p) x).instances k ts) → Within k (by_stmt (walk_step p) x).assigns ts b
    lies (s.For' iter low rel high shape body) k ts b i =
        let r = in_flat_map (λ y. in_walk_order (by_each (walk_step p) body) k (ts ++ y ∷ [])) _ b i in
        let w = row_lies body k (ts ++ r.0 ∷ []) b r.2 in
        (w.0, r.0 ∷ w.1, w.2, w.3, w.4 ∙ append_assoc ts (r.0 ∷ []) w.1)
    lies (s.If' cond shape body shape' other) k ts b i = elim (if_in (is_true_at cond (p ++ ts)) b _ _ i) [
      | inl j ↦ within_first k (assigns_of body) (assigns_of other) ts b (row_lies body k ts b j.1)
      | inr j ↦ within_second k (assigns_of body) (assigns_of other) ts b (row_lies other (k + assigns_of body) ts b j.1)
    ]
    lies (s.Assign op array subs value) k ts b (inl e) = (0, [], omega arith, ap (λ u. u.statement) e ∙ omega arith, ap (λ u. u.iterators) e ∙ sym (append_nil ts))
    lies (s.Assign op array subs value) k ts b (inr i) = absurd i
    lies (s.Block' locals shape body) k ts b i = row_lies body k ts b i

    row_lies : {n : _} (body : Row_of-Stmt n) (k : ℕ) (ts : List ℤ) (b : Instance) → IsIn b (in_walk_order (by_each (walk_step p) body) k ts) → Within k (assigns_of body) ts b
    row_lies end_of-Stmt k ts b i = absurd i
    row_lies (more_of-Stmt x rest) k ts b i =
        let total : assigns_of (more_of-Stmt x rest) ≡ (by_stmt (walk_step p) x).assigns + assigns_of rest = sum_by-cons (λ w. w.assigns) (by_stmt (walk_step p) x) (by_each (walk_step p) rest) in
        elim (in_append ((by_stmt (walk_step p) x).instances k ts) _ b i) [
          | inl j ↦ let w = lies x k ts b j in
              let l : w.0 < (by_stmt (walk_step p) x).assigns = w.2 in
              let m : w.0 < assigns_of (more_of-Stmt x rest) = omega arith in (w.0, w.1, m, w.3, w.4)
          | inr j ↦ let w = row_lies rest (k + (by_stmt (walk_step p) x).assigns) ts b j in
              let l : w.0 < assigns_of rest = w.2 in
              let m : (by_stmt (walk_step p) x).assigns + w.0 < assigns_of (more_of-Stmt x rest) = omega arith in
              let q : b.statement ≡ (k + (by_stmt (walk_step p) x).assigns) + w.0 = w.3 in
              ((by_stmt (walk_step p) x).assigns + w.0, w.1, m, omega arith, w.4)
        ]

  distinct_if : (b : Bool) (is js : List Instance) → AreDistinct is → AreDistinct js → AreDistinct (if b then is else js)
  distinct_if true is js d e = d
  distinct_if false is js d e = e

  apart_in_turns : (k n : ℕ) (ts : List ℤ) (x y : ℤ) (b : Instance) → Within k n (ts ++ x ∷ []) b → Within k n (ts ++ y ∷ []) b → x ≡ y
  unfolding Within
  apart_in_turns k n ts x y b v w = same_next ts x y v.1 w.1 (sym v.4 ∙ w.4)

  apart_in_number : (k a n : ℕ) (ts : List ℤ) (b : Instance) → Within k a ts b → Within (k + a) n ts b → ⊥
  unfolding Within
  apart_in_number k a n ts b v w =
      let l : v.0 < a = v.2 in
      let e : b.statement ≡ k + v.0 = v.3 in
      let f : b.statement ≡ (k + a) + w.0 = w.3 in
      omega arith

  mutual
    unfolding assigns_of

    stands_once : (x : Stmt) (k : ℕ) (ts : List ℤ) → AreDistinct ((by_stmt (walk_step p) x).instances k ts)
    stands_once (s.For' iter low rel high shape body) k ts =
        distinct_flat_map (λ y. in_walk_order (by_each (walk_step p) body) k (ts ++ y ∷ [])) _ (from_distinct _ _) (λ y. row_once body k (ts ++ y ∷ []))
        (λ y z b i j. apart_in_turns k (assigns_of body) ts y z b (row_lies body k (ts ++ y ∷ []) b i) (row_lies body k (ts ++ z ∷ []) b j))
    stands_once (s.If' cond shape body shape' other) k ts = distinct_if (is_true_at cond (p ++ ts)) _ _ (row_once body k ts) (row_once other (k + assigns_of body) ts)
    stands_once (s.Assign op array subs value) k ts = (λ i. i, tt)
    stands_once (s.Block' locals shape body) k ts = row_once body k ts

    row_once : {n : _} (body : Row_of-Stmt n) (k : ℕ) (ts : List ℤ) → AreDistinct (in_walk_order (by_each (walk_step p) body) k ts)
    row_once end_of-Stmt k ts = tt
    row_once (more_of-Stmt x rest) k ts =
        distinct_append ((by_stmt (walk_step p) x).instances k ts) _ (stands_once x k ts) (row_once rest (k + (by_stmt (walk_step p) x).assigns) ts)
        (λ b i j. apart_in_number k (by_stmt (walk_step p) x).assigns (assigns_of rest) ts b (lies x k ts b i) (row_lies rest (k + (by_stmt (walk_step p) x).assigns) ts b j))

  list_assigns : List Stmt → ℕ
  list_assigns body = sum_by (λ w. w.assigns) (map (by_stmt (walk_step p)) body)

  list_lies : (body : List Stmt) (k : ℕ) (ts : List ℤ) (b : Instance) → IsIn b (in_walk_order (map (by_stmt (walk_step p)) body) k ts) → Within k (list_assigns body) ts b
  unfolding Within list_assigns
  list_lies [] k ts b i = absurd i
  list_lies (x ∷ rest) k ts b i =
      let total : list_assigns (x ∷ rest) ≡ (by_stmt (walk_step p) x).assigns + list_assigns rest = sum_by-cons (λ w. w.assigns) (by_stmt (walk_step p) x) (map (by_stmt (walk_step p)) rest) in
      elim (in_append ((by_stmt (walk_step p) x).instances k ts) _ b i) [
        | inl j ↦ let w = lies x k ts b j in
            let l : w.0 < (by_stmt (walk_step p) x).assigns = w.2 in
            let m : w.0 < list_assigns (x ∷ rest) = omega arith in (w.0, w.1, m, w.3, w.4)
        | inr j ↦ let w = list_lies rest (k + (by_stmt (walk_step p) x).assigns) ts b j in
            let l : w.0 < list_assigns rest = w.2 in
            let m : (by_stmt (walk_step p) x).assigns + w.0 < list_assigns (x ∷ rest) = omega arith in
            let q : b.statement ≡ (k + (by_stmt (walk_step p) x).assigns) + w.0 = w.3 in
            ((by_stmt (walk_step p) x).assigns + w.0, w.1, m, omega arith, w.4)
      ]

  list_once : (body : List Stmt) (k : ℕ) (ts : List ℤ) → AreDistinct (in_walk_order (map (by_stmt (walk_step p)) body) k ts)
  list_once [] k ts = tt
  list_once (x ∷ rest) k ts =
      distinct_append ((by_stmt (walk_step p) x).instances k ts) _ (stands_once x k ts) (list_once rest (k + (by_stmt (walk_step p) x).assigns) ts)
      (λ b i j. apart_in_number k (by_stmt (walk_step p) x).assigns (list_assigns rest) ts b (lies x k ts b i) (list_lies rest (k + (by_stmt (walk_step p) x).assigns) ts b j))

pub once : (program : Program) (p : List ℤ) → AreDistinct (trace program p)
once program p = list_once p program.body 0 []
