-- Runs in general, and the numbers of a program's statements.
use Rattle.std.proofs.Common.{◌≡◌, ℕ, zero, suc, ◌+◌, ℤ, Bool, true, false, if◌then◌else◌, ◌&&◌, T, List, [], ◌∷◌, ◌++◌, length, Option, Some, None, flat_map, sum_by, refl, sym, ap, subst, ◌∙◌, arith}
use Rattle.std.specs.Prelude.{slice_get}
use Rattle.std.specs.Cmp.{IsTotalOrder, nat_cmp_total, int_cmp_total, then_total, on_total}
use Rattle.std.specs.Cmp.Lexicographic.{lists_total}
use Rattle.std.proofs.lemmas.List.Sums.{sum_by-cons}
use Rattle.affc_ast.specs.declared.tree.Stmt.{Stmt}
use Rattle.affc_ast.specs.declared.tree.Stmt.TheVariants as s
use Rattle.affc_ast.specs.declared.tree.Stmt.TheBlock.{Row_of-Stmt, more_of-Stmt, end_of-Stmt}
use Rattle.affc_ast.specs.Store.{Element, element_cmp}
use Rattle.affc_ast.specs.Meaning.{stmt_step, denotation_of}
use Rattle.affc_ast.specs.Trace.{walk_step, Assignment, assignments_step}
use Rattle.affc_ast.specs.Recursion.{by_stmt, by_each}
use Rattle.affc_trace.specs.Law.{Effect, or_else, and_then, last_at, held, all_held, both_of, stores_of}
use Rattle.affc_trace.proofs.LastStores.{IsSome, and_then_some, get, push_append, append_nil}

-- ---- runs in general

module _ {X V : Type 0} (same : X → X → Bool) (start : X → Option V) where
  pub stores_append : (w new : List (X × V)) (es fs : List (Effect X V)) (ws : List (X × V)) → stores_of same start w es ≡ Some new
      → stores_of same start (w ++ new) fs ≡ Some ws → stores_of same start w (es ++ fs) ≡ Some (new ++ ws)
  stores_append w new [] fs ws p q =
      let n : [] ≡ new = ap (get []) p in
      subst (λ l. stores_of same start l fs ≡ Some ws) (append_nil w) (subst (λ l. stores_of same start (w ++ l) fs ≡ Some ws) (sym n) q)
      ∙ ap (λ l. Some (l ++ ws)) n
  stores_append w new (e ∷ es) fs ws p q =
      let a = and_then_some (all_held (held same start w) e.loads) _ _ p in
      let x : X × V = (e.stores, e.value a.0) in
      let r = and_then_some (stores_of same start (w ++ x ∷ []) es) _ _ a.2 in
      let n : x ∷ r.0 ≡ new = ap (get []) r.2 in
      let more = stores_append (w ++ x ∷ []) r.0 es fs ws r.1
      (subst (λ l. stores_of same start l fs ≡ Some ws) (sym (push_append w x r.0)) (subst (λ l. stores_of same start (w ++ l) fs ≡ Some ws) (sym n) q)) in
      ap (λ o. and_then o (λ vs. let x : X × V = (e.stores, e.value vs) in
      and_then (stores_of same start (w ++ x ∷ []) (es ++ fs)) (λ l. Some (x ∷ l)))) a.1
      ∙ ap (λ o. and_then o (λ l. Some (x ∷ l))) more
      ∙ ap (λ l. Some (l ++ ws)) n

  pub stores_one : (w : List (X × V)) (e : Effect X V) (vs : List V) → all_held (held same start w) e.loads ≡ Some vs
      → stores_of same start w (e ∷ []) ≡ Some ((e.stores, e.value vs) ∷ [])
  stores_one w e vs h =
      ap (λ o. and_then o (λ vs. let x : X × V = (e.stores, e.value vs) in
      and_then (stores_of same start (w ++ x ∷ []) []) (λ l. Some (x ∷ l)))) h

or_none : {A : Type 0} (o : Option A) → o ≡ or_else o None
or_none None = refl
or_none (Some a) = refl

or_assoc : {A : Type 0} (a b c : Option A) → or_else (or_else a b) c ≡ or_else a (or_else b c)
or_assoc None b c = refl
or_assoc (Some a) b c = refl

pub last_at_push : {X V : Type 0} (same : X → X → Bool) (y : X) (w : List (X × V)) (e : X × V) → last_at same y (w ++ e ∷ []) ≡ or_else (if same y e.0 then Some e.1 else None) (last_at same y w)
last_at_push same y [] e = or_none _
last_at_push same y (f ∷ w) e = ap (λ o. or_else o (if same y f.0 then Some f.1 else None)) (last_at_push same y w e) ∙ or_assoc (if same y e.0 then Some e.1 else None) (last_at same y w) _

pub all_held_same : {X V : Type 0} (f g : X → Option V) → ((x : X) → f x ≡ g x) → (xs : List X) → all_held f xs ≡ all_held g xs
all_held_same f g h [] = refl
all_held_same f g h (x ∷ xs) = ap (λ o. both_of o (all_held f xs)) (h x) ∙ ap (both_of (g x)) (all_held_same f g h xs)

-- ---- a program's instances

pub element_cmp_total : IsTotalOrder element_cmp
element_cmp_total = then_total (on_total (λ (x : Element). x.0) nat_cmp_total) (on_total (λ (x : Element). x.1) (lists_total int_cmp_total))

-- these assignments are those of `all` count_from this number on
unfoldable pub PartsAt : List Assignment → ℕ → List Assignment → Type 0
PartsAt all k as' = (i : ℕ) (a : Assignment) → slice_get as' i ≡ Some a → slice_get all (k + i) ≡ Some a

pub slice_left : {A : Type 0} (xs ys : List A) (i : ℕ) (x : A) → slice_get xs i ≡ Some x → slice_get (xs ++ ys) i ≡ Some x
slice_left [] ys i x e = absurd (subst IsSome (sym e) tt)
slice_left (y ∷ xs) ys zero x e = e
slice_left (y ∷ xs) ys (suc i) x e = slice_left xs ys i x e

pub slice_right : {A : Type 0} (xs ys : List A) (i : ℕ) → slice_get (xs ++ ys) (length xs + i) ≡ slice_get ys i
slice_right [] ys i = let e : 0 + i ≡ i = omega arith in ap (slice_get ys) e
slice_right (y ∷ xs) ys i = let e : suc (length xs) + i ≡ suc (length xs + i) = omega arith in ap (slice_get (y ∷ (xs ++ ys))) e ∙ slice_right xs ys i

pub parts_left : (all : List Assignment) (k : ℕ) (as' bs : List Assignment) → PartsAt all k (as' ++ bs) → PartsAt all k as'
unfolding PartsAt
parts_left all k as' bs h i a e = h i a (slice_left as' bs i a e)

pub parts_right : (all : List Assignment) (k : ℕ) (as' bs : List Assignment) → PartsAt all k (as' ++ bs) → PartsAt all (k + length as') bs
unfolding PartsAt
parts_right all k as' bs h i a e =
    let n : k + length as' + i ≡ k + (length as' + i) = omega arith in
    ap (slice_get all) n ∙ h (length as' + i) a (slice_right as' bs i ∙ e)

pub length_append : {A : Type 0} (xs ys : List A) → length (xs ++ ys) ≡ length xs + length ys
length_append [] ys = omega arith
length_append (x ∷ xs) ys = let e : length (xs ++ ys) ≡ length xs + length ys = length_append xs ys in omega arith

mutual
  pub part_count : (x : Stmt) → (denotation_of x).assigns ≡ length (by_stmt assignments_step x)
  part_count (s.For' iter low rel high shape body) = parts_count body
  part_count (s.If' cond shape body shape' other) =
      ap (λ u. u + sum_by (λ p. p.assigns) (by_each stmt_step other)) (parts_count body)
      ∙ ap (λ u. length (flat_map (λ a. a) (by_each assignments_step body)) + u) (parts_count other)
      ∙ sym (length_append (flat_map (λ a. a) (by_each assignments_step body)) (flat_map (λ a. a) (by_each assignments_step other)))
  part_count (s.Assign op array subs value) = refl
  part_count (s.Block' locals shape body) = parts_count body

  pub parts_count : {n : _} (body : Row_of-Stmt n) → sum_by (λ p. p.assigns) (by_each stmt_step body) ≡ length (flat_map (λ a. a) (by_each assignments_step body))
  parts_count end_of-Stmt = refl
  parts_count (more_of-Stmt x rest) =
      sum_by-cons (λ p. p.assigns) (by_stmt stmt_step x) (by_each stmt_step rest)
      ∙ ap (λ u. u + sum_by (λ p. p.assigns) (by_each stmt_step rest)) (part_count x)
      ∙ ap (λ u. length (by_stmt assignments_step x) + u) (parts_count rest)
      ∙ sym (length_append (by_stmt assignments_step x) (flat_map (λ a. a) (by_each assignments_step rest)))

mutual
  pub walk_count : (p : List ℤ) (x : Stmt) → (by_stmt (walk_step p) x).assigns ≡ (denotation_of x).assigns
  walk_count p (s.For' iter low rel high shape body) = walks_count p body
  walk_count p (s.If' cond shape body shape' other) =
      ap (λ u. u + sum_by (λ w. w.assigns) (by_each (walk_step p) other)) (walks_count p body) ∙ ap (λ u. sum_by (λ p. p.assigns) (by_each stmt_step body) + u) (walks_count p other)
  walk_count p (s.Assign op array subs value) = refl
  walk_count p (s.Block' locals shape body) = walks_count p body

  pub walks_count : {n : _} (p : List ℤ) (body : Row_of-Stmt n) → sum_by (λ w. w.assigns) (by_each (walk_step p) body) ≡ sum_by (λ p. p.assigns) (by_each stmt_step body)
  walks_count p end_of-Stmt = refl
  walks_count p (more_of-Stmt x rest) =
      sum_by-cons (λ w. w.assigns) (by_stmt (walk_step p) x) (by_each (walk_step p) rest)
      ∙ ap (λ u. u + sum_by (λ w. w.assigns) (by_each (walk_step p) rest)) (walk_count p x)
      ∙ ap (λ u. (denotation_of x).assigns + u) (walks_count p rest)
      ∙ sym (sum_by-cons (λ p. p.assigns) (by_stmt stmt_step x) (by_each stmt_step rest))

abbrev pub one_entry : Element → ℕ → Option (List (Element × ℕ))
one_entry x v = Some ((x, v) ∷ [])

pub both_true : (a b : Bool) → T (a && b) → T a × T b
both_true true b h = (tt, h)
both_true false b h = absurd h
