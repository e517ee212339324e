-- A run that is stuck at an element without a value: there its effects find none either.
use Rattle.std.proofs.Common.{◌≡◌, ℕ, ◌+◌, ℤ, Bool, true, false, if◌then◌else◌, List, [], ◌∷◌, ◌++◌, Option, Some, None, Result, Ok, Err, refl, sym, ap, subst, ◌∙◌, ◌⊎◌, inl, inr}
use Rattle.affc_ast.specs.declared.tree.Instance.{Instance}
use Rattle.affc_ast.specs.declared.tree.ArrayId.{ArrayId}
use Rattle.affc_ast.specs.declared.tree.Ix.{Ix}
use Rattle.affc_ast.specs.declared.tree.Ix.TheVariants as c
use Rattle.affc_ast.specs.declared.tree.Ix.TheBlock.{more_of-Ix, end_of-Ix}
use Rattle.affc_ast.specs.declared.tree.Val.{Val}
use Rattle.affc_ast.specs.declared.tree.Val.TheVariants as v
use Rattle.affc_ast.specs.declared.tree.Val.TheBlock.{more_of-Val, end_of-Val}
use Rattle.affc_ast.specs.Store.{Element, Store, at}
use Rattle.affc_ast.specs.Cause.{Cause, Extent, Overflow, OutOfBounds, Unwritten, ◌>>=◌}
use Rattle.affc_ast.specs.Index.{index_value, index_values, nodes_of_ix}
use Rattle.affc_ast.specs.Values.{Scope, Sight, deeper, touch, held as held_there, load, value_of}
use Rattle.affc_ast.specs.Trace.{loads_of_value}
use Rattle.affc_trace.specs.Law.{Effect, both_of, and_then, all_held, held, stores_of}
use Rattle.affc_trace.proofs.LastStores.{IsSome, and_then_some, get, push_append, append_nil}
use Rattle.affc_trace.proofs.EndedReads.{are_whole, touch_is}

-- ---- runs in general

abbrev no_some : {A B : Type 0} (x : A) → Some x ≡ None → B
no_some x e = absurd (subst IsSome e tt)

module _ {X V : Type 0} (same : X → X → Bool) (start : X → Option V) where
  cons_none : (e : X × V) (o : Option (List (X × V))) → and_then o (λ ws. Some (e ∷ ws)) ≡ None → o ≡ None
  cons_none e None h = refl
  cons_none e (Some ws) h = no_some (e ∷ ws) h

  none_cases : (w : List (X × V)) (e : Effect X V) (es es' : List (Effect X V)) (o : Option (List V))
      → ((u : List (X × V)) → stores_of same start u es ≡ None → stores_of same start u es' ≡ None)
      → and_then o (λ vs. let x : X × V = (e.stores, e.value vs) in and_then (stores_of same start (w ++ x ∷ []) es) (λ ws. Some (x ∷ ws))) ≡ None
      → and_then o (λ vs. let x : X × V = (e.stores, e.value vs) in and_then (stores_of same start (w ++ x ∷ []) es') (λ ws. Some (x ∷ ws))) ≡ None
  none_cases w e es es' None f h = refl
  none_cases w e es es' (Some vs) f h =
      let x : X × V = (e.stores, e.value vs) in
      ap (λ o. and_then o (λ ws. Some (x ∷ ws))) (f (w ++ x ∷ []) (cons_none x _ h))

  pub none_append : (es fs : List (Effect X V)) (w : List (X × V)) → stores_of same start w es ≡ None → stores_of same start w (es ++ fs) ≡ None
  none_append [] fs w h = no_some [] h
  none_append (e ∷ es) fs w h = none_cases w e es (es ++ fs) (all_held (held same start w) e.loads) (none_append es fs) h

  pub append_none : (w new : List (X × V)) (es fs : List (Effect X V)) → stores_of same start w es ≡ Some new → stores_of same start (w ++ new) fs ≡ None
      → stores_of same start w (es ++ fs) ≡ None
  append_none w new [] fs p q =
      let n : [] ≡ new = ap (get []) p in
      subst (λ l. stores_of same start l fs ≡ None) (append_nil w) (subst (λ l. stores_of same start (w ++ l) fs ≡ None) (sym n) q)
  append_none w new (e ∷ es) fs p q =
      let a = and_then_some (all_held (held same start w) e.loads) _ _ p in
      let x : X × V = (e.stores, e.value a.0) in
      let r = and_then_some (stores_of same start (w ++ x ∷ []) es) _ _ a.2 in
      let n : x ∷ r.0 ≡ new = ap (get []) r.2 in
      let more = append_none (w ++ x ∷ []) r.0 es fs r.1
      (subst (λ l. stores_of same start l fs ≡ None) (sym (push_append w x r.0)) (subst (λ l. stores_of same start (w ++ l) fs ≡ None) (sym n) q)) in
      ap (λ o. and_then o (λ vs. let x : X × V = (e.stores, e.value vs) in
      and_then (stores_of same start (w ++ x ∷ []) (es ++ fs)) (λ ws. Some (x ∷ ws)))) a.1
      ∙ ap (λ o. and_then o (λ ws. Some (x ∷ ws))) more

-- ---- reads

abbrev pub IsOther : Cause → Type 0
IsOther (Extent a) = Unit {0}
IsOther (Overflow n) = Unit {0}
IsOther (OutOfBounds i a) = Unit {0}
IsOther (Unwritten i a) = ⊥

abbrev pub Fine : {A : Type 0} → Result A Cause → Type 0
Fine (Ok x) = Unit {0}
Fine (Err cause) = IsOther cause

pub fine_bind : {A B : Type 0} (r : Result A Cause) (f : A → Result B Cause) → Fine r → ((x : A) → Fine (f x)) → Fine (r >>= f)
fine_bind (Ok x) f h k = k x
fine_bind (Err cause) f h k = h

pub fine_if : {A : Type 0} (t : Bool) (x : A) (cause : Cause) → IsOther cause → Fine (if t then Ok x else Err cause)
fine_if true x cause h = tt
fine_if false x cause h = h

pub fine_unless : {A : Type 0} (t : Bool) (x : A) (cause : Cause) → IsOther cause → Fine (if t then Err cause else Ok x)
fine_unless true x cause h = h
fine_unless false x cause h = tt

pub index_fine : (e : Ix) (names : List ℤ) (node : ℕ) → Fine (index_value e node names)
index_fine (c.Lit n) names node = tt
index_fine (c.Name n) names node = tt
index_fine (c.Neg' s (more_of-Ix a end_of-Ix)) names node = fine_bind (index_value a (node + 1) names) _ (index_fine a names _) (λ x. fine_if _ _ (Overflow node) tt)
index_fine (c.Floord' s (more_of-Ix a end_of-Ix) n) names node = fine_bind (index_value a (node + 1) names) _ (index_fine a names _) (λ x. fine_unless _ _ (Overflow node) tt)
index_fine (c.Ceild' s (more_of-Ix a end_of-Ix) n) names node = fine_bind (index_value a (node + 1) names) _ (index_fine a names _) (λ x. fine_unless _ _ (Overflow node) tt)
index_fine (c.Add' s (more_of-Ix a end_of-Ix) t (more_of-Ix b end_of-Ix)) names node =
    fine_bind (index_value a (node + 1) names) _ (index_fine a names _) (λ x. fine_bind (index_value b (node + 1 + nodes_of_ix a) names) _ (index_fine b names _) (λ y. fine_if _ _ (Overflow node) tt))
index_fine (c.Sub' s (more_of-Ix a end_of-Ix) t (more_of-Ix b end_of-Ix)) names node =
    fine_bind (index_value a (node + 1) names) _ (index_fine a names _) (λ x. fine_bind (index_value b (node + 1 + nodes_of_ix a) names) _ (index_fine b names _) (λ y. fine_if _ _ (Overflow node) tt))
index_fine (c.Mul' s (more_of-Ix a end_of-Ix) t (more_of-Ix b end_of-Ix)) names node =
    fine_bind (index_value a (node + 1) names) _ (index_fine a names _) (λ x. fine_bind (index_value b (node + 1 + nodes_of_ix a) names) _ (index_fine b names _) (λ y. fine_if _ _ (Overflow node) tt))
index_fine (c.Min' s (more_of-Ix a end_of-Ix) t (more_of-Ix b end_of-Ix)) names node =
    fine_bind (index_value a (node + 1) names) _ (index_fine a names _) (λ x. fine_bind (index_value b (node + 1 + nodes_of_ix a) names) _ (index_fine b names _) (λ y. tt))
index_fine (c.Max' s (more_of-Ix a end_of-Ix) t (more_of-Ix b end_of-Ix)) names node =
    fine_bind (index_value a (node + 1) names) _ (index_fine a names _) (λ x. fine_bind (index_value b (node + 1 + nodes_of_ix a) names) _ (index_fine b names _) (λ y. tt))
index_fine (c.Mod' s (more_of-Ix a end_of-Ix) t (more_of-Ix b end_of-Ix)) names node =
    fine_bind (index_value a (node + 1) names) _ (index_fine a names _) (λ x. fine_bind (index_value b (node + 1 + nodes_of_ix a) names) _ (index_fine b names _) (λ y. fine_unless _ _ (Overflow node) tt))

pub indices_fine : (es : List Ix) (names : List ℤ) (node : ℕ) → Fine (index_values es node names)
indices_fine [] names node = tt
indices_fine (e ∷ es) names node =
    fine_bind (index_value e node names) _ (index_fine e names node) (λ x. fine_bind (index_values es (node + nodes_of_ix e) names) _ (indices_fine es names _) (λ xs. tt))

-- ---- values

abbrev cause_or : {A : Type 0} → Cause → Result A Cause → Cause
cause_or d (Ok x) = d
cause_or d (Err cause) = cause

pub bind_err : {A B : Type 0} (r : Result A Cause) (f : A → Result B Cause) (d : Cause) → r >>= f ≡ Err d → (r ≡ Err d) ⊎ ((x : A) × (r ≡ Ok x) × (f x ≡ Err d))
bind_err (Ok x) f d e = inr (x, refl, e)
bind_err (Err cause) f d e = inl (ap (λ k. Err k) (ap (cause_or cause) e))

abbrev IsErr : {A : Type 0} → Result A Cause → Type 0
IsErr (Ok x) = ⊥
IsErr (Err cause) = Unit {0}

pub not_err : {A : Type 0} {B : Type 0} (x : A) (d : Cause) → ◌≡◌ {A = Result A Cause} (Ok x) (Err d) → B
not_err x d e = absurd (subst IsErr (sym e) tt)

pub not_fine : {A B : Type 0} (r : Result A Cause) (i : Instance) (a : ℕ) → Fine r → r ≡ Err (Unwritten i a) → B
not_fine r i a f e = absurd (subst Fine e f)

both_cases : (o : Option ℕ) (l m : Option (List ℕ)) → (l ≡ None → m ≡ None) → both_of o l ≡ None → both_of o m ≡ None
both_cases None l m h e = refl
both_cases (Some x) None m h e = ap (both_of (Some x)) (h refl)
both_cases (Some x) (Some l) m h e = no_some (x ∷ l) e

pub both_right : (o : Option ℕ) → both_of o None ≡ None
both_right None = refl
both_right (Some x) = refl

both_none : (f : Element → Option ℕ) (xs ys : List Element) → all_held f xs ≡ None → all_held f (xs ++ ys) ≡ None
both_none f [] ys e = no_some [] e
both_none f (x ∷ xs) ys e = both_cases (f x) (all_held f xs) (all_held f (xs ++ ys)) (both_none f xs ys) e

pub none_after : (f : Element → Option ℕ) (xs ys : List Element) → all_held f ys ≡ None → all_held f (xs ++ ys) ≡ None
none_after f [] ys e = e
none_after f (x ∷ xs) ys e = ap (both_of (f x)) (none_after f xs ys e) ∙ both_right (f x)

none_held : (here : Instance) (access : ℕ) (o : Option ℕ) (d : Cause) → held_there here access o ≡ Err d → o ≡ None
none_held here access None d e = refl
none_held here access (Some x) d e = not_err x d e

pub load_none : (scope : Scope) (store : Store) (here : Instance) (access : ℕ) (array : ArrayId) (xs : List ℤ) (i : Instance) (a : ℕ)
    → load scope store here access array xs ≡ Err (Unwritten i a) → at store (array.0, xs) ≡ None
load_none scope store here access array xs i a e =
    elim (bind_err (touch scope here access array xs) _ _ e) [
      | inl q ↦ not_fine (touch scope here access array xs) i a (fine_if _ _ (OutOfBounds here access) tt) q
      | inr q ↦ ap (at store) (touch_is scope here access array xs q.0 q.1) ∙ none_held here access (at store q.0) _ q.2
    ]

pub value_unwritten : (e : Val) (s : Sight) (i : Instance) (a : ℕ) → (value_of e).value s ≡ Err (Unwritten i a) → all_held (at s.store) (loads_of_value e s.scope.names) ≡ None
value_unwritten (v.Load array subs) s i a e =
    elim (bind_err (index_values subs (s.node + 1) s.scope.names) _ _ e) [
      | inl q ↦ not_fine (index_values subs (s.node + 1) s.scope.names) i a (indices_fine subs s.scope.names _) q
      | inr q ↦ ap (λ o. both_of o (Some [])) (ap (λ xs. at s.store (array.0, xs)) (are_whole subs s.scope.names _ q.0 q.1) ∙ load_none s.scope s.store s.here s.access array q.0 i a q.2)
    ]
value_unwritten (v.Const n) s i a e = not_err n _ e
value_unwritten (v.Cast x) s i a e =
    elim (bind_err (index_value x (s.node + 1) s.scope.names) _ _ e) [
      | inl q ↦ not_fine (index_value x (s.node + 1) s.scope.names) i a (index_fine x s.scope.names _) q
      | inr q ↦ not_err _ _ q.2
    ]
value_unwritten (v.Not' h (more_of-Val x end_of-Val)) s i a e =
    elim (bind_err ((value_of x).value (deeper s)) _ _ e) [
      | inl q ↦ value_unwritten x (deeper s) i a q
      | inr q ↦ not_err _ _ q.2
    ]
value_unwritten (v.Bin' op h (more_of-Val x end_of-Val) g (more_of-Val y end_of-Val)) s i a e =
    elim (bind_err ((value_of x).value (deeper s)) _ _ e) [
      | inl q ↦ both_none (at s.store) (loads_of_value x s.scope.names) (loads_of_value y s.scope.names) (value_unwritten x (deeper s) i a q)
      | inr q ↦ elim (bind_err ((value_of y).value (record s { node = s.node + 1 + (value_of x).nodes; access = s.access + (value_of x).loads })) _ _ q.2) [
        | inl r ↦ none_after (at s.store) (loads_of_value x s.scope.names) (loads_of_value y s.scope.names)
            (value_unwritten y (record s { node = s.node + 1 + (value_of x).nodes; access = s.access + (value_of x).loads }) i a r)
        | inr r ↦ not_err _ _ r.2
      ]
    ]
value_unwritten (v.Shift' left h (more_of-Val x end_of-Val) by) s i a e =
    elim (bind_err ((value_of x).value (deeper s)) _ _ e) [
      | inl q ↦ value_unwritten x (deeper s) i a q
      | inr q ↦ not_err _ _ q.2
    ]
