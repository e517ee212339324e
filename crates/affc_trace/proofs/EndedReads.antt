-- What is read in a run that ends is what the trace's definitions say.
use Rattle.std.proofs.Common.{◌≡◌, ℕ, ◌+◌, ℤ, ◌+ℤ◌, ◌-ℤ◌, ◌*ℤ◌, neg_ℤ, Bool, true, false, if◌then◌else◌, List, [], ◌∷◌, ◌++◌, Option, Some, None, Result, Ok, Err, map, refl, sym, ap, subst, ◌∙◌}
use Rattle.std.specs.Int.{int_max, int_min}
use Rattle.affc_ast.specs.declared.tree.Instance.{Instance}
use Rattle.affc_ast.specs.declared.tree.Op.{Op}
use Rattle.affc_ast.specs.declared.tree.ArrayId.{ArrayId}
use Rattle.affc_ast.specs.declared.tree.Ix.{Ix}
use Rattle.affc_ast.specs.declared.tree.Ix.TheVariants as c
use Rattle.affc_ast.specs.declared.tree.Ix.TheBlock.{more_of-Ix, end_of-Ix}
use Rattle.affc_ast.specs.declared.tree.Val.{Val}
use Rattle.affc_ast.specs.declared.tree.Val.TheVariants as v
use Rattle.affc_ast.specs.declared.tree.Val.TheBlock.{more_of-Val, end_of-Val}
use Rattle.affc_ast.specs.Store.{Element, Store, at}
use Rattle.affc_ast.specs.Cause.{Cause, ◌>>=◌}
use Rattle.affc_ast.specs.Index.{in_int64, floor_of, ceiling_of, remainder_of, divided, on_one, on_both, index_of, index_value, index_values, nodes_of_ix}
use Rattle.affc_ast.specs.Values.{Scope, Sight, deeper, touch, held as held_there, load, value_of, operate, complement, shifted, converted}
use Rattle.affc_ast.specs.Meaning.{assigned}
use Rattle.affc_ast.specs.Fits.{whole}
use Rattle.affc_ast.specs.Trace.{Assignment, element, loads_of_value}
use Rattle.affc_trace.specs.Law.{both_of, all_held}
use Rattle.affc_trace.specs.Effects.{taking, effect_by, then_taking, taken}
use Rattle.affc_trace.proofs.LastStores.{and_then_some, get, append_nil}

-- ---- results

abbrev IsOk : {A : Type 0} → Result A Cause → Type 0
IsOk (Ok x) = Unit {0}
IsOk (Err cause) = ⊥

abbrev ok_or : {A : Type 0} → A → Result A Cause → A
ok_or d (Ok x) = x
ok_or d (Err cause) = d

pub same_ok : {A : Type 0} (x y : A) → ◌≡◌ {A = Result A Cause} (Ok x) (Ok y) → x ≡ y
same_ok x y e = ap (ok_or x) e

pub bind_ok : {A B : Type 0} (r : Result A Cause) (f : A → Result B Cause) (y : B) → r >>= f ≡ Ok y → (x : A) × (r ≡ Ok x) × (f x ≡ Ok y)
bind_ok (Ok x) f y e = (x, refl, e)
bind_ok (Err cause) f y e = absurd (subst IsOk (sym e) tt)

pub ok_if : {A : Type 0} (t : Bool) (cause : Cause) (x y : A) → (if t then Ok x else Err cause) ≡ Ok y → x ≡ y
ok_if true cause x y e = same_ok x y e
ok_if false cause x y e = absurd (subst IsOk (sym e) tt)

ok_unless : {A : Type 0} (t : Bool) (cause : Cause) (x y : A) → (if t then Err cause else Ok x) ≡ Ok y → x ≡ y
ok_unless true cause x y e = absurd (subst IsOk (sym e) tt)
ok_unless false cause x y e = same_ok x y e

-- ---- index expressions

Whole : (Ix → ℕ → List ℤ → ℤ → Type 0)
Whole e node names x = index_value e node names ≡ Ok x → whole e names ≡ x

one_whole : (a : Ix) (node : ℕ) (names : List ℤ) (f : ℕ → ℤ → Result ℤ Cause) (g : ℤ → ℤ) (x : ℤ) → ((y z : ℤ) → f node y ≡ Ok z → g y ≡ z)
    → ((y : ℤ) → index_value a (node + 1) names ≡ Ok y → whole a names ≡ y) → (on_one f (index_of a)).value node names ≡ Ok x → g (whole a names) ≡ x
one_whole a node names f g x is h e =
    let p = bind_ok (index_value a (node + 1) names) _ _ e in
    ap g (h p.0 p.1) ∙ is p.0 x p.2

both_whole : (a b : Ix) (node : ℕ) (names : List ℤ) (f : ℕ → ℤ → ℤ → Result ℤ Cause) (g : ℤ → ℤ → ℤ) (x : ℤ) → ((y z w : ℤ) → f node y z ≡ Ok w → g y z ≡ w)
    → ((m : ℕ) (y : ℤ) → index_value a m names ≡ Ok y → whole a names ≡ y) → ((m : ℕ) (y : ℤ) → index_value b m names ≡ Ok y → whole b names ≡ y)
    → (on_both f (index_of a) (index_of b)).value node names ≡ Ok x → g (whole a names) (whole b names) ≡ x
both_whole a b node names f g x is h k e =
    let p = bind_ok (index_value a (node + 1) names) _ _ e in
    let q = bind_ok (index_value b (node + 1 + nodes_of_ix a) names) _ _ p.2 in
    ap (λ u. g u (whole b names)) (h (node + 1) p.0 p.1) ∙ ap (g p.0) (k _ q.0 q.1) ∙ is p.0 q.0 x q.2

pub is_whole : (e : Ix) (names : List ℤ) (node : ℕ) (x : ℤ) → index_value e node names ≡ Ok x → whole e names ≡ x
is_whole (c.Lit n) names node x e = same_ok _ _ e
is_whole (c.Name n) names node x e = same_ok _ _ e
is_whole (c.Neg' s (more_of-Ix a end_of-Ix)) names node x e =
    one_whole a node names (λ m y. in_int64 m (neg_ℤ y)) neg_ℤ x (λ y z. ok_if _ _ _ _) (is_whole a names (node + 1)) e
is_whole (c.Floord' s (more_of-Ix a end_of-Ix) n) names node x e =
    one_whole a node names (λ m y. divided m floor_of y n) (λ y. floor_of y n) x (λ y z. ok_unless _ _ _ _) (is_whole a names (node + 1)) e
is_whole (c.Ceild' s (more_of-Ix a end_of-Ix) n) names node x e =
    one_whole a node names (λ m y. divided m ceiling_of y n) (λ y. ceiling_of y n) x (λ y z. ok_unless _ _ _ _) (is_whole a names (node + 1)) e
is_whole (c.Add' s (more_of-Ix a end_of-Ix) t (more_of-Ix b end_of-Ix)) names node x e =
    both_whole a b node names (λ m y z. in_int64 m (y +ℤ z)) (λ y z. y +ℤ z) x (λ y z w. ok_if _ _ _ _) (is_whole a names) (is_whole b names) e
is_whole (c.Sub' s (more_of-Ix a end_of-Ix) t (more_of-Ix b end_of-Ix)) names node x e =
    both_whole a b node names (λ m y z. in_int64 m (y -ℤ z)) (λ y z. y -ℤ z) x (λ y z w. ok_if _ _ _ _) (is_whole a names) (is_whole b names) e
is_whole (c.Mul' s (more_of-Ix a end_of-Ix) t (more_of-Ix b end_of-Ix)) names node x e =
    both_whole a b node names (λ m y z. in_int64 m (y *ℤ z)) (λ y z. y *ℤ z) x (λ y z w. ok_if _ _ _ _) (is_whole a names) (is_whole b names) e
is_whole (c.Min' s (more_of-Ix a end_of-Ix) t (more_of-Ix b end_of-Ix)) names node x e =
    both_whole a b node names (λ m y z. Ok (int_min y z)) int_min x (λ y z w. same_ok _ _) (is_whole a names) (is_whole b names) e
is_whole (c.Max' s (more_of-Ix a end_of-Ix) t (more_of-Ix b end_of-Ix)) names node x e =
    both_whole a b node names (λ m y z. Ok (int_max y z)) int_max x (λ y z w. same_ok _ _) (is_whole a names) (is_whole b names) e
is_whole (c.Mod' s (more_of-Ix a end_of-Ix) t (more_of-Ix b end_of-Ix)) names node x e =
    both_whole a b node names (λ m y z. divided m remainder_of y z) remainder_of x (λ y z w. ok_unless _ _ _ _) (is_whole a names) (is_whole b names) e

pub are_whole : (es : List Ix) (names : List ℤ) (node : ℕ) (xs : List ℤ) → index_values es node names ≡ Ok xs → map (λ e. whole e names) es ≡ xs
are_whole [] names node xs e = same_ok _ _ e
are_whole (i ∷ es) names node xs e =
    let p = bind_ok (index_value i node names) _ _ e in
    let q = bind_ok (index_values es (node + nodes_of_ix i) names) _ _ p.2 in
    ap (λ u. u ∷ map (λ e. whole e names) es) (is_whole i names node p.0 p.1) ∙ ap (λ u. p.0 ∷ u) (are_whole es names _ q.0 q.1) ∙ same_ok _ _ q.2

-- ---- values

pub Holds : (Element → Option ℕ) → List ℤ → Val → ℕ → Type 0
Holds at names e x = (vs : List ℕ) × (all_held at (loads_of_value e names) ≡ Some vs) × ((rest : List ℕ) → taking e names (vs ++ rest) ≡ (x, rest))

pub append_assoc : {A : Type 0} (xs ys zs : List A) → (xs ++ ys) ++ zs ≡ xs ++ (ys ++ zs)
append_assoc [] ys zs = refl
append_assoc (x ∷ xs) ys zs = ap (λ l. x ∷ l) (append_assoc xs ys zs)

pub all_held_both : (f : Element → Option ℕ) (xs ys : List Element) (vs ws : List ℕ) → all_held f xs ≡ Some vs → all_held f ys ≡ Some ws → all_held f (xs ++ ys) ≡ Some (vs ++ ws)
all_held_both f [] ys vs ws e k = k ∙ ap (λ l. Some (l ++ ws)) (ap (get []) e)
all_held_both f (x ∷ xs) ys vs ws e k =
    let p = and_then_some (f x) _ _ e in
    let q = and_then_some (all_held f xs) _ _ p.2 in
    ap (λ o. both_of o (all_held f (xs ++ ys))) p.1
    ∙ ap (both_of (Some p.0)) (all_held_both f xs ys q.0 ws q.1 k)
    ∙ ap (λ l. Some (l ++ ws)) (ap (get []) q.2)

pub touch_is : (scope : Scope) (here : Instance) (access : ℕ) (array : ArrayId) (subs : List ℤ) (x : Element) → touch scope here access array subs ≡ Ok x → (array.0, subs) ≡ x
touch_is scope here access array subs x e = ok_if _ _ _ _ e

held_is : (here : Instance) (access : ℕ) (o : Option ℕ) (x : ℕ) → held_there here access o ≡ Ok x → o ≡ Some x
held_is here access None x e = absurd (subst IsOk (sym e) tt)
held_is here access (Some v) x e = ap Some (same_ok v x e)

load_is : (scope : Scope) (store : Store) (here : Instance) (access : ℕ) (array : ArrayId) (subs : List ℤ) (x : ℕ) → load scope store here access array subs ≡ Ok x → at store (array.0, subs) ≡ Some x
load_is scope store here access array subs x e =
    let p = bind_ok (touch scope here access array subs) _ _ e in
    ap (at store) (touch_is scope here access array subs p.0 p.1) ∙ held_is here access _ x p.2

with_rest : List ℕ → ℕ → ℕ × List ℕ
with_rest rest x = (x, rest)

pub value_holds : (e : Val) (s : Sight) (x : ℕ) → (value_of e).value s ≡ Ok x → Holds (at s.store) s.scope.names e x
unfolding Holds with_rest
value_holds (v.Load array subs) s x e =
    let p = bind_ok (index_values subs (s.node + 1) s.scope.names) _ _ e in
    let l = load_is s.scope s.store s.here s.access array p.0 x p.2 in
    (x ∷ [], ap (λ o. both_of o (Some [])) (ap (λ xs. at s.store (array.0, xs)) (are_whole subs s.scope.names _ p.0 p.1) ∙ l), λ rest. refl)
value_holds (v.Const n) s x e = ([], refl, λ rest. ap (with_rest rest) (same_ok _ _ e))
value_holds (v.Cast i) s x e =
    let p = bind_ok (index_value i (s.node + 1) s.scope.names) _ _ e in
    ([], refl, λ rest. ap (λ y. with_rest rest (converted y)) (is_whole i s.scope.names _ p.0 p.1) ∙ ap (with_rest rest) (same_ok _ _ p.2))
value_holds (v.Not' h (more_of-Val a end_of-Val)) s x e =
    let p = bind_ok ((value_of a).value (deeper s)) _ _ e in
    let r = value_holds a (deeper s) p.0 p.1 in
    (r.0, r.1, λ rest. ap (taken complement) (r.2 rest) ∙ ap (with_rest rest) (same_ok _ _ p.2))
value_holds (v.Bin' op h (more_of-Val a end_of-Val) g (more_of-Val b end_of-Val)) s x e =
    let p = bind_ok ((value_of a).value (deeper s)) _ _ e in
    let q = bind_ok ((value_of b).value (record s { node = s.node + 1 + (value_of a).nodes; access = s.access + (value_of a).loads })) _ _ p.2 in
    let k = value_holds a (deeper s) p.0 p.1 in
    let l = value_holds b (record s { node = s.node + 1 + (value_of a).nodes; access = s.access + (value_of a).loads }) q.0 q.1 in
    let names : List ℤ = s.scope.names in (
      k.0 ++ l.0,
      all_held_both (at s.store) (loads_of_value a names) (loads_of_value b names) k.0 l.0 k.1 l.1,
      λ rest.
          ap (λ vs. then_taking (operate op) (taking a names vs) (taking b names)) (append_assoc k.0 l.0 rest)
          ∙ ap (λ t. then_taking (operate op) t (taking b names)) (k.2 (l.0 ++ rest))
          ∙ ap (λ t. then_taking (operate op) (p.0, []) (λ vs. t)) (l.2 rest)
          ∙ ap (with_rest rest) (same_ok _ _ q.2),
    )
value_holds (v.Shift' left h (more_of-Val a end_of-Val) by) s x e =
    let p = bind_ok ((value_of a).value (deeper s)) _ _ e in
    let r = value_holds a (deeper s) p.0 p.1 in
    (r.0, r.1, λ rest. ap (taken (λ y. shifted left y by)) (r.2 rest) ∙ ap (with_rest rest) (same_ok _ _ p.2))

-- ---- an assignment

abbrev pub Assigns : (Element → Option ℕ) → Assignment → List ℤ → Element × ℕ → Type 0
Assigns at a names stored =
    (vs : List ℕ) × (all_held at (effect_by (Some a) names).loads ≡ Some vs) × (element names a.array a.subs ≡ stored.0) × ((effect_by (Some a) names).value vs ≡ stored.1)

append_nil_twice : {A : Type 0} (xs : List A) → xs ≡ xs ++ []
append_nil_twice xs = sym (append_nil xs)

pub assigns : (op : Option Op) (array : ArrayId) (subs : List Ix) (e : Val) (node : ℕ) (scope : Scope) (store : Store) (here : Instance) (stored : Element × ℕ)
    → assigned op array subs e node scope store here ≡ Ok stored
    → Assigns (at store) (record { op = op; array = array; subs = subs; value = e }) scope.names stored
unfolding Holds
assigns None array subs e node scope store here stored h =
    let xs = bind_ok (index_values subs (node + 1) scope.names) _ _ h in
    let new = bind_ok ((value_of e).value _) _ _ xs.2 in
    let touched = bind_ok (touch scope here _ array xs.0) _ _ new.2 in
    let r = value_holds e _ new.0 new.1 in
    let pair : (touched.0, new.0) ≡ stored = same_ok _ _ touched.2 in (
      r.0,
      r.1,
      ap (λ l. (array.0, l)) (are_whole subs scope.names _ xs.0 xs.1) ∙ touch_is scope here _ array xs.0 touched.0 touched.1 ∙ ap (λ u. u.0) pair,
      ap (λ vs. (taking e scope.names vs).0) (append_nil_twice r.0) ∙ ap (λ u. u.0) (r.2 []) ∙ ap (λ u. u.1) pair,
    )
assigns (Some op) array subs e node scope store here stored h =
    let xs = bind_ok (index_values subs (node + 1) scope.names) _ _ h in
    let old = bind_ok (load scope store here 0 array xs.0) _ _ xs.2 in
    let new = bind_ok ((value_of e).value _) _ _ old.2 in
    let touched = bind_ok (touch scope here _ array xs.0) _ _ new.2 in
    let r = value_holds e _ new.0 new.1 in
    let pair : (touched.0, operate op old.0 new.0) ≡ stored = same_ok _ _ touched.2 in
    let subscripts : element scope.names array subs ≡ (array.0, xs.0) = ap (λ l. (array.0, l)) (are_whole subs scope.names _ xs.0 xs.1) in (
      old.0 ∷ r.0,
      ap (λ o. both_of o (all_held (at store) (loads_of_value e scope.names))) (ap (at store) subscripts ∙ load_is scope store here 0 array xs.0 old.0 old.1)
          ∙ ap (both_of (Some old.0)) r.1,
      subscripts ∙ touch_is scope here _ array xs.0 touched.0 touched.1 ∙ ap (λ u. u.0) pair,
      ap (λ vs. operate op old.0 (taking e scope.names vs).0) (append_nil_twice r.0) ∙ ap (λ u. operate op old.0 u.0) (r.2 []) ∙ ap (λ u. u.1) pair,
    )
