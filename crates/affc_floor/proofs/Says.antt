-- What an assignment reads and stores, against the faults of its events.
use Rattle.std.proofs.Common.{◌≡◌, ℕ, ◌+◌, ℤ, Bool, true, false, if◌then◌else◌, List, [], ◌∷◌, ◌++◌, length, get_or, map, sum_by, Option, Some, None, Result, Ok, Err, refl, sym, ap, subst, ◌∙◌, arith}
use Rattle.std.specs.Prelude.{is_some}
use Rattle.affc_ast.specs.declared.tree.ArrayId.{ArrayId}
use Rattle.affc_ast.specs.declared.tree.Instance.{Instance}
use Rattle.affc_ast.specs.declared.tree.Ix.{Ix}
use Rattle.affc_ast.specs.declared.tree.Op.{Op}
use Rattle.affc_ast.specs.declared.tree.Val.{Val}
use Rattle.affc_ast.specs.declared.tree.Val.TheVariants as v
use Rattle.affc_ast.specs.declared.tree.Val.TheBlock.{more_of-Val, end_of-Val}
use Rattle.affc_ast.specs.Cause.{Cause, OutOfBounds, Unwritten, ◌>>=◌}
use Rattle.affc_ast.specs.Fits.{whole}
use Rattle.affc_ast.specs.Index.{index_value, index_values, nodes_of_ix}
use Rattle.affc_ast.specs.Meaning.{own_loads, own_value, combined, assigned}
use Rattle.affc_ast.specs.Store.{Element, Store, at}
use Rattle.affc_ast.specs.Trace.{loads_of_value, own_load, element}
use Rattle.affc_ast.specs.Values.{Scope, Sight, deeper, is_within, touch, held, load, value_of, operate, complement, shifted, converted}
use Rattle.affc_trace.specs.Law.{or_else}
use Rattle.affc_trace.specs.Effects.{effect_by}
use Rattle.affc_trace.proofs.EndedReads.{same_ok, ok_if, bind_ok}
use Rattle.affc_trace.proofs.Runs.{length_append}
use Rattle.affc_safe.specs.Overflow.{AreReadable, ReadsValue}
use Rattle.affc_safe.proofs.Wants.{bind_to}
use Rattle.affc_floor.specs.Faults.{Holding, touch_fault, load_fault, loads_fault, fault_of}

pub all_readable : (names : List ℤ) (es : List Ix) → AreReadable es names → (node : ℕ) → index_values es node names ≡ Ok (map (λ e. whole e names) es)
all_readable names [] r node = refl
all_readable names (e ∷ es) r node =
    bind_to (index_value e node names) (whole e names) _ _ (r.0 node)
    (bind_to (index_values es (node + nodes_of_ix e) names) (map (λ e. whole e names) es) _ _ (all_readable names es r.1 (node + nodes_of_ix e)) refl)

pub or_none : {A : Type 0} (o : Option A) → or_else o None ≡ o
or_none None = refl
or_none (Some a) = refl

pub or_assoc : {A : Type 0} (a b c : Option A) → or_else (or_else a b) c ≡ or_else a (or_else b c)
or_assoc None b c = refl
or_assoc (Some a) b c = refl

-- a result is there where there is no fault, and else it is the fault
unfoldable pub Says : {A : Type 0} → Option Cause → Result A Cause → Type 0
Says o (Ok x) = o ≡ None
Says o (Err cause) = o ≡ Some cause

pub says_ok : {A : Type 0} (x : A) → Says None (Ok x)
unfolding Says
says_ok x = refl

pub says_bind : {A B : Type 0} (o o' : Option Cause) (r : Result A Cause) (f : A → Result B Cause) → Says o r → ((x : A) → r ≡ Ok x → Says o' (f x)) → Says (or_else o o') (r >>= f)
unfolding Says
says_bind o o' (Ok x) f s h = subst (λ z. Says (or_else z o') (f x)) (sym s) (h x refl)
says_bind o o' (Err cause) f s h = ap (λ z. or_else z o') s

-- what is only made of it changes nothing
pub says_made : {A B : Type 0} (o : Option Cause) (r : Result A Cause) (f : A → B) → Says o r → Says o (r >>= (λ x. Ok (f x)))
unfolding Says
says_made o (Ok x) f s = s
says_made o (Err cause) f s = s

pub says_after : {A B : Type 0} (o : Option Cause) (r : Result A Cause) (x : A) (f : A → Result B Cause) → r ≡ Ok x → Says o (f x) → Says o (r >>= f)
says_after o r x f e s = subst (λ q. Says o (q >>= f)) (sym e) s

module _ (extents : List (List ℤ)) (store : Store) where
  abbrev has : Holding
  has x = is_some (at store x)

  says_if : {A : Type 0} (t : Bool) (x : A) (cause : Cause) → Says (if t then None else Some cause) (if t then Ok x else Err cause)
  unfolding Says
  says_if true x cause = refl
  says_if false x cause = refl

  says_held : (here : Instance) (k : ℕ) (o : Option ℕ) → Says (if is_some o then None else Some (Unwritten here k)) (held here k o)
  unfolding Says
  says_held here k None = refl
  says_held here k (Some u) = refl

  says_touch : (scope : Scope) (here : Instance) (k : ℕ) (array : ArrayId) (xs : List ℤ) → scope.extents ≡ extents → Says (touch_fault extents here k (array.0, xs)) (touch scope here k array xs)
  says_touch scope here k array xs e =
      let x : Element = (array.0, xs) in
      subst (λ es. Says (touch_fault extents here k x) (if is_within xs (get_or es array.0 []) then Ok x else Err (OutOfBounds here k))) (sym e)
      (says_if (is_within xs (get_or extents array.0 [])) x (OutOfBounds here k))

  says_load : (scope : Scope) (here : Instance) (k : ℕ) (array : ArrayId) (xs : List ℤ) → scope.extents ≡ extents → Says (load_fault extents (λ x. is_some (at store x)) here k (array.0, xs)) (load scope store here k array xs)
  says_load scope here k array xs e =
      says_bind (touch_fault extents here k (array.0, xs)) (if is_some (at store (array.0, xs)) then None else Some (Unwritten here k)) (touch scope here k array xs) (λ x. held here k (at store x))
      (says_touch scope here k array xs e) (λ x q.
      subst (λ (y : Element). Says (if is_some (at store (array.0, xs)) then None else Some (Unwritten here k)) (held here k (at store y))) (ok_if (is_within xs (get_or scope.extents array.0 [])) (OutOfBounds here k) (array.0, xs) x q)
      (says_held here k (at store (array.0, xs))))

  pub loads_after : (h : Holding) (b : Instance) (k : ℕ) (xs ys : List Element) → loads_fault extents h b k (xs ++ ys) ≡ or_else (loads_fault extents h b k xs) (loads_fault extents h b (k + length xs) ys)
  loads_after h b k [] ys = let e : k ≡ k + 0 = omega arith in ap (λ n. loads_fault extents h b n ys) e
  loads_after h b k (x ∷ xs) ys =
      let e : k + 1 + length xs ≡ k + length (x ∷ xs) = omega arith in
      ap (or_else (load_fault extents h b k x)) (loads_after h b (k + 1) xs ys ∙ ap (λ n. or_else (loads_fault extents h b (k + 1) xs) (loads_fault extents h b n ys)) e)
      ∙ sym (or_assoc (load_fault extents h b k x) (loads_fault extents h b (k + 1) xs) (loads_fault extents h b (k + length (x ∷ xs)) ys))

  -- how many loads a value has
  pub loads_counted : (e : Val) (names : List ℤ) → (value_of e).loads ≡ length (loads_of_value e names)
  loads_counted (v.Load array subs) names = refl
  loads_counted (v.Const n) names = refl
  loads_counted (v.Cast i) names = refl
  loads_counted (v.Not' s (more_of-Val a end_of-Val)) names = loads_counted a names
  loads_counted (v.Shift' left s (more_of-Val a end_of-Val) by) names = loads_counted a names
  loads_counted (v.Bin' op s (more_of-Val a end_of-Val) t (more_of-Val b end_of-Val)) names =
      let x : (value_of a).loads ≡ length (loads_of_value a names) = loads_counted a names in
      let y : (value_of b).loads ≡ length (loads_of_value b names) = loads_counted b names in
      let z : length (loads_of_value a names ++ loads_of_value b names) ≡ length (loads_of_value a names) + length (loads_of_value b names) = length_append (loads_of_value a names) (loads_of_value b names) in
      omega arith

  pub says_value : (e : Val) (s : Sight) → s.store ≡ store → s.scope.extents ≡ extents → ReadsValue e s.scope.names
      → Says (loads_fault extents (λ x. is_some (at store x)) s.here s.access (loads_of_value e s.scope.names)) ((value_of e).value s)
  says_value (v.Load array subs) s st ex r =
      subst (λ o. Says o (index_values subs (s.node + 1) s.scope.names >>= load s.scope s.store s.here s.access array)) (sym (or_none (load_fault extents (λ x. is_some (at store x)) s.here s.access (element s.scope.names array subs))))
      (says_after (load_fault extents (λ x. is_some (at store x)) s.here s.access (element s.scope.names array subs)) (index_values subs (s.node + 1) s.scope.names) (map (λ e. whole e s.scope.names) subs) (load s.scope s.store s.here s.access array)
      (all_readable s.scope.names subs r (s.node + 1))
      (subst (λ u. Says (load_fault extents (λ x. is_some (at store x)) s.here s.access (element s.scope.names array subs)) (load s.scope u s.here s.access array (map (λ e. whole e s.scope.names) subs))) (sym st)
      (says_load s.scope s.here s.access array (map (λ e. whole e s.scope.names) subs) ex)))
  says_value (v.Const n) s st ex r = says_ok n
  says_value (v.Cast i) s st ex r = says_after None (index_value i (s.node + 1) s.scope.names) (whole i s.scope.names) (λ x. Ok (converted x)) (r (s.node + 1)) (says_ok (converted (whole i s.scope.names)))
  says_value (v.Not' t (more_of-Val a end_of-Val)) s st ex r =
      says_made (loads_fault extents (λ x. is_some (at store x)) s.here s.access (loads_of_value a s.scope.names)) ((value_of a).value (deeper s)) complement (says_value a (deeper s) st ex r)
  says_value (v.Shift' left t (more_of-Val a end_of-Val) by) s st ex r =
      says_made (loads_fault extents (λ x. is_some (at store x)) s.here s.access (loads_of_value a s.scope.names)) ((value_of a).value (deeper s)) (λ x. shifted left x by) (says_value a (deeper s) st ex r)
  says_value (v.Bin' op t (more_of-Val a end_of-Val) t' (more_of-Val b end_of-Val)) s st ex r =
      let names : List ℤ = s.scope.names in
      let h : Holding = λ x. is_some (at store x) in
      let second : Sight = record s { node = s.node + 1 + (value_of a).nodes; access = s.access + (value_of a).loads } in
      let together : or_else (loads_fault extents h s.here s.access (loads_of_value a names)) (loads_fault extents h s.here (s.access + (value_of a).loads) (loads_of_value b names)) ≡ loads_fault extents h s.here s.access (loads_of_value a names ++ loads_of_value b names) =
      ap (λ n. or_else (loads_fault extents h s.here s.access (loads_of_value a names)) (loads_fault extents h s.here (s.access + n) (loads_of_value b names))) (loads_counted a names)
      ∙ sym (loads_after h s.here s.access (loads_of_value a names) (loads_of_value b names)) in
      subst (λ o. Says o ((value_of a).value (deeper s) >>= (λ x. (value_of b).value second >>= (λ y. Ok (operate op x y))))) together
      (says_bind (loads_fault extents h s.here s.access (loads_of_value a names)) (loads_fault extents h s.here (s.access + (value_of a).loads) (loads_of_value b names)) ((value_of a).value (deeper s)) _
      (says_value a (deeper s) st ex r.0) (λ x q.
      says_made (loads_fault extents h s.here (s.access + (value_of a).loads) (loads_of_value b names)) ((value_of b).value second) (operate op x) (says_value b second st ex r.1)))

  says_own : (op : Option Op) (scope : Scope) (here : Instance) (array : ArrayId) (xs : List ℤ) → scope.extents ≡ extents
      → Says (loads_fault extents (λ x. is_some (at store x)) here 0 (own_load op (array.0, xs))) (own_value op scope store here array xs)
  says_own None scope here array xs e = says_ok 0
  says_own (Some op) scope here array xs e =
      subst (λ o. Says o (load scope store here 0 array xs)) (sym (or_none (load_fault extents (λ x. is_some (at store x)) here 0 (array.0, xs)))) (says_load scope here 0 array xs e)

  own_counted : (op : Option Op) (x : Element) → own_loads op ≡ length (own_load op x)
  own_counted None x = refl
  own_counted (Some op) x = refl

  -- an assignment, part by part
  module _ (op : Option Op) (array : ArrayId) (e : Val) (sight : Sight) (scope : Scope) (here : Instance) where
    abbrev touched : List ℤ → ℕ → ℕ → Result (Element × ℕ) Cause
    touched xs own v = touch scope here (own_loads op + (value_of e).loads) array xs >>= (λ x. Ok (x, combined op own v))

    abbrev valued : List ℤ → ℕ → Result (Element × ℕ) Cause
    valued xs own = (value_of e).value sight >>= (λ v. touched xs own v)

    abbrev owned : List ℤ → Result (Element × ℕ) Cause
    owned xs = own_value op scope store here array xs >>= (λ own. valued xs own)

  -- its events
  pub says_assigned : (op : Option Op) (array : ArrayId) (subs : List Ix) (e : Val) (node : ℕ) (scope : Scope) (here : Instance) → scope.extents ≡ extents → AreReadable subs scope.names → ReadsValue e scope.names
      → Says (fault_of extents (λ x. is_some (at store x)) here (effect_by (Some (record { op = op; array = array; subs = subs; value = e })) scope.names)) (assigned op array subs e node scope store here)
  says_assigned op array subs e node scope here ex h k =
      let names : List ℤ = scope.names in
      let xs : List ℤ = map (λ e. whole e names) subs in
      let x : Element = (array.0, xs) in
      let vs : List Element = loads_of_value e names in
      let own : List Element = own_load op x in
      let holds : Holding = λ x. is_some (at store x) in
      let sight : Sight = record { node = node + 1 + sum_by nodes_of_ix subs; access = own_loads op; scope = scope; store = store; here = here } in
      let first : Option Cause = loads_fault extents holds here 0 own in
      let second : Option Cause = loads_fault extents holds here (own_loads op) vs in
      let third : Option Cause = touch_fault extents here (own_loads op + (value_of e).loads) x in
      let counted : own_loads op + (value_of e).loads ≡ length (own ++ vs) = (let a : own_loads op ≡ length own = own_counted op x in let b : (value_of e).loads ≡ length vs = loads_counted e names in let c : length (own ++ vs) ≡ length own + length vs = length_append own vs in omega arith) in
      let start : own_loads op ≡ 0 + length own = (let a : own_loads op ≡ length own = own_counted op x in omega arith) in
      let together : or_else first (or_else second third) ≡ fault_of extents holds here (effect_by (Some (record { op = op; array = array; subs = subs; value = e })) names) =
      sym (or_assoc first second third)
      ∙ ap (λ n. or_else (or_else first (loads_fault extents holds here n vs)) third) start
      ∙ ap (λ o. or_else o third) (sym (loads_after holds here 0 own vs))
      ∙ ap (λ n. or_else (loads_fault extents holds here 0 (own ++ vs)) (touch_fault extents here n x)) counted in
      let at_touch : (o v : ℕ) → Says third (touched op array e sight scope here xs o v) =
      λ o v. says_made {A = Element} {B = Element × ℕ} third (touch scope here (own_loads op + (value_of e).loads) array xs) (λ y. (y, combined op o v)) (says_touch scope here (own_loads op + (value_of e).loads) array xs ex) in
      let at_value : (o : ℕ) → Says (or_else second third) (valued op array e sight scope here xs o) =
      λ o. says_bind {A = ℕ} {B = Element × ℕ} second third ((value_of e).value sight) (λ v. touched op array e sight scope here xs o v) (says_value e sight refl ex k) (λ v q. at_touch o v) in
      let at_own : Says (or_else first (or_else second third)) (owned op array e sight scope here xs) =
      says_bind {A = ℕ} {B = Element × ℕ} first (or_else second third) (own_value op scope store here array xs) (λ o. valued op array e sight scope here xs o) (says_own op scope here array xs ex) (λ o q. at_value o) in
      subst (λ o. Says o (assigned op array subs e node scope store here)) together
      (says_after {A = List ℤ} {B = Element × ℕ} (or_else first (or_else second third)) (index_values subs (node + 1) names) xs (owned op array e sight scope here) (all_readable names subs h (node + 1)) at_own)

  -- what is stored is the assignment's element
  pub stored_is : (op : Option Op) (array : ArrayId) (subs : List Ix) (e : Val) (node : ℕ) (scope : Scope) (here : Instance) (stored : Element × ℕ) → AreReadable subs scope.names
      → assigned op array subs e node scope store here ≡ Ok stored → stored.0 ≡ element scope.names array subs
  stored_is op array subs e node scope here stored h q =
      let a = bind_ok (index_values subs (node + 1) scope.names) _ stored q in
      let b = bind_ok (own_value op scope store here array a.0) _ stored a.2 in
      let c = bind_ok ((value_of e).value _) _ stored b.2 in
      let d = bind_ok (touch scope here _ array a.0) _ stored c.2 in
      let xs : a.0 ≡ map (λ e. whole e scope.names) subs = same_ok a.0 (map (λ e. whole e scope.names) subs) (sym a.1 ∙ all_readable scope.names subs h (node + 1)) in
      ap (λ (w : Element × ℕ). w.0) (sym (same_ok (d.0, combined op b.0 c.0) stored d.2)) ∙ sym (ok_if (is_within a.0 (get_or scope.extents array.0 [])) _ (array.0, a.0) d.0 d.1) ∙ ap (λ l. (array.0, l)) xs
