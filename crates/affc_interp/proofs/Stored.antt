-- What an assignment stores, by what its parts read.
use Rattle.std.proofs.Common.{◌≡◌, ℕ, ◌+◌, ℤ, List, Option, Some, Result, Ok, Err, refl, sym, ap, ◌∙◌}
use Rattle.std.specs.Prelude.{sum_by}
use Rattle.affc_ast.specs.declared.tree.ArrayId.{ArrayId}
use Rattle.affc_ast.specs.declared.tree.Instance.{Instance}
use Rattle.affc_ast.specs.declared.tree.Ix.{Ix}
use Rattle.affc_ast.specs.declared.tree.Op.{Op}
use Rattle.affc_ast.specs.declared.tree.Val.{Val}
use Rattle.affc_ast.specs.Cause.{Cause, ◌>>=◌}
use Rattle.affc_ast.specs.Index.{index_values, nodes_of_ix}
use Rattle.affc_ast.specs.Meaning.{assigned, own_value, own_loads, combined}
use Rattle.affc_ast.specs.Store.{Element}
use Rattle.affc_ast.specs.Values.{value_of, touch}
use Rattle.affc_interp.specs.Layout.{Held, offset_of}
use Rattle.affc_interp.specs.Seen.{read_then, scope_at, sight_at}

abbrev pub chain : Result (List ℤ) Cause → (List ℤ → Result ℕ Cause) → Result ℕ Cause → (List ℤ → Result Element Cause) → (ℕ → ℕ → ℕ) → Result (Element × ℕ) Cause
chain r own v touched f = r >>= (λ xs. own xs >>= (λ o. v >>= (λ n. touched xs >>= (λ x. Ok (x, f o n)))))

pub split_ok : {A B : Type 0} (r : Result A Cause) (f : A → B) (y : B) → ◌≡◌ {A = Result B Cause} (Ok y) (read_then r (λ x. Ok (f x))) → (x : A) × (r ≡ Ok x) × (y ≡ f x)
split_ok (Ok x) f y e = (x, refl, cc)
split_ok (Err c) f y e = cc

pub split_err : {A B : Type 0} (r : Result A Cause) (f : A → B) (c : Cause) → ◌≡◌ {A = Result B Cause} (Err c) (read_then r (λ x. Ok (f x))) → r ≡ Err c
split_err (Ok x) f c e = cc
split_err (Err d) f c e = cc

module _ (r : Result (List ℤ) Cause) (own : List ℤ → Result ℕ Cause) (v : Result ℕ Cause) (touched : List ℤ → Result Element Cause) (f : ℕ → ℕ → ℕ) where
  pub no_place : (c : Cause) → r ≡ Err c → chain r own v touched f ≡ Err c
  no_place c e = ap (λ q. chain q own v touched f) e

  pub at_place : (xs : List ℤ) → r ≡ Ok xs → chain r own v touched f ≡ own xs >>= (λ o. v >>= (λ n. touched xs >>= (λ x. Ok (x, f o n))))
  at_place xs e = ap (λ q. chain q own v touched f) e

  pub no_own : (xs : List ℤ) (c : Cause) → r ≡ Ok xs → own xs ≡ Err c → chain r own v touched f ≡ Err c
  no_own xs c e k = at_place xs e ∙ ap (λ q. q >>= (λ o. v >>= (λ n. touched xs >>= (λ x. Ok (x, f o n))))) k

  pub no_value : (xs : List ℤ) (o : ℕ) (c : Cause) → r ≡ Ok xs → own xs ≡ Ok o → v ≡ Err c → chain r own v touched f ≡ Err c
  no_value xs o c e k l = at_place xs e ∙ ap (λ q. q >>= (λ o. v >>= (λ n. touched xs >>= (λ x. Ok (x, f o n))))) k ∙ ap (λ q. q >>= (λ n. touched xs >>= (λ x. Ok (x, f o n)))) l

  pub no_cell : (xs : List ℤ) (o n : ℕ) (c : Cause) → r ≡ Ok xs → own xs ≡ Ok o → v ≡ Ok n → touched xs ≡ Err c → chain r own v touched f ≡ Err c
  no_cell xs o n c e k l m = at_place xs e ∙ ap (λ q. q >>= (λ o. v >>= (λ n. touched xs >>= (λ x. Ok (x, f o n))))) k ∙ ap (λ q. q >>= (λ n. touched xs >>= (λ x. Ok (x, f o n)))) l ∙ ap (λ q. q >>= (λ x. Ok (x, f o n))) m

  pub all_read : (xs : List ℤ) (o n : ℕ) (x : Element) → r ≡ Ok xs → own xs ≡ Ok o → v ≡ Ok n → touched xs ≡ Ok x → chain r own v touched f ≡ Ok (x, f o n)
  all_read xs o n x e k l m = at_place xs e ∙ ap (λ q. q >>= (λ o. v >>= (λ n. touched xs >>= (λ x. Ok (x, f o n))))) k ∙ ap (λ q. q >>= (λ n. touched xs >>= (λ x. Ok (x, f o n)))) l ∙ ap (λ q. q >>= (λ x. Ok (x, f o n))) m

module _ (op : Option Op) (array : ArrayId) (subs : List Ix) (e : Val) (node : ℕ) (names : List ℤ) (seen : Held) (here : Instance) where
  abbrev stores : Result (Element × ℕ) Cause
  stores = assigned op array subs e node (scope_at names seen here) seen.store here

  abbrev read_subs : Result (List ℤ) Cause
  read_subs = index_values subs (node + 1) names

  abbrev own_of : List ℤ → Result ℕ Cause
  own_of = own_value op (scope_at names seen here) seen.store here array

  abbrev value_at : ℕ → ℕ → Result ℕ Cause
  value_at m l = (value_of e).value (sight_at m l names seen here)

  abbrev touched_at : ℕ → List ℤ → Result Element Cause
  touched_at k = touch (scope_at names seen here) here k array

  abbrev as_place : List ℤ → Option ℕ
  as_place = offset_of seen.extents array.0

  abbrev second : ℕ
  second = node + 1 + sum_by nodes_of_ix subs

  abbrev last : ℕ
  last = own_loads op + (value_of e).loads

  pub unread : (c : Cause) → ◌≡◌ {A = Result (Option ℕ) Cause} (Err c) (read_then read_subs (λ xs. Ok (as_place xs))) → stores ≡ Err c
  unread c q = no_place read_subs own_of (value_at second (own_loads op)) (touched_at last) (combined op) c (split_err read_subs as_place c q)

  pub unloaded : (place : Option ℕ) (c : Cause) → ◌≡◌ {A = Result (Option ℕ) Cause} (Ok place) (read_then read_subs (λ xs. Ok (as_place xs))) → ((xs : List ℤ) → place ≡ as_place xs → Err c ≡ own_of xs) → stores ≡ Err c
  unloaded place c q own =
      let p = split_ok read_subs as_place place q in
      no_own read_subs own_of (value_at second (own_loads op)) (touched_at last) (combined op) p.0 c p.1 (sym (own p.0 p.2))

  pub unvalued : (place : Option ℕ) (o : ℕ) (m l : ℕ) (c : Cause) → ◌≡◌ {A = Result (Option ℕ) Cause} (Ok place) (read_then read_subs (λ xs. Ok (as_place xs))) → ((xs : List ℤ) → place ≡ as_place xs → Ok o ≡ own_of xs)
      → m ≡ second → l ≡ own_loads op → Err c ≡ value_at m l → stores ≡ Err c
  unvalued place o m l c q own em el v =
      let p = split_ok read_subs as_place place q in
      no_value read_subs own_of (value_at second (own_loads op)) (touched_at last) (combined op) p.0 o c p.1 (sym (own p.0 p.2)) (sym (v ∙ (λ i. value_at (em i) (el i))))

  pub outside : (place : Option ℕ) (o n : ℕ) (m l k : ℕ) (c : Cause) → ◌≡◌ {A = Result (Option ℕ) Cause} (Ok place) (read_then read_subs (λ xs. Ok (as_place xs))) → ((xs : List ℤ) → place ≡ as_place xs → Ok o ≡ own_of xs)
      → m ≡ second → l ≡ own_loads op → Ok n ≡ value_at m l → k ≡ last → ((xs : List ℤ) → place ≡ as_place xs → touched_at k xs ≡ Err c) → stores ≡ Err c
  outside place o n m l k c q own em el v ek t =
      let p = split_ok read_subs as_place place q in
      no_cell read_subs own_of (value_at second (own_loads op)) (touched_at last) (combined op) p.0 o n c p.1 (sym (own p.0 p.2)) (sym (v ∙ (λ i. value_at (em i) (el i)))) (ap (λ j. touched_at j p.0) (sym ek) ∙ t p.0 p.2)

  pub stored_there : (place : Option ℕ) (o n cell : ℕ) (m l k : ℕ) → ◌≡◌ {A = Result (Option ℕ) Cause} (Ok place) (read_then read_subs (λ xs. Ok (as_place xs))) → ((xs : List ℤ) → place ≡ as_place xs → Ok o ≡ own_of xs)
      → m ≡ second → l ≡ own_loads op → Ok n ≡ value_at m l → k ≡ last → ((xs : List ℤ) → place ≡ as_place xs → (place ≡ Some cell) × (touched_at k xs ≡ Ok (array.0, xs)))
      → (xs : List ℤ) × (Some cell ≡ as_place xs) × (stores ≡ Ok ((array.0, xs), combined op o n))
  stored_there place o n cell m l k q own em el v ek t =
      let p = split_ok read_subs as_place place q in
      let u = t p.0 p.2 in
      (p.0, sym u.0 ∙ p.2, all_read read_subs own_of (value_at second (own_loads op)) (touched_at last) (combined op) p.0 o n (array.0, p.0) p.1 (sym (own p.0 p.2)) (sym (v ∙ (λ i. value_at (em i) (el i)))) (ap (λ j. touched_at j p.0) (sym ek) ∙ u.1))
