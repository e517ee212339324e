-- Values of elements that stand in their order, as a store.
use Rattle.std.proofs.Common.{◌≡◌, ℕ, zero, suc, ◌<◌, cond, List, [], ◌∷◌, ◌++◌, length, get_or, set, map, Option, Some, None, Ordering, refl, ap, ◌∙◌, arith}
use Rattle.std.specs.declared.cmp.Ordering.TheVariants.{Less, Equal, Greater}
use Rattle.std.specs.Cmp.{tied_itself}
use Rattle.std.specs.FinMap.Entries.{find, put, by_order}
use Rattle.std.specs.Ordering.{is_eq, ordering_reverse}
use Rattle.affc_ast.specs.Store.{Element, element_cmp}
use Rattle.affc_ast.proofs.Stores.{element_cmp_total}
use Rattle.affc_interp.specs.Layout.{with_cells}

module _ {A : Type 0} (R : A → A → Ordering) where
  abbrev pub IsBefore : A → List A → Type 0
  IsBefore x [] = Unit {0}
  IsBefore x (y ∷ ys) = (R x y ≡ Less) × IsBefore x ys

  -- each stands before all that follow it
  abbrev pub AreInOrder : List A → Type 0
  AreInOrder [] = Unit {0}
  AreInOrder (x ∷ xs) = IsBefore x xs × AreInOrder xs

  abbrev pub AreBefore : List A → List A → Type 0
  AreBefore [] ys = Unit {0}
  AreBefore (x ∷ xs) ys = IsBefore x ys × AreBefore xs ys

  pub before_both : (x : A) (ys zs : List A) → IsBefore x ys → IsBefore x zs → IsBefore x (ys ++ zs)
  before_both x [] zs h k = k
  before_both x (y ∷ ys) zs h k = (h.0, before_both x ys zs h.1 k)

  pub in_order_both : (xs ys : List A) → AreInOrder xs → AreInOrder ys → AreBefore xs ys → AreInOrder (xs ++ ys)
  in_order_both [] ys h k b = k
  in_order_both (x ∷ xs) ys h k b = (before_both x xs ys h.0 b.0, in_order_both xs ys h.1 k b.1)

  pub before_at : (x : A) (ys : List A) (k : ℕ) (d : A) → IsBefore x ys → k < length ys → R x (get_or ys k d) ≡ Less
  before_at x [] k d h lt = absurd (omega arith)
  before_at x (y ∷ ys) zero d h lt = h.0
  before_at x (y ∷ ys) (suc k) d h lt = before_at x ys k d h.1 (omega arith)

abbrev before_map : {A B : Type 0} (R : A → A → Ordering) (S : B → B → Ordering) (f : A → B) → ((x y : A) → R x y ≡ Less → S (f x) (f y) ≡ Less) → (x : A) (ys : List A) → IsBefore R x ys → IsBefore S (f x) (map f ys)
before_map R S f k x [] h = tt
before_map R S f k x (y ∷ ys) h = (k x y h.0, before_map R S f k x ys h.1)

pub in_order_map : {A B : Type 0} (R : A → A → Ordering) (S : B → B → Ordering) (f : A → B) → ((x y : A) → R x y ≡ Less → S (f x) (f y) ≡ Less) → (xs : List A) → AreInOrder R xs → AreInOrder S (map f xs)
in_order_map R S f k [] h = tt
in_order_map R S f k (x ∷ xs) h = (before_map R S f k x xs h.0, in_order_map R S f k xs h.1)

later : (x y : Element) → element_cmp x y ≡ Less → element_cmp y x ≡ Greater
later x y e = element_cmp_total.antisymm y x ∙ ap ordering_reverse e

same : (x : Element) → element_cmp x x ≡ Equal
same x = tied_itself element_cmp_total x

-- an element before all others isn't among them
find_none : (x : Element) (ys : List Element) (cs : List (Option ℕ)) → IsBefore element_cmp x ys → find element_cmp x (with_cells ys cs) ≡ None
find_none x [] cs h = refl
find_none x (y ∷ ys) [] h = refl
find_none x (y ∷ ys) (None ∷ cs) h = find_none x ys cs h.1
find_none x (y ∷ ys) (Some v ∷ cs) h = ap (λ o. cond (is_eq o) (Some v) (find element_cmp x (with_cells ys cs))) h.0 ∙ find_none x ys cs h.1

pub find_cell : (d : Element) (xs : List Element) (cs : List (Option ℕ)) (k : ℕ) → AreInOrder element_cmp xs → length cs ≡ length xs → k < length xs → find element_cmp (get_or xs k d) (with_cells xs cs) ≡ get_or cs k None
find_cell d [] cs k o n lt = absurd (omega arith)
find_cell d (x ∷ xs) [] k o n lt = absurd (omega arith)
find_cell d (x ∷ xs) (None ∷ cs) zero o n lt = find_none x xs cs o.0
find_cell d (x ∷ xs) (Some v ∷ cs) zero o n lt = ap (λ r. cond (is_eq r) (Some v) (find element_cmp x (with_cells xs cs))) (same x)
find_cell d (x ∷ xs) (None ∷ cs) (suc k) o n lt = find_cell d xs cs k o.1 (omega arith) (omega arith)
find_cell d (x ∷ xs) (Some v ∷ cs) (suc k) o n lt =
    ap (λ r. cond (is_eq r) (Some v) (find element_cmp (get_or xs k d) (with_cells xs cs))) (later x (get_or xs k d) (before_at element_cmp x xs k d o.0 (omega arith)))
    ∙ find_cell d xs cs k o.1 (omega arith) (omega arith)

put_first : (x : Element) (v : ℕ) (ys : List Element) (cs : List (Option ℕ)) → IsBefore element_cmp x ys → put element_cmp x v (with_cells ys cs) ≡ (x, v) ∷ with_cells ys cs
put_first x v [] cs h = refl
put_first x v (y ∷ ys) [] h = refl
put_first x v (y ∷ ys) (None ∷ cs) h = put_first x v ys cs h.1
put_first x v (y ∷ ys) (Some w ∷ cs) h =
    ap (λ o. by_order o ((x, v) ∷ (y, w) ∷ with_cells ys cs) ((y, v) ∷ with_cells ys cs) ((y, w) ∷ put element_cmp x v (with_cells ys cs))) h.0

pub put_cell : (d : Element) (xs : List Element) (cs : List (Option ℕ)) (k v : ℕ) → AreInOrder element_cmp xs → length cs ≡ length xs → k < length xs → put element_cmp (get_or xs k d) v (with_cells xs cs) ≡ with_cells xs (set cs k (Some v))
put_cell d [] cs k v o n lt = absurd (omega arith)
put_cell d (x ∷ xs) [] k v o n lt = absurd (omega arith)
put_cell d (x ∷ xs) (None ∷ cs) zero v o n lt = put_first x v xs cs o.0
put_cell d (x ∷ xs) (Some w ∷ cs) zero v o n lt =
    ap (λ r. by_order r ((x, v) ∷ (x, w) ∷ with_cells xs cs) ((x, v) ∷ with_cells xs cs) ((x, w) ∷ put element_cmp x v (with_cells xs cs))) (same x)
put_cell d (x ∷ xs) (None ∷ cs) (suc k) v o n lt = put_cell d xs cs k v o.1 (omega arith) (omega arith)
put_cell d (x ∷ xs) (Some w ∷ cs) (suc k) v o n lt =
    let y : Element = get_or xs k d in
    ap (λ r. by_order r ((y, v) ∷ (x, w) ∷ with_cells xs cs) ((x, v) ∷ with_cells xs cs) ((x, w) ∷ put element_cmp y v (with_cells xs cs))) (later x y (before_at element_cmp x xs k d o.0 (omega arith)))
    ∙ ap (λ l. (x, w) ∷ l) (put_cell d xs cs k v o.1 (omega arith) (omega arith))
