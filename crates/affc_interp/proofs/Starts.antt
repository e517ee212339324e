-- Data that is read fits its program.
use Rattle.std.proofs.Common.{◌≡◌, ℕ, zero, suc, ◌+◌, ◌<◌, ◌^◌, ℤ, pos, negsuc, Bool, true, false, cond, ◌&&◌, if◌then◌else◌, ◌*◌, int_le, int_lt, is_some, List, [], ◌∷◌, ◌++◌, length, drop, get_or, map, Some, Result, Ok, Err, refl, sym, ap, subst, ◌∙◌, arith, append_assoc, length-append}
use Rattle.std.specs.Prelude.{slice_get, All}
use Rattle.std.specs.List.{list_any}
use Rattle.std.proofs.lemmas.Bool.{and_parts, and_from}
use Rattle.std.proofs.lemmas.Bool.Decides.{nat_tests}
use Rattle.std.specs.FinMap.Entries.{is_sorted, below_all, is_some-find}
use Rattle.std.specs.Ordering.{is_lt, eq_by_cmp}
use Rattle.affc_ast.specs.declared.tree.Decl.{Decl}
use Rattle.affc_ast.specs.declared.tree.Param.{Param}
use Rattle.affc_ast.specs.declared.tree.Param.TheVariants.{Number, Array}
use Rattle.affc_ast.specs.declared.tree.Program.{Program}
use Rattle.affc_ast.specs.declared.tree.Ix.{Ix}
use Rattle.affc_ast.specs.Cause.{Cause, Extent, ◌>>=◌}
use Rattle.affc_ast.specs.Index.{index_value, nodes_of_ix}
use Rattle.affc_ast.specs.Fits.{Fits, within_ranges, has_element, lies_in}
use Rattle.affc_ast.specs.Meaning.{extents_of, arrays_of, at_least_zero}
use Rattle.affc_ast.specs.Store.{Element, Store, element_cmp, at}
use Rattle.affc_ast.specs.Values.{is_within}
use Rattle.affc_interp.specs.DataText.{elements_in, HasLines, FeedReads}
use Rattle.affc_interp.specs.Earlier.{all_earlier, extents_earlier}
use Rattle.affc_interp.specs.Layout.{size_of, subscripts_of, elements_of, given_to, start_of}
use Rattle.affc_interp.specs.Runs.{own_extents, each_extents, start}
use Rattle.affc_interp.proofs.Cells.{IsBefore, AreInOrder}
use Rattle.affc_interp.proofs.Hits.{within_at, element_hits}
use Rattle.affc_interp.proofs.Moves.{extents_keep}
use Rattle.affc_interp.proofs.Order.{elements_in_order}
use Rattle.affc_interp.proofs.Places.{length_subscripts}

-- ---- Values for all elements

abbrev Small : List ℕ → Type 0
Small vs = All (λ v. v < 2 ^ 64) vs

-- as many values for each array as it has elements
abbrev AreGiven : List (List ℤ) → List (List ℕ) → Type 0
AreGiven [] values = Unit {0}
AreGiven (ns ∷ es) values = (length (get_or values 0 []) ≡ size_of ns) × Small (get_or values 0 []) × AreGiven es (drop 1 values)

given_keys : (k : ℕ) (xss : List (List ℤ)) (vs : List ℕ) → length vs ≡ length xss → map (λ (e : Element × ℕ). e.0) (given_to k xss vs) ≡ map (λ xs. (k, xs)) xss
given_keys k [] vs e = refl
given_keys k (xs ∷ xss) [] e = absurd (omega arith)
given_keys k (xs ∷ xss) (v ∷ vs) e = ap (λ l. (k, xs) ∷ l) (given_keys k xss vs (omega arith))

keys_append : (xs ys : Store) → map (λ (e : Element × ℕ). e.0) (xs ++ ys) ≡ map (λ (e : Element × ℕ). e.0) xs ++ map (λ (e : Element × ℕ). e.0) ys
keys_append [] ys = refl
keys_append (x ∷ xs) ys = ap (λ l. x.0 ∷ l) (keys_append xs ys)

start_keys : (k : ℕ) (es : List (List ℤ)) (values : List (List ℕ)) → AreGiven es values → map (λ (e : Element × ℕ). e.0) (start_of k es values) ≡ elements_of k es
start_keys k [] values g = refl
start_keys k (ns ∷ es) values g =
    keys_append (given_to k (subscripts_of ns) (get_or values 0 [])) (start_of (suc k) es (drop 1 values))
    ∙ (λ i. given_keys k (subscripts_of ns) (get_or values 0 []) (g.0 ∙ sym (length_subscripts ns)) i ++ start_keys (suc k) es (drop 1 values) g.2 i)

-- ---- In order

below : (x : Element) (es : Store) → IsBefore element_cmp x (map (λ (e : Element × ℕ). e.0) es) → below_all element_cmp x es ≡ true
below x [] h = refl
below x (e ∷ es) h = and_from (is_lt (element_cmp x e.0)) (below_all element_cmp x es) (ap is_lt h.0) (below x es h.1)

sorted : (es : Store) → AreInOrder element_cmp (map (λ (e : Element × ℕ). e.0) es) → is_sorted element_cmp es ≡ true
sorted [] h = refl
sorted (e ∷ es) h = and_from (below_all element_cmp e.0 es) (is_sorted element_cmp es) (below e.0 es h.0) (sorted es h.1)

-- ---- Small

abbrev AllSmall : Store → Type 0
AllSmall [] = Unit {0}
AllSmall (e ∷ es) = (e.1 < 2 ^ 64) × AllSmall es

small_both : (xs ys : Store) → AllSmall xs → AllSmall ys → AllSmall (xs ++ ys)
small_both [] ys h k = k
small_both (x ∷ xs) ys h k = (h.0, small_both xs ys h.1 k)

small_given : (k : ℕ) (xss : List (List ℤ)) (vs : List ℕ) → Small vs → AllSmall (given_to k xss vs)
small_given k [] vs h = tt
small_given k (xs ∷ xss) [] h = tt
small_given k (xs ∷ xss) (v ∷ vs) h = (h 0 v (omega arith), small_given k xss vs (λ j d lt. h (suc j) d (omega arith)))

small_start : (k : ℕ) (es : List (List ℤ)) (values : List (List ℕ)) → AreGiven es values → AllSmall (start_of k es values)
small_start k [] values g = tt
small_start k (ns ∷ es) values g = small_both (given_to k (subscripts_of ns) (get_or values 0 [])) (start_of (suc k) es (drop 1 values)) (small_given k (subscripts_of ns) (get_or values 0 []) g.1) (small_start (suc k) es (drop 1 values) g.2)

small_found : (es : Store) → AllSmall es → (x : Element) (v : ℕ) → at es x ≡ Some v → v < 2 ^ 64
small_found [] h x v e = cc
small_found (y ∷ es) h x v e = elim (eq_by_cmp element_cmp x y.0) as (λ (b : Bool). cond b (Some y.1) (at es x) ≡ Some v → v < 2 ^ 64) [
  | true ↦ λ q. let same : y.1 ≡ v = cc in subst (λ n. n < 2 ^ 64) same h.0
  | false ↦ λ q. small_found es h.1 x v q
] e

-- ---- Exactly the elements

no_elements : (xs : List ℤ) → is_within xs (pos 0 ∷ []) ≡ false
no_elements [] = refl
no_elements (pos j ∷ xs) = let none : (int_le (pos 0) (pos j) && int_lt (pos j) (pos 0)) ≡ false = grind (arith, nat_tests) in ap (λ b. b && is_within xs []) none
no_elements (negsuc j ∷ xs) = refl

own_lies : (xs : List ℤ) (r : Result (List ℤ) Cause) → is_within xs (own_extents r) ≡ lies_in xs r
own_lies xs (Ok ns) = refl
own_lies xs (Err cause) = no_elements xs

has_one : (a k j : ℕ) (xs : List ℤ) (ds : List Decl) (p : List ℤ) → a ≡ k + j → within_at xs (slice_get (each_extents k ds p) j) ≡ has_element (slice_get ds j) (a, xs) p
has_one a k j xs [] p e = refl
has_one a k zero xs (d ∷ ds) p e =
    let same : k ≡ a = omega arith in
    own_lies xs (extents_of k d.extents 0 p) ∙ ap (λ n. lies_in xs (extents_of n d.extents 0 p)) same
has_one a k (suc j) xs (d ∷ ds) p e = has_one a (suc k) j xs ds p (omega arith)

module _ (ds : List Decl) (p : List ℤ) (values : List (List ℕ)) (g : AreGiven (each_extents 0 ds p) values) where
  abbrev held : Store
  held = start_of 0 (each_extents 0 ds p) values

  exactly : (x : Element) → is_some (at held x) ≡ has_element (slice_get ds x.0) x p
  exactly x =
      is_some-find element_cmp x held ∙ ap (λ l. list_any (eq_by_cmp element_cmp x) l) (start_keys 0 (each_extents 0 ds p) values g)
      ∙ element_hits x.0 0 x.0 x.1 (each_extents 0 ds p) (omega arith) ∙ has_one x.0 0 x.0 x.1 ds p (omega arith)

  ordered : is_sorted element_cmp held ≡ true
  ordered = sorted held (subst (λ l. AreInOrder element_cmp l) (sym (start_keys 0 (each_extents 0 ds p) values g)) (elements_in_order 0 (each_extents 0 ds p)))

-- ---- What is read

own_size : (r : Result (List ℤ) Cause) → elements_in r ≡ size_of (own_extents r)
own_size (Ok ns) = refl
own_size (Err cause) = refl

-- how many elements there are doesn't depend on the array's number
with_first : (z : ℤ) (r : Result (List ℤ) Cause) → elements_in (r >>= (λ ns. Ok (z ∷ ns))) ≡ at_least_zero z * elements_in r
with_first z (Ok ns) = refl
with_first z (Err cause) = omega arith

abbrev rest_of : ℕ → List Ix → (node : ℕ) → List ℤ → ℤ → Result (List ℤ) Cause
rest_of i es node names z = (if int_lt z (pos 1) then Err (Extent i) else extents_of i es node names) >>= (λ ns. Ok (z ∷ ns))

same_rest : (i j : ℕ) (es : List Ix) (node : ℕ) (names : List ℤ) → elements_in (extents_of i es node names) ≡ elements_in (extents_of j es node names) → (z : ℤ) → elements_in (rest_of i es node names z) ≡ elements_in (rest_of j es node names z)
same_rest i j es node names h z = elim (int_lt z (pos 1)) as (λ (b : Bool). elements_in ((if b then Err (Extent i) else extents_of i es node names) >>= (λ ns. Ok (z ∷ ns))) ≡ elements_in ((if b then Err (Extent j) else extents_of j es node names) >>= (λ ns. Ok (z ∷ ns)))) [
  | true ↦ refl
  | false ↦ with_first z (extents_of i es node names) ∙ ap (λ n. at_least_zero z * n) h ∙ sym (with_first z (extents_of j es node names))
]

same_read : (r : Result ℤ Cause) (f g : ℤ → Result (List ℤ) Cause) → ((z : ℤ) → elements_in (f z) ≡ elements_in (g z)) → elements_in (r >>= f) ≡ elements_in (r >>= g)
same_read (Ok z) f g h = h z
same_read (Err cause) f g h = refl

any_array : (i j : ℕ) (es : List Ix) (node : ℕ) (names : List ℤ) → elements_in (extents_of i es node names) ≡ elements_in (extents_of j es node names)
any_array i j [] node names = refl
any_array i j (x ∷ es) node names =
    same_read (index_value x node names) (rest_of i es (node + nodes_of_ix x) names) (rest_of j es (node + nodes_of_ix x) names)
    (same_rest i j es (node + nodes_of_ix x) names (any_array i j es (node + nodes_of_ix x) names))

ranges : (before : List ℤ) (ps : List Param) (p : List ℤ) (values : List (List ℕ)) (text rest : List ℕ) → HasLines before ps p values text rest → within_ranges ps p ≡ true
ranges before [] [] [] text rest h = refl
ranges before [] [] (vs ∷ values) text rest h = absurd h
ranges before [] (z ∷ p) [] text rest h = absurd h
ranges before [] (z ∷ p) (vs ∷ values) text rest h = absurd h
ranges before (Number name low high ∷ ps) [] values text rest h = absurd h
ranges before (Number name low high ∷ ps) (z ∷ p) values text rest h = and_from (int_le low z && int_le z high) (within_ranges ps p) h.1.0 (ranges (before ++ z ∷ []) ps p values h.0 rest h.2)
ranges before (Array d ∷ ps) p [] text rest h = absurd h
ranges before (Array d ∷ ps) p (vs ∷ values) text rest h = ranges before ps p values h.0 rest h.2

given : (k : ℕ) (before : List ℤ) (ps : List Param) (p whole : List ℤ) (values : List (List ℕ)) (text rest : List ℕ) → before ++ p ≡ whole → extents_earlier (length before) ps ≡ true → HasLines before ps p values text rest → AreGiven (each_extents k (arrays_of ps) whole) values
given k before [] p whole values text rest e earlier h = tt
given k before (Number name low high ∷ ps) [] whole values text rest e earlier h = absurd h
given k before (Number name low high ∷ ps) (z ∷ p) whole values text rest e earlier h =
    let more : suc (length before) ≡ length (before ++ z ∷ []) = omega (arith, length-append before (z ∷ [])) in
    given k (before ++ z ∷ []) ps p whole values h.0 rest (append_assoc before (z ∷ []) p ∙ e) (subst (λ n. extents_earlier n ps ≡ true) more earlier) h.2
given k before (Array d ∷ ps) p whole [] text rest e earlier h = absurd h
given k before (Array d ∷ ps) p whole (vs ∷ values) text rest e earlier h =
    let parts = and_parts (all_earlier d.extents (length before)) (extents_earlier (length before) ps) earlier in
    let read : extents_of 0 d.extents 0 before ≡ extents_of 0 d.extents 0 whole = extents_keep 0 d.extents 0 before p parts.0 ∙ ap (extents_of 0 d.extents 0) e in
    (h.1.0 ∙ ap elements_in read ∙ any_array 0 k d.extents 0 whole ∙ own_size (extents_of k d.extents 0 whole), h.1.1, given (suc k) before ps p whole values h.0 rest e parts.1 h.2)

pub data_fits : (text : List ℕ) (program : Program) (p : List ℤ) (values : List (List ℕ)) → extents_earlier 0 program.params ≡ true → FeedReads text program p values → Fits program p (start program p values)
data_fits text program p values earlier f =
    let g = given 0 [] program.params p p values text [] refl earlier f.lines in
    record {
      ranges = ranges [] program.params p values text [] f.lines;
      context = f.context;
      ordered = ordered (arrays_of program.params) p values g;
      exactly = exactly (arrays_of program.params) p values g;
      values = small_found (start program p values) (small_start 0 (each_extents 0 (arrays_of program.params) p) values g);
    }
