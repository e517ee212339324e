-- The source with the subscripts and extents of folds replaces the source.
use Rattle.std.proofs.Common.{◌≡◌, ℕ, zero, suc, ◌+◌, ◌<◌, ℤ, pos, ◌≤ℤ◌, true, IsTrue, List, [], ◌∷◌, ◌++◌, length, get_or, map, Option, Some, None, refl, sym, ap, subst, ◌∙◌, ◌⊎◌, inl, inr, arith}
use Rattle.std.specs.Prelude.{slice_get}
use Rattle.std.proofs.lemmas.List.{get_or_append_left, get_or-append-add}
use Rattle.std.proofs.lemmas.Option.{none-some, same_Some}
use Rattle.affc_rows.specs.Forms.{value}
use Rattle.affc_ast.specs.declared.tree.ArrayId.{ArrayId}
use Rattle.affc_ast.specs.declared.tree.Decl.{Decl}
use Rattle.affc_ast.specs.declared.tree.Op.{Op}
use Rattle.affc_ast.specs.declared.tree.Program.{Program}
use Rattle.affc_ast.specs.declared.tree.Val.{Val}
use Rattle.affc_ast.specs.declared.tree.Val.TheVariants as v
use Rattle.affc_ast.specs.declared.tree.Val.TheBlock.{more_of-Val, end_of-Val}
use Rattle.affc_ast.specs.Fits.{whole}
use Rattle.affc_ast.specs.Meaning.{arrays_of}
use Rattle.affc_ast.specs.Store.{Element}
use Rattle.affc_ast.specs.Trace.{Assignment, trace}
use Rattle.affc_ast.specs.Values.{is_within}
use Rattle.affc_trace.specs.Effects.{has_no_locals}
use Rattle.affc_trace.specs.Law.{IsIn}
use Rattle.affc_trace.specs.Target.{numbers_in}
use Rattle.affc_trace.proofs.LastStores.{map_append}
use Rattle.affc_trace.proofs.Members.{to_first, to_second}
use Rattle.affc_trace.proofs.Once.{in_append}
use Rattle.affc_domain.specs.Accesses.{Access, accesses_in, own_access, accesses_of}
use Rattle.affc_domain.specs.Arrays.{declared_arrays, extents_at}
use Rattle.affc_domain.proofs.Lists.{from_map, to_mapped, length_map, stands_in}
use Rattle.affc_domain.proofs.RangeLemmas.{in_ranges, numbers_are}
use Rattle.affc_safe.specs.Overflow.{AreReadable, ReadsValue, ReadsAssignment, NeverOverflows}
use Rattle.affc_safe.specs.Safe.{LiesWithin, HasExtents, IsSafe}
use Rattle.affc_loops.proofs.Boxed.{box_length}
use Rattle.affc_loops.proofs.MovedReads.{reads_not, reads_bin, reads_shift}
use Rattle.affc_domain.specs.Ranges.{number_ranges}
use Rattle.affc_basis.specs.declared.fold.Fold.{Fold}
use Rattle.affc_basis.specs.FoldLists.{IsFoldIn, AreFoldsIn}
use Rattle.affc_basis.specs.Folds.{forms_of, folded_by, fold_of, place}
use Rattle.affc_basis.specs.Moduli.{ArePositive}
use Rattle.affc_basis.proofs.FoldsFound.{folds_are_found}
use Rattle.affc_foldloops.specs.Laws.{RefoldedReplaces}
use Rattle.affc_foldloops.specs.Placed.{PlacesLieWithin}
use Rattle.affc_foldloops.specs.Refolds.{Subscripts, refold_value, refolded, refolded_assignment, IsReadAt, AreSized, extents_by, FoldsBy}
use Rattle.affc_foldloops.proofs.RefoldLemmas.{of_value, of_store, refolded_keeps_shape}
use Rattle.affc_foldloops.proofs.Remainder.{place_lies_within}
use Rattle.affc_foldloops.proofs.StandsLemmas.{both_at, refolded_stands}

-- ---- Folds

-- the fold of an array is of a temporary
pub fold_in : (source : Program) (folds : List (ArrayId × Fold)) → AreFoldsIn source folds → (array : ℕ) (fold : Fold) → fold_of folds array ≡ Some fold → IsFoldIn source array fold
fold_in source folds are array fold e = let f = (folds_are_found source folds array fold are).0 e in subst (λ n. IsFoldIn source n fold) f.1 (are.each f.0 fold f.2)

-- ---- What is read

reads_refolded : (at : Subscripts) (names : List ℤ) (e : Val) → ((x : Access) → IsIn x (accesses_in e) → IsReadAt at names x) → ReadsValue e names → ReadsValue (refold_value at (length names) e) names
reads_refolded at names (v.Load array subs) h r = h (array, subs) (inl refl)
reads_refolded at names (v.Const n) h r = tt
reads_refolded at names (v.Cast e) h r = r
reads_refolded at names (v.Not' s (more_of-Val a end_of-Val)) h r = reads_not (refold_value at (length names) a) names (reads_refolded at names a h r)
reads_refolded at names (v.Shift' left s (more_of-Val a end_of-Val) by) h r = reads_shift left (refold_value at (length names) a) by names (reads_refolded at names a h r)
reads_refolded at names (v.Bin' op s (more_of-Val a end_of-Val) t (more_of-Val b end_of-Val)) h r =
    reads_bin op (refold_value at (length names) a) (refold_value at (length names) b) names
    (reads_refolded at names a (λ x i. h x (to_first (accesses_in a) (accesses_in b) x i)) r.0)
    (reads_refolded at names b (λ x i. h x (to_second (accesses_in a) (accesses_in b) x i)) r.1)

-- subscripts of each access of an assignment that is read
pub accesses_read : (a : Assignment) (names : List ℤ) → ReadsAssignment a names → (x : Access) → IsIn x (accesses_of a) → AreReadable x.1 names
accesses_read a names r x i = elim (in_append (own_access a.op (a.array, a.subs)) (accesses_in a.value ++ (a.array, a.subs) ∷ []) x i) [
  | inl j ↦ own a.op j
  | inr j ↦ elim (in_append (accesses_in a.value) ((a.array, a.subs) ∷ []) x j) [ inl k ↦ in_value a.value x k r.value | inr k ↦ stored k ]
]
  where
    stored : IsIn x ((a.array, a.subs) ∷ []) → AreReadable x.1 names
    stored (inl e) = subst (λ (y : Access). AreReadable y.1 names) (sym e) r.subs
    stored (inr j) = absurd j

    own : (op : Option Op) → IsIn x (own_access op (a.array, a.subs)) → AreReadable x.1 names
    own None j = absurd j
    own (Some op) j = stored j

    in_value : (e : Val) (x : Access) → IsIn x (accesses_in e) → ReadsValue e names → AreReadable x.1 names
    in_value (v.Load array subs) x (inl q) h = subst (λ (y : Access). AreReadable y.1 names) (sym q) h
    in_value (v.Load array subs) x (inr j) h = absurd j
    in_value (v.Const n) x j h = absurd j
    in_value (v.Cast e) x j h = absurd j
    in_value (v.Not' s (more_of-Val b end_of-Val)) x j h = in_value b x j h
    in_value (v.Shift' left s (more_of-Val b end_of-Val) by) x j h = in_value b x j h
    in_value (v.Bin' op s (more_of-Val b end_of-Val) t (more_of-Val c end_of-Val)) x j h = elim (in_append (accesses_in b) (accesses_in c) x j) [ inl k ↦ in_value b x k h.0 | inr k ↦ in_value c x k h.1 ]

-- ---- Lists of extents

below_or_behind : (n m : ℕ) → (m < n) ⊎ ((k : ℕ) × (m ≡ n + k))
below_or_behind zero m = inr (m, omega arith)
below_or_behind (suc n) zero = inl (omega arith)
below_or_behind (suc n) (suc m) = elim (below_or_behind n m) [ inl h ↦ inl (omega arith) | inr h ↦ inr (h.0, (let q : m ≡ n + h.0 = h.1 in omega arith)) ]

least_at : (p : List ℤ) (temps : List Decl) → AreSized temps p → (k j : ℕ) (z : ℤ) → slice_get (get_or (extents_at temps p) k []) j ≡ Some z → pos 1 ≤ℤ z
least_at p [] sized k j z e = absurd (none-some z e)
least_at p (d ∷ temps) sized zero j z e =
    let f = from_map (λ e. whole e p) d.extents j z e in
    subst (λ y. pos 1 ≤ℤ y) (sym f.2) ((sized d (inl refl)).1 f.0 (stands_in d.extents j f.0 f.1))
least_at p (d ∷ temps) sized (suc k) j z e = least_at p temps (λ c i. sized c (inr i)) k j z e

module _ (ds es : List Decl) (p : List ℤ) where
  one_after : extents_at (ds ++ es) p ≡ extents_at ds p ++ extents_at es p
  one_after = map_append (λ (d : Decl). map (λ e. whole e p) d.extents) ds es

  as_many : length (extents_at ds p) ≡ length ds
  as_many = length_map (λ (d : Decl). map (λ e. whole e p) d.extents) ds

  pub first_extents : (k : ℕ) → k < length ds → get_or (extents_at (ds ++ es) p) k [] ≡ get_or (extents_at ds p) k []
  first_extents k h = let l = as_many in ap (λ xs. get_or xs k []) one_after ∙ get_or_append_left (extents_at ds p) (extents_at es p) [] k (omega (arith, h, l))

  pub behind_extents : (k : ℕ) → get_or (extents_at (ds ++ es) p) (length ds + k) [] ≡ get_or (extents_at es p) k []
  behind_extents k =
      ap (λ xs. get_or xs (length ds + k) []) one_after
      ∙ ap (λ n. get_or (extents_at ds p ++ extents_at es p) (n + k) []) (sym as_many)
      ∙ get_or-append-add (extents_at ds p) (extents_at es p) k []

-- ---- The program

module _ (at : Subscripts) (temps : List Decl) (source : Program) (folds : List (ArrayId × Fold)) (p : List ℤ) (are : AreFoldsIn source folds) (by : FoldsBy at temps source folds p) where
  abbrev other : Program
  other = refolded at temps source

  abbrev given : List Decl
  given = arrays_of source.params

  never_overflows : IsTrue (has_no_locals source) → length p ≡ numbers_in source.params → NeverOverflows source p → NeverOverflows other p
  never_overflows bare count small =
      let shape = refolded_keeps_shape at temps source in
      record {
        near = ap (λ b. b) shape.same_near ∙ small.near;
        extents = λ d i. elim (in_append given temps d i) [ inl j ↦ small.extents d (to_first given source.temps d j) | inr j ↦ (by.sized d j).0 ];
        assignments = λ b a i e.
            let here : IsIn b (trace source p) = subst (IsIn b) (shape.same_trace p) i in
            let names : List ℤ = p ++ b.iterators in
            let both = both_at at temps source p b bare count here in
            let its = both.assignment in
            let reads : ReadsAssignment its names = small.assignments b its here both.before in
            let new : (x : Access) → IsIn x (accesses_of its) → IsReadAt at names x = λ x j. by.reads b its x here both.before j in
            subst (λ c. ReadsAssignment c names) (same_Some (refolded_assignment at (length names) its) a (sym both.after ∙ e))
            (record { subs = new (its.array, its.subs) (of_store its); value = reads_refolded at names its.value (λ x j. new x (of_value its x j)) reads.value });
      }

  has_extents : IsSafe source p → HasExtents other p
  has_extents safe d e i j = elim (in_append given temps d i) [ inl k ↦ safe.extents d e (to_first given source.temps d k) j | inr k ↦ (by.sized d k).1 e j ]

  moduli_positive : (k : ℕ) (fold : Fold) → fold_of folds (length given + k) ≡ Some fold → ArePositive p (forms_of fold.moduli)
  moduli_positive k fold e j b f =
      let q : get_or (extents_at temps p) k [] ≡ map (λ b. value b p) (forms_of fold.moduli) = by.extents k ∙ ap (λ o. extents_by o p (get_or (extents_at source.temps p) k [])) e in
      least_at p temps by.sized k j (value b p) (ap (λ xs. slice_get xs j) q ∙ to_mapped (λ b. value b p) (forms_of fold.moduli) j b f)

  -- where an element lies within the source's extents, its place lies within the new ones
  place_within : (x : Element) → LiesWithin source p x → LiesWithin other p (place folds p x)
  place_within x h = elim (below_or_behind (length given) x.0) [
    | inl l ↦
        let old = first_extents given source.temps p x.0 l in
        let new = first_extents given temps p x.0 l in
        by_none l (fold_of folds x.0) refl (ap (is_within x.1) (new ∙ sym old) ∙ h)
    | inr k ↦
        let n : ℕ = length given + k.0 in
        let old = ap (λ m. get_or (extents_at (declared_arrays source) p) m []) k.1 ∙ behind_extents given source.temps p k.0 in
        let new = ap (λ m. get_or (extents_at (declared_arrays other) p) m []) k.1 ∙ behind_extents given temps p k.0 in
        ap (is_within (folded_by (fold_of folds x.0) p x.1)) (new ∙ by.extents k.0)
        ∙ ap (λ m. is_within (folded_by (fold_of folds m) p x.1) (extents_by (fold_of folds n) p (get_or (extents_at source.temps p) k.0 []))) k.1
        ∙ by_fold k.0 (fold_of folds n) refl (ap (is_within x.1) (sym old) ∙ h)
  ]
    where
      by_none : x.0 < length given → (o : Option Fold) → fold_of folds x.0 ≡ o → is_within x.1 (get_or (extents_at (declared_arrays other) p) x.0 []) ≡ true
          → is_within (folded_by o p x.1) (get_or (extents_at (declared_arrays other) p) x.0 []) ≡ true
      by_none l None e w = w
      by_none l (Some fold) e w = let f = (fold_in source folds are x.0 fold e).behind in absurd (omega (arith, l, f))

      by_fold : (k : ℕ) (o : Option Fold) → fold_of folds (length given + k) ≡ o → is_within x.1 (get_or (extents_at source.temps p) k []) ≡ true
          → is_within (folded_by o p x.1) (extents_by o p (get_or (extents_at source.temps p) k [])) ≡ true
      by_fold k None e w = w
      by_fold k (Some fold) e w = place_lies_within fold p x.1 (moduli_positive k fold e)

  pub places_lie_within : IsSafe source p → PlacesLieWithin other source (place folds p) p
  places_lie_within safe b x i t = place_within x (safe.within b x i t)

pub refolded_replaces : RefoldedReplaces
refolded_replaces at temps source folds p bare within small safe are by =
    let count : length p ≡ numbers_in source.params = box_length (number_ranges source.params) p (in_ranges source.params p within) ∙ sym (numbers_are source.params) in
    record {
      stands = refolded_stands at temps source (place folds p) p bare count by.places;
      small = never_overflows at temps source folds p are by bare count small;
      extents = has_extents at temps source folds p are by safe;
      within = places_lie_within at temps source folds p are by safe;
    }
