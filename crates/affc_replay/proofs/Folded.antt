-- The folds that a certificate shows, with empty ones, are folds of all temporaries.
use Rattle.std.proofs.Common.{◌≡◌, ℕ, zero, suc, ◌+◌, ◌<◌, nat_eq, nat_lt, ℤ, Bool, true, false, true≢false, ◌&&◌, IsTrue, if◌then◌else◌, List, [], ◌∷◌, ◌++◌, length, map, Some, refl, sym, ap, subst, ◌∙◌, inl, inr, arith, ◌⊎◌}
use Rattle.std.specs.Prelude.{slice_get, option_map}
use Rattle.std.proofs.lemmas.Bool.{and_parts, eqb-true, ltb-true, lt-ltb}
use Rattle.std.proofs.lemmas.Option.{none-some, same_Some, slice_get-map}
use Rattle.affc_rows.specs.Forms.{Affine}
use Rattle.affc_ast.specs.declared.tree.ArrayId.{ArrayId}
use Rattle.affc_ast.specs.declared.tree.Program.{Program}
use Rattle.affc_ast.specs.Meaning.{arrays_of}
use Rattle.affc_trace.specs.Law.{IsIn}
use Rattle.affc_trace.specs.Laws.{IsInContext}
use Rattle.affc_trace.specs.Orders.{AreDistinct}
use Rattle.affc_trace.specs.Target.{numbers_in}
use Rattle.affc_trace.proofs.Members.{to_first, to_second, to_map, in_map}
use Rattle.affc_trace.proofs.Once.{in_append}
use Rattle.affc_trace.proofs.LastStores.{map_append}
use Rattle.affc_domain.specs.Arrays.{declared_arrays}
use Rattle.affc_domain.specs.Ranges.{number_ranges}
use Rattle.affc_basis.specs.declared.fold.Fold.{Fold}
use Rattle.affc_basis.specs.FoldLists.{AreFoldsIn}
use Rattle.affc_basis.specs.Folds.{KeepsLimits, Obeys, fold_of, forms_of}
use Rattle.affc_basis.specs.Moduli.{IsModulus}
use Rattle.affc_basis.proofs.FoldsFound.{folds_are_found}
use Rattle.affc_domain.proofs.Lists.{in_all}
use Rattle.affc_nest.specs.declared.nest.ArrayInfo.{ArrayInfo}
use Rattle.affc_nest.specs.Nests.{array_of, nest_of}
use Rattle.affc_sched.proofs.Lists.{all_from}
use Rattle.affc_flow.specs.Questions.{is_temp, is_temporary_info}
use Rattle.affc_life.specs.Folding.{IsFoldFor, HasTrueMarks}
use Rattle.affc_folds.specs.Folding.{IsLeftWhole}
use Rattle.affc_life.proofs.NestLemmas.{is_temporary}
use Rattle.affc_accept.specs.Laws.{AreRightFolds}
use Rattle.affc_accept.specs.Layouts.{Dimensions, temporaries_from}
use Rattle.affc_accept.proofs.Listed.{in_choice, temporary_in}
use Rattle.affc_replay.specs.Folds.{scalars_from, AreAll, FoldAll}
use Rattle.affc_replay.specs.Made.{HasOwnTemporaries}
use Rattle.affc_replay.proofs.Lists.{all_nil, slice_behind, distinct_both, choice_distinct, choice_map, in_choice_there}

abbrev number_of : ArrayId × Fold → ℕ
number_of f = f.0.0

abbrev array_in : ℕ × ℕ → ℕ
array_in d = d.0

abbrev arrays_from : (first : ℕ) → List ArrayInfo → List ℕ
arrays_from first as' = map array_in (temporaries_from first as')

abbrev is_shaped : ArrayInfo → Bool
is_shaped a = is_temp a.role && nat_lt 0 (length a.extents)

abbrev is_scalar : ArrayInfo → Bool
is_scalar a = is_temp a.role && nat_eq (length a.extents) 0

-- ---- The arrays of a list

-- a temporary without dimensions
record HasScalarAt (first : ℕ) (as' : List ArrayInfo) (n : ℕ) : Type 0 where
  number : ℕ
  info : ArrayInfo
  there : slice_get as' number ≡ Some info
  is : n ≡ first + number
  own : is_temp info.role ≡ true
  none : nat_eq (length info.extents) 0 ≡ true

scalar_in : (first : ℕ) (as' : List ArrayInfo) (n : ℕ) → IsIn n (scalars_from first as') → HasScalarAt first as' n
scalar_in first [] n i = absurd i
scalar_in first (a ∷ as') n i =
    elim (in_append (if is_scalar a then first ∷ [] else []) (scalars_from (first + 1) as') n i) [
      | inl j ↦ (
          let c = in_choice (is_scalar a) first n j in
          let both = and_parts (is_temp a.role) (nat_eq (length a.extents) 0) c.0 in
          record { number = 0; info = a; there = refl; is = c.1 ∙ none first; own = both.0; none = both.1 }
          )
      | inr j ↦ (
          let h = scalar_in (first + 1) as' n j in
          record { number = suc h.number; info = h.info; there = h.there; is = h.is ∙ moved first h.number; own = h.own; none = h.none }
          )
    ]
  where
    none : (n : ℕ) → n ≡ n + 0
    none n = omega arith

    moved : (m n : ℕ) → (m + 1) + n ≡ m + suc n
    moved m n = omega arith

not_before : (first n k : ℕ) → n ≡ (first + 1) + k → n ≡ first → ⊥
not_before first n k e f = omega (arith, e, f)

distinct_scalars : (first : ℕ) (as' : List ArrayInfo) → AreDistinct (scalars_from first as')
distinct_scalars first [] = tt
distinct_scalars first (a ∷ as') =
    choice_distinct (is_scalar a) first (scalars_from (first + 1) as') (λ i. let h = scalar_in (first + 1) as' first i in not_before first first h.number h.is refl) (distinct_scalars (first + 1) as')

array_at : (first : ℕ) (as' : List ArrayInfo) (n : ℕ) → IsIn n (arrays_from first as') → (d : Dimensions) × IsIn d (temporaries_from first as') × (n ≡ d.0)
array_at first as' n i = in_map array_in (temporaries_from first as') n i

arrays_step : (first : ℕ) (a : ArrayInfo) (as' : List ArrayInfo) → arrays_from first (a ∷ as') ≡ (if is_shaped a then first ∷ [] else []) ++ arrays_from (first + 1) as'
arrays_step first a as' =
    map_append array_in (if is_shaped a then (first, length a.extents) ∷ [] else []) (temporaries_from (first + 1) as')
    ∙ ap (λ ns. ns ++ arrays_from (first + 1) as') (choice_map array_in (is_shaped a) (first, length a.extents))

distinct_arrays : (first : ℕ) (as' : List ArrayInfo) → AreDistinct (arrays_from first as')
distinct_arrays first [] = tt
distinct_arrays first (a ∷ as') =
    subst AreDistinct (sym (arrays_step first a as'))
    (choice_distinct (is_shaped a) first (arrays_from (first + 1) as')
    (λ i. let d = array_at (first + 1) as' first i in let h = temporary_in (first + 1) as' d.0 d.1 in not_before first first h.number (d.2 ∙ h.array) refl) (distinct_arrays (first + 1) as'))

-- none is both
never_both : (as' : List ArrayInfo) (n : ℕ) → IsIn n (arrays_from 0 as') → IsIn n (scalars_from 0 as') → ⊥
never_both as' n i j =
    let d = array_at 0 as' n i in
    let h = temporary_in 0 as' d.0 d.1 in
    let s = scalar_in 0 as' n j in
    let same : h.number ≡ s.number = omega (arith, d.2, h.array, s.is) in
    let info : h.info ≡ s.info = same_Some h.info s.info (sym h.there ∙ ap (slice_get as') same ∙ s.there) in
    let some : 0 < length h.info.extents = ltb-true 0 (length h.info.extents) h.some in
    let zero' : length s.info.extents ≡ 0 = eqb-true (length s.info.extents) 0 s.none in
    clash (length h.info.extents) (length s.info.extents) some (ap (λ (a : ArrayInfo). length a.extents) info) zero'
  where
    clash : (m n : ℕ) → 0 < m → m ≡ n → n ≡ 0 → ⊥
    clash m n l e f = omega (arith, l, e, f)

-- a temporary is one of them
one_of : (first : ℕ) (as' : List ArrayInfo) (k : ℕ) (a : ArrayInfo) → slice_get as' k ≡ Some a → is_temp a.role ≡ true → (IsIn (first + k) (arrays_from first as')) ⊎ (IsIn (first + k) (scalars_from first as'))
one_of first [] k a at own = absurd (none-some a at)
one_of first (b ∷ as') zero a at own =
    let same : b ≡ a = same_Some b a at in
    let here : is_temp b.role ≡ true = ap (λ (x : ArrayInfo). is_temp x.role) same ∙ own in
    by (nat_eq (length b.extents) 0) refl here
  where
    n : first + 0 ≡ first
    n = omega arith

    some : (m : ℕ) → nat_eq m 0 ≡ false → nat_lt 0 m ≡ true
    some zero e = absurd (true≢false e)
    some (suc m) e = lt-ltb 0 (suc m) (omega arith)

    by : (t : Bool) → nat_eq (length b.extents) 0 ≡ t → is_temp b.role ≡ true → (IsIn (first + 0) (arrays_from first (b ∷ as'))) ⊎ (IsIn (first + 0) (scalars_from first (b ∷ as')))
    by true e here = inr (subst (λ m. IsIn m (scalars_from first (b ∷ as'))) (sym n) (in_choice_there (is_scalar b) first (scalars_from (first + 1) as') (ap (λ x. x && nat_eq (length b.extents) 0) here ∙ e)))
    by false e here =
        inl (subst (λ m. IsIn m (arrays_from first (b ∷ as'))) (sym n)
        (subst (IsIn first) (sym (arrays_step first b as')) (in_choice_there (is_shaped b) first (arrays_from (first + 1) as') (ap (λ x. x && nat_lt 0 (length b.extents)) here ∙ some (length b.extents) e))))
one_of first (b ∷ as') (suc k) a at own = elim (one_of (first + 1) as' k a at own) [
  | inl i ↦ inl (subst (λ m. IsIn m (arrays_from first (b ∷ as'))) (moved first k) (subst (IsIn ((first + 1) + k)) (sym (arrays_step first b as')) (to_second (if is_shaped b then first ∷ [] else []) (arrays_from (first + 1) as') ((first + 1) + k) i)))
  | inr i ↦ inr (subst (λ m. IsIn m (scalars_from first (b ∷ as'))) (moved first k) (to_second (if is_scalar b then first ∷ [] else []) (scalars_from (first + 1) as') ((first + 1) + k) i))
]
  where
    moved : (m n : ℕ) → (m + 1) + n ≡ m + suc n
    moved m n = omega arith

-- ---- Empty folds

none_many : {A : Type 0} (xs : List A) → length xs ≡ 0 → xs ≡ []
none_many [] e = refl
none_many (x ∷ xs) e = absurd (omega (arith, e))

module _ (program : Program) (pairs : ℕ → List ℤ → List ℤ → List ℤ → Type 0) (own : HasOwnTemporaries program) where
  empty_for : (array : ArrayId) (fold : Fold) → IsIn array.0 (scalars_from 0 (nest_of program).arrays) → fold.basis.rows ≡ [] → IsFoldFor program pairs array.0 fold
  empty_for array fold i empty =
      let arrays = (nest_of program).arrays in
      let s = scalar_in 0 arrays array.0 i in
      let at : array.0 ≡ s.number = omega (arith, s.is) in
      let there : slice_get arrays array.0 ≡ Some s.info = ap (slice_get arrays) at ∙ s.there in
      let temp : IsTrue (is_temporary_info (slice_get arrays array.0)) = ap is_temporary_info there ∙ s.own in
      let t = is_temporary program array.0 s.info there (own.last array.0 temp) in
      let rows : length fold.basis.rows ≡ 0 = ap length empty in
      let no_moduli : forms_of fold.moduli ≡ [] = ap forms_of (none_many fold.moduli (fold.one_each ∙ rows)) in
      let no_row : (k : ℕ) (row : Affine) → slice_get fold.basis.rows k ≡ Some row → ⊥ = λ k row e. none-some row (ap (λ rs. slice_get rs k) (sym empty) ∙ e) in
      record {
        in_program = record {
          number = t.number;
          decl = t.decl;
          stands = t.stands;
          behind = t.behind;
          rows = rows ∙ sym (sym t.dimensions ∙ eqb-true (length s.info.extents) 0 s.none);
          moduli = all_nil (λ (b : Affine). length b.coefs ≡ numbers_in program.params) (forms_of fold.moduli) no_moduli;
        };
        limits = all_nil (IsModulus (numbers_in program.params)) (forms_of fold.moduli) no_moduli;
        obeys = λ p inside k row b at at_b. absurd (no_row k row at);
        marks = λ k row m at at_m. absurd (no_row k row at);
      }

  -- ---- All folds

  module _ (shown folds : List (ArrayId × Fold)) (right : AreRightFolds program pairs shown) (all : AreAll (nest_of program) shown folds) where
    of_both : (array : ArrayId) (fold : Fold) → IsIn (array, fold) folds → IsFoldFor program pairs array.0 fold
    of_both array fold i = elim (in_append shown all.scalars (array, fold) (subst (IsIn (array, fold)) all.both i)) [
      | inl j ↦ right.each array fold j
      | inr j ↦ empty_for array fold (subst (IsIn array.0) all.are_scalars.of_arrays (to_map number_of all.scalars (array, fold) j)) (in_all (λ (f : ArrayId × Fold). f.1.basis.rows ≡ []) all.scalars (array, fold) all.are_scalars.empty j)
    ]

    numbers : map number_of folds ≡ arrays_from 0 (nest_of program).arrays ++ scalars_from 0 (nest_of program).arrays
    numbers =
        ap (map number_of) all.both ∙ map_append number_of shown all.scalars
        ∙ ap (λ ns. ns ++ map number_of all.scalars) right.arrays ∙ ap (λ ns. arrays_from 0 (nest_of program).arrays ++ ns) all.are_scalars.of_arrays

    in_program : AreFoldsIn program folds
    in_program = record {
      different = subst AreDistinct (sym numbers)
          (distinct_both (arrays_from 0 (nest_of program).arrays) (scalars_from 0 (nest_of program).arrays) (distinct_arrays 0 (nest_of program).arrays) (distinct_scalars 0 (nest_of program).arrays) (never_both (nest_of program).arrays));
      each = λ array fold i. (of_both array fold i).in_program;
    }

    -- each temporary has one
    none_whole : IsLeftWhole program folds → ⊥
    none_whole w =
        let arrays = (nest_of program).arrays in
        let n : ℕ = length (arrays_of program.params) + w.number in
        let declared : slice_get (declared_arrays program) n ≡ Some w.decl = slice_behind (arrays_of program.params) program.temps w.number w.decl w.stands in
        let temp = own.own n w.decl declared (omega arith) in
        let info : ArrayInfo = array_of (length (number_ranges program.params)) w.decl in
        let at : slice_get arrays n ≡ Some info = slice_get-map (array_of (length (number_ranges program.params))) (declared_arrays program) n ∙ ap (option_map (array_of (length (number_ranges program.params)))) declared in
        let is_own : is_temp info.role ≡ true = sym (ap is_temporary_info at) ∙ temp in
        let here : IsIn n (arrays_from 0 arrays ++ scalars_from 0 arrays) = elim (one_of 0 arrays n info at is_own) [
          | inl i ↦ to_first (arrays_from 0 arrays) (scalars_from 0 arrays) n (subst (λ m. IsIn m (arrays_from 0 arrays)) (none n) i)
          | inr i ↦ to_second (arrays_from 0 arrays) (scalars_from 0 arrays) n (subst (λ m. IsIn m (scalars_from 0 arrays)) (none n) i)
        ] in
        let f = in_map number_of folds n (subst (IsIn n) (sym numbers) here) in
        let found : fold_of folds n ≡ Some f.0.1 = (folds_are_found program folds n f.0.1 in_program).1 (f.0.0, sym f.2, f.1) in
        none-some f.0.1 (sym w.unfolded ∙ found)
      where
        none : (n : ℕ) → 0 + n ≡ n
        none n = omega arith

    pub fold_all : FoldAll program pairs folds
    fold_all = record {
      in_program = in_program;
      limits = all_from (λ (f : ArrayId × Fold). KeepsLimits (numbers_in program.params) f.1) folds (λ f i. (of_both f.0 f.1 i).limits);
      obeys = λ p inside array fold e.
          let r = (folds_are_found program folds array fold in_program).0 e in
          subst (λ n. Obeys (pairs n p) fold p) r.1 ((of_both r.0 fold r.2).obeys p inside);
      marks = λ array fold e.
          let r = (folds_are_found program folds array fold in_program).0 e in
          subst (λ n. HasTrueMarks (IsInContext program) (pairs n) fold) r.1 ((of_both r.0 fold r.2).marks);
      all = none_whole;
    }
