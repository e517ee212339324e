-- What the questions on extents find is where a program is narrow.
use Rattle.std.proofs.Common.{◌≡◌, ℕ, zero, suc, ◌+◌, ℤ, pos, ◌≤ℤ◌, List, [], ◌∷◌, ◌++◌, length, map, Option, Some, None, refl, sym, subst, ◌∙◌, inl, inr}
use Rattle.std.specs.Prelude.{slice_get}
use Rattle.std.proofs.lemmas.Option.{none-some, same_Some}
use Rattle.affc_rows.specs.Forms.{Affine, value}
use Rattle.affc_system.specs.Systems.{IsPoint}
use Rattle.affc_system.specs.Order.{LexLe}
use Rattle.affc_ast.specs.declared.tree.Decl.{Decl}
use Rattle.affc_ast.specs.declared.tree.Ix.{Ix}
use Rattle.affc_ast.specs.declared.tree.Program.{Program}
use Rattle.affc_trace.specs.Law.{IsIn}
use Rattle.affc_domain.specs.Affine.{form_of}
use Rattle.affc_domain.specs.Ranges.{number_ranges}
use Rattle.affc_domain.proofs.RangeLemmas.{box_length, in_ranges}
use Rattle.affc_domain.specs.Arrays.{declared_arrays}
use Rattle.affc_domain.proofs.Lists.{stands_in}
use Rattle.affc_nest.specs.declared.nest.ArrayInfo.{ArrayInfo}
use Rattle.affc_nest.specs.declared.nest.Nest.{Nest}
use Rattle.affc_nest.specs.Asked.{IsExtent}
use Rattle.affc_nest.specs.Laws.{HasNest}
use Rattle.affc_nest.specs.Nests.{array_of, nest_of}
use Rattle.affc_nest.specs.Questions.{extent_question, extents_or_none}
use Rattle.affc_nest.proofs.QuestionLemmas.{extent_says, says_extent, narrow, extent_value}
use Rattle.affc_bounds.specs.Found.{IsFirst, IsNearer}
use Rattle.affc_bounds.specs.Looks.{IsLeastIn, IsNarrowAt, InExtents, InArrays, AreExtents, HaveExtents}
use Rattle.affc_bounds.specs.Spots.{IsNarrow}
use Rattle.affc_bounds.specs.declared.fault.MeaningFault.TheVariants.{Extent}
use Rattle.affc_bounds.specs.declared.found.Found.{Found}
use Rattle.affc_bounds.proofs.OrderLemmas.{lex_append, lex_refl, first_of_both, moved, none_more, none_before}

-- ---- One extent

-- the least point is the first that is found
pub least_found : (nest : Nest) (array : ℕ) (extent : Affine) (question : _) (p : List ℤ) (found : Found) → question ≡ extent_question nest extent → IsLeastIn question nest.params (Some p)
    → found.key ≡ p ++ pos array ∷ [] → found.fault ≡ Extent (record { 0 = array }) p → IsFirst (IsNarrowAt nest array extent) (Some found)
least_found nest array extent question p found e l key fault = (
  record { p = p; inside = l.inside; meets = subst (λ q. IsPoint q p) e l.meets; key = key; fault = fault },
  λ g n.
      let at : IsPoint question n.p = subst (λ q. IsPoint q n.p) (sym e) n.meets in
      let low : LexLe (p ++ pos array ∷ []) (n.p ++ pos array ∷ []) = lex_append p n.p (pos array ∷ []) (pos array ∷ []) (l.meets.width ∙ sym at.width) (l.least n.p n.inside at) (lex_refl (pos array ∷ [])) in
      subst (λ k. LexLe k g.key) (sym key) (subst (λ k. LexLe (p ++ pos array ∷ []) k) (sym n.key) low),
)

-- ---- The first of what is found

pub extents_first : (nest : Nest) (array : ℕ) (extents more : List Affine) (e : Affine) (here others first : Option Found) → extents ≡ e ∷ more
    → IsFirst (IsNarrowAt nest array e) here → IsFirst (InExtents nest array more) others → IsNearer here others first → IsFirst (InExtents nest array extents) first
extents_first nest array extents more e here others first f h k n =
    subst (λ ys. IsFirst (InExtents nest array ys) first) (sym f) (first_of_both (IsNarrowAt nest array e) (InExtents nest array more) here others first h k n)

pub arrays_first : (nest : Nest) (number next : ℕ) (arrays more : List ArrayInfo) (a : ArrayInfo) (extents : List Affine) (here others first : Option Found)
    → arrays ≡ a ∷ more → extents ≡ a.extents → next ≡ number + 1 → IsFirst (InExtents nest number extents) here → IsFirst (InArrays nest next more) others
    → IsNearer here others first → IsFirst (InArrays nest number arrays) first
arrays_first nest number next arrays more a extents here others first f g m h k n =
    subst (λ ys. IsFirst (InArrays nest number ys) first) (sym f)
    (first_of_both (InExtents nest number a.extents) (InArrays nest (number + 1) more) here others first
    (subst (λ ys. IsFirst (InExtents nest number ys) here) g h) (subst (λ j. IsFirst (InArrays nest j more) others) m k) n)

-- ---- Which extents

some_extents : (nest : Nest) (xs : List Affine) → ((x : Affine) → IsIn x xs → IsExtent nest x) → AreExtents nest xs
some_extents nest [] f = tt
some_extents nest (x ∷ xs) f = (f x (inl refl), some_extents nest xs (λ y i. f y (inr i)))

some_arrays : (nest : Nest) (as' : List ArrayInfo) → ((a : ArrayInfo) → IsIn a as' → IsIn a nest.arrays) → HaveExtents nest as'
some_arrays nest [] f = tt
some_arrays nest (a ∷ as') f = (some_extents nest a.extents (λ x i. record { array = a; declared = f a (inl refl); of_array = i }), some_arrays nest as' (λ b i. f b (inr i)))

pub all_extents : (nest : Nest) → HaveExtents nest nest.arrays
all_extents nest = some_arrays nest nest.arrays (λ a i. i)

pub extents_there : (nest : Nest) (array : ℕ) → AreExtents nest (extents_or_none (slice_get nest.arrays array))
extents_there nest array = chosen (slice_get nest.arrays array) refl
  where
    chosen : (o : Option ArrayInfo) → slice_get nest.arrays array ≡ o → AreExtents nest (extents_or_none o)
    chosen None e = tt
    chosen (Some a) e = some_extents nest a.extents (λ x i. record { array = a; declared = stands_in nest.arrays array a e; of_array = i })

-- ---- Which spots

-- the spot of a fault among extents
pub record SaysNarrow (program : Program) (found : Found) : Type 0 where
  pub p : List ℤ
  pub array : ℕ
  pub key : found.key ≡ p ++ pos array ∷ []
  pub fault : found.fault ≡ Extent (record { 0 = array }) p
  pub narrow : IsNarrow program p array

module _ (program : Program) (has : HasNest program) (found : Found) where
  abbrev m : ℕ
  m = length (number_ranges program.params)

  in_extents : (array : ℕ) (es : List Ix) → InExtents (nest_of program) array (map (form_of m 0) es) found → (e : Ix) × IsIn e es × IsNarrowAt (nest_of program) array (form_of m 0 e) found
  in_extents array [] i = absurd i
  in_extents array (e ∷ es) (inl n) = (e, inl refl, n)
  in_extents array (e ∷ es) (inr i) = let r = in_extents array es i in (r.0, inr r.1, r.2)

  in_arrays : (first : ℕ) (ds : List Decl) → InArrays (nest_of program) first (map (array_of m) ds) found
      → (j : ℕ) × (d : Decl) × (slice_get ds j ≡ Some d) × ((e : Ix) × IsIn e d.extents × IsNarrowAt (nest_of program) (first + j) (form_of m 0 e) found)
  in_arrays first [] i = absurd i
  in_arrays first (d ∷ ds) (inl i) =
      let r = in_extents first d.extents i in
      (0, d, refl, (r.0, r.1, subst (λ k. IsNarrowAt (nest_of program) k (form_of m 0 r.0) found) (none_more first) r.2))
  in_arrays first (d ∷ ds) (inr i) =
      let r = in_arrays (first + 1) ds i in
      (suc r.0, r.1, r.2, (r.3.0, r.3.1, subst (λ k. IsNarrowAt (nest_of program) k (form_of m 0 r.3.0) found) (moved first r.0) r.3.2))

  pub found_is_narrow : InArrays (nest_of program) 0 (nest_of program).arrays found → SaysNarrow program found
  found_is_narrow i =
      let r = in_arrays 0 (declared_arrays program) i in
      let n : IsNarrowAt (nest_of program) r.0 (form_of m 0 r.3.0) found = subst (λ k. IsNarrowAt (nest_of program) k (form_of m 0 r.3.0) found) (none_before r.0) r.3.2 in
      let s = extent_says program has.plain n.p (form_of m 0 r.3.0) (narrow m r.3.0) n.meets in
      let l : length n.p ≡ m = n.meets.width in
      let d = stands_in (declared_arrays program) r.0 r.1 r.2 in
      record {
        p = n.p;
        array = r.0;
        key = n.key;
        fault = n.fault;
        narrow = record {
          context = s.0;
          decl = r.1;
          declared = r.2;
          extent = r.3.0;
          is_extent = r.3.1;
          below = subst (λ z. z ≤ℤ pos 0) (extent_value program n.p r.1 r.3.0 has.plain l d r.3.1) s.1;
        };
      }

  to_extents : (array : ℕ) (es : List Ix) (e : Ix) → IsIn e es → IsNarrowAt (nest_of program) array (form_of m 0 e) found → InExtents (nest_of program) array (map (form_of m 0) es) found
  to_extents array [] e i n = absurd i
  to_extents array (x ∷ es) e (inl is) n = inl (subst (λ y. IsNarrowAt (nest_of program) array (form_of m 0 y) found) is n)
  to_extents array (x ∷ es) e (inr i) n = inr (to_extents array es e i n)

  to_arrays : (first : ℕ) (ds : List Decl) (j : ℕ) (d : Decl) (e : Ix) → slice_get ds j ≡ Some d → IsIn e d.extents → IsNarrowAt (nest_of program) (first + j) (form_of m 0 e) found
      → InArrays (nest_of program) first (map (array_of m) ds) found
  to_arrays first [] j d e h i n = absurd (none-some d h)
  to_arrays first (c ∷ ds) zero d e h i n =
      let is : c ≡ d = same_Some c d h in
      inl (to_extents first c.extents e (subst (λ (y : Decl). IsIn e y.extents) (sym is) i) (subst (λ k. IsNarrowAt (nest_of program) k (form_of m 0 e) found) (sym (none_more first)) n))
  to_arrays first (c ∷ ds) (suc j) d e h i n =
      inr (to_arrays (first + 1) ds j d e h i (subst (λ k. IsNarrowAt (nest_of program) k (form_of m 0 e) found) (sym (moved first j)) n))

-- where a program is narrow, that is found
pub narrow_is_found : (program : Program) → HasNest program → (p : List ℤ) (array : ℕ) → IsNarrow program p array
    → InArrays (nest_of program) 0 (nest_of program).arrays (record { key = p ++ pos array ∷ []; fault = Extent (record { 0 = array }) p })
narrow_is_found program has p array n =
    let m = length (number_ranges program.params) in
    let f : Affine = form_of m 0 n.extent in
    let found : Found = record { key = p ++ pos array ∷ []; fault = Extent (record { 0 = array }) p } in
    let box = in_ranges program.params p n.context.ranges in
    let l : length p ≡ m = sym (box_length (number_ranges program.params) p box) in
    let d = stands_in (declared_arrays program) array n.decl n.declared in
    let low : value f p ≤ℤ pos 0 = subst (λ z. z ≤ℤ pos 0) (sym (extent_value program p n.decl n.extent has.plain l d n.is_extent)) n.below in
    let at : IsNarrowAt (nest_of program) array f found =
    record { p = p; inside = box; meets = says_extent program has.plain p f (narrow m n.extent) n.context low; key = refl; fault = refl } in
    to_arrays program has found 0 (declared_arrays program) array n.decl n.extent n.declared n.is_extent (subst (λ k. IsNarrowAt (nest_of program) k f found) (sym (none_before array)) at)
