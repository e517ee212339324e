-- The printed components of a place are read, and are the place.
use Rattle.std.proofs.Common.{◌≡◌, ℕ, suc, ◌+◌, ◌^◌, ◌<◌, ◌≤◌, ℤ, pos, ◌≤ℤ◌, ◌<ℤ◌, Bool, true, false, true≢false, ◌&&◌, int_le, int_lt, if◌then◌else◌, List, [], ◌∷◌, ◌++◌, length, get_or, map, Some, refl, sym, ap, subst, ◌∙◌, arith}
use Rattle.std.specs.Prelude.{slice_get}
use Rattle.std.specs.Int.{int_rem_euclid}
use Rattle.affc_rows.specs.Forms.{Affine, dot, value, magnitude, columns_of, values_of, composed_form}
use Rattle.affc_ast.specs.declared.tree.Ix.{Ix}
use Rattle.affc_ast.specs.declared.tree.Ix.TheVariants.{Lit, Mod}
use Rattle.affc_ast.specs.Fits.{whole}
use Rattle.affc_ast.specs.Values.{is_within}
use Rattle.affc_trace.proofs.LastStores.{append_nil, push_append}
use Rattle.affc_trace.proofs.Runs.{length_append}
use Rattle.affc_domain.proofs.Lists.{both_true, true_le, true_lt, at_seam}
use Rattle.affc_domain.proofs.ColumnLemmas.{values_long}
use Rattle.affc_safe.specs.Overflow.{IsReadable, AreReadable}
use Rattle.affc_basis.specs.Bases.{AreWithin}
use Rattle.affc_basis.specs.Moduli.{IsModulus, ArePositive, remainders}
use Rattle.affc_foldloops.proofs.Remainder.{remainder_is_read}
use Rattle.affc_rewrite.specs.Rewrite.{is_one, is_unit, same_form, printed, component, components_from}
use Rattle.affc_rewrite.specs.Sizes.{AllSides, IsRow}
use Rattle.affc_rewrite.proofs.PrintedForms.{printed_is, printed_reads, modulus_below, row_below, row_value, row_width}
use Rattle.affc_rewrite.proofs.Tests.{one_value, no_remainder}
use Rattle.affc_rewrite.proofs.WholeFolds.{own_component}

module _ (p : List ℤ) (first : ℕ) (at_first : first ≡ length p) (few : length p ≤ 4) (near_p : AreWithin (2 ^ 24) p) where
  -- a modulus, whatever names stand behind the parameters
  pub modulus_is : (b : Affine) (after : List ℤ) → IsModulus (length p) b → (whole (printed first b) (p ++ after) ≡ value b p) × IsReadable (printed first b) (p ++ after)
  modulus_is b after is =
      let wide : length b.coefs ≡ length p = is.width in
      let l : length b.coefs ≡ length p + 0 = omega arith in (
        printed_is b p [] after first at_first l ∙ ap (value b) (append_nil p),
        printed_reads b p [] after first at_first l (subst (λ q. magnitude b q < 2 ^ 63) (sym (append_nil p)) (modulus_below b p is few near_p)),
      )

-- Where the parameters and the iterators have these values, and the subscripts of an access have these forms.
module _ (p iterators : List ℤ) (gs : List Affine) (first : ℕ) (at_first : first ≡ length p) (few : length p ≤ 4) (near_p : AreWithin (2 ^ 24) p) (short : length (p ++ iterators) ≤ 10)
    (near : AreWithin (2 ^ 31) (p ++ iterators)) (sides : AllSides (length (p ++ iterators)) gs) (four : length gs ≤ 4) (columns : 1 ≤ length gs → columns_of gs ≡ length (p ++ iterators)) where
  abbrev names : List ℤ
  names = p ++ iterators

  abbrev element : List ℤ
  element = values_of gs names

  -- what is read, and is the element's remainder along the row
  abbrev IsComponent : (row b : Affine) → Ix → Type 0
  IsComponent row b e = (whole e names ≡ int_rem_euclid (dot row.coefs element) (value b p)) × IsReadable e names

  row_is : 1 ≤ length gs → (row : Affine) → IsRow (length gs) row → (whole (printed first (composed_form row gs)) names ≡ dot row.coefs element) × IsReadable (printed first (composed_form row gs)) names
  row_is some row is =
      let f : Affine = composed_form row gs in
      let w : length f.coefs ≡ length (p ++ iterators) = row_width row gs ∙ columns some in
      let q : length (p ++ iterators) ≡ length p + length iterators = length_append p iterators in
      let l : length f.coefs ≡ length p + length iterators = omega arith in (
        ap (λ ys. whole (printed first f) (p ++ ys)) (sym (append_nil iterators)) ∙ printed_is f p iterators [] first at_first l ∙ row_value row gs names is sides (sym (columns some)),
        subst (λ ys. IsReadable (printed first f) (p ++ ys)) (append_nil iterators) (printed_reads f p iterators [] first at_first l (row_below row gs names (length names) is sides four short near)),
      )

  component_is : 1 ≤ length gs → (k : ℕ) (row b extent : Affine) (own : Ix) → IsRow (length gs) row → IsModulus (length p) b → pos 1 ≤ℤ value b p → IsReadable own names
      → get_or element k (pos 0) ≡ whole own names → pos 0 ≤ℤ whole own names → whole own names <ℤ value extent p → IsComponent row b (component first gs k row b extent own)
  component_is some k row b extent own is_row is_modulus positive reads there low high = by (is_one b) (is_unit k row && same_form b extent) refl refl
    where
      by : (t u : Bool) → is_one b ≡ t → (is_unit k row && same_form b extent) ≡ u
          → IsComponent row b (if t then Lit (pos 0) else (if u then own else Mod (printed first (composed_form row gs)) (printed first b)))
      by true u e f = (sym (no_remainder (dot row.coefs element) (value b p) (one_value b p e)), λ node. refl)
      by false true e f =
          let both = both_true (is_unit k row) (same_form b extent) f in
          let wide : length row.coefs ≡ length gs = is_row.columns in
          (sym (own_component k row b extent p element (whole own names) (wide ∙ sym (values_long gs names)) is_row.no_constant both.0 both.1 there low high), reads)
      by false false e f =
          let r = row_is some row is_row in
          let m = modulus_is p first at_first few near_p b iterators is_modulus in
          let read = remainder_is_read (printed first (composed_form row gs)) (printed first b) names r.1 m.1 (subst (λ n. pos 1 ≤ℤ n) (sym m.0) positive) in
          (read.1 ∙ ap (λ x. int_rem_euclid x (whole (printed first b) names)) r.0 ∙ ap (int_rem_euclid (dot row.coefs element)) m.0, read.0)

  -- these subscripts are the place by these rows and moduli, and are read
  abbrev ArePlace : (rows moduli : List Affine) → List Ix → Type 0
  ArePlace rows moduli es = (map (λ e. whole e names) es ≡ remainders p rows moduli element) × AreReadable es names

  one_more : (row b : Affine) (rows moduli : List Affine) (e : Ix) (es : List Ix) → IsComponent row b e → ArePlace rows moduli es → ArePlace (row ∷ rows) (b ∷ moduli) (e ∷ es)
  one_more row b rows moduli e es c r =
      (ap (λ z. z ∷ map (λ e. whole e names) es) c.0 ∙ ap (λ zs. int_rem_euclid (dot row.coefs element) (value b p) ∷ zs) r.0, (c.1, r.1))

  -- from the k-th row on; the components before it are these
  pub components_are : (k : ℕ) (rows moduli extents : List Affine) (own : List Ix) (before : List ℤ) → k ≡ length before → before ++ map (λ e. whole e names) own ≡ element
      → length rows ≡ length own → length moduli ≡ length rows
      → ((j : ℕ) (row : Affine) → slice_get rows j ≡ Some row → IsRow (length gs) row) → ((j : ℕ) (b : Affine) → slice_get moduli j ≡ Some b → IsModulus (length p) b) → ArePositive p moduli
      → AreReadable own names → is_within (map (λ e. whole e names) own) (map (λ f. value f p) extents) ≡ true → ArePlace rows moduli (components_from first gs k rows moduli extents own)
  components_are k [] moduli extents own before h e l m rows_are moduli_are positive reads inside = (refl, tt)
  components_are k (row ∷ rows) [] extents own before h e l m rows_are moduli_are positive reads inside = absurd (omega arith)
  components_are k (row ∷ rows) (b ∷ moduli) extents [] before h e l m rows_are moduli_are positive reads inside = absurd (omega arith)
  components_are k (row ∷ rows) (b ∷ moduli) [] (own ∷ others) before h e l m rows_are moduli_are positive reads inside = absurd (true≢false (sym inside))
  components_are k (row ∷ rows) (b ∷ moduli) (extent ∷ extents) (own ∷ others) before h e l m rows_are moduli_are positive reads inside =
      let x : ℤ = whole own names in
      let rest : List ℤ = map (λ e. whole e names) others in
      let t = both_true (int_le (pos 0) x && int_lt x (value extent p)) (is_within rest (map (λ f. value f p) extents)) inside in
      let ends = both_true (int_le (pos 0) x) (int_lt x (value extent p)) t.0 in
      let there : get_or element k (pos 0) ≡ x = ap (λ xs. get_or xs k (pos 0)) (sym e) ∙ ap (λ j. get_or (before ++ x ∷ rest) j (pos 0)) h ∙ at_seam before x rest in
      let pushed : length (before ++ x ∷ []) ≡ length before + 1 = length_append before (x ∷ []) in
      let all : length (before ++ x ∷ rest) ≡ length before + suc (length rest) = length_append before (x ∷ rest) in
      let same : length (before ++ x ∷ rest) ≡ length gs = ap length e ∙ values_long gs names in
      let some : 1 ≤ length gs = omega arith in
      one_more row b rows moduli (component first gs k row b extent own) (components_from first gs (suc k) rows moduli extents others)
      (component_is some k row b extent own (rows_are 0 row refl) (moduli_are 0 b refl) (positive 0 b refl) reads.0 there (true_le (pos 0) x ends.0) (true_lt x (value extent p) ends.1))
      (components_are (suc k) rows moduli extents others (before ++ x ∷ []) (omega arith) (push_append before x rest ∙ e) (omega arith) (omega arith)
      (λ j r q. rows_are (suc j) r q) (λ j c q. moduli_are (suc j) c q) (λ j c q. positive (suc j) c q) reads.1 t.1)
