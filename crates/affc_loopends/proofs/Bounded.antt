-- The ends that are found are the ends of their column.
use Rattle.std.proofs.Common.{◌≡◌, ℕ, zero, suc, ◌+◌, ◌<◌, ◌≤◌, List, [], ◌∷◌, ◌++◌, length, get_or, take, ℤ, pos, negsuc, ◌+ℤ◌, ◌*ℤ◌, ◌≤ℤ◌, ◌<ℤ◌, refl, sym, ap, subst, ◌∙◌, inl, inr, arith, length-append}
use Rattle.std.specs.Prelude.{◌⊎◌}
use Rattle.std.specs.List.{All}
use Rattle.std.proofs.lemmas.Int.{ints}
use Rattle.std.proofs.lemmas.List.{get_or-take, length-take-le}
use Rattle.std.proofs.lemmas.List.Elements.{All-weaker}
use lib.IntN.{*ℤ-zero, zero-*ℤ}
use Rattle.affc_rows.specs.Forms.{Affine, HaveColumns, dot, value}
use Rattle.affc_rows.proofs.IntLemmas.{mul-add}
use Rattle.affc_system.specs.Systems.{Rows, Meets, IsRow}
use Rattle.affc_farkas.specs.Multiples.{entry_of}
use Rattle.affc_farkas.specs.Rational.{scaled_value}
use Rattle.affc_farkas.specs.declared.pair.Pair.{Pair}
use Rattle.affc_farkas.proofs.Between.{swap, cancel}
use Rattle.affc_eliminate.proofs.Values.{entry_inside}
use Rattle.affc_eliminate.specs.project.Projections.{AreProjected, AreFrom, IsRowOfTable, ExtendsWhole}
use Rattle.affc_loopends.specs.Ends.{IsProjectedRow, AreEnds}
use Rattle.affc_loopends.specs.Sizes.{IsModest}
use Rattle.affc_loopends.specs.Steps.{AreBothEnds}
use Rattle.affc_loopends.proofs.Chosen.{among_all}
use Rattle.affc_loopends.proofs.Projected.{row_holds}

pub rows_projected : (system : Rows) (keep : ℕ) (made : List Pair) (projected : List Affine) → AreProjected system.columns system.rows keep made projected → AreFrom keep made → All (IsProjectedRow system keep) projected
rows_projected system keep made projected h later =
    All-weaker (IsRowOfTable keep system.columns system.rows h.table) (IsProjectedRow system keep) (λ r i. record { made = made; table = h.table; is_table = h.is_table; later = later; is_row = i }) projected h.rows_of_table

pub projected_widths : (system : Rows) (keep : ℕ) (rows : List Affine) → All (IsProjectedRow system keep) rows → HaveColumns keep rows
projected_widths system keep rows h = All-weaker (IsProjectedRow system keep) (λ f. length f.coefs ≡ keep) (λ f p. p.is_row.terms.width) rows h

pub system_widths : (columns : ℕ) (rows : List Affine) → All (IsRow columns) rows → HaveColumns columns rows
system_widths columns rows h = All-weaker (IsRow columns) (λ f. length f.coefs ≡ columns) (λ f r. r.width) rows h

-- ---- Rows that don't look at the column

no_term : (c x t d : ℤ) → c ≡ pos 0 → (c *ℤ x) +ℤ pos 0 ≡ d *ℤ ((c *ℤ t) +ℤ pos 0)
no_term c x t d e = ap (λ z. (z *ℤ x) +ℤ pos 0) e ∙ ap (λ z. z +ℤ pos 0) (zero-*ℤ x) ∙ sym (ap (λ z. d *ℤ (z +ℤ pos 0)) (ap (λ z. z *ℤ t) e ∙ zero-*ℤ t) ∙ *ℤ-zero d)

flat_dot : (d t : ℤ) (cs xs before : List ℤ) → length cs ≡ suc (length before) → length xs ≡ length cs → get_or cs (length before) (pos 0) ≡ pos 0
    → ((j : ℕ) → j < length before → get_or xs j (pos 0) ≡ d *ℤ get_or before j (pos 0)) → dot cs xs ≡ d *ℤ dot cs (before ++ t ∷ [])
flat_dot d t [] xs before l m e h = absurd (omega arith)
flat_dot d t (c ∷ cs) [] before l m e h = absurd (omega arith)
flat_dot d t (c ∷ []) (x ∷ xs) [] l m e h = no_term c x t d e
flat_dot d t (c ∷ b ∷ cs) (x ∷ xs) [] l m e h = absurd (omega arith)
flat_dot d t (c ∷ cs) (x ∷ xs) (y ∷ before) l m e h =
    ap (λ z. (c *ℤ z) +ℤ dot cs xs) (h 0 (omega arith)) ∙ ap (λ z. z +ℤ dot cs xs) (swap c d y) ∙ ap (λ z. (d *ℤ (c *ℤ y)) +ℤ z) (flat_dot d t cs xs before (omega arith) (omega arith) e (λ j lt. h (suc j) (omega arith)))
    ∙ sym (mul-add d (c *ℤ y) (dot cs (before ++ t ∷ [])))

pub flat_meets : (row : Affine) (xs : List ℤ) (d t : ℤ) (before : List ℤ) → pos 1 ≤ℤ d → length row.coefs ≡ suc (length before) → length xs ≡ length row.coefs → entry_of row (length before) ≡ pos 0
    → ((j : ℕ) → j < length before → get_or xs j (pos 0) ≡ d *ℤ get_or before j (pos 0)) → pos 0 ≤ℤ scaled_value row xs d → Meets (before ++ t ∷ []) row
flat_meets row xs d t before one l m e h holds =
    cancel d (value row (before ++ t ∷ [])) one (subst (λ z. pos 0 ≤ℤ z)
    (ap (λ z. z +ℤ (d *ℤ row.constant)) (flat_dot d t row.coefs xs before l m (sym (entry_inside row (length before) (omega arith)) ∙ e) h) ∙ sym (mul-add d (dot row.coefs (before ++ t ∷ [])) row.constant)) holds)

-- those that are projected hold wherever the numbers before the column extend
flat_met : (system : Rows) (column : ℕ) (rows : List Affine) (before : List ℤ) (t : ℤ) → column < system.columns → HaveColumns system.columns system.rows → All (IsProjectedRow system (suc column)) rows → length before ≡ column
    → ExtendsWhole system.columns system.rows before → All (λ r. entry_of r column ≡ pos 0 → Meets (before ++ t ∷ []) r) rows
flat_met system column rows before t inside widths all l e = λ i d lt flat.
    let p = e.point in
    let r = get_or rows i d in
    let xs = take (suc column) p.x in
    let taken : length xs ≡ suc column = length-take-le (suc column) p.x (subst (λ n. suc column ≤ n) (sym p.width) inside) in
    flat_meets r xs p.d t before p.divisor ((all i d lt).is_row.terms.width ∙ ap suc (sym l)) (taken ∙ sym (all i d lt).is_row.terms.width) (ap (entry_of r) l ∙ flat)
    (λ j jl. get_or-take (suc column) p.x j (pos 0) (within j (length before) column jl l) ∙ e.begins j jl)
    (row_holds system (suc column) r p.x p.d (all i d lt) inside widths p.width p.meets)
  where
    within : (j n k : ℕ) → j < n → n ≡ k → j < suc k
    within j n k lt e = omega arith

-- ---- Ends

sign : (z : ℤ) → (pos 0 <ℤ z) ⊎ ((z <ℤ pos 0) ⊎ (z ≡ pos 0))
sign (pos zero) = inr (inr refl)
sign (pos (suc n)) = inl (omega (arith, ints))
sign (negsuc n) = inr (inl (omega (arith, ints)))

pub are_ends : (system : Rows) (column : ℕ) (ranges : List (ℤ × ℤ)) (made : List Pair) (projected lower upper : List Affine) → column < system.columns → HaveColumns system.columns system.rows
    → AreProjected system.columns system.rows (suc column) made projected → AreFrom (suc column) made → AreBothEnds column ranges projected lower upper → AreEnds system column lower upper
are_ends system column ranges made projected lower upper inside widths h later ends =
    let all = rows_projected system (suc column) made projected h later in
    record {
      inside = inside;
      projected_lower = among_all (IsProjectedRow system (suc column)) projected lower all ends.low.among;
      projected_upper = among_all (IsProjectedRow system (suc column)) projected upper all ends.high.among;
      below = ends.low.each;
      above = ends.high.each;
      few_lower = ends.low.few;
      few_upper = ends.high.few;
      extend = λ before t l e met_low met_high.
          let whole = before ++ t ∷ [] in
          let long : length whole ≡ suc column = length-append before (t ∷ []) ∙ one (length before) ∙ ap suc l in
          let met = flat_met system column projected before t inside widths all l e in
          let all_met = ends.imply whole long met met_low met_high in
          (h.same_points whole long).0 (λ i d lt.
          elim (sign (entry_of (get_or projected i d) column)) [
            | inl below ↦ all_met.0 i d lt below
            | inr (inl above) ↦ all_met.1 i d lt above
            | inr (inr flat) ↦ met i d lt flat
          ]);
    }
  where
    one : (n : ℕ) → n + 1 ≡ suc n
    one n = omega arith

-- ---- What the code is told

module _ (system : Rows) (column keep : ℕ) (inside : column < system.columns) (widths : HaveColumns system.columns system.rows) (width : keep ≡ suc column)
    (projected made_rows : List Affine) (made : List Pair) (h : AreProjected system.columns system.rows keep made projected) (later : AreFrom keep made) (same : made_rows ≡ projected) where
  are_projected : AreProjected system.columns system.rows (suc column) made projected
  are_projected = subst (λ k. AreProjected system.columns system.rows k made projected) width h

  from_column : AreFrom (suc column) made
  from_column = subst (λ k. AreFrom k made) width later

  pub all_projected : All (IsProjectedRow system (suc column)) made_rows
  all_projected = subst (All (IsProjectedRow system (suc column))) (sym same) (rows_projected system (suc column) made projected are_projected from_column)

  pub found_ends : (ranges own : List (ℤ × ℤ)) (lower upper : List Affine) → own ≡ ranges → ((k : ℕ) → keep ≡ suc k → AreBothEnds k own made_rows lower upper)
      → AreEnds system column lower upper × All (IsModest ranges) lower × All (IsModest ranges) upper
  found_ends ranges own lower upper e are =
      let ends : AreBothEnds column ranges projected lower upper =
      subst (λ rs. AreBothEnds column rs projected lower upper) e (subst (λ rows. AreBothEnds column own rows lower upper) same (are column width)) in
      (are_ends system column ranges made projected lower upper inside widths are_projected from_column ends, ends.low.modest, ends.high.modest)
