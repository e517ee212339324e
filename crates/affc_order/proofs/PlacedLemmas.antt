-- Instances by forms, and their times.
use Rattle.std.proofs.Common.{◌≡◌, ℕ, ◌+◌, ◌^◌, ◌<◌, ◌≤◌, ℤ, IsTrue, List, [], ◌∷◌, ◌++◌, length, map, get_or, sym, ap, subst, ◌∙◌, arith}
use Rattle.std.specs.Prelude.{nat_le, nat_abs, ◌&&◌}
use Rattle.std.specs.List.{All}
use Rattle.std.proofs.lemmas.Bool.{leb-true}
use Rattle.std.proofs.lemmas.List.Elements.{All-nil, All-cons, All-append, All-weaker}
use Rattle.std.proofs.lemmas.Option.{get_or_from_slice_get, slice_get_within}
use Rattle.affc_rows.specs.Forms.{Affine, HaveColumns}
use Rattle.affc_rows.specs.Sizes.{IsWithin}
use Rattle.affc_system.specs.Systems.{IsRow}
use Rattle.affc_system.proofs.SystemLemmas.{rows_of}
use Rattle.affc_trace.specs.declared.schedule.TimeMap.{TimeMap}
use Rattle.affc_trace.specs.Inverses.{columns_from}
use Rattle.affc_trace.specs.Target.{are_slight, all_slight}
use Rattle.affc_trace.proofs.Runs.{length_append}
use Rattle.affc_domain.proofs.Lists.{both_true, length_map}
use Rattle.affc_domain.proofs.ColumnLemmas.{first_columns, later_columns}
use Rattle.affc_domain.proofs.FormLemmas.{slight_coefs}
use Rattle.affc_nest.specs.Asked.{IsNest}
use Rattle.affc_nest.specs.declared.nest.Nest.{Nest}
use Rattle.affc_nest.specs.Parts.{statement_of}
use Rattle.affc_nest.specs.Sides.{IsSide}
use Rattle.affc_nest.specs.Wide.{IsWide}
use Rattle.affc_nest.proofs.QuestionProofs.{nest_few}
use Rattle.affc_nest.proofs.RowLemmas.{side_row}
use Rattle.affc_order.specs.Placed.{AreImages, HasMap, IsPlaced}
use Rattle.affc_order.specs.Posed.{Posed, form_at}
use Rattle.affc_order.specs.Systems.{pair_columns, coordinates_of, forms_or_none, time_forms}
use Rattle.affc_order.proofs.CodeLemmas.{columns_sides, few_loops}
use Rattle.affc_order.proofs.ColumnLemmas.{from_long}
use Rattle.affc_order.proofs.ImageLemmas.{images_wide}

-- columns are rows
pub columns_rows : (columns first n : ℕ) → All (IsRow columns) (columns_from columns first n)
columns_rows columns first n = All-weaker (IsSide columns) (IsRow columns) (λ f s. side_row columns f s) (columns_from columns first n) (columns_sides columns first n)

-- ---- Slight forms

pub slight_forms : (n : ℕ) (fs : List Affine) → HaveColumns n fs → IsTrue (all_slight fs) → All (IsWithin n 256 (2 ^ 30)) fs
slight_forms n [] w h = All-nil (IsWithin n 256 (2 ^ 30))
slight_forms n (f ∷ fs) w h =
    let a = both_true (nat_le (nat_abs f.constant) (2 ^ 30) && are_slight f.coefs) (all_slight fs) h in
    let b = both_true (nat_le (nat_abs f.constant) (2 ^ 30)) (are_slight f.coefs) a.0 in
    All-cons (IsWithin n 256 (2 ^ 30)) f fs (record { width = first_columns n f fs w; coefs_fit = slight_coefs f.coefs b.1; constant_fits = leb-true (nat_abs f.constant) (2 ^ 30) b.0 }) (slight_forms n fs (later_columns n f fs w) a.1)

-- ---- Times

module _ (nest : Nest) (n : IsNest nest) (maps : List TimeMap) (columns : ℕ) (a : Posed) (placed : IsPlaced nest columns a) (has : HasMap nest maps a.part) where
  abbrev whole : List Affine
  whole = columns_from columns 0 (length nest.params) ++ a.iterators

  whole_long : length (columns_from columns 0 (length nest.params) ++ a.iterators) ≡ length nest.params + length a.iterators
  whole_long = length_append (columns_from columns 0 (length nest.params)) a.iterators ∙ ap (λ k. k + length a.iterators) (from_long columns 0 (length nest.params))

  pub are_images : AreImages columns (columns_from columns 0 (length nest.params) ++ a.iterators)
  are_images = record {
    few = sum (length nest.params) (length a.iterators) (length whole) whole_long (nest_few nest n) (subst (λ k. k ≤ 6) (sym placed.each) (few_loops nest n a.part placed.part));
    rows = All-append (IsRow columns) (columns_from columns 0 (length nest.params)) a.iterators (columns_rows columns 0 (length nest.params)) placed.rows;
  }
    where
      sum : (m n k : ℕ) → k ≡ m + n → m ≤ 4 → n ≤ 6 → k ≤ 10
      sum m n k e h g = omega (arith, e, h, g)

  pub are_slight_over : All (IsWithin (length (columns_from columns 0 (length nest.params) ++ a.iterators)) 256 (2 ^ 30)) has.time_map.forms
  are_slight_over =
      subst (λ k. All (IsWithin k 256 (2 ^ 30)) has.time_map.forms) (ap (λ k. length nest.params + k) (sym placed.each) ∙ sym whole_long)
      (slight_forms (length nest.params + coordinates_of nest a.part) has.time_map.forms has.columns has.slight)

  rows_over : All (IsRow (length (columns_from columns 0 (length nest.params) ++ a.iterators))) has.time_map.forms
  rows_over = rows_of (length whole) 256 (2 ^ 30) has.time_map.forms (omega arith) (omega arith) are_slight_over

  its_map : (m : TimeMap) → m ≡ get_or maps (statement_of nest a.part) m → m ≡ has.time_map
  its_map m e = e ∙ get_or_from_slice_get maps (statement_of nest a.part) has.time_map m has.there

  pub map_there : statement_of nest a.part < length maps
  map_there = slice_get_within maps (statement_of nest a.part) has.time_map has.there

  pub times_are : time_forms nest maps columns a ≡ map (form_at columns (columns_from columns 0 (length nest.params) ++ a.iterators)) has.time_map.forms
  times_are = ap (λ o. map (form_at columns whole) (forms_or_none o)) has.there

  pub times_wide : All (IsWide columns) (time_forms nest maps columns a)
  times_wide = subst (All (IsWide columns)) (sym times_are) (images_wide columns whole are_images has.time_map.forms rows_over)

  pub times_long : length (time_forms nest maps columns a) ≡ length has.time_map.forms
  times_long = ap length times_are ∙ length_map (form_at columns whole) has.time_map.forms

  -- what the code has put at the columns
  module _ (m : TimeMap) (is : m ≡ get_or maps (statement_of nest a.part) m) (ps : List (ℤ × ℤ)) (ps_are : ps ≡ nest.params) (images start : List Affine) (start_is : start ≡ columns_from columns 0 (length ps)) (made : images ≡ start ++ a.iterators) where
    images_are : images ≡ columns_from columns 0 (length nest.params) ++ a.iterators
    images_are = made ∙ ap (λ s. s ++ a.iterators) (start_is ∙ ap (λ (rs : List (ℤ × ℤ)). columns_from columns 0 (length rs)) ps_are)

    pub its_images : (held : List Affine) → held ≡ images → AreImages columns held
    its_images held e = subst (AreImages columns) (sym (e ∙ images_are)) are_images

    pub its_rows : (held own : List Affine) → held ≡ images → own ≡ m.forms → All (IsRow (length held)) own
    its_rows held own e d =
        subst (All (IsRow (length held))) (sym (d ∙ ap (λ (x : TimeMap). x.forms) (its_map m is))) (subst (λ gs. All (IsRow (length gs)) has.time_map.forms) (sym (e ∙ images_are)) rows_over)

    pub times_made : (held own out none : List Affine) → held ≡ images → own ≡ m.forms → none ≡ [] → out ≡ none ++ map (form_at columns held) own → out ≡ time_forms nest maps columns a
    times_made held own out none e d n o =
        o ∙ ap (λ xs. xs ++ map (form_at columns held) own) n ∙ ap (λ gs. map (form_at columns gs) own) (e ∙ images_are)
        ∙ ap (map (form_at columns whole)) (d ∙ ap (λ (x : TimeMap). x.forms) (its_map m is)) ∙ sym times_are

-- ---- Two parts, at the columns of their question

module _ (nest : Nest) (first second : ℕ) where
  pub first_placed : first < length nest.entries → (columns : ℕ) → columns ≡ pair_columns nest first second → (forms : List Affine) → forms ≡ columns_from (pair_columns nest first second) (length nest.params) (coordinates_of nest first)
      → IsPlaced nest columns (record { part = first; iterators = forms })
  first_placed h columns e forms is = record {
    part = h;
    each = ap length is ∙ from_long (pair_columns nest first second) (length nest.params) (coordinates_of nest first);
    rows = subst (All (IsRow columns)) (sym is) (subst (λ k. All (IsRow k) (columns_from (pair_columns nest first second) (length nest.params) (coordinates_of nest first))) (sym e) (columns_rows (pair_columns nest first second) (length nest.params) (coordinates_of nest first)));
  }

  pub second_placed : second < length nest.entries → (columns : ℕ) → columns ≡ pair_columns nest first second → (forms : List Affine) → forms ≡ columns_from (pair_columns nest first second) (length nest.params + coordinates_of nest first) (coordinates_of nest second)
      → IsPlaced nest columns (record { part = second; iterators = forms })
  second_placed h columns e forms is = record {
    part = h;
    each = ap length is ∙ from_long (pair_columns nest first second) (length nest.params + coordinates_of nest first) (coordinates_of nest second);
    rows = subst (All (IsRow columns)) (sym is) (subst (λ k. All (IsRow k) (columns_from (pair_columns nest first second) (length nest.params + coordinates_of nest first) (coordinates_of nest second))) (sym e) (columns_rows (pair_columns nest first second) (length nest.params + coordinates_of nest first) (coordinates_of nest second)));
  }
