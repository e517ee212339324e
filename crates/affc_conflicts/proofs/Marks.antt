-- What the rows of a mark show.
use Rattle.std.proofs.Common.{◌≡◌, inl, inr, ℕ, zero, suc, ◌+◌, ◌<◌, ◌≤◌, List, [], ◌∷◌, ◌++◌, length, take, ℤ, pos, negsuc, ◌+ℤ◌, ◌-ℤ◌, ◌*ℤ◌, ◌≤ℤ◌, ◌<ℤ◌, refl, sym, ap, subst, ◌∙◌, arith}
use Rattle.std.specs.Prelude.{unsigned_abs, slice_get, Some}
use Rattle.std.proofs.lemmas.Int.{ints}
use Rattle.std.proofs.lemmas.Option.{slice_get_within, same_Some}
use Rattle.affc_rows.specs.Forms.{Affine, HaveColumns, dot, value, values_of, mixed_form}
use Rattle.affc_rows.proofs.ValueLemmas.{value-mixed, length-mixed}
use Rattle.affc_system.specs.Systems.{Rows, IsPoint, HasNoPoint}
use Rattle.affc_system.specs.ElementPairs.{IsPairOf}
use Rattle.affc_system.specs.declared.pairs.PairSystem.{PairSystem}
use Rattle.affc_system.proofs.SystemLemmas.{point_of_more_rows, point_of_fewer_rows}
use Rattle.affc_ast.specs.declared.tree.Rel.TheVariants.{Less, Equal}
use Rattle.affc_domain.proofs.FormLemmas.{number_value, number_width}
use Rattle.affc_basis.specs.Slices.{minus, along, InSlice}
use Rattle.affc_basis.specs.Folds.{IsLeastMark}
use Rattle.affc_nest.specs.Domains.{gap_row, compare_rows, number_form}
use Rattle.affc_nest.proofs.DomainLemmas.{Met, from_all, met_both, no_gap_down, rows_say, say_rows}
use Rattle.affc_conflicts.specs.Conditions.{InContext}
use Rattle.affc_conflicts.specs.Questions.{context_system, greater_question, distance, agree_rows, slice_system, over_columns}
use Rattle.affc_conflicts.specs.Laws.{IsOver, PairIsShown}
use Rattle.affc_conflicts.proofs.Turned.{along-turned}
use Rattle.affc_conflicts.proofs.Distances.{width_of_distance, value_of_distance, value_over_columns, width_over_columns}
use Rattle.affc_conflicts.proofs.Decided.{point_of_context, one, split, subscripts_wide, all_at}

not_more : (u v : ℤ) → v <ℤ u → (v +ℤ pos 1) ≤ℤ u
not_more u v h = omega (arith, ints)

-- a modulus is nowhere greater than at p
pub is_highest : (context : Rows) (ranges : List (ℤ × ℤ)) (b : Affine) (p : List ℤ) → length b.coefs ≡ context.columns → HasNoPoint (greater_question context ranges b p)
    → (q : List ℤ) → InContext context ranges q → value b q ≤ℤ value b p
is_highest context ranges b p w none q here = elim (split (value b p) (value b q)) [
  | inl h ↦
      let top : Affine = number_form context.columns (value b p) in
      let n : length q ≡ context.columns = here.meets.width in
      let wt : length top.coefs ≡ length q = number_width context.columns (value b p) ∙ sym n in
      let le : (value top q +ℤ pos 1) ≤ℤ value b q = subst (λ v. (v +ℤ pos 1) ≤ℤ value b q) (sym (number_value context.columns (value b p) q)) (not_more (value b q) (value b p) h) in
      let row : Met q (gap_row top b 1 ∷ []) = say_rows top b q wt (w ∙ sym n) Less le in
      absurd (none q (point_of_more_rows (context_system context ranges) (gap_row top b 1 ∷ []) q (point_of_context context ranges q here) (one q (gap_row top b 1) row.0)))
  | inr h ↦ h
]

zero_between : (v d o : ℤ) → d ≡ v → o ≡ pos 0 → d ≤ℤ o → o ≤ℤ d → unsigned_abs v ≡ 0
zero_between v d o e f h k = omega (arith, ints)

less_one : (u v b w : ℤ) → u ≡ (pos 1 *ℤ v) +ℤ (negsuc 0 *ℤ w) → v ≡ b → w ≡ pos 1 → u ≡ b -ℤ pos 1
less_one u v b w e f g = omega (arith, ints)

sized : (d v u b : ℤ) → d ≡ v → u ≡ b -ℤ pos 1 → d ≤ℤ u → u ≤ℤ d → pos 1 ≤ℤ d → (b ≡ pos (unsigned_abs v + 1)) × (1 ≤ unsigned_abs v)
sized d v u b e f h k l = (omega (arith, ints), omega (arith, ints))

below_next : (n m : ℕ) (b : ℤ) → b ≡ pos (m + 1) → pos n <ℤ b → n ≤ m
below_next n m b e h = omega (arith, ints)

module _ (dimensions parameters : ℕ) (rows : List Affine) (s : PairSystem) (over : IsOver parameters dimensions s) (z : List ℤ) (width : length z ≡ s.system.columns) (some : 1 ≤ dimensions) where
  wx : HaveColumns s.system.columns s.x.items
  wx = subscripts_wide s.system.columns s.x.items s.x_fits

  wy : HaveColumns s.system.columns s.y.items
  wy = subscripts_wide s.system.columns s.y.items s.y_fits

  agree_met : (rs : List Affine) (k j : ℕ) (row : Affine) → ((j : ℕ) (r : Affine) → slice_get rs j ≡ Some r → length r.coefs ≡ dimensions) → Met z (agree_rows s (take k rs)) → j < k → slice_get rs j ≡ Some row
      → along row (values_of s.x.items z) (values_of s.y.items z) ≡ 0
  agree_met rs zero j row w met h at = absurd (omega arith)
  agree_met [] (suc k) j row w met h at = absurd (omega (arith, slice_get_within [] j row at))
  agree_met (r ∷ rs) (suc k) zero row w met h at =
      let d : Affine = distance r s.x.items s.y.items in
      let o : Affine = number_form s.system.columns (pos 0) in
      let wr : length r.coefs ≡ dimensions = w 0 r refl in
      let few : 1 ≤ length s.x.items = subst (λ n. 1 ≤ n) (sym over.x_each) some in
      let wd : length d.coefs ≡ length z = width_of_distance r s.system.columns s.x.items s.y.items few (over.y_each ∙ sym over.x_each) wx wy ∙ sym width in
      let wo : length o.coefs ≡ length z = number_width s.system.columns (pos 0) ∙ sym width in
      let v : value d z ≡ dot r.coefs (minus (values_of s.x.items z) (values_of s.y.items z)) =
      value_of_distance r s.system.columns s.x.items s.y.items z few (over.x_each ∙ sym wr) (over.y_each ∙ sym over.x_each) wx wy width in
      let parts = met_both z (compare_rows Equal d o) (agree_rows s (take k rs)) met in
      let said = rows_say d o z wd wo Equal parts.0 in
      subst (λ q. along q (values_of s.x.items z) (values_of s.y.items z) ≡ 0) (same_Some r row at)
      (zero_between _ (value d z) (value o z) v (number_value s.system.columns (pos 0) z) said.0 said.1)
  agree_met (r ∷ rs) (suc k) (suc j) row w met h at =
      let d : Affine = distance r s.x.items s.y.items in
      let o : Affine = number_form s.system.columns (pos 0) in
      let parts = met_both z (compare_rows Equal d o) (agree_rows s (take k rs)) met in
      agree_met rs k j row (λ i q e. w (suc i) q e) parts.1 (omega arith) at

  -- the distance that is shown
  shown_size : (row b : Affine) (p : List ℤ) (xs ys : List Affine) → length row.coefs ≡ dimensions → length b.coefs ≡ parameters → take parameters z ≡ p
      → length xs ≡ dimensions → length ys ≡ dimensions → HaveColumns s.system.columns xs → HaveColumns s.system.columns ys
      → Met z (compare_rows Equal (distance row xs ys) (mixed_form (pos 1) (over_columns s.system.columns b) (negsuc 0) (number_form s.system.columns (pos 1))) ++ gap_row (number_form s.system.columns (pos 1)) (distance row xs ys) 0 ∷ [])
      → (value b p ≡ pos (along row (values_of xs z) (values_of ys z) + 1)) × (1 ≤ along row (values_of xs z) (values_of ys z))
  shown_size row b p xs ys wr wb at ex ey hx hy met =
      let d : Affine = distance row xs ys in
      let i : Affine = number_form s.system.columns (pos 1) in
      let m : Affine = over_columns s.system.columns b in
      let t : Affine = mixed_form (pos 1) m (negsuc 0) i in
      let few : 1 ≤ length xs = subst (λ n. 1 ≤ n) (sym ex) some in
      let wd : length d.coefs ≡ length z = width_of_distance row s.system.columns xs ys few (ey ∙ sym ex) hx hy ∙ sym width in
      let wi : length i.coefs ≡ length z = number_width s.system.columns (pos 1) ∙ sym width in
      let wm : length m.coefs ≡ length z = width_over_columns s.system.columns b (subst (λ n. n ≤ s.system.columns) (sym wb) over.parameters_first) ∙ sym width in
      let wt : length t.coefs ≡ length z = length-mixed (pos 1) m.coefs (negsuc 0) i.coefs (wm ∙ sym wi) ∙ wm in
      let v : value d z ≡ dot row.coefs (minus (values_of xs z) (values_of ys z)) = value_of_distance row s.system.columns xs ys z few (ex ∙ sym wr) (ey ∙ sym ex) hx hy width in
      let vm : value m z ≡ value b p = value_over_columns s.system.columns b z ∙ ap (λ n. value b (take n z)) wb ∙ ap (value b) at in
      let vt : value t z ≡ value b p -ℤ pos 1 = less_one (value t z) (value m z) (value b p) (value i z) (value-mixed (pos 1) m (negsuc 0) i z (wm ∙ sym wi) wm) vm (number_value s.system.columns (pos 1) z) in
      let parts = met_both z (compare_rows Equal d t) (gap_row i d 0 ∷ []) met in
      let said = rows_say d t z wd wt Equal parts.0 in
      let least : pos 1 ≤ℤ value d z = subst (λ u. u ≤ℤ value d z) (number_value s.system.columns (pos 1) z) (no_gap_down i d z wi wd i d wi wd parts.1.0) in
      sized (value d z) _ (value t z) (value b p) v vt said.0 said.1 least

-- the rows of a mark behind those of its slice
abbrev mark_rows : (row b : Affine) → PairSystem → (xs ys : List Affine) → List Affine
mark_rows row b s xs ys =
    compare_rows Equal (distance row xs ys) (mixed_form (pos 1) (over_columns s.system.columns b) (negsuc 0) (number_form s.system.columns (pos 1)))
    ++ gap_row (number_form s.system.columns (pos 1)) (distance row xs ys) 0 ∷ []

pub pair_is_shown : PairIsShown
pair_is_shown context ranges systems rows k row b p s z there over wide at wb enough here none front shown =
    let before = slice_get_within rows k row at in
    let some : 1 ≤ length rows = omega (arith, before) in
    let widths : (j : ℕ) (r : Affine) → slice_get rows j ≡ Some r → length r.coefs ≡ length rows = all_at (λ (g : Affine). length g.coefs ≡ length rows) rows wide in
    elim shown [
      | inl h ↦
          let parts = point_of_fewer_rows (slice_system rows k s) (mark_rows row b s s.x.items s.y.items) z h in
          let own = point_of_fewer_rows s.system (agree_rows s (take k rows)) z parts.0 in
          let size = shown_size (length rows) context.columns rows s over z own.0.width some row b p s.x.items s.y.items (widths k row at) wb front over.x_each over.y_each (wide_x own.0.width) (wide_y own.0.width) (from_all z (mark_rows row b s s.x.items s.y.items) parts.1) in
          made own.0 (from_all z (agree_rows s (take k rows)) own.1) some widths size.0 size.1
      | inr h ↦
          let parts = point_of_fewer_rows (slice_system rows k s) (mark_rows row b s s.y.items s.x.items) z h in
          let own = point_of_fewer_rows s.system (agree_rows s (take k rows)) z parts.0 in
          let size = shown_size (length rows) context.columns rows s over z own.0.width some row b p s.y.items s.x.items (widths k row at) wb front over.y_each over.x_each (wide_y own.0.width) (wide_x own.0.width) (from_all z (mark_rows row b s s.y.items s.x.items) parts.1) in
          let e : along row (values_of s.y.items z) (values_of s.x.items z) ≡ along row (values_of s.x.items z) (values_of s.y.items z) = along-turned row (values_of s.x.items z) (values_of s.y.items z) in
          made own.0 (from_all z (agree_rows s (take k rows)) own.1) some widths (size.0 ∙ ap (λ n. pos (n + 1)) e) (subst (λ n. 1 ≤ n) e size.1)
    ]
  where
    wide_x : length z ≡ s.system.columns → HaveColumns s.system.columns s.x.items
    wide_x w = subscripts_wide s.system.columns s.x.items s.x_fits

    wide_y : length z ≡ s.system.columns → HaveColumns s.system.columns s.y.items
    wide_y w = subscripts_wide s.system.columns s.y.items s.y_fits

    made : IsPoint s.system z → Met z (agree_rows s (take k rows)) → 1 ≤ length rows → ((j : ℕ) (r : Affine) → slice_get rows j ≡ Some r → length r.coefs ≡ length rows)
        → value b p ≡ pos (along row (values_of s.x.items z) (values_of s.y.items z) + 1) → 1 ≤ along row (values_of s.x.items z) (values_of s.y.items z)
        → IsLeastMark (InContext context ranges) (IsPairOf systems) rows k row b p (Some (values_of s.x.items z, values_of s.y.items z))
    made meets met some widths is apart =
        let x = values_of s.x.items z in
        let y = values_of s.y.items z in
        let first : take (length p) z ≡ p = ap (λ n. take n z) here.meets.width ∙ front in
        let slice : InSlice (IsPairOf systems p) rows k x y = record {
          pair = record { system = s; there = there; either = inl (record { point = z; meets = meets; parameters = first; first = refl; second = refl }) };
          agrees = λ j r h g. agree_met (length rows) context.columns rows s over z meets.width some rows k j r widths met h g;
        } in
        record {
          in_context = here;
          highest = is_highest context ranges b p wb none;
          greatest = along row x y;
          is_greatest = record {
            most = λ u v other. below_next (along row u v) (along row x y) (value b p) is ((enough p here).1 u v other);
            attained = inr (x, y, slice, refl);
          };
          value_there = is;
          attains = (slice, refl, apart);
        }
