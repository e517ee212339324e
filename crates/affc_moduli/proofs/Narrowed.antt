-- How slices are begun and narrowed.
use Rattle.std.proofs.Common.{◌≡◌, ℕ, suc, zero, ◌+◌, ◌*◌, ◌<◌, ◌≤◌, inl, inr, List, [], ◌∷◌, ◌++◌, length, ℤ, pos, neg_ℤ, ◌≤ℤ◌, refl, sym, ap, subst, ◌∙◌, arith}
use Rattle.std.specs.Prelude.{unsigned_abs, slice_get, Some}
use Rattle.std.specs.List.{All}
use Rattle.std.proofs.lemmas.Int.{ints}
use Rattle.std.proofs.lemmas.List.{length-append}
use Rattle.std.proofs.lemmas.List.Elements.{All-nil, All-cons, All-head, All-tail}
use Rattle.std.proofs.lemmas.Option.{slice_get_within, same_Some}
use Rattle.affc_rows.specs.Forms.{Affine, value, values_of}
use Rattle.affc_system.specs.Systems.{Rows, Meets, IsPoint}
use Rattle.affc_system.specs.Boxes.{InBox}
use Rattle.affc_system.specs.declared.pairs.PairSystem.{PairSystem}
use Rattle.affc_system.proofs.SystemLemmas.{point_of_more_rows, point_of_fewer_rows}
use Rattle.affc_split.specs.maximum.Regions.{InRegion}
use Rattle.affc_split.specs.declared.maximum.region.Region.{Region}
use Rattle.affc_conflicts.specs.differences.Differences.{apart}
use Rattle.affc_basis.specs.Slices.{along}
use Rattle.affc_conflicts.specs.Conditions.{IsConflict}
use Rattle.affc_moduli.specs.Slices.{InSliceAt, IsSlice, AreSlices, AreCopies, IsNarrowed, AreNarrowed}
use Rattle.affc_moduli.specs.Distances.{AreForward, AreBackward, IsDifference, HaveDimensions}
use Rattle.affc_moduli.proofs.Apart.{apart-dot, apart-turned}
use Rattle.affc_moduli.proofs.Covers.{some_at}
use Rattle.affc_moduli.proofs.Lifted.{before_or_at}

-- ---- the slice of row 0

pub begun : (context : Rows) (ranges : List (ℤ × ℤ)) (rows extents : List Affine) (systems : List PairSystem) (regions : List Region)
    → ((i : ℕ) (s : PairSystem) → slice_get systems i ≡ Some s → IsConflict context ranges extents s) → AreCopies systems regions → AreSlices context ranges rows 0 systems regions
begun context ranges rows extents systems regions conflicts copies = record {
  one_each = copies.0;
  slices = λ i s r at there.
      let same = copies.1 i s r at there in
      let conflict = conflicts i s at in
      record {
        columns = ap (λ (q : Rows). q.columns) same.system;
        few = few_rows r.system s.system (length context.rows) same.system;
        holds = λ z. (
          λ inside. record {
            meets = subst (λ q. IsPoint q z) same.system inside.meets;
            in_context = conflict.in_context z (subst (λ q. IsPoint q z) same.system inside.meets);
            agrees = λ j row h g. absurd (omega arith);
          },
          λ held. record {
            meets = subst (λ q. IsPoint q z) (sym same.system) held.meets;
            inside = subst (λ q. InBox q z) (sym same.ranges) (conflict.boxed.holds z held.meets);
          },
        );
      };
}
  where
    few_rows : (a b : Rows) (n : ℕ) → a ≡ b → length a.rows ≤ length b.rows + n + 2 * 0
    few_rows a b n e = let h = ap (λ (q : Rows). length q.rows) e in omega arith

-- ---- one row more

zero_of : (a u v : ℤ) → pos 0 ≤ℤ u → pos 0 ≤ℤ v → u ≡ a → v ≡ neg_ℤ a → unsigned_abs a ≡ 0
zero_of a u v h k e f = omega (arith, ints)

at_least_zero : (a u : ℤ) → unsigned_abs a ≡ 0 → u ≡ a → pos 0 ≤ℤ u
at_least_zero a u h e = omega (arith, ints)

at_least_turned : (a u : ℤ) → unsigned_abs a ≡ 0 → u ≡ neg_ℤ a → pos 0 ≤ℤ u
at_least_turned a u h e = omega (arith, ints)

module _ (context : Rows) (ranges : List (ℤ × ℤ)) (rows : List Affine) (k : ℕ) (row : Affine) (at_row : slice_get rows k ≡ Some row) (s : PairSystem) (f g : Affine)
    (wide : (length s.x.items ≡ length row.coefs) × (length s.y.items ≡ length row.coefs))
    (forward : IsDifference s.system.columns row.coefs s.x.items s.y.items f) (backward : IsDifference s.system.columns row.coefs s.y.items s.x.items g)
    (r n : Region) (slice : IsSlice context ranges rows k s r) (narrow : IsNarrowed r f g n) where
  distance : (z : List ℤ) → along row (values_of s.x.items z) (values_of s.y.items z) ≡ unsigned_abs (apart row.coefs s.x.items s.y.items z)
  distance z = ap unsigned_abs (sym (apart-dot row.coefs s.x.items s.y.items z wide.0 wide.1))

  forth : (z : List ℤ) → InRegion n z → InSliceAt context ranges s rows (k + 1) z
  forth z inside =
      let longer : IsPoint (record r.system { rows = r.system.rows ++ f ∷ g ∷ [] }) z = subst (λ q. IsPoint q z) narrow.system inside.meets in
      let parts = point_of_fewer_rows r.system (f ∷ g ∷ []) z longer in
      let old : InRegion r z = record { meets = parts.0; inside = subst (λ q. InBox q z) narrow.ranges inside.inside } in
      let held = (slice.holds z).0 old in
      let width : length z ≡ s.system.columns = held.meets.width in
      let low : pos 0 ≤ℤ value f z = All-head (Meets z) f (g ∷ []) parts.1 in
      let high : pos 0 ≤ℤ value g z = All-head (Meets z) g [] (All-tail (Meets z) f (g ∷ []) parts.1) in
      let none = zero_of (apart row.coefs s.x.items s.y.items z) (value f z) (value g z) low high (forward.holds z width) (backward.holds z width ∙ apart-turned row.coefs s.x.items s.y.items z) in
      record {
        meets = held.meets;
        in_context = held.in_context;
        agrees = λ j other h at. elim (before_or_at j k h) [
          | inl l ↦ held.agrees j other l at
          | inr e ↦
              let same : row ≡ other = same_Some row other (sym at_row ∙ ap (slice_get rows) (sym e) ∙ at) in
              subst (λ q. along q (values_of s.x.items z) (values_of s.y.items z) ≡ 0) same (distance z ∙ none)
        ];
      }

  back : (z : List ℤ) → InSliceAt context ranges s rows (k + 1) z → InRegion n z
  back z held =
      let old : InRegion r z = (slice.holds z).1 (record { meets = held.meets; in_context = held.in_context; agrees = λ j other h at. held.agrees j other (omega arith) at }) in
      let width : length z ≡ s.system.columns = held.meets.width in
      let none : unsigned_abs (apart row.coefs s.x.items s.y.items z) ≡ 0 = sym (distance z) ∙ held.agrees k row (omega arith) at_row in
      let low : Meets z f = at_least_zero _ (value f z) none (forward.holds z width) in
      let high : Meets z g = at_least_turned _ (value g z) none (backward.holds z width ∙ apart-turned row.coefs s.x.items s.y.items z) in
      let both : All (Meets z) (f ∷ g ∷ []) = All-cons (Meets z) f (g ∷ []) low (All-cons (Meets z) g [] high (All-nil (Meets z))) in
      record {
        meets = subst (λ q. IsPoint q z) (sym narrow.system) (point_of_more_rows r.system (f ∷ g ∷ []) z old.meets both);
        inside = subst (λ q. InBox q z) (sym narrow.ranges) old.inside;
      }

  pub narrowed_slice : IsSlice context ranges rows (k + 1) s n
  narrowed_slice = record {
    columns = ap (λ (q : Rows). q.columns) narrow.system ∙ slice.columns;
    few =
        let e = ap (λ (q : Rows). length q.rows) narrow.system in
        let l = length-append r.system.rows (f ∷ g ∷ []) in
        let h = slice.few in
        omega arith;
    holds = λ z. (forth z, back z);
  }

pub all_narrowed : (context : Rows) (ranges : List (ℤ × ℤ)) (rows : List Affine) (k : ℕ) (row : Affine) → slice_get rows k ≡ Some row → (systems : List PairSystem) (regions narrower : List Region) (fs gs : List Affine)
    → length fs ≡ length systems → length gs ≡ length systems → HaveDimensions systems (length row.coefs)
    → AreForward systems row.coefs fs → AreBackward systems row.coefs gs → AreSlices context ranges rows k systems regions → AreNarrowed regions fs gs narrower
    → AreSlices context ranges rows (k + 1) systems narrower
all_narrowed context ranges rows k row at_row systems regions narrower fs gs fs_each gs_each wide forward backward slices narrow = record {
  one_each = narrow.0 ∙ slices.one_each;
  slices = λ i s n at there.
      let here : i < length systems = slice_get_within systems i s at in
      let r = some_at regions i (subst (λ m. i < m) (sym slices.one_each) here) in
      let f = some_at fs i (subst (λ m. i < m) (sym fs_each) here) in
      let g = some_at gs i (subst (λ m. i < m) (sym gs_each) here) in
      narrowed_slice context ranges rows k row at_row s f.0 g.0 (wide i s at) (forward i s f.0 at f.1) (backward i s g.0 at g.1) r.0 n
      (slices.slices i s r.0 at r.1) (narrow.1 i r.0 n r.1 there f.0 g.0 f.1 g.1);
}
