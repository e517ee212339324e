-- A form that suits, in place of a constant.
use Rattle.std.proofs.Common.{◌≡◌, ℕ, ◌+◌, ◌*◌, ◌^◌, ◌<◌, ◌≤◌, List, length, replicate, ℤ, pos, ◌+ℤ◌, ◌≤ℤ◌, sym, ap, subst, ◌∙◌, arith}
use Rattle.std.specs.Prelude.{unsigned_abs, slice_get, Some}
use Rattle.std.specs.List.{All}
use Rattle.std.proofs.lemmas.Int.{ints}
use Rattle.std.proofs.lemmas.Option.{slice_get_within}
use Rattle.std.proofs.lemmas.List.Elements.{All-weaker}
use Rattle.affc_rows.specs.Forms.{Affine, HaveColumns, dot, value}
use Rattle.affc_system.specs.Systems.{Rows, IsPoint}
use Rattle.affc_system.specs.Boxes.{InBox}
use Rattle.affc_system.specs.Pairs.{IsSubscript}
use Rattle.affc_system.specs.ElementPairs.{IsPairOf}
use Rattle.affc_system.specs.declared.pairs.PairSystem.{PairSystem}
use Rattle.affc_split.specs.maximum.Regions.{InRegion}
use Rattle.affc_split.specs.declared.maximum.region.Region.{Region}
use Rattle.affc_basis.specs.declared.fold.Mark.{Mark}
use Rattle.affc_basis.specs.declared.fold.Modulus.{Modulus}
use Rattle.affc_basis.specs.Moduli.{IsModulus}
use Rattle.affc_basis.specs.Folds.{IsEnough, IsTrueOf}
use Rattle.affc_domain.proofs.FormLemmas.{dot_zeros}
use Rattle.affc_conflicts.specs.Conditions.{InContext, IsConflict}
use Rattle.affc_conflicts.proofs.Decided.{all_at}
use Rattle.affc_moduli.specs.Ready.{AreReady}
use Rattle.affc_moduli.specs.Slices.{AreSlices}
use Rattle.affc_moduli.specs.Distances.{AreForward, AreBackward, IsDifference}
use Rattle.affc_moduli.specs.Enough.{IsComparable, AreComparable, IsSuitable}
use Rattle.affc_moduli.specs.Rows.{IsDone}
use Rattle.affc_moduli.proofs.Covers.{some_at}
use Rattle.affc_moduli.proofs.Step.{wide}
use Rattle.affc_moduli.proofs.Proposed.{enough_by, marks_move}

pub extents_wide : (n : ℕ) (es : List Affine) → All (IsSubscript n) es → HaveColumns n es
extents_wide n es h = All-weaker (IsSubscript n) (λ (g : Affine). length g.coefs ≡ n) (λ f s. s.width) es h

less_room : (r s c k d : ℕ) → r ≤ s + c + 2 * k → s + c + 2 * d ≤ 1024 → k < d → r < 1024
less_room r s c k d h l m = omega arith

plus_nothing : (v c : ℤ) → v ≡ pos 0 → v +ℤ c ≡ c
plus_nothing v c e = omega (arith, ints)

-- a form without slopes is its constant
value_of_flat : (f : Affine) (n : ℕ) (p : List ℤ) → f.coefs ≡ replicate n (pos 0) → value f p ≡ f.constant
value_of_flat f n p e =
    let d : dot f.coefs p ≡ pos 0 = ap (λ (cs : List ℤ). dot cs p) e ∙ dot_zeros n p in
    plus_nothing (dot f.coefs p) f.constant d

below_flat : (v need c u : ℤ) → v ≤ℤ need → need ≡ c → u ≡ c → v ≤ℤ u
below_flat v need c u h e f = omega (arith, ints)

module _ (context : Rows) (ranges : List (ℤ × ℤ)) (extents rows : List Affine) (systems : List PairSystem) (ready : AreReady context ranges extents rows systems) (k : ℕ) (row : Affine) (at : slice_get rows k ≡ Some row)
    (regions : List Region) (slices : AreSlices context ranges rows k systems regions) where
  comparable : (i : ℕ) (s : PairSystem) (r : Region) (xs ys : List Affine) (f : Affine) → slice_get systems i ≡ Some s → slice_get regions i ≡ Some r → IsDifference s.system.columns row.coefs xs ys f → IsComparable context.columns r f
  comparable i s r xs ys f there here d =
      let slice = slices.slices i s r there here in
      let conflict : IsConflict context ranges extents s = all_at (IsConflict context ranges extents) systems ready.conflicts i s there in
      let before : k < length extents = subst (λ (n : ℕ). k < n) (sym ready.dimensions) (slice_get_within rows k row at) in
      record {
        width = d.small.width ∙ sym slice.columns;
        coefs = All-weaker (λ c. unsigned_abs c ≤ 4 * 2 ^ 25) (λ c. unsigned_abs c ≤ 2 ^ 27) (λ c h. omega arith) f.coefs d.small.coefs_fit;
        constant = let h = d.small.constant_fits in omega arith;
        within = subst (λ (n : ℕ). context.columns ≤ n) (sym slice.columns) conflict.parameters;
        room = less_room (length r.system.rows) (length s.system.rows) (length context.rows) k (length extents) slice.few conflict.room before;
      }

  pub comparable_forward : (fs : List Affine) → AreForward systems row.coefs fs → AreComparable context.columns regions fs
  comparable_forward fs forward i r f here there =
      let s = some_at systems i (subst (λ (n : ℕ). i < n) slices.one_each (slice_get_within regions i r here)) in
      comparable i s.0 r s.0.x.items s.0.y.items f s.1 here (forward i s.0 f s.1 there)

  pub comparable_backward : (gs : List Affine) → AreBackward systems row.coefs gs → AreComparable context.columns regions gs
  comparable_backward gs backward i r f here there =
      let s = some_at systems i (subst (λ (n : ℕ). i < n) slices.one_each (slice_get_within regions i r here)) in
      comparable i s.0 r s.0.y.items s.0.x.items f s.1 here (backward i s.0 f s.1 there)

  -- the modulus with the form that suits, and the mark of the constant
  pub moved : (region : Region) (fs gs : List Affine) (b : Affine) (need : ℤ) (old new : Modulus) → region.system ≡ context → region.ranges ≡ ranges
      → length fs ≡ length systems → length gs ≡ length systems → AreForward systems row.coefs fs → AreBackward systems row.coefs gs
      → IsSuitable region regions fs gs b need → IsDone context ranges systems rows k row old → old.form.coefs ≡ replicate context.columns (pos 0) → need ≡ old.form.constant
      → new.form ≡ b → new.mark ≡ old.mark → IsDone context ranges systems rows k row new
  moved region fs gs b need old new same_system same_ranges fs_each gs_each forward backward suits done flat level form mark =
      let in_region : (p : List ℤ) → InContext context ranges p → InRegion region p = λ p here.
      record { meets = subst (λ (q : Rows). IsPoint q p) (sym same_system) here.meets; inside = subst (λ (q : List (ℤ × ℤ)). InBox q p) (sym same_ranges) here.inside } in
      let columns : region.system.columns ≡ context.columns = ap (λ (q : Rows). q.columns) same_system in
      let width : length b.coefs ≡ context.columns = suits.limits.width ∙ columns in
      let positive : (p : List ℤ) → InContext context ranges p → pos 1 ≤ℤ value b p = λ p here. suits.positive p (in_region p here) in
      let top : (p q : List ℤ) → InContext context ranges q → value b q ≤ℤ value old.form p =
      λ p q there. below_flat (value b q) need old.form.constant (value old.form p) (suits.most q (in_region q there)) level (value_of_flat old.form context.columns p flat) in
      let dimensions = wide context ranges extents rows systems ready k row at regions slices in
      let enough : IsEnough (InContext context ranges) (IsPairOf systems) rows k row b =
      enough_by context ranges rows k row systems regions slices dimensions b width positive fs gs fs_each gs_each forward backward suits.forward suits.backward in
      let true_of : IsTrueOf (InContext context ranges) (IsPairOf systems) rows k row b old.mark =
      marks_move context ranges rows k row systems regions slices dimensions b width positive old.form old.mark enough top done.mark in
      record {
        limits = subst (IsModulus context.columns) (sym form) (subst (λ (m : ℕ). IsModulus m b) columns suits.limits);
        enough = subst (λ (f : Affine). IsEnough (InContext context ranges) (IsPairOf systems) rows k row f) (sym form) enough;
        mark = subst (λ (f : Affine). IsTrueOf (InContext context ranges) (IsPairOf systems) rows k row f new.mark) (sym form)
            (subst (λ (m : Mark). IsTrueOf (InContext context ranges) (IsPairOf systems) rows k row b m) (sym mark) true_of);
        marked = λ e. done.marked (sym mark ∙ e);
      }
