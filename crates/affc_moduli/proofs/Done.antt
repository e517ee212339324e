-- The modulus of a row, from what it was made of.
use Rattle.std.proofs.Common.{◌≡◌, ℕ, ◌+◌, ◌^◌, ◌≤◌, List, length, take, replicate, ℤ, pos, ◌+ℤ◌, refl, sym, ap, subst, ◌∙◌, arith, lit≤}
use Rattle.std.specs.Prelude.{unsigned_abs, slice_get, Option, Some, None}
use Rattle.std.proofs.lemmas.Int.{ints}
use Rattle.std.proofs.lemmas.List.{length-replicate}
use Rattle.std.proofs.lemmas.List.Elements.{All-replicate}
use Rattle.affc_rows.specs.Forms.{Affine, values_of}
use Rattle.affc_system.specs.Systems.{Rows}
use Rattle.affc_system.specs.declared.pairs.PairSystem.{PairSystem}
use Rattle.affc_split.specs.maximum.Regions.{InRegion}
use Rattle.affc_split.specs.declared.maximum.region.Region.{Region}
use Rattle.affc_conflicts.specs.differences.Differences.{apart}
use Rattle.affc_basis.specs.declared.fold.Mark.{Mark}
use Rattle.affc_basis.specs.declared.fold.Mark.TheVariants.{Least, Bound}
use Rattle.affc_basis.specs.declared.fold.Modulus.{Modulus}
use Rattle.affc_basis.specs.Folds.{IsEnough, IsLeastMark, IsTrueOf}
use Rattle.affc_system.specs.ElementPairs.{IsPairOf}
use Rattle.affc_conflicts.specs.Conditions.{InContext}
use Rattle.affc_basis.specs.Moduli.{IsModulus}
use Rattle.affc_moduli.specs.Slices.{AreSlices}
use Rattle.affc_moduli.specs.Distances.{AreApartWithin, HaveDimensions}
use Rattle.affc_moduli.specs.Ended.{IsFar}
use Rattle.affc_moduli.specs.Rows.{IsDone, IsKept}
use Rattle.affc_moduli.proofs.Rows.{number, enough, least_none, least_some}

number_limits : (parameters n : ℕ) → n ≤ 2 ^ 55 → IsModulus parameters (number parameters n)
number_limits parameters n h = record {
  width = length-replicate parameters (pos 0);
  coefs_fit = All-replicate (λ c. unsigned_abs c ≤ 2 ^ 30) parameters (pos 0) (lit≤ tt);
  constant_fits = h;
}

not_bound : (m : Mark) (p : List ℤ) (pair : Option (List ℤ × List ℤ)) → m ≡ Least p pair → m ≡ Bound → ⊥
not_bound m p pair e f = absurd_mark (sym e ∙ f)
  where
    absurd_mark : Least p pair ≡ Bound → ⊥
    absurd_mark g = cc

pub sum_of : (v : ℤ) (n : ℕ) → v ≡ pos n → v +ℤ pos 1 ≡ pos (n + 1)
sum_of v n e = omega (arith, ints)

module _ (context : Rows) (ranges : List (ℤ × ℤ)) (rows : List Affine) (k : ℕ) (row : Affine) (systems : List PairSystem) (regions : List Region)
    (slices : AreSlices context ranges rows k systems regions) (wide : HaveDimensions systems (length row.coefs)) where
  made : (n : ℕ) (p : List ℤ) (pair : Option (List ℤ × List ℤ)) → n ≤ 2 ^ 53 → AreApartWithin systems regions row.coefs n
      → IsLeastMark (InContext context ranges) (IsPairOf systems) rows k row (number context.columns (n + 1)) p pair
      → (m : Modulus) → m.form ≡ number context.columns (n + 1) → m.mark ≡ Least p pair → IsDone context ranges systems rows k row m
  made n p pair small far mark m e f = record {
    limits = subst (IsModulus context.columns) (sym e) (number_limits context.columns (n + 1) (omega arith));
    enough = subst (λ b. IsEnough (InContext context ranges) (IsPairOf systems) rows k row b) (sym e) (enough context ranges rows k row systems regions slices wide n far);
    mark = subst (λ q. IsTrueOf (InContext context ranges) (IsPairOf systems) rows k row m.form q) (sym f)
        (subst (λ b. IsLeastMark (InContext context ranges) (IsPairOf systems) rows k row b p pair) (sym e) mark);
    marked = not_bound m.mark p pair f;
  }

  pub done_none : (p : List ℤ) → InContext context ranges p → AreApartWithin systems regions row.coefs 0
      → (m : Modulus) → m.form ≡ number (length p) 1 → m.mark ≡ Least p None → IsDone context ranges systems rows k row m
  done_none p here far m e f =
      made 0 p None (lit≤ tt) far (least_none context ranges rows k row systems regions slices wide p here far) m (e ∙ ap (λ n. number n 1) here.meets.width) f

  pub done_some : (n i : ℕ) (z : List ℤ) (s : PairSystem) (r : Region) → AreApartWithin systems regions row.coefs n → 1 ≤ n → n ≤ 2 ^ 53
      → slice_get systems i ≡ Some s → slice_get regions i ≡ Some r → InRegion r z → unsigned_abs (apart row.coefs s.x.items s.y.items z) ≡ n
      → (m : Modulus) → m.form ≡ number context.columns (n + 1) → m.mark ≡ Least (take context.columns z) (Some (values_of s.x.items z, values_of s.y.items z)) → IsDone context ranges systems rows k row m
  done_some n i z s r far some small at there inside by m e f =
      made n (take context.columns z) (Some (values_of s.x.items z, values_of s.y.items z)) small far
      (least_some context ranges rows k row systems regions slices wide n i z (values_of s.x.items z) (values_of s.y.items z) s r far some at there inside by refl refl) m e f

  -- 1 more than a number beyond which no elements lie, without a mark
  pub kept_bound : (parameters : ℕ) (v : ℤ) → parameters ≡ context.columns → IsFar systems regions row.coefs v → (m : Modulus) → m.form ≡ record { coefs = replicate parameters (pos 0); constant = v +ℤ pos 1 } → m.mark ≡ Bound
      → IsKept context ranges systems rows k row m
  kept_bound parameters v at far m form mark =
      let n = far.0 in
      let small = far.2 in
      let e : m.form ≡ number context.columns (n + 1) =
      form ∙ ap (λ (q : ℕ). let f : Affine = record { coefs = replicate q (pos 0); constant = v +ℤ pos 1 } in f) at
      ∙ ap (λ (w : ℤ). let f : Affine = record { coefs = replicate context.columns (pos 0); constant = w } in f) (sum_of v n far.1) in
      record {
        limits = subst (IsModulus context.columns) (sym e) (number_limits context.columns (n + 1) (omega (arith, small)));
        enough = subst (λ b. IsEnough (InContext context ranges) (IsPairOf systems) rows k row b) (sym e) (enough context ranges rows k row systems regions slices wide n far.3);
        mark = subst (λ q. IsTrueOf (InContext context ranges) (IsPairOf systems) rows k row m.form q) (sym mark) tt;
        flat = λ _. ap (λ (f : Affine). f.coefs) e;
      }

-- a modulus with a mark
pub kept_of : (context : Rows) (ranges : List (ℤ × ℤ)) (systems : List PairSystem) (rows : List Affine) (k : ℕ) (row : Affine) (m : Modulus) → IsDone context ranges systems rows k row m → IsKept context ranges systems rows k row m
kept_of context ranges systems rows k row m done = record { limits = done.limits; enough = done.enough; mark = done.mark; flat = λ e. absurd (done.marked e) }
