-- Regions of one row in place of those without a point, and slices of them.
use Rattle.std.proofs.Common.{◌≡◌, ℕ, ◌^◌, ◌<◌, ◌≤◌, List, [], ◌∷◌, length, replicate, ℤ, pos, negsuc, ◌+ℤ◌, ◌≤ℤ◌, sym, ap, subst, ◌∙◌, arith}
use Rattle.std.specs.Prelude.{unsigned_abs}
use Rattle.std.proofs.lemmas.Int.{ints}
use Rattle.std.proofs.lemmas.List.{length-replicate}
use Rattle.std.proofs.lemmas.List.Elements.{All-head, All-replicate}
use Rattle.std.proofs.lemmas.Option.{slice_get_within}
use Rattle.affc_rows.specs.Forms.{Affine, dot}
use Rattle.affc_system.specs.Systems.{Rows, IsRow, Meets, IsPoint}
use Rattle.affc_system.specs.declared.pairs.PairSystem.{PairSystem}
use Rattle.affc_split.specs.maximum.Regions.{InRegion}
use Rattle.affc_split.specs.declared.maximum.region.Region.{Region}
use Rattle.affc_domain.proofs.FormLemmas.{dot_zeros}
use Rattle.affc_moduli.specs.Slices.{AreSlices}
use Rattle.affc_moduli.specs.Reduced.{IsReduced, AreReduced, below_zero}
use Rattle.affc_moduli.proofs.Covers.{some_at}

pub below_zero_row : (n : ℕ) (f : Affine) → f ≡ below_zero n → IsRow n f
below_zero_row n f e = subst (λ (g : Affine). IsRow n g) (sym e) (record {
  width = length-replicate n (pos 0);
  fits = record { coefs_fit = All-replicate (λ c. unsigned_abs c ≤ 2 ^ 40) n (pos 0) (omega arith); constant_fits = omega arith };
})

negative : (d : ℤ) → d ≡ pos 0 → pos 0 ≤ℤ (d +ℤ negsuc 0) → ⊥
negative d e h = omega (arith, ints)

met_nowhere : (n : ℕ) (z : List ℤ) → Meets z (below_zero n) → ⊥
met_nowhere n z h = negative (dot (replicate n (pos 0)) z) (dot_zeros n z) h

-- a region without a point
pub emptied : (region r : Region) (n : ℕ) → r.system ≡ record { columns = n; rows = below_zero n ∷ [] } → n ≡ region.system.columns → 1 ≤ length region.system.rows → ((z : List ℤ) → InRegion region z → ⊥) → IsReduced region r
emptied region r n same e some void = record {
  columns = ap (λ (q : Rows). q.columns) same ∙ e;
  few = let h = ap (λ (q : Rows). length q.rows) same in omega arith;
  holds = λ z. (
    λ inside.
        let meets : IsPoint (record { columns = n; rows = below_zero n ∷ [] }) z = subst (λ q. IsPoint q z) same inside.meets in
        absurd (met_nowhere n z (All-head (Meets z) (below_zero n) [] meets.meets)),
    λ inside. absurd (void z inside),
  );
}

pub slices_reduced : (context : Rows) (ranges : List (ℤ × ℤ)) (rows : List Affine) (k : ℕ) (systems : List PairSystem) (regions reduced : List Region)
    → AreSlices context ranges rows k systems regions → AreReduced regions reduced → AreSlices context ranges rows k systems reduced
slices_reduced context ranges rows k systems regions reduced slices same = record {
  one_each = same.0 ∙ slices.one_each;
  slices = λ i s n at there.
      let here : i < length systems = slice_get_within systems i s at in
      let r = some_at regions i (subst (λ m. i < m) (sym slices.one_each) here) in
      let old = slices.slices i s r.0 at r.1 in
      let new = same.1 i r.0 n r.1 there in
      record {
        columns = new.columns ∙ old.columns;
        few = let a = old.few in let b = new.few in omega arith;
        holds = λ z. (
          λ inside. (old.holds z).0 ((new.holds z).0 inside),
          λ held. (new.holds z).1 ((old.holds z).1 held),
        );
      };
}
