-- The steps by which ranges are made.
use Rattle.std.proofs.Common.{◌≡◌, ℤ, List, [], ◌∷◌, ◌++◌, map, sym}
use Rattle.affc_rows.specs.Forms.{Affine}
use Rattle.affc_trace.proofs.EndedReads.{append_assoc}
use Rattle.affc_trace.proofs.LastStores.{append_nil}
use Rattle.affc_loops.specs.Spans.{span, hull, hulls}

pub one_more_span : (made box : List (ℤ × ℤ)) (f : Affine) (fs : List Affine) → (made ++ span box f ∷ []) ++ map (span box) fs ≡ made ++ map (span box) (f ∷ fs)
one_more_span made box f fs = append_assoc made (span box f ∷ []) (map (span box) fs)

pub one_more_hull : (made : List (ℤ × ℤ)) (r s : ℤ × ℤ) (rs ss : List (ℤ × ℤ)) → (made ++ hull r s ∷ []) ++ hulls rs ss ≡ made ++ hulls (r ∷ rs) (s ∷ ss)
one_more_hull made r s rs ss = append_assoc made (hull r s ∷ []) (hulls rs ss)

pub no_hull : (made ss : List (ℤ × ℤ)) → made ≡ made ++ hulls [] ss
no_hull made ss = sym (append_nil made)

pub no_other : (made rs : List (ℤ × ℤ)) (r : ℤ × ℤ) → made ≡ made ++ hulls (r ∷ rs) []
no_other made rs r = sym (append_nil made)
