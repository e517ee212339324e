-- Rows that are met, and points of systems with more rows.
use Rattle.std.proofs.Common.{ℕ, ◌^◌, ◌≤◌, ◌++◌, List, [], ◌∷◌, length, ℤ, subst}
use Rattle.std.specs.List.{All}
use Rattle.std.proofs.lemmas.List.Elements.{All-nil, All-cons, All-head, All-tail, All-append, All-take, All-drop, All-weaker}
use Rattle.std.proofs.Math.Seq.{drop-append_seam, take-append_seam}
use Rattle.affc_rows.specs.Forms.{Affine}
use Rattle.affc_rows.specs.Sizes.{IsWithin}
use Rattle.affc_rows.proofs.SizeLemmas.{within_raised}
use Rattle.affc_system.specs.Systems.{Rows, IsRow, Meets, Met, IsPoint}

-- a point that meets further rows is a point of the system with these rows behind its own
pub point_of_more_rows : (s : Rows) (more : List Affine) (x : List ℤ) → IsPoint s x → All (Meets x) more → IsPoint (record s { rows = s.rows ++ more }) x
point_of_more_rows s more x p h = record { width = p.width; meets = All-append (Meets x) s.rows more p.meets h }

-- and the other way round
pub point_of_fewer_rows : (s : Rows) (more : List Affine) (x : List ℤ) → IsPoint (record s { rows = s.rows ++ more }) x → IsPoint s x × All (Meets x) more
point_of_fewer_rows s more x p =
    let front = subst (All (Meets x)) (take-append_seam s.rows more) (All-take (Meets x) (length s.rows) (s.rows ++ more) p.meets) in
    let back = subst (All (Meets x)) (drop-append_seam s.rows more) (All-drop (Meets x) (length s.rows) (s.rows ++ more) p.meets) in
    (record { width = p.width; meets = front }, back)

pub all_from_met : (x : List ℤ) (rows : List Affine) → Met x rows → All (Meets x) rows
all_from_met x [] m = All-nil (Meets x)
all_from_met x (row ∷ rows) m = All-cons (Meets x) row rows m.0 (all_from_met x rows m.1)

pub met_from_all : (x : List ℤ) (rows : List Affine) → All (Meets x) rows → Met x rows
met_from_all x [] a = tt
met_from_all x (row ∷ rows) a = (All-head (Meets x) row rows a, met_from_all x rows (All-tail (Meets x) row rows a))

-- ---- Rows by the sizes of their entries

pub row_of : (n a k : ℕ) (f : Affine) → a ≤ 2 ^ 40 → k ≤ 2 ^ 60 → IsWithin n a k f → IsRow n f
row_of n a k f h g w =
    let r = within_raised n a k (2 ^ 40) (2 ^ 60) f h g w in
    record { width = r.width; fits = record { coefs_fit = r.coefs_fit; constant_fits = r.constant_fits } }

pub row_within : (n : ℕ) (f : Affine) → IsRow n f → IsWithin n (2 ^ 40) (2 ^ 60) f
row_within n f r = record { width = r.width; coefs_fit = r.fits.coefs_fit; constant_fits = r.fits.constant_fits }

pub rows_of : (n a k : ℕ) (fs : List Affine) → a ≤ 2 ^ 40 → k ≤ 2 ^ 60 → All (IsWithin n a k) fs → All (IsRow n) fs
rows_of n a k fs h g all = All-weaker (IsWithin n a k) (IsRow n) (λ f w. row_of n a k f h g w) fs all

pub rows_within : (n : ℕ) (fs : List Affine) → All (IsRow n) fs → All (IsWithin n (2 ^ 40) (2 ^ 60)) fs
rows_within n fs all = All-weaker (IsRow n) (IsWithin n (2 ^ 40) (2 ^ 60)) (λ f r. row_within n f r) fs all
