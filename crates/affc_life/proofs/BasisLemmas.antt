-- Bases that are copied, given and listed.
use Rattle.std.proofs.Common.{◌≡◌, ℕ, zero, suc, ◌≤◌, ◌<◌, Bool, true, false, if◌then◌else◌, List, ◌∷◌, length, Option, Some, refl, sym, ap, subst, ◌∙◌, arith}
use Rattle.std.specs.Prelude.{◌&&◌, nat_eq, slice_get}
use Rattle.std.proofs.lemmas.Bool.{eqb-true, eq-eqb}
use Rattle.affc_rows.specs.Forms.{Affine}
use Rattle.affc_ast.specs.declared.tree.ArrayId.{ArrayId}
use Rattle.affc_basis.specs.declared.basis.Basis.{Basis}
use Rattle.affc_basis.specs.Bases.{IsSquare, HaveCoefsWithin, IsFirstBroken}
use Rattle.affc_basis.specs.Listed.{Shape, shape_of, listing, IsBasis}
use Rattle.affc_life.specs.Folding.{given_for}
use Rattle.affc_basis.proofs.ListedBases.{listed_bases}
use Rattle.affc_conflicts.proofs.Decided.{all_at}

-- ---- Copies

-- a basis has no broken component
pub none_broken : (b : Basis) (rows inverse : List Affine) (k : ℕ) → rows ≡ b.rows → inverse ≡ b.inverse → IsFirstBroken rows inverse k → ⊥
none_broken b rows inverse k e f h =
    let g : IsFirstBroken b.rows b.inverse k = subst (λ is. IsFirstBroken b.rows is k) f (subst (λ rs. IsFirstBroken rs inverse k) e h) in
    g.broken (b.identity k g.within)

pub copy_square : (b : Basis) (rows inverse : List Affine) → rows ≡ b.rows → inverse ≡ b.inverse → IsSquare rows inverse
copy_square b rows inverse e f = subst (λ is. IsSquare rows is) (sym f) (subst (λ rs. IsSquare rs b.inverse) (sym e) b.square)

pub copy_bounds : (fs gs : List Affine) → fs ≡ gs → HaveCoefsWithin 256 gs → HaveCoefsWithin 256 fs
copy_bounds fs gs e h = subst (HaveCoefsWithin 256) (sym e) h

abbrev shape : (rows inverse : List Affine) → Shape
shape rows inverse = record { rows = rows; inverse = inverse }

pub same_shape : (b c : Basis) → c.rows ≡ b.rows → c.inverse ≡ b.inverse → shape_of c ≡ shape_of b
same_shape b c e f = ap (λ rs. shape rs c.inverse) e ∙ ap (λ is. shape b.rows is) f

-- ---- Given bases

-- the first that is given is taken
pub taken : (bs rest : List (ArrayId × Basis)) (f : ArrayId × Basis) (array dimensions : ℕ) (s : Shape) → bs ≡ f ∷ rest → f.0.0 ≡ array → length f.1.rows ≡ dimensions → s ≡ shape_of f.1 → given_for bs array dimensions ≡ Some s
taken bs rest f array dimensions s is same long e =
    ap (λ xs. given_for xs array dimensions) is
    ∙ ap (λ t. if t && nat_eq (length f.1.rows) dimensions then Some (shape_of f.1) else given_for rest array dimensions) (eq-eqb f.0.0 array same)
    ∙ ap (λ t. if t then Some (shape_of f.1) else given_for rest array dimensions) (eq-eqb (length f.1.rows) dimensions long) ∙ ap (λ x. Some x) (sym e)

-- or passed over
pub passed : (bs rest : List (ArrayId × Basis)) (f : ArrayId × Basis) (array dimensions : ℕ) (s : Option Shape) → bs ≡ f ∷ rest → (f.0.0 ≡ array → length f.1.rows ≡ dimensions → ⊥) → given_for rest array dimensions ≡ s
    → given_for bs array dimensions ≡ s
passed bs rest f array dimensions s is other e = ap (λ xs. given_for xs array dimensions) is ∙ by_tests (nat_eq f.0.0 array) (nat_eq (length f.1.rows) dimensions) refl refl
  where
    by_tests : (t u : Bool) → nat_eq f.0.0 array ≡ t → nat_eq (length f.1.rows) dimensions ≡ u → (if t && u then Some (shape_of f.1) else given_for rest array dimensions) ≡ s
    by_tests true true h g = absurd (other (eqb-true f.0.0 array h) (eqb-true (length f.1.rows) dimensions g))
    by_tests true false h g = e
    by_tests false u h g = e

-- a listed basis has as many rows as it is listed for
pub listed_rows : (n j : ℕ) (b : Basis) → slice_get (listing n) j ≡ Some (shape_of b) → length b.rows ≡ n
listed_rows n j b at = (all_at (IsBasis n) (listing n) (listed_bases n) j (shape_of b) at).dimensions_fit

-- and one is listed at least
pub some_listed : (n : ℕ) → n ≤ 4 → 0 < length (listing n)
some_listed zero h = omega arith
some_listed (suc zero) h = omega arith
some_listed (suc (suc zero)) h = omega arith
some_listed (suc (suc (suc zero))) h = omega arith
some_listed (suc (suc (suc (suc zero)))) h = omega arith
some_listed (suc (suc (suc (suc (suc n))))) h = absurd (omega (arith, h))
