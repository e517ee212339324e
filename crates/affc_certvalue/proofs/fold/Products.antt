-- Folds whose rows and inverse forms multiply to the identity.
use Rattle.affc_basis.specs.Bases.{AreComponents}
use Rattle.affc_basis.specs.Bases as bases
use Rattle.affc_certvalue.proofs.fold.Found.{plain_form}
use Rattle.affc_certvalue.specs.fold.Bases.{plain, IsBasis}
use Rattle.affc_certvalue.specs.fold.Drafts.{draft_entry}
use Rattle.affc_certvalue.specs.fold.Entries.{coefs_of, entry_of}
use Rattle.affc_certvalue.specs.declared.fold.draft.Draft.{Draft}
use Rattle.affc_certvalue.specs.declared.fold.fold.CertFold.{CertFold}
use Rattle.affc_rows.specs.Forms.{Affine}
use Rattle.std.proofs.Common.{◌≡◌, ℕ, suc, pos, List, [], ◌∷◌, Some, refl, sym, ap₂, subst, arith}
use Rattle.std.proofs.lemmas.Option.{slice_get_within}
use Rattle.std.specs.Prelude.{slice_get}

plain_all : (rows : List Affine) → ((k : ℕ) (r : Affine) → slice_get rows k ≡ Some r → r.constant ≡ pos 0) → rows ≡ plain (coefs_of rows)
plain_all [] h = refl
plain_all (r ∷ rs) h = ap₂ (λ x xs. x ∷ xs) (plain_form r (h 0 r refl)) (plain_all rs (λ k x e. h (suc k) x e))

pub entry_is_basis : (f : CertFold) → IsBasis (entry_of f)
entry_is_basis f =
    let rows = f.basis.rows in
    let inverse = f.basis.inverse in
    let first = plain_all rows (λ k r e. (f.basis.identity k (slice_get_within rows k r e)).row r e) in
    let second = plain_all inverse (λ k r e. let there = slice_get_within inverse k r e in (f.basis.identity k (omega (arith, there, f.basis.square.one_each))).inverse_row r e) in
    subst {A = List Affine × List Affine} (λ p. AreComponents p.0 p.1) (ap₂ (λ x y. (x, y)) first second) f.basis.identity

-- ---- Drafts

-- a draft that is refused is no basis
pub broken_draft : (d : Draft) (k : ℕ) → bases.IsFirstBroken d.rows d.inverse k → IsBasis (draft_entry d) → ⊥
broken_draft d k first basis = first.broken (subst {A = List Affine × List Affine} (λ p. AreComponents p.0 p.1) (ap₂ (λ x y. (x, y)) (sym d.plain_rows) (sym d.plain_inverse)) basis k first.within)
