-- The basis (-x0), which is its own inverse.
use Rattle.std.specs.Prelude.{◌≡◌, zero, suc, ◌≤◌, pos, negsuc, unsigned_abs, [], ◌∷◌, length, refl}
use Rattle.std.proofs.Common.{subst, lit≤, arith}
use Rattle.std.proofs.lemmas.List.Elements.{All-nil, All-cons}
use Rattle.std.proofs.lemmas.Option.{same_Some}
use Rattle.affc_rows.specs.Forms.{Affine, HaveColumns, composed_form}
use Rattle.affc_trace.specs.Inverses.{column}
use Rattle.affc_basis.specs.declared.basis.Basis.{Basis}
use Rattle.affc_basis.specs.Bases.{AreWithin, HaveCoefsWithin, AreComponents}

abbrev pub minus_x0 : Affine
minus_x0 = record { coefs = negsuc 0 ∷ []; constant = pos 0 }

pub one_column : HaveColumns 1 (minus_x0 ∷ [])
one_column = All-cons (λ f. length f.coefs ≡ 1) minus_x0 [] refl (All-nil (λ f. length f.coefs ≡ 1))

pub small : HaveCoefsWithin 256 (minus_x0 ∷ [])
small =
    All-cons (λ f. AreWithin 256 f.coefs) minus_x0 []
    (All-cons (λ c. unsigned_abs c ≤ 256) (negsuc 0) [] (lit≤ tt) (All-nil (λ c. unsigned_abs c ≤ 256)))
    (All-nil (λ f. AreWithin 256 f.coefs))

pub identity : AreComponents (minus_x0 ∷ []) (minus_x0 ∷ [])
identity zero h = record {
  row = λ r e. subst (λ f. f.constant ≡ pos 0) (same_Some minus_x0 r e) refl;
  inverse_row = λ g e. subst (λ f. f.constant ≡ pos 0) (same_Some minus_x0 g e) refl;
  product = λ g e. subst (λ f. composed_form f (minus_x0 ∷ []) ≡ column 1 0) (same_Some minus_x0 g e) refl;
}
identity (suc k) h = absurd (omega arith)

abbrev pub turned : Basis
turned = record {
  rows = minus_x0 ∷ [];
  inverse = minus_x0 ∷ [];
  square = record { columns = one_column; inverse_columns = one_column; one_each = refl; few = lit≤ tt };
  row_bounds = small;
  inverse_bounds = small;
  identity = identity;
}
