-- Forms that are put in others.
use Rattle.std.specs.Prelude.{◌≡◌, List, length}
use Rattle.affc_rows.specs.Forms.{Affine, HaveColumns, columns_of, composed_form_magnitudes, TooWide}

-- the images of the form's columns, with which no entry passes 2^126
pub record IsComposable (form : Affine) (images : List Affine) : Type 0 where
  pub one_each : length images ≡ length form.coefs
  pub columns : HaveColumns (columns_of images) images
  pub fits : TooWide (composed_form_magnitudes form images) → ⊥
