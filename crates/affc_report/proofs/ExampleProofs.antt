-- Each example computes.
use Rattle.std.proofs.Common.{refl, ap}
use Rattle.std.specs.Fmt.{digits}
use Rattle.affc_basis.specs.Listed.{Shape}
use Rattle.affc_report.specs.Examples.{FormsAreWritten, NamesAreWritten, TreesAreWritten, LoadsAreWritten, MarksAreWritten, ModuliAreWritten, BasesAreWritten, ChoicesAreWritten, LooseAreWritten, FoldsAreWritten}

pub forms_are_written : FormsAreWritten
unfolding digits
forms_are_written = (refl, refl, refl, refl, refl)

pub names_are_written : NamesAreWritten
unfolding digits
names_are_written = refl

pub trees_are_written : TreesAreWritten
unfolding digits
trees_are_written = (refl, refl, refl)

pub loads_are_written : LoadsAreWritten
unfolding digits
loads_are_written = refl

pub marks_are_written : MarksAreWritten
unfolding digits
marks_are_written = (refl, refl, refl, refl, refl, refl, refl)

pub moduli_are_written : ModuliAreWritten
unfolding digits
moduli_are_written = refl

pub bases_are_written : BasesAreWritten
unfolding digits
bases_are_written = (refl, refl, refl)

pub choices_are_written : ChoicesAreWritten
unfolding digits
choices_are_written = (refl, refl, refl)

pub loose_are_written : LooseAreWritten
unfolding digits
loose_are_written asked made next row rows = refl

pub folds_are_written : FoldsAreWritten
unfolding digits
folds_are_written skewed empty rows shape moduli none rest =
    rw (ap (λ (s : Shape). s.rows) shape, moduli, ap (λ (s : Shape). s.rows) none, rest) refl
