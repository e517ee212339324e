use Rattle.std.proofs.Common.{◌≡◌, take}
use Rattle.std.specs.Prelude.{map}
use Rattle.affc_rows.specs.Vocabulary.{opposite}
use Rattle.affc_moduli.proofs.distances.opposites.Given as goal

abbrev pub invariant-loop-form : goal.invariant-loop-form
invariant-loop-form l = l.made.items ≡ map opposite (take l.form-index l.forms)
