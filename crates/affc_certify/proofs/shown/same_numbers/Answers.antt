use Rattle.std.proofs.lemmas.Bool.Decides.{Decides-int_eq}
use Rattle.std.proofs.lemmas.Slice.Eq.{slice_eq-Decides}
use Rattle.affc_certify.proofs.shown.same_numbers.Goals as goal

-- src/shown.rt:19:1
pub returns : goal.returns
returns c = λ t. (slice_eq-Decides Decides-int_eq c.args.numbers.now c.args.others.now c.eq.result c.eq.ensures).0 t
