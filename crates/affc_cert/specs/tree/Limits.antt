-- Trees whose numbers fit 64 bits.
use Rattle.affc_certvalue.specs.Limits.{FitsForm}
use Rattle.affc_quast.specs.declared.quast.Quast.{Quast, Test', Div', Source, Input}
use Rattle.std.specs.List.{All}

abbrev pub FitsTree : Quast → Type 0
FitsTree (Test' form p met q missed) = FitsForm form × FitsTree met × FitsTree missed
FitsTree (Div' form by p rest) = FitsForm form × FitsTree rest
FitsTree (Source statement forms) = All FitsForm forms
FitsTree Input = Unit {0}
