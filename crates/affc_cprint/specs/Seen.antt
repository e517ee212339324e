-- What a contract sees of the code's values.
use Rattle.std.specs.Prelude.{map}
use Rattle.affc_cprint.specs.declared.index.Names.{Names}
use Rattle.affc_grammar.specs.Printed as printed

abbrev pub seen : Names → printed.Names
seen names = record { numbers = map (λ w. w.now) names.numbers.items; arrays = map (λ w. w.now) names.arrays.items }
