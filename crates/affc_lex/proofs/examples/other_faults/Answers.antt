-- Each text's pieces.
use Rattle.std.proofs.Common.{[], ◌∷◌, refl, codes, lit≤}
use Rattle.affc_lex.specs.declared.token.Kind.TheVariants.{Word}
use Rattle.affc_lex.proofs.Samples.{kept}
use Rattle.affc_lex.proofs.examples.other_faults.Goals as goal

pub returns-clause-comment : goal.returns-clause-comment
returns-clause-comment c = record { front = record { pieces = kept Word (codes "x") ∷ []; rest = codes "/* x"; spelled = refl; standing = refl }; inside = codes " x"; opens = refl; open_end = refl; is_at = refl }

pub returns-clause-slash_is_no_end : goal.returns-clause-slash_is_no_end
returns-clause-slash_is_no_end c = record { front = record { pieces = []; rest = codes "/*/"; spelled = refl; standing = refl }; inside = codes "/"; opens = refl; open_end = refl; is_at = refl }

pub returns-clause-number : goal.returns-clause-number
returns-clause-number c = record { front = record { pieces = []; rest = codes "18446744073709551616ULL"; spelled = refl; standing = refl }; digits = codes "18446744073709551616"; after = codes "ULL"; begins_so = refl; number = refl; long = lit≤ tt; is_at = refl }
