-- Expressions within the limits.
use Rattle.std.specs.Prelude.{Bool, List}
use Rattle.std.specs.List.{list_all}
use Rattle.affc_schedtext.specs.declared.terms.Term.{Term}
use Rattle.affc_schedtext.specs.Terms.{term}
use Rattle.affc_schedtext.specs.Rules.{Columns, slight_parts}

abbrev pub are_slight_parts : Columns → List Term → Bool
are_slight_parts c es = list_all (λ e. slight_parts c (term e)) es
