-- What a name calls.
use Rattle.std.specs.Prelude.{Bool, true, false, Option, None}
use Rattle.affc_grammar.specs.Grammar.{Name}
use Rattle.affc_grammar.specs.Reading.{of_choice, of_rounding, callees, choose}
use Rattle.affc_grammar.specs.Reading as g
use Rattle.affc_syntax.specs.declared.ahead.Callee.{Callee}
use Rattle.affc_syntax.specs.declared.ahead.Callee.TheVariants.{OfChoice, OfRounding}
use Rattle.affc_syntax.specs.draft.Drafts.{choice, rounding}

abbrev pub callee_seen : Callee → g.Callee
callee_seen (OfChoice f) = of_choice (choice f)
callee_seen (OfRounding f) = of_rounding (rounding f)

abbrev pub callee : (prelude : Bool) → Name → Option g.Callee
callee true w = choose callees w
callee false w = None
