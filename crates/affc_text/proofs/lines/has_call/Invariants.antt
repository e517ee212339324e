use Rattle.std.proofs.Common.{◌≡◌, take, drop, map}
use Rattle.affc_syntax.specs.draft.Symbols.{seen}
use Rattle.affc_grammar.specs.Grammar.{has_call}
use Rattle.affc_text.specs.TextReading.{taken}
use Rattle.affc_text.proofs.lines.has_call.Given as goal

abbrev pub invariant-loop-left : goal.invariant-loop-left
invariant-loop-left l =
    has_call (take l.left (drop l.at (map seen l.symbols)))
    ≡ has_call (taken (drop l.fn.from (map seen l.symbols)) (drop l.fn.to (map seen l.symbols)))

abbrev pub decreases-loop-left : goal.decreases-loop-left
decreases-loop-left l = l.left
