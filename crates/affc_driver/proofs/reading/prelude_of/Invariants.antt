-- What is left holds it.
use Rattle.std.specs.Prelude.{IsTrue, drop}
use Rattle.affc_driver.specs.Printed.{holds_prelude}
use Rattle.affc_driver.proofs.reading.prelude_of.Given as goal

abbrev pub invariant-loop-token : goal.invariant-loop-token
invariant-loop-token l = IsTrue (holds_prelude (drop l.token-index l.tokens))
