use Rattle.std.proofs.Common.{rules}
use Rattle.affc_eliminate.proofs.examples.by_never.Goals as goal

pub asked-requires-clause-implies : goal.asked-requires-clause-implies
asked-requires-clause-implies c = λ kept other w a. let m = a.says.met in absurd (search rules)
