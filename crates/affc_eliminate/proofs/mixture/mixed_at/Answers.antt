use Rattle.std.proofs.Common.{◌∙◌, sym, rules}
use Rattle.std.specs.Prelude.{FitsSigned}
use Rattle.std.specs.Int.{w128}
use Rattle.affc_farkas.specs.Multiples.{entry_of}
use Rattle.affc_eliminate.proofs.Quotients.{through}
use Rattle.affc_eliminate.proofs.mixture.mixed_at.Goals as goal

pub quotient-requires-clause-divides : goal.quotient-requires-clause-divides
quotient-requires-clause-divides c =
    let a : FitsSigned w128 c.entry-a.result = search rules in
    let b : FitsSigned w128 c.entry-b.result = search rules in
    let q = c.requires.divides in
    (q.0, q.1 ∙ sym (through c.args.s c.entry-a.result c.args.t c.entry-b.result (entry_of c.args.first.now c.args.column) (entry_of c.args.second.now c.args.column) a b c.entry-a.ensures c.entry-b.ensures))
