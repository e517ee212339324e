use Rattle.std.specs.Prelude.{option_map}
use Rattle.std.proofs.Common.{rules}
use Rattle.affc_weigh.specs.Costs.{words_cost, sum_cost, powers_cost}
use Rattle.affc_weigh.proofs.Rising.{named_never_fall, answers_never_fall}
use Rattle.affc_words.specs.declared.words.CostName.TheVariants.{Words, Sum, Powers}
use Rattle.affc_cli.proofs.Priced.{by_name}
use Rattle.affc_cli.proofs.fold.fold_named.Goals as goal

pub fold_by-requires-clause-never_falls : goal.fold_by-requires-clause-never_falls
fold_by-requires-clause-never_falls c = answers_never_fall _ words_cost (λ moduli answer e. search rules) named_never_fall.words

pub fold_by-requires-in-Sum-clause-never_falls : goal.fold_by-requires-in-Sum-clause-never_falls
fold_by-requires-in-Sum-clause-never_falls c = answers_never_fall _ sum_cost (λ moduli answer e. search rules) named_never_fall.sums

pub fold_by-requires-in-Powers-clause-never_falls : goal.fold_by-requires-in-Powers-clause-never_falls
fold_by-requires-in-Powers-clause-never_falls c = answers_never_fall _ powers_cost (λ moduli answer e. search rules) named_never_fall.powers

pub returns-in-Words-clause-ok : goal.returns-in-Words-clause-ok
returns-in-Words-clause-ok c = by_name _ c.args.cost Words c.args.program.now (option_map (λ s. s.now) c.args.schedule) c.fold_by.new.units c.args.wanted c.in-Words.is (λ moduli answer e. search rules) c.fold_by.result c.fold_by.ensures.ok

pub returns-in-Sum-clause-ok : goal.returns-in-Sum-clause-ok
returns-in-Sum-clause-ok c = by_name _ c.args.cost Sum c.args.program.now (option_map (λ s. s.now) c.args.schedule) c.fold_by-in-Sum.new.units c.args.wanted c.in-Sum.is (λ moduli answer e. search rules) c.fold_by-in-Sum.result c.fold_by-in-Sum.ensures.ok

pub returns-in-Powers-clause-ok : goal.returns-in-Powers-clause-ok
returns-in-Powers-clause-ok c = by_name _ c.args.cost Powers c.args.program.now (option_map (λ s. s.now) c.args.schedule) c.fold_by-in-Powers.new.units c.args.wanted c.in-Powers.is (λ moduli answer e. search rules) c.fold_by-in-Powers.result c.fold_by-in-Powers.ensures.ok
