use Rattle.std.proofs.Common.{◌≤◌, sym, subst, inl, inr, rules}
use Rattle.std.specs.Prelude.{FitsSigned}
use Rattle.std.specs.Int.{w128}
use Rattle.affc_farkas.specs.Multiples.{entry_of}
use Rattle.affc_eliminate.proofs.Mixtures.{column_in_first, column_in_second, first_named, second_named, some_multiplier, same_width, abs_up, abs_down, factors_of, magnitude_of, divisor_divides, is_mixture}
use Rattle.affc_eliminate.proofs.mixture.mixture.Goals as goal

pub entry-requires : goal.entry-requires
entry-requires c = column_in_first c.args.column c.args.first.now c.args.second.now c.requires.base

pub entry-requires-2 : goal.entry-requires-2
entry-requires-2 c = column_in_second c.args.column c.args.first.now c.args.second.now c.requires.base

pub least_factors-factors-requires-clause-first : goal.least_factors-factors-requires-clause-first
least_factors-factors-requires-clause-first c =
    let x = entry_of c.args.first.now.row c.args.column in
    let fits : FitsSigned w128 c.entry.result = search rules in
    subst (λ n. 1 ≤ n) (sym (magnitude_of c.unsigned_abs-a.result c.entry.result x fits c.unsigned_abs-a.ensures.value c.entry.ensures)) (abs_up x c.requires.positive)

pub least_factors-factors-requires-clause-second : goal.least_factors-factors-requires-clause-second
least_factors-factors-requires-clause-second c =
    let y = entry_of c.args.second.now.row c.args.column in
    let fits : FitsSigned w128 c.entry-2.result = search rules in
    subst (λ n. 1 ≤ n) (sym (magnitude_of c.unsigned_abs-b.result c.entry-2.result y fits c.unsigned_abs-b.ensures.value c.entry-2.ensures)) (abs_down y c.requires.negative)

pub least_multipliers-requires-clause-first : goal.least_multipliers-requires-clause-first
least_multipliers-requires-clause-first c = first_named c.args.column c.args.first.now c.args.second.now c.requires.base

pub least_multipliers-requires-clause-second : goal.least_multipliers-requires-clause-second
least_multipliers-requires-clause-second c = second_named c.args.column c.args.first.now c.args.second.now c.requires.base

pub least_multipliers-requires-clause-some : goal.least_multipliers-requires-clause-some
least_multipliers-requires-clause-some c = some_multiplier c.args.column c.args.first.now c.args.second.now c.requires.base c.requires.positive

pub returns-in-Err-clause-wide : goal.returns-in-Err-clause-wide
returns-in-Err-clause-wide c = λ e.
    let x = entry_of c.args.first.now.row c.args.column in
    let y = entry_of c.args.second.now.row c.args.column in
    let f : FitsSigned w128 c.entry.result = search rules in
    let g : FitsSigned w128 c.entry-2.result = search rules in
    let s = c.least_factors-factors.result.s in
    let t = c.least_factors-factors.result.t in
    record {
      s = s;
      t = t;
      factors = factors_of c.unsigned_abs-a.result c.unsigned_abs-b.result s t x y (magnitude_of c.unsigned_abs-a.result c.entry.result x f c.unsigned_abs-a.ensures.value c.entry.ensures)
          (magnitude_of c.unsigned_abs-b.result c.entry-2.result y g c.unsigned_abs-b.ensures.value c.entry-2.ensures) c.least_factors-factors.ensures.factors;
      passes = inl (c.in-Err.ensures.wide e);
    }

pub mixed_row-requires-clause-widths : goal.mixed_row-requires-clause-widths
mixed_row-requires-clause-widths c = same_width c.args.column c.args.first.now c.args.second.now c.requires.base

pub mixed_row-requires-clause-divides : goal.mixed_row-requires-clause-divides
mixed_row-requires-clause-divides c =
    divisor_divides c.args.column c.args.first.now c.args.second.now c.least_factors-factors.result.s c.least_factors-factors.result.t c.in-Ok.least c.requires.base c.in-Ok.ensures.ok

pub returns-in-Err-mixed_row-clause-wide : goal.returns-in-Err-mixed_row-clause-wide
returns-in-Err-mixed_row-clause-wide c = λ e.
    let x = entry_of c.args.first.now.row c.args.column in
    let y = entry_of c.args.second.now.row c.args.column in
    let f : FitsSigned w128 c.entry.result = search rules in
    let g : FitsSigned w128 c.entry-2.result = search rules in
    let s = c.least_factors-factors.result.s in
    let t = c.least_factors-factors.result.t in
    record {
      s = s;
      t = t;
      factors = factors_of c.unsigned_abs-a.result c.unsigned_abs-b.result s t x y (magnitude_of c.unsigned_abs-a.result c.entry.result x f c.unsigned_abs-a.ensures.value c.entry.ensures)
          (magnitude_of c.unsigned_abs-b.result c.entry-2.result y g c.unsigned_abs-b.ensures.value c.entry-2.ensures) c.least_factors-factors.ensures.factors;
      passes = inr (c.in-Err-mixed_row.ensures.wide e);
    }

pub returns-clause-ok : goal.returns-clause-ok
returns-clause-ok c =
    let x = entry_of c.args.first.now.row c.args.column in
    let y = entry_of c.args.second.now.row c.args.column in
    let f : FitsSigned w128 c.entry.result = search rules in
    let g : FitsSigned w128 c.entry-2.result = search rules in
    let s = c.least_factors-factors.result.s in
    let t = c.least_factors-factors.result.t in
    is_mixture c.args.column c.args.first.now c.args.second.now s t c.in-Ok.least c.in-Ok-mixed_row.row c.args.number c.requires.positive c.requires.negative
    (factors_of c.unsigned_abs-a.result c.unsigned_abs-b.result s t x y (magnitude_of c.unsigned_abs-a.result c.entry.result x f c.unsigned_abs-a.ensures.value c.entry.ensures)
    (magnitude_of c.unsigned_abs-b.result c.entry-2.result y g c.unsigned_abs-b.ensures.value c.entry-2.ensures) c.least_factors-factors.ensures.factors)
    c.in-Ok.ensures.ok c.in-Ok-mixed_row.ensures.ok
