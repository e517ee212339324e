use Rattle.std.proofs.Common.{sym, subst}
use Rattle.std.specs.Prelude.{FitsSigned}
use Rattle.std.specs.Int.{w64}
use Rattle.std.proofs.lemmas.Int.{to_z-of_z}
use Rattle.affc_nest.specs.Wide.{IsWide}
use Rattle.affc_dataflow.proofs.GuessLemmas.{divided_is, narrow_wide}
use Rattle.affc_dataflow.proofs.divided.path_behind.Goals as goal

pub add_division-requires-clause-form : goal.add_division-requires-clause-form
add_division-requires-clause-form c = subst (λ n. IsWide n c.args.form.now) (sym c.columns-columns.ensures.value) (narrow_wide c.args.path.now.columns c.args.form.now c.requires.wide c.requires.fits)

pub returns : goal.returns
returns c =
    let fit : FitsSigned w64 c.args.by = c.ranges.by in
    divided_is c.args.path.now c.args.form.now c.args.by c.columns-columns.result c.rows.result.now c.new-made.result c.add_division.new.out c.as_slice.result.now c.new-system.result c.push_spread.new.system c.push_rows.new.system
    c.columns-columns.ensures.value c.new-system.ensures c.rows.ensures.rows c.in_ok-push_spread.ensures c.new-made.ensures (simp to_z-of_z at c.in_ok-add_division.ensures) c.as_slice.ensures c.in_ok-push_rows.ensures.rows
