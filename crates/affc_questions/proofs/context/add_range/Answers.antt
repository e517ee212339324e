use Rattle.std.proofs.Common.{sym, subst, w64}
use Rattle.std.proofs.lemmas.Int.{to_z-of_z}
use Rattle.std.proofs.lemmas.Result.{on_ok_weaker}
use Rattle.affc_nest.specs.Wide.{IsWide}
use Rattle.affc_questions.proofs.SizeLemmas.{column_wide, range_made}
use Rattle.affc_questions.proofs.context.add_range.Goals as goal

pub add_at_least-requires : goal.add_at_least-requires
add_at_least-requires c = subst (IsWide c.args.columns) (sym c.in_ok-at.ensures.value) (column_wide c.args.columns c.args.j)

pub add_at_most-requires : goal.add_at_most-requires
add_at_most-requires c = subst (IsWide c.args.columns) (sym c.in_ok-at.ensures.value) (column_wide c.args.columns c.args.j)

pub returns : goal.returns
returns c =
    on_ok_weaker c.add_at_most.result
    (λ e. range_made c.args.columns c.args.j c.args.low c.args.high _ _ c.in_ok-at.at c.args.out.now c.add_at_least.new.out c.add_at_most.new.out c.in_ok-at.ensures.value (to_z-of_z w64 c.args.low c.ranges.low) (to_z-of_z w64 c.args.high c.ranges.high)
    c.in_ok-add_at_least.ensures e) c.add_at_most.ensures
