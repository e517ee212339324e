use Rattle.std.proofs.Common.{sym, subst, ◌∙◌}
use Rattle.std.specs.List.{All}
use Rattle.affc_nest.proofs.QuestionProofs.{few_numbered}
use Rattle.affc_nest.specs.Wide.{IsWide}
use Rattle.affc_nest.proofs.WideLemmas.{rows_wide}
use Rattle.affc_order.specs.Placed.{IsPlaced}
use Rattle.affc_questions.specs.Listed.{own_columns}
use Rattle.affc_questions.proofs.LeafLemmas.{own_forms}
use Rattle.affc_questions.proofs.named.late_lists.Goals as goal

pub own_columns-requires-clause-few : goal.own_columns-requires-clause-few
own_columns-requires-clause-few c = few_numbered c.args.nest.now c.args.reader.now c.requires.nested c.requires.reads.there

pub source_order-requires-clause-first : goal.source_order-requires-clause-first
source_order-requires-clause-first c =
    subst (λ fs. IsPlaced c.args.nest.now c.args.columns (record { part = c.args.reader.now.part; iterators = fs })) (sym (c.as_slice.ensures.value ∙ c.in_ok-own.ensures)) (own_forms c.args.nest.now c.requires.nested c.args.reader.now c.requires.reads c.args.columns)

pub source_order-requires-clause-second : goal.source_order-requires-clause-second
source_order-requires-clause-second c = subst (λ fs. IsPlaced c.args.nest.now c.args.columns (record { part = c.args.named.now.part; iterators = fs })) (sym c.as_slice-2.ensures) c.requires.named

pub statement-second-requires : goal.statement-second-requires
statement-second-requires c = c.requires.named.part

pub add_same-requires-clause-firsts : goal.add_same-requires-clause-firsts
add_same-requires-clause-firsts c =
    subst (All (IsWide c.args.columns)) (sym (c.as_slice.ensures.value ∙ c.in_ok-own.ensures))
    (rows_wide c.args.columns (own_columns c.args.nest.now c.args.reader.now c.args.columns) (own_forms c.args.nest.now c.requires.nested c.args.reader.now c.requires.reads c.args.columns).rows)

pub add_same-requires-clause-seconds : goal.add_same-requires-clause-seconds
add_same-requires-clause-seconds c = subst (All (IsWide c.args.columns)) (sym c.as_slice-2.ensures) (rows_wide c.args.columns c.args.named.now.forms c.requires.named.rows)
