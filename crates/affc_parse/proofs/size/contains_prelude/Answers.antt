use Rattle.std.proofs.Common.{sym, ap, ◌∙◌}
use Rattle.affc_lex.specs.Bytes.{begins}
use Rattle.affc_lex.specs.Pieces.{prelude}
use Rattle.affc_parse.proofs.Contained.{contained_on, rest_is}
use Rattle.affc_parse.proofs.size.contains_prelude.Goals as goal

pub loop-at-preserved : goal.loop-at-preserved
loop-at-preserved c =
    contained_on prelude c.args.text.now c.loop-at.at c.loop-at-test.true c.loop-at.invariant
    (ap (begins prelude) (sym (rest_is c.args.text.now c.loop-at.at)) ∙ sym c.begins_prelude.ensures ∙ c.if-begins_prelude.false)
