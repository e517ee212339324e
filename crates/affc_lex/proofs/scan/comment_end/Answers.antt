use Rattle.std.proofs.Common.{sym, codes}
use Rattle.std.proofs.lemmas.List.{take_rest}
use Rattle.affc_lex.specs.Bytes.{begins}
use Rattle.affc_lex.proofs.Places.{place_further}
use Rattle.affc_lex.proofs.scan.comment_end.Goals as goal

pub loop-at-preserved : goal.loop-at-preserved
loop-at-preserved c = place_further (begins (codes "*/")) c.args.inside.now c.loop-at.at c.loop-at-test.true c.loop-at.invariant (sym (rw take_rest at c.if-ends_comment.ensures))
