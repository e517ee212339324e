use Rattle.std.proofs.Common.{sym}
use Rattle.std.proofs.lemmas.List.{take_rest}
use Rattle.affc_lex.specs.Lexes.{is_refused}
use Rattle.affc_lex.proofs.Places.{place_further}
use Rattle.affc_lex.proofs.scan.first_refused.Goals as goal

pub loop-at-preserved : goal.loop-at-preserved
loop-at-preserved c = place_further is_refused c.args.text.now c.loop-at.at c.loop-at-test.true c.loop-at.invariant (sym (rw take_rest at c.if-is_refused.ensures))
