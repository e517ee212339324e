use Rattle.std.proofs.Common.{◌≡◌, ◌∙◌, sym, false}
use Rattle.std.specs.Char.{is_ascii_whitespace}
use Rattle.affc_decide.proofs.Words.{one_more}
use Rattle.affc_decide.proofs.word.letters.Goals as goal

pub loop-at-preserved : goal.loop-at-preserved
loop-at-preserved c =
    one_more (λ b. is_ascii_whitespace b ≡ false) c.args.text.now c.loop-at.at c.loop-at-test.true c.loop-at.invariant (sym c.is_ascii_whitespace.ensures.value ∙ c.if-is_ascii_whitespace.false)
