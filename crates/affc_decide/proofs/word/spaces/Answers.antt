use Rattle.std.proofs.Common.{◌≡◌, ◌∙◌, sym, true}
use Rattle.std.specs.Char.{is_ascii_whitespace}
use Rattle.affc_decide.proofs.Words.{one_more}
use Rattle.affc_decide.proofs.word.spaces.Goals as goal

pub loop-at-preserved : goal.loop-at-preserved
loop-at-preserved c =
    one_more (λ b. is_ascii_whitespace b ≡ true) c.args.text.now c.loop-at.at c.loop-at-test.true c.loop-at.invariant (sym c.is_ascii_whitespace.ensures.value ∙ c.if-not-is_ascii_whitespace.false)
