use Rattle.std.proofs.Common.{◌≡◌, ◌∙◌, ap, w64, ◌+◌, ◌++◌, ◌∷◌, [], ℕ, ℤ, List, suc, take, sym, subst, arith}
use Rattle.std.proofs.lemmas.Int.{to_z-of_z}
use Rattle.affc_decide.specs.Words.{texts_of}
use Rattle.affc_decide.specs.Blocks.{Say}
use Rattle.affc_decide.proofs.Said.{if_err, say_more, say_none}
use Rattle.affc_decide.proofs.block.numbers.Goals as goal

pub returns-in_err-n-clause-none : goal.returns-in_err-n-clause-none
returns-in_err-n-clause-none c = if_err c.from_residual-in_err-n.result (λ e is. say_none c.args.words.now c.loop-word.word-index _ c.loop-word-test.true c.in_err-n.ensures.none)

pub loop-word-preserved : goal.loop-word-preserved
loop-word-preserved c =
    let more = say_more c.args.words.now c.loop-word.word-index _ c.loop-word.found.items c.in_ok-n.n c.loop-word-test.true c.loop-word.invariant c.in_ok-n.ensures.said in
    let next : suc c.loop-word.word-index ≡ c.loop-word.word-index + 1 = omega arith in
    subst (λ (k : ℕ). Say (texts_of (take k c.args.words.now)) c.push.new.self.items) next
    (subst (λ (xs : List ℤ). Say (texts_of (take (suc c.loop-word.word-index) c.args.words.now)) xs) (sym (c.in-Ok.ensures.items ∙ ap (λ (z : ℤ). c.loop-word.found.items ++ z ∷ []) (to_z-of_z w64 c.in_ok-n.n c.in_ok-n.ensures.said.1))) more)
