use Rattle.std.proofs.Common.{rules, ◌≡◌, ◌∙◌, ap, ◌+◌, ◌++◌, ◌∷◌, [], ◌<◌, ℕ, ℤ, List, length, suc, take, sym, subst, arith, FitsSigned}
use Rattle.std.proofs.lemmas.Int.{to_z-of_z}
use Rattle.std.specs.Int.{w128}
use Rattle.affc_decide.specs.Words.{texts_of}
use Rattle.affc_decide.specs.Blocks.{Say}
use Rattle.affc_decide.proofs.Said.{all_said, if_err, no_row, nothing, say_more, say_none}
use Rattle.affc_decide.proofs.block.row_of.Goals as goal

pub returns-in_err-n-clause-none : goal.returns-in_err-n-clause-none
returns-in_err-n-clause-none c = if_err c.from_residual.result (λ e is f. say_none c.args.words.now c.loop-word.word-index _ c.loop-word-test.true c.in_err-n.ensures.none (f.coefs ++ f.constant ∷ []))

pub loop-word-preserved : goal.loop-word-preserved
loop-word-preserved c =
    let more = say_more c.args.words.now c.loop-word.word-index _ c.loop-word.entries.items c.in_ok-n.n c.loop-word-test.true c.loop-word.invariant c.in_ok-n.ensures.said in
    let next : suc c.loop-word.word-index ≡ c.loop-word.word-index + 1 = omega arith in
    let fits : FitsSigned w128 c.from.result = search rules in
    let said = c.in_ok-n.ensures.said.1 in
    let value : c.from.result ≡ c.in_ok-n.n = grind (arith, to_z-of_z, c.from.ensures) in
    let pushed : c.push.new.self.items ≡ c.loop-word.entries.items ++ c.in_ok-n.n ∷ [] = c.in-Ok.ensures.ok ∙ ap (λ (z : ℤ). c.loop-word.entries.items ++ z ∷ []) (to_z-of_z w128 c.from.result fits ∙ value) in
    subst (λ (k : ℕ). Say (texts_of (take k c.args.words.now)) c.push.new.self.items) next
    (subst (λ (xs : List ℤ). Say (texts_of (take (suc c.loop-word.word-index) c.args.words.now)) xs) (sym pushed) more)

pub returns-in-Some-clause-said : goal.returns-in-Some-clause-said
returns-in-Some-clause-said c =
    let end : length c.args.words.now ≡ c.loop-word.word-index = omega (arith, c.loop-word-test.false, c.loop-word.auto.word-index-end) in
    let all = all_said c.args.words.now c.loop-word.word-index c.loop-word.entries.items end c.loop-word.invariant in
    let fits : FitsSigned w128 c.in-Some.constant = search rules in
    let items = c.in-Some.ensures.items ∙ ap (λ (z : ℤ). c.pop.new.self.items ++ z ∷ []) (sym (to_z-of_z w128 c.in-Some.constant fits)) in
    subst (λ (ns : List ℤ). Say (texts_of c.args.words.now) ns) items all

pub returns-in-None-clause-none : goal.returns-in-None-clause-none
returns-in-None-clause-none c is f say =
    let end : length c.args.words.now ≡ c.loop-word.word-index = omega (arith, c.loop-word-test.false, c.loop-word.auto.word-index-end) in
    let all = all_said c.args.words.now c.loop-word.word-index c.loop-word.entries.items end c.loop-word.invariant in
    let none : 0 < length c.loop-word.entries.items → ⊥ = λ some. let no = c.in-None.ensures.variant.1 some in cc in
    no_row (texts_of c.args.words.now) f (subst (λ (ns : List ℤ). Say (texts_of c.args.words.now) ns) (nothing c.loop-word.entries.items none) all) say
