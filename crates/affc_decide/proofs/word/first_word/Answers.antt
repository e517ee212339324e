use Rattle.std.proofs.Common.{◌≡◌, ◌-◌, ◌<◌, ℕ, List, length, take, drop, sym, subst, arith}
use Rattle.std.proofs.lemmas.List.{take_rest}
use Rattle.std.proofs.lemmas.Bool.Decides.{nat_tests}
use Rattle.affc_decide.specs.Words.{EndsSpaces}
use Rattle.affc_decide.proofs.Words.{first}
use Rattle.affc_decide.proofs.word.first_word.Goals as goal

pub returns-clause-first : goal.returns-clause-first
returns-clause-first c =
    let text = c.args.text.now in
    let g = c.spaces.result in
    let behind = take (length text - g) (drop g text) in
    let is : behind ≡ drop g text = take_rest text g in
    let begin = subst (λ (l : List ℕ). EndsSpaces l) (sym is) c.spaces.ensures.behind in
    let some : 0 < length behind = grind (arith, nat_tests) in
    first text behind _ _ g c.letters.result c.spaces.ensures.spaces is begin some c.letters.ensures.within c.letters.ensures.letters c.letters.ensures.behind c.split_at.ensures.front c.split_at.ensures.back
