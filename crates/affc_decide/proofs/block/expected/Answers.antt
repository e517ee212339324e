use Rattle.std.proofs.Common.{List, ℕ, [], ◌∷◌, refl, sym, ap, codes, ◌∙◌}
use Rattle.affc_decide.specs.Words.{texts_of}
use Rattle.affc_decide.specs.Blocks.{ExpectEmpty, ExpectStopped, ExpectAny, ExpectPoint}
use Rattle.affc_decide.proofs.Said.{alone, first_word, one_word, rest_of}
use Rattle.affc_decide.proofs.block.expected.Goals as goal

pub returns-then-is_word-clause-taken : goal.returns-then-is_word-clause-taken
returns-then-is_word-clause-taken c before =
    let rest = texts_of (rest_of c.args.more.now) in
    let words = first_word c.args.more.now c.in-len1-up.len_at_least ∙ ap (λ (w : List ℕ). w ∷ rest) (c.is_word.ensures.0 c.if-is_word.true) in (
      ExpectPoint c.in_ok-numbers.field-0.items,
      (rest, ap (λ (ws : List (List ℕ)). codes "expect" ∷ ws) words, c.in_ok-numbers.ensures.said),
      (c.in_ok-numbers.field-0, refl, refl, refl),
    )

pub returns-then-is_word-2-clause-taken : goal.returns-then-is_word-2-clause-taken
returns-then-is_word-2-clause-taken c before =
    let none = sym c.if-not-is_empty.false ∙ c.is_empty.ensures in
    let words = one_word c.args.more.now (alone c.args.more.now c.in-len1-up.len_at_least none) ∙ ap (λ (w : List ℕ). w ∷ []) (c.is_word-2.ensures.0 c.if-is_word-2.true) in
    (ExpectEmpty, ap (λ (ws : List (List ℕ)). codes "expect" ∷ ws) words, (refl, refl))

pub returns-then-is_word-3-clause-taken : goal.returns-then-is_word-3-clause-taken
returns-then-is_word-3-clause-taken c before =
    let none = sym c.if-not-is_empty.false ∙ c.is_empty.ensures in
    let words = one_word c.args.more.now (alone c.args.more.now c.in-len1-up.len_at_least none) ∙ ap (λ (w : List ℕ). w ∷ []) (c.is_word-3.ensures.0 c.if-is_word-3.true) in
    (ExpectStopped, ap (λ (ws : List (List ℕ)). codes "expect" ∷ ws) words, (refl, refl))

pub returns-then-is_word-4-clause-taken : goal.returns-then-is_word-4-clause-taken
returns-then-is_word-4-clause-taken c before =
    let none = sym c.if-not-is_empty.false ∙ c.is_empty.ensures in
    let words = one_word c.args.more.now (alone c.args.more.now c.in-len1-up.len_at_least none) ∙ ap (λ (w : List ℕ). w ∷ []) (c.is_word-4.ensures.0 c.if-is_word-4.true) in
    (ExpectAny, ap (λ (ws : List (List ℕ)). codes "expect" ∷ ws) words, (refl, refl))
