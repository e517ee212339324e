use Rattle.std.proofs.Common.{List, ℕ, [], ◌∷◌, Some, refl, sym, ap, ap₂, subst, arith, codes, ◌∙◌}
use Rattle.std.proofs.lemmas.Result.{err_from_is_err_and}
use Rattle.affc_decide.specs.Blocks.{System, TakesNone}
use Rattle.affc_decide.proofs.Said.{five_words, system_none, word_at}
use Rattle.affc_decide.proofs.block.read_system.Goals as goal

pub returns-in_err-begin-clause-none : goal.returns-in_err-begin-clause-none
returns-in_err-begin-clause-none c =
    let p = err_from_is_err_and c.from_residual.result c.from_residual.ensures.1 in
    let w : ℕ → List ℕ = word_at c.args.more.now in
    let words = five_words c.args.more.now (omega (arith, c.in-len5.len_at_least, c.in-len5.len_below)) in
    let named = words ∙ ap₂ (λ (a b : List ℕ). w 0 ∷ a ∷ w 2 ∷ b ∷ w 4 ∷ []) (c.is_word.ensures.0 c.if-not-is_word.false) (c.is_word-2.ensures.0 c.if-not-is_word-2.false) in
    rw (p.1, p.2) (λ is. subst (λ (ws : List (List ℕ)). TakesNone (codes "system" ∷ ws) c.args.block.now) (sym named) (system_none (w 0) (w 2) (w 4) c.args.block.now c.in_err-begin.ensures.none))

pub returns-clause-taken : goal.returns-clause-taken
returns-clause-taken c =
    let w : ℕ → List ℕ = word_at c.args.more.now in
    let words = five_words c.args.more.now (omega (arith, c.in-len5.len_at_least, c.in-len5.len_below)) in
    let named = words ∙ ap₂ (λ (a b : List ℕ). w 0 ∷ a ∷ w 2 ∷ b ∷ w 4 ∷ []) (c.is_word.ensures.0 c.if-not-is_word.false) (c.is_word-2.ensures.0 c.if-not-is_word-2.false) in
    let b = c.in_ok-begin.field-0 in (
      System b.columns b.rows,
      (w 0, w 2, w 4, ap (λ (ws : List (List ℕ)). codes "system" ∷ ws) named, c.in_ok-begin.ensures.said.0, c.in_ok-begin.ensures.said.1),
      (refl, c.in_ok-begin.ensures.small.0, c.in_ok-begin.ensures.small.1, ap Some c.in_ok-begin.ensures.fresh),
    )
