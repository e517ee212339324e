use Rattle.std.proofs.Common.{List, ℕ, ◌∷◌, refl, sym, subst, arith, codes}
use Rattle.affc_decide.specs.Blocks.{Limit, Takes, TakesNone}
use Rattle.affc_decide.specs.declared.block.Line.TheVariants as line
use Rattle.affc_decide.proofs.Said.{if_err_then, on_ok_then, limit_none, one_word}
use Rattle.affc_decide.proofs.block.read_limit.Goals as goal

pub returns-in-len1-clause-taken : goal.returns-in-len1-clause-taken
returns-in-len1-clause-taken c = on_ok_then c.set_limit.result (λ taken.
    let words = one_word c.args.more.now (omega (arith, c.in-len1.len_at_least, c.in-len1.len_below)) in
    subst (λ (ws : List (List ℕ)). Takes (codes "limit" ∷ ws) c.args.block.now line.Nothing c.set_limit.new.block) (sym words) (Limit taken.0, (_, refl, taken.1), taken.2)) c.set_limit.ensures.taken

pub returns-in-len1-clause-none : goal.returns-in-len1-clause-none
returns-in-len1-clause-none c = if_err_then c.set_limit.result (λ e none.
    let words = one_word c.args.more.now (omega (arith, c.in-len1.len_at_least, c.in-len1.len_below)) in
    subst (λ (ws : List (List ℕ)). TakesNone (codes "limit" ∷ ws) c.args.block.now) (sym words) (limit_none _ c.args.block.now none)) c.set_limit.ensures.none
