use Rattle.std.proofs.Common.{rules, List, ℕ, Bor, subst}
use Rattle.affc_decide.specs.Blocks.{TakesNone}
use Rattle.affc_decide.specs.Words.{AreWords, texts_of}
use Rattle.affc_decide.proofs.Said.{if_err_then}
use Rattle.affc_decide.proofs.block.read_line.Goals as goal

pub returns-clause-none : goal.returns-clause-none
returns-clause-none c =
    let found = c.find_words.new.words.items in
    let words : AreWords c.args.line.now (texts_of found) = search rules in
    if_err_then c.read_words.result (λ e none is. (texts_of found, words, subst (λ (ws : List (Bor (List ℕ))). TakesNone (texts_of ws) c.args.block.now) c.as_slice.ensures.value (none is))) c.read_words.ensures.none
