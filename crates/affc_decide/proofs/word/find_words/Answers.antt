use Rattle.std.proofs.Common.{refl}
use Rattle.affc_decide.specs.Words.{AllSpaces, texts_of}
use Rattle.affc_decide.proofs.Words.{all_found}
use Rattle.affc_decide.proofs.word.find_words.Goals as goal

pub returns-clause-words : goal.returns-clause-words
returns-clause-words c =
    let spaces : AllSpaces c.loop-word.rest.now = c.in_default.ensures.none refl in
    all_found c.args.line.now c.loop-word.rest.now (texts_of c.loop-word.words.items) c.loop-word.invariant spaces
