-- Each text's pieces.
use Rattle.std.proofs.Common.{[], ◌∷◌, ◌++◌, refl, codes}
use Rattle.affc_lex.specs.declared.token.Kind.TheVariants.{Word, Mark}
use Rattle.affc_lex.proofs.Samples.{blank, comment, kept}
use Rattle.affc_lex.proofs.examples.no_tokens.Goals as goal

pub returns-clause-empty : goal.returns-clause-empty
returns-clause-empty c = record { pieces = []; spelled = refl; standing = refl; ended = refl; unrefused = refl; its_tokens = refl }

pub returns-clause-carriage_return : goal.returns-clause-carriage_return
returns-clause-carriage_return c = record { pieces = kept Word (codes "a") ∷ blank 13 ∷ blank 10 ∷ kept Word (codes "b") ∷ []; spelled = refl; standing = refl; ended = refl; unrefused = refl; its_tokens = refl }

pub returns-clause-tab : goal.returns-clause-tab
returns-clause-tab c = record { pieces = kept Word (codes "a") ∷ blank 9 ∷ kept Word (codes "b") ∷ []; spelled = refl; standing = refl; ended = refl; unrefused = refl; its_tokens = refl }

pub returns-clause-any_byte : goal.returns-clause-any_byte
returns-clause-any_byte c = record { pieces = comment (codes "/*" ++ 195 ∷ 169 ∷ codes "*/") ∷ kept Mark (codes ";") ∷ []; spelled = refl; standing = refl; ended = refl; unrefused = refl; its_tokens = refl }

pub returns-clause-stars : goal.returns-clause-stars
returns-clause-stars c = record { pieces = comment (codes "/*/ ***/") ∷ []; spelled = refl; standing = refl; ended = refl; unrefused = refl; its_tokens = refl }

pub returns-clause-to_the_line_feed : goal.returns-clause-to_the_line_feed
returns-clause-to_the_line_feed c = record { pieces = comment (codes "// /* ") ∷ blank 10 ∷ kept Word (codes "x") ∷ []; spelled = refl; standing = refl; ended = refl; unrefused = refl; its_tokens = refl }

pub returns-clause-to_the_end : goal.returns-clause-to_the_end
returns-clause-to_the_end c = record { pieces = comment (codes "//") ∷ []; spelled = refl; standing = refl; ended = refl; unrefused = refl; its_tokens = refl }
