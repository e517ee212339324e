-- Each text's pieces.
use Rattle.std.proofs.Common.{[], ◌∷◌, refl, codes}
use Rattle.affc_lex.specs.declared.token.Kind.TheVariants.{Word, Hash, LineEnd, Prelude}
use Rattle.affc_lex.specs.Pieces.{prelude}
use Rattle.affc_lex.proofs.Samples.{blank, kept}
use Rattle.affc_lex.proofs.examples.the_prelude.Goals as goal

pub returns-clause-whole : goal.returns-clause-whole
returns-clause-whole c = record { pieces = kept Prelude prelude ∷ []; spelled = refl; standing = refl; ended = refl; unrefused = refl; its_tokens = refl }

pub returns-clause-in_a_line : goal.returns-clause-in_a_line
returns-clause-in_a_line c = record { pieces = kept Word (codes "x") ∷ blank 32 ∷ kept Prelude prelude ∷ []; spelled = refl; standing = refl; ended = refl; unrefused = refl; its_tokens = refl }

pub returns-clause-then_a_hash : goal.returns-clause-then_a_hash
returns-clause-then_a_hash c = record { pieces = kept Prelude prelude ∷ kept Hash (codes "#") ∷ kept LineEnd [] ∷ []; spelled = refl; standing = refl; ended = refl; unrefused = refl; its_tokens = refl }

pub returns-clause-in_a_line_with_hash : goal.returns-clause-in_a_line_with_hash
returns-clause-in_a_line_with_hash c = record { pieces = kept Hash (codes "#") ∷ kept Prelude prelude ∷ kept Hash (codes "#") ∷ kept LineEnd [] ∷ []; spelled = refl; standing = refl; ended = refl; unrefused = refl; its_tokens = refl }

pub returns-clause-changed : goal.returns-clause-changed
returns-clause-changed c = record { pieces = kept Word (codes "static") ∷ blank 32 ∷ kept Word (codes "inline") ∷ []; spelled = refl; standing = refl; ended = refl; unrefused = refl; its_tokens = refl }
