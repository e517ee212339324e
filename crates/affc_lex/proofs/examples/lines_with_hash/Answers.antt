-- Each text's pieces.
use Rattle.std.proofs.Common.{[], ◌∷◌, refl, codes}
use Rattle.affc_lex.specs.declared.token.Kind.TheVariants.{Word, Number, Header, Hash, LineEnd, Mark}
use Rattle.affc_lex.proofs.Samples.{blank, comment, kept}
use Rattle.affc_lex.proofs.examples.lines_with_hash.Goals as goal

pub returns-clause-include : goal.returns-clause-include
returns-clause-include c = record { pieces = kept Hash (codes "#") ∷ kept Word (codes "include") ∷ blank 32 ∷ kept Header (codes "<stdint.h>") ∷ kept LineEnd (codes "\n") ∷ []; spelled = refl; standing = refl; ended = refl; unrefused = refl; its_tokens = refl }

pub returns-clause-no_header : goal.returns-clause-no_header
returns-clause-no_header c = record { pieces = kept Hash (codes "#") ∷ kept Word (codes "include") ∷ blank 32 ∷ kept Mark (codes "<") ∷ kept Word (codes "a") ∷ kept LineEnd [] ∷ []; spelled = refl; standing = refl; ended = refl; unrefused = refl; its_tokens = refl }

pub returns-clause-no_header_past_the_line : goal.returns-clause-no_header_past_the_line
returns-clause-no_header_past_the_line c = record { pieces = kept Hash (codes "#") ∷ kept Word (codes "include") ∷ blank 32 ∷ kept Mark (codes "<") ∷ kept Word (codes "a") ∷ kept LineEnd (codes "\n") ∷ kept Mark (codes ">") ∷ []; spelled = refl; standing = refl; ended = refl; unrefused = refl; its_tokens = refl }

pub returns-clause-no_header_elsewhere : goal.returns-clause-no_header_elsewhere
returns-clause-no_header_elsewhere c = record { pieces = kept Hash (codes "#") ∷ blank 32 ∷ kept Mark (codes "<") ∷ kept Word (codes "a") ∷ kept Mark (codes ">") ∷ kept LineEnd (codes "\n") ∷ []; spelled = refl; standing = refl; ended = refl; unrefused = refl; its_tokens = refl }

pub returns-clause-after_a_comment : goal.returns-clause-after_a_comment
returns-clause-after_a_comment c = record { pieces = comment (codes "/* \n */") ∷ kept Hash (codes "#") ∷ kept LineEnd [] ∷ []; spelled = refl; standing = refl; ended = refl; unrefused = refl; its_tokens = refl }

pub returns-clause-on_the_next_line : goal.returns-clause-on_the_next_line
returns-clause-on_the_next_line c = record { pieces = kept Word (codes "x") ∷ blank 10 ∷ blank 32 ∷ kept Hash (codes "#") ∷ kept LineEnd [] ∷ []; spelled = refl; standing = refl; ended = refl; unrefused = refl; its_tokens = refl }

pub returns-clause-comment_in_the_line : goal.returns-clause-comment_in_the_line
returns-clause-comment_in_the_line c = record { pieces = kept Hash (codes "#") ∷ comment (codes "/*\n*/") ∷ kept Word (codes "a") ∷ kept LineEnd (codes "\n") ∷ kept Word (codes "b") ∷ []; spelled = refl; standing = refl; ended = refl; unrefused = refl; its_tokens = refl }

pub returns-clause-comment_to_the_line_feed : goal.returns-clause-comment_to_the_line_feed
returns-clause-comment_to_the_line_feed c = record { pieces = kept Hash (codes "#") ∷ comment (codes "//a") ∷ kept LineEnd (codes "\n") ∷ kept Hash (codes "#") ∷ kept LineEnd [] ∷ []; spelled = refl; standing = refl; ended = refl; unrefused = refl; its_tokens = refl }

pub returns-clause-scop_is_dropped : goal.returns-clause-scop_is_dropped
returns-clause-scop_is_dropped c = record { pieces = kept Hash (codes "#") ∷ kept Word (codes "pragma") ∷ blank 32 ∷ kept Word (codes "scop") ∷ kept LineEnd (codes "\n") ∷ kept Word (codes "x") ∷ []; spelled = refl; standing = refl; ended = refl; unrefused = refl; its_tokens = refl }

pub returns-clause-endscop_is_dropped : goal.returns-clause-endscop_is_dropped
returns-clause-endscop_is_dropped c = record { pieces = blank 32 ∷ kept Hash (codes "#") ∷ blank 32 ∷ kept Word (codes "pragma") ∷ blank 32 ∷ comment (codes "/**/") ∷ blank 32 ∷ kept Word (codes "endscop") ∷ kept LineEnd [] ∷ []; spelled = refl; standing = refl; ended = refl; unrefused = refl; its_tokens = refl }

pub returns-clause-other_lines_stay : goal.returns-clause-other_lines_stay
returns-clause-other_lines_stay c = record { pieces = kept Hash (codes "#") ∷ kept Word (codes "pragma") ∷ blank 32 ∷ kept Word (codes "scop") ∷ blank 32 ∷ kept Number (codes "1") ∷ kept LineEnd (codes "\n") ∷ []; spelled = refl; standing = refl; ended = refl; unrefused = refl; its_tokens = refl }
