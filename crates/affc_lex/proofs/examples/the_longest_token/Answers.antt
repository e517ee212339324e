-- Each text's pieces.
use Rattle.std.proofs.Common.{[], ◌∷◌, refl, codes}
use Rattle.affc_lex.specs.declared.token.Kind.TheVariants.{Word, Number, Value, Mark}
use Rattle.affc_lex.proofs.Samples.{kept}
use Rattle.affc_lex.proofs.examples.the_longest_token.Goals as goal

pub returns-clause-marks : goal.returns-clause-marks
returns-clause-marks c = record { pieces = kept Word (codes "i") ∷ kept Mark (codes "++") ∷ kept Mark (codes "+") ∷ kept Word (codes "j") ∷ []; spelled = refl; standing = refl; ended = refl; unrefused = refl; its_tokens = refl }

pub returns-clause-minus_signs : goal.returns-clause-minus_signs
returns-clause-minus_signs c = record { pieces = kept Word (codes "i") ∷ kept Mark (codes "--") ∷ kept Mark (codes "-") ∷ kept Word (codes "j") ∷ []; spelled = refl; standing = refl; ended = refl; unrefused = refl; its_tokens = refl }

pub returns-clause-three_bytes : goal.returns-clause-three_bytes
returns-clause-three_bytes c = record { pieces = kept Mark (codes ">>=") ∷ kept Mark (codes "<<") ∷ []; spelled = refl; standing = refl; ended = refl; unrefused = refl; its_tokens = refl }

pub returns-clause-value : goal.returns-clause-value
returns-clause-value c = record { pieces = kept Value (codes "18446744073709551615ULL") ∷ []; spelled = refl; standing = refl; ended = refl; unrefused = refl; its_tokens = refl }

pub returns-clause-zero : goal.returns-clause-zero
returns-clause-zero c = record { pieces = kept Number (codes "0") ∷ kept Mark (codes "*") ∷ kept Value (codes "0ULL") ∷ []; spelled = refl; standing = refl; ended = refl; unrefused = refl; its_tokens = refl }

pub returns-clause-digits_in_a_word : goal.returns-clause-digits_in_a_word
returns-clause-digits_in_a_word c = record { pieces = kept Word (codes "_0ULL") ∷ []; spelled = refl; standing = refl; ended = refl; unrefused = refl; its_tokens = refl }

pub returns-clause-other_marks : goal.returns-clause-other_marks
returns-clause-other_marks c = record { pieces = kept Word (codes "a") ∷ kept Mark (codes "%") ∷ kept Word (codes "b") ∷ kept Mark (codes "||") ∷ kept Word (codes "c") ∷ kept Mark (codes "!=") ∷ kept Word (codes "d") ∷ []; spelled = refl; standing = refl; ended = refl; unrefused = refl; its_tokens = refl }
