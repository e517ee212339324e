-- Each text's pieces.
use Rattle.std.proofs.Common.{ℕ, List, [], ◌∷◌, ◌++◌, refl, codes}
use Rattle.affc_lex.specs.declared.token.Kind.TheVariants.{Word, Header, Hash, LineEnd, Mark}
use Rattle.affc_lex.proofs.Samples.{blank, comment, kept}
use Rattle.affc_lex.proofs.examples.bad_bytes.Goals as goal

pub returns-clause-nothing_begins : goal.returns-clause-nothing_begins
returns-clause-nothing_begins c = record { front = record { pieces = kept Hash (codes "#") ∷ kept Word (codes "include") ∷ blank 32 ∷ kept Header (codes "<stdint.h>") ∷ kept LineEnd (codes "\n") ∷ []; rest = 64 ∷ []; spelled = refl; standing = refl }; byte = 64; after = []; goes_on = refl; nothing = refl; is_at = refl }

pub returns-clause-division : goal.returns-clause-division
returns-clause-division c = record { front = record { pieces = kept Word (codes "a") ∷ blank 32 ∷ []; rest = 47 ∷ codes " b"; spelled = refl; standing = refl }; byte = 47; after = codes " b"; goes_on = refl; nothing = refl; is_at = refl }

pub returns-clause-hash_in_a_line : goal.returns-clause-hash_in_a_line
returns-clause-hash_in_a_line c = record { front = record { pieces = kept Word (codes "x") ∷ blank 32 ∷ comment (codes "/*\n*/") ∷ blank 32 ∷ []; rest = 35 ∷ []; spelled = refl; standing = refl }; byte = 35; after = []; goes_on = refl; nothing = refl; is_at = refl }

pub returns-clause-letter : goal.returns-clause-letter
returns-clause-letter c = record { front = record { pieces = []; rest = codes "3U"; spelled = refl; standing = refl }; literal = codes "3"; after = codes "U"; goes_on = refl; longest = refl; stuck = refl; is_at = refl }

pub returns-clause-letter_behind_a_value : goal.returns-clause-letter_behind_a_value
returns-clause-letter_behind_a_value c = record { front = record { pieces = []; rest = codes "3ULLx"; spelled = refl; standing = refl }; literal = codes "3ULL"; after = codes "x"; goes_on = refl; longest = refl; stuck = refl; is_at = refl }

pub returns-clause-second_zero : goal.returns-clause-second_zero
returns-clause-second_zero c = record { front = record { pieces = []; rest = codes "00"; spelled = refl; standing = refl }; literal = codes "0"; after = codes "0"; goes_on = refl; longest = refl; stuck = refl; is_at = refl }

-- behind the first byte of the changed text that begins nothing
abbrev behind_question_mark : List ℕ
behind_question_mark = codes " a : b; }\n" ++ codes "static inline int64_t affc_max(int64_t a, int64_t b) { return a > b ? a : b; }\n" ++ codes "static inline int64_t affc_floord(int64_t a, int64_t b) { return a / b - (a % c < 0); }\n" ++ codes "static inline int64_t affc_ceild(int64_t a, int64_t b) { return a / b + (a % b > 0); }\n" ++ codes "static inline int64_t affc_mod(int64_t a, int64_t b) { return a % b + (a % b < 0 ? b : 0); }\n"

pub returns-clause-changed_prelude : goal.returns-clause-changed_prelude
returns-clause-changed_prelude c = record { front = record { pieces = kept Word (codes "static") ∷ blank 32 ∷ kept Word (codes "inline") ∷ blank 32 ∷ kept Word (codes "int64_t") ∷ blank 32 ∷ kept Word (codes "affc_min") ∷ kept Mark (codes "(") ∷ kept Word (codes "int64_t") ∷ blank 32 ∷ kept Word (codes "a") ∷ kept Mark (codes ",") ∷ blank 32 ∷ kept Word (codes "int64_t") ∷ blank 32 ∷ kept Word (codes "b") ∷ kept Mark (codes ")") ∷ blank 32 ∷ kept Mark (codes "{") ∷ blank 32 ∷ kept Word (codes "return") ∷ blank 32 ∷ kept Word (codes "a") ∷ blank 32 ∷ kept Mark (codes "<") ∷ blank 32 ∷ kept Word (codes "b") ∷ blank 32 ∷ []; rest = 63 ∷ behind_question_mark; spelled = refl; standing = refl }; byte = 63; after = behind_question_mark; goes_on = refl; nothing = refl; is_at = refl }

pub returns-clause-backslash : goal.returns-clause-backslash
returns-clause-backslash c = record { before = codes "/*"; after = codes "\\\n*/"; spelled = refl; refused = refl; is_at = refl }

pub returns-clause-backslash_and_return : goal.returns-clause-backslash_and_return
returns-clause-backslash_and_return c = record { before = codes "// "; after = codes "\\\r\n"; spelled = refl; refused = refl; is_at = refl }

pub returns-clause-trigraph : goal.returns-clause-trigraph
returns-clause-trigraph c = record { before = codes "/*"; after = codes "??/*/"; spelled = refl; refused = refl; is_at = refl }
