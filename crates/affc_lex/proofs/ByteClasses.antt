-- Which bytes begin what.
use Rattle.std.proofs.Common.{◌≡◌, ℕ, Bool, true, false, not, ◌&&◌, ◌==◌, List, [], ◌∷◌, codes, refl, sym, ap, ◌∙◌, arith, ⊎_elim}
use Rattle.std.specs.List.{list_all}
use Rattle.std.proofs.lemmas.Bool.{and_parts, or_cases, eqb-true, not-true, false≢true}
use Rattle.std.proofs.lemmas.Bool.Decides.{nat_tests}
use Rattle.affc_lex.specs.Bytes.{is_digit, is_letter, is_space, among}

pub letter_not_space : (b : ℕ) → is_letter b ≡ true → is_space b ≡ false
letter_not_space b letter = grind (arith, nat_tests)

pub digit_not_space : (b : ℕ) → is_digit b ≡ true → is_space b ≡ false
digit_not_space b digit = grind (arith, nat_tests)

pub digit_not_letter : (b : ℕ) → is_digit b ≡ true → is_letter b ≡ false
digit_not_letter b digit = grind (arith, nat_tests)

pub letter_not_slash : (b : ℕ) → is_letter b ≡ true → (b == 47) ≡ false
letter_not_slash b letter = grind (arith, nat_tests)

pub digit_not_slash : (b : ℕ) → is_digit b ≡ true → (b == 47) ≡ false
digit_not_slash b digit = grind (arith, nat_tests)

pub among_passes : (test : ℕ → Bool) (bytes : List ℕ) (b : ℕ) → among bytes b ≡ true → list_all test bytes ≡ true → test b ≡ true
among_passes test [] b e passes = absurd (false≢true e)
among_passes test (x ∷ xs) b e passes =
    let parts = and_parts (test x) (list_all test xs) passes in
    ⊎_elim
    (λ same_byte. ap test (sym (eqb-true x b same_byte)) ∙ parts.0)
    (λ later. among_passes test xs b later parts.1)
    (or_cases (x == b) (among xs b) e)

-- a byte that begins a mark begins nothing else
abbrev is_other : ℕ → Bool
is_other b = not (is_space b) && not (b == 47) && not (is_letter b) && not (is_digit b) && not (b == 35)

pub record BeginsMark (b : ℕ) : Type 0 where
  pub no_space : is_space b ≡ false
  pub no_slash : (b == 47) ≡ false
  pub no_letter : is_letter b ≡ false
  pub no_digit : is_digit b ≡ false
  pub no_hash : (b == 35) ≡ false

abbrev pub all_marks : List ℕ
all_marks = codes "()[]{},;:+-*&|^~<>=!%"

pub begins_mark : (b : ℕ) → among all_marks b ≡ true → BeginsMark b
begins_mark b e =
    let other : is_other b ≡ true = among_passes is_other all_marks b e refl in
    let four = and_parts _ _ other in
    let three = and_parts _ _ four.0 in
    let two = and_parts _ _ three.0 in
    let one = and_parts _ _ two.0 in
    record {
      no_space = not-true _ one.0;
      no_slash = not-true _ one.1;
      no_letter = not-true _ two.1;
      no_digit = not-true _ three.1;
      no_hash = not-true _ four.1;
    }

-- bytes of which marks of two and three bytes are made begin marks of one
pub pairs_begin : (b : ℕ) → among (codes "+-*&|^<>=!") b ≡ true → among all_marks b ≡ true
pairs_begin b e = among_passes (among all_marks) (codes "+-*&|^<>=!") b e refl

pub doubles_begin : (b : ℕ) → among (codes "+-&|<>") b ≡ true → among all_marks b ≡ true
doubles_begin b e = among_passes (among all_marks) (codes "+-&|<>") b e refl

pub triples_begin : (b : ℕ) → among (codes "<>") b ≡ true → among all_marks b ≡ true
triples_begin b e = among_passes (among all_marks) (codes "<>") b e refl
