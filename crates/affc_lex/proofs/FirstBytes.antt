-- Where `read` goes, by the first byte.
use Rattle.std.proofs.Common.{◌≡◌, ℕ, true, false, ◌==◌, List, ◌∷◌, refl, ◌∙◌}
use Rattle.std.proofs.lemmas.Bool.{cond-true, cond-false}
use Rattle.affc_lex.specs.declared.piece.Spot.{Spot}
use Rattle.affc_lex.specs.Bytes.{is_digit, is_letter, is_space}
use Rattle.affc_lex.specs.Reading.{read, space, word, literal, mark, header_at}
use Rattle.affc_lex.proofs.ByteClasses.{letter_not_space, letter_not_slash, digit_not_space, digit_not_slash, digit_not_letter, BeginsMark}

pub read_space : (spot : Spot) (b : ℕ) (bs : List ℕ) → is_space b ≡ true → read spot (b ∷ bs) ≡ space spot b
read_space spot b bs e = cond-true _ _ _ e

pub read_letter : (spot : Spot) (b : ℕ) (bs : List ℕ) → is_letter b ≡ true → read spot (b ∷ bs) ≡ word (b ∷ bs)
read_letter spot b bs e = cond-false _ _ _ (letter_not_space b e) ∙ cond-false _ _ _ (letter_not_slash b e) ∙ cond-true _ _ _ e

pub read_digit : (spot : Spot) (b : ℕ) (bs : List ℕ) → is_digit b ≡ true → read spot (b ∷ bs) ≡ literal b (b ∷ bs)
read_digit spot b bs e =
    cond-false _ _ _ (digit_not_space b e) ∙ cond-false _ _ _ (digit_not_slash b e) ∙ cond-false _ _ _ (digit_not_letter b e) ∙ cond-true _ _ _ e

pub read_other : (spot : Spot) (b : ℕ) (bs : List ℕ) → is_space b ≡ false → (b == 47) ≡ false → is_letter b ≡ false → is_digit b ≡ false → (b == 35) ≡ false → read spot (b ∷ bs) ≡ mark (header_at spot (b ∷ bs)) (b ∷ bs)
read_other spot b bs e1 e2 e3 e4 e5 =
    cond-false _ _ _ e1 ∙ cond-false _ _ _ e2 ∙ cond-false _ _ _ e3 ∙ cond-false _ _ _ e4 ∙ cond-false _ _ _ e5

pub read_mark : (spot : Spot) (b : ℕ) (bs : List ℕ) → BeginsMark b → read spot (b ∷ bs) ≡ mark (header_at spot (b ∷ bs)) (b ∷ bs)
read_mark spot b bs m = read_other spot b bs m.no_space m.no_slash m.no_letter m.no_digit m.no_hash
