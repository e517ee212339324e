-- The digits of a Value.
use Rattle.std.proofs.Common.{◌≡◌, ℕ, suc, ◌+◌, Bool, true, false, ◌&&◌, cond, List, [], ◌∷◌, take, refl, ap, ◌∙◌, arith}
use Rattle.std.specs.List.{prefix_len}
use Rattle.affc_lex.specs.Bytes.{is_digit, same}
use Rattle.affc_lex.specs.Pieces.{is_number, is_small, is_value, leading_digits, behind_digits}
use Rattle.affc_lex.specs.declared.token.Kind.TheVariants.{Value}
use Rattle.std.specs.Prelude.{codes}
use Rattle.affc_parse.specs.Shown.{are_bytes}
use Rattle.affc_parse.proofs.TokenBytes.{both}

one_more : (n b : ℕ) (bs : List ℕ) → take (1 + n) (b ∷ bs) ≡ b ∷ take n bs
one_more n b bs = ap (λ k. take k (b ∷ bs)) is
  where
    is : 1 + n ≡ suc n
    is = omega arith

leading : (bs : List ℕ) → take (prefix_len is_digit bs) bs ≡ leading_digits bs
leading [] = refl
leading (b ∷ bs) = by (is_digit b) (leading bs)
  where
    by : (t : Bool) → take (prefix_len is_digit bs) bs ≡ leading_digits bs → take (cond t (1 + prefix_len is_digit bs) 0) (b ∷ bs) ≡ cond t (b ∷ leading_digits bs) []
    by true h = one_more (prefix_len is_digit bs) b bs ∙ ap (λ l. b ∷ l) h
    by false h = refl

pub digits_taken : (bs : List ℕ) (n : ℕ) → n ≡ prefix_len is_digit bs → take n bs ≡ leading_digits bs
digits_taken bs n e = ap (λ k. take k bs) e ∙ leading bs

pub value_parts : (bs : List ℕ) (n : ℕ) → n ≡ prefix_len is_digit bs → are_bytes Value bs ≡ true → (is_number (take n bs) && is_small (take n bs)) ≡ true
value_parts bs n e h =
    let p = both (is_value bs) (is_small (leading_digits bs)) h in
    let q = both (is_number (leading_digits bs)) (same (behind_digits bs) (codes "ULL")) p.0 in
    ap (λ l. is_number l && is_small l) (digits_taken bs n e) ∙ ap (λ b. b && is_small (leading_digits bs)) q.0 ∙ p.1
