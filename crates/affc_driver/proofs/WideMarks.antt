-- The first token of a text that only a program with other tests than joined comparisons need have.
use Rattle.std.proofs.Common.{◌≡◌, ℕ, suc, ◌+◌, ◌<◌, Bool, true, false, if◌then◌else◌, List, ◌∷◌, length, drop, get_or, drop-cons, sym, ap, ◌∙◌, arith}
use Rattle.std.specs.Prelude.{slice_range}
use Rattle.affc_lex.specs.declared.token.Token.{Token}
use Rattle.affc_lex.specs.Lexes.{lexemes}
use Rattle.affc_driver.specs.Refusals.{is_wide_mark, first_wide_mark}

front : (xs : List Token) (i : ℕ) (x : Token) → i < length xs → x ≡ get_or xs i x → drop i xs ≡ x ∷ drop (i + 1) xs
front xs i x h e = drop-cons xs i x h ∙ ap (λ z. z ∷ drop (suc i) xs) (sym e) ∙ ap (λ n. x ∷ drop n xs) (suc_is i)
  where
    suc_is : (i : ℕ) → suc i ≡ i + 1
    suc_is i = omega arith

first_of : (text : List ℕ) (i : ℕ) (ts : List Token) (t : Token) → i < length ts → t ≡ get_or ts i t
    → first_wide_mark text (lexemes text (drop i ts)) ≡ (if is_wide_mark (slice_range text t.start t.end) then t.start else first_wide_mark text (lexemes text (drop (i + 1) ts)))
first_of text i ts t h e = ap (λ xs. first_wide_mark text (lexemes text xs)) (front ts i t h e)

pub mark_passed : (text bytes : List ℕ) (i : ℕ) (ts : List Token) (t : Token) → i < length ts → t ≡ get_or ts i t → bytes ≡ slice_range text t.start t.end → is_wide_mark bytes ≡ false
    → first_wide_mark text (lexemes text (drop i ts)) ≡ first_wide_mark text (lexemes text (drop (i + 1) ts))
mark_passed text bytes i ts t h e s w = first_of text i ts t h e ∙ ap (λ b. if b then t.start else first_wide_mark text (lexemes text (drop (i + 1) ts))) (sym (ap is_wide_mark s) ∙ w)

pub mark_found : (text bytes : List ℕ) (i : ℕ) (ts : List Token) (t : Token) → i < length ts → t ≡ get_or ts i t → bytes ≡ slice_range text t.start t.end → is_wide_mark bytes ≡ true
    → first_wide_mark text (lexemes text (drop i ts)) ≡ t.start
mark_found text bytes i ts t h e s w = first_of text i ts t h e ∙ ap (λ b. if b then t.start else first_wide_mark text (lexemes text (drop (i + 1) ts))) (sym (ap is_wide_mark s) ∙ w)
