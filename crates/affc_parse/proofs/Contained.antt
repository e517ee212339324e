-- A part of a text, from one place after another.
use Rattle.std.proofs.Common.{◌≡◌, ℕ, zero, suc, ◌+◌, ◌<◌, ◌≤◌, Bool, true, false, ◌||◌, List, [], ◌∷◌, length, take, drop, length-drop, ◌-◌, refl, sym, ap, ◌∙◌, arith, add-one}
use Rattle.std.proofs.lemmas.List.{drop_all, take_all}
use Rattle.affc_lex.specs.Bytes.{begins, contains}

from_here : (part text : List ℕ) (i : ℕ) → i < length text → contains part (drop i text) ≡ (begins part (drop i text) || contains part (drop (suc i) text))
from_here part [] i lt = absurd (omega (arith, lt))
from_here part (b ∷ bs) zero lt = refl
from_here part (b ∷ bs) (suc i) lt = from_here part bs i (omega (arith, lt))

pub contained_here : (part text : List ℕ) (i : ℕ) → i < length text → contains part text ≡ contains part (drop i text) → begins part (drop i text) ≡ true → true ≡ contains part text
contained_here part text i lt h e = sym (h ∙ from_here part text i lt ∙ ap (λ b. b || contains part (drop (suc i) text)) e)

pub contained_on : (part text : List ℕ) (i : ℕ) → i < length text → contains part text ≡ contains part (drop i text) → begins part (drop i text) ≡ false → contains part text ≡ contains part (drop (i + 1) text)
contained_on part text i lt h e = h ∙ from_here part text i lt ∙ ap (λ b. b || contains part (drop (suc i) text)) e ∙ ap (λ n. contains part (drop n text)) (sym (add-one i))

pub contained_end : (part text : List ℕ) (i : ℕ) → length text ≤ i → contains part text ≡ contains part (drop i text) → false ≡ contains part text
contained_end part text i le h = sym (h ∙ ap (contains part) (drop_all i text le))

pub rest_is : (text : List ℕ) (i : ℕ) → take (length text - i) (drop i text) ≡ drop i text
rest_is text i = take_all (length text - i) (drop i text) (let l : length (drop i text) ≡ length text - i = length-drop i text in omega (arith, l))
