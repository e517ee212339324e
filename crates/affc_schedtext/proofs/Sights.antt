-- Numbers behind a letter, and which names are seen.
use Rattle.std.proofs.Common.{◌≡◌, ℕ, true, ◌&&◌, ◌||◌, not, ◌==◌, List, [], ◌∷◌, Option, Some, None, is_some, refl, IsTrue}
use Rattle.std.specs.List.{list_all}
use Rattle.std.specs.Option.{option_map}
use Rattle.std.proofs.lemmas.Bool.{and_parts, and_from}
use Rattle.affc_lex.specs.Bytes.{is_digit}
use Rattle.affc_lex.specs.Pieces.{is_number}
use Rattle.affc_schedtext.specs.Outline.{or_else}

pub digits_of_number : (ds : List ℕ) → is_number ds ≡ true → IsTrue (list_all is_digit ds)
digits_of_number [] e = refl
digits_of_number (b ∷ []) e = and_from (is_digit b) true e refl
digits_of_number (b ∷ (c ∷ bs)) e =
    let h = and_parts (is_digit b && not (b == 48)) (list_all is_digit (c ∷ bs)) e in
    and_from (is_digit b) (list_all is_digit (c ∷ bs)) (and_parts (is_digit b) (not (b == 48)) h.0).0 h.1

-- a column of the first kind, or one of the second
pub seen_first : (f : ℕ → ℕ) (a b : Option ℕ) → is_some (or_else a (option_map f b)) ≡ is_some a || is_some b
seen_first f (Some x) b = refl
seen_first f None None = refl
seen_first f None (Some y) = refl

pub seen_else : (f : ℕ → ℕ) (a b : Option ℕ) → is_some (or_else (option_map f a) b) ≡ is_some a || is_some b
seen_else f None b = refl
seen_else f (Some x) b = refl

pub ruleset digits = (digits_of_number)

pub ruleset sights = (seen_first, seen_else)
