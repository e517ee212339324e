-- Arrays by their names, and the names of subscripts.
use Rattle.std.proofs.Common.{◌≡◌, ℕ, zero, suc, ◌+◌, ◌-◌, ◌<◌, not, nat_lt, cond, List, [], ◌∷◌, ◌++◌, map, Some, None, codes, refl, sym, ap, ◌∙◌, arith, append_assoc}
use Rattle.std.specs.Prelude.{decimal as digits_of}
use Rattle.std.specs.List.{prefix_len, position as position_by}
use Rattle.std.proofs.lemmas.List.{length-map}
use Rattle.affc_lex.specs.Bytes.{same}
use Rattle.affc_grammar.specs.Grammar.{Name}
use Rattle.affc_schedtext.specs.Outline.{ArrayOutline, numbered_names, row_scope, back_scope, Lists, these, lists_by}

-- ---- Arrays

names_before : (w : Name) (xs : List ArrayOutline) → prefix_len (λ (a : ArrayOutline). not (same a.name w)) xs ≡ prefix_len (λ v. not (same v w)) (map (λ (a : ArrayOutline). a.name) xs)
names_before w [] = refl
names_before w (x ∷ xs) = ap (λ n. cond (not (same x.name w)) (1 + n) 0) (names_before w xs)

pub position_named : (w : Name) (xs : List ArrayOutline) → position_by (λ (a : ArrayOutline). same a.name w) xs ≡ position_by (λ v. same v w) (map (λ (a : ArrayOutline). a.name) xs)
position_named w xs =
    let all = sym (length-map xs (λ (a : ArrayOutline). a.name)) in
    let before = names_before w xs in
    (λ i. cond (nat_lt (before i) (all i)) (Some (before i)) None)

-- ---- Subscripts

-- of an array of so many dimensions, the first of which is `x0`
abbrev pub subscript_lists : (dimensions others : ℕ) → Lists
subscript_lists n m = record { there = row_scope n; back = back_scope n; words = these (codes "x0") (numbered_names (codes "x") 1 m) }

pub lists_of_some : (n : ℕ) → (n ≡ 0 → ⊥) → lists_by n ≡ subscript_lists n (n - 1)
lists_of_some zero h = absurd (h refl)
lists_of_some (suc n) h = let e : n ≡ suc n - 1 = omega arith in ap (subscript_lists (suc n)) e

pub ruleset subscripted = (lists_of_some)

-- one name more, of which the last number was k
pub names_on : (letter : List ℕ) (names : List Name) (k count : ℕ) → k < count
    → (names ++ (letter ++ digits_of (k + 1)) ∷ []) ++ numbered_names letter (k + 1 + 1) (count - (k + 1)) ≡ names ++ numbered_names letter (k + 1) (count - k)
names_on letter names k count lt =
    let e : count - k ≡ suc (count - (k + 1)) = omega arith in
    let f : suc (k + 1) ≡ k + 1 + 1 = omega arith in
    append_assoc names ((letter ++ digits_of (k + 1)) ∷ []) (numbered_names letter (k + 1 + 1) (count - (k + 1)))
    ∙ ap (λ n. names ++ (letter ++ digits_of (k + 1)) ∷ numbered_names letter n (count - (k + 1))) (sym f)
    ∙ ap (λ n. names ++ numbered_names letter (k + 1) n) (sym e)
