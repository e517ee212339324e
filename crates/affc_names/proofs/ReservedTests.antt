-- Tests of names, as the code makes them and as they are defined.
use Rattle.std.proofs.Common.{◌≡◌, ◌<◌, ◌≤◌, ◌-◌, ◌&&◌, ◌||◌, ◌==◌, ℕ, zero, suc, Bool, true, false, nat_eq, List, [], ◌∷◌, length, map, drop, codes, refl, ap, sym, ◌∙◌, arith, Bor, ◌⊎◌, inl, inr}
use Rattle.std.specs.List.{list_any, starts_with, ends_with}
use Rattle.std.specs.Str.{bytes_eq}
use Rattle.std.proofs.Math.Bool.{or-false}
use Rattle.affc_lex.specs.Bytes.{same, begins}
use Rattle.affc_ast.specs.Names.{keywords, reserved_beginnings, ends, is_reserved}
use Rattle.affc_names.specs.Reserved.{is_among, begins_with_one, is_keyword, begins_reserved}

listed : (words : List (Bor (List ℕ))) (name : List ℕ) → list_any (λ word. bytes_eq word.now name) words ≡ list_any (λ word. same word name) (map (λ word. word.now) words)
listed [] name = refl
listed (w ∷ ws) name = ap (λ b. same w.now name || b) (listed ws name)

begins-starts_with : (part xs : List ℕ) → starts_with nat_eq xs part ≡ begins part xs
begins-starts_with [] xs = refl
begins-starts_with (p ∷ ps) [] = refl
begins-starts_with (p ∷ ps) (x ∷ xs) = ap (λ b. p == x && b) (begins-starts_with ps xs)

begun : (words : List (Bor (List ℕ))) (name : List ℕ) → list_any (λ word. starts_with nat_eq name word.now) words ≡ list_any (λ word. begins word name) (map (λ word. word.now) words)
begun [] name = refl
begun (w ∷ ws) name = ap (λ b. b || list_any (λ word. starts_with nat_eq name word.now) ws) (begins-starts_with w.now name) ∙ ap (λ b. begins w.now name || b) (begun ws name)

pub keyword_is : (words : List (Bor (List ℕ))) (name : List ℕ) (b : Bool) → b ≡ is_among words name → map (λ word. word.now) words ≡ keywords → b ≡ is_keyword name
unfolding is_among is_keyword
keyword_is words name b e is = e ∙ listed words name ∙ ap (λ ws. list_any (λ word. same word name) ws) is

pub beginning_is : (words : List (Bor (List ℕ))) (name : List ℕ) (b : Bool) → b ≡ begins_with_one words name → map (λ word. word.now) words ≡ reserved_beginnings → b ≡ begins_reserved name
unfolding begins_with_one begins_reserved
beginning_is words name b e is = e ∙ begun words name ∙ ap (λ ws. list_any (λ word. begins word name) ws) is

-- ---- The end of a name

none : (b : Bool) → (b && false) ≡ false
none true = refl
none false = refl

-- texts of different lengths differ
longer_differs : (xs ys : List ℕ) → length ys < length xs → same xs ys ≡ false
longer_differs [] ys lt = absurd (omega arith)
longer_differs (x ∷ xs) [] lt = refl
longer_differs (x ∷ xs) (y ∷ ys) lt = ap (λ b. x == y && b) (longer_differs xs ys (omega arith)) ∙ none (x == y)

shorter_differs : (xs ys : List ℕ) → length xs < length ys → same xs ys ≡ false
shorter_differs [] [] lt = absurd (omega arith)
shorter_differs [] (y ∷ ys) lt = refl
shorter_differs (x ∷ xs) [] lt = absurd (omega arith)
shorter_differs (x ∷ xs) (y ∷ ys) lt = ap (λ b. x == y && b) (shorter_differs xs ys (omega arith)) ∙ none (x == y)

longer_no_end : (part xs : List ℕ) → length xs < length part → ends part xs ≡ false
longer_no_end part [] lt = longer_differs part [] lt
longer_no_end part (x ∷ xs) lt = ap (λ b. b || ends part xs) (longer_differs part (x ∷ xs) lt) ∙ longer_no_end part xs (omega arith)

lt_or_le : (a b : ℕ) → (a < b) ⊎ (b ≤ a)
lt_or_le a zero = inr (omega arith)
lt_or_le zero (suc b) = inl (omega arith)
lt_or_le (suc a) (suc b) = elim (lt_or_le a b) [ inl h ↦ inl (omega (arith, h)) | inr h ↦ inr (omega (arith, h)) ]

ends-ends_with : (part xs : List ℕ) → ends_with nat_eq xs part ≡ ends part xs
ends-ends_with part [] =
    let nothing : 0 - length part ≡ 0 = omega arith in
    ap (λ n. bytes_eq part (drop n [])) nothing
ends-ends_with part (x ∷ xs) = elim (lt_or_le (length xs) (length part)) [ inl lt ↦ whole lt | inr le ↦ later le (ends-ends_with part xs) ]
  where
    whole : length xs < length part → ends_with nat_eq (x ∷ xs) part ≡ ends part (x ∷ xs)
    whole lt =
        let nothing : length (x ∷ xs) - length part ≡ 0 = omega arith in
        ap (λ n. bytes_eq part (drop n (x ∷ xs))) nothing
        ∙ sym (or-false (same part (x ∷ xs))) ∙ ap (λ b. same part (x ∷ xs) || b) (sym (longer_no_end part xs lt))

    later : length part ≤ length xs → ends_with nat_eq xs part ≡ ends part xs → ends_with nat_eq (x ∷ xs) part ≡ ends part (x ∷ xs)
    later le rest =
        let one_more : length (x ∷ xs) - length part ≡ suc (length xs - length part) = omega arith in
        ap (λ n. bytes_eq part (drop n (x ∷ xs))) one_more ∙ rest
        ∙ ap (λ b. b || ends part xs) (sym (shorter_differs part (x ∷ xs) (omega arith)))

pub reserved_is : (name : List ℕ) (a b c d : Bool) → a ≡ is_keyword name → b ≡ begins_reserved name → c ≡ ends_with nat_eq name (codes "_t") → d ≡ bytes_eq (codes "main") name
    → (((a || b) || c) || d) ≡ is_reserved name
unfolding is_keyword begins_reserved
reserved_is name a b c d ea eb ec ed = rw (ea, eb, ec ∙ ends-ends_with (codes "_t") name, ed) refl
