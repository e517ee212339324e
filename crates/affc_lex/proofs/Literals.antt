-- Numbers and values at the beginning of a text.
use Rattle.std.proofs.Common.{◌≡◌, ℕ, suc, ◌+◌, ◌≤◌, ◌^◌, true, false, not, ◌&&◌, ◌||◌, ◌==◌, List, [], ◌∷◌, ◌++◌, length, take, drop, codes, refl, sym, ap, ◌∙◌, subst, arith, append_assoc}
use Rattle.std.specs.List.{list_all, prefix_len}
use Rattle.std.proofs.lemmas.List.{take_at, drop_at, take-take, length-append}
use Rattle.std.proofs.lemmas.Bool.{and_parts, and_from, cond_both, cond-true, cond-false, false≢true, true≢false, not-true, not_from_false, le-ltb, or_parts, or_right}
use Rattle.affc_lex.specs.declared.token.Kind.TheVariants.{Number, Value}
use Rattle.affc_lex.specs.declared.piece.What.TheVariants.{Token}
use Rattle.affc_lex.specs.declared.piece.Found.TheVariants.{Piece, Bad, Long}
use Rattle.affc_lex.specs.Bytes.{is_digit, is_letter, is_letter_or_digit, same, begins, next_is, decimal}
use Rattle.affc_lex.specs.Pieces.{is_number, is_value, is_small, leading_digits, behind_digits}
use Rattle.affc_lex.specs.Reading.{number_length, literal, literal_of}
use Rattle.affc_lex.proofs.Lists.{by_test, run_at, run_least, run_stops, same_is, begins_append, begins_splits}
use Rattle.affc_lex.proofs.Runs.{run_passes, run_within}
use Rattle.affc_lex.proofs.Decimals.{decimal_take}

-- Digits

pub number_digits : (ds : List ℕ) → is_number ds ≡ true → list_all is_digit ds ≡ true
number_digits [] e = absurd (false≢true e)
number_digits (b ∷ []) e = and_from (is_digit b) true e refl
number_digits (b ∷ c ∷ ds) e =
    let parts = and_parts (is_digit b && not (b == 48)) (list_all is_digit (c ∷ ds)) e in
    and_from (is_digit b) (list_all is_digit (c ∷ ds)) (and_parts (is_digit b) (not (b == 48)) parts.0).0 parts.1

pub number_from : (b : ℕ) (ds : List ℕ) → is_digit b ≡ true → (b == 48) ≡ false → list_all is_digit ds ≡ true → is_number (b ∷ ds) ≡ true
number_from b [] digit nonzero all = digit
number_from b (c ∷ ds) digit nonzero all = and_from (is_digit b && not (b == 48)) (list_all is_digit (c ∷ ds)) (and_from (is_digit b) (not (b == 48)) digit (not_from_false (b == 48) nonzero)) all

-- a number that begins with 0 has no other digit
pub zero_alone : (b : ℕ) (ds : List ℕ) → is_number (b ∷ ds) ≡ true → (b == 48) ≡ true → ds ≡ []
zero_alone b [] e zero_first = refl
zero_alone b (c ∷ ds) e zero_first =
    let parts = and_parts (is_digit b && not (b == 48)) (list_all is_digit (c ∷ ds)) e in
    absurd (true≢false (sym zero_first ∙ not-true (b == 48) (and_parts (is_digit b) (not (b == 48)) parts.0).1))

pub leading_at : (ds t : List ℕ) → list_all is_digit ds ≡ true → not (next_is is_digit t) ≡ true → (leading_digits (ds ++ t) ≡ ds) × (behind_digits (ds ++ t) ≡ t)
leading_at [] [] all stops = (refl, refl)
leading_at [] (b ∷ bs) all stops = (cond-false _ _ _ (not-true (is_digit b) stops), cond-false _ _ _ (not-true (is_digit b) stops))
leading_at (d ∷ ds) t all stops =
    let parts = and_parts (is_digit d) (list_all is_digit ds) all in
    let rest = leading_at ds t parts.1 stops in
    (cond-true _ _ _ parts.0 ∙ ap (λ zs. d ∷ zs) rest.0, cond-true _ _ _ parts.0 ∙ rest.1)

pub leading_joined : (xs : List ℕ) → leading_digits xs ++ behind_digits xs ≡ xs
leading_joined [] = refl
leading_joined (b ∷ bs) =
    by_test (is_digit b)
    (λ digit. ap (λ zs. zs ++ behind_digits (b ∷ bs)) (cond-true _ _ _ digit) ∙ ap (λ zs. b ∷ (leading_digits bs ++ zs)) (cond-true _ _ _ digit) ∙ ap (λ zs. b ∷ zs) (leading_joined bs))
    (λ other. ap (λ zs. zs ++ behind_digits (b ∷ bs)) (cond-false _ _ _ other) ∙ cond-false _ _ _ other)

-- a value is a number and `ULL`
pub value_is : (bytes : List ℕ) → is_value bytes ≡ true → (is_number (leading_digits bytes) ≡ true) × (bytes ≡ leading_digits bytes ++ codes "ULL")
value_is bytes e =
    let parts = and_parts (is_number (leading_digits bytes)) (same (behind_digits bytes) (codes "ULL")) e in
    (parts.0, sym (leading_joined bytes) ∙ ap (λ zs. leading_digits bytes ++ zs) (same_is (behind_digits bytes) (codes "ULL") parts.1))

pub value_from : (ds : List ℕ) → is_number ds ≡ true → (is_value (ds ++ codes "ULL") ≡ true) × (leading_digits (ds ++ codes "ULL") ≡ ds)
value_from ds e =
    let cut = leading_at ds (codes "ULL") (number_digits ds e) refl in
    (and_from _ _ (ap is_number cut.0 ∙ e) (ap (λ zs. same zs (codes "ULL")) cut.1), cut.0)

-- How long a number is

pub next_word_digit : (t : List ℕ) → not (next_is is_letter_or_digit t) ≡ true → not (next_is is_digit t) ≡ true
next_word_digit [] e = refl
next_word_digit (b ∷ bs) e = not_from_false (is_digit b) (or_parts (is_letter b) (is_digit b) (not-true _ e)).1

pub suffix_goes_on : (t : List ℕ) → begins (codes "ULL") t ≡ true → next_is is_letter_or_digit t ≡ true
suffix_goes_on t e = ap (next_is is_letter_or_digit) (begins_splits (codes "ULL") t e)

pub length_at : (d : ℕ) (ds after : List ℕ) → is_number (d ∷ ds) ≡ true → (same (d ∷ ds) (codes "0") || not (next_is is_digit after)) ≡ true → number_length d (d ∷ ds ++ after) ≡ length (d ∷ ds)
length_at d ds after e stops =
    by_test (d == 48)
    (λ zero_first. cond-true _ _ _ zero_first ∙ ap (λ zs. suc (length zs)) (sym (zero_alone d ds e zero_first)))
    (λ other.
    let not_zero : same (d ∷ ds) (codes "0") ≡ false = ap (λ t. t && same ds []) other in
    let no_digit : not (next_is is_digit after) ≡ true = sym (ap (λ t. t || not (next_is is_digit after)) not_zero) ∙ stops in
    cond-false _ _ _ other ∙ run_at is_digit (d ∷ ds) after (number_digits (d ∷ ds) e) no_digit)

-- What `literal` finds

pub literal_small : (n : ℕ) (d : ℕ) (text : List ℕ) → number_length d text ≡ n → is_small (take n text) ≡ true → literal d text ≡ literal_of n text
literal_small n d text length_is small = cond-true _ _ _ (ap (λ k. is_small (take k text)) length_is ∙ small) ∙ ap (λ k. literal_of k text) length_is

pub literal_long : (n : ℕ) (d : ℕ) (text : List ℕ) → number_length d text ≡ n → is_small (take n text) ≡ false → literal d text ≡ Long
literal_long n d text length_is long = cond-false _ _ _ (ap (λ k. is_small (take k text)) length_is ∙ long)

pub found_number : (ds after : List ℕ) → begins (codes "ULL") after ≡ false → next_is is_letter_or_digit after ≡ false → literal_of (length ds) (ds ++ after) ≡ Piece (Token Number) (length ds)
found_number ds after no_suffix ended =
    let rest = drop_at ds after (length ds) refl in
    cond-false _ _ _ (ap (begins (codes "ULL")) rest ∙ no_suffix) ∙ cond-false _ _ _ (ap (next_is is_letter_or_digit) rest ∙ ended)

pub stuck_number : (ds after : List ℕ) → begins (codes "ULL") after ≡ false → next_is is_letter_or_digit after ≡ true → literal_of (length ds) (ds ++ after) ≡ Bad (length ds)
stuck_number ds after no_suffix stuck =
    let rest = drop_at ds after (length ds) refl in
    cond-false _ _ _ (ap (begins (codes "ULL")) rest ∙ no_suffix) ∙ cond-true _ _ _ (ap (next_is is_letter_or_digit) rest ∙ stuck)

behind_value : (ds after : List ℕ) → drop (length ds + 3) (ds ++ (codes "ULL" ++ after)) ≡ after
behind_value ds after =
    ap (drop (length ds + 3)) (sym (append_assoc ds (codes "ULL") after)) ∙ drop_at (ds ++ codes "ULL") after (length ds + 3) (length-append ds (codes "ULL"))

pub found_value : (ds after : List ℕ) → next_is is_letter_or_digit after ≡ false → literal_of (length ds) (ds ++ (codes "ULL" ++ after)) ≡ Piece (Token Value) (length ds + 3)
found_value ds after ended =
    let rest = drop_at ds (codes "ULL" ++ after) (length ds) refl in
    cond-true _ _ _ (ap (begins (codes "ULL")) rest ∙ begins_append (codes "ULL") after) ∙ cond-false _ _ _ (ap (next_is is_letter_or_digit) (behind_value ds after) ∙ ended)

pub stuck_value : (ds after : List ℕ) → next_is is_letter_or_digit after ≡ true → literal_of (length ds) (ds ++ (codes "ULL" ++ after)) ≡ Bad (length ds + 3)
stuck_value ds after stuck =
    let rest = drop_at ds (codes "ULL" ++ after) (length ds) refl in
    cond-true _ _ _ (ap (begins (codes "ULL")) rest ∙ begins_append (codes "ULL") after) ∙ cond-true _ _ _ (ap (next_is is_letter_or_digit) (behind_value ds after) ∙ stuck)

-- The number at the beginning of a text that begins with a digit

pub the_number : (d : ℕ) (bs : List ℕ) → is_digit d ≡ true → is_number (take (number_length d (d ∷ bs)) (d ∷ bs)) ≡ true
the_number d bs digit =
    cond_both (d == 48) 1 (prefix_len is_digit (d ∷ bs)) (λ n. is_number (take n (d ∷ bs)) ≡ true)
    (λ _. digit)
    (λ nonzero.
    let more : suc (prefix_len is_digit bs) ≡ prefix_len is_digit (d ∷ bs) = (let one : suc (prefix_len is_digit bs) ≡ 1 + prefix_len is_digit bs = omega arith in one ∙ sym (cond-true _ _ _ digit)) in
    subst (λ n. is_number (take n (d ∷ bs)) ≡ true) more (number_from d (take (prefix_len is_digit bs) bs) digit nonzero (run_passes is_digit bs)))

-- no number is longer
pub the_longest : (d : ℕ) (bs : List ℕ) → is_digit d ≡ true → (same (take (number_length d (d ∷ bs)) (d ∷ bs)) (codes "0") || not (next_is is_digit (drop (number_length d (d ∷ bs)) (d ∷ bs)))) ≡ true
the_longest d bs digit =
    cond_both (d == 48) 1 (prefix_len is_digit (d ∷ bs)) (λ n. (same (take n (d ∷ bs)) (codes "0") || not (next_is is_digit (drop n (d ∷ bs)))) ≡ true)
    (λ zero_first. ap (λ t. (t && same [] []) || not (next_is is_digit bs)) zero_first)
    (λ _. or_right _ _ (run_stops is_digit (d ∷ bs)))

pub number_within : (d : ℕ) (bs : List ℕ) → number_length d (d ∷ bs) ≤ length (d ∷ bs)
number_within d bs = cond_both (d == 48) 1 (prefix_len is_digit (d ∷ bs)) (λ n. n ≤ length (d ∷ bs)) (λ _. omega arith) (λ _. run_within is_digit (d ∷ bs))

-- a number of 2^64 or more at the beginning
pub long_front : (d : ℕ) (ds after : List ℕ) → is_number (d ∷ ds) ≡ true → 2 ^ 64 ≤ decimal (d ∷ ds) → literal d (d ∷ ds ++ after) ≡ Long
long_front d ds after number long =
    let text = d ∷ ds ++ after in
    let n = number_length d text in
    let reaches : length (d ∷ ds) ≤ n =
    cond_both (d == 48) 1 (prefix_len is_digit text) (λ k. length (d ∷ ds) ≤ k)
    (λ zero_first. omega (arith, ap length (zero_alone d ds number zero_first)))
    (λ _. run_least is_digit (d ∷ ds) after (number_digits (d ∷ ds) number)) in
    let front : take (length (d ∷ ds)) (take n text) ≡ d ∷ ds = take-take (length (d ∷ ds)) n text reaches ∙ take_at (d ∷ ds) after (length (d ∷ ds)) refl in
    let large : decimal (d ∷ ds) ≤ decimal (take n text) = subst (λ zs. decimal zs ≤ decimal (take n text)) front (decimal_take (take n text) (length (d ∷ ds))) in
    literal_long n d text refl (le-ltb (decimal (take n text)) (2 ^ 64) (omega arith))
