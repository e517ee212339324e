-- What stands is what `read` answers, whatever the text goes on with.
use Rattle.std.proofs.Common.{◌≡◌, ◌⊎◌, inl, inr, ⊎_elim, ℕ, suc, ◌+◌, ◌<◌, ◌≤◌, ◌^◌, true, false, not, ◌&&◌, ◌||◌, ◌==◌, List, [], ◌∷◌, ◌++◌, length, take, drop, Option, Some, None, codes, refl, sym, ap, ◌∙◌, subst, arith, append_assoc}
use Rattle.std.specs.List.{list_all, prefix_len}
use Rattle.std.specs.Option.{is_some}
use Rattle.std.proofs.lemmas.List.{take_at, length-append}
use Rattle.std.proofs.lemmas.Bool.{and_parts, and_from, or_left, or_right, or_cases, or_parts, cond-true, cond-false, eqb-true, eqb-false, ne_eqb, false≢true, true≢false, not-true, false_from_ne_true}
use Rattle.affc_lex.specs.declared.token.Kind.TheVariants.{Word, Number, Value, Header, Hash, LineEnd, Prelude, Mark}
use Rattle.affc_lex.specs.declared.piece.What.{What}
use Rattle.affc_lex.specs.declared.piece.What.TheVariants.{Space, Comment, Token}
use Rattle.affc_lex.specs.declared.piece.Spot.{Spot}
use Rattle.affc_lex.specs.declared.piece.Found.TheVariants.{Piece, Bad, Open, Long}
use Rattle.affc_lex.specs.Bytes.{is_digit, is_letter, is_letter_or_digit, is_line_feed, is_space, among, same, begins, next_is, ends_at_first, decimal}
use Rattle.affc_lex.specs.Pieces.{stands, is_line_comment, is_block_comment, is_number, is_value, is_small, is_mark, is_word, is_header, is_fresh, is_on_directive, leading_digits, prelude, header_begins, longer_mark, is_after_include}
use Rattle.affc_lex.specs.Faults.{piece_begins, is_longest_literal}
use Rattle.affc_lex.specs.Reading.{read, comment, block_comment, number_length, literal_of, mark, mark_of, mark_length, two_byte_mark, three_byte_mark, header_at, first_place, other_than_line_feed}
use Rattle.affc_lex.proofs.ByteClasses.{all_marks, begins_mark, pairs_begin, doubles_begin, triples_begin}
use Rattle.affc_lex.proofs.Lists.{by_test, same_is, begins_splits, begins_append, run_at, ends_placed, contains_is}
use Rattle.affc_lex.proofs.Literals.{number_digits, value_is, length_at, next_word_digit, suffix_goes_on, literal_small, literal_long, found_number, found_value, stuck_number, stuck_value, long_front}
use Rattle.affc_lex.proofs.Headers.{header_at_is, header_at_found}
use Rattle.affc_lex.proofs.FirstBytes.{read_space, read_letter, read_digit, read_other, read_mark}
use Rattle.affc_lex.specs.FoundAt.{OpensHere, LongHere}

-- Spaces and comments

complete_space : (spot : Spot) (bytes after : List ℕ) → stands spot Space bytes after ≡ true → read spot (bytes ++ after) ≡ Piece Space (length bytes)
complete_space spot [] after e = absurd (false≢true e)
complete_space spot (b ∷ []) after e =
    let parts = and_parts (is_space b) (not (is_line_feed b && is_on_directive spot)) e in
    read_space spot b after parts.0 ∙ cond-false _ _ _ (not-true _ parts.1)
complete_space spot (b ∷ c ∷ bs) after e = absurd (false≢true e)

line_comment_found : (spot : Spot) (inside after : List ℕ) → is_line_comment (47 ∷ 47 ∷ inside) after ≡ true → read spot (47 ∷ 47 ∷ inside ++ after) ≡ Piece Comment (length (47 ∷ 47 ∷ inside))
line_comment_found spot inside after e =
    let parts = and_parts (begins (codes "//") (47 ∷ 47 ∷ inside) && list_all other_than_line_feed (47 ∷ 47 ∷ inside)) (not (next_is other_than_line_feed after)) e in
    let run : 2 + prefix_len other_than_line_feed (inside ++ after) ≡ suc (suc (length inside)) = omega (arith, run_at other_than_line_feed inside after (and_parts (begins (codes "//") (47 ∷ 47 ∷ inside)) (list_all other_than_line_feed (47 ∷ 47 ∷ inside)) parts.0).1 parts.1) in
    ap (Piece Comment) run

complete_line : (spot : Spot) (bytes after : List ℕ) → is_line_comment bytes after ≡ true → read spot (bytes ++ after) ≡ Piece Comment (length bytes)
complete_line spot bytes after e =
    let parts = and_parts (begins (codes "//") bytes && list_all other_than_line_feed bytes) (not (next_is other_than_line_feed after)) e in
    let whole : bytes ≡ 47 ∷ 47 ∷ drop 2 bytes = begins_splits (codes "//") bytes (and_parts (begins (codes "//") bytes) (list_all other_than_line_feed bytes) parts.0).0 in
    subst (λ zs. read spot (zs ++ after) ≡ Piece Comment (length zs)) (sym whole) (line_comment_found spot (drop 2 bytes) after (subst (λ zs. is_line_comment zs after ≡ true) whole e))

complete_block : (spot : Spot) (bytes after : List ℕ) → is_block_comment bytes ≡ true → read spot (bytes ++ after) ≡ Piece Comment (length bytes)
complete_block spot [] after e = absurd (false≢true e)
complete_block spot (a ∷ []) after e = absurd (false≢true e)
complete_block spot (a ∷ b ∷ inside) after e =
    let parts = and_parts (same (a ∷ b ∷ []) (codes "/*")) (ends_at_first (codes "*/") inside) e in
    let opens : a ∷ b ∷ [] ≡ 47 ∷ 42 ∷ [] = same_is (a ∷ b ∷ []) (codes "/*") parts.0 in
    let found = ends_placed (codes "*/") inside after parts.1 in
    let long : found.0 + 4 ≡ suc (suc (length inside)) = omega (arith, found.2) in
    subst (λ zs. read spot (zs ++ (inside ++ after)) ≡ Piece Comment (length (zs ++ inside))) (sym opens) (ap block_comment found.1 ∙ ap (Piece Comment) long)

complete_comment : (spot : Spot) (bytes after : List ℕ) → stands spot Comment bytes after ≡ true → read spot (bytes ++ after) ≡ Piece Comment (length bytes)
complete_comment spot bytes after e = ⊎_elim (complete_line spot bytes after) (complete_block spot bytes after) (or_cases (is_line_comment bytes after) (is_block_comment bytes) e)

-- Words

complete_word : (spot : Spot) (bytes after : List ℕ) → stands spot (Token Word) bytes after ≡ true → read spot (bytes ++ after) ≡ Piece (Token Word) (length bytes)
complete_word spot [] after e = absurd (false≢true e)
complete_word spot (b ∷ bs) after e =
    let parts = and_parts (is_word (b ∷ bs) && not (next_is is_letter_or_digit after)) (not (begins prelude (b ∷ bs ++ after))) e in
    let front = and_parts (is_word (b ∷ bs)) (not (next_is is_letter_or_digit after)) parts.0 in
    let letters = and_parts (is_letter b) (list_all is_letter_or_digit bs) front.0 in
    let all : list_all is_letter_or_digit (b ∷ bs) ≡ true = and_from _ _ (or_left (is_letter b) (is_digit b) letters.0) letters.1 in
    read_letter spot b (bs ++ after) letters.0 ∙ cond-false _ _ _ (not-true _ parts.1) ∙ ap (Piece (Token Word)) (run_at is_letter_or_digit (b ∷ bs) after all front.1)

complete_prelude : (spot : Spot) (bytes after : List ℕ) → same bytes prelude ≡ true → read spot (bytes ++ after) ≡ Piece (Token Prelude) (length bytes)
complete_prelude spot bytes after e =
    let here : read spot (prelude ++ after) ≡ Piece (Token Prelude) (length prelude) = cond-true (begins prelude (prelude ++ after)) (Piece (Token Prelude) 426) (Piece (Token Word) (prefix_len is_letter_or_digit (prelude ++ after))) (begins_append prelude after) in
    subst (λ zs. read spot (zs ++ after) ≡ Piece (Token Prelude) (length zs)) (sym (same_is bytes prelude e)) here

-- Numbers and values

digit_of_number : (d : ℕ) (ds : List ℕ) → is_number (d ∷ ds) ≡ true → is_digit d ≡ true
digit_of_number d ds e = (and_parts (is_digit d) (list_all is_digit ds) (number_digits (d ∷ ds) e)).0

small_front : (ds after : List ℕ) → is_small ds ≡ true → is_small (take (length ds) (ds ++ after)) ≡ true
small_front ds after small = ap is_small (take_at ds after (length ds) refl) ∙ small

no_suffix_at : (t : List ℕ) → next_is is_letter_or_digit t ≡ false → begins (codes "ULL") t ≡ false
no_suffix_at t ended = false_from_ne_true _ (λ suffix. false≢true (sym ended ∙ suffix_goes_on t suffix))

complete_number : (spot : Spot) (bytes after : List ℕ) → stands spot (Token Number) bytes after ≡ true → read spot (bytes ++ after) ≡ Piece (Token Number) (length bytes)
complete_number spot [] after e = absurd (false≢true e)
complete_number spot (d ∷ ds) after e =
    let parts = and_parts (is_number (d ∷ ds) && is_small (d ∷ ds)) (not (next_is is_letter_or_digit after)) e in
    let front = and_parts (is_number (d ∷ ds)) (is_small (d ∷ ds)) parts.0 in
    let ended : next_is is_letter_or_digit after ≡ false = not-true _ parts.1 in
    read_digit spot d (ds ++ after) (digit_of_number d ds front.0)
    ∙ literal_small (length (d ∷ ds)) d (d ∷ ds ++ after) (length_at d ds after front.0 (or_right _ _ (next_word_digit after parts.1))) (small_front (d ∷ ds) after front.1)
    ∙ found_number (d ∷ ds) after (no_suffix_at after ended) ended

complete_value_of : (spot : Spot) (ds after : List ℕ) → is_number ds ≡ true → is_small ds ≡ true → next_is is_letter_or_digit after ≡ false → read spot (ds ++ (codes "ULL" ++ after)) ≡ Piece (Token Value) (length ds + 3)
complete_value_of spot [] after number small ended = absurd (false≢true number)
complete_value_of spot (d ∷ ds) after number small ended =
    read_digit spot d (ds ++ (codes "ULL" ++ after)) (digit_of_number d ds number)
    ∙ literal_small (length (d ∷ ds)) d (d ∷ ds ++ (codes "ULL" ++ after)) (length_at d ds (codes "ULL" ++ after) number (or_right _ _ refl)) (small_front (d ∷ ds) (codes "ULL" ++ after) small)
    ∙ found_value (d ∷ ds) after ended

complete_value : (spot : Spot) (bytes after : List ℕ) → stands spot (Token Value) bytes after ≡ true → read spot (bytes ++ after) ≡ Piece (Token Value) (length bytes)
complete_value spot bytes after e =
    let parts = and_parts (is_value bytes && is_small (leading_digits bytes)) (not (next_is is_letter_or_digit after)) e in
    let front = and_parts (is_value bytes) (is_small (leading_digits bytes)) parts.0 in
    let value = value_is bytes front.0 in
    let ds = leading_digits bytes in
    ap (read spot) (ap (λ zs. zs ++ after) value.1 ∙ append_assoc ds (codes "ULL") after)
    ∙ complete_value_of spot ds after value.0 front.1 (not-true _ parts.1)
    ∙ ap (Piece (Token Value)) (sym (ap length value.1 ∙ length-append ds (codes "ULL")))

-- Hashes, line ends, headers and marks

complete_hash : (spot : Spot) (bytes after : List ℕ) → stands spot (Token Hash) bytes after ≡ true → read spot (bytes ++ after) ≡ Piece (Token Hash) (length bytes)
complete_hash spot bytes after e =
    let parts = and_parts (is_fresh spot) (same bytes (codes "#")) e in
    let here : read spot (codes "#" ++ after) ≡ Piece (Token Hash) 1 = cond-true _ _ _ parts.0 in
    subst (λ zs. read spot (zs ++ after) ≡ Piece (Token Hash) (length zs)) (sym (same_is bytes (codes "#") parts.1)) here

complete_line_end : (spot : Spot) (b : ℕ) (bs after : List ℕ) → stands spot (Token LineEnd) (b ∷ bs) after ≡ true → read spot (b ∷ bs ++ after) ≡ Piece (Token LineEnd) (length (b ∷ bs))
complete_line_end spot b bs after e =
    let parts = and_parts (is_on_directive spot) (same (b ∷ bs) (codes "\n") || (same (b ∷ bs) [] && same after [])) e in
    let here : read spot (codes "\n" ++ after) ≡ Piece (Token LineEnd) 1 = cond-true _ _ _ parts.0 in
    let feed : same (b ∷ bs) (codes "\n") ≡ true = ⊎_elim (λ h. h) (λ h. absurd (false≢true h)) (or_cases _ _ parts.1) in
    subst (λ zs. read spot (zs ++ after) ≡ Piece (Token LineEnd) (length zs)) (sym (same_is (b ∷ bs) (codes "\n") feed)) here

complete_header : (spot : Spot) (bytes after : List ℕ) → stands spot (Token Header) bytes after ≡ true → read spot (bytes ++ after) ≡ Piece (Token Header) (length bytes)
complete_header spot [] after e = absurd (false≢true (and_parts (is_after_include spot) false e).1)
complete_header spot (b ∷ bs) after e =
    let parts = and_parts (is_after_include spot) (is_header (b ∷ bs)) e in
    let angle : b ≡ 60 = eqb-true b 60 (and_parts (b == 60) _ parts.1).0 in
    let header = header_at_found spot (b ∷ bs) after parts.0 parts.1 in
    let goes : read spot (b ∷ bs ++ after) ≡ mark (header_at spot (b ∷ bs ++ after)) (b ∷ bs ++ after) = read_mark spot b (bs ++ after) (begins_mark b (ap (among all_marks) angle)) in
    goes ∙ ap (λ o. mark o (b ∷ bs ++ after)) header

no_header_found : (spot : Spot) (text : List ℕ) → header_begins spot text ≡ false → header_at spot text ≡ None
no_header_found spot text e = of_option (header_at spot text) (sym (header_at_is spot text) ∙ e)
  where
    of_option : (o : Option ℕ) → is_some o ≡ false → o ≡ None
    of_option None h = refl
    of_option (Some n) h = absurd (true≢false h)

first_of_mark : (a : ℕ) (bs : List ℕ) → is_mark (a ∷ bs) ≡ true → among all_marks a ≡ true
first_of_mark a [] e = e
first_of_mark a (b ∷ []) e =
    ⊎_elim
    (λ h. pairs_begin a (and_parts (b == 61) (among (codes "+-*&|^<>=!") a) h).1)
    (λ h. doubles_begin a (and_parts (a == b) (among (codes "+-&|<>") a) h).1)
    (or_cases (b == 61 && among (codes "+-*&|^<>=!") a) (a == b && among (codes "+-&|<>") a) e)
first_of_mark a (b ∷ c ∷ []) e =
    let front = and_parts (a == b && among (codes "<>") a) (c == 61) e in
    triples_begin a (and_parts (a == b) (among (codes "<>") a) front.0).1
first_of_mark a (b ∷ c ∷ d ∷ bs) e = absurd (false≢true e)

mark_length_found : (bytes after : List ℕ) → is_mark bytes ≡ true → longer_mark bytes after ≡ false → mark_of (mark_length (bytes ++ after)) ≡ Piece (Token Mark) (length bytes)
mark_length_found [] after e longest = absurd (false≢true e)
mark_length_found (a ∷ []) [] e longest = ap mark_of (cond-true _ _ _ e)
mark_length_found (a ∷ []) (b ∷ []) e longest = ap mark_of (cond-false _ _ _ longest ∙ cond-true _ _ _ e)
mark_length_found (a ∷ []) (b ∷ c ∷ after) e longest =
    let parts = or_parts (is_mark (a ∷ b ∷ [])) (is_mark (a ∷ b ∷ c ∷ [])) longest in
    ap mark_of (cond-false _ _ _ parts.1 ∙ cond-false _ _ _ parts.0 ∙ cond-true _ _ _ e)
mark_length_found (a ∷ b ∷ []) [] e longest = ap mark_of (cond-true _ _ _ e)
mark_length_found (a ∷ b ∷ []) (c ∷ after) e longest = ap mark_of (cond-false _ _ _ longest ∙ cond-true _ _ _ e)
mark_length_found (a ∷ b ∷ c ∷ []) after e longest = ap mark_of (cond-true _ _ _ e)
mark_length_found (a ∷ b ∷ c ∷ d ∷ bytes) after e longest = absurd (false≢true e)

complete_mark : (spot : Spot) (bytes after : List ℕ) → stands spot (Token Mark) bytes after ≡ true → read spot (bytes ++ after) ≡ Piece (Token Mark) (length bytes)
complete_mark spot [] after e = absurd (false≢true e)
complete_mark spot (a ∷ bs) after e =
    let parts = and_parts (is_mark (a ∷ bs) && not (longer_mark (a ∷ bs) after)) (not (header_begins spot (a ∷ bs ++ after))) e in
    let front = and_parts (is_mark (a ∷ bs)) (not (longer_mark (a ∷ bs) after)) parts.0 in
    read_mark spot a (bs ++ after) (begins_mark a (first_of_mark a bs front.0))
    ∙ ap (λ o. mark o (a ∷ bs ++ after)) (no_header_found spot (a ∷ bs ++ after) (not-true _ parts.1))
    ∙ mark_length_found (a ∷ bs) after front.0 (not-true _ front.1)

-- a piece of some bytes that stands is what `read` answers
pub complete : (spot : Spot) (what : What) (b : ℕ) (bs after : List ℕ) → stands spot what (b ∷ bs) after ≡ true → read spot (b ∷ bs ++ after) ≡ Piece what (length (b ∷ bs))
complete spot Space b bs after e = complete_space spot (b ∷ bs) after e
complete spot Comment b bs after e = complete_comment spot (b ∷ bs) after e
complete spot (Token Word) b bs after e = complete_word spot (b ∷ bs) after e
complete spot (Token Number) b bs after e = complete_number spot (b ∷ bs) after e
complete spot (Token Value) b bs after e = complete_value spot (b ∷ bs) after e
complete spot (Token Header) b bs after e = complete_header spot (b ∷ bs) after e
complete spot (Token Hash) b bs after e = complete_hash spot (b ∷ bs) after e
complete spot (Token LineEnd) b bs after e = complete_line_end spot b bs after e
complete spot (Token Prelude) b bs after e = complete_prelude spot (b ∷ bs) after e
complete spot (Token Mark) b bs after e = complete_mark spot (b ∷ bs) after e

-- a piece of no bytes is a line's end at the end of the text
pub complete_empty : (spot : Spot) (what : What) (after : List ℕ) → stands spot what [] after ≡ true → (what ≡ Token LineEnd) × (after ≡ []) × (is_on_directive spot ≡ true)
complete_empty spot Space after e = absurd (false≢true e)
complete_empty spot Comment after e = absurd (false≢true e)
complete_empty spot (Token Word) after e = absurd (false≢true e)
complete_empty spot (Token Number) after e = absurd (false≢true e)
complete_empty spot (Token Value) after e = absurd (false≢true e)
complete_empty spot (Token Header) after e = absurd (false≢true (and_parts (is_after_include spot) false e).1)
complete_empty spot (Token Hash) after e = absurd (false≢true (and_parts (is_fresh spot) false e).1)
complete_empty spot (Token LineEnd) after e =
    let parts = and_parts (is_on_directive spot) (same [] (codes "\n") || (same [] [] && same after [])) e in
    (refl, same_is after [] parts.1, parts.0)
complete_empty spot (Token Prelude) after e = absurd (false≢true e)
complete_empty spot (Token Mark) after e = absurd (false≢true e)

-- Faults

pub complete_opens : (spot : Spot) (text : List ℕ) → OpensHere text → read spot text ≡ Open
complete_opens spot text o =
    let inside = o.inside in
    let nowhere : first_place (begins (codes "*/")) inside ≡ None = of_option _ (sym (contains_is (codes "*/") inside) ∙ not-true _ o.open_end) in
    ap (read spot) o.opens ∙ ap block_comment nowhere
  where
    of_option : (p : Option ℕ) → is_some p ≡ false → p ≡ None
    of_option None h = refl
    of_option (Some n) h = absurd (true≢false h)

pub complete_long : (spot : Spot) (text : List ℕ) → LongHere text → read spot text ≡ Long
complete_long spot text l = ap (read spot) l.begins_so ∙ of_digits l.digits l.number l.long
  where
    of_digits : (ds : List ℕ) → is_number ds ≡ true → 2 ^ 64 ≤ decimal ds → read spot (ds ++ l.after) ≡ Long
    of_digits [] number long = absurd (false≢true number)
    of_digits (d ∷ ds) number long = read_digit spot d (ds ++ l.after) (digit_of_number d ds number) ∙ long_front d ds l.after number long

turned : (b c : ℕ) → (b == c) ≡ false → (c == b) ≡ false
turned b c e = ne_eqb c b (λ h. eqb-false b c e (sym h))

-- no comment begins with a slash before this text
no_comment : (bs : List ℕ) → begins (codes "//") (47 ∷ bs) ≡ false → begins (codes "/*") (47 ∷ bs) ≡ false → comment bs ≡ Bad 0
no_comment [] no_line no_block = refl
no_comment (c ∷ bs) no_line no_block = cond-false _ _ _ (second 47 no_line) ∙ cond-false _ _ _ (second 42 no_block)
  where
    second : (x : ℕ) → (x == c && true) ≡ false → (c == x) ≡ false
    second x e = turned x c (by_test (x == c) (λ h. absurd (false≢true (sym e ∙ ap (λ t. t && true) h))) (λ h. h))

no_mark : (spot : Spot) (b : ℕ) (bs : List ℕ) → is_mark (b ∷ []) ≡ false → mark (header_at spot (b ∷ bs)) (b ∷ bs) ≡ Bad 0
no_mark spot b bs none =
    let no_angle : (b == 60) ≡ false = false_from_ne_true _ (λ h. false≢true (sym none ∙ ap (among all_marks) (eqb-true b 60 h))) in
    let no_header : header_at spot (b ∷ bs) ≡ None = by_test (is_after_include spot) (λ h. cond-true _ _ _ h ∙ cond-false _ _ _ no_angle) (λ h. cond-false _ _ _ h) in
    ap (λ o. mark o (b ∷ bs)) no_header ∙ ap mark_of (cond-false _ _ _ (no_three bs) ∙ cond-false _ _ _ (no_two bs) ∙ cond-false _ _ _ none)
  where
    no_three : (cs : List ℕ) → three_byte_mark (b ∷ cs) ≡ false
    no_three [] = refl
    no_three (c ∷ []) = refl
    no_three (c ∷ d ∷ cs) = false_from_ne_true _ (λ h. false≢true (sym none ∙ first_of_mark b (c ∷ d ∷ []) h))

    no_two : (cs : List ℕ) → two_byte_mark (b ∷ cs) ≡ false
    no_two [] = refl
    no_two (c ∷ cs) = false_from_ne_true _ (λ h. false≢true (sym none ∙ first_of_mark b (c ∷ []) h))

pub complete_nothing : (spot : Spot) (b : ℕ) (bs : List ℕ) → not (piece_begins spot (b ∷ bs)) ≡ true → read spot (b ∷ bs) ≡ Bad 0
complete_nothing spot b bs e =
    let text = b ∷ bs in
    let six = or_parts (next_is is_space text || begins (codes "//") text || begins (codes "/*") text || next_is is_letter text || next_is is_digit text || is_mark (b ∷ [])) (begins (codes "#") text && is_fresh spot) (not-true _ e) in
    let five = or_parts (next_is is_space text || begins (codes "//") text || begins (codes "/*") text || next_is is_letter text || next_is is_digit text) (is_mark (b ∷ [])) six.0 in
    let four = or_parts (next_is is_space text || begins (codes "//") text || begins (codes "/*") text || next_is is_letter text) (next_is is_digit text) five.0 in
    let three = or_parts (next_is is_space text || begins (codes "//") text || begins (codes "/*") text) (next_is is_letter text) four.0 in
    let two = or_parts (next_is is_space text || begins (codes "//") text) (begins (codes "/*") text) three.0 in
    let one = or_parts (next_is is_space text) (begins (codes "//") text) two.0 in
    by_test (b == 47)
    (λ slash.
    let b_is = eqb-true b 47 slash in
    ap (λ x. read spot (x ∷ bs)) b_is ∙ no_comment bs (subst (λ x. begins (codes "//") (x ∷ bs) ≡ false) b_is one.1) (subst (λ x. begins (codes "/*") (x ∷ bs) ≡ false) b_is two.1))
    (λ no_slash.
    by_test (b == 35)
    (λ is_hash.
    let b_is = eqb-true b 35 is_hash in
    ap (λ x. read spot (x ∷ bs)) b_is ∙ cond-false _ _ _ (subst (λ x. (begins (codes "#") (x ∷ bs) && is_fresh spot) ≡ false) b_is six.1))
    (λ no_hash. read_other spot b bs one.0 no_slash three.1 four.1 no_hash ∙ no_mark spot b bs five.1))

-- a number or value with a letter, digit or `_` behind it: what `read` answers, also where the number is too large
abbrev pub StuckOr : Spot → List ℕ → ℕ → Type 0
StuckOr spot text n = (read spot text ≡ Bad n) ⊎ (read spot text ≡ Long)

stuck_at : (spot : Spot) (d : ℕ) (ds after : List ℕ) (n : ℕ) → is_digit d ≡ true → number_length d (d ∷ ds ++ after) ≡ length (d ∷ ds) → literal_of (length (d ∷ ds)) (d ∷ ds ++ after) ≡ Bad n → StuckOr spot (d ∷ ds ++ after) n
stuck_at spot d ds after n digit length_is stuck =
    by_test (is_small (take (length (d ∷ ds)) (d ∷ ds ++ after)))
    (λ small. inl (read_digit spot d (ds ++ after) digit ∙ literal_small (length (d ∷ ds)) d (d ∷ ds ++ after) length_is small ∙ stuck))
    (λ long. inr (read_digit spot d (ds ++ after) digit ∙ literal_long (length (d ∷ ds)) d (d ∷ ds ++ after) length_is long))

stuck_value_of : (spot : Spot) (ds after : List ℕ) → is_number ds ≡ true → next_is is_letter_or_digit after ≡ true → StuckOr spot (ds ++ (codes "ULL" ++ after)) (length ds + 3)
stuck_value_of spot [] after number stuck = absurd (false≢true number)
stuck_value_of spot (d ∷ ds) after number stuck =
    stuck_at spot d ds (codes "ULL" ++ after) (length (d ∷ ds) + 3) (digit_of_number d ds number) (length_at d ds (codes "ULL" ++ after) number (or_right _ _ refl)) (stuck_value (d ∷ ds) after stuck)

stuck_number_of : (spot : Spot) (ds after : List ℕ) → is_number ds ≡ true → begins (codes "ULL") after ≡ false → (same ds (codes "0") || not (next_is is_digit after)) ≡ true → next_is is_letter_or_digit after ≡ true → StuckOr spot (ds ++ after) (length ds)
stuck_number_of spot [] after number no_suffix longest stuck = absurd (false≢true number)
stuck_number_of spot (d ∷ ds) after number no_suffix longest stuck =
    stuck_at spot d ds after (length (d ∷ ds)) (digit_of_number d ds number) (length_at d ds after number longest) (stuck_number (d ∷ ds) after no_suffix stuck)

pub complete_stuck : (spot : Spot) (bytes after : List ℕ) → is_longest_literal bytes after ≡ true → next_is is_letter_or_digit after ≡ true → StuckOr spot (bytes ++ after) (length bytes)
complete_stuck spot bytes after longest stuck =
    ⊎_elim
    (λ value.
    let parts = value_is bytes value in
    let ds = leading_digits bytes in
    let whole : bytes ++ after ≡ ds ++ (codes "ULL" ++ after) = ap (λ zs. zs ++ after) parts.1 ∙ append_assoc ds (codes "ULL") after in
    let long : length ds + 3 ≡ length bytes = sym (ap length parts.1 ∙ length-append ds (codes "ULL")) in
    subst (λ zs. StuckOr spot zs (length bytes)) (sym whole) (subst (StuckOr spot (ds ++ (codes "ULL" ++ after))) long (stuck_value_of spot ds after parts.0 stuck)))
    (λ number.
    let parts = and_parts (is_number bytes && not (begins (codes "ULL") after)) (same bytes (codes "0") || not (next_is is_digit after)) number in
    let front = and_parts (is_number bytes) (not (begins (codes "ULL") after)) parts.0 in
    stuck_number_of spot bytes after front.0 (not-true _ front.1) parts.1 stuck)
    (or_cases (is_value bytes) (is_number bytes && not (begins (codes "ULL") after) && (same bytes (codes "0") || not (next_is is_digit after))) longest)

pub literal_some : (bytes after : List ℕ) → is_longest_literal bytes after ≡ true → 0 < length bytes
literal_some [] after e = absurd (false≢true e)
literal_some (b ∷ bs) after e = omega arith
