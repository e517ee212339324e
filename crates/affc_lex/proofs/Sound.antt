-- What `read` answers is so: the piece stands, or the fault.
use Rattle.std.proofs.Common.{◌≡◌, inl, inr, ℕ, suc, ◌+◌, ◌<◌, ◌≤◌, Bool, true, false, not, ◌&&◌, ◌||◌, ◌==◌, List, [], ◌∷◌, ◌++◌, length, take, drop, Option, Some, None, codes, refl, sym, ap, ◌∙◌, subst, arith, append_assoc}
use Rattle.std.specs.List.{prefix_len}
use Rattle.std.specs.Option.{is_some}
use Rattle.std.proofs.lemmas.List.{take_at, take-append-drop, length-append, length-take-le}
use Rattle.std.proofs.lemmas.Bool.{and_parts, and_from, and_left, or_left, or_right, or_from, cond_both, cond-true, cond-false, eqb-true, eqb-false, ne_eqb, false≢true, not_from_false, ltb-false}
use Rattle.affc_lex.specs.declared.token.Kind.TheVariants.{Word, Hash, LineEnd, Prelude, Mark}
use Rattle.affc_lex.specs.declared.piece.What.TheVariants.{Space, Comment, Token}
use Rattle.affc_lex.specs.declared.piece.Spot.{Spot}
use Rattle.affc_lex.specs.declared.piece.Found.TheVariants.{Piece, Bad}
use Rattle.affc_lex.specs.Bytes.{is_digit, is_letter, is_letter_or_digit, is_line_feed, is_space, same, begins, next_is}
use Rattle.affc_lex.specs.Pieces.{stands, is_value, is_small, is_mark, is_word, is_fresh, is_on_directive, leading_digits, prelude, header_begins}
use Rattle.affc_lex.specs.Faults.{piece_begins}
use Rattle.affc_lex.specs.Reading.{read, space, comment, block_comment, word, number_length, literal, literal_of, hash, mark, mark_of, mark_length, two_byte_mark, three_byte_mark, header_at, first_place, other_than_line_feed}
use Rattle.affc_lex.proofs.Runs.{run_passes, run_within}
use Rattle.affc_lex.proofs.Lists.{by_test, same_refl, begins_take, begins_within, begins_splits, run_stops, place_ends, contains_is}
use Rattle.affc_lex.proofs.Literals.{the_number, the_longest, number_within, value_from, literal_small, literal_long}
use Rattle.affc_lex.proofs.Headers.{header_at_is, header_at_cut}
use Rattle.affc_lex.proofs.FirstBytes.{read_space, read_letter, read_digit, read_other}
use Rattle.affc_lex.specs.FoundAt.{FoundAt}

-- nothing begins where none of the seven does
nothing : (a b c d e f g : Bool) → a ≡ false → b ≡ false → c ≡ false → d ≡ false → e ≡ false → f ≡ false → g ≡ false → not (a || b || c || d || e || f || g) ≡ true
nothing a b c d e f g ha hb hc hd he hf hg =
    not_from_false _ (or_from _ _ (or_from _ _ (or_from _ _ (or_from _ _ (or_from _ _ (or_from _ _ ha hb) hc) hd) he) hf) hg)

-- a test of a byte against another, the other way round
turned : (b c : ℕ) → (b == c) ≡ false → (c == b) ≡ false
turned b c e = ne_eqb c b (λ h. eqb-false b c e (sym h))

-- Spaces

space_found : (spot : Spot) (b : ℕ) (bs : List ℕ) → is_space b ≡ true → FoundAt spot (b ∷ bs) (space spot b)
space_found spot b bs e =
    cond_both (is_line_feed b && is_on_directive spot) (Piece (Token LineEnd) 1) (Piece Space 1) (FoundAt spot (b ∷ bs))
    (λ both.
    let parts = and_parts (is_line_feed b) (is_on_directive spot) both in
    record { some = omega arith; within = omega arith; standing = and_from _ _ parts.1 (or_left _ _ (and_from (b == 10) true parts.0 refl)) })
    (λ not_both. record { some = omega arith; within = omega arith; standing = and_from _ _ e (not_from_false _ not_both) })

-- Comments

line_found : (spot : Spot) (inside : List ℕ) → FoundAt spot (47 ∷ 47 ∷ inside) (Piece Comment (2 + prefix_len other_than_line_feed inside))
line_found spot inside =
    let n = prefix_len other_than_line_feed inside in
    let more : suc (suc n) ≡ 2 + n = omega arith in
    let cut : (take (suc (suc n)) (47 ∷ 47 ∷ inside) ≡ take (2 + n) (47 ∷ 47 ∷ inside)) × (drop (suc (suc n)) (47 ∷ 47 ∷ inside) ≡ drop (2 + n) (47 ∷ 47 ∷ inside)) =
    (ap (λ k. take k (47 ∷ 47 ∷ inside)) more, ap (λ k. drop k (47 ∷ 47 ∷ inside)) more) in
    let here : stands spot Comment (take (suc (suc n)) (47 ∷ 47 ∷ inside)) (drop (suc (suc n)) (47 ∷ 47 ∷ inside)) ≡ true =
    or_left _ _ (and_from _ _ (run_passes other_than_line_feed inside) (run_stops other_than_line_feed inside)) in
    record {
      some = omega arith;
      within = omega (arith, run_within other_than_line_feed inside);
      standing = subst (λ k. stands spot Comment (take k (47 ∷ 47 ∷ inside)) (drop k (47 ∷ 47 ∷ inside)) ≡ true) more here;
    }

block_found : (spot : Spot) (inside : List ℕ) (o : Option ℕ) → first_place (begins (codes "*/")) inside ≡ o → FoundAt spot (47 ∷ 42 ∷ inside) (block_comment o)
block_found spot inside None e = record { inside = inside; opens = refl; open_end = not_from_false _ (contains_is (codes "*/") inside ∙ ap is_some e) }
block_found spot inside (Some n) e =
    let ended = place_ends 42 (codes "/") inside n e in
    let more : suc (suc (n + 2)) ≡ n + 4 = omega arith in
    let here : stands spot Comment (take (suc (suc (n + 2))) (47 ∷ 42 ∷ inside)) (drop (suc (suc (n + 2))) (47 ∷ 42 ∷ inside)) ≡ true = ended.0 in
    record {
      some = omega arith;
      within = omega (arith, ended.1);
      standing = subst (λ k. stands spot Comment (take k (47 ∷ 42 ∷ inside)) (drop k (47 ∷ 42 ∷ inside)) ≡ true) more here;
    }

slash_found : (spot : Spot) (bs : List ℕ) → FoundAt spot (47 ∷ bs) (comment bs)
slash_found spot [] = inl (refl, refl)
slash_found spot (c ∷ inside) =
    by_test (c == 47)
    (λ slash. subst (FoundAt spot (47 ∷ c ∷ inside)) (sym (cond-true _ _ _ slash)) (subst (λ x. FoundAt spot (47 ∷ x ∷ inside) (Piece Comment (2 + prefix_len other_than_line_feed inside))) (sym (eqb-true c 47 slash)) (line_found spot inside)))
    (λ no_slash.
    by_test (c == 42)
    (λ star. subst (FoundAt spot (47 ∷ c ∷ inside)) (sym (cond-false _ _ _ no_slash ∙ cond-true _ _ _ star)) (subst (λ x. FoundAt spot (47 ∷ x ∷ inside) (block_comment (first_place (begins (codes "*/")) inside))) (sym (eqb-true c 42 star)) (block_found spot inside _ refl)))
    (λ no_star.
    let lone : not (piece_begins spot (47 ∷ c ∷ inside)) ≡ true =
    nothing _ _ _ _ _ _ _ refl (and_left (47 == c) true (turned c 47 no_slash)) (and_left (42 == c) true (turned c 42 no_star)) refl refl refl refl in
    subst (FoundAt spot (47 ∷ c ∷ inside)) (sym (cond-false _ _ _ no_slash ∙ cond-false _ _ _ no_star)) (inl (refl, lone))))

-- Words

word_found : (spot : Spot) (b : ℕ) (bs : List ℕ) → is_letter b ≡ true → FoundAt spot (b ∷ bs) (word (b ∷ bs))
word_found spot b bs e =
    cond_both (begins prelude (b ∷ bs)) (Piece (Token Prelude) 426) (Piece (Token Word) (prefix_len is_letter_or_digit (b ∷ bs))) (FoundAt spot (b ∷ bs))
    (λ here. record { some = omega arith; within = begins_within prelude (b ∷ bs) here; standing = ap (λ zs. same zs prelude) (begins_take prelude (b ∷ bs) here) ∙ same_refl prelude })
    (λ elsewhere.
    let text = b ∷ bs in
    let n = prefix_len is_letter_or_digit text in
    let goes : is_letter_or_digit b ≡ true = or_left (is_letter b) (is_digit b) e in
    let more : suc (prefix_len is_letter_or_digit bs) ≡ n = (let one : suc (prefix_len is_letter_or_digit bs) ≡ 1 + prefix_len is_letter_or_digit bs = omega arith in one ∙ sym (cond-true _ _ _ goes)) in
    let spelled : is_word (take n text) ≡ true = subst (λ k. is_word (take k text) ≡ true) more (and_from _ _ e (run_passes is_letter_or_digit bs)) in
    record {
      some = omega arith;
      within = run_within is_letter_or_digit text;
      standing = and_from _ _ (and_from _ _ spelled (run_stops is_letter_or_digit text)) (not_from_false _ (ap (begins prelude) (take-append-drop n text) ∙ elsewhere));
    })

-- Numbers and values

cut_value : (n : ℕ) (text : List ℕ) → n ≤ length text → begins (codes "ULL") (drop n text) ≡ true → (take (n + 3) text ≡ take n text ++ codes "ULL") × (n + 3 ≤ length text)
cut_value n text within e =
    let rest = drop 3 (drop n text) in
    let whole : text ≡ (take n text ++ codes "ULL") ++ rest =
    sym (take-append-drop n text) ∙ ap (λ zs. take n text ++ zs) (begins_splits (codes "ULL") (drop n text) e) ∙ sym (append_assoc (take n text) (codes "ULL") rest) in
    let front : length (take n text ++ codes "ULL") ≡ n + 3 = omega (arith, length-append (take n text) (codes "ULL"), length-take-le n text within) in
    (ap (take (n + 3)) whole ∙ take_at (take n text ++ codes "ULL") rest (n + 3) front, omega (arith, ap length whole, length-append (take n text ++ codes "ULL") rest))

literal_of_found : (spot : Spot) (d : ℕ) (bs : List ℕ) → is_digit d ≡ true → is_small (take (number_length d (d ∷ bs)) (d ∷ bs)) ≡ true → FoundAt spot (d ∷ bs) (literal_of (number_length d (d ∷ bs)) (d ∷ bs))
literal_of_found spot d bs digit small =
    let text = d ∷ bs in
    let n = number_length d text in
    let number = the_number d bs digit in
    let within = number_within d bs in
    let some : 0 < n = cond_both (d == 48) 1 (prefix_len is_digit text) (λ k. 0 < k) (λ _. omega arith) (λ _. (let one : prefix_len is_digit text ≡ 1 + prefix_len is_digit bs = cond-true _ _ _ digit in omega arith)) in
    by_test (begins (codes "ULL") (drop n text))
    (λ suffix.
    let cut = cut_value n text within suffix in
    let value = value_from (take n text) number in
    by_test (next_is is_letter_or_digit (drop (n + 3) text))
    (λ stuck. subst (FoundAt spot text) (sym (cond-true _ _ _ suffix ∙ cond-true _ _ _ stuck)) (inr (record { within = cut.1; longest = or_left _ _ (ap is_value cut.0 ∙ value.0); stuck = stuck })))
    (λ ended.
    subst (FoundAt spot text) (sym (cond-true _ _ _ suffix ∙ cond-false _ _ _ ended))
    (record {
      some = omega arith;
      within = cut.1;
      standing = and_from _ _ (and_from _ _ (ap is_value cut.0 ∙ value.0) (ap is_small (ap leading_digits cut.0 ∙ value.1) ∙ small)) (not_from_false _ ended);
    })))
    (λ no_suffix.
    by_test (next_is is_letter_or_digit (drop n text))
    (λ stuck.
    subst (FoundAt spot text) (sym (cond-false _ _ _ no_suffix ∙ cond-true _ _ _ stuck))
    (inr (record { within = within; longest = or_right _ _ (and_from _ _ (and_from _ _ number (not_from_false _ no_suffix)) (the_longest d bs digit)); stuck = stuck })))
    (λ ended.
    subst (FoundAt spot text) (sym (cond-false _ _ _ no_suffix ∙ cond-false _ _ _ ended))
    (record { some = some; within = within; standing = and_from _ _ (and_from _ _ number small) (not_from_false _ ended) })))

literal_found : (spot : Spot) (d : ℕ) (bs : List ℕ) → is_digit d ≡ true → FoundAt spot (d ∷ bs) (literal d (d ∷ bs))
literal_found spot d bs digit =
    let text = d ∷ bs in
    let n = number_length d text in
    by_test (is_small (take n text))
    (λ small. subst (FoundAt spot text) (sym (literal_small n d text refl small)) (literal_of_found spot d bs digit small))
    (λ long. subst (FoundAt spot text) (sym (literal_long n d text refl long)) (record { digits = take n text; after = drop n text; begins_so = sym (take-append-drop n text); number = the_number d bs digit; long = ltb-false _ _ long }))

-- Hashes

hash_found : (spot : Spot) (bs : List ℕ) → FoundAt spot (35 ∷ bs) (hash spot)
hash_found spot bs =
    cond_both (is_fresh spot) (Piece (Token Hash) 1) (Bad 0) (FoundAt spot (35 ∷ bs))
    (λ fresh. record { some = omega arith; within = omega arith; standing = and_from _ _ fresh refl })
    (λ later. inl (refl, not_from_false _ later))

-- Headers and marks

mark_found : (spot : Spot) (b : ℕ) (bs : List ℕ) → is_space b ≡ false → (b == 47) ≡ false → is_letter b ≡ false → is_digit b ≡ false → (b == 35) ≡ false → header_begins spot (b ∷ bs) ≡ false → FoundAt spot (b ∷ bs) (mark_of (mark_length (b ∷ bs)))
mark_found spot b bs no_space no_slash no_letter no_digit no_hash no_header =
    by_test (three_byte_mark (b ∷ bs))
    (λ three. subst (λ n. FoundAt spot (b ∷ bs) (mark_of n)) (sym (cond-true _ _ _ three)) (of_three bs no_header three))
    (λ no_three.
    by_test (two_byte_mark (b ∷ bs))
    (λ two. subst (λ n. FoundAt spot (b ∷ bs) (mark_of n)) (sym (cond-false _ _ _ no_three ∙ cond-true _ _ _ two)) (of_two bs no_header no_three two))
    (λ no_two.
    by_test (is_mark (b ∷ []))
    (λ one. subst (λ n. FoundAt spot (b ∷ bs) (mark_of n)) (sym (cond-false _ _ _ no_three ∙ cond-false _ _ _ no_two ∙ cond-true _ _ _ one)) (of_one bs no_header no_three no_two one))
    (λ no_one.
    let lone : not (piece_begins spot (b ∷ bs)) ≡ true =
    nothing _ _ _ _ _ _ _ no_space (and_left _ _ (turned b 47 no_slash)) (and_left _ _ (turned b 47 no_slash)) no_letter no_digit no_one (and_left _ _ (and_left _ _ (turned b 35 no_hash))) in
    let here : FoundAt spot (b ∷ bs) (Bad 0) = inl (refl, lone) in
    subst (λ n. FoundAt spot (b ∷ bs) (mark_of n)) (sym (cond-false _ _ _ no_three ∙ cond-false _ _ _ no_two ∙ cond-false _ _ _ no_one)) here)))
  where
    of_three : (cs : List ℕ) → header_begins spot (b ∷ cs) ≡ false → three_byte_mark (b ∷ cs) ≡ true → FoundAt spot (b ∷ cs) (Piece (Token Mark) 3)
    of_three [] none e = absurd (false≢true e)
    of_three (c ∷ []) none e = absurd (false≢true e)
    of_three (c ∷ d ∷ cs) none e = record { some = omega arith; within = omega arith; standing = and_from _ _ (and_from _ _ e refl) (not_from_false _ none) }

    of_two : (cs : List ℕ) → header_begins spot (b ∷ cs) ≡ false → three_byte_mark (b ∷ cs) ≡ false → two_byte_mark (b ∷ cs) ≡ true → FoundAt spot (b ∷ cs) (Piece (Token Mark) 2)
    of_two [] none no_three e = absurd (false≢true e)
    of_two (c ∷ []) none no_three e = record { some = omega arith; within = omega arith; standing = and_from _ _ (and_from _ _ e refl) (not_from_false _ none) }
    of_two (c ∷ d ∷ cs) none no_three e = record { some = omega arith; within = omega arith; standing = and_from _ _ (and_from _ _ e (not_from_false _ no_three)) (not_from_false _ none) }

    of_one : (cs : List ℕ) → header_begins spot (b ∷ cs) ≡ false → three_byte_mark (b ∷ cs) ≡ false → two_byte_mark (b ∷ cs) ≡ false → is_mark (b ∷ []) ≡ true → FoundAt spot (b ∷ cs) (Piece (Token Mark) 1)
    of_one [] none no_three no_two e = record { some = omega arith; within = omega arith; standing = and_from _ _ (and_from _ _ e refl) (not_from_false _ none) }
    of_one (c ∷ []) none no_three no_two e = record { some = omega arith; within = omega arith; standing = and_from _ _ (and_from _ _ e (not_from_false _ no_two)) (not_from_false _ none) }
    of_one (c ∷ d ∷ cs) none no_three no_two e = record { some = omega arith; within = omega arith; standing = and_from _ _ (and_from _ _ e (not_from_false _ (or_from _ _ no_two no_three))) (not_from_false _ none) }

header_or_mark : (spot : Spot) (b : ℕ) (bs : List ℕ) (o : Option ℕ) → header_at spot (b ∷ bs) ≡ o → is_space b ≡ false → (b == 47) ≡ false → is_letter b ≡ false → is_digit b ≡ false → (b == 35) ≡ false → FoundAt spot (b ∷ bs) (mark o (b ∷ bs))
header_or_mark spot b bs None e h1 h2 h3 h4 h5 = mark_found spot b bs h1 h2 h3 h4 h5 (header_at_is spot (b ∷ bs) ∙ ap is_some e)
header_or_mark spot b bs (Some n) e h1 h2 h3 h4 h5 =
    let found = header_at_cut spot (b ∷ bs) n e in
    record { some = found.some; within = found.within; standing = and_from _ _ found.behind found.cut }

-- what `read` answers is so
pub sound : (spot : Spot) (b : ℕ) (bs : List ℕ) → FoundAt spot (b ∷ bs) (read spot (b ∷ bs))
sound spot b bs =
    by_test (is_space b) (λ e. subst (FoundAt spot (b ∷ bs)) (sym (read_space spot b bs e)) (space_found spot b bs e))
    (λ h1.
    by_test (b == 47) (λ e. subst (λ x. FoundAt spot (x ∷ bs) (read spot (x ∷ bs))) (sym (eqb-true b 47 e)) (slash_found spot bs))
    (λ h2.
    by_test (is_letter b) (λ e. subst (FoundAt spot (b ∷ bs)) (sym (read_letter spot b bs e)) (word_found spot b bs e))
    (λ h3.
    by_test (is_digit b) (λ e. subst (FoundAt spot (b ∷ bs)) (sym (read_digit spot b bs e)) (literal_found spot b bs e))
    (λ h4.
    by_test (b == 35) (λ e. subst (λ x. FoundAt spot (x ∷ bs) (read spot (x ∷ bs))) (sym (eqb-true b 35 e)) (hash_found spot bs))
    (λ h5. subst (FoundAt spot (b ∷ bs)) (sym (read_other spot b bs h1 h2 h3 h4 h5)) (header_or_mark spot b bs _ refl h1 h2 h3 h4 h5))))))

pub sound_at : (spot : Spot) (text : List ℕ) → 0 < length text → FoundAt spot text (read spot text)
sound_at spot [] some = absurd (omega arith)
sound_at spot (b ∷ bs) some = sound spot b bs
