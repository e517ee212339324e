-- Headers and marks at the beginning of a text.
use Rattle.std.proofs.Common.{◌≡◌, ℕ, suc, ◌+◌, ◌<◌, ◌≤◌, Bool, true, false, not, ◌&&◌, ◌==◌, List, [], ◌∷◌, ◌++◌, length, take, drop, Option, Some, None, refl, sym, ap, ◌∙◌, arith}
use Rattle.std.specs.List.{prefix_len}
use Rattle.std.specs.Option.{is_some}
use Rattle.std.proofs.lemmas.Bool.{and_parts, and_from, and_left, cond-true, cond-false, false≢true, not-true, not_from_true, not_from_false}
use Rattle.affc_lex.specs.declared.piece.Spot.{Spot}
use Rattle.affc_lex.specs.Bytes.{is_line_feed, next_is}
use Rattle.affc_lex.specs.Pieces.{closes_header, ends_header, opens_header, is_header, header_begins, is_after_include}
use Rattle.affc_lex.specs.Reading.{inside_header, header_behind, header, header_at}
use Rattle.affc_lex.proofs.Lists.{by_test, same_is}

abbrev pub is_closing : ℕ → Bool
is_closing b = b == 62

-- how far a header's inside goes, one byte on and at its end
inside_more : (b : ℕ) (bs : List ℕ) → (b == 62) ≡ false → is_line_feed b ≡ false → suc (prefix_len inside_header bs) ≡ prefix_len inside_header (b ∷ bs)
inside_more b bs no_end no_feed =
    let more : suc (prefix_len inside_header bs) ≡ 1 + prefix_len inside_header bs = omega arith in
    more ∙ sym (cond-true _ _ _ (and_from (not (b == 62)) (not (is_line_feed b)) (not_from_false (b == 62) no_end) (not_from_false (is_line_feed b) no_feed)))

inside_none : (b : ℕ) (bs : List ℕ) → inside_header b ≡ false → prefix_len inside_header (b ∷ bs) ≡ 0
inside_none b bs ends = cond-false _ _ _ ends

pub closes_is : (bs : List ℕ) → closes_header bs ≡ next_is is_closing (drop (prefix_len inside_header bs) bs)
closes_is [] = refl
closes_is (b ∷ bs) =
    by_test (b == 62)
    (λ closing.
    let none = inside_none b bs (and_left _ _ (not_from_true (b == 62) closing)) in
    cond-true _ _ _ closing ∙ sym closing ∙ ap (λ n. next_is is_closing (drop n (b ∷ bs))) (sym none))
    (λ other.
    by_test (is_line_feed b)
    (λ feed.
    let none = inside_none b bs (ap (λ t. not (b == 62) && t) (not_from_true (is_line_feed b) feed) ∙ ap (λ t. t && false) (not_from_false (b == 62) other)) in
    cond-false _ _ _ other ∙ and_left _ _ (not_from_true (is_line_feed b) feed) ∙ sym other ∙ ap (λ n. next_is is_closing (drop n (b ∷ bs))) (sym none))
    (λ no_feed.
    cond-false _ _ _ other ∙ ap (λ t. t && closes_header bs) (not_from_false (is_line_feed b) no_feed) ∙ closes_is bs ∙ ap (λ n. next_is is_closing (drop n (b ∷ bs))) (inside_more b bs other no_feed)))

-- a header's bytes behind its `<`, cut from a text
pub header_cut : (bs : List ℕ) → next_is is_closing (drop (prefix_len inside_header bs) bs) ≡ true → (ends_header (take (prefix_len inside_header bs + 1) bs) ≡ true) × (prefix_len inside_header bs + 1 ≤ length bs)
header_cut [] e = absurd (false≢true e)
header_cut (b ∷ bs) e =
    by_test (b == 62)
    (λ closing.
    let none = inside_none b bs (and_left _ _ (not_from_true (b == 62) closing)) in
    let one : 1 ≡ prefix_len inside_header (b ∷ bs) + 1 = omega arith in
    (ap (λ n. ends_header (take n (b ∷ bs))) (sym one) ∙ cond-true _ _ _ closing, omega arith))
    (λ other.
    by_test (is_line_feed b)
    (λ feed.
    let none = inside_none b bs (ap (λ t. not (b == 62) && t) (not_from_true (is_line_feed b) feed) ∙ ap (λ t. t && false) (not_from_false (b == 62) other)) in
    absurd (false≢true (sym other ∙ ap (λ n. next_is is_closing (drop n (b ∷ bs))) (sym none) ∙ e)))
    (λ no_feed.
    let more = inside_more b bs other no_feed in
    let rest = header_cut bs (ap (λ n. next_is is_closing (drop n (b ∷ bs))) more ∙ e) in
    let longer : suc (prefix_len inside_header bs + 1) ≡ prefix_len inside_header (b ∷ bs) + 1 = omega arith in
    (ap (λ n. ends_header (take n (b ∷ bs))) (sym longer) ∙ cond-false _ _ _ other ∙ and_from _ _ (not_from_false (is_line_feed b) no_feed) rest.0, omega (arith, rest.1))))

-- and found again before any text
pub header_found : (xs after : List ℕ) → ends_header xs ≡ true → (next_is is_closing (drop (prefix_len inside_header (xs ++ after)) (xs ++ after)) ≡ true) × (prefix_len inside_header (xs ++ after) + 1 ≡ length xs)
header_found [] after e = absurd (false≢true e)
header_found (b ∷ bs) after e =
    by_test (b == 62)
    (λ closing.
    let none = inside_none b (bs ++ after) (and_left _ _ (not_from_true (b == 62) closing)) in
    let last : bs ≡ [] = same_is bs [] (sym (cond-true _ _ _ closing) ∙ e) in
    (ap (λ n. next_is is_closing (drop n (b ∷ (bs ++ after)))) none ∙ closing, omega (arith, ap length last)))
    (λ other.
    let parts = and_parts (not (is_line_feed b)) (ends_header bs) (sym (cond-false _ _ _ other) ∙ e) in
    let more = inside_more b (bs ++ after) other (not-true (is_line_feed b) parts.0) in
    let rest = header_found bs after parts.1 in
    (ap (λ n. next_is is_closing (drop n (b ∷ (bs ++ after)))) (sym more) ∙ rest.0, omega (arith, rest.1)))

header_behind_is : (n : ℕ) (bs : List ℕ) → next_is is_closing (drop n bs) ≡ is_some (header_behind n bs)
header_behind_is n bs =
    by_test (next_is is_closing (drop n bs))
    (λ closing. closing ∙ sym (ap is_some (cond-true _ _ _ closing)))
    (λ other. other ∙ sym (ap is_some (cond-false _ _ _ other)))

opens_is : (text : List ℕ) → opens_header text ≡ is_some (header text)
opens_is [] = refl
opens_is (b ∷ bs) =
    by_test (b == 60)
    (λ angle. ap (λ t. t && closes_header bs) angle ∙ closes_is bs ∙ header_behind_is (prefix_len inside_header bs) bs ∙ sym (ap is_some (cond-true _ _ _ angle)))
    (λ other. ap (λ t. t && closes_header bs) other ∙ sym (ap is_some (cond-false _ _ _ other)))

-- a header begins where one is found
pub header_at_is : (spot : Spot) (text : List ℕ) → header_begins spot text ≡ is_some (header_at spot text)
header_at_is spot text =
    by_test (is_after_include spot)
    (λ behind. ap (λ t. t && opens_header text) behind ∙ opens_is text ∙ sym (ap is_some (cond-true _ _ _ behind)))
    (λ elsewhere. ap (λ t. t && opens_header text) elsewhere ∙ sym (ap is_some (cond-false _ _ _ elsewhere)))

some_is : (m n : ℕ) → ◌≡◌ {A = Option ℕ} (Some m) (Some n) → m ≡ n
some_is m n e = cc

pub record HeaderCut (spot : Spot) (n : ℕ) (text : List ℕ) : Type 0 where
  pub behind : is_after_include spot ≡ true
  pub cut : is_header (take n text) ≡ true
  pub within : n ≤ length text
  pub some : 0 < n

-- what is found is a header
pub header_at_cut : (spot : Spot) (text : List ℕ) (n : ℕ) → header_at spot text ≡ Some n → HeaderCut spot n text
header_at_cut spot [] n e = by_test (is_after_include spot) (λ behind. absurd (none_is n (sym (cond-true _ _ _ behind) ∙ e))) (λ elsewhere. absurd (none_is n (sym (cond-false _ _ _ elsewhere) ∙ e)))
  where
    none_is : (k : ℕ) → ◌≡◌ {A = Option ℕ} None (Some k) → ⊥
    none_is k h = cc
header_at_cut spot (b ∷ bs) n e =
    by_test (is_after_include spot)
    (λ behind.
    let found : header (b ∷ bs) ≡ Some n = sym (cond-true _ _ _ behind) ∙ e in
    by_test (b == 60)
    (λ angle.
    let closed : header_behind (prefix_len inside_header bs) bs ≡ Some n = sym (cond-true _ _ _ angle) ∙ found in
    by_test (next_is is_closing (drop (prefix_len inside_header bs) bs))
    (λ closing.
    let length_is : prefix_len inside_header bs + 2 ≡ n = some_is _ _ (sym (cond-true _ _ _ closing) ∙ closed) in
    let rest = header_cut bs closing in
    let longer : suc (prefix_len inside_header bs + 1) ≡ n = omega arith in
    record {
      behind = behind;
      cut = ap (λ k. is_header (take k (b ∷ bs))) (sym longer) ∙ and_from (b == 60) _ angle rest.0;
      within = omega (arith, rest.1);
      some = omega arith;
    })
    (λ other. absurd (none_is (sym (cond-false _ _ _ other) ∙ closed))))
    (λ other. absurd (none_is (sym (cond-false _ _ _ other) ∙ found))))
    (λ elsewhere. absurd (none_is (sym (cond-false _ _ _ elsewhere) ∙ e)))
  where
    none_is : ◌≡◌ {A = Option ℕ} None (Some n) → ⊥
    none_is h = cc

-- and a header that stands is found
pub header_at_found : (spot : Spot) (bytes after : List ℕ) → is_after_include spot ≡ true → is_header bytes ≡ true → header_at spot (bytes ++ after) ≡ Some (length bytes)
header_at_found spot [] after behind e = absurd (false≢true e)
header_at_found spot (b ∷ bs) after behind e =
    let parts = and_parts (b == 60) (ends_header bs) e in
    let rest = header_found bs after parts.1 in
    let length_is : prefix_len inside_header (bs ++ after) + 2 ≡ suc (length bs) = omega (arith, rest.1) in
    cond-true _ _ _ behind ∙ cond-true _ _ _ parts.0 ∙ cond-true _ _ _ rest.0 ∙ ap Some length_is
