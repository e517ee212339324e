-- The rows of the ends that are left, beside those that don't look at their column.
use Rattle.std.proofs.Common.{◌≡◌, ℕ, suc, ◌+◌, ◌-◌, ◌<◌, ◌≤◌, List, [], ◌∷◌, ◌++◌, length, length-append, get_or, Bool, true, false, ℤ, pos, sym, ap, subst, ◌∙◌, arith}
use Rattle.std.specs.Prelude.{remove}
use Rattle.std.specs.List.{All, Contains}
use Rattle.std.proofs.lemmas.List.Edits.{length-remove}
use Rattle.std.proofs.lemmas.List.Elements.{All-append, All-contains_itself}
use Rattle.affc_rows.specs.Forms.{Affine}
use Rattle.affc_system.specs.Systems.{Meets}
use Rattle.affc_farkas.specs.Multiples.{entry_of}
use Rattle.affc_loopends.specs.declared.bounds.Answer.TheVariants.{Implied}
use Rattle.affc_loopends.specs.Sizes.{IsModest, IsPrintable}
use Rattle.affc_loopends.specs.Steps.{IsAnswer, BoundsEnd, AreFlat, AreLeft, IsEnd, IsWholeEnd, AreBothEnds}
use Rattle.affc_loopends.proofs.Chosen.{among_all, removed, again, one_more, item_among, modest_printable}

-- ---- Rows that don't look at the column

pub one_flat : (column : ℕ) (ranges : List (ℤ × ℤ)) (rows flat next : List Affine) (i : ℕ) (r copy : Affine) → AreFlat column ranges rows flat → length flat < 100 → i < length rows → r ≡ get_or rows i r → copy ≡ r
    → entry_of r column ≡ pos 0 → IsModest ranges r → next ≡ flat ++ copy ∷ [] → AreFlat column ranges rows next
one_flat column ranges rows flat next i r copy h short lt is same zero modest e = subst (AreFlat column ranges rows) (sym (e ∙ ap (λ q. flat ++ q ∷ []) same)) (record {
  few = more (length (flat ++ r ∷ [])) (length flat) (length-append flat (r ∷ [])) short;
  among = one_more (Contains rows) flat r h.among (item_among rows i r lt is);
  each = one_more (λ q. entry_of q column ≡ pos 0) flat r h.each zero;
  modest = one_more (IsModest ranges) flat r h.modest modest;
})
  where
    more : (n k : ℕ) → n ≡ k + 1 → k < 100 → n ≤ 100
    more n k e h = omega arith

pub same_flat : (column : ℕ) (ranges : List (ℤ × ℤ)) (rows flat next : List Affine) → AreFlat column ranges rows flat → next ≡ flat → AreFlat column ranges rows next
same_flat column ranges rows flat next h e = subst (AreFlat column ranges rows) (sym e) h

-- ---- Questions

pub implied_left : (columns : ℕ) (rows first others beside : List Affine) (place : ℕ) (row : Affine) → place < length rows → first ≡ remove rows place → others ≡ first ++ beside → row ≡ get_or rows place row
    → IsAnswer columns others row Implied → (whole : List ℤ) → length whole ≡ columns → All (Meets whole) beside → All (Meets whole) (remove rows place) → All (Meets whole) rows
implied_left columns rows first others beside place row lt e f is h whole l b m =
    again (Meets whole) rows place row lt m
    (subst (Meets whole) is (h whole l (subst (All (Meets whole)) (sym f) (All-append (Meets whole) first beside (subst (All (Meets whole)) (sym e) m) b))))

pub printable_asked : (columns : ℕ) (rows first others beside : List Affine) (place : ℕ) (row : Affine) → place < length rows → first ≡ remove rows place → others ≡ first ++ beside → All (IsPrintable columns) rows → All (IsPrintable columns) beside
    → All (IsPrintable columns) others
printable_asked columns rows first others beside place row lt e f p q =
    subst (All (IsPrintable columns)) (sym f)
    (All-append (IsPrintable columns) first beside (subst (All (IsPrintable columns)) (sym e) (removed (IsPrintable columns) rows place row lt p).0) q)

-- ---- Those that are left

pub all_left : (columns : ℕ) (beside kept : List Affine) → AreLeft columns beside kept kept
all_left columns beside kept = record { few = omega arith; among = All-contains_itself kept; imply = λ whole l b m. m }

pub one_left_out : (columns : ℕ) (beside rows s next : List Affine) (place : ℕ) → place < length rows → s ≡ rows → next ≡ remove rows place
    → ((whole : List ℤ) → length whole ≡ columns → All (Meets whole) beside → All (Meets whole) (remove s place) → All (Meets whole) s) → AreLeft columns beside rows next
one_left_out columns beside rows s next place lt same e f = subst (AreLeft columns beside rows) (sym e) (record {
  few = less (length (remove rows place)) (length rows) (length-remove rows place lt);
  among = (removed (Contains rows) rows place (record { coefs = []; constant = pos 0 }) lt (All-contains_itself rows)).0;
  imply = subst (λ xs. (whole : List ℤ) → length whole ≡ columns → All (Meets whole) beside → All (Meets whole) (remove xs place) → All (Meets whole) xs) same f;
})
  where
    less : (n k : ℕ) → n + 1 ≡ k → n ≤ k
    less n k e = omega arith

pub more_left_out : (columns : ℕ) (beside kept left next : List Affine) → AreLeft columns beside kept left → AreLeft columns beside left next → AreLeft columns beside kept next
more_left_out columns beside kept left next h g = record {
  few = omega (arith, h.few, g.few);
  among = among_all (Contains kept) left next h.among g.among;
  imply = λ whole l b m. h.imply whole l b (g.imply whole l b m);
}

pub left_printable : (columns : ℕ) (beside kept left : List Affine) → AreLeft columns beside kept left → All (IsPrintable columns) kept → All (IsPrintable columns) left
left_printable columns beside kept left h p = among_all (IsPrintable columns) kept left p h.among

-- ---- Ends

flat_met : (column : ℕ) (ranges : List (ℤ × ℤ)) (rows flat : List Affine) (whole : List ℤ) → AreFlat column ranges rows flat → All (λ r. entry_of r column ≡ pos 0 → Meets whole r) rows → All (Meets whole) flat
flat_met column ranges rows flat whole h met = λ i d lt. among_all (λ r. entry_of r column ≡ pos 0 → Meets whole r) rows flat met h.among i d lt (h.each i d lt)

left_end : (lower : Bool) (column columns : ℕ) (ranges : List (ℤ × ℤ)) (rows beside kept left : List Affine) → IsEnd lower column ranges rows kept → AreLeft columns beside kept left → IsEnd lower column ranges rows left
left_end lower column columns ranges rows beside kept left h g = record {
  few = fewer (length left) (length kept) g.few h.few;
  among = among_all (Contains rows) kept left h.among g.among;
  each = among_all (BoundsEnd lower column) kept left h.each g.among;
  modest = among_all (IsModest ranges) kept left h.modest g.among;
}
  where
    fewer : (n k : ℕ) → n ≤ k → k ≤ 8 → n ≤ 8
    fewer n k h g = omega arith

pub left_ends : (column : ℕ) (ranges : List (ℤ × ℤ)) (rows lower upper flat low high : List Affine) → IsWholeEnd true column ranges rows lower → IsWholeEnd false column ranges rows upper → AreFlat column ranges rows flat
    → AreLeft (suc column) (flat ++ upper) lower low → AreLeft (suc column) (flat ++ low) upper high → AreBothEnds column ranges rows low high
left_ends column ranges rows lower upper flat low high l u f g h = record {
  low = left_end true column (suc column) ranges rows (flat ++ upper) lower low l.end g;
  high = left_end false column (suc column) ranges rows (flat ++ low) upper high u.end h;
  imply = λ whole e met a b.
      let flats = flat_met column ranges rows flat whole f met in
      let uppers = h.imply whole e (All-append (Meets whole) flat low flats a) b in
      let lowers = g.imply whole e (All-append (Meets whole) flat upper flats uppers) a in
      (l.imply whole e met lowers, u.imply whole e met uppers);
}

-- ---- What the code is told

last : (n : ℕ) → 1 ≤ n → n ≡ suc (n - 1)
last n h = omega arith

less : (n k : ℕ) → n ≡ suc k → n - 1 ≡ k
less n k e = omega arith

pub end_few : (lower : Bool) (columns : ℕ) (ranges : List (ℤ × ℤ)) (rows kept : List Affine) → 1 ≤ columns → ((column : ℕ) → columns ≡ suc column → IsWholeEnd lower column ranges rows kept) → length kept ≤ 8
end_few lower columns ranges rows kept some end = (end (columns - 1) (last columns some)).end.few

pub end_printed : (lower : Bool) (columns : ℕ) (ranges : List (ℤ × ℤ)) (rows kept : List Affine) → 1 ≤ columns → All (λ f. length f.coefs ≡ columns) rows → ((column : ℕ) → columns ≡ suc column → IsWholeEnd lower column ranges rows kept)
    → All (IsPrintable columns) kept
end_printed lower columns ranges rows kept some widths end =
    let at = (end (columns - 1) (last columns some)).end in
    modest_printable columns ranges rows kept widths at.among at.modest

pub flat_printed : (columns column : ℕ) (ranges : List (ℤ × ℤ)) (rows flat s : List Affine) → All (λ f. length f.coefs ≡ columns) rows → AreFlat column ranges rows flat → s ≡ flat → All (IsPrintable columns) s
flat_printed columns column ranges rows flat s widths are same = subst (All (IsPrintable columns)) (sym same) (modest_printable columns ranges rows flat widths are.among are.modest)

pub found_left : (columns : ℕ) (ranges : List (ℤ × ℤ)) (rows lower upper flat s low high : List Affine) → ((column : ℕ) → columns ≡ suc column → IsWholeEnd true column ranges rows lower)
    → ((column : ℕ) → columns ≡ suc column → IsWholeEnd false column ranges rows upper) → AreFlat (columns - 1) ranges rows flat → s ≡ flat → AreLeft columns (s ++ upper) lower low → AreLeft columns (s ++ low) upper high
    → (column : ℕ) → columns ≡ suc column → AreBothEnds column ranges rows low high
found_left columns ranges rows lower upper flat s low high l u are same g h column e =
    left_ends column ranges rows lower upper flat low high (l column e) (u column e) (subst (λ k. AreFlat k ranges rows flat) (less columns column e) are)
    (subst (λ n. AreLeft n (flat ++ upper) lower low) e (subst (λ xs. AreLeft columns (xs ++ upper) lower low) same g))
    (subst (λ n. AreLeft n (flat ++ low) upper high) e (subst (λ xs. AreLeft columns (xs ++ low) upper high) same h))
