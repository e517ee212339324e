-- Rows that bound one end, and enough of them.
use Rattle.std.proofs.Common.{◌≡◌, ℕ, zero, suc, ◌+◌, ◌-◌, ◌<◌, ◌≤◌, length-append, List, [], ◌∷◌, ◌++◌, length, get_or, take, drop, drop-cons, add-one, Bool, true, false, ℤ, refl, sym, ap, subst, ◌∙◌, inl, inr, arith}
use Rattle.std.specs.Prelude.{remove}
use Rattle.std.specs.List.{All, Contains}
use Rattle.std.proofs.Math.Seq.{take-suc}
use Rattle.std.proofs.lemmas.List.{take-append-drop, take_all}
use Rattle.std.proofs.lemmas.List.Edits.{length-remove}
use Rattle.std.proofs.lemmas.List.Elements.{All-nil, All-cons, All-append, All-weaker, All-head, All-tail, All-contains, All-contains_itself, Contains-append_left, Contains-append_right, Contains-append_cases}
use Rattle.affc_rows.specs.Forms.{Affine}
use Rattle.affc_system.specs.Systems.{Meets, Rows}
use Rattle.affc_loopends.specs.Ends.{IsProjectedRow, BoundsBelow, BoundsAbove}
use Rattle.affc_loopends.specs.Sizes.{IsModest, IsLarge, IsPrintable}
use Rattle.affc_loopends.specs.Steps.{AreEnough, BoundsEnd, AreOfEnd, IsWholeEnd}
use Rattle.affc_loopends.specs.Whys.{AreOfOneEnd}

-- ---- Lists

pub split : {A : Type 0} (P : A → Type 0) (xs ys : List A) → All P (xs ++ ys) → All P xs × All P ys
split P [] ys h = (All-nil P, h)
split P (x ∷ xs) ys h = let s = split P xs ys (All-tail P x (xs ++ ys) h) in (All-cons P x xs (All-head P x (xs ++ ys) h) s.0, s.1)

pub last_of : {A : Type 0} (P : A → Type 0) (xs : List A) (y : A) → All P (xs ++ y ∷ []) → P y
last_of P xs y h = All-head P y [] (split P xs (y ∷ []) h).1

pub one_more : {A : Type 0} (P : A → Type 0) (xs : List A) (y : A) → All P xs → P y → All P (xs ++ y ∷ [])
one_more P xs y h g = All-append P xs (y ∷ []) h (All-cons P y [] g (All-nil P))

pub among_all : {A : Type 0} (P : A → Type 0) (xs ys : List A) → All P xs → All (Contains xs) ys → All P ys
among_all P xs ys h a = All-weaker (Contains xs) P (λ y c. All-contains P xs y h c) ys a

only : {A : Type 0} (x y : A) → Contains (y ∷ []) x → y ≡ x
only x y (zero, lt, e) = e
only x y (suc k, lt, e) = absurd (omega arith)

among_last : {A : Type 0} (P : A → Type 0) (xs : List A) (y x : A) → ((z : A) → Contains xs z → P z) → P y → Contains (xs ++ y ∷ []) x → P x
among_last P xs y x f g c = elim (Contains-append_cases xs (y ∷ []) x c) [ inl d ↦ f x d | inr d ↦ subst P (only x y d) g ]

pub here_last : {A : Type 0} (xs : List A) (y : A) → Contains (xs ++ y ∷ []) y
here_last xs y = Contains-append_right xs (y ∷ []) y (0, omega arith, refl)

pub still : {A : Type 0} (xs : List A) (y : A) (zs : List A) → All (Contains xs) zs → All (Contains (xs ++ y ∷ [])) zs
still xs y zs h = All-weaker (Contains xs) (Contains (xs ++ y ∷ [])) (λ z c. Contains-append_left xs (y ∷ []) z c) zs h

pub parts : {A : Type 0} (xs : List A) (i : ℕ) (d : A) → i < length xs → xs ≡ take i xs ++ (get_or xs i d ∷ drop (suc i) xs)
parts xs i d lt = sym (take-append-drop i xs) ∙ ap (λ ys. take i xs ++ ys) (drop-cons xs i d lt)

pub removed : {A : Type 0} (P : A → Type 0) (xs : List A) (i : ℕ) (d : A) → i < length xs → All P xs → All P (remove xs i) × P (get_or xs i d)
removed P xs i d lt h =
    let s = split P (take i xs) (get_or xs i d ∷ drop (suc i) xs) (subst (All P) (parts xs i d lt) h) in
    (All-append P (take i xs) (drop (suc i) xs) s.0 (All-tail P (get_or xs i d) (drop (suc i) xs) s.1), All-head P (get_or xs i d) (drop (suc i) xs) s.1)

pub again : {A : Type 0} (P : A → Type 0) (xs : List A) (i : ℕ) (d : A) → i < length xs → All P (remove xs i) → P (get_or xs i d) → All P xs
again P xs i d lt h g =
    let s = split P (take i xs) (drop (suc i) xs) h in
    subst (All P) (sym (parts xs i d lt)) (All-append P (take i xs) (get_or xs i d ∷ drop (suc i) xs) s.0 (All-cons P (get_or xs i d) (drop (suc i) xs) g s.1))

pub next_taken : {A : Type 0} (xs : List A) (i : ℕ) (d : A) → i < length xs → take (i + 1) xs ≡ take i xs ++ get_or xs i d ∷ []
next_taken xs i d lt = rw add-one (take-suc xs i d lt)

pub all_taken : {A : Type 0} (P : A → Type 0) (xs : List A) (i : ℕ) → length xs ≤ i → All P (take i xs) → All P xs
all_taken P xs i le h = subst (All P) (take_all i xs le) h

pub one_taken : {A : Type 0} (P : A → Type 0) (xs : List A) (i : ℕ) (x : A) → i < length xs → x ≡ get_or xs i x → All P (take i xs) → P x → All P (take (i + 1) xs)
one_taken P xs i x lt e h g = subst (All P) (sym (next_taken xs i x lt)) (one_more P (take i xs) (get_or xs i x) h (subst P e g))

pub taken_among : {A : Type 0} (xs : List A) (i : ℕ) → All (Contains xs) (take i xs)
taken_among xs i = (split (Contains xs) (take i xs) (drop i xs) (subst (All (Contains xs)) (sym (take-append-drop i xs)) (All-contains_itself xs))).0

pub item_among : {A : Type 0} (xs : List A) (i : ℕ) (x : A) → i < length xs → x ≡ get_or xs i x → Contains xs x
item_among xs i x lt e = (i, lt, sym e)

-- ---- Those of one end

pub one_chosen : (lower : Bool) (column : ℕ) (xs cs next : List Affine) (r : Affine) → AreOfEnd lower column xs cs → BoundsEnd lower column r → next ≡ cs ++ r ∷ [] → AreOfEnd lower column (xs ++ r ∷ []) next
one_chosen lower column xs cs next r h b e = subst (AreOfEnd lower column (xs ++ r ∷ [])) (sym e) (record {
  among = one_more (Contains (xs ++ r ∷ [])) cs r (still xs r cs h.among) (here_last xs r);
  each = one_more (BoundsEnd lower column) cs r h.each b;
  all = one_more (λ q. BoundsEnd lower column q → Contains (cs ++ r ∷ []) q) xs r
      (All-weaker (λ q. BoundsEnd lower column q → Contains cs q) (λ q. BoundsEnd lower column q → Contains (cs ++ r ∷ []) q) (λ q f k. Contains-append_left cs (r ∷ []) q (f k)) xs h.all)
      (λ k. here_last cs r);
})

pub none_more : (lower : Bool) (column : ℕ) (xs cs : List Affine) (r : Affine) → AreOfEnd lower column xs cs → (BoundsEnd lower column r → ⊥) → AreOfEnd lower column (xs ++ r ∷ []) cs
none_more lower column xs cs r h b = record {
  among = still xs r cs h.among;
  each = h.each;
  all = one_more (λ q. BoundsEnd lower column q → Contains cs q) xs r h.all (λ k. absurd (b k));
}

pub chosen_step : (lower : Bool) (column : ℕ) (rows : List Affine) (i : ℕ) (r : Affine) (cs next : List Affine) → i < length rows → r ≡ get_or rows i r → AreOfEnd lower column (take i rows) cs → BoundsEnd lower column r → next ≡ cs ++ r ∷ []
    → AreOfEnd lower column (take (i + 1) rows) next
chosen_step lower column rows i r cs next lt e h b g =
    subst (λ xs. AreOfEnd lower column xs next) (ap (λ q. take i rows ++ q ∷ []) e ∙ sym (next_taken rows i r lt)) (one_chosen lower column (take i rows) cs next r h b g)

pub skipped_step : (lower : Bool) (column : ℕ) (rows : List Affine) (i : ℕ) (r : Affine) (cs next : List Affine) → i < length rows → r ≡ get_or rows i r → AreOfEnd lower column (take i rows) cs → (BoundsEnd lower column r → ⊥) → next ≡ cs
    → AreOfEnd lower column (take (i + 1) rows) next
skipped_step lower column rows i r cs next lt e h b g =
    subst (λ xs. AreOfEnd lower column xs next) (ap (λ q. take i rows ++ q ∷ []) e ∙ sym (next_taken rows i r lt)) (subst (λ zs. AreOfEnd lower column (take i rows ++ r ∷ []) zs) (sym g) (none_more lower column (take i rows) cs r h b))

-- ---- Enough

pub none_enough : (columns : ℕ) → AreEnough columns [] []
none_enough columns = record { few = omega arith; among = All-nil (Contains []); imply = λ whole l m. m }

pub few_enough : (columns : ℕ) (xs ys : List Affine) → ys ≡ xs → length ys ≤ 8 → AreEnough columns xs ys
few_enough columns xs ys e l = subst (λ zs. AreEnough columns zs ys) e (record { few = l; among = All-contains_itself ys; imply = λ whole k m. m })

pub without_implied : (columns : ℕ) (xs all ys : List Affine) (i : ℕ) → all ≡ xs → length all ≡ 9 → i < length all → ys ≡ remove all i
    → ((whole : List ℤ) → length whole ≡ columns → All (Meets whole) (remove all i) → All (Meets whole) all) → AreEnough columns xs ys
without_implied columns xs all ys i same nine lt e f = subst (λ zs. AreEnough columns zs ys) same (subst (AreEnough columns all) (sym e) (record {
  few = eight (length (remove all i)) (length all) (length-remove all i lt) nine;
  among = some all lt;
  imply = f;
}))
  where
    eight : (n m : ℕ) → n + 1 ≡ m → m ≡ 9 → n ≤ 8
    eight n m h g = omega arith

    some : (zs : List Affine) → i < length zs → All (Contains zs) (remove zs i)
    some [] l = absurd (omega arith)
    some (z ∷ zs) l = (removed (Contains (z ∷ zs)) (z ∷ zs) i z l (All-contains_itself (z ∷ zs))).0

pub enough_more : (columns : ℕ) (xs kept next : List Affine) (r : Affine) → AreEnough columns xs kept → AreEnough columns (kept ++ r ∷ []) next → AreEnough columns (xs ++ r ∷ []) next
enough_more columns xs kept next r h g = record {
  few = g.few;
  among = All-weaker (Contains (kept ++ r ∷ [])) (Contains (xs ++ r ∷ []))
      (λ q c. among_last (Contains (xs ++ r ∷ [])) kept r q (λ z d. All-contains (Contains (xs ++ r ∷ [])) kept z (still xs r kept h.among) d) (here_last xs r) c) next g.among;
  imply = λ whole l m.
      let b = split (Meets whole) kept (r ∷ []) (g.imply whole l m) in
      All-append (Meets whole) xs (r ∷ []) (h.imply whole l b.0) b.1;
}

pub enough_step : (columns : ℕ) (rows : List Affine) (i : ℕ) (r copy : Affine) (kept next : List Affine) → i < length rows → r ≡ get_or rows i r → copy ≡ r → AreEnough columns (take i rows) kept → AreEnough columns (kept ++ copy ∷ []) next
    → AreEnough columns (take (i + 1) rows) next
enough_step columns rows i r copy kept next lt e f h g =
    subst (λ xs. AreEnough columns xs next) (ap (λ q. take i rows ++ q ∷ []) (f ∙ e) ∙ sym (next_taken rows i r lt)) (enough_more columns (take i rows) kept next copy h g)

-- ---- What those have that are enough

pub of_end_all : (system : Rows) (column : ℕ) (xs ys : List Affine) → AreOfOneEnd system column xs → All (Contains xs) ys → AreOfOneEnd system column ys
of_end_all system column xs ys h a = record {
  projected = among_all (IsProjectedRow system (suc column)) xs ys h.projected a;
  one_end = elim h.one_end [ inl b ↦ inl (among_all (BoundsBelow column) xs ys b a) | inr b ↦ inr (among_all (BoundsAbove column) xs ys b a) ];
}

pub kept_of_end : (system : Rows) (column columns : ℕ) (rows front kept : List Affine) (r : Affine) → AreOfOneEnd system column rows → All (Contains rows) front → AreEnough columns front kept → Contains rows r
    → AreOfOneEnd system column (kept ++ r ∷ [])
kept_of_end system column columns rows front kept r h f g c =
    of_end_all system column rows (kept ++ r ∷ []) h (one_more (Contains rows) kept r (among_all (Contains rows) front kept f g.among) c)

pub is_end : (lower : Bool) (column columns : ℕ) (ranges : List (ℤ × ℤ)) (rows chosen enough : List Affine) → columns ≡ suc column → AreOfEnd lower column rows chosen → All (IsModest ranges) chosen → AreEnough columns chosen enough
    → IsWholeEnd lower column ranges rows enough
is_end lower column columns ranges rows chosen enough e h m g = record {
  end = record {
    few = g.few;
    among = among_all (Contains rows) chosen enough h.among g.among;
    each = among_all (BoundsEnd lower column) chosen enough h.each g.among;
    modest = among_all (IsModest ranges) chosen enough m g.among;
  };
  imply = λ whole l flat met.
      let all = g.imply whole (l ∙ sym e) met in
      All-weaker (λ r. BoundsEnd lower column r → Contains chosen r) (λ r. BoundsEnd lower column r → Meets whole r) (λ r f b. All-contains (Meets whole) chosen r all (f b)) rows h.all;
}

pub kept_printable : (columns : ℕ) (rows : List Affine) (i : ℕ) (kept : List Affine) → All (IsPrintable columns) rows → AreEnough columns (take i rows) kept → All (IsPrintable columns) kept
kept_printable columns rows i kept p h = among_all (IsPrintable columns) (take i rows) kept (among_all (IsPrintable columns) rows (take i rows) p (taken_among rows i)) h.among

pub kept_one_end : (system : Rows) (column columns : ℕ) (rows : List Affine) (i : ℕ) (r copy : Affine) (kept : List Affine) → i < length rows → r ≡ get_or rows i r → copy ≡ r → AreOfOneEnd system column rows → AreEnough columns (take i rows) kept
    → AreOfOneEnd system column (kept ++ copy ∷ [])
kept_one_end system column columns rows i r copy kept lt e f h g =
    subst (λ q. AreOfOneEnd system column (kept ++ q ∷ [])) (sym f) (kept_of_end system column columns rows (take i rows) kept r h (taken_among rows i) g (item_among rows i r lt e))

pub modest_printable : (columns : ℕ) (ranges : List (ℤ × ℤ)) (rows chosen : List Affine) → All (λ f. length f.coefs ≡ columns) rows → All (Contains rows) chosen → All (IsModest ranges) chosen → All (IsPrintable columns) chosen
modest_printable columns ranges rows chosen w a m = λ i d lt. record {
  width = among_all (λ f. length f.coefs ≡ columns) rows chosen w a i d lt;
  coefs_fit = (m i d lt).coefs;
  constant_fits = (m i d lt).constant;
}

pub chosen_one_end : (system : Rows) (lower : Bool) (column : ℕ) (rows chosen : List Affine) → All (IsProjectedRow system (suc column)) rows → AreOfEnd lower column rows chosen → AreOfOneEnd system column chosen
chosen_one_end system true column rows chosen p h = record { projected = among_all (IsProjectedRow system (suc column)) rows chosen p h.among; one_end = inl h.each }
chosen_one_end system false column rows chosen p h = record { projected = among_all (IsProjectedRow system (suc column)) rows chosen p h.among; one_end = inr h.each }

pub chosen_few : (lower : Bool) (column columns : ℕ) (rows chosen : List Affine) → columns ≤ 128 → All (λ f. length f.coefs ≡ columns) rows → AreOfEnd lower column rows chosen → All (λ f. length f.coefs ≤ 128) chosen
chosen_few lower column columns rows chosen le w h =
    All-weaker (λ f. length f.coefs ≡ columns) (λ f. length f.coefs ≤ 128) (λ f e. subst (λ n. n ≤ 128) (sym e) le) chosen (among_all (λ f. length f.coefs ≡ columns) rows chosen w h.among)

-- ---- What the code is told

at_column : (lower : Bool) (columns column : ℕ) (rows chosen : List Affine) → columns ≡ suc column → AreOfEnd lower (columns - 1) rows chosen → AreOfEnd lower column rows chosen
at_column lower columns column rows chosen e h = subst (λ k. AreOfEnd lower k rows chosen) (less columns column e) h
  where
    less : (n k : ℕ) → n ≡ suc k → n - 1 ≡ k
    less n k e = omega arith

pub found_end : (lower : Bool) (columns column : ℕ) (ranges : List (ℤ × ℤ)) (rows chosen s t enough : List Affine) → columns ≡ suc column → AreOfEnd lower (columns - 1) rows chosen → s ≡ chosen → t ≡ chosen → All (IsModest ranges) s
    → AreEnough columns t enough → IsWholeEnd lower column ranges rows enough
found_end lower columns column ranges rows chosen s t enough e h f g m k =
    is_end lower column columns ranges rows chosen enough e (at_column lower columns column rows chosen e h) (subst (All (IsModest ranges)) f m) (subst (λ xs. AreEnough columns xs enough) g k)

pub found_one_end : (system : Rows) (lower : Bool) (columns column : ℕ) (rows chosen t : List Affine) → columns ≡ suc column → AreOfEnd lower (columns - 1) rows chosen → t ≡ chosen → All (IsProjectedRow system (suc column)) rows → AreOfOneEnd system column t
found_one_end system lower columns column rows chosen t e h g p = subst (AreOfOneEnd system column) (sym g) (chosen_one_end system lower column rows chosen p (at_column lower columns column rows chosen e h))

pub found_large : (system : Rows) (lower : Bool) (columns column : ℕ) (ranges : List (ℤ × ℤ)) (rows chosen s : List Affine) (place : ℕ) (row item : Affine) → AreOfEnd lower (columns - 1) rows chosen → s ≡ chosen → place < length s
    → ((d : Affine) → IsLarge ranges (get_or s place d)) → row ≡ item → item ≡ get_or chosen place item → All (IsProjectedRow system (suc column)) rows → IsProjectedRow system (suc column) row × IsLarge ranges row
found_large system lower columns column ranges rows chosen s place row item h f lt large e g p =
    let same : row ≡ get_or s place item = e ∙ g ∙ ap (λ xs. get_or xs place item) (sym f) in
    let all = among_all (IsProjectedRow system (suc column)) rows s p (subst (All (Contains rows)) (sym f) h.among) in
    (subst (IsProjectedRow system (suc column)) (sym same) (all place item lt), subst (IsLarge ranges) (sym same) (large item))

pub found_few : (lower : Bool) (column columns : ℕ) (rows chosen s : List Affine) → columns ≤ 128 → All (λ f. length f.coefs ≡ columns) rows → AreOfEnd lower column rows chosen → s ≡ chosen → All (λ f. length f.coefs ≤ 128) s
found_few lower column columns rows chosen s le w h f = subst (All (λ q. length q.coefs ≤ 128)) (sym f) (chosen_few lower column columns rows chosen le w h)

pub found_printable : (lower : Bool) (column columns : ℕ) (ranges : List (ℤ × ℤ)) (rows chosen s t : List Affine) → All (λ f. length f.coefs ≡ columns) rows → AreOfEnd lower column rows chosen → s ≡ chosen → t ≡ chosen → All (IsModest ranges) s → All (IsPrintable columns) t
found_printable lower column columns ranges rows chosen s t w h f g m = subst (All (IsPrintable columns)) (sym g) (modest_printable columns ranges rows chosen w h.among (subst (All (IsModest ranges)) f m))

pub found_enough : (columns : ℕ) (kept all s next : List Affine) (row : Affine) (place : ℕ) → all ≡ kept ++ row ∷ [] → s ≡ all → length kept ≤ 8 → 8 < length all → place < length s → next ≡ remove all place
    → ((whole : List ℤ) → length whole ≡ columns → All (Meets whole) (remove s place) → All (Meets whole) s) → AreEnough columns (kept ++ row ∷ []) next
found_enough columns kept all s next row place e f few many lt g h =
    let long : length all ≡ length kept + 1 = ap length e ∙ length-append kept (row ∷ []) in
    let nine : length all ≡ 9 = omega arith in
    without_implied columns (kept ++ row ∷ []) all next place e nine (subst (λ xs. place < length xs) f lt) g
    (subst (λ xs. (whole : List ℤ) → length whole ≡ columns → All (Meets whole) (remove xs place) → All (Meets whole) xs) f h)
