-- Every question is answered: the others imply the row, or some rational point tells it from them.
use Rattle.std.proofs.Common.{◌≡◌, ℕ, zero, suc, ◌<◌, ◌≤◌, List, [], ◌∷◌, ◌++◌, length, get_or, ℤ, neg_ℤ, refl, ap, subst, ◌∙◌, inl, inr, arith}
use Rattle.std.specs.Prelude.{◌⊎◌, remove}
use Rattle.std.specs.List.{All, Contains}
use Rattle.std.proofs.lemmas.Bool.{cases_lt}
use Rattle.std.proofs.lemmas.List.{get_or_default, length-map}
use Rattle.std.proofs.lemmas.List.Elements.{All-cons, All-head, All-tail, All-push, All-contains}
use Rattle.affc_rows.specs.Forms.{Affine, HaveColumns, value}
use Rattle.affc_system.specs.Systems.{Meets}
use Rattle.affc_farkas.specs.Multiples.{zero_row}
use Rattle.affc_farkas.specs.Rational.{RationalPoint}
use Rattle.affc_loopends.specs.Steps.{AreEnough}
use Rattle.affc_loopends.specs.Whys.{below_zero, NoneIsImplied}
use Rattle.affc_loopends.proofs.Asked.{apart, implied}
use Rattle.affc_loopends.proofs.Chosen.{removed, again, among_all, none_enough, few_enough, without_implied}
use Rattle.affc_loopends.proofs.bounding.Lists.{all_or_one, at_first, all_later}
use Rattle.affc_loopends.proofs.bounding.Projected.{projection}
use Rattle.affc_loopends.proofs.bounding.Numbers.{least_or_not}

zero_least : (n : ℕ) → 0 ≤ n
zero_least n = omega arith

-- whole numbers that meet the others meet the row
abbrev pub Imply : (columns : ℕ) → List Affine → Affine → Type 0
Imply columns others row = (whole : List ℤ) → length whole ≡ columns → All (Meets whole) others → Meets whole row

pub ask : (columns : ℕ) (others : List Affine) (row : Affine) → HaveColumns columns others → length row.coefs ≡ columns → Imply columns others row ⊎ RationalPoint columns (others ++ below_zero row ∷ [])
ask columns others row w l =
    let rows = others ++ below_zero row ∷ [] in
    let wide : HaveColumns columns rows = All-push (λ f. length f.coefs ≡ columns) others (below_zero row) w (length-map row.coefs neg_ℤ ∙ l) in
    let p = projection columns rows 0 wide (zero_least columns) in
    elim (all_or_one (Meets []) (λ f. Meets [] f → ⊥) (λ f. least_or_not (value f [])) p.projected) [
      | inl all ↦ inr (apart columns rows p.made p.projected p.are all)
      | inr one ↦ inl (implied columns others row p.made p.projected p.are (λ all. one.2 (All-contains (Meets []) p.projected one.0 all one.1)))
    ]

-- ---- One of the rows, or none

-- whole numbers that meet all rows but that at the place meet that too
abbrev pub IsSpare : (columns : ℕ) → List Affine → ℕ → Type 0
IsSpare columns rows i = (i < length rows) × ((whole : List ℤ) → length whole ≡ columns → All (Meets whole) (remove rows i) → All (Meets whole) rows)

-- for each of the first rows some rational point tells it from the others
abbrev AreApart : (columns : ℕ) → List Affine → ℕ → Type 0
AreApart columns rows n = (i : ℕ) (d : Affine) → i < n → RationalPoint columns (remove rows i ++ below_zero (get_or rows i d) ∷ [])

module _ (columns : ℕ) (rows : List Affine) (w : HaveColumns columns rows) where
  one_further : (n : ℕ) → n < length rows → AreApart columns rows n → ((i : ℕ) × IsSpare columns rows i) ⊎ AreApart columns rows (suc n)
  one_further n lt h =
      let d = zero_row columns in
      let r = removed (λ f. length f.coefs ≡ columns) rows n d lt w in
      elim (ask columns (remove rows n) (get_or rows n d) r.0 r.1) [
        | inl imply ↦ inl (n, (lt, λ whole l met. again (Meets whole) rows n d lt met (imply whole l met)))
        | inr point ↦ inr (λ i e il. elim (cases_lt i n) [
          | inl before ↦ h i e before
          | inr ge ↦
              let same : n ≡ i = last i n il ge in
              subst (λ k. RationalPoint columns (remove rows k ++ below_zero (get_or rows k e) ∷ [])) same
              (subst (λ f. RationalPoint columns (remove rows n ++ below_zero f ∷ [])) (get_or_default rows n d e lt) point)
        ])
      ]
    where
      last : (i n : ℕ) → i < suc n → n ≤ i → n ≡ i
      last i n h k = omega arith

  search_below : (n : ℕ) → n ≤ length rows → ((i : ℕ) × IsSpare columns rows i) ⊎ AreApart columns rows n
  search_below zero le = inr (λ i d il. absurd (omega arith))
  search_below (suc n) le = elim (search_below n (omega arith)) [
    | inl spare ↦ inl spare
    | inr h ↦ one_further n (omega arith) h
  ]

  pub spare_or_none : ((i : ℕ) × IsSpare columns rows i) ⊎ NoneIsImplied columns rows
  spare_or_none = search_below (length rows) (omega arith)

-- ---- At most eight that are enough

-- nine of the rows, of which none is implied by the others
pub record HasNine (columns : ℕ) (rows : List Affine) : Type 0 where
  pub nine : List Affine
  pub as_many : length nine ≡ 9
  pub among : All (Contains rows) nine
  pub none : NoneIsImplied columns nine

one_more_enough : (columns : ℕ) (rows kept next : List Affine) (r : Affine) → AreEnough columns rows kept → AreEnough columns (r ∷ kept) next → AreEnough columns (r ∷ rows) next
one_more_enough columns rows kept next r h g = record {
  few = g.few;
  among = among_all (Contains (r ∷ rows)) (r ∷ kept) next (All-cons (Contains (r ∷ rows)) r kept (at_first r rows) (all_later r rows kept h.among)) g.among;
  imply = λ whole l met.
      let all = g.imply whole l met in
      All-cons (Meets whole) r rows (All-head (Meets whole) r kept all) (h.imply whole l (All-tail (Meets whole) r kept all));
}

-- eight and one more
with_one : (columns : ℕ) (rows kept : List Affine) (r : Affine) → HaveColumns columns (r ∷ rows) → AreEnough columns rows kept → length kept ≡ 8 → ((next : List Affine) × AreEnough columns (r ∷ rows) next) ⊎ HasNine columns (r ∷ rows)
with_one columns rows kept r w h eight =
    let all = r ∷ kept in
    let among : All (Contains (r ∷ rows)) all = All-cons (Contains (r ∷ rows)) r kept (at_first r rows) (all_later r rows kept h.among) in
    let nine : length all ≡ 9 = ap suc eight in
    elim (spare_or_none columns all (among_all (λ f. length f.coefs ≡ columns) (r ∷ rows) all w among)) [
      | inl spare ↦ inl (remove all spare.0, one_more_enough columns rows kept (remove all spare.0) r h (without_implied columns all all (remove all spare.0) spare.0 refl nine spare.1.0 refl spare.1.1))
      | inr none ↦ inr (record { nine = all; as_many = nine; among = among; none = none })
    ]

pub enough : (columns : ℕ) (rows : List Affine) → HaveColumns columns rows → ((kept : List Affine) × AreEnough columns rows kept) ⊎ HasNine columns rows
enough columns [] w = inl ([], none_enough columns)
enough columns (r ∷ rows) w = elim (enough columns rows (All-tail (λ f. length f.coefs ≡ columns) r rows w)) [
  | inr n ↦ inr (record { nine = n.nine; as_many = n.as_many; among = all_later r rows n.nine n.among; none = n.none })
  | inl e ↦ elim (cases_lt (length e.0) 8) [
    | inl few ↦ inl (r ∷ e.0, one_more_enough columns rows e.0 (r ∷ e.0) r e.1 (few_enough columns (r ∷ e.0) (r ∷ e.0) refl (still_few (length e.0) few)))
    | inr many ↦ with_one columns rows e.0 r w e.1 (just_eight (length e.0) e.1.few many)
  ]
]
  where
    still_few : (n : ℕ) → n < 8 → suc n ≤ 8
    still_few n h = omega arith

    just_eight : (n : ℕ) → n ≤ 8 → 8 ≤ n → n ≡ 8
    just_eight n h k = omega arith
