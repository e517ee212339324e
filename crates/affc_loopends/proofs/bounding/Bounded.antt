-- Each column has bounds: its ends, or a row that is large, or nine rows of one end of which none is implied.
use Rattle.std.proofs.Common.{◌≡◌, ℕ, suc, ◌+◌, ◌^◌, ◌<◌, ◌≤◌, Bool, true, false, List, length, ℤ, pos, sym, subst, ◌∙◌, inl, inr, arith}
use Rattle.std.specs.Prelude.{◌⊎◌, unsigned_abs}
use Rattle.std.specs.List.{All, Contains}
use Rattle.std.proofs.lemmas.Bool.{cases_lt}
use Rattle.std.proofs.lemmas.List.{get_or_default}
use Rattle.std.proofs.lemmas.List.Elements.{All-weaker, All-contains}
use Rattle.affc_rows.specs.Forms.{Affine}
use Rattle.affc_system.specs.Boxes.{box_magnitude}
use Rattle.affc_system.specs.Systems.{Rows, Meets}
use Rattle.affc_farkas.specs.Multiples.{entry_of}
use Rattle.affc_loopends.specs.declared.bounds.Bounds.TheVariants.{Between, Loose}
use Rattle.affc_loopends.specs.declared.bounds.Why.{Why}
use Rattle.affc_loopends.specs.declared.bounds.Why.TheVariants.{Large, Nine}
use Rattle.affc_loopends.specs.Ends.{IsProjectedRow}
use Rattle.affc_loopends.specs.Sizes.{IsModest, IsLarge}
use Rattle.affc_loopends.specs.Steps.{BoundsEnd, AreOfEnd, IsEnd, AreBothEnds, AreEnough}
use Rattle.affc_loopends.specs.Whys.{IsWhy}
use Rattle.affc_loopends.proofs.Bounded.{rows_projected, projected_widths, are_ends}
use Rattle.affc_loopends.proofs.Chosen.{among_all, of_end_all, chosen_one_end}
use Rattle.affc_loopends.specs.bounding.Laws.{ColumnsHaveBounds}
use Rattle.affc_loopends.proofs.bounding.Asked.{HasNine, enough}
use Rattle.affc_loopends.proofs.bounding.Lists.{all_or_one, pick, ArePicked}
use Rattle.affc_loopends.proofs.bounding.Projected.{projection}
use Rattle.affc_loopends.proofs.bounding.Vecs.{vec_of}
use Rattle.affc_loopends.proofs.bounding.Numbers.{above_or_not, below_or_not}

-- ---- Sizes

pub size_of : (ranges : List (ℤ × ℤ)) (row : Affine) → IsModest ranges row ⊎ IsLarge ranges row
size_of ranges row = elim (cases_lt (2 ^ 62) (box_magnitude row.coefs ranges + unsigned_abs row.constant)) [
  | inl large ↦ inr (inl large)
  | inr terms ↦ elim (cases_lt (2 ^ 59) (unsigned_abs row.constant)) [
    | inl large ↦ inr (inr (inr large))
    | inr constant ↦ elim (all_or_one (λ c. unsigned_abs c ≤ 2 ^ 40) (λ c. 2 ^ 40 < unsigned_abs c) (λ c. small (unsigned_abs c)) row.coefs) [
      | inl coefs ↦ inl (record { terms = terms; coefs = coefs; constant = constant })
      | inr one ↦
          let c = one.1 in
          inr (inr (inl (c.0, subst (λ z. 2 ^ 40 < unsigned_abs z) (sym (get_or_default row.coefs c.0 (pos 0) one.0 c.1 ∙ c.2)) one.2)))
    ]
  ]
]
  where
    small : (n : ℕ) → (n ≤ 2 ^ 40) ⊎ (2 ^ 40 < n)
    small n = elim (cases_lt (2 ^ 40) n) [ inl h ↦ inr h | inr h ↦ inl h ]

-- ---- One end

end_or_not : (lower : Bool) (column : ℕ) (r : Affine) → BoundsEnd lower column r ⊎ (BoundsEnd lower column r → ⊥)
end_or_not true column r = above_or_not (entry_of r column)
end_or_not false column r = below_or_not (entry_of r column)

of_end : (lower : Bool) (column : ℕ) (rows chosen : List Affine) → ArePicked (BoundsEnd lower column) rows chosen → AreOfEnd lower column rows chosen
of_end lower column rows chosen h = record {
  among = All-weaker (λ r. Contains rows r × BoundsEnd lower column r) (Contains rows) (λ r c. c.0) chosen h.each;
  each = All-weaker (λ r. Contains rows r × BoundsEnd lower column r) (BoundsEnd lower column) (λ r c. c.1) chosen h.each;
  all = h.all;
}

-- at most eight modest rows of this end, which whole numbers meet exactly where they meet all of this end
pub record HasEnd (lower : Bool) (column : ℕ) (ranges : List (ℤ × ℤ)) (rows : List Affine) : Type 0 where
  pub kept : List Affine
  pub is_end : IsEnd lower column ranges rows kept
  pub imply : (whole : List ℤ) → length whole ≡ suc column → All (Meets whole) kept → All (λ r. BoundsEnd lower column r → Meets whole r) rows

nine_small : (n : ℕ) → n ≡ 9 → n < 2 ^ 63
nine_small n e = omega arith

module _ (system : Rows) (column : ℕ) (ranges : List (ℤ × ℤ)) (rows : List Affine) (projected : All (IsProjectedRow system (suc column)) rows) (lower : Bool) (chosen : List Affine) (h : AreOfEnd lower column rows chosen) where
  nine_why : HasNine (suc column) chosen → (why : Why) × IsWhy system column ranges why
  nine_why n = (Nine (vec_of n.nine (nine_small (length n.nine) n.as_many)), (of_end_all system column chosen n.nine (chosen_one_end system lower column rows chosen projected h) n.among, n.as_many, n.none))

  sized : (kept : List Affine) → AreEnough (suc column) chosen kept → HasEnd lower column ranges rows ⊎ ((why : Why) × IsWhy system column ranges why)
  sized kept e =
      let among : All (Contains rows) kept = among_all (Contains rows) chosen kept h.among e.among in
      elim (all_or_one (IsModest ranges) (IsLarge ranges) (size_of ranges) kept) [
        | inr one ↦ inr (Large one.0, (All-contains (IsProjectedRow system (suc column)) kept one.0 (among_all (IsProjectedRow system (suc column)) rows kept projected among) one.1, one.2))
        | inl modest ↦ inl (record {
          kept = kept;
          is_end = record { few = e.few; among = among; each = among_all (BoundsEnd lower column) chosen kept h.each e.among; modest = modest };
          imply = λ whole l met.
              let all = e.imply whole l met in
              All-weaker (λ r. BoundsEnd lower column r → Contains chosen r) (λ r. BoundsEnd lower column r → Meets whole r) (λ r f b. All-contains (Meets whole) chosen r all (f b)) rows h.all;
        })
      ]

  an_end : HasEnd lower column ranges rows ⊎ ((why : Why) × IsWhy system column ranges why)
  an_end = elim (enough (suc column) chosen (projected_widths system (suc column) chosen (among_all (IsProjectedRow system (suc column)) rows chosen projected h.among))) [
    | inl kept ↦ sized kept.0 kept.1
    | inr nine ↦ inr (nine_why nine)
  ]

end_of : (system : Rows) (column : ℕ) (ranges : List (ℤ × ℤ)) (rows : List Affine) → All (IsProjectedRow system (suc column)) rows → (lower : Bool) → HasEnd lower column ranges rows ⊎ ((why : Why) × IsWhy system column ranges why)
end_of system column ranges rows projected lower =
    let p = pick (BoundsEnd lower column) (end_or_not lower column) rows in
    an_end system column ranges rows projected lower p.0 (of_end lower column rows p.0 p.1)

-- ---- Both ends

both_ends : (column : ℕ) (ranges : List (ℤ × ℤ)) (rows : List Affine) (low : HasEnd true column ranges rows) (high : HasEnd false column ranges rows) → AreBothEnds column ranges rows low.kept high.kept
both_ends column ranges rows low high = record { low = low.is_end; high = high.is_end; imply = λ whole l flat below above. (low.imply whole l below, high.imply whole l above) }

eight_small : (n : ℕ) → n ≤ 8 → n < 2 ^ 63
eight_small n h = omega arith

pub columns_have_bounds : ColumnsHaveBounds
columns_have_bounds system column ranges w inside =
    let p = projection system.columns system.rows (suc column) w inside in
    let all = rows_projected system (suc column) p.made p.projected p.are p.later in
    elim (end_of system column ranges p.projected all true) [
      | inr why ↦ (Loose why.0, why.1)
      | inl low ↦ elim (end_of system column ranges p.projected all false) [
        | inr why ↦ (Loose why.0, why.1)
        | inl high ↦ (
          Between (vec_of low.kept (eight_small (length low.kept) low.is_end.few)) (vec_of high.kept (eight_small (length high.kept) high.is_end.few)),
          (are_ends system column ranges p.made p.projected low.kept high.kept inside w p.are p.later (both_ends column ranges p.projected low high), low.is_end.modest, high.is_end.modest),
        )
      ]
    ]
