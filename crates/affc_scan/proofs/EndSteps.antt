-- The steps by which ends are made.
use Rattle.std.proofs.Common.{◌≡◌, ◌≢◌, ℕ, zero, suc, ◌+◌, ◌^◌, ◌≤◌, ℤ, pos, negsuc, neg_ℤ, List, [], ◌∷◌, ◌++◌, length, length-append, map, refl, sym, ap, subst, ◌∙◌, arith}
use Rattle.std.specs.Prelude.{unsigned_abs}
use Rattle.std.proofs.lemmas.List.{length-map, length-take-le}
use Rattle.std.proofs.lemmas.List.Elements.{All-take}
use Rattle.affc_rows.specs.Forms.{Affine}
use Rattle.affc_rows.specs.Vocabulary.{HasOpposite}
use Rattle.affc_rows.proofs.VocabularyLemmas.{within_opposite}
use Rattle.affc_ast.specs.declared.tree.Ix.{Ix}
use Rattle.affc_ast.specs.declared.tree.Ix.TheVariants.{Min, Max, Floord, Ceild}
use Rattle.affc_domain.proofs.Lists.{neg_size}
use Rattle.affc_loops.specs.Ends.{rest_of, opposite, rounded_up, rounded_down, least_by, greatest_by, joined, lower_end, upper_end, both_ends}
use Rattle.affc_loops.specs.Trees.{number}
use Rattle.affc_loops.specs.terms.Sizes.{IsModest}
use Rattle.affc_loopends.proofs.Asked.{negated_fits}
use Rattle.affc_scan.specs.EndRows.{IsEndRow}

-- ---- Rows without their last column

pub rest_row : (column : ℕ) (row : Affine) → IsEndRow column row → IsModest (rest_of column row) × (length (rest_of column row).coefs ≡ column)
rest_row column row r = (
  record { coefs = All-take (λ c. unsigned_abs c ≤ 2 ^ 40) column row.coefs r.modest.coefs; constant = r.modest.constant },
  length-take-le column row.coefs (let w : length row.coefs ≡ suc column = r.width in omega arith),
)

pub opposite_modest : (f g : Affine) → g ≡ opposite f → IsModest f → IsModest g
opposite_modest f g e m = subst IsModest (sym e) (record { coefs = negated_fits f.coefs m.coefs; constant = subst (λ k. k ≤ 2 ^ 59) (sym (neg_size f.constant)) m.constant })

pub opposite_long : (f g : Affine) → g ≡ opposite f → length g.coefs ≡ length f.coefs
opposite_long f g e = ap (λ (h : Affine). length h.coefs) e ∙ length-map f.coefs neg_ℤ

pub modest_opposite : (f : Affine) → IsModest f → HasOpposite f
modest_opposite f m = within_opposite (2 ^ 40) (2 ^ 59) f (omega arith) (omega arith) m.coefs m.constant

-- ---- Quotients

pub up_by_one : (e : Ix) (by : ℤ) → by ≡ pos 1 → e ≡ rounded_up e by
up_by_one e by h = ap (rounded_up e) (sym h)

pub down_by_one : (e : Ix) (by : ℤ) → by ≡ pos 1 → e ≡ rounded_down e by
down_by_one e by h = ap (rounded_down e) (sym h)

pub up_by_more : (e : Ix) (by : ℤ) → by ≢ pos 1 → Ceild e by ≡ rounded_up e by
up_by_more e (pos zero) h = refl
up_by_more e (pos (suc zero)) h = absurd (h refl)
up_by_more e (pos (suc (suc n))) h = refl
up_by_more e (negsuc n) h = refl

pub down_by_more : (e : Ix) (by : ℤ) → by ≢ pos 1 → Floord e by ≡ rounded_down e by
down_by_more e (pos zero) h = refl
down_by_more e (pos (suc zero)) h = absurd (h refl)
down_by_more e (pos (suc (suc n))) h = refl
down_by_more e (negsuc n) h = refl

-- ---- Ends of one component

joined_last : (both : Ix → Ix → Ix) (x : Ix) (ys : List Ix) (last : Ix) → joined both x (ys ++ last ∷ []) ≡ both (joined both x ys) last
joined_last both x [] last = refl
joined_last both x (y ∷ ys) last = joined_last both (both x y) ys last

pub lower_last : (first column : ℕ) (rows rest : List Affine) (row : Affine) (low : ℤ) (own made last all : Ix) → rows ≡ row ∷ rest → last ≡ number low → own ≡ least_by first column row
    → made ≡ joined Max own (map (least_by first column) rest) → all ≡ Max made last → all ≡ lower_end first column rows low
lower_last first column rows rest row low own made last all r l o m a =
    a
    ∙ ap (λ z. Max made z) l
    ∙ ap (λ z. Max z (number low)) (m ∙ ap (λ z. joined Max z (map (least_by first column) rest)) o)
    ∙ sym (joined_last Max (least_by first column row) (map (least_by first column) rest) (number low))
    ∙ ap (λ z. lower_end first column z low) (sym r)

pub upper_last : (first column : ℕ) (rows rest : List Affine) (row : Affine) (high : ℤ) (own made last all : Ix) → rows ≡ row ∷ rest → last ≡ number high → own ≡ greatest_by first column row
    → made ≡ joined Min own (map (greatest_by first column) rest) → all ≡ Min made last → all ≡ upper_end first column rows high
upper_last first column rows rest row high own made last all r l o m a =
    a
    ∙ ap (λ z. Min made z) l
    ∙ ap (λ z. Min z (number high)) (m ∙ ap (λ z. joined Min z (map (greatest_by first column) rest)) o)
    ∙ sym (joined_last Min (greatest_by first column row) (map (greatest_by first column) rest) (number high))
    ∙ ap (λ z. upper_end first column z high) (sym r)

-- ---- Ends of two statements

both_last : (as' bs : List (Ix × Ix)) (a b : Ix × Ix) → length as' ≡ length bs → both_ends (as' ++ a ∷ []) (bs ++ b ∷ []) ≡ both_ends as' bs ++ (Min a.0 b.0, Max a.1 b.1) ∷ []
both_last [] [] a b l = refl
both_last [] (y ∷ bs) a b l = absurd (omega arith)
both_last (x ∷ as') [] a b l = absurd (omega arith)
both_last (x ∷ as') (y ∷ bs) a b l = ap (λ es. (Min x.0 y.0, Max x.1 y.1) ∷ es) (both_last as' bs a b (omega arith))

pub fewer : (ends others outer outer_others : List (Ix × Ix)) (a b : Ix × Ix) → length ends ≡ length others → ends ≡ outer ++ a ∷ [] → others ≡ outer_others ++ b ∷ [] → length outer ≡ length outer_others
fewer ends others outer outer_others a b l e f =
    let p : length ends ≡ length outer + 1 = ap length e ∙ length-append outer (a ∷ []) in
    let q : length others ≡ length outer_others + 1 = ap length f ∙ length-append outer_others (b ∷ []) in
    omega arith

pub both_made : (ends others outer outer_others before made : List (Ix × Ix)) (a b both : Ix × Ix) → length ends ≡ length others → ends ≡ outer ++ a ∷ [] → others ≡ outer_others ++ b ∷ []
    → both ≡ (Min a.0 b.0, Max a.1 b.1) → before ≡ both_ends outer outer_others → made ≡ before ++ both ∷ [] → made ≡ both_ends ends others
both_made ends others outer outer_others before made a b both l e f p q m =
    m
    ∙ ap (λ z. z ++ both ∷ []) q
    ∙ ap (λ z. both_ends outer outer_others ++ z ∷ []) p
    ∙ sym (both_last outer outer_others a b (fewer ends others outer outer_others a b l e f))
    ∙ ap (λ z. both_ends z (outer_others ++ b ∷ [])) (sym e)
    ∙ ap (both_ends ends) (sym f)
