-- Projected rows hold at each rational point of their system.
use Rattle.std.proofs.Common.{◌≡◌, ℕ, zero, suc, ◌<◌, ◌≤◌, List, [], ◌∷◌, length, get_or, take, replicate, ℤ, pos, ◌+ℤ◌, ◌*ℤ◌, ◌≤ℤ◌, refl, sym, ap, subst, ◌∙◌, arith}
use Rattle.std.specs.List.{All}
use Rattle.std.proofs.lemmas.Int.{ints}
use Rattle.std.proofs.lemmas.List.{get_or-take, length-take-le}
use Rattle.std.proofs.lemmas.List.Elements.{All-head, All-tail}
use lib.IntN.{*ℤ-zero}
use Rattle.affc_rows.specs.Forms.{Affine, HaveColumns, dot, mixed_form}
use Rattle.affc_rows.proofs.IntLemmas.{one-mul, mul-nonneg}
use Rattle.affc_rows.proofs.ValueLemmas.{length-mixed}
use Rattle.affc_system.specs.Systems.{Rows}
use Rattle.affc_farkas.specs.Multiples.{entry_of, zero_row}
use Rattle.affc_farkas.proofs.Points.{scaled_value-mixed}
use Rattle.affc_farkas.specs.Rational.{scaled_value}
use Rattle.affc_farkas.specs.Eliminations.{combined}
use Rattle.affc_farkas.proofs.Between.{swap, cancel}
use Rattle.affc_farkas.proofs.Entries.{entry_of-mixed, zeros-at}
use Rattle.affc_eliminate.proofs.Values.{entry_inside, entry_last}
use Rattle.affc_eliminate.proofs.project.Points.{first_value}
use Rattle.affc_loopends.specs.Ends.{IsProjectedRow}

-- the sum of the multiples of rows, with a weight for each
abbrev total : ℕ → List Affine → List ℕ → Affine
total columns [] ws = zero_row columns
total columns (r ∷ rs) [] = zero_row columns
total columns (r ∷ rs) (w ∷ ws) = mixed_form (pos w) r (pos 1) (total columns rs ws)

zeros_long : (n : ℕ) → length (replicate n (pos 0)) ≡ n
zeros_long zero = refl
zeros_long (suc n) = ap suc (zeros_long n)

total_wide : (columns : ℕ) (rows : List Affine) (ws : List ℕ) → HaveColumns columns rows → length (total columns rows ws).coefs ≡ columns
total_wide columns [] ws w = zeros_long columns
total_wide columns (r ∷ rs) [] w = zeros_long columns
total_wide columns (r ∷ rs) (n ∷ ws) w =
    let u : length r.coefs ≡ columns = All-head (λ f. length f.coefs ≡ columns) r rs w in
    length-mixed (pos n) r.coefs (pos 1) (total columns rs ws).coefs (u ∙ sym (total_wide columns rs ws (All-tail (λ f. length f.coefs ≡ columns) r rs w))) ∙ u

no_terms : (x : List ℤ) (n : ℕ) → dot (replicate n (pos 0)) x ≡ pos 0
no_terms x zero = refl
no_terms [] (suc n) = refl
no_terms (y ∷ x) (suc n) = omega (arith, ints, no_terms x n)

zero_holds : (columns : ℕ) (x : List ℤ) (d : ℤ) → pos 0 ≤ℤ scaled_value (zero_row columns) x d
zero_holds columns x d = omega (arith, ints, no_terms x columns, *ℤ-zero d)

sum_holds : (u v w z : ℤ) → z ≡ u +ℤ v → v ≡ w → pos 0 ≤ℤ u → pos 0 ≤ℤ w → pos 0 ≤ℤ z
sum_holds u v w z e f h k = omega (arith, ints)

total_holds : (columns : ℕ) (rows : List Affine) (ws : List ℕ) (x : List ℤ) (d : ℤ) → HaveColumns columns rows → length x ≡ columns → All (λ r. pos 0 ≤ℤ scaled_value r x d) rows
    → pos 0 ≤ℤ scaled_value (total columns rows ws) x d
total_holds columns [] ws x d w l h = zero_holds columns x d
total_holds columns (r ∷ rs) [] x d w l h = zero_holds columns x d
total_holds columns (r ∷ rs) (n ∷ ws) x d w l h =
    let u : length r.coefs ≡ columns = All-head (λ f. length f.coefs ≡ columns) r rs w in
    let later = All-tail (λ f. length f.coefs ≡ columns) r rs w in
    let t = total columns rs ws in
    sum_holds (pos n *ℤ scaled_value r x d) (pos 1 *ℤ scaled_value t x d) (scaled_value t x d) (scaled_value (total columns (r ∷ rs) (n ∷ ws)) x d)
    (scaled_value-mixed (pos n) r (pos 1) t x d (u ∙ sym (total_wide columns rs ws later)) (u ∙ sym l)) (one-mul (scaled_value t x d))
    (mul-nonneg n (scaled_value r x d) (All-head (λ f. pos 0 ≤ℤ scaled_value f x d) r rs h))
    (total_holds columns rs ws x d later l (All-tail (λ f. pos 0 ≤ℤ scaled_value f x d) r rs h))

total_entry : (columns : ℕ) (rows : List Affine) (ws : List ℕ) (j : ℕ) → HaveColumns columns rows → j ≤ columns → entry_of (total columns rows ws) j ≡ combined rows ws j
total_entry columns [] [] j w le = zeros-at columns j
total_entry columns [] (n ∷ ws) j w le = zeros-at columns j
total_entry columns (r ∷ rs) [] j w le = zeros-at columns j
total_entry columns (r ∷ rs) (n ∷ ws) j w le =
    let u : length r.coefs ≡ columns = All-head (λ f. length f.coefs ≡ columns) r rs w in
    let later = All-tail (λ f. length f.coefs ≡ columns) r rs w in
    let t = total columns rs ws in
    entry_of-mixed (pos n) r (pos 1) t j (u ∙ sym (total_wide columns rs ws later)) (subst (λ k. j ≤ k) (sym u) le)
    ∙ ap (λ z. (pos n *ℤ entry_of r j) +ℤ z) (one-mul (entry_of t j) ∙ total_entry columns rs ws j later le)

-- ---- In least terms

-- the form with its constant times d
abbrev at_scale : ℤ → Affine → Affine
at_scale d f = record { coefs = f.coefs; constant = d *ℤ f.constant }

one_at_least : (n : ℕ) → 1 ≤ n → pos 1 ≤ℤ pos n
one_at_least n h = omega (arith, ints)

in_time : (j keep columns : ℕ) → j < keep → keep ≤ columns → j < columns
in_time j keep columns h le = omega arith

-- the value of a row that is 0 in the later columns, by its row in least terms
least_scaled : (columns keep : ℕ) (t row : Affine) (x : List ℤ) (d : ℤ) (g : ℕ) → keep ≤ columns → length t.coefs ≡ columns → length row.coefs ≡ keep → length x ≡ columns
    → ((j : ℕ) → j < keep → entry_of t j ≡ pos g *ℤ entry_of row j) → ((j : ℕ) → keep ≤ j → j < columns → entry_of t j ≡ pos 0) → t.constant ≡ pos g *ℤ row.constant
    → scaled_value t x d ≡ pos g *ℤ scaled_value row (take keep x) d
least_scaled columns keep t row x d g le tw rw' l coefs zeros last =
    let first = first_value (pos g) (at_scale d t) (at_scale d row) x (pos 1) (take keep x)
    (length-take-le keep x (subst (λ n. keep ≤ n) (sym l) le) ∙ sym rw') (subst (λ n. n ≤ length t.coefs) (sym rw') (subst (λ n. keep ≤ n) (sym tw) le)) (l ∙ sym tw)
    (λ j lt.
    let lt' : j < keep = subst (λ n. j < n) rw' lt in
    sym (entry_inside t j (subst (λ n. j < n) (sym tw) (in_time j keep columns lt' le))) ∙ coefs j lt' ∙ ap (λ z. pos g *ℤ z) (entry_inside row j lt))
    (λ j ge lt. sym (entry_inside t j lt) ∙ zeros j (subst (λ n. n ≤ j) rw' ge) (subst (λ n. j < n) tw lt))
    (ap (λ z. d *ℤ z) last ∙ swap d (pos g) row.constant)
    (λ j lt. sym (get_or-take keep x j (pos 0) (subst (λ n. j < n) (length-take-le keep x (subst (λ n. keep ≤ n) (sym l) le)) lt)) ∙ sym (one-mul (get_or (take keep x) j (pos 0)))) in
    ap (λ z. dot t.coefs x +ℤ z) (sym (one-mul (d *ℤ t.constant))) ∙ first ∙ ap (λ z. pos g *ℤ z) (one-mul (scaled_value row (take keep x) d))

pub row_holds : (system : Rows) (keep : ℕ) (row : Affine) (x : List ℤ) (d : ℤ) → IsProjectedRow system keep row → keep ≤ system.columns → HaveColumns system.columns system.rows → length x ≡ system.columns
    → All (λ r. pos 0 ≤ℤ scaled_value r x d) system.rows → pos 0 ≤ℤ scaled_value row (take keep x) d
row_holds system keep row x d p le w l h =
    let i = p.is_row in
    let terms = i.terms in
    let ws = get_or p.table i.number [] in
    let t = total system.columns system.rows ws in
    let tw = total_wide system.columns system.rows ws w in
    let entry : (j : ℕ) → j ≤ system.columns → entry_of t j ≡ combined system.rows ws j = λ j le. total_entry system.columns system.rows ws j w le in
    let same = least_scaled system.columns keep t row x d terms.divisor le tw terms.width l
    (λ j lt. entry j (below j (in_time j keep system.columns lt le)) ∙ terms.coefs j lt)
    (λ j ge lt. entry j (below j lt) ∙ i.zeros j ge lt)
    (sym (entry_last t system.columns tw) ∙ entry system.columns (omega arith) ∙ terms.last) in
    cancel (pos terms.divisor) (scaled_value row (take keep x) d) (one_at_least terms.divisor terms.positive) (subst (λ z. pos 0 ≤ℤ z) same (total_holds system.columns system.rows ws x d w l h))
  where
    below : (j : ℕ) → j < system.columns → j ≤ system.columns
    below j lt = omega arith
