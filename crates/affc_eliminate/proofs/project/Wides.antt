-- A step that ends with a number that is too great, as one of an elimination.
use Rattle.std.proofs.Common.{◌≡◌, ◌⊎◌, ℕ, zero, suc, ◌+◌, ◌*◌, ◌/◌, ◌^◌, ◌<◌, ◌≤◌, List, [], ◌∷◌, ◌++◌, length, map, get_or, ℤ, pos, ◌+ℤ◌, ◌*ℤ◌, ◌<ℤ◌, sym, ap, subst, ◌∙◌, inl, inr, arith}
use Rattle.std.specs.Prelude.{unsigned_abs}
use Rattle.std.specs.List.{All}
use Prim.Native.Nat.{◌∣◌}
use Rattle.std.proofs.lemmas.Bool.{cases_lt}
use Rattle.std.proofs.lemmas.List.{get_or_default}
use Rattle.std.proofs.Math.Nat.{mul-div_cancel_left}
use Rattle.std.proofs.lemmas.List.Elements.{All-push, All-append, All-weaker}
use Rattle.affc_rows.specs.Forms.{Affine}
use Rattle.affc_farkas.specs.Multiples.{entry_of}
use Rattle.affc_farkas.specs.Eliminations.{combined, mixed_weights, AreFactors, HasFrom, PassesLimit}
use Rattle.affc_farkas.specs.Eliminations as farkas
use Rattle.affc_farkas.specs.declared.pair.Pair.{Pair}
use Rattle.affc_farkas.proofs.Weights.{has_from, divided_wide, divisor_positive, some_mixed, some_weight, passes_after}
use Rattle.affc_eliminate.specs.Mixtures.{weight_of, mixed_weight, WeightPasses, PassesSigned}
use Rattle.affc_eliminate.specs.Steps.{AddEach}
use Rattle.affc_eliminate.specs.Steps as steps
use Rattle.affc_eliminate.specs.declared.kept.Kept.{Kept}
use Rattle.affc_eliminate.proofs.Mixtures.{abs_down}
use Rattle.affc_eliminate.specs.project.Projections.{HasWideEntry, IsTooWide, AreFrom}
use Rattle.affc_eliminate.specs.project.States.{dense, IsState}
use Rattle.affc_eliminate.proofs.project.Denses.{dense_length, none_past, dense_mixed_length, dense_mixed_at, divides_mixed, factors_dense}
use Rattle.affc_eliminate.proofs.project.Tables.{weights_of, step_columns, live_within, live_entry, live_width, step_next, first_weights, second_weights, table_of_step}

lt_le : (a b : ℕ) → a < b → a ≤ b
lt_le a b h = omega arith

-- ---- A multiplier that is too great

not_large : (w : ℕ) → w ≡ 0 → 2 ^ 127 ≤ w → ⊥
not_large w e h = absurd (omega arith)

no_part : (d q : ℕ) → 1 ≤ d → d * q ≡ 0 → 2 ^ 53 < q → ⊥
no_part zero q one e h = absurd (omega arith)
no_part (suc d) zero one e h = absurd (omega arith)
no_part (suc d) (suc q) one e h = absurd (omega arith)

exact_part : (d q w : ℕ) → 1 ≤ d → w ≡ d * q → w / d ≡ q
exact_part d q w one e = ap (λ z. z / d) e ∙ mul-div_cancel_left q {n = d} one

more_than : (q n : ℕ) → 2 ^ 53 < q → n ≡ q → 2 ^ 53 + 1 ≤ n
more_than q n h e = omega arith

pub weight_passes : (count : ℕ) (first second : List (ℕ × ℕ)) (s t : ℕ) → ((i : ℕ) → count ≤ i → weight_of first i ≡ 0) → ((i : ℕ) → count ≤ i → weight_of second i ≡ 0)
    → HasFrom 1 (mixed_weights s (dense count 0 first) t (dense count 0 second)) → WeightPasses (mixed_weight s first t second) → PassesLimit (mixed_weights s (dense count 0 first) t (dense count 0 second))
weight_passes count first second s t wf ws some (inl h) =
    let F = dense count 0 first in
    let S = dense count 0 second in
    elim (cases_lt h.0 count) [
      | inl lt ↦ inl (has_from (2 ^ 127) (mixed_weights s F t S) h.0 (subst (λ z. h.0 < z) (sym (dense_mixed_length count first second s t)) lt) (subst (λ z. 2 ^ 127 ≤ z) (sym (dense_mixed_at count first second s t h.0 lt)) h.1))
      | inr ge ↦ absurd (not_large (mixed_weight s first t second h.0) (none_past first second s t h.0 (wf h.0 ge) (ws h.0 ge)) h.1)
    ]
weight_passes count first second s t wf ws some (inr h) =
    let d = h.0 in
    let before = mixed_weights s (dense count 0 first) t (dense count 0 second) in
    let l = dense_mixed_length count first second s t in
    let divides : All (λ w. d ∣ w) before = λ k z kl.
    subst (λ w. d ∣ w) (sym (get_or_default before k z 0 kl ∙ dense_mixed_at count first second s t k (subst (λ n. k < n) l kl))) (h.3.divides k) in
    let one : 1 ≤ d = divisor_positive d before some divides in
    passes_after before d one divides (λ k all. h.3.greatest k (divides_mixed count first second s t k wf ws all))
    (elim (cases_lt h.1 count) [
      | inl here ↦ divided_wide (2 ^ 53 + 1) d before h.1 (subst (λ n. h.1 < n) (sym l) here)
          (more_than h.2 (get_or before h.1 0 / d) h.5 (exact_part d h.2 (get_or before h.1 0) one (dense_mixed_at count first second s t h.1 here ∙ h.4)))
      | inr ge ↦ absurd (no_part d h.2 one (sym h.4 ∙ none_past first second s t h.1 (wf h.1 ge) (ws h.1 ge)) h.5)
    ])

-- ---- The step

factor_at_least : (a b s t : ℕ) → 1 ≤ b → AreFactors a b s t → 1 ≤ s
factor_at_least a b zero t one h = absurd (omega (arith, h.first))
factor_at_least a b (suc s) t one h = omega arith

-- the first factor isn't 0, and the first row has weights
pub some_before : (rows : List Affine) (column s t : ℕ) (first second : List ℕ) (x y : ℤ) → length first ≡ length second → combined rows first column ≡ x → pos 0 <ℤ x → y <ℤ pos 0
    → AreFactors (unsigned_abs x) (unsigned_abs y) s t → HasFrom 1 (mixed_weights s first t second)
some_before rows column s t first second x y l e up down h =
    some_mixed s first t second l (factor_at_least (unsigned_abs x) (unsigned_abs y) s t (abs_down y down) h)
    (some_weight first (map (λ row. entry_of row column) rows) (subst (λ z. pos 0 <ℤ z) (sym e) up))

pub too_wide : (columns : ℕ) (rows : List Affine) (column free : ℕ) (made ps : List Pair) (live : List Kept) (next : Pair) → column < columns → IsState columns rows made live
    → steps.IsTooWide live column free ps next → IsTooWide columns rows (made ++ ps) next
too_wide columns rows column free made ps live next lt h w =
    let N = length rows in
    let le = lt_le column columns lt in
    let f = w.first in
    let g = w.second in
    let n = w.is_next in
    let after = map (weights_of N) w.added in
    let T = h.table ++ after in
    let F = weights_of N f in
    let S = weights_of N g in
    let s = w.wide.s in
    let t = w.wide.t in
    let ef = live_entry columns rows made live f column h n.first_in le in
    let eg = live_entry columns rows made live g column h n.second_in le in
    let wf = live_within columns rows made live f h n.first_in in
    let wg = live_within columns rows made live g h n.second_in in
    let factors = factors_dense columns rows column s t f g (combined rows F column) (combined rows S column) (sym ef) (sym eg) w.wide.factors in
    let some = some_before rows column s t F S (entry_of f.row column) (entry_of g.row column) (dense_length N 0 f.from ∙ sym (dense_length N 0 g.from)) ef n.positive n.negative w.wide.factors in
    let plain : HasWideEntry columns rows column F S ⊎ farkas.IsWide rows column F S = elim w.wide.passes [
      | inl weights ↦ inr (record { s = s; t = t; factors = factors; passes = weight_passes N f.from g.from s t wf wg some weights })
      | inr entries ↦
          let j = entries.0 in
          let inside : j ≤ columns = subst (λ z. j ≤ z) (live_width columns rows made live f h n.first_in) entries.1 in
          inl (record {
            s = s;
            t = t;
            factors = factors;
            place = j;
            inside = inside;
            passes = subst (λ z. PassesSigned ((pos s *ℤ z) +ℤ (pos t *ℤ combined rows S j))) (sym (live_entry columns rows made live f j h n.first_in inside))
                (subst (λ z. PassesSigned ((pos s *ℤ entry_of f.row j) +ℤ (pos t *ℤ z))) (sym (live_entry columns rows made live g j h n.second_in inside)) entries.2);
          })
    ] in
    let at : ℕ → List ℕ → List ℕ → Type 0 = λ k u v. HasWideEntry columns rows k u v ⊎ farkas.IsWide rows k u v in
    record {
      table = T;
      is_table = table_of_step columns rows column free made live h lt w.add_each;
      is_next = step_next columns rows column made ps live after next f g h lt (step_columns live column free w.add_each) n;
      wide = subst (λ k. at k (get_or T next.first []) (get_or T next.second [])) (sym (ap (λ (q : Pair). q.column) n.names))
          (subst (λ u. at column u (get_or T next.second [])) (sym (first_weights columns rows column made ps live after next f g h n))
          (subst (λ v. at column F v) (sym (second_weights columns rows column made ps live after next f g h n)) plain));
    }

-- ---- Columns of the pairs

pub still_from : (keep column : ℕ) (live : List Kept) (free : ℕ) (made : List Pair) {ps : List Pair} {added : List Kept} → keep ≤ column → AreFrom keep made → AddEach live column free ps added → AreFrom keep (made ++ ps)
still_from keep column live free made {ps} le h t =
    All-append (λ p. keep ≤ p.column) made ps h (All-weaker (λ q. q.column ≡ column) (λ q. keep ≤ q.column) (λ q e. subst (λ z. keep ≤ z) (sym e) le) ps (step_columns live column free t))

pub next_from : (keep column free : ℕ) (made ps : List Pair) (live : List Kept) (next : Pair) → keep ≤ column → AreFrom keep made → steps.IsTooWide live column free ps next → AreFrom keep ((made ++ ps) ++ next ∷ [])
next_from keep column free made ps live next le h w =
    All-push (λ p. keep ≤ p.column) (made ++ ps) next (still_from keep column live free made le h w.add_each) (subst (λ z. keep ≤ z) (sym (ap (λ (q : Pair). q.column) w.is_next.names)) le)
