-- Rows that no point meets.
use Rattle.std.proofs.Common.{◌≡◌, ◌⊎◌, ℕ, ◌+◌, ◌<◌, ◌≤◌, List, [], ◌∷◌, length, take, get_or, replicate, ℤ, pos, negsuc, ◌+ℤ◌, ◌*ℤ◌, ◌≤ℤ◌, ◌<ℤ◌, refl, sym, ap, subst, ◌∙◌, inl, inr, arith}
use Rattle.std.specs.Prelude.{◌↔◌}
use Rattle.std.specs.List.{All, Contains}
use Rattle.std.proofs.lemmas.Int.{ints}
use Rattle.std.proofs.lemmas.Bool.{cases_lt}
use Rattle.std.proofs.lemmas.List.{length-replicate}
use Rattle.std.proofs.lemmas.List.Elements.{All-nil, All-cons, All-head, All-tail, All-weaker, All-contains, All-take, All-map, Contains-get_or}
use Rattle.affc_rows.specs.Forms.{Affine, dot}
use Rattle.affc_farkas.specs.Multiples.{entry_of, multiple_sum, AreMultipliers}
use Rattle.affc_farkas.specs.Proofs.{IsLeaf}
use Rattle.affc_farkas.specs.Rational.{scaled_value, RationalPoint}
use Rattle.affc_farkas.specs.declared.pair.Pair.{Pair}
use Rattle.affc_farkas.proofs.Between.{cancel}
use Rattle.affc_farkas.proofs.Sound.{dot-cancelled}
use Rattle.affc_farkas.proofs.Implied.{holds_everywhere}
use Rattle.affc_eliminate.specs.Mixtures.{forms_of, weight_of}
use Rattle.affc_eliminate.specs.declared.kept.Kept.{Kept}
use Rattle.affc_eliminate.proofs.Sums.{single_here}
use Rattle.affc_eliminate.proofs.Added.{each_form}
use Rattle.affc_eliminate.specs.project.Projections.{ExtendsWhole}
use Rattle.affc_eliminate.specs.project.States.{IsIn, AreZero, IsState, IsCancelled, IsDone, IsContradiction, HasContradiction}
use Rattle.affc_eliminate.specs.declared.project.work.Work.{Work}
use Rattle.affc_eliminate.proofs.project.Tables.{live_within, live_width}

pub nothing : Kept
nothing = record { row = record { coefs = []; constant = pos 0 }; from = []; number = 0 }

-- ---- No point

drop_zero : (a b : ℤ) → a ≡ pos 0 → pos 0 ≤ℤ (a +ℤ b) → pos 0 ≤ℤ b
drop_zero a b e h = omega (arith, ints)

not_both : (k : ℤ) → pos 0 ≤ℤ k → k <ℤ pos 0 → ⊥
not_both k h l = absurd (omega (arith, ints))

holds_nowhere : (row : Affine) (x : List ℤ) (d : ℤ) → IsContradiction row → pos 1 ≤ℤ d → pos 0 ≤ℤ scaled_value row x d → ⊥
holds_nowhere row x d h one met = not_both row.constant (cancel d row.constant one (drop_zero (dot row.coefs x) (d *ℤ row.constant) (dot-cancelled row x h.0) met)) h.1

pub no_point : (columns : ℕ) (live : List Kept) → HasContradiction live → RationalPoint columns (forms_of live) → ⊥
no_point columns live h p = holds_nowhere h.0.row p.x p.d h.2 p.divisor (each_form (λ row. pos 0 ≤ℤ scaled_value row p.x p.d) live h.0 p.meets h.1)

pub both_none : (P Q : Type 0) → (P → ⊥) → (Q → ⊥) → P ↔ Q
both_none P Q f g = ((λ p. absurd (f p)), (λ q. absurd (g q)))

-- ---- The first rows alone

-- what is the point of rows is one of the first of them
first_extends : (columns : ℕ) (live : List Kept) (n : ℕ) (whole : List ℤ) → ExtendsWhole columns (forms_of live) whole → ExtendsWhole columns (forms_of (take n live)) whole
first_extends columns live n whole e =
    let p = e.point in
    let P : Affine → Type 0 = λ row. pos 0 ≤ℤ scaled_value row p.x p.d in
    record {
      point = record {
        x = p.x;
        d = p.d;
        width = p.width;
        divisor = p.divisor;
        meets = All-map P (λ (k : Kept). k.row) (take n live) (All-take (λ k. P k.row) n live (λ i d lt. each_form P live (get_or live i d) p.meets (Contains-get_or live i d lt)));
      };
      begins = e.begins;
    }

-- where no point meets what the first rows come to, no point meets all rows
pub over_first : (columns : ℕ) (rows : List Affine) (column : ℕ) (made : List Pair) (live : List Kept) (n : ℕ) (new : Work) → IsCancelled columns rows column made (take n live) new → HasContradiction new.live.items
    → IsCancelled columns rows column made live new
over_first columns rows column made live n new c h = record {
  state = c.state;
  few = c.few;
  zero = c.zero;
  still = λ j jl z. c.still j jl (All-take (λ k. entry_of k.row j ≡ pos 0) n live z);
  beyond = c.beyond;
  same_points = λ whole l. both_none (ExtendsWhole columns (forms_of new.live.items) whole) (ExtendsWhole columns (forms_of live) whole)
      (λ e. no_point columns new.live.items h e.point)
      (λ e. no_point columns new.live.items h ((c.same_points whole l).1 (first_extends columns live n whole e)).point);
}

-- ---- One row alone

no_two : (i j : ℕ) → i < 1 → j < 1 → i ≡ j
no_two i j h k = omega arith

pub state_alone : (columns : ℕ) (rows : List Affine) (made : List Pair) (live : List Kept) (k : Kept) → IsState columns rows made live → Contains live k → IsState columns rows made (k ∷ [])
state_alone columns rows made live k h c = record {
  table = h.table;
  is_table = h.is_table;
  sums = record {
    few = h.sums.few;
    widths = h.sums.widths;
    sums = only (λ q. q.row ≡ multiple_sum columns rows q.from) (All-contains (λ q. q.row ≡ multiple_sum columns rows q.from) live k h.sums.sums c);
    named = only (λ q. All (λ p. p.0 < 1024) q.from) (All-contains (λ q. All (λ p. p.0 < 1024) q.from) live k h.sums.named c);
  };
  inside = only (IsIn (length rows) h.table) (All-contains (IsIn (length rows) h.table) live k h.inside c);
  numbered = λ i j d il jl ne e. ne (no_two i j il jl);
  cancelled = All-weaker (λ q. (q.column < columns) × AreZero q.column live) (λ q. (q.column < columns) × AreZero q.column (k ∷ []))
      (λ q z. (z.0, only (λ r. entry_of r.row q.column ≡ pos 0) (All-contains (λ r. entry_of r.row q.column ≡ pos 0) live k z.1 c))) made h.cancelled;
}
  where
    only : (P : Kept → Type 0) → P k → All P (k ∷ [])
    only P p = All-cons P k [] p (All-nil P)

pub zero_alone : (columns : ℕ) (rows : List Affine) (made : List Pair) (live : List Kept) (k : Kept) (j : ℕ) → IsState columns rows made live → Contains live k → IsContradiction k.row → j < columns → AreZero j (k ∷ [])
zero_alone columns rows made live k j h c i lt =
    All-cons (λ q. entry_of q.row j ≡ pos 0) k [] (i.0 j (subst (λ n. j < n) (sym (live_width columns rows made live k h c)) lt)) (All-nil (λ q. entry_of q.row j ≡ pos 0))

pub itself_alone : (k : Kept) → Contains (k ∷ []) k
itself_alone k = (0, omega arith, refl)

-- ---- The leaf of the row

sum_first : (a b : ℕ) → a + b ≡ 0 → a ≡ 0
sum_first a b e = omega arith

sum_last : (a b : ℕ) → a + b ≡ 0 → b ≡ 0
sum_last a b e = omega arith

not_nothing : (a b w : ℕ) → a ≡ w → a + b ≡ 0 → 1 ≤ w → ⊥
not_nothing a b w e s h = absurd (omega arith)

-- rows that have no weight aren't named
named_inside : (n : ℕ) (by : List (ℕ × ℕ)) → All (λ p. 1 ≤ p.1) by → ((i : ℕ) → n ≤ i → weight_of by i ≡ 0) → All (λ p. p.0 < n) by
named_inside n [] h w = All-nil (λ p. p.0 < n)
named_inside n (p ∷ ps) h w = All-cons (λ q. q.0 < n) p ps
    (elim (cases_lt p.0 n) [ inl lt ↦ lt | inr ge ↦ absurd (not_nothing _ (weight_of ps p.0) p.1 (single_here p.0 p.1 p.0 refl) (w p.0 ge) (All-head (λ q. 1 ≤ q.1) p ps h)) ])
    (named_inside n ps (All-tail (λ q. 1 ≤ q.1) p ps h) (λ i le. sum_last _ (weight_of ps i) (w i le)))

pub leaf_of : (columns : ℕ) (rows : List Affine) (made : List Pair) (live : List Kept) (k : Kept) → IsState columns rows made live → Contains live k → IsContradiction k.row → AreMultipliers k.from → IsLeaf columns rows k.from
leaf_of columns rows made live k h c i m =
    let same = All-contains (λ q. q.row ≡ multiple_sum columns rows q.from) live k h.sums.sums c in
    record {
      multipliers = m;
      there = named_inside (length rows) k.from m.positive (live_within columns rows made live k h c);
      cancels = λ j lt. ap (λ f. entry_of f j) (sym same) ∙ i.0 j (subst (λ n. j < n) (sym (live_width columns rows made live k h c)) lt);
      negative = subst (λ f. f.constant <ℤ pos 0) same i.1;
    }

-- ---- The point where there is no such row

sign_of : (z : ℤ) → (pos 0 ≤ℤ z) ⊎ (z <ℤ pos 0)
sign_of (pos n) = inl (omega (arith, ints))
sign_of (negsuc n) = inr (omega (arith, ints))

pub some_point : (columns : ℕ) (rows : List Affine) (made : List Pair) (live : List Kept) → IsDone columns rows 0 made live → All (λ k. IsContradiction k.row → ⊥) live → RationalPoint columns rows
some_point columns rows made live h none =
    let x = replicate columns (pos 0) in
    let one : pos 1 ≤ℤ pos 1 = omega (arith, ints) in
    let holds : All (λ k. pos 0 ≤ℤ scaled_value k.row x (pos 1)) live = λ i d lt.
    let k = get_or live i d in
    let zeros : (j : ℕ) → j < length k.row.coefs → entry_of k.row j ≡ pos 0 =
    λ j jl. h.zeros j (omega arith) (subst (λ n. j < n) (live_width columns rows made live k h.state (Contains-get_or live i d lt)) jl) i d lt in
    let least : pos 0 ≤ℤ k.row.constant = elim (sign_of k.row.constant) [ inl up ↦ up | inr down ↦ absurd (none i d lt (zeros, down)) ] in
    holds_everywhere k.row x (pos 1) zeros least one in
    ((h.same_points [] refl).0 (record {
      point = record {
        x = x;
        d = pos 1;
        width = length-replicate columns (pos 0);
        divisor = one;
        meets = All-map (λ row. pos 0 ≤ℤ scaled_value row x (pos 1)) (λ (k : Kept). k.row) live holds;
      };
      begins = λ j lt. absurd (omega arith);
    })).point
