-- Laws of choices: which rows stand in them, how many, and whether all keep the limits.
use Rattle.std.proofs.Common.{◌≡◌, ℕ, suc, ◌+◌, ◌<◌, ◌≤◌, ◌⊎◌, inl, inr, List, [], ◌∷◌, ◌++◌, length, map, refl, sym, ap, subst, arith, length-append}
use Rattle.std.proofs.lemmas.List.{length-map}
use Rattle.std.specs.Prelude.{unsigned_abs, ◌^◌}
use Rattle.std.specs.List.{All, flat_map, AllByRecursion as Each}
use Rattle.std.proofs.lemmas.List.Elements.{All-from_recursion, recursion_from_All}
use Rattle.affc_rows.specs.Forms.{Affine}
use Rattle.affc_system.specs.Systems.{Rows, IsRow}
use Rattle.affc_products.specs.Parts.{IsWithin}
use Rattle.affc_products.specs.Products.{choices, product, longest, tallest}
use Rattle.affc_products.specs.Blocks.{AnyPast}
use Rattle.affc_products.proofs.Eaches.{each_append, each_left, each_right, each_map, each_unmap, each_weaker, each_flat, each_unflat, each_some, le_dec, eq_dec, each_dec}

-- what holds of each choice holds of each alternative of the first factor with each choice of the others behind it
spread : (P : List Affine → Type 0) (f : List (List Affine)) (fs : List (List (List Affine))) → Each P (choices (f ∷ fs)) → Each (λ u. Each (λ v. P (u ++ v)) (choices fs)) f
spread P f fs h =
    each_weaker (λ u. Each P (map (λ v. u ++ v) (choices fs))) (λ u. Each (λ v. P (u ++ v)) (choices fs)) f (λ u e. each_unmap P (λ v. u ++ v) (choices fs) e)
    (each_unflat P (λ u. map (λ v. u ++ v) (choices fs)) f h)

gather : (P : List Affine → Type 0) (f : List (List Affine)) (fs : List (List (List Affine))) → Each (λ u. Each (λ v. P (u ++ v)) (choices fs)) f → Each P (choices (f ∷ fs))
gather P f fs h =
    each_flat P (λ u. map (λ v. u ++ v) (choices fs)) f
    (each_weaker (λ u. Each (λ v. P (u ++ v)) (choices fs)) (λ u. Each P (map (λ v. u ++ v) (choices fs))) f (λ u e. each_map P (λ v. u ++ v) (choices fs) e) h)

-- an alternative in each factor
abbrev pub Chosen : List (List (List Affine)) → Type 0
Chosen fs = Each (λ f. 0 < length f) fs

none_behind : (f : List (List Affine)) → flat_map (λ (u : List Affine). map (λ (v : List Affine). u ++ v) []) f ≡ []
none_behind [] = refl
none_behind (u ∷ us) = none_behind us

-- a factor without one leaves no choice
pub no_choice : (fs : List (List (List Affine))) → ¬ (Chosen fs) → choices fs ≡ []
no_choice [] h = absurd (h tt)
no_choice ([] ∷ fs) h = refl
no_choice ((u ∷ us) ∷ fs) h =
    let e : choices fs ≡ [] = no_choice fs (λ k. h (omega arith, k)) in
    subst (λ c. flat_map (λ u. map (λ v. u ++ v) c) (u ∷ us) ≡ []) (sym e) (none_behind (u ∷ us))

-- and otherwise there is a choice
pub some_choice : (fs : List (List (List Affine))) → Chosen fs → 0 < length (choices fs)
some_choice [] h = omega arith
some_choice ([] ∷ fs) h = absurd (omega (arith, h.0))
some_choice ((u ∷ us) ∷ fs) h =
    let k = some_choice fs h.1 in
    let rest = flat_map (λ u. map (λ v. u ++ v) (choices fs)) us in
    omega (arith, length-append (map (λ v. u ++ v) (choices fs)) rest, length-map (choices fs) (λ v. u ++ v), k)

-- ---- Rows

pub choices_of_rows : (P : Affine → Type 0) (fs : List (List (List Affine))) → Each (Each (Each P)) fs → Each (Each P) (choices fs)
choices_of_rows P [] h = (tt, tt)
choices_of_rows P (f ∷ fs) h =
    let k = choices_of_rows P fs h.1 in
    gather (Each P) f fs (each_weaker (Each P) (λ u. Each (λ v. Each P (u ++ v)) (choices fs)) f
    (λ u hu. each_weaker (Each P) (λ v. Each P (u ++ v)) (choices fs) (λ v hv. each_append P u v hu hv) k) h.0)

pub rows_of_choices : (P : Affine → Type 0) (fs : List (List (List Affine))) → Chosen fs → Each (Each P) (choices fs) → Each (Each (Each P)) fs
rows_of_choices P [] n h = tt
rows_of_choices P (f ∷ fs) n h =
    let s = spread (Each P) f fs h in
    let some = some_choice fs n.1 in
    let first : Each (Each P) f = each_weaker (λ u. Each (λ v. Each P (u ++ v)) (choices fs)) (Each P) f
    (λ u e. let c = each_some (λ v. Each P (u ++ v)) (choices fs) some e in each_left P u c.0 c.1) s in
    let a = each_some (λ u. Each (λ v. Each P (u ++ v)) (choices fs)) f n.0 s in
    let rest = rows_of_choices P fs n.1 (each_weaker (λ v. Each P (a.0 ++ v)) (Each P) (choices fs) (λ v e. each_right P a.0 v e) a.1) in
    (first, rest)

-- ---- How many

pub each_longest : (f : List (List Affine)) (n : ℕ) → longest f ≤ n → Each (λ u. length u ≤ n) f
each_longest [] n h = tt
each_longest (u ∷ us) n h = (omega arith, each_longest us n (omega arith))

pub each_tallest : (fs : List (List (List Affine))) → Each (λ v. length v ≤ tallest fs) (choices fs)
each_tallest [] = (omega arith, tt)
each_tallest (f ∷ fs) =
    let k = each_tallest fs in
    gather (λ v. length v ≤ tallest (f ∷ fs)) f fs (each_weaker (λ u. length u ≤ longest f) (λ u. Each (λ v. length (u ++ v) ≤ tallest (f ∷ fs)) (choices fs)) f
    (λ u hu. each_weaker (λ v. length v ≤ tallest fs) (λ v. length (u ++ v) ≤ tallest (f ∷ fs)) (choices fs) (λ v hv. omega (arith, length-append u v, hu, hv)) k)
    (each_longest f (longest f) (omega arith)))

longest_within : (f : List (List Affine)) (k t n : ℕ) → 0 < length f → Each (λ u. (k + length u) + t ≤ n) f → k + (longest f + t) ≤ n
longest_within [] k t n l h = absurd (omega arith)
longest_within (u ∷ []) k t n l h = omega (arith, h.0)
longest_within (u ∷ w ∷ us) k t n l h =
    let r = longest_within (w ∷ us) k t n (omega arith) h.1 in
    omega (arith, h.0, r)

pub tallest_within : (fs : List (List (List Affine))) (k n : ℕ) → Chosen fs → Each (λ v. k + length v ≤ n) (choices fs) → k + tallest fs ≤ n
tallest_within [] k n c h = h.0
tallest_within (f ∷ fs) k n c h =
    let s = spread (λ v. k + length v ≤ n) f fs h in
    longest_within f k (tallest fs) n c.0 (each_weaker (λ u. Each (λ v. k + length (u ++ v) ≤ n) (choices fs)) (λ u. (k + length u) + tallest fs ≤ n) f
    (λ u e. tallest_within fs (k + length u) n c.1
    (each_weaker (λ v. k + length (u ++ v) ≤ n) (λ v. (k + length u) + length v ≤ n) (choices fs) (λ v l. omega (arith, length-append u v, l)) e)) s)

-- ---- Products

-- what the questions of a product keep together
pub record KeepLimits (columns : ℕ) (front : List Affine) (fs : List (List (List Affine))) : Type 0 where
  pub columns_few : columns ≤ 128
  pub front_fits : Each (IsRow columns) front
  pub factors_fit : Each (Each (Each (IsRow columns))) fs
  pub room : length front + tallest fs ≤ 1024

pub all_within : (columns : ℕ) (front : List Affine) (fs : List (List (List Affine))) → KeepLimits columns front fs → Each IsWithin (product columns front fs)
all_within columns front fs k =
    let rows = choices_of_rows (IsRow columns) fs k.factors_fit in
    let few = each_tallest fs in
    each_map IsWithin (λ rows. record { columns = columns; rows = front ++ rows }) (choices fs)
    (both_each columns front (tallest fs) (choices fs) k.columns_few k.front_fits k.room rows few)
  where
    both_each : (columns : ℕ) (front : List Affine) (t : ℕ) (vs : List (List Affine)) → columns ≤ 128 → Each (IsRow columns) front → length front + t ≤ 1024 → Each (Each (IsRow columns)) vs → Each (λ v. length v ≤ t) vs
        → Each (λ v. IsWithin (record { columns = columns; rows = front ++ v })) vs
    both_each columns front t [] c f r a b = tt
    both_each columns front t (v ∷ vs) c f r a b = (
      record {
        columns = c;
        few = omega (arith, length-append front v, b.0, r);
        rows = All-from_recursion (IsRow columns) (front ++ v) (each_append (IsRow columns) front v f a.0);
      },
      both_each columns front t vs c f r a.1 b.1,
    )

pub within_all : (columns : ℕ) (front : List Affine) (fs : List (List (List Affine))) → Chosen fs → Each IsWithin (product columns front fs) → KeepLimits columns front fs
within_all columns front fs n h =
    let s = each_unmap IsWithin (λ rows. record { columns = columns; rows = front ++ rows }) (choices fs) h in
    let Q : List Affine → Type 0 = λ v. IsWithin (record { columns = columns; rows = front ++ v }) in
    let one = each_some Q (choices fs) (some_choice fs n) s in
    let all : Each (λ v. Each (IsRow columns) (front ++ v)) (choices fs) = each_weaker Q (λ v. Each (IsRow columns) (front ++ v)) (choices fs) (λ v w. recursion_from_All (IsRow columns) (front ++ v) w.rows) s in
    let rows : Each (Each (IsRow columns)) (choices fs) = each_weaker (λ v. Each (IsRow columns) (front ++ v)) (Each (IsRow columns)) (choices fs) (λ v e. each_right (IsRow columns) front v e) all in
    record {
      columns_few = one.1.columns;
      front_fits = each_left (IsRow columns) front one.0 (recursion_from_All (IsRow columns) (front ++ one.0) one.1.rows);
      factors_fit = rows_of_choices (IsRow columns) fs n rows;
      room = tallest_within fs (length front) 1024 n (each_weaker Q (λ v. length front + length v ≤ 1024) (choices fs) (λ v w. omega (arith, length-append front v, w.few)) s);
    }

-- ---- The question that passes the limits

row_dec : (columns : ℕ) (row : Affine) → IsRow columns row ⊎ (¬ (IsRow columns row))
row_dec columns row =
    elim (eq_dec (length row.coefs) columns) [
      | inr n ↦ inr (λ r. n r.width)
      | inl w ↦ elim (le_dec (unsigned_abs row.constant) (2 ^ 60)) [
        | inr n ↦ inr (λ r. n r.fits.constant_fits)
        | inl c ↦ elim (each_dec (λ c. unsigned_abs c ≤ 2 ^ 40) (λ c. le_dec (unsigned_abs c) (2 ^ 40)) row.coefs) [
          | inr n ↦ inr (λ r. n (recursion_from_All (λ c. unsigned_abs c ≤ 2 ^ 40) row.coefs r.fits.coefs_fit))
          | inl a ↦ inl (record { width = w; fits = record { coefs_fit = All-from_recursion (λ c. unsigned_abs c ≤ 2 ^ 40) row.coefs a; constant_fits = c } })
        ]
      ]
    ]

within_dec : (q : Rows) → IsWithin q ⊎ (¬ (IsWithin q))
within_dec q =
    elim (le_dec q.columns 128) [
      | inr n ↦ inr (λ r. n r.columns)
      | inl w ↦ elim (le_dec (length q.rows) 1024) [
        | inr n ↦ inr (λ r. n r.few)
        | inl c ↦ elim (each_dec (IsRow q.columns) (row_dec q.columns) q.rows) [
          | inr n ↦ inr (λ r. n (recursion_from_All (IsRow q.columns) q.rows r.rows))
          | inl a ↦ inl (record { columns = w; few = c; rows = All-from_recursion (IsRow q.columns) q.rows a })
        ]
      ]
    ]

pub any_past : (qs : List Rows) → ¬ (Each IsWithin qs) → AnyPast qs
any_past [] h = absurd (h tt)
any_past (q ∷ qs) h = elim (within_dec q) [
  | inr n ↦ record { number = 0; question = q; there = refl; past = n }
  | inl w ↦ let a = any_past qs (λ k. h (w, k)) in record { number = suc a.number; question = a.question; there = a.there; past = a.past }
]

-- ---- The same with factors and tails apart

pub rows_together : (columns : ℕ) (fs : List (List (List Affine))) (ts : List (List Affine)) → All (All (All (IsRow columns))) fs → All (All (IsRow columns)) ts → Each (Each (Each (IsRow columns))) (fs ++ ts ∷ [])
rows_together columns fs ts h k = each_append (Each (Each (IsRow columns))) fs (ts ∷ []) (factors_each columns fs h) (alternatives_each columns ts k, tt)
  where
    alternatives_each : (columns : ℕ) (us : List (List Affine)) → All (All (IsRow columns)) us → Each (Each (IsRow columns)) us
    alternatives_each columns us h = each_weaker (All (IsRow columns)) (Each (IsRow columns)) us (recursion_from_All (IsRow columns)) (recursion_from_All (All (IsRow columns)) us h)

    factors_each : (columns : ℕ) (fs : List (List (List Affine))) → All (All (All (IsRow columns))) fs → Each (Each (Each (IsRow columns))) fs
    factors_each columns fs h = each_weaker (All (All (IsRow columns))) (Each (Each (IsRow columns))) fs (alternatives_each columns) (recursion_from_All (All (All (IsRow columns))) fs h)

alternatives_all : (columns : ℕ) (us : List (List Affine)) → Each (Each (IsRow columns)) us → All (All (IsRow columns)) us
alternatives_all columns us h = All-from_recursion (All (IsRow columns)) us (each_weaker (Each (IsRow columns)) (All (IsRow columns)) us (All-from_recursion (IsRow columns)) h)

pub factors_all : (columns : ℕ) (fs : List (List (List Affine))) → Each (Each (Each (IsRow columns))) fs → All (All (All (IsRow columns))) fs
factors_all columns fs h = All-from_recursion (All (All (IsRow columns))) fs (each_weaker (Each (Each (IsRow columns))) (All (All (IsRow columns))) fs (alternatives_all columns) h)

-- rows over the columns, and not too many
abbrev pub Keep : (columns : ℕ) (front : List Affine) (fs : List (List (List Affine))) (ts : List (List Affine)) → Type 0
Keep columns front fs ts = (columns ≤ 128) × All (IsRow columns) front × All (All (All (IsRow columns))) fs × All (All (IsRow columns)) ts × (length front + tallest (fs ++ ts ∷ []) ≤ 1024)

pub kept_within : (columns : ℕ) (front : List Affine) (fs : List (List (List Affine))) (ts : List (List Affine)) → Keep columns front fs ts → All IsWithin (product columns front (fs ++ ts ∷ []))
kept_within columns front fs ts k =
    All-from_recursion IsWithin (product columns front (fs ++ ts ∷ [])) (all_within columns front (fs ++ ts ∷ []) (record {
      columns_few = k.0;
      front_fits = recursion_from_All (IsRow columns) front k.1;
      factors_fit = rows_together columns fs ts k.2 k.3;
      room = k.4;
    }))

pub past_unkept : (columns : ℕ) (front : List Affine) (fs : List (List (List Affine))) (ts : List (List Affine)) → All (λ f. 0 < length f) (fs ++ ts ∷ []) → ¬ (Keep columns front fs ts) → AnyPast (product columns front (fs ++ ts ∷ []))
past_unkept columns front fs ts some n =
    any_past (product columns front (fs ++ ts ∷ [])) (λ w.
    let k = within_all columns front (fs ++ ts ∷ []) (recursion_from_All (λ f. 0 < length f) (fs ++ ts ∷ []) some) w in
    n (
      k.columns_few,
      All-from_recursion (IsRow columns) front k.front_fits,
      factors_all columns fs (each_left (Each (Each (IsRow columns))) fs (ts ∷ []) k.factors_fit),
      alternatives_all columns ts (each_right (Each (Each (IsRow columns))) fs (ts ∷ []) k.factors_fit).0,
      k.room,
    ))

-- a factor without an alternative leaves no question
pub no_question : (columns : ℕ) (front : List Affine) (fs : List (List (List Affine))) → ¬ (All (λ f. 0 < length f) fs) → product columns front fs ≡ []
no_question columns front fs n =
    let e : choices fs ≡ [] = no_choice fs (λ c. n (All-from_recursion (λ f. 0 < length f) fs c)) in
    ap (λ cs. map (λ rows. record { columns = columns; rows = front ++ rows }) cs) e

pub none_within : (columns : ℕ) (front : List Affine) (fs : List (List (List Affine))) → ¬ (All (λ f. 0 < length f) fs) → All IsWithin (product columns front fs)
none_within columns front fs n = let e = no_question columns front fs n in subst (All IsWithin) (sym e) (All-from_recursion IsWithin [] tt)
