-- How many rows the systems of orders and of different elements have.
use Rattle.std.proofs.Common.{◌≡◌, ℕ, zero, suc, ◌+◌, ◌*◌, ◌≤◌, Bool, true, false, IsTrue, if◌then◌else◌, List, [], ◌∷◌, ◌++◌, length, flat_map, ap, ◌∙◌, inl, inr, arith}
use Rattle.std.specs.Prelude.{nat_lt, nat_le, ◌&&◌}
use Rattle.std.proofs.lemmas.Bool.{leb-true}
use Rattle.affc_rows.specs.Forms.{Affine}
use Rattle.affc_system.specs.Systems.{Rows}
use Rattle.affc_ast.specs.declared.tree.Rel.TheVariants.{Less, Greater, Equal}
use Rattle.affc_trace.specs.declared.schedule.Schedule.{Schedule}
use Rattle.affc_trace.specs.declared.schedule.Schedule.TheVariants.{Source, Time}
use Rattle.affc_trace.specs.Law.{IsIn}
use Rattle.affc_trace.specs.Target.{maps_within, within_limits}
use Rattle.affc_trace.proofs.Once.{in_flat_map}
use Rattle.affc_trace.proofs.Runs.{length_append}
use Rattle.affc_domain.specs.Loops.{shared}
use Rattle.affc_domain.proofs.Lists.{both_true}
use Rattle.affc_nest.specs.declared.nest.Nest.{Nest}
use Rattle.affc_nest.specs.Parts.{statement_of}
use Rattle.affc_nest.specs.Domains.{compare_rows}
use Rattle.affc_order.specs.Posed.{Posed}
use Rattle.affc_order.specs.Systems.{lex_systems, loops_of, time_forms, target_order}
use Rattle.affc_life.specs.Clashes.{apart_rows, differing, between_rows}

none : (n m k : ℕ) → n ≡ m → n ≤ m + 2 * k
none n m k e = omega (arith, e)

one : (n m k : ℕ) → n ≡ m + 1 → n ≤ m + 2 * suc k
one n m k e = omega (arith, e)

two : (n l m k : ℕ) → l ≡ m + 2 → n ≤ l + 2 * k → n ≤ m + 2 * suc k
two n l m k e h = omega (arith, e, h)

-- two rows for each pair that is equal, and at most two for the last
apart_count : (fs gs rows r : List Affine) → IsIn r (apart_rows fs gs rows) → length r ≤ length rows + 2 * length fs
apart_count [] gs rows r i = absurd i
apart_count (f ∷ fs) [] rows r i = absurd i
apart_count (f ∷ fs) (g ∷ gs) rows r (inl e) = one (length r) (length rows) (length fs) (ap length e ∙ length_append rows (compare_rows Less f g))
apart_count (f ∷ fs) (g ∷ gs) rows r (inr (inl e)) = one (length r) (length rows) (length fs) (ap length e ∙ length_append rows (compare_rows Greater f g))
apart_count (f ∷ fs) (g ∷ gs) rows r (inr (inr i)) =
    two (length r) (length (rows ++ compare_rows Equal f g)) (length rows) (length fs) (length_append rows (compare_rows Equal f g)) (apart_count fs gs (rows ++ compare_rows Equal f g) r i)

differing_count : (differ : Bool) (fs gs rows r : List Affine) → IsIn r (differing differ fs gs rows) → length r ≤ length rows + 2 * length fs
differing_count true fs gs rows r i = apart_count fs gs rows r i
differing_count false fs gs rows r (inl e) = none (length r) (length rows) (length fs) (ap length e)
differing_count false fs gs rows r (inr x) = absurd x

-- by how many are compared, and by how many there are
at_tie : (columns : ℕ) (rows : List Affine) (tie : Bool) (s : Rows) → IsIn s (if tie then record { columns = columns; rows = rows } ∷ [] else []) → length s.rows ≡ length rows
at_tie columns rows true s (inl e) = ap (λ (r : Rows). length r.rows) e
at_tie columns rows true s (inr x) = absurd x
at_tie columns rows false s x = absurd x

lex_count : (columns n : ℕ) (fs gs rows : List Affine) (tie : Bool) (s : Rows) → IsIn s (lex_systems columns n fs gs rows tie) → (length s.rows ≤ length rows + 2 * n) × (length s.rows ≤ length rows + 2 * length fs)
lex_count columns zero fs gs rows tie s i = let e = at_tie columns rows tie s i in (none (length s.rows) (length rows) 0 e, none (length s.rows) (length rows) (length fs) e)
lex_count columns (suc n) [] gs rows tie s i = absurd i
lex_count columns (suc n) (f ∷ fs) [] rows tie s i = absurd i
lex_count columns (suc n) (f ∷ fs) (g ∷ gs) rows tie s (inl e) =
    let l : length s.rows ≡ length rows + 1 = ap (λ (r : Rows). length r.rows) e ∙ length_append rows (compare_rows Less f g) in
    (one (length s.rows) (length rows) n l, one (length s.rows) (length rows) (length fs) l)
lex_count columns (suc n) (f ∷ fs) (g ∷ gs) rows tie s (inr i) =
    let more = lex_count columns n fs gs (rows ++ compare_rows Equal f g) tie s i in
    let l = length_append rows (compare_rows Equal f g) in
    (two (length s.rows) (length (rows ++ compare_rows Equal f g)) (length rows) n l more.0, two (length s.rows) (length (rows ++ compare_rows Equal f g)) (length rows) (length fs) l more.1)

-- at most 6 iterators, or 12 components
pub order_count : (nest : Nest) (columns : ℕ) (schedule : Schedule) (a b : Posed) → IsTrue (within_limits schedule) → length a.iterators ≤ 6 → (s : Rows) → IsIn s (target_order nest schedule columns a b) → length s.rows ≤ 24
order_count nest columns Source a b slight few s i =
    few_more (length s.rows) (length a.iterators) few (lex_count columns (shared (loops_of nest a.part) (loops_of nest b.part)) a.iterators b.iterators [] (nat_lt (statement_of nest a.part) (statement_of nest b.part)) s i).1
  where
    few_more : (n k : ℕ) → k ≤ 6 → n ≤ 0 + 2 * k → n ≤ 24
    few_more n k h g = omega (arith, h, g)
order_count nest columns (Time components maps) a b slight few s i =
    let l = both_true (nat_le 1 components && nat_le components 12) (maps_within maps) slight in
    let k = both_true (nat_le 1 components) (nat_le components 12) l.0 in
    few_more (length s.rows) components (leb-true components 12 k.1)
    (lex_count columns components (time_forms nest maps columns a) (time_forms nest maps columns b) [] (nat_lt (statement_of nest a.part) (statement_of nest b.part)) s i).0
  where
    few_more : (n k : ℕ) → k ≤ 12 → n ≤ 0 + 2 * k → n ≤ 24
    few_more n k h g = omega (arith, h, g)

pub between_count : (differ : Bool) (front : List Affine) (after before : List Rows) (xs ys : List Affine) → ((s : Rows) → IsIn s after → length s.rows ≤ 24) → ((s : Rows) → IsIn s before → length s.rows ≤ 24) → length xs ≤ 4
    → (r : List Affine) → IsIn r (between_rows differ front after before xs ys) → length r ≤ length front + 56
between_count differ front after before xs ys a b few r i =
    let o = in_flat_map (λ (o : Rows). flat_map (λ (u : Rows). differing differ xs ys (front ++ (o.rows ++ u.rows))) before) after r i in
    let one : Rows = o.0 in
    let u = in_flat_map (λ (u : Rows). differing differ xs ys (front ++ (one.rows ++ u.rows))) before r o.2 in
    let two : Rows = u.0 in
    sum (length r) (length (front ++ (one.rows ++ two.rows))) (length front) (length (one.rows ++ two.rows)) (length one.rows) (length two.rows) (length xs) (length_append front (one.rows ++ two.rows)) (length_append one.rows two.rows) (a one o.1) (b two u.1) few
    (differing_count differ xs ys (front ++ (one.rows ++ two.rows)) r u.2)
  where
    sum : (r w f d o u x : ℕ) → w ≡ f + d → d ≡ o + u → o ≤ 24 → u ≤ 24 → x ≤ 4 → r ≤ w + 2 * x → r ≤ f + 56
    sum r w f d o u x e g h i j k = omega (arith, e, g, h, i, j, k)
