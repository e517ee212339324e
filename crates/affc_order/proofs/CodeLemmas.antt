-- What the code's loops keep.
use Rattle.std.proofs.Common.{◌≡◌, ◌≢◌, ℕ, zero, suc, ◌+◌, ◌-◌, ◌^◌, ◌<◌, ◌≤◌, pos, Bool, true, false, if◌then◌else◌, List, [], ◌∷◌, ◌++◌, length, map, drop, get_or, replicate, refl, sym, ap, subst, ◌∙◌, arith}
use Rattle.std.specs.Prelude.{nat_eq}
use Rattle.std.specs.List.{All}
use Rattle.std.proofs.lemmas.Bool.{eqb-true}
use Rattle.std.proofs.Math.ListN.{drop_of_length-le}
use Rattle.std.proofs.Math.Seq.{drop-cons}
use Rattle.std.proofs.lemmas.List.Elements.{All-nil, All-cons}
use Rattle.affc_rows.specs.Forms.{Affine}
use Rattle.affc_ast.specs.declared.tree.Rel.TheVariants.{Less, Equal}
use Rattle.affc_trace.specs.declared.schedule.Schedule.{Schedule}
use Rattle.affc_trace.specs.Inverses.{zeros, unit_row, column, columns_from}
use Rattle.affc_trace.proofs.EndedReads.{append_assoc}
use Rattle.affc_domain.specs.Affine.{unit_of}
use Rattle.affc_domain.specs.Loops.{shared}
use Rattle.affc_domain.proofs.Lists.{stands_in, there_is}
use Rattle.affc_nest.specs.Asked.{IsNest}
use Rattle.affc_nest.specs.Domains.{column_form, compare_rows}
use Rattle.affc_nest.specs.declared.nest.Nest.{Nest}
use Rattle.affc_nest.specs.Sides.{IsSide}
use Rattle.affc_nest.proofs.QuestionProofs.{few_numbered}
use Rattle.affc_nest.proofs.RowLemmas.{column_side}
use Rattle.affc_order.specs.Asked.{IsScheduled}
use Rattle.affc_order.specs.Spread.{spread}
use Rattle.affc_order.specs.Systems.{lex_systems, rows_in, loops_or_none, coordinates_of}
use Rattle.affc_rows.proofs.SizeLemmas.{spread_within}

-- ---- Columns

zeros_are : (n : ℕ) → replicate n (pos 0) ≡ zeros n
zeros_are zero = refl
zeros_are (suc n) = ap (λ zs. pos 0 ∷ zs) (zeros_are n)

units_are : (n j : ℕ) → unit_of n j ≡ unit_row n j
units_are zero j = refl
units_are (suc n) zero = ap (λ zs. pos 1 ∷ zs) (zeros_are n)
units_are (suc n) (suc j) = ap (λ zs. pos 0 ∷ zs) (units_are n j)

-- a nest's column is the schedule's
pub columns_are : (n j : ℕ) → column_form n j ≡ column n j
columns_are n j = ap (λ cs. record { coefs = cs; constant = pos 0 }) (units_are n j)

more_at_the_end : (columns first i : ℕ) → columns_from columns first (suc i) ≡ columns_from columns first i ++ column columns (first + i) ∷ []
more_at_the_end columns first zero = ap (λ j. column columns j ∷ []) (none first)
  where
    none : (n : ℕ) → n ≡ n + 0
    none n = omega arith
more_at_the_end columns first (suc i) =
    ap (λ cs. column columns first ∷ cs) (more_at_the_end columns (suc first) i ∙ ap (λ j. columns_from columns (suc first) i ++ column columns j ∷ []) (moved first i))
  where
    moved : (m n : ℕ) → suc m + n ≡ m + suc n
    moved m n = omega arith

pub one_column_more : (columns first i : ℕ) → columns_from columns first (i + 1) ≡ columns_from columns first i ++ column_form columns (first + i) ∷ []
one_column_more columns first i =
    ap (columns_from columns first) (next i) ∙ more_at_the_end columns first i ∙ ap (λ f. columns_from columns first i ++ f ∷ []) (sym (columns_are columns (first + i)))
  where
    next : (i : ℕ) → i + 1 ≡ suc i
    next i = omega arith

pub columns_sides : (columns first n : ℕ) → All (IsSide columns) (columns_from columns first n)
columns_sides columns first zero = All-nil (IsSide columns)
columns_sides columns first (suc n) =
    All-cons (IsSide columns) (column columns first) (columns_from columns (suc first) n) (subst (IsSide columns) (columns_are columns first) (column_side columns first)) (columns_sides columns (suc first) n)

-- ---- Comparisons

-- the next pair of forms
pub lex_next : (columns n : ℕ) (f g : Affine) (fs gs rows : List Affine) (tie : Bool) → (n ≡ 0 → ⊥)
    → map rows_in (lex_systems columns n (f ∷ fs) (g ∷ gs) rows tie) ≡ (rows ++ compare_rows Less f g) ∷ map rows_in (lex_systems columns (n - 1) fs gs (rows ++ compare_rows Equal f g) tie)
lex_next columns zero f g fs gs rows tie h = absurd (h refl)
lex_next columns (suc n) f g fs gs rows tie h = ap (λ m. (rows ++ compare_rows Less f g) ∷ map rows_in (lex_systems columns m fs gs (rows ++ compare_rows Equal f g) tie)) (less n)
  where
    less : (n : ℕ) → n ≡ suc n - 1
    less n = omega arith

pub lex_made : (columns n : ℕ) (f g : Affine) (fs gs later_fs later_gs equal both : List Affine) (tie : Bool) (old first new : List (List Affine)) → (n ≡ 0 → ⊥) → fs ≡ f ∷ later_fs → gs ≡ g ∷ later_gs
    → both ≡ equal ++ compare_rows Equal f g → first ≡ old ++ (equal ++ compare_rows Less f g) ∷ [] → new ≡ first ++ map rows_in (lex_systems columns (n - 1) later_fs later_gs both tie)
    → new ≡ old ++ map rows_in (lex_systems columns n fs gs equal tie)
lex_made columns n f g fs gs later_fs later_gs equal both tie old first new some i j b d e =
    let tail : List (List Affine) = map rows_in (lex_systems columns (n - 1) later_fs later_gs (equal ++ compare_rows Equal f g) tie) in
    e ∙ ap (λ r. first ++ map rows_in (lex_systems columns (n - 1) later_fs later_gs r tie)) b ∙ ap (λ s. s ++ tail) d
    ∙ append_assoc old ((equal ++ compare_rows Less f g) ∷ []) tail ∙ ap (λ x. old ++ x) (sym (lex_next columns n f g later_fs later_gs equal tie some))
    ∙ ap (λ xs. old ++ map rows_in (lex_systems columns n xs (g ∷ later_gs) equal tie)) (sym i) ∙ ap (λ ys. old ++ map rows_in (lex_systems columns n fs ys equal tie)) (sym j)

-- ---- Spread sides

-- a spread side is a side
pub spread_side : (m k l n columns : ℕ) (f : Affine) → IsSide (m + l) f → ((m + k) + l) + n ≡ columns → IsSide columns (spread m k n f)
spread_side m k l n columns f s e = spread_within m k l n columns (2 ^ 16) (2 ^ 32) f s e

-- ---- Counts

pub few_loops : (nest : Nest) → IsNest nest → (part : ℕ) → part < length nest.entries → coordinates_of nest part ≤ 6
few_loops nest n part h =
    let e = there_is nest.entries part h in
    subst (λ o. length (loops_or_none o) ≤ 6) (sym e.1) (few_numbered nest e.0 n (stands_in nest.entries part e.0 e.1))

pub is_nest : (nest : Nest) (schedule : Schedule) → IsScheduled nest schedule → IsNest nest
is_nest nest schedule q = record { program = q.program; has = q.has; is = q.is }

-- ---- Loops that two statements share

shared_none : (ls : List ℕ) → shared ls [] ≡ 0
shared_none [] = refl
shared_none (l ∷ ls) = refl

-- where the second list has ended
pub shared_past : (ls ms : List ℕ) (i total : ℕ) → length ms ≤ i → i + shared (drop i ls) (drop i ms) ≡ total → i ≡ total
shared_past ls ms i total h e =
    let n : shared (drop i ls) (drop i ms) ≡ 0 = ap (shared (drop i ls)) (drop_of_length-le ms h) ∙ shared_none (drop i ls) in
    omega (arith, e, n)

-- where they differ
pub shared_apart : (ls ms : List ℕ) (i total : ℕ) → i < length ls → i < length ms → get_or ms i 0 ≢ get_or ls i 0 → i + shared (drop i ls) (drop i ms) ≡ total → i ≡ total
shared_apart ls ms i total h g d e =
    let n : shared (drop i ls) (drop i ms) ≡ 0 =
    ap (λ xs. shared xs (drop i ms)) (drop-cons ls i 0 h) ∙ ap (shared (get_or ls i 0 ∷ drop (suc i) ls)) (drop-cons ms i 0 g)
    ∙ apart (get_or ls i 0) (get_or ms i 0) (shared (drop (suc i) ls) (drop (suc i) ms)) d in
    omega (arith, e, n)
  where
    differ : (x y : ℕ) → y ≢ x → nat_eq x y ≡ false
    differ x y d = chosen (nat_eq x y) refl
      where
        chosen : (t : Bool) → nat_eq x y ≡ t → nat_eq x y ≡ false
        chosen true e = absurd (d (sym (eqb-true x y e)))
        chosen false e = e

    apart : (x y n : ℕ) → y ≢ x → (if nat_eq x y then suc n else 0) ≡ 0
    apart x y n d = ap (λ t. if t then suc n else 0) (differ x y d)
