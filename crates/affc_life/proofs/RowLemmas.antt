-- What each row of a clash system keeps, where forms have Q and rows of their differences P.
use Rattle.std.proofs.Common.{ℕ, zero, suc, ◌≤◌, Bool, true, false, if◌then◌else◌, List, [], ◌∷◌, ◌++◌, flat_map, sym, subst, inl, inr, arith}
use Rattle.std.specs.List.{All}
use Rattle.std.proofs.lemmas.List.Elements.{All-nil, All-cons, All-head, All-tail, All-append}
use Rattle.affc_rows.specs.Forms.{Affine}
use Rattle.affc_system.specs.Systems.{Rows}
use Rattle.affc_ast.specs.declared.tree.Rel.TheVariants.{Less, Greater, Equal}
use Rattle.std.specs.Prelude.{nat_lt}
use Rattle.affc_trace.specs.declared.schedule.Schedule.{Schedule}
use Rattle.affc_trace.specs.declared.schedule.Schedule.TheVariants.{Source, Time}
use Rattle.affc_trace.specs.Law.{IsIn}
use Rattle.affc_domain.specs.Loops.{shared}
use Rattle.affc_nest.specs.declared.nest.Nest.{Nest}
use Rattle.affc_nest.specs.Parts.{statement_of}
use Rattle.affc_trace.proofs.Once.{in_flat_map}
use Rattle.affc_nest.specs.Domains.{gap_row, compare_rows}
use Rattle.affc_order.specs.Posed.{Posed}
use Rattle.affc_order.specs.Systems.{lex_systems, loops_of, time_forms, target_order}
use Rattle.affc_life.specs.Clashes.{apart_rows, differing, between_rows}

module _ (P Q : Affine → Type 0) (gap : (f g : Affine) (k : ℕ) → Q f → Q g → k ≤ 1 → P (gap_row f g k)) where
  less_all : (f g : Affine) → Q f → Q g → All P (compare_rows Less f g)
  less_all f g a b = All-cons P (gap_row f g 1) [] (gap f g 1 a b (omega arith)) (All-nil P)

  greater_all : (f g : Affine) → Q f → Q g → All P (compare_rows Greater f g)
  greater_all f g a b = All-cons P (gap_row g f 1) [] (gap g f 1 b a (omega arith)) (All-nil P)

  equal_all : (f g : Affine) → Q f → Q g → All P (compare_rows Equal f g)
  equal_all f g a b = All-cons P (gap_row g f 0) (gap_row f g 0 ∷ []) (gap g f 0 b a (omega arith)) (All-cons P (gap_row f g 0) [] (gap f g 0 a b (omega arith)) (All-nil P))

  apart_all : (fs gs rows : List Affine) → All Q fs → All Q gs → All P rows → (r : List Affine) → IsIn r (apart_rows fs gs rows) → All P r
  apart_all [] gs rows a b p r i = absurd i
  apart_all (f ∷ fs) [] rows a b p r i = absurd i
  apart_all (f ∷ fs) (g ∷ gs) rows a b p r (inl e) = subst (All P) (sym e) (All-append P rows (compare_rows Less f g) p (less_all f g (All-head Q f fs a) (All-head Q g gs b)))
  apart_all (f ∷ fs) (g ∷ gs) rows a b p r (inr (inl e)) = subst (All P) (sym e) (All-append P rows (compare_rows Greater f g) p (greater_all f g (All-head Q f fs a) (All-head Q g gs b)))
  apart_all (f ∷ fs) (g ∷ gs) rows a b p r (inr (inr i)) =
      apart_all fs gs (rows ++ compare_rows Equal f g) (All-tail Q f fs a) (All-tail Q g gs b) (All-append P rows (compare_rows Equal f g) p (equal_all f g (All-head Q f fs a) (All-head Q g gs b))) r i

  differing_all : (differ : Bool) (fs gs rows : List Affine) → All Q fs → All Q gs → All P rows → (r : List Affine) → IsIn r (differing differ fs gs rows) → All P r
  differing_all true fs gs rows a b p r i = apart_all fs gs rows a b p r i
  differing_all false fs gs rows a b p r (inl e) = subst (All P) (sym e) p
  differing_all false fs gs rows a b p r (inr x) = absurd x

  lex_some : (columns n : ℕ) (fs gs rows : List Affine) (tie : Bool) → All Q fs → All Q gs → All P rows → (s : Rows) → IsIn s (lex_systems columns n fs gs rows tie) → All P s.rows
  lex_some columns zero fs gs rows tie a b p s i = at_tie tie i
    where
      at_tie : (t : Bool) → IsIn s (if t then record { columns = columns; rows = rows } ∷ [] else []) → All P s.rows
      at_tie true (inl e) = subst (λ (r : Rows). All P r.rows) (sym e) p
      at_tie true (inr x) = absurd x
      at_tie false x = absurd x
  lex_some columns (suc n) [] gs rows tie a b p s i = absurd i
  lex_some columns (suc n) (f ∷ fs) [] rows tie a b p s i = absurd i
  lex_some columns (suc n) (f ∷ fs) (g ∷ gs) rows tie a b p s (inl e) =
      subst (λ (r : Rows). All P r.rows) (sym e) (All-append P rows (compare_rows Less f g) p (less_all f g (All-head Q f fs a) (All-head Q g gs b)))
  lex_some columns (suc n) (f ∷ fs) (g ∷ gs) rows tie a b p s (inr i) =
      lex_some columns n fs gs (rows ++ compare_rows Equal f g) tie (All-tail Q f fs a) (All-tail Q g gs b) (All-append P rows (compare_rows Equal f g) p (equal_all f g (All-head Q f fs a) (All-head Q g gs b))) s i

  pub lex_all : (columns n : ℕ) (fs gs : List Affine) (tie : Bool) → All Q fs → All Q gs → (s : Rows) → IsIn s (lex_systems columns n fs gs [] tie) → All P s.rows
  lex_all columns n fs gs tie a b s i = lex_some columns n fs gs [] tie a b (All-nil P) s i

  pub between_all : (differ : Bool) (front : List Affine) (after before : List Rows) (xs ys : List Affine) → All P front → ((s : Rows) → IsIn s after → All P s.rows) → ((s : Rows) → IsIn s before → All P s.rows)
      → All Q xs → All Q ys → (r : List Affine) → IsIn r (between_rows differ front after before xs ys) → All P r
  between_all differ front after before xs ys f a b x y r i =
      let o = in_flat_map (λ (o : Rows). flat_map (λ (u : Rows). differing differ xs ys (front ++ (o.rows ++ u.rows))) before) after r i in
      let one : Rows = o.0 in
      let u = in_flat_map (λ (u : Rows). differing differ xs ys (front ++ (one.rows ++ u.rows))) before r o.2 in
      let two : Rows = u.0 in
      differing_all differ xs ys (front ++ (one.rows ++ two.rows)) x y (All-append P front (one.rows ++ two.rows) f (All-append P one.rows two.rows (a one o.1) (b two u.1))) r u.2

-- ---- Orders

-- the forms that an order compares
abbrev pub Compared : (Q : Affine → Type 0) → Nest → (columns : ℕ) → Schedule → Posed → Type 0
Compared Q nest columns Source a = All Q a.iterators
Compared Q nest columns (Time components maps) a = All Q (time_forms nest maps columns a)

pub order_all : (P Q : Affine → Type 0) → ((f g : Affine) (k : ℕ) → Q f → Q g → k ≤ 1 → P (gap_row f g k)) → (nest : Nest) (columns : ℕ) (schedule : Schedule) (a b : Posed)
    → Compared Q nest columns schedule a → Compared Q nest columns schedule b → (s : Rows) → IsIn s (target_order nest schedule columns a b) → All P s.rows
order_all P Q gap nest columns Source a b f g s i =
    lex_all P Q gap columns (shared (loops_of nest a.part) (loops_of nest b.part)) a.iterators b.iterators (nat_lt (statement_of nest a.part) (statement_of nest b.part)) f g s i
order_all P Q gap nest columns (Time components maps) a b f g s i =
    lex_all P Q gap columns components (time_forms nest maps columns a) (time_forms nest maps columns b) (nat_lt (statement_of nest a.part) (statement_of nest b.part)) f g s i
