-- What the row of the blur's fold needs, and which marks are true.
use Rattle.std.proofs.Common.{true≢false, ◌≡◌, ℕ, ◌+◌, ◌<◌, ◌≤◌, ℤ, pos, ◌+ℤ◌, ◌≤ℤ◌, ◌<ℤ◌, List, [], ◌∷◌, refl, sym, ap, ◌∙◌, inl, inr, arith, lit≤}
use Rattle.std.proofs.lemmas.Int.{ints}
use denote.Hole.Carrier.{hidden}
use Rattle.affc_ast.specs.declared.tree.Ix.TheBlock.{shape-the_row-Ix-0, hidden-the_row-Ix-0}
use Rattle.affc_ast.specs.declared.tree.Val.TheBlock.{shape-the_row-Val-0, hidden-the_row-Val-0}
use Rattle.affc_ast.specs.declared.tree.Stmt.TheBlock.{shape-the_row-Stmt-0, hidden-the_row-Stmt-0}
use Rattle.affc_rows.specs.Forms.{dot, value}
use Rattle.affc_trace.specs.Examples.{blur, together, two, cell}
use Rattle.affc_trace.specs.Dataflow.{LivePair, live_pairs, same_element}
use Rattle.affc_trace.specs.Laws.{IsInContext}
use Rattle.affc_trace.proofs.Found.{live_pairs_are_found}
use Rattle.affc_trace.proofs.Members.{to_filter}
use Rattle.affc_basis.specs.Slices.{along, InSlice, IsGreatest}
use Rattle.affc_basis.specs.Examples.{x0, number, one_more, first_row, OnlyTwoIsGreatest, MarksElsewhere, OnePair, OneIsEnough, OneHasNoPair, BlurNeedsThree, IsEnoughForTheBlur, ThreeIsEnough, MarksOfTheBlur}
use Rattle.affc_basis.proofs.Greatest.{greatest_is_found}
use Rattle.affc_basis.proofs.BlurContext.{in_context, by_context}
use Rattle.affc_basis.proofs.ExampleProofs.{blur_needs_two, ends_are_live, three_is_least, nothing_along}

abbrev AreTwoApart : List ℤ → Type 0
AreTwoApart p = IsGreatest (LivePair blur together 2 p) (x0 ∷ []) 0 x0 2

-- for each N, nothing lies farther apart than 2
two_apart : (p : List ℤ) → IsInContext blur p → AreTwoApart p
unfolding shape-the_row-Ix-0 hidden-the_row-Ix-0 shape-the_row-Val-0 hidden-the_row-Val-0 shape-the_row-Stmt-0 hidden-the_row-Stmt-0 hidden
two_apart = by_context AreTwoApart
    (greatest_is_found blur together 2 (pos 1 ∷ []) (x0 ∷ []) 0 x0)
    (greatest_is_found blur together 2 (pos 2 ∷ []) (x0 ∷ []) 0 x0)
    (greatest_is_found blur together 2 (pos 3 ∷ []) (x0 ∷ []) 0 x0)
    (greatest_is_found blur together 2 (pos 4 ∷ []) (x0 ∷ []) 0 x0)

two_is_in_context : IsInContext blur two
unfolding shape-the_row-Ix-0 hidden-the_row-Ix-0 shape-the_row-Val-0 hidden-the_row-Val-0 shape-the_row-Stmt-0 hidden-the_row-Stmt-0 hidden
two_is_in_context = in_context 2 refl

ends_in_slice : InSlice (LivePair blur together 2 two) (x0 ∷ []) 0 (pos 0 ∷ []) (pos 2 ∷ [])
ends_in_slice = record { pair = ends_are_live; agrees = λ j row h at. absurd (omega arith) }

one_too_few : ◌≤◌ 2 1 → ⊥
one_too_few h = omega arith

three_too_many : (d : ℕ) → d ≤ 2 → d ≡ 3 → ⊥
three_too_many d h e = omega arith

three_not_zero : ◌≡◌ {A = ℕ} 3 0 → ⊥
three_not_zero e = omega arith

pub only_two_is_greatest : OnlyTwoIsGreatest
only_two_is_greatest = (
  λ g. one_too_few (g.most (pos 0 ∷ []) (pos 2 ∷ []) ends_in_slice),
  λ g. elim g.attained [
    | inl e ↦ three_not_zero e
    | inr f ↦ three_too_many (along x0 f.0 f.1) (blur_needs_two.most f.0 f.1 f.2) f.3
  ],
)

below : (d : ℕ) → d ≤ 2 → d < 3
below d h = omega arith

not_three : (d : ℕ) → d ≤ 2 → d + 1 ≡ 4 → ⊥
not_three d h e = omega arith

not_two : ◌<◌ 2 2 → ⊥
not_two h = omega arith

not_four : ◌≡◌ {A = ℕ} 4 1 → ⊥
not_four e = omega arith

pub blur_needs_three : BlurNeedsThree
blur_needs_three = (
  record {
    positive = lit≤ tt;
    exceeds = λ p here x y s. below (along x0 x y) ((two_apart p here).most x y s);
    least = inr (two, two_is_in_context, pos 0 ∷ [], pos 2 ∷ [], ends_in_slice, refl);
  },
  λ need. not_two (need.exceeds two two_is_in_context (pos 0 ∷ []) (pos 2 ∷ []) ends_in_slice),
  λ need. elim need.least [
    | inl e ↦ not_four e
    | inr f ↦ not_three (along x0 f.2 f.3) ((two_apart f.0 f.1).most f.2 f.3 f.4) f.5
  ],
)

exceeds_two : (n d : ℕ) (v : ℤ) → v ≡ pos n → 3 ≤ n → d ≤ 2 → (pos 1 ≤ℤ v) × (pos d <ℤ v)
exceeds_two n d v e h k = (omega (arith, ints), omega (arith, ints))

of_number : (n : ℕ) (q : List ℤ) → value (number n) q ≡ pos n
of_number n q = let z : 0 + n ≡ n = omega arith in ap (λ d. d +ℤ pos n) (nothing_along q) ∙ ap pos z

enough_from : (n : ℕ) → 3 ≤ n → IsEnoughForTheBlur (number n)
enough_from n h p here = (
  (exceeds_two n 0 (value (number n) p) (of_number n p) h (lit≤ tt)).0,
  λ x y s. (exceeds_two n (along x0 x y) (value (number n) p) (of_number n p) h ((two_apart p here).most x y s)).1,
)

not_less : (v : ℤ) → v ≡ pos 2 → pos 2 <ℤ v → ⊥
not_less v e h = omega (arith, ints)

pub three_is_enough : ThreeIsEnough
three_is_enough = (
  enough_from 3 (lit≤ tt),
  enough_from 4 (lit≤ tt),
  λ enough. not_less (value (number 2) two) refl ((enough two two_is_in_context).1 (pos 0 ∷ []) (pos 2 ∷ []) ends_in_slice),
)

one_less : (n g : ℕ) → ◌≡◌ {A = ℤ} (pos n) (pos (g + 1)) → g + 1 ≡ n
one_less n g e = omega (arith, ints)

-- what a mark says of a pair and of the greatest distance
no_pair : (g : ℕ) → g + 1 ≡ 3 → g ≡ 0 → ⊥
no_pair g e f = omega arith

nearer : (g : ℕ) → g + 1 ≡ 3 → 1 ≡ g → ⊥
nearer g e f = omega arith

farther : (g : ℕ) → g + 1 ≡ 2 → 2 ≤ g → ⊥
farther g e f = omega arith

at_zero : (g : ℕ) → g + 1 ≡ 1 → 1 ≤ g → ⊥
at_zero g e f = omega arith

too_great : (g : ℕ) → g + 1 ≡ 4 → 2 ≡ g → ⊥
too_great g e f = omega arith

-- t[4] is in no live pair
apart_not_live : LivePair blur together 2 two (pos 2 ∷ []) (pos 4 ∷ []) → ⊥
unfolding shape-the_row-Ix-0 hidden-the_row-Ix-0 shape-the_row-Val-0 hidden-the_row-Val-0 shape-the_row-Stmt-0 hidden-the_row-Stmt-0 hidden
apart_not_live live =
    to_filter (λ e. same_element e.1 (cell 2 4)) (live_pairs blur together two) (cell 2 2, cell 2 4) ((live_pairs_are_found blur together two (cell 2 2) (cell 2 4)).1 live) refl

pub marks_of_the_blur : MarksOfTheBlur
marks_of_the_blur = (
  three_is_least,
  λ m. nearer m.greatest (one_less 3 m.greatest m.value_there) m.attains.1,
  λ m. apart_not_live m.attains.0.pair,
  λ m. no_pair m.greatest (one_less 3 m.greatest m.value_there) m.attains,
  λ m. farther m.greatest (one_less 2 m.greatest m.value_there) (m.is_greatest.most (pos 0 ∷ []) (pos 2 ∷ []) ends_in_slice),
  λ m. too_great m.greatest (one_less 4 m.greatest m.value_there) m.attains.1,
  tt,
)

not_highest : (u v : ℤ) → u ≡ pos 5 → v ≡ pos 3 → u ≤ℤ v → ⊥
not_highest u v e f h = omega (arith, ints)

pub marks_elsewhere : MarksElsewhere
unfolding shape-the_row-Ix-0 hidden-the_row-Ix-0 shape-the_row-Val-0 hidden-the_row-Val-0 shape-the_row-Stmt-0 hidden-the_row-Stmt-0 hidden
marks_elsewhere = (
  λ m. not_highest (value one_more (pos 4 ∷ [])) (value one_more two) refl refl (m.highest (pos 4 ∷ []) (in_context 4 refl)),
  λ m. true≢false (sym m.in_context.ranges),
)

along_of_pair : (p x y : List ℤ) → OnePair p x y → along first_row x y ≡ 0
along_of_pair p x y e = ap (λ z. along first_row z y) e.0 ∙ ap (along first_row (pos 0 ∷ pos 0 ∷ [])) e.1

at_most_zero : (d : ℕ) → d ≡ 0 → d ≤ 0
at_most_zero d e = omega arith

one_stays : (d v : ℤ) → d ≡ pos 0 → v ≡ pos 1 → (d +ℤ pos 1) ≤ℤ v
one_stays d v e f = omega (arith, ints)

one_exceeds : (d : ℕ) (v : ℤ) → v ≡ pos 1 → d ≡ 0 → (pos 1 ≤ℤ v) × (pos d <ℤ v)
one_exceeds d v e f = (omega (arith, ints), omega (arith, ints))

not_positive : (v : ℤ) → v ≡ pos 0 → pos 1 ≤ℤ v → ⊥
not_positive v e h = omega (arith, ints)

pub one_is_enough : OneIsEnough
one_is_enough = (
  λ p here. (
    (one_exceeds 0 (value (number 1) p) (of_number 1 p) refl).0,
    λ x y s. (one_exceeds (along first_row x y) (value (number 1) p) (of_number 1 p) (along_of_pair p x y s.pair)).1,
  ),
  λ enough. not_positive (value (number 0) two) refl (enough two refl).0,
)

pub one_has_no_pair : OneHasNoPair
one_has_no_pair = (
  record {
    in_context = refl;
    highest = λ q here. one_stays (dot (pos 0 ∷ []) q) (pos 1) (nothing_along q) refl;
    greatest = 0;
    is_greatest = record { most = λ x y s. at_most_zero (along first_row x y) (along_of_pair two x y s.pair); attained = inl refl };
    value_there = refl;
    attains = refl;
  },
  λ m. at_zero m.greatest (one_less 1 m.greatest m.value_there) m.attains.2,
)
