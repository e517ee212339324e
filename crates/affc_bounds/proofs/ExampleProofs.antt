-- Each example goes through the values of N, and computes there.
use Rattle.std.proofs.Common.{◌≡◌, ◌⊎◌, ℕ, zero, suc, ℤ, pos, ◌≤ℤ◌, ◌<ℤ◌, true, true≢false, List, [], ◌∷◌, ◌++◌, map, refl, sym, ap, subst, ◌∙◌, inl, inr, arith}
use Rattle.std.specs.Prelude.{◌&&◌, int_le, slice_get}
use Rattle.std.proofs.lemmas.Int.{ints}
use Rattle.std.proofs.lemmas.Option.{none-some, same_Some}
use denote.Hole.Carrier.{hidden}
use Rattle.affc_system.specs.Order.{LexLe}
use Rattle.affc_ast.specs.declared.tree.Decl.{Decl}
use Rattle.affc_ast.specs.declared.tree.Instance.{Instance}
use Rattle.affc_ast.specs.declared.tree.Ix.{Ix}
use Rattle.affc_ast.specs.declared.tree.Ix.TheVariants.{Sub}
use Rattle.affc_ast.specs.declared.tree.Op.TheVariants as op
use Rattle.affc_ast.specs.declared.tree.Param.TheVariants.{Number, Array}
use Rattle.affc_ast.specs.declared.tree.Rel.TheVariants.{Less}
use Rattle.affc_ast.specs.declared.tree.Role.TheVariants.{Output}
use Rattle.affc_ast.specs.declared.tree.Stmt.{Stmt}
use Rattle.affc_ast.specs.declared.tree.Stmt.TheVariants.{For}
use Rattle.affc_ast.specs.declared.tree.Val.TheVariants.{Const, Bin}
use Rattle.affc_ast.specs.declared.tree.Ix.TheBlock.{shape-the_row-Ix-0, hidden-the_row-Ix-0}
use Rattle.affc_ast.specs.declared.tree.Val.TheBlock.{shape-the_row-Val-0, hidden-the_row-Val-0}
use Rattle.affc_ast.specs.declared.tree.Stmt.TheBlock.{shape-the_row-Stmt-0, hidden-the_row-Stmt-0}
use Rattle.affc_ast.specs.Fits.{whole, within_ranges}
use Rattle.affc_ast.specs.Trace.{events}
use Rattle.affc_ast.specs.Store.{Element}
use Rattle.affc_trace.specs.Law.{IsIn}
use Rattle.affc_domain.proofs.Lists.{both_true, true_le}
use Rattle.affc_safe.specs.Safe.{LiesWithin}
use Rattle.affc_nest.proofs.QuestionLemmas.{or_less}
use Rattle.affc_bounds.specs.Examples.{at, lit, name, storing, loaded, with_body, later_narrow, narrow_at_two, later_outside, outside_twice, loading_past, LesserArrayFirst, LesserParametersFirst, OnlyInTheContext, ParametersBeforeStatements, StatementsThenIterators, LoadsBeforeTheStore}
use Rattle.affc_bounds.specs.Spots.{IsNarrow, IsOutside, IsFirstOutside, spot_of}

-- ---- The values of N

one_or_two : (x : ℤ) → pos 1 ≤ℤ x → x ≤ℤ pos 2 → (x ≡ pos 1) ⊎ (x ≡ pos 2)
one_or_two x h k = elim (or_less x (pos 2)) [ inl two ↦ inr (is_two x k two) | inr one ↦ inl (is_one x h one) ]
  where
    is_two : (x : ℤ) → x ≤ℤ pos 2 → pos 2 ≤ℤ x → x ≡ pos 2
    is_two x h k = omega (arith, ints)

    is_one : (x : ℤ) → pos 1 ≤ℤ x → x <ℤ pos 2 → x ≡ pos 1
    is_one x h k = omega (arith, ints)

one_below_two : pos 1 <ℤ pos 2
one_below_two = omega (arith, ints)

zero_below : (n : ℕ) → pos 0 <ℤ pos (suc n)
zero_below n = omega (arith, ints)

from_zero : (n : ℕ) → LexLe (pos 0 ∷ []) (pos n ∷ [])
from_zero zero = inr (refl, tt)
from_zero (suc n) = inl (zero_below n)

not_below : pos 1 ≤ℤ pos 0 → ⊥
not_below h = omega (arith, ints)

no_numbers : (ds : List Decl) (xs : List ℤ) → within_ranges (map Array ds) xs ≡ true → xs ≡ []
no_numbers [] [] e = refl
no_numbers [] (x ∷ xs) e = absurd (true≢false (sym e))
no_numbers (d ∷ ds) xs e = no_numbers ds xs e

two_values : (ds : List Decl) (q : List ℤ) → within_ranges (Number [] (pos 1) (pos 2) ∷ map Array ds) q ≡ true → (q ≡ at 1) ⊎ (q ≡ at 2)
two_values ds [] e = absurd (true≢false (sym e))
two_values ds (x ∷ xs) e =
    let a = both_true (int_le (pos 1) x && int_le x (pos 2)) (within_ranges (map Array ds) xs) e in
    let b = both_true (int_le (pos 1) x) (int_le x (pos 2)) a.0 in
    let none : xs ≡ [] = no_numbers ds xs a.1 in
    elim (one_or_two x (true_le (pos 1) x b.0) (true_le x (pos 2) b.1)) [
      | inl f ↦ inl (ap (λ z. z ∷ xs) f ∙ ap (λ zs. pos 1 ∷ zs) none)
      | inr f ↦ inr (ap (λ z. z ∷ xs) f ∙ ap (λ zs. pos 2 ∷ zs) none)
    ]

-- what is at 2 comes after what is at 1
at_two_later : (q xs ys : List ℤ) → q ≡ at 2 → LexLe (at 1 ++ xs) (q ++ ys)
at_two_later q xs ys e = subst (λ z. LexLe (at 1 ++ xs) (z ++ ys)) (sym e) (inl one_below_two)

-- ---- Extents

abbrev decl_of : List Ix → Decl
decl_of extents = record { name = []; role = Output; extents = extents }

pub lesser_array_first : LesserArrayFirst
unfolding shape-the_row-Ix-0 hidden-the_row-Ix-0 shape-the_row-Val-0 hidden-the_row-Val-0 shape-the_row-Stmt-0 hidden-the_row-Stmt-0 hidden
lesser_array_first = record {
  narrow = record {
    context = record { ranges = refl; context = refl };
    decl = decl_of (Sub (name 0) (lit 1) ∷ []);
    declared = refl;
    extent = Sub (name 0) (lit 1);
    is_extent = inl refl;
    below = true_le (whole (Sub (name 0) (lit 1)) (at 1)) (pos 0) refl;
  };
  first = λ q other n. elim (two_values (decl_of (Sub (name 0) (lit 1) ∷ []) ∷ decl_of (Sub (name 0) (lit 1) ∷ []) ∷ []) q n.context.ranges) [
    | inl e ↦ subst (λ z. LexLe (at 1 ++ pos 0 ∷ []) (z ++ pos other ∷ [])) (sym e) (inr (refl, from_zero other))
    | inr e ↦ at_two_later q (pos 0 ∷ []) (pos other ∷ []) e
  ];
}

only_second : (other : ℕ) → IsNarrow later_narrow (at 1) other → LexLe (at 1 ++ pos 1 ∷ []) (at 1 ++ pos other ∷ [])
unfolding shape-the_row-Ix-0 hidden-the_row-Ix-0 shape-the_row-Val-0 hidden-the_row-Val-0 shape-the_row-Stmt-0 hidden-the_row-Stmt-0 hidden
only_second zero n =
    let d : decl_of (Sub (lit 2) (name 0) ∷ []) ≡ n.decl = same_Some (decl_of (Sub (lit 2) (name 0) ∷ [])) n.decl n.declared in
    let i : IsIn n.extent (Sub (lit 2) (name 0) ∷ []) = subst (λ (y : Decl). IsIn n.extent y.extents) (sym d) n.is_extent in
    elim i [ inl e ↦ absurd (not_below (subst (λ x. whole x (at 1) ≤ℤ pos 0) e n.below)) | inr none ↦ absurd none ]
only_second (suc zero) n = inr (refl, inr (refl, tt))
only_second (suc (suc k)) n = absurd (none-some n.decl n.declared)

pub lesser_parameters_first : LesserParametersFirst
unfolding shape-the_row-Ix-0 hidden-the_row-Ix-0 shape-the_row-Val-0 hidden-the_row-Val-0 shape-the_row-Stmt-0 hidden-the_row-Stmt-0 hidden
lesser_parameters_first = record {
  narrow = record {
    context = record { ranges = refl; context = refl };
    decl = decl_of (name 0 ∷ Sub (name 0) (lit 1) ∷ []);
    declared = refl;
    extent = Sub (name 0) (lit 1);
    is_extent = inr (inl refl);
    below = true_le (whole (Sub (name 0) (lit 1)) (at 1)) (pos 0) refl;
  };
  first = λ q other n. elim (two_values (decl_of (Sub (lit 2) (name 0) ∷ []) ∷ decl_of (name 0 ∷ Sub (name 0) (lit 1) ∷ []) ∷ []) q n.context.ranges) [
    | inl e ↦ subst (λ z. IsNarrow later_narrow z other → LexLe (at 1 ++ pos 1 ∷ []) (z ++ pos other ∷ [])) (sym e) (only_second other) n
    | inr e ↦ at_two_later q (pos 1 ∷ []) (pos other ∷ []) e
  ];
}

never_at_one : (other : ℕ) → IsNarrow narrow_at_two (at 1) other → ⊥
unfolding shape-the_row-Ix-0 hidden-the_row-Ix-0 shape-the_row-Val-0 hidden-the_row-Val-0 shape-the_row-Stmt-0 hidden-the_row-Stmt-0 hidden
never_at_one other n = true≢false (sym n.context.context)

pub only_in_the_context : OnlyInTheContext
unfolding shape-the_row-Ix-0 hidden-the_row-Ix-0 shape-the_row-Val-0 hidden-the_row-Val-0 shape-the_row-Stmt-0 hidden-the_row-Stmt-0 hidden
only_in_the_context = (
  record {
    narrow = record {
      context = record { ranges = refl; context = refl };
      decl = decl_of (Sub (lit 2) (name 0) ∷ []);
      declared = refl;
      extent = Sub (lit 2) (name 0);
      is_extent = inl refl;
      below = true_le (whole (Sub (lit 2) (name 0)) (at 2)) (pos 0) refl;
    };
    first = λ q other n. elim (two_values (decl_of (Sub (lit 2) (name 0) ∷ []) ∷ decl_of (name 0 ∷ Sub (name 0) (lit 1) ∷ []) ∷ []) q n.context.ranges) [
      | inl e ↦ absurd (never_at_one other (subst (λ z. IsNarrow narrow_at_two z other) e n))
      | inr e ↦ subst (λ z. LexLe (at 2 ++ pos 0 ∷ []) (z ++ pos other ∷ [])) (sym e) (inr (refl, from_zero other))
    ];
  },
  never_at_one 1,
)

-- ---- Accesses

abbrev run : (statement : ℕ) → (iterators : List ℤ) → Instance
run statement iterators = record { statement = statement; iterators = iterators }

-- the first at 1 is the first
first_at_one : (body : List Stmt) (here : Instance) (access : ℕ) → IsOutside (with_body body) (at 1) here access
    → ((b : Instance) (other : ℕ) → IsOutside (with_body body) (at 1) b other → LexLe (spot_of (at 1) here access) (spot_of (at 1) b other)) → IsFirstOutside (with_body body) (at 1) here access
first_at_one body here access outside first = record {
  outside = outside;
  first = λ q b other o. elim (two_values (decl_of (lit 1 ∷ []) ∷ []) q o.context.ranges) [
    | inl e ↦ subst (λ z. IsOutside (with_body body) z b other → LexLe (spot_of (at 1) here access) (spot_of z b other)) (sym e) (first b other) o
    | inr e ↦ subst (λ z. LexLe (spot_of (at 1) here access) (spot_of z b other)) (sym e) (inl one_below_two)
  ];
}

one_store_within : (body : List Stmt) (here : Instance) (x : Element) (other : ℕ) → events (with_body body) (at 1) here ≡ x ∷ [] → LiesWithin (with_body body) (at 1) x → IsOutside (with_body body) (at 1) here other → ⊥
one_store_within body here x zero e within o =
    o.outside (subst (LiesWithin (with_body body) (at 1)) (same_Some x o.element (sym (ap (λ (ys : List Element). slice_get ys 0) e) ∙ o.touched)) within)
one_store_within body here x (suc k) e within o = none-some o.element (sym (ap (λ (ys : List Element). slice_get ys (suc k)) e) ∙ o.touched)

abbrev two_stores : List Stmt
two_stores = storing (Sub (name 0) (lit 1)) (Const 7) ∷ storing (name 0) (Const 7) ∷ []

second_at_one : (b : Instance) (other : ℕ) → IsOutside later_outside (at 1) b other → LexLe (spot_of (at 1) (run 1 []) 0) (spot_of (at 1) b other)
unfolding shape-the_row-Ix-0 hidden-the_row-Ix-0 shape-the_row-Val-0 hidden-the_row-Val-0 shape-the_row-Stmt-0 hidden-the_row-Stmt-0 hidden
second_at_one b other o =
    elim o.runs [
      | inl e ↦ absurd (one_store_within two_stores (run 0 []) (0, pos 0 ∷ []) other refl refl (subst (λ z. IsOutside later_outside (at 1) z other) e o))
      | inr i ↦ elim i [
        | inl e ↦ subst (λ z. LexLe (spot_of (at 1) (run 1 []) 0) (spot_of (at 1) z other)) (sym e) (inr (refl, inr (refl, from_zero other)))
        | inr none ↦ absurd none
      ]
    ]

pub parameters_before_statements : ParametersBeforeStatements
unfolding shape-the_row-Ix-0 hidden-the_row-Ix-0 shape-the_row-Val-0 hidden-the_row-Val-0 shape-the_row-Stmt-0 hidden-the_row-Stmt-0 hidden
parameters_before_statements =
    first_at_one two_stores (run 1 []) 0 (record { context = record { ranges = refl; context = refl }; runs = inr (inl refl); element = (0, pos 1 ∷ []); touched = refl; outside = λ w. true≢false (sym w) })
    second_at_one

abbrev three_turns : List Stmt
three_turns = For [] (lit 0) Less (lit 3) (storing (name 1) (Const 7) ∷ []) ∷ storing (name 0) (Const 7) ∷ []

second_turn : (b : Instance) (other : ℕ) → IsOutside outside_twice (at 1) b other → LexLe (spot_of (at 1) (run 0 (pos 1 ∷ [])) 0) (spot_of (at 1) b other)
unfolding shape-the_row-Ix-0 hidden-the_row-Ix-0 shape-the_row-Val-0 hidden-the_row-Val-0 shape-the_row-Stmt-0 hidden-the_row-Stmt-0 hidden
second_turn b other o =
    let Later : Instance → Type 0 = λ z. LexLe (spot_of (at 1) (run 0 (pos 1 ∷ [])) 0) (spot_of (at 1) z other) in
    elim o.runs [
      | inl e ↦ absurd (one_store_within three_turns (run 0 (pos 0 ∷ [])) (0, pos 0 ∷ []) other refl refl (subst (λ z. IsOutside outside_twice (at 1) z other) e o))
      | inr i ↦ elim i [
        | inl e ↦ subst Later (sym e) (inr (refl, inr (refl, inr (refl, from_zero other))))
        | inr j ↦ elim j [
          | inl e ↦ subst Later (sym e) (inr (refl, inr (refl, inl one_below_two)))
          | inr k ↦ elim k [ inl e ↦ subst Later (sym e) (inr (refl, inl (zero_below 0))) | inr none ↦ absurd none ]
        ]
      ]
    ]

pub statements_then_iterators : StatementsThenIterators
unfolding shape-the_row-Ix-0 hidden-the_row-Ix-0 shape-the_row-Val-0 hidden-the_row-Val-0 shape-the_row-Stmt-0 hidden-the_row-Stmt-0 hidden
statements_then_iterators =
    first_at_one three_turns (run 0 (pos 1 ∷ [])) 0
    (record { context = record { ranges = refl; context = refl }; runs = inr (inl refl); element = (0, pos 1 ∷ []); touched = refl; outside = λ w. true≢false (sym w) })
    second_turn

abbrev one_sum : List Stmt
one_sum = storing (lit 1) (Bin op.Add (loaded (lit 0)) (loaded (lit 2))) ∷ []

one_below_more : (k : ℕ) → pos 1 <ℤ pos (suc (suc k))
one_below_more k = omega (arith, ints)

second_load : (other : ℕ) → IsOutside loading_past (at 1) (run 0 []) other → LexLe (spot_of (at 1) (run 0 []) 1) (spot_of (at 1) (run 0 []) other)
unfolding shape-the_row-Ix-0 hidden-the_row-Ix-0 shape-the_row-Val-0 hidden-the_row-Val-0 shape-the_row-Stmt-0 hidden-the_row-Stmt-0 hidden
second_load zero o = absurd (o.outside (subst (LiesWithin loading_past (at 1)) (same_Some (0, pos 0 ∷ []) o.element o.touched) refl))
second_load (suc zero) o = inr (refl, inr (refl, inr (refl, tt)))
second_load (suc (suc k)) o = inr (refl, inr (refl, inl (one_below_more k)))

only_run : (b : Instance) (other : ℕ) → IsOutside loading_past (at 1) b other → LexLe (spot_of (at 1) (run 0 []) 1) (spot_of (at 1) b other)
unfolding shape-the_row-Ix-0 hidden-the_row-Ix-0 shape-the_row-Val-0 hidden-the_row-Val-0 shape-the_row-Stmt-0 hidden-the_row-Stmt-0 hidden
only_run b other o = elim o.runs [
  | inl e ↦ subst (λ z. IsOutside loading_past (at 1) z other → LexLe (spot_of (at 1) (run 0 []) 1) (spot_of (at 1) z other)) (sym e) (second_load other) o
  | inr none ↦ absurd none
]

pub loads_before_the_store : LoadsBeforeTheStore
unfolding shape-the_row-Ix-0 hidden-the_row-Ix-0 shape-the_row-Val-0 hidden-the_row-Val-0 shape-the_row-Stmt-0 hidden-the_row-Stmt-0 hidden
loads_before_the_store =
    first_at_one one_sum (run 0 []) 1 (record { context = record { ranges = refl; context = refl }; runs = inl refl; element = (0, pos 2 ∷ []); touched = refl; outside = λ w. true≢false (sym w) })
    only_run
