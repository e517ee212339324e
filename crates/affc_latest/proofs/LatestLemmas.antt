-- The latest store before a load is its source.
use Rattle.std.proofs.Common.{◌≡◌, ℤ, ◌<ℤ◌, ◌≤ℤ◌, ◌+ℤ◌, pos, ℕ, suc, ◌<◌, true, if◌then◌else◌, List, [], ◌∷◌, length, Option, Some, None, refl, sym, ap, subst, ◌∙◌, ◌⊎◌, inl, inr, arith}
use Rattle.std.specs.Prelude.{slice_get, nat_eq}
use Rattle.std.proofs.lemmas.Int.{ints}
use Rattle.std.proofs.lemmas.Bool.Decides.{nat_tests}
use Rattle.affc_system.specs.Order.{LexLe}
use Rattle.affc_ast.specs.declared.tree.Instance.{Instance}
use Rattle.affc_ast.specs.declared.tree.Program.{Program}
use Rattle.affc_ast.specs.Store.{Element}
use Rattle.affc_ast.specs.Trace.{trace, store_of}
use Rattle.affc_trace.specs.Dataflow.{IsSource}
use Rattle.affc_trace.specs.Law.{IsIn}
use Rattle.affc_trace.specs.Orders.{Earlier, AreDistinct}
use Rattle.affc_trace.proofs.Legality.{later_is_in, one_way}
use Rattle.affc_trace.proofs.Once.{once}
use Rattle.affc_trace.proofs.Sources.{source_in_its_own_words}
use Rattle.affc_domain.specs.Loops.{IsBefore, shared, loop_numbers}
use Rattle.affc_domain.proofs.OrderLemmas.{has_loops, one_each, before_is_earlier}
use Rattle.affc_latest.specs.Latest.{IsLatest}

-- ---- Instances of one statement stand in lexicographic order

lex_before : (xs ys : List ℤ) (T : Type 0) → length xs ≡ length ys → LexLe xs ys → (xs ≡ ys) ⊎ IsBefore (length xs) xs ys T
lex_before [] [] T e l = inl refl
lex_before [] (y ∷ ys) T e l = absurd (omega (arith, e))
lex_before (x ∷ xs) [] T e l = absurd l
lex_before (x ∷ xs) (y ∷ ys) T e (inl h) = inr (inl (up x y h))
  where
    up : (x y : ℤ) → x <ℤ y → (x +ℤ pos 1) ≤ℤ y
    up x y h = omega (arith, ints)
lex_before (x ∷ xs) (y ∷ ys) T e (inr h) = elim (lex_before xs ys T (omega (arith, e)) h.1) [
  | inl q ↦ inl (ap (λ z. z ∷ xs) h.0 ∙ ap (λ zs. y ∷ zs) q)
  | inr q ↦ inr (inr (h.0, q))
]

shared_all : (ls : List ℕ) → shared ls ls ≡ length ls
shared_all [] = refl
shared_all (l ∷ ls) = ap (λ t. if t then suc (shared ls ls) else 0) (same l) ∙ ap suc (shared_all ls)
  where
    same : (l : ℕ) → nat_eq l l ≡ true
    same l = grind (arith, nat_tests)

pub in_lex_order : (program : Program) (p : List ℤ) (a b : Instance) → IsIn a (trace program p) → IsIn b (trace program p) → a.statement ≡ b.statement → LexLe a.iterators b.iterators
    → (a ≡ b) ⊎ Earlier (trace program p) a b
in_lex_order program p a b i j s l =
    let h = has_loops program p a i in
    let g : slice_get (loop_numbers program) b.statement ≡ Some h.0 = ap (slice_get (loop_numbers program)) (sym s) ∙ h.1 in
    let la : length h.0 ≡ length a.iterators = one_each program p a h.0 i h.1 in
    let lb : length h.0 ≡ length b.iterators = one_each program p b h.0 j g in
    elim (lex_before a.iterators b.iterators (a.statement < b.statement) (sym la ∙ lb) l) [
      | inl e ↦ inl (λ i. record { statement = s i; iterators = e i })
      | inr q ↦ inr (before_is_earlier program p a b h.0 h.0 h.1 g i j (subst (λ n. IsBefore n a.iterators b.iterators (a.statement < b.statement)) (sym (shared_all h.0 ∙ la)) q))
    ]

-- ---- The latest of two kinds

module _ {I : Type 0} (trace : List I) where
  pub through : (is : List I) (u v w : I) → AreDistinct is → Earlier is u v → Earlier is v w → Earlier is u w
  through [] u v w d h g = h
  through (x ∷ is) u v w d (inl h) (inl g) = inl (h.0, g.1)
  through (x ∷ is) u v w d (inl h) (inr g) = inl (h.0, later_is_in is v w g)
  through (x ∷ is) u v w d (inr h) (inl g) = absurd (d.0 (subst (λ y. IsIn y is) g.0 (later_is_in is u v h)))
  through (x ∷ is) u v w d (inr h) (inr g) = inr (through is u v w d.1 h g)

  -- where the second is at least as late
  pub later_of_two : (P Q : I → Type 0) (u w : I) → AreDistinct trace → IsLatest trace P (Some u) → IsLatest trace Q (Some w) → (u ≡ w) ⊎ Earlier trace u w → IsLatest trace (λ v. P v ⊎ Q v) (Some w)
  later_of_two P Q u w d a b o = (
    inr b.0,
    λ v h. elim h [
      | inl h ↦ elim (a.1 v h) [
        | inl e ↦ elim o [ inl q ↦ inl (e ∙ q) | inr q ↦ inr (subst (λ z. Earlier trace z w) (sym e) q) ]
        | inr e ↦ elim o [ inl q ↦ inr (subst (λ z. Earlier trace v z) q e) | inr q ↦ inr (through trace v u w d e q) ]
      ]
      | inr h ↦ b.1 v h
    ],
  )

  pub either_order : (P Q : I → Type 0) (o : Option I) → IsLatest trace (λ v. P v ⊎ Q v) o → IsLatest trace (λ v. Q v ⊎ P v) o
  either_order P Q None a = λ v h. a v (other v h)
    where
      other : (v : I) → Q v ⊎ P v → P v ⊎ Q v
      other v (inl h) = inr h
      other v (inr h) = inl h
  either_order P Q (Some w) a = (other w a.0, λ v h. a.1 v (back v h))
    where
      other : (v : I) → P v ⊎ Q v → Q v ⊎ P v
      other v (inl h) = inr h
      other v (inr h) = inl h

      back : (v : I) → Q v ⊎ P v → P v ⊎ Q v
      back v (inl h) = inr h
      back v (inr h) = inl h

  pub only_second : (P Q : I → Type 0) (o : Option I) → IsLatest trace P None → IsLatest trace Q o → IsLatest trace (λ v. P v ⊎ Q v) o
  only_second P Q None a b = λ v h. elim h [ inl h ↦ a v h | inr h ↦ b v h ]
  only_second P Q (Some w) a b = (inr b.0, λ v h. elim h [ inl h ↦ absurd (a v h) | inr h ↦ b.1 v h ])

-- ---- The source

pub latest_is_source : (program : Program) (p : List ℤ) (b : Instance) (x : Element) → IsIn b (trace program p) → (o : Option Instance)
    → IsLatest (trace program p) (λ v. (x ≡ store_of program p v) × Earlier (trace program p) v b) o → IsSource program p b x o
latest_is_source program p b x i None l = (source_in_its_own_words program p b x).1.1 (record { stands = i; none = λ v s e. l v (s, e) })
latest_is_source program p b x i (Some w) l = ((source_in_its_own_words program p b x).0 w).1 (record {
  earlier = l.0.1;
  stores = l.0.0;
  none_between = λ v s e f. elim (l.1 v (s, f)) [
    | inl q ↦ one_way (trace program p) w v (once program p) e (subst (λ z. Earlier (trace program p) v z) q (subst (λ z. Earlier (trace program p) z v) (sym q) e))
    | inr q ↦ one_way (trace program p) v w (once program p) q e
  ];
})
