-- Systems without a point have no pairs.
use Rattle.std.proofs.Common.{◌≡◌, ℕ, zero, suc, ◌+◌, ◌*◌, ◌<◌, ◌≤◌, ℤ, List, [], ◌∷◌, ◌++◌, length, take, refl, sym, ap, subst, append_assoc, ◌∙◌, ◌⊎◌, inl, inr, arith}
use Rattle.std.specs.Prelude.{slice_index_or}
use Rattle.std.specs.List.{All, Contains}
use Rattle.std.proofs.lemmas.List.Elements.{All-nil, All-cons, All-weaker, All-contains, All-contains_itself, Contains-append_left, Contains-append_right, Contains-append_cases}
use Rattle.affc_rows.specs.Forms.{Affine, values_of}
use Rattle.affc_system.specs.Systems.{Rows, IsPoint}
use Rattle.affc_system.specs.Pairs.{IsBoxed}
use Rattle.affc_system.specs.ElementPairs.{IsPairAt, IsPairOf}
use Rattle.affc_system.specs.declared.pairs.PairSystem.{PairSystem}
use Rattle.affc_ast.specs.declared.tree.Program.{Program}
use Rattle.affc_nest.specs.declared.nest.Nest.{Nest}
use Rattle.affc_conflicts.specs.Conditions.{LiesWithin, IsConflict}
use Rattle.affc_folds.specs.Systems.{HavePairs, IsCopy, IsVoid, AreKept, Adds}

-- ---- One copy

module _ (of s : PairSystem) (c : IsCopy of s) where
  pub point_of : (z : List ℤ) → IsPoint s.system z → IsPoint of.system z
  point_of z h = subst (λ (r : Rows). IsPoint r z) c.rows h

  point_in : (z : List ℤ) → IsPoint of.system z → IsPoint s.system z
  point_in z h = subst (λ (r : Rows). IsPoint r z) (sym c.rows) h

  values_x : (z : List ℤ) → values_of s.x.items z ≡ values_of of.x.items z
  values_x z = ap (λ fs. values_of fs z) c.x

  values_y : (z : List ℤ) → values_of s.y.items z ≡ values_of of.y.items z
  values_y z = ap (λ fs. values_of fs z) c.y

  pub pair_of : (p x y : List ℤ) → IsPairAt s p x y → IsPairAt of p x y
  pair_of p x y h = record { point = h.point; meets = point_of h.point h.meets; parameters = h.parameters; first = sym (values_x h.point) ∙ h.first; second = sym (values_y h.point) ∙ h.second }

  pub pair_in : (p x y : List ℤ) → IsPairAt of p x y → IsPairAt s p x y
  pair_in p x y h = record { point = h.point; meets = point_in h.point h.meets; parameters = h.parameters; first = values_x h.point ∙ h.first; second = values_y h.point ∙ h.second }

  pub conflict_in : (context : Rows) (ranges : List (ℤ × ℤ)) (extents : List Affine) → IsConflict context ranges extents of → IsConflict context ranges extents s
  conflict_in context ranges extents h = record {
    boxed = subst (λ b. IsBoxed s.system b) (sym c.ranges) (subst (λ (r : Rows). IsBoxed r of.ranges) (sym c.rows) h.boxed);
    parameters = subst (λ (r : Rows). context.columns ≤ r.columns) (sym c.rows) h.parameters;
    in_context = λ z at. h.in_context z (point_of z at);
    x_each = ap length c.x ∙ h.x_each;
    y_each = ap length c.y ∙ h.y_each;
    differ = λ z at e. h.differ z (point_of z at) (sym (values_x z) ∙ e ∙ values_y z);
    x_within = λ z at. subst (λ xs. LiesWithin extents (take context.columns z) xs) (sym (values_x z)) (h.x_within z (point_of z at));
    y_within = λ z at. subst (λ ys. LiesWithin extents (take context.columns z) ys) (sym (values_y z)) (h.y_within z (point_of z at));
    room = subst (λ (r : Rows). length r.rows + length context.rows + 2 * length extents ≤ 1024) (sym c.rows) h.room;
  }

-- ---- All that are kept

no_element : (s : PairSystem) → Contains [] s → ⊥
no_element s h = omega (arith, h.1)

pub none_kept : AreKept [] []
none_kept = record { copies = λ s h. absurd (no_element s h); all = λ of h. absurd (no_element of h) }

the_one : (s new : PairSystem) → Contains (new ∷ []) s → s ≡ new
the_one s new h = by_place h.0 h.1 h.2
  where
    by_place : (k : ℕ) → k < 1 → slice_index_or (new ∷ []) k s ≡ s → s ≡ new
    by_place zero below e = sym e
    by_place (suc k) below e = absurd (omega (arith, below))

itself : (s : PairSystem) → Contains (s ∷ []) s
itself s = (0, omega arith, refl)

-- systems more without a point
pub all_passed : (more all : List PairSystem) → All IsVoid more → Adds more all all
all_passed more all none systems h = record {
  copies = λ s i. let r = h.copies s i in (r.0, Contains-append_left systems more r.0 r.1, r.2);
  all = λ of i. elim (Contains-append_cases systems more of i) [ inl j ↦ h.all of j | inr j ↦ inl (All-contains IsVoid more of none j) ];
}

-- one system more, without a point
pub one_passed : (new : PairSystem) (all : List PairSystem) → IsVoid new → Adds (new ∷ []) all all
one_passed new all none = all_passed (new ∷ []) all (All-cons IsVoid new [] none (All-nil IsVoid))

-- one system more, of which there is a copy
pub one_kept : (new copy : PairSystem) (all : List PairSystem) → IsCopy new copy → Adds (new ∷ []) all (all ++ copy ∷ [])
one_kept new copy all c systems h = record {
  copies = λ s i. elim (Contains-append_cases all (copy ∷ []) s i) [
    | inl j ↦ (let r = h.copies s j in (r.0, Contains-append_left systems (new ∷ []) r.0 r.1, r.2))
    | inr j ↦ (new, Contains-append_right systems (new ∷ []) new (itself new), subst (IsCopy new) (sym (the_one s copy j)) c)
  ];
  all = λ of i. elim (Contains-append_cases systems (new ∷ []) of i) [
    | inl j ↦ elim (h.all of j) [ inl none ↦ inl none | inr r ↦ inr (r.0, Contains-append_left all (copy ∷ []) r.0 r.1, r.2) ]
    | inr j ↦ inr (copy, Contains-append_right all (copy ∷ []) copy (itself copy), subst (λ (o : PairSystem). IsCopy o copy) (sym (the_one of new j)) c)
  ];
}

-- these systems, and then those
pub both_added : (first second more old between new : List PairSystem) → more ≡ first ++ second → Adds first old between → Adds second between new → Adds more old new
both_added first second more old between new e f g systems h =
    subst (λ c. AreKept (systems ++ c) new) (sym e) (subst (λ ss. AreKept ss new) (append_assoc systems first second) (g (systems ++ first) (f systems h)))

-- ---- The pairs that are left

pub all_boxed : (context : Rows) (ranges : List (ℤ × ℤ)) (extents : List Affine) (systems : List PairSystem) → All (IsConflict context ranges extents) systems → All (λ (s : PairSystem). IsBoxed s.system s.ranges) systems
all_boxed context ranges extents systems h = All-weaker (IsConflict context ranges extents) (λ (s : PairSystem). IsBoxed s.system s.ranges) (λ s i. i.boxed) systems h

module _ (systems kept : List PairSystem) (h : AreKept systems kept) (boxed : All (λ (s : PairSystem). IsBoxed s.system s.ranges) systems) where
  pairs_of : (p x y : List ℤ) → IsPairOf kept p x y → IsPairOf systems p x y
  pairs_of p x y i =
      let r = h.copies i.system i.there in
      record { system = r.0; there = r.1; either = elim i.either [ inl a ↦ inl (pair_of r.0 i.system r.2 p x y a) | inr b ↦ inr (pair_of r.0 i.system r.2 p y x b) ] }

  point_at : (s : PairSystem) (p x y : List ℤ) → IsBoxed s.system s.ranges → IsPairAt s p x y ⊎ IsPairAt s p y x → IsVoid s → ⊥
  point_at s p x y b either none = elim either [ inl a ↦ none a.point (b.holds a.point a.meets) a.meets | inr c ↦ none c.point (b.holds c.point c.meets) c.meets ]

  pairs_in : (p x y : List ℤ) → IsPairOf systems p x y → IsPairOf kept p x y
  pairs_in p x y i = elim (h.all i.system i.there) [
    | inl none ↦ absurd (point_at i.system p x y (All-contains (λ (s : PairSystem). IsBoxed s.system s.ranges) systems i.system boxed i.there) i.either none)
    | inr r ↦ record { system = r.0; there = r.1; either = elim i.either [ inl a ↦ inl (pair_in i.system r.0 r.2 p x y a) | inr b ↦ inr (pair_in i.system r.0 r.2 p y x b) ] }
  ]

  have_pairs : (program : Program) (pairs : ℕ → List ℤ → List ℤ → List ℤ → Type 0) (nest : Nest) (array : ℕ) (extents : List Affine) → HavePairs program pairs nest array extents systems → HavePairs program pairs nest array extents kept
  have_pairs program pairs nest array extents l = record {
    conflicts = All-weaker (Contains kept) (IsConflict nest.context nest.params extents) (λ s i.
        let r = h.copies s i in
        conflict_in r.0 s r.2 nest.context nest.params extents (All-contains (IsConflict nest.context nest.params extents) systems r.0 l.conflicts r.1)) kept (All-contains_itself kept);
    same = λ p inside x y. (λ i. (l.same p inside x y).0 (pairs_of p x y i), λ i. pairs_in p x y ((l.same p inside x y).1 i));
  }

pub kept_pairs : (systems kept : List PairSystem) → AreKept systems kept → (program : Program) (pairs : ℕ → List ℤ → List ℤ → List ℤ → Type 0) (nest : Nest) (array : ℕ) (extents : List Affine) → HavePairs program pairs nest array extents systems
    → HavePairs program pairs nest array extents kept
kept_pairs systems kept h program pairs nest array extents l =
    have_pairs systems kept h (all_boxed nest.context nest.params extents systems l.conflicts) program pairs nest array extents l
