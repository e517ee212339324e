-- The trees of the halves of a part of the box make the tree of that part.
use Rattle.std.proofs.Common.{◌≡◌, ℕ, zero, suc, ◌+◌, ◌-◌, ◌*◌, ◌^◌, ◌<◌, ◌≤◌, ℤ, pos, negsuc, neg_ℤ, ◌+ℤ◌, ◌-ℤ◌, ◌*ℤ◌, ◌≤ℤ◌, ◌<ℤ◌, Bool, true, false, if◌then◌else◌, List, [], ◌∷◌, ◌++◌, length, get_or, map, replicate, refl, sym, ap, subst, ◌∙◌, inl, inr, arith}
use Rattle.std.specs.Prelude.{unsigned_abs, max, int_le, Option}
use Rattle.std.specs.List.{All}
use Rattle.std.proofs.lemmas.Int.{ints}
use Rattle.std.proofs.lemmas.List.Elements.{All-nil, All-cons, All-append}
use native.Mathlib.Numerals.{unary_clauses}
use borrow.Author.Differences.{abs_is}
use Rattle.affc_rows.specs.Forms.{Affine, value, dot}
use Rattle.affc_system.specs.Boxes.{InBox, pin}
use Rattle.affc_ast.specs.declared.tree.Instance.{Instance}
use Rattle.affc_ast.specs.declared.tree.Program.{Program}
use Rattle.affc_trace.proofs.EndedReads.{append_assoc}
use Rattle.affc_trace.proofs.LastStores.{map_append}
use Rattle.affc_trace.proofs.Runs.{length_append}
use Rattle.affc_domain.proofs.FormLemmas.{number_value, number_width}
use Rattle.affc_nest.specs.declared.nest.Access.{Access}
use Rattle.affc_nest.specs.declared.nest.Entry.{Entry}
use Rattle.affc_nest.specs.declared.nest.Nest.{Nest}
use Rattle.affc_nest.proofs.QuestionLemmas.{or_less}
use Rattle.affc_quast.specs.Limits.{narrow, FitsForm}
use Rattle.affc_quast.specs.Paths.{IsNear}
use Rattle.affc_quast.specs.Trees.{Tree, Test, named_at, quotients_at, depth_of, divisions_of}
use Rattle.affc_flow.specs.Laws.{IsSourceOf}
use Rattle.affc_dataflow.specs.Searches.{IsRightAt, Covers, part_box, Fuel, IsSlight}

-- ---- Halves

in_low : (point : List ℤ) (low high at : ℤ) (rest : List (ℤ × ℤ)) (xs : List ℤ) → InBox (part_box point low high rest) xs → get_or xs (length point) (pos 0) ≤ℤ at → InBox (part_box point low at rest) xs
in_low [] low high at rest [] b h = absurd b
in_low [] low high at rest (x ∷ xs) b h = (b.0, h, b.2)
in_low (y ∷ point) low high at rest [] b h = absurd b
in_low (y ∷ point) low high at rest (x ∷ xs) b h = (b.0, b.1, in_low point low high at rest xs b.2 h)

in_high : (point : List ℤ) (low high at : ℤ) (rest : List (ℤ × ℤ)) (xs : List ℤ) → InBox (part_box point low high rest) xs → at ≤ℤ get_or xs (length point) (pos 0) → InBox (part_box point at high rest) xs
in_high [] low high at rest [] b h = absurd b
in_high [] low high at rest (x ∷ xs) b h = (h, b.1, b.2)
in_high (y ∷ point) low high at rest [] b h = absurd b
in_high (y ∷ point) low high at rest (x ∷ xs) b h = (b.0, b.1, in_high point low high at rest xs b.2 h)

there_is_one : (point : List ℤ) (low high : ℤ) (rest : List (ℤ × ℤ)) (xs : List ℤ) → InBox (part_box point low high rest) xs → length point < length xs
there_is_one [] low high rest [] b = absurd b
there_is_one [] low high rest (x ∷ xs) b = omega arith
there_is_one (y ∷ point) low high rest [] b = absurd b
there_is_one (y ∷ point) low high rest (x ∷ xs) b = let h = there_is_one point low high rest xs b.2 in omega (arith, h)

-- ---- The test

abbrev pub test_form : (before : ℕ) → (at : ℤ) → (behind : ℕ) → Affine
test_form before at behind = record { coefs = replicate before (pos 0) ++ (negsuc 0 ∷ replicate behind (pos 0)); constant = at }

test_dot : (before behind : ℕ) (xs : List ℤ) → before < length xs → dot (replicate before (pos 0) ++ (negsuc 0 ∷ replicate behind (pos 0))) xs ≡ neg_ℤ (get_or xs before (pos 0))
test_dot before behind [] h = absurd (omega (arith, h))
test_dot zero behind (x ∷ xs) h = turned x (dot (replicate behind (pos 0)) xs) (number_value behind (pos 0) xs)
  where
    turned : (x d : ℤ) → d +ℤ pos 0 ≡ pos 0 → (negsuc 0 *ℤ x) +ℤ d ≡ neg_ℤ x
    turned x d e = grind (arith, ints)
test_dot (suc before) behind (x ∷ xs) h =
    none x (dot (replicate before (pos 0) ++ (negsuc 0 ∷ replicate behind (pos 0))) xs) (neg_ℤ (get_or xs before (pos 0))) (test_dot before behind xs (omega (arith, h)))
  where
    none : (x d v : ℤ) → d ≡ v → (pos 0 *ℤ x) +ℤ d ≡ v
    none x d v e = grind (arith, ints)

test_says : (before behind : ℕ) (at : ℤ) (xs : List ℤ) → before < length xs → value (test_form before at behind) xs ≡ at -ℤ get_or xs before (pos 0)
test_says before behind at xs h = less at (dot (replicate before (pos 0) ++ (negsuc 0 ∷ replicate behind (pos 0))) xs) (get_or xs before (pos 0)) (test_dot before behind xs h)
  where
    less : (at d x : ℤ) → d ≡ neg_ℤ x → d +ℤ at ≡ at -ℤ x
    less at d x e = omega (arith, ints)

zeros_long : (n : ℕ) → length (replicate n (pos 0)) ≡ n
zeros_long n = number_width n (pos 0)

test_wide : (before behind columns : ℕ) (at : ℤ) → (before + 1) + behind ≡ columns → length (test_form before at behind).coefs ≡ columns
test_wide before behind columns at e =
    let a = length_append (replicate before (pos 0)) (negsuc 0 ∷ replicate behind (pos 0)) in
    let b = zeros_long before in
    let c = zeros_long behind in
    sum before behind columns (length (replicate before (pos 0))) (length (replicate behind (pos 0))) (length (replicate before (pos 0) ++ (negsuc 0 ∷ replicate behind (pos 0)))) e a b c
  where
    sum : (b c n l r t : ℕ) → (b + 1) + c ≡ n → t ≡ l + suc r → l ≡ b → r ≡ c → t ≡ n
    sum b c n l r t e f g h = omega (arith, e, f, g, h)

zeros_fit : (n : ℕ) → All (λ c. unsigned_abs c ≤ 2 ^ 20) (replicate n (pos 0))
zeros_fit zero = All-nil (λ c. unsigned_abs c ≤ 2 ^ 20)
zeros_fit (suc n) = All-cons (λ c. unsigned_abs c ≤ 2 ^ 20) (pos 0) (replicate n (pos 0)) (omega arith) (zeros_fit n)

test_fits : (before behind : ℕ) (at : ℤ) → IsSlight at → FitsForm narrow (test_form before at behind)
test_fits before behind at h =
    let P = λ (c : ℤ). unsigned_abs c ≤ 2 ^ 20 in
    record {
      coefs_fit = All-append P (replicate before (pos 0)) (negsuc 0 ∷ replicate behind (pos 0)) (zeros_fit before) (All-cons P (negsuc 0) (replicate behind (pos 0)) (omega arith) (zeros_fit behind));
      constant_fits = h;
    }

-- a test says what the side does to which the point goes
pub test_says_side : (Said : Option Instance → List ℤ → Type 0) (form : Affine) (on off : Tree) (zs : List ℤ)
    → ((pos 0 ≤ℤ value form zs) → Said (named_at on zs) (quotients_at on zs)) → ((value form zs ≤ℤ negsuc 0) → Said (named_at off zs) (quotients_at off zs))
    → Said (named_at (Test form on off) zs) (quotients_at (Test form on off) zs)
test_says_side Said form on off zs upper lower = chosen (int_le (pos 0) (value form zs)) refl
  where
    above : (z : ℤ) → int_le (pos 0) z ≡ true → pos 0 ≤ℤ z
    above z e = grind (arith, ints)

    below : (z : ℤ) → int_le (pos 0) z ≡ false → z ≤ℤ negsuc 0
    below z e = grind (arith, ints)

    chosen : (t : Bool) → int_le (pos 0) (value form zs) ≡ t → Said (if int_le (pos 0) (value form zs) then named_at on zs else named_at off zs) (if int_le (pos 0) (value form zs) then quotients_at on zs else quotients_at off zs)
    chosen true q = subst (λ t. Said (if t then named_at on zs else named_at off zs) (if t then quotients_at on zs else quotients_at off zs)) (sym q) (upper (above (value form zs) q))
    chosen false q = subst (λ t. Said (if t then named_at on zs else named_at off zs) (if t then quotients_at on zs else quotients_at off zs)) (sym q) (lower (below (value form zs) q))

-- a test of which the first side is right where it is met, and the second elsewhere
test_right : (program : Program) (p its : List ℤ) (e : Entry) (x : Access) (form : Affine) (on off : Tree)
    → ((pos 0 ≤ℤ value form (p ++ its)) → IsRightAt program p its e x on) → ((value form (p ++ its) ≤ℤ negsuc 0) → IsRightAt program p its e x off)
    → IsRightAt program p its e x (Test form on off)
test_right program p its e x form on off upper lower =
    let both = test_says_side (λ source quotients. IsSourceOf program p its e x source × All IsNear quotients) form on off (p ++ its) (λ h. ((upper h).source, (upper h).near)) (λ h. ((lower h).source, (lower h).near)) in
    record { source = both.0; near = both.1 }

-- the tree of both halves
pub halves_cover : (nest : Nest) (e : Entry) (x : Access) (point : List ℤ) (low high at : ℤ) (rest : List (ℤ × ℤ)) (left : ℕ) (on off tree : Tree)
    → (length point + 1) + length rest ≡ length nest.params + length e.loops → IsSlight at → 1 ≤ left → tree ≡ Test (test_form (length point) at (length rest)) on off
    → Covers nest e x (part_box point low at rest) (left - 1) on → Covers nest e x (part_box point (at +ℤ pos 1) high rest) (left - 1) off → Covers nest e x (part_box point low high rest) left tree
halves_cover nest e x point low high at rest left on off tree wide slight some is a b = subst (Covers nest e x (part_box point low high rest) left) (sym is) (record {
  right = λ program p its q loads inside.
      let long = there_is_one point low high rest (p ++ its) inside in
      let says = test_says (length point) (length rest) at (p ++ its) long in
      test_right program p its e x (test_form (length point) at (length rest)) on off
      (λ h. a.right program p its q loads (in_low point low high at rest (p ++ its) inside (below (value (test_form (length point) at (length rest)) (p ++ its)) (get_or (p ++ its) (length point) (pos 0)) says h)))
      (λ h. b.right program p its q loads (in_high point low high (at +ℤ pos 1) rest (p ++ its) inside (above (value (test_form (length point) at (length rest)) (p ++ its)) (get_or (p ++ its) (length point) (pos 0)) says h)));
  within = record {
    shaped = (test_wide (length point) (length rest) (length nest.params + length e.loops) at wide, a.within.shaped, b.within.shaped);
    stores = (a.within.stores, b.within.stores);
    fits = (test_fits (length point) (length rest) at slight, a.within.fits, b.within.fits);
    short = deeper (depth_of on) (depth_of off) left some a.within.short b.within.short;
    few = most (divisions_of on) (divisions_of off) 12 a.within.few b.within.few;
  };
})
  where
    below : (v x : ℤ) → v ≡ at -ℤ x → pos 0 ≤ℤ v → x ≤ℤ at
    below v x e h = omega (arith, ints)

    above : (v x : ℤ) → v ≡ at -ℤ x → v ≤ℤ negsuc 0 → (at +ℤ pos 1) ≤ℤ x
    above v x e h = omega (arith, ints)

    deeper : (a b left : ℕ) → 1 ≤ left → a ≤ left - 1 → b ≤ left - 1 → suc (max a b) ≤ left
    deeper a b left k h g = omega (arith, k, h, g)

    most : (a b k : ℕ) → a ≤ k → b ≤ k → max a b ≤ k
    most a b k h g = omega (arith, h, g)

-- ---- One number more

next_box : (point : List ℤ) (low high : ℤ) (rest : List (ℤ × ℤ)) → high ≡ low → map pin (point ++ low ∷ []) ++ rest ≡ part_box point low high rest
next_box point low high rest e =
    ap (λ rs. rs ++ rest) (map_append pin point (low ∷ [])) ∙ append_assoc (map pin point) (pin low ∷ []) rest ∙ ap (λ z. map pin point ++ ((low, z) ∷ rest)) (sym e)

pub one_number : (low high : ℤ) → low ≤ℤ high → (low <ℤ high → ⊥) → high ≡ low
one_number low high h n = elim (or_less low high) [ inl k ↦ equal h k | inr k ↦ absurd (n k) ]
  where
    equal : low ≤ℤ high → high ≤ℤ low → high ≡ low
    equal h k = omega (arith, ints)

pub next_covers : (nest : Nest) (e : Entry) (x : Access) (point whole : List ℤ) (low high : ℤ) (r : ℤ × ℤ) (more rest : List (ℤ × ℤ)) (left : ℕ) (tree : Tree) → high ≡ low → whole ≡ point ++ low ∷ [] → rest ≡ r ∷ more
    → Covers nest e x (part_box whole r.0 r.1 more) left tree → Covers nest e x (part_box point low high rest) left tree
next_covers nest e x point whole low high r more rest left tree e' w q a =
    subst (λ rs. Covers nest e x (part_box point low high rs) left tree) (sym q)
    (subst (λ rs. Covers nest e x rs left tree) (next_box point low high (r ∷ more) e') (subst (λ z. Covers nest e x (part_box z r.0 r.1 more) left tree) w a))

pub leaf_covers : (nest : Nest) (e : Entry) (x : Access) (point whole : List ℤ) (low high : ℤ) (rest : List (ℤ × ℤ)) (left : ℕ) (tree : Tree) → high ≡ low → whole ≡ point ++ low ∷ [] → length rest ≡ 0
    → Covers nest e x (map pin whole) 0 tree → Covers nest e x (part_box point low high rest) left tree
leaf_covers nest e x point whole low high [] left tree e' w q a = record {
  right = λ program p its is loads inside.
      a.right program p its is loads (subst (λ z. InBox (map pin z) (p ++ its)) (sym w) (subst (λ rs. InBox rs (p ++ its)) (sym (nothing_behind point low ∙ next_box point low high [] e')) inside));
  within = record {
    shaped = a.within.shaped;
    stores = a.within.stores;
    fits = a.within.fits;
    short = none (depth_of tree) left a.within.short;
    few = a.within.few;
  };
}
  where
    none : (d left : ℕ) → d ≤ 0 → d ≤ left
    none d left h = omega (arith, h)

    nothing : (rs : List (ℤ × ℤ)) → rs ≡ rs ++ []
    nothing [] = refl
    nothing (r ∷ rs) = ap (λ z. r ∷ z) (nothing rs)

    nothing_behind : (point : List ℤ) (low : ℤ) → map pin (point ++ low ∷ []) ≡ map pin (point ++ low ∷ []) ++ []
    nothing_behind point low = nothing (map pin (point ++ low ∷ []))
leaf_covers nest e x point whole low high (r ∷ rest) left tree e' w q a = absurd (omega (arith, q))

-- ---- Fuel

double : (e : ℕ) → 2 ^ suc e ≡ 2 * 2 ^ e
double e = simp unary_clauses (omega arith)

one_less : (n e g h : ℕ) (rs : List (ℤ × ℤ)) → 1 ≤ g → g < 2 ^ e → h + h ≤ g → e ≤ n → Fuel (n - e) rs
    → (1 ≤ n) × ((d : ℕ) × (h < 2 ^ d) × (d ≤ n - 1) × Fuel ((n - 1) - d) rs)
one_less n zero g h rs a b k l f = absurd (omega arith)
one_less n (suc e) g h rs a b k l f =
    let p = double e in
    let q : (n - suc e) ≡ ((n - 1) - e) = omega arith in
    let s : h < 2 ^ e = omega (arith, p) in
    (omega arith, (e, s, omega arith, subst (λ m. Fuel m rs) q f))

some_gap : (lo hi : ℤ) → lo <ℤ hi → 1 ≤ unsigned_abs (hi -ℤ lo)
some_gap lo hi h = omega (arith, ints, abs_is (hi -ℤ lo))

-- a half has one unit less
pub low_fuel : (n : ℕ) (lo hi at : ℤ) (rs : List (ℤ × ℤ)) → lo <ℤ hi → lo ≤ℤ at → ((at -ℤ lo) +ℤ (at -ℤ lo)) ≤ℤ (hi -ℤ lo) → Fuel n ((lo, hi) ∷ rs) → (1 ≤ n) × Fuel (n - 1) ((lo, at) ∷ rs)
low_fuel n lo hi at rs l a k f =
    let o = one_less n f.0 (unsigned_abs (hi -ℤ lo)) (unsigned_abs (at -ℤ lo)) rs (some_gap lo hi l) f.1 (half lo hi at l a k) f.2 f.3 in
    (o.0, (o.1.0, o.1.1, o.1.2, o.1.3))
  where
    half : (lo hi at : ℤ) → lo <ℤ hi → lo ≤ℤ at → ((at -ℤ lo) +ℤ (at -ℤ lo)) ≤ℤ (hi -ℤ lo) → unsigned_abs (at -ℤ lo) + unsigned_abs (at -ℤ lo) ≤ unsigned_abs (hi -ℤ lo)
    half lo hi at h g m = omega (arith, ints, abs_is (at -ℤ lo), abs_is (hi -ℤ lo))

pub high_fuel : (n : ℕ) (lo hi at : ℤ) (rs : List (ℤ × ℤ)) → lo <ℤ hi → at <ℤ hi → ((hi -ℤ at) +ℤ (hi -ℤ at)) ≤ℤ ((hi -ℤ lo) +ℤ pos 1) → Fuel n ((lo, hi) ∷ rs) → Fuel (n - 1) ((at +ℤ pos 1, hi) ∷ rs)
high_fuel n lo hi at rs l a k f =
    let o = one_less n f.0 (unsigned_abs (hi -ℤ lo)) (unsigned_abs (hi -ℤ (at +ℤ pos 1))) rs (some_gap lo hi l) f.1 (half lo hi at l a k) f.2 f.3 in
    (o.1.0, o.1.1, o.1.2, o.1.3)
  where
    half : (lo hi at : ℤ) → lo <ℤ hi → at <ℤ hi → ((hi -ℤ at) +ℤ (hi -ℤ at)) ≤ℤ ((hi -ℤ lo) +ℤ pos 1) → unsigned_abs (hi -ℤ (at +ℤ pos 1)) + unsigned_abs (hi -ℤ (at +ℤ pos 1)) ≤ unsigned_abs (hi -ℤ lo)
    half lo hi at h g m = omega (arith, ints, abs_is (hi -ℤ (at +ℤ pos 1)), abs_is (hi -ℤ lo))

more_fuel : (n k : ℕ) (rs : List (ℤ × ℤ)) → n ≤ k → Fuel n rs → Fuel k rs
more_fuel n k [] h f = tt
more_fuel n k (r ∷ rs) h f = (f.0, f.1, through f.0 n k h f.2, more_fuel (n - f.0) (k - f.0) rs (rest f.0 n k h) f.3)
  where
    through : (a n k : ℕ) → n ≤ k → a ≤ n → a ≤ k
    through a n k h g = omega (arith, h, g)

    rest : (a n k : ℕ) → n ≤ k → n - a ≤ k - a
    rest a n k h = omega (arith, h)

-- a column less
pub next_fuel : (n : ℕ) (r : ℤ × ℤ) (rs : List (ℤ × ℤ)) → Fuel n (r ∷ rs) → Fuel n rs
next_fuel n r rs f = more_fuel (n - f.0) n rs (fewer n f.0) f.3
  where
    fewer : (n e : ℕ) → n - e ≤ n
    fewer n e = omega arith
