-- The expression of a form, or of a number, is made of few kinds of expressions.
use Rattle.std.proofs.Common.{◌≡◌, ℕ, zero, suc, ◌+◌, ◌-◌, ◌^◌, ◌<◌, ◌≤◌, ℤ, pos, negsuc, true, false, not, ◌&&◌, unsigned_abs, List, [], ◌∷◌, ◌++◌, length, get_or, take, drop, refl, ap, ◌∙◌, arith}
use Rattle.std.specs.List.{All}
use Rattle.std.proofs.lemmas.Bool.{and_from, lt-ltb, le-ltb}
use Rattle.std.proofs.lemmas.Int.{ints}
use Rattle.affc_rows.specs.Forms.{Affine}
use Rattle.affc_ast.specs.declared.tree.Ix.{Ix}
use Rattle.affc_ast.specs.declared.tree.Ix.TheVariants.{Lit, Neg, Mul, Add, Sub}
use Rattle.affc_ast.proofs.Steps.{neg_here, add_here, sub_here, mul_here}
use Rattle.affc_domain.proofs.Lists.{le_true}
use Rattle.affc_loops.specs.Limits.{IsSlight}
use Rattle.affc_loops.specs.Trees.{name_at, number, times, Term, and_more, sum_of, terms_from, form_tree}
use Rattle.affc_cprint.specs.Forms.{form, form_step}
use Rattle.affc_wellnamed.specs.Known.{Known, ix_step, ix_known}
use Rattle.affc_wellnamed.specs.Plain.{is_plain}

-- the kinds of which these expressions are made, over so many names
pub record SumCases (P : Ix → Type 0) (names : ℕ) : Type 0 where
  pub lit : (n : ℕ) → n ≤ 2 ^ 62 → P (Lit (pos n))
  pub name : (x : ℕ) → x < names → P (name_at x)
  pub scaled : (n x : ℕ) → n ≤ 2 ^ 62 → x < names → P (Mul (Lit (pos n)) (name_at x))
  pub neg : (a : Ix) → P a → P (Neg a)
  pub add : (a b : Ix) → P a → P b → P (Add a b)
  pub sub : (a b : Ix) → P a → P b → P (Sub a b)

-- coefficients up to 2^62
abbrev pub AreNarrow : List ℤ → Type 0
AreNarrow cs = All (λ c. unsigned_abs c ≤ 2 ^ 62) cs

module _ (P : Ix → Type 0) (names : ℕ) (c : SumCases P names) where
  pub number_has : (z : ℤ) → unsigned_abs z ≤ 2 ^ 62 → P (number z)
  number_has (pos n) h = c.lit n (omega (arith, ints, h))
  number_has (negsuc n) h = c.neg (Lit (pos (suc n))) (c.lit (suc n) (omega (arith, ints, h)))

  times_has : (m x : ℕ) → suc m ≤ 2 ^ 62 → x < names → P (times m x)
  times_has zero x h k = c.name x k
  times_has (suc m) x h k = c.scaled (suc (suc m)) x h k

  abbrev AllSmall : List Term → Type 0
  AllSmall [] = Unit {0}
  AllSmall (t ∷ ts) = (unsigned_abs t.0 ≤ 2 ^ 62) × (t.1 < names) × AllSmall ts

  more_has : (ts : List Term) (e : Ix) (k : ℤ) → AllSmall ts → unsigned_abs k ≤ 2 ^ 62 → P e → P (and_more e ts k)
  more_has [] e (pos zero) h q p = p
  more_has [] e (pos (suc n)) h q p = c.add e (Lit (pos (suc n))) p (c.lit (suc n) (omega (arith, ints, q)))
  more_has [] e (negsuc n) h q p = c.sub e (Lit (pos (suc n))) p (c.lit (suc n) (omega (arith, ints, q)))
  more_has ((pos zero, x) ∷ ts) e k h q p = more_has ts e k h.2 q p
  more_has ((pos (suc m), x) ∷ ts) e k h q p = let s = h.0 in more_has ts (Add e (times m x)) k h.2 q (c.add e (times m x) p (times_has m x (omega (arith, ints, s)) h.1))
  more_has ((negsuc m, x) ∷ ts) e k h q p = let s = h.0 in more_has ts (Sub e (times m x)) k h.2 q (c.sub e (times m x) p (times_has m x (omega (arith, ints, s)) h.1))

  sum_has : (ts : List Term) (k : ℤ) → AllSmall ts → unsigned_abs k ≤ 2 ^ 62 → P (sum_of ts k)
  sum_has [] k h q = number_has k q
  sum_has ((pos zero, x) ∷ ts) k h q = sum_has ts k h.2 q
  sum_has ((pos (suc m), x) ∷ ts) k h q = let s = h.0 in more_has ts (times m x) k h.2 q (times_has m x (omega (arith, ints, s)) h.1)
  sum_has ((negsuc m, x) ∷ ts) k h q = let s = h.0 in more_has ts (Neg (times m x)) k h.2 q (c.neg (times m x) (times_has m x (omega (arith, ints, s)) h.1))

  all_small : (from : ℕ) (cs : List ℤ) → AreNarrow cs → from + length cs ≤ names → AllSmall (terms_from from cs)
  all_small from [] h l = tt
  all_small from (d ∷ cs) h l =
      let a : unsigned_abs d ≤ 2 ^ 62 = h 0 d (omega arith) in
      (omega (arith, a), omega (arith, l), all_small (suc from) cs (λ i y m. h (suc i) y (omega (arith, m))) (omega (arith, l)))

  late_small : (first from : ℕ) (cs : List ℤ) → AreNarrow cs → from + (length cs - first) ≤ names → AllSmall (terms_from from (drop first cs))
  late_small zero from cs h l = all_small from cs h (omega (arith, l))
  late_small (suc first) from [] h l = tt
  late_small (suc first) from (d ∷ cs) h l = late_small first from cs (λ i y m. h (suc i) y (omega (arith, m))) (omega (arith, l))

  early_small : (first from : ℕ) (cs : List ℤ) → AreNarrow cs → from + first ≤ names → AllSmall (terms_from from (take first cs))
  early_small zero from cs h l = tt
  early_small (suc first) from [] h l = tt
  early_small (suc first) from (d ∷ cs) h l =
      let a : unsigned_abs d ≤ 2 ^ 62 = h 0 d (omega arith) in
      (omega (arith, a), omega (arith, l), early_small first (suc from) cs (λ i y m. h (suc i) y (omega (arith, m))) (omega (arith, l)))

  both_small : (ts us : List Term) → AllSmall ts → AllSmall us → AllSmall (ts ++ us)
  both_small [] us h k = k
  both_small (t ∷ ts) us h k = (h.0, h.1, both_small ts us h.2 k)

  -- a form with coefficients and a constant up to 2^62
  pub narrow_has : (first from : ℕ) (f : Affine) → AreNarrow f.coefs → unsigned_abs f.constant ≤ 2 ^ 62 → first ≤ names → from + (length f.coefs - first) ≤ names → P (form_tree first from f)
  narrow_has first from f s k l m =
      sum_has (terms_from from (drop first f.coefs) ++ terms_from 0 (take first f.coefs)) f.constant
      (both_small (terms_from from (drop first f.coefs)) (terms_from 0 (take first f.coefs)) (late_small first from f.coefs s m) (early_small first 0 f.coefs s (omega (arith, l)))) k

  pub form_has : (first from : ℕ) (f : Affine) → IsSlight f → first ≤ names → from + (length f.coefs - first) ≤ names → P (form_tree first from f)
  form_has first from f s l m =
      let a = s.1 in
      narrow_has first from f (λ i y k. let w : unsigned_abs (get_or f.coefs i y) ≤ 256 = (s.0) i y k in omega (arith, w)) (omega (arith, a)) l m

-- ---- What is known of them

pub sums_known : (known : Known) → SumCases (λ e. ix_known known e ≡ true) known.numbers
sums_known known = record {
  lit = λ n h. literal_known n h;
  name = λ x h. lt-ltb x known.numbers h;
  scaled = λ n x h k. mul_here (ix_step known) (Lit (pos n)) (name_at x) ∙ and_from _ _ (literal_known n h) (lt-ltb x known.numbers k);
  neg = λ a p. neg_here (ix_step known) a ∙ p;
  add = λ a b p q. add_here (ix_step known) a b ∙ and_from _ _ p q;
  sub = λ a b p q. sub_here (ix_step known) a b ∙ and_from _ _ p q;
}
  where
    literal_known : (n : ℕ) → n ≤ 2 ^ 62 → ix_known known (Lit (pos n)) ≡ true
    literal_known n h = and_from _ _ (le_true (pos 0) (pos n) (omega (arith, ints))) (lt-ltb n (2 ^ 64) (omega (arith, h)))

-- and that they are plain
pub sums_plain : (names : ℕ) → SumCases (λ e. is_plain e ≡ true) names
sums_plain names = record {
  lit = λ n h. ap not (le-ltb (2 ^ 62) n h);
  name = λ x h. refl;
  scaled = λ n x h k. ap (λ f. f.affine && f.small) (mul_here form_step (Lit (pos n)) (name_at x)) ∙ and_from _ true (ap not (le-ltb (2 ^ 62) n h)) refl;
  neg = λ a p. ap (λ f. f.affine && f.small) (neg_here form_step a) ∙ p;
  add = λ a b p q. ap (λ f. f.affine && f.small) (add_here form_step a b) ∙ four (form a).affine (form a).small (form b).affine (form b).small p q;
  sub = λ a b p q. ap (λ f. f.affine && f.small) (sub_here form_step a b) ∙ four (form a).affine (form a).small (form b).affine (form b).small p q;
}
  where
    four : (a b c d : _) → a && b ≡ true → c && d ≡ true → (a && c) && (b && d) ≡ true
    four true b true d p q = and_from _ _ p q
    four true b false d p q = q
    four false b c d p q = p
