-- The greatest values of moduli over a context, where each is shown by its mark or a number.
use Rattle.std.proofs.Common.{◌≡◌, ℕ, zero, suc, ◌+◌, ◌*◌, ◌^◌, ◌<◌, ◌≤◌, ℤ, pos, ◌+ℤ◌, ◌*ℤ◌, ◌≤ℤ◌, ◌<ℤ◌, Bool, true, false, List, [], ◌∷◌, length, map, Option, Some, None, refl, sym, ap, subst, ◌∙◌, ◌⊎◌, inl, inr, arith, lit≤, true≢false}
use Rattle.std.specs.Prelude.{slice_get, unsigned_abs, option_map, ◌&&◌, get_or}
use Rattle.std.specs.List.{All, AllZip, list_all}
use Rattle.std.specs.Ordering.{int_eq}
use Rattle.std.proofs.Math.Nat.{mul-le-mul}
use Rattle.std.proofs.lemmas.Bool.Decides.{Decides-int_eq}
use Rattle.std.proofs.lemmas.Int.{ints, unsigned_abs-mul}
use Rattle.std.proofs.lemmas.Option.{none-some, same_Some, slice_get-map, slice_get_within, get_or_from_slice_get, slice_get-get_or}
use Rattle.std.proofs.lemmas.List.Elements.{All-nil, All-cons, All-head, All-tail, All-get_or, All-weaker}
use Rattle.affc_rows.specs.Forms.{Affine, dot, value}
use Rattle.affc_rows.proofs.IntLemmas.{abs-add}
use Rattle.affc_system.specs.Systems.{FitsRow}
use Rattle.affc_basis.specs.declared.fold.Fold.{Fold}
use Rattle.affc_basis.specs.declared.fold.Mark.{Mark}
use Rattle.affc_basis.specs.declared.fold.Mark.TheVariants.{Least, Bound}
use Rattle.affc_basis.specs.declared.fold.Modulus.{Modulus}
use Rattle.affc_basis.specs.Bases.{AreWithin}
use Rattle.affc_basis.specs.Moduli.{IsModulus}
use Rattle.affc_basis.specs.Folds.{forms_of, Obeys, KeepsLimits, IsNeed, IsEnough, IsLeastMark, IsTrueMark, IsTrueOf, IsGreatestValue, AreGreatestValues}
use Rattle.affc_basis.proofs.Marks.{least_mark_is_need, obeying_is_enough}
use Rattle.affc_weigh.specs.Choices.{AreNeeds, is_zero, known_by, is_known, marked_by, is_marked, are_known, value_by, top, HasPlace, HasTop, IsNearContext}
use Rattle.affc_weigh.specs.Costs.{AreModuli}

-- ---- Lists

pub at_number : {A : Type 0} (P : A → Type 0) (xs : List A) (k : ℕ) (x : A) → All P xs → slice_get xs k ≡ Some x → P x
at_number P xs k x h e = subst P (get_or_from_slice_get xs k x x e) (All-get_or P xs k x (slice_get_within xs k x e) h)

-- what holds by number holds of all
pub by_number : {A : Type 0} (P : A → Type 0) (xs : List A) → ((k : ℕ) (x : A) → slice_get xs k ≡ Some x → P x) → All P xs
by_number P [] h = All-nil P
by_number P (x ∷ xs) h = All-cons P x xs (h 0 x refl) (by_number P xs (λ k y e. h (suc k) y e))

pub mapped : {A B : Type 0} (f : A → B) (xs : List A) (k : ℕ) (x : A) → slice_get xs k ≡ Some x → slice_get (map f xs) k ≡ Some (f x)
mapped f xs k x e = slice_get-map f xs k ∙ ap (option_map f) e

pub from_mapped : {A B : Type 0} (f : A → B) (xs : List A) (k : ℕ) (y : B) → slice_get (map f xs) k ≡ Some y → (x : A) × (slice_get xs k ≡ Some x) × (y ≡ f x)
from_mapped f [] k y e = absurd (none-some y e)
from_mapped f (x ∷ xs) zero y e = (x, refl, sym (same_Some (f x) y e))
from_mapped f (x ∷ xs) (suc k) y e = from_mapped f xs k y e

pub as_many : {A B : Type 0} (f : A → B) (xs : List A) → length (map f xs) ≡ length xs
as_many f [] = refl
as_many f (x ∷ xs) = ap suc (as_many f xs)

-- where another list is as long, there is an element beside
pub beside : {A B : Type 0} (xs : List A) (ys : List B) (k : ℕ) (x : A) → length ys ≡ length xs → slice_get xs k ≡ Some x → (y : B) × (slice_get ys k ≡ Some y)
beside [] ys k x e at = absurd (none-some x at)
beside (a ∷ xs) [] k x e at = absurd (omega (arith, e))
beside (a ∷ xs) (b ∷ ys) zero x e at = (b, refl)
beside (a ∷ xs) (b ∷ ys) (suc k) x e at = beside xs ys k x (less (length ys) (length xs) e) at
  where
    less : (m n : ℕ) → suc m ≡ suc n → m ≡ n
    less m n e = omega (arith, e)

pub all_true : {A : Type 0} (test : A → Bool) (xs : List A) (k : ℕ) (x : A) → list_all test xs ≡ true → slice_get xs k ≡ Some x → test x ≡ true
all_true test [] k x h e = absurd (none-some x e)
all_true test (y ∷ ys) k x h e = by_test (test y) refl k h e (λ i g at. all_true test ys i x g at)
  where
    by_test : (b : Bool) → test y ≡ b → (k : ℕ) → (b && list_all test ys) ≡ true → slice_get (y ∷ ys) k ≡ Some x → ((i : ℕ) → list_all test ys ≡ true → slice_get ys i ≡ Some x → test x ≡ true) → test x ≡ true
    by_test true t zero h e more = ap test (sym (same_Some y x e)) ∙ t
    by_test true t (suc k) h e more = more k h e
    by_test false t k h e more = absurd (true≢false (sym h))

-- one of them isn't
pub one_false : {A : Type 0} (test : A → Bool) (xs : List A) → list_all test xs ≡ false → (k : ℕ) × (x : A) × (slice_get xs k ≡ Some x) × (test x ≡ false)
one_false test [] h = absurd (true≢false h)
one_false {A} test (y ∷ ys) h = by_test (test y) refl h (λ g. one_false test ys g)
  where
    by_test : (b : Bool) → test y ≡ b → (b && list_all test ys) ≡ false → (list_all test ys ≡ false → (k : ℕ) × (x : A) × (slice_get ys k ≡ Some x) × (test x ≡ false))
        → (k : ℕ) × (x : A) × (slice_get (y ∷ ys) k ≡ Some x) × (test x ≡ false)
    by_test true t h more = let r = more h in (suc r.0, r.1, r.2, r.3)
    by_test false t h more = (0, y, refl, t)

-- ---- Values

product_near : (c x : ℤ) → unsigned_abs c ≤ 2 ^ 30 → unsigned_abs x ≤ 2 ^ 24 → unsigned_abs (c *ℤ x) ≤ 2 ^ 54
product_near c x h k =
    let m : unsigned_abs c * unsigned_abs x ≤ 2 ^ 30 * 2 ^ 24 = mul-le-mul h k in
    omega (arith, unsigned_abs-mul c x, m)

sum_near : (a b : ℤ) (n : ℕ) → unsigned_abs a ≤ 2 ^ 54 → unsigned_abs b ≤ n * 2 ^ 54 → unsigned_abs (a +ℤ b) ≤ suc n * 2 ^ 54
sum_near a b n h k = omega (arith, abs-add a b)

dot_near : (cs xs : List ℤ) → AreWithin (2 ^ 30) cs → All (λ x. unsigned_abs x ≤ 2 ^ 24) xs → unsigned_abs (dot cs xs) ≤ length cs * 2 ^ 54
dot_near [] xs h k = omega arith
dot_near (c ∷ cs) [] h k = omega arith
dot_near (c ∷ cs) (x ∷ xs) h k =
    sum_near (c *ℤ x) (dot cs xs) (length cs) (product_near c x (All-head (λ y. unsigned_abs y ≤ 2 ^ 30) c cs h) (All-head (λ y. unsigned_abs y ≤ 2 ^ 24) x xs k))
    (dot_near cs xs (All-tail (λ y. unsigned_abs y ≤ 2 ^ 30) c cs h) (All-tail (λ y. unsigned_abs y ≤ 2 ^ 24) x xs k))

pub value_near : (b : Affine) (p : List ℤ) (parameters : ℕ) → parameters ≤ 4 → IsModulus parameters b → All (λ x. unsigned_abs x ≤ 2 ^ 24) p → unsigned_abs (value b p) ≤ 2 ^ 60
value_near b p parameters few m near = total (dot b.coefs p) b.constant parameters few (subst (λ n. unsigned_abs (dot b.coefs p) ≤ n * 2 ^ 54) m.width (dot_near b.coefs p m.coefs_fit near)) m.constant_fits
  where
    total : (a c : ℤ) (n : ℕ) → n ≤ 4 → unsigned_abs a ≤ n * 2 ^ 54 → unsigned_abs c ≤ 2 ^ 55 → unsigned_abs (a +ℤ c) ≤ 2 ^ 60
    total a c n few h k = omega (arith, abs-add a c)

dot_zero : (cs xs : List ℤ) → list_all is_zero cs ≡ true → dot cs xs ≡ pos 0
dot_zero [] xs h = refl
dot_zero (c ∷ cs) [] h = refl
dot_zero (c ∷ cs) (x ∷ xs) h =
    nothing c x (dot cs xs) ((Decides-int_eq c (pos 0)).0 (all_true is_zero (c ∷ cs) 0 c h refl)) (dot_zero cs xs (rest (is_zero c) h))
  where
    rest : (b : Bool) → (b && list_all is_zero cs) ≡ true → list_all is_zero cs ≡ true
    rest true h = h
    rest false h = absurd (true≢false (sym h))

    nothing : (c x d : ℤ) → c ≡ pos 0 → d ≡ pos 0 → (c *ℤ x) +ℤ d ≡ pos 0
    nothing c x d e f = rw (e, f) (none x)
      where
        none : (x : ℤ) → (pos 0 *ℤ x) +ℤ pos 0 ≡ pos 0
        none x = omega (arith, ints)

wider : (f : Affine) (parameters : ℕ) → IsModulus parameters f → FitsRow f
wider f parameters m = record {
  coefs_fit = All-weaker (λ c. unsigned_abs c ≤ 2 ^ 30) (λ c. unsigned_abs c ≤ 2 ^ 40) (λ c h. more c h) f.coefs m.coefs_fit;
  constant_fits = most f.constant m.constant_fits;
}
  where
    more : (c : ℤ) → unsigned_abs c ≤ 2 ^ 30 → unsigned_abs c ≤ 2 ^ 40
    more c h = omega (arith, h)

    most : (c : ℤ) → unsigned_abs c ≤ 2 ^ 55 → unsigned_abs c ≤ 2 ^ 60
    most c h = omega (arith, h)

-- ---- The moduli of a fold

module _ (InContext : List ℤ → Type 0) (pairs : List ℤ → List ℤ → List ℤ → Type 0) (parameters : ℕ) (context : IsNearContext InContext parameters) (some : (p : List ℤ) × InContext p) (fold : Fold) (limits : KeepsLimits parameters fold)
    (obeys : (p : List ℤ) → InContext p → Obeys (pairs p) fold p)
    (marks : (k : ℕ) (row : Affine) (m : Modulus) → slice_get fold.basis.rows k ≡ Some row → slice_get fold.moduli k ≡ Some m → IsTrueMark InContext pairs fold.basis.rows k row m) where
  form_at : (k : ℕ) (m : Modulus) → slice_get fold.moduli k ≡ Some m → slice_get (forms_of fold.moduli) k ≡ Some m.form
  form_at k m at = mapped (λ (m : Modulus). m.form) fold.moduli k m at

  limit_at : (k : ℕ) (m : Modulus) → slice_get fold.moduli k ≡ Some m → IsModulus parameters m.form
  limit_at k m at = at_number (IsModulus parameters) (forms_of fold.moduli) k m.form limits (form_at k m at)

  row_at : (k : ℕ) (m : Modulus) → slice_get fold.moduli k ≡ Some m → (row : Affine) × (slice_get fold.basis.rows k ≡ Some row)
  row_at k m at = beside fold.moduli fold.basis.rows k m (sym fold.one_each) at

  -- ---- They can be computed

  near_at : (f : Affine) (p : List ℤ) → IsModulus parameters f → InContext p → unsigned_abs (value f p) ≤ 2 ^ 60
  near_at f p m here = value_near f p parameters context.few m (context.near p here)

  place_at : (k : ℕ) (row : Affine) (f : Affine) (mark : Mark) → IsModulus parameters f → IsTrueOf InContext pairs fold.basis.rows k row f mark → HasPlace f mark × (unsigned_abs (value_by f mark) ≤ 2 ^ 60)
  place_at k row f (Least p pair) m h = ((m.width ∙ sym (context.wide p h.in_context), few (length p) parameters (context.wide p h.in_context) context.few), near_at f p m h.in_context)
    where
      few : (n m : ℕ) → n ≡ m → m ≤ 4 → n ≤ 128
      few n m e h = omega (arith, e, h)
  place_at k row f Bound m h = (tt, most f.constant m.constant_fits)
    where
      most : (c : ℤ) → unsigned_abs c ≤ 2 ^ 55 → unsigned_abs c ≤ 2 ^ 60
      most c h = omega (arith, h)

  pub have_tops : All HasTop fold.moduli
  have_tops = by_number HasTop fold.moduli (λ k m at.
      let r = row_at k m at in
      let q = place_at k r.0 m.form m.mark (limit_at k m at) (marks k r.0 m r.1 at) in
      record { fits = wider m.form parameters (limit_at k m at); place = q.0; near = q.1 })

  -- ---- What they are

  enough_at : (k : ℕ) (row : Affine) (m : Modulus) → slice_get fold.basis.rows k ≡ Some row → slice_get fold.moduli k ≡ Some m → IsEnough InContext pairs fold.basis.rows k row m.form
  enough_at k row m at at_m = obeying_is_enough InContext pairs fold k row m.form at (form_at k m at_m) obeys

  greatest_by : (k : ℕ) (row : Affine) (f : Affine) (mark : Mark) → IsEnough InContext pairs fold.basis.rows k row f → IsTrueOf InContext pairs fold.basis.rows k row f mark → known_by f mark ≡ true
      → IsGreatestValue InContext f (unsigned_abs (value_by f mark)) × (1 ≤ unsigned_abs (value_by f mark))
  greatest_by k row f (Least p pair) enough h known =
      let n = least_mark_is_need InContext pairs fold.basis.rows k row f p pair enough h in
      let same : unsigned_abs (value f p) ≡ n.0 = ap unsigned_abs n.1 in
      (subst (IsGreatestValue InContext f) (sym same) n.2, subst (λ m. 1 ≤ m) (sym same) n.3.positive)
  greatest_by k row f Bound enough h known =
      let is : (p : List ℤ) → value f p ≡ f.constant = λ p. flat (dot f.coefs p) f.constant (dot_zero f.coefs p known) in
      let here = some in
      let one : pos 1 ≤ℤ f.constant = subst (λ v. pos 1 ≤ℤ v) (is here.0) (enough here.0 here.1).0 in
      (record { most = λ p inside. subst (λ v. v ≤ℤ pos (unsigned_abs f.constant)) (sym (is p)) (itself f.constant); attained = (here.0, here.1, is here.0 ∙ positive f.constant one) }, least f.constant one)
    where
      flat : (d c : ℤ) → d ≡ pos 0 → d +ℤ c ≡ c
      flat d c e = omega (arith, ints)

      itself : (c : ℤ) → c ≤ℤ pos (unsigned_abs c)
      itself c = omega (arith, ints)

      positive : (c : ℤ) → pos 1 ≤ℤ c → c ≡ pos (unsigned_abs c)
      positive c h = omega (arith, ints)

      least : (c : ℤ) → pos 1 ≤ℤ c → 1 ≤ unsigned_abs c
      least c h = omega (arith, ints)

  module _ (known : list_all is_known fold.moduli ≡ true) where
    greatest_at : (k : ℕ) (m : Modulus) → slice_get fold.moduli k ≡ Some m → IsGreatestValue InContext m.form (top m) × (1 ≤ top m)
    greatest_at k m at =
        let r = row_at k m at in
        greatest_by k r.0 m.form m.mark (enough_at k r.0 m r.1 at) (marks k r.0 m r.1 at) (all_true is_known fold.moduli k m known at)

    pub greatest_values : AreGreatestValues InContext (forms_of fold.moduli) (map top fold.moduli)
    greatest_values = values fold.moduli (λ k m at. (greatest_at k m at).0)
      where
        values : (ms : List Modulus) → ((k : ℕ) (m : Modulus) → slice_get ms k ≡ Some m → IsGreatestValue InContext m.form (top m)) → AreGreatestValues InContext (forms_of ms) (map top ms)
        values [] h = tt
        values (m ∷ ms) h = (h 0 m refl, values ms (λ k n at. h (suc k) n at))

    pub are_moduli : AreModuli (map top fold.moduli)
    are_moduli = record {
      few = count (length (map top fold.moduli)) (length fold.moduli) (length fold.basis.rows) (as_many top fold.moduli) fold.one_each fold.basis.square.few;
      within = by_number (λ m. (1 ≤ m) × (m ≤ 2 ^ 60)) (map top fold.moduli) (λ k n at.
          let r = from_mapped top fold.moduli k n at in
          subst (λ n. (1 ≤ n) × (n ≤ 2 ^ 60)) (sym r.2) ((greatest_at k r.0 r.1).1, (at_number HasTop fold.moduli k r.0 have_tops r.1).near));
    }
      where
        count : (a b c : ℕ) → a ≡ b → b ≡ c → c ≤ 4 → a ≤ 4
        count a b c e f h = omega (arith, e, f, h)

  need_by : (k : ℕ) (row : Affine) (f : Affine) (mark : Mark) → IsEnough InContext pairs fold.basis.rows k row f → IsTrueOf InContext pairs fold.basis.rows k row f mark → marked_by mark ≡ true
      → IsNeed InContext pairs fold.basis.rows k row (unsigned_abs (value_by f mark))
  need_by k row f (Least p pair) enough h marked =
      let n = least_mark_is_need InContext pairs fold.basis.rows k row f p pair enough h in
      subst (IsNeed InContext pairs fold.basis.rows k row) (sym (ap unsigned_abs n.1)) n.3
  need_by k row f Bound enough h marked = absurd (true≢false (sym marked))

  -- where each is marked, they are what the rows need
  pub needs : list_all is_marked fold.moduli ≡ true → AreNeeds InContext pairs fold.basis.rows (map top fold.moduli)
  needs marked = record {
    one_each = as_many top fold.moduli ∙ fold.one_each;
    each = λ k row n at at_n.
        let r = from_mapped top fold.moduli k n at_n in
        subst (IsNeed InContext pairs fold.basis.rows k row) (sym r.2) (need_by k row r.0.form r.0.mark (enough_at k row r.0 at r.1) (marks k row r.0 at r.1) (all_true is_marked fold.moduli k r.0 marked r.1));
  }

-- one that isn't marked is a bound alone
bound_by : (f : Affine) (mark : Mark) → marked_by mark ≡ false → mark ≡ Bound
bound_by f (Least p pair) h = absurd (true≢false h)
bound_by f Bound h = refl

pub unmarked : (ms : List Modulus) → list_all is_marked ms ≡ false → (k : ℕ) × (m : Modulus) × (slice_get ms k ≡ Some m) × (m.mark ≡ Bound)
unmarked ms h = let r = one_false is_marked ms h in (r.0, r.1, r.2, bound_by r.1.form r.1.mark r.3)

-- and so is one whose greatest value isn't known
pub unknown : (ms : List Modulus) → are_known ms ≡ false → (k : ℕ) × (m : Modulus) × (slice_get ms k ≡ Some m) × (m.mark ≡ Bound)
unknown ms h = let r = one_false is_known ms h in (r.0, r.1, r.2, bare r.1.form r.1.mark r.3)
  where
    bare : (f : Affine) (mark : Mark) → known_by f mark ≡ false → mark ≡ Bound
    bare f (Least p pair) h = absurd (true≢false h)
    bare f Bound h = refl
