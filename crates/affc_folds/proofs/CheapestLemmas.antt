-- The chosen basis costs least.
use Rattle.std.proofs.Common.{◌≡◌, ℕ, zero, suc, ◌^◌, ◌≤◌, ℤ, pos, ◌≤ℤ◌, Bool, true, false, List, [], ◌∷◌, length, Option, Some, None, refl, sym, ap, subst, ◌∙◌, arith, true≢false}
use Rattle.std.specs.Prelude.{nat_eq, slice_get, unsigned_abs}
use Rattle.std.proofs.lemmas.Bool.{eqb-true, eq-eqb}
use Rattle.std.proofs.lemmas.Int.{ints}
use Rattle.std.proofs.lemmas.Option.{none-some}
use Rattle.affc_rows.specs.Forms.{Affine, value}
use Rattle.affc_trace.specs.Laws.{IsInContext}
use Rattle.affc_trace.specs.Target.{numbers_in}
use Rattle.affc_basis.specs.declared.fold.Fold.{Fold}
use Rattle.affc_basis.specs.declared.fold.Modulus.{Modulus}
use Rattle.affc_basis.specs.Folds.{forms_of, KeepsLimits, Obeys, IsEnough, IsGreatestValue, AreGreatestValues}
use Rattle.affc_basis.specs.Listed.{shape_of, listing}
use Rattle.affc_basis.specs.Moduli.{IsModulus}
use Rattle.affc_basis.proofs.Marks.{need_is_least, obeying_is_enough}
use Rattle.affc_weigh.specs.declared.choice.Price.{Price}
use Rattle.affc_weigh.specs.Choices.{AreNeeds, IsNearContext}
use Rattle.affc_weigh.specs.Costs.{AreModuli, AreAtMost, NeverFalls}
use Rattle.affc_weigh.proofs.Tops.{at_number, by_number, beside, mapped, from_mapped, as_many, value_near}
use Rattle.affc_folds.specs.Folding.{IsTaken, IsCheapest}
use Rattle.affc_folds.specs.Laws.{NoneCostsLess}
use Rattle.affc_life.proofs.ContextLemmas.{near_context}

-- ---- Greatest values by number

module _ (InContext : List ℤ → Type 0) where
  one_each : (bs : List Affine) (ns : List ℕ) → AreGreatestValues InContext bs ns → length ns ≡ length bs
  one_each [] [] h = refl
  one_each [] (n ∷ ns) h = absurd h
  one_each (b ∷ bs) [] h = absurd h
  one_each (b ∷ bs) (n ∷ ns) h = ap suc (one_each bs ns h.1)

  greatest_of : (bs : List Affine) (ns : List ℕ) (k : ℕ) (n : ℕ) → AreGreatestValues InContext bs ns → slice_get ns k ≡ Some n → (b : Affine) × (slice_get bs k ≡ Some b) × IsGreatestValue InContext b n
  greatest_of [] [] k n h e = absurd (none-some n e)
  greatest_of [] (m ∷ ns) k n h e = absurd h
  greatest_of (b ∷ bs) [] k n h e = absurd h
  greatest_of (b ∷ bs) (m ∷ ns) zero n h e = (b, refl, subst (IsGreatestValue InContext b) (same m n e) h.0)
    where
      same : (m n : ℕ) → Some m ≡ Some n → m ≡ n
      same m n e = cc
  greatest_of (b ∷ bs) (m ∷ ns) (suc k) n h e = greatest_of bs ns k n h.1 e

zipped : (ms ns : List ℕ) → length ms ≡ length ns → ((k m n : ℕ) → slice_get ms k ≡ Some m → slice_get ns k ≡ Some n → m ≤ n) → AreAtMost ms ns
zipped [] [] e h = tt
zipped [] (n ∷ ns) e h = absurd (omega (arith, e))
zipped (m ∷ ms) [] e h = absurd (omega (arith, e))
zipped (m ∷ ms) (n ∷ ns) e h = (h 0 m n refl refl, zipped ms ns (less (length ms) (length ns) e) (λ k i j at at_n. h (suc k) i j at at_n))
  where
    less : (a b : ℕ) → suc a ≡ suc b → a ≡ b
    less a b e = omega (arith, e)

-- ---- Another fold that is large enough

module _ (InContext : List ℤ → Type 0) (pairs : List ℤ → List ℤ → List ℤ → Type 0) (parameters : ℕ) (context : IsNearContext InContext parameters) (other : Fold) (limits : KeepsLimits parameters other)
    (obeys : (p : List ℤ) → InContext p → Obeys (pairs p) other p) (great : List ℕ) (are : AreGreatestValues InContext (forms_of other.moduli) great) where
  -- a greatest value with its modulus and its row
  pub record HasModulus (k n : ℕ) : Type 0 where
    pub modulus : Modulus
    pub there : slice_get other.moduli k ≡ Some modulus
    pub greatest : IsGreatestValue InContext modulus.form n
    pub row : Affine
    pub row_there : slice_get other.basis.rows k ≡ Some row
    pub enough : IsEnough InContext pairs other.basis.rows k row modulus.form

  has_modulus : (k n : ℕ) → slice_get great k ≡ Some n → HasModulus k n
  has_modulus k n at =
      let g = greatest_of InContext (forms_of other.moduli) great k n are at in
      let m = from_mapped (λ (m : Modulus). m.form) other.moduli k g.0 g.1 in
      let r = beside other.moduli other.basis.rows k m.0 (sym other.one_each) m.1 in
      let form_there : slice_get (forms_of other.moduli) k ≡ Some m.0.form = subst (λ b. slice_get (forms_of other.moduli) k ≡ Some b) m.2 g.1 in
      record {
        modulus = m.0;
        there = m.1;
        greatest = subst (λ b. IsGreatestValue InContext b n) m.2 g.2;
        row = r.0;
        row_there = r.1;
        enough = obeying_is_enough InContext pairs other k r.0 m.0.form r.1 form_there obeys;
      }

  sized : (v : ℤ) (n : ℕ) → v ≡ pos n → pos 1 ≤ℤ v → unsigned_abs v ≤ 2 ^ 60 → (1 ≤ n) × (n ≤ 2 ^ 60)
  sized v n e h g = (low v n e h, high v n e g)
    where
      low : (v : ℤ) (n : ℕ) → v ≡ pos n → pos 1 ≤ℤ v → 1 ≤ n
      low v n e h = omega (arith, ints)

      high : (v : ℤ) (n : ℕ) → v ≡ pos n → unsigned_abs v ≤ 2 ^ 60 → n ≤ 2 ^ 60
      high v n e h = omega (arith, ints)

  great_sized : (k n : ℕ) → slice_get great k ≡ Some n → (1 ≤ n) × (n ≤ 2 ^ 60)
  great_sized k n at =
      let m = has_modulus k n at in
      let p = m.greatest.attained in
      sized (value m.modulus.form p.0) n p.2 (m.enough p.0 p.1).0
      (value_near m.modulus.form p.0 parameters context.few (at_number (IsModulus parameters) (forms_of other.moduli) k m.modulus.form limits (mapped (λ (m : Modulus). m.form) other.moduli k m.modulus m.there)) (context.near p.0 p.1))

  great_many : length great ≡ length other.basis.rows
  great_many = one_each InContext (forms_of other.moduli) great are ∙ as_many (λ (m : Modulus). m.form) other.moduli ∙ other.one_each

  few : (a b : ℕ) → a ≡ b → b ≤ 4 → a ≤ 4
  few a b e h = omega (arith, e, h)

  great_moduli : AreModuli great
  great_moduli = record { few = few (length great) (length other.basis.rows) great_many other.basis.square.few; within = by_number (λ m. (1 ≤ m) × (m ≤ 2 ^ 60)) great great_sized }

  module _ (needs : List ℕ) (n : AreNeeds InContext pairs other.basis.rows needs) where
    many : length needs ≡ length great
    many = n.one_each ∙ sym great_many

    need_at_most : (k i j : ℕ) → slice_get needs k ≡ Some i → slice_get great k ≡ Some j → i ≤ j
    need_at_most k i j at at_j =
        let m = has_modulus k j at_j in
        need_is_least InContext pairs other.basis.rows k m.row m.modulus.form i j (n.each k m.row i m.row_there at) m.enough m.greatest

    pub at_most : AreAtMost needs great
    at_most = zipped needs great many need_at_most

    need_sized : (k i : ℕ) → slice_get needs k ≡ Some i → (1 ≤ i) × (i ≤ 2 ^ 60)
    need_sized k i at =
        let g = beside needs great k i (sym many) at in
        let m = has_modulus k g.0 g.1 in
        ((n.each k m.row i m.row_there at).positive, through i g.0 (need_at_most k i g.0 at g.1) (great_sized k g.0 g.1).1)
      where
        through : (a b : ℕ) → a ≤ b → b ≤ 2 ^ 60 → a ≤ 2 ^ 60
        through a b h g = omega (arith, h, g)

    pub need_moduli : AreModuli needs
    need_moduli = record { few = few (length needs) (length other.basis.rows) n.one_each other.basis.square.few; within = by_number (λ m. (1 ≤ m) × (m ≤ 2 ^ 60)) needs need_sized }

    pub costs_no_less : (Answers : List ℕ → ℕ → Type 0) → NeverFalls Answers → (less more : ℕ) → Answers needs less → Answers great more → less ≤ more
    costs_no_less Answers never less more a b = never needs great less more need_moduli great_moduli at_most a b

-- ---- The law

pub none_costs_less : (Answers : List ℕ → ℕ → Type 0) (pairs : ℕ → List ℤ → List ℤ → List ℤ → Type 0) → NoneCostsLess Answers pairs
none_costs_less Answers pairs program bases budget array fold choice plain never is none settled other more like costs =
    by_price (its_price.0) its_price.1
  where
    dimensions : ℕ
    dimensions = length fold.basis.rows

    cheapest : IsCheapest Answers program pairs budget array fold choice
    cheapest = subst (λ o. IsTaken o Answers program pairs budget array fold choice) none is.taken

    its_price : (price : Option Price) × (slice_get choice.prices like.number ≡ Some price)
    its_price = beside (listing dimensions) choice.prices like.number (shape_of other.basis) cheapest.prices.one_each like.listed

    missing : slice_get choice.prices like.number ≡ Some None → ⊥
    missing at = by_test (nat_eq like.number choice.number) refl
      where
        by_test : (b : Bool) → nat_eq like.number choice.number ≡ b → ⊥
        by_test true e = settled.marked (cheapest.lowest.own (subst (λ j. slice_get choice.prices j ≡ Some None) (eqb-true like.number choice.number e) at))
        by_test false e = settled.rivals like.number (λ same. true≢false (sym (eq-eqb like.number choice.number same) ∙ e)) at

    by_price : (price : Option Price) → slice_get choice.prices like.number ≡ Some price → choice.cost ≤ more
    by_price None at = absurd (missing at)
    by_price (Some price) at =
        let needs = cheapest.prices.each like.number (shape_of other.basis) (Some price) like.listed at in
        let no_less = costs_no_less (IsInContext program) (pairs array) (numbers_in program.params) (near_context program plain) other like.limits like.obeys costs.values costs.are_greatest
        price.values needs.0 Answers never price.cost more needs.1 costs.answered in
        through choice.cost price.cost more (cheapest.lowest.least like.number price at) no_less
      where
        through : (a b c : ℕ) → a ≤ b → b ≤ c → a ≤ c
        through a b c h g = omega (arith, h, g)
