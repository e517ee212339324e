-- Forms and bases that are the same.
use Rattle.std.proofs.Common.{◌≡◌, ◌≤◌, ℕ, zero, suc, ◌+◌, ◌<◌, Bool, true, false, true≢false, List, [], ◌∷◌, length, map, Option, Some, None, refl, sym, ap, ap₂, subst, ◌∙◌, inl, inr, arith}
use Rattle.std.specs.Prelude.{slice_get, ◌||◌, ◌↔◌, IsTrue, IfOk, Result, Ok, Err}
use Rattle.std.specs.Bool.{Decides}
use Rattle.std.specs.Cmp.Lexicographic.{pointwise}
use Rattle.std.specs.Ordering.{int_eq}
use Rattle.std.proofs.lemmas.Bool.{and_parts, and_from, or_cases, cases_lt}
use Rattle.std.proofs.lemmas.Bool.Decides.{Decides-int_eq}
use Rattle.std.proofs.lemmas.Option.{same_Some, none-some}
use Rattle.std.proofs.lemmas.Slice.Eq.{slice_eq-Decides}
use Rattle.affc_rows.specs.Forms.{Affine}
use Rattle.affc_ast.specs.declared.tree.ArrayId.{ArrayId}
use Rattle.affc_basis.specs.declared.basis.Basis.{Basis}
use Rattle.affc_basis.specs.Listed.{Shape, shape_of, listing}
use Rattle.affc_domain.proofs.Lists.{place_of}
use Rattle.affc_nest.specs.declared.nest.ArrayInfo.{ArrayInfo}
use Rattle.affc_nest.specs.declared.nest.Nest.{Nest}
use Rattle.affc_life.specs.Folding.{given_for}
use Rattle.affc_certvalue.specs.declared.fold.fold.CertFold.{CertFold}
use Rattle.affc_certvalue.specs.declared.fold.fold.CertModulus.{CertModulus}
use Rattle.affc_check.specs.list.Limits.{IsFirst}
use Rattle.affc_accept.specs.Bases.{identity, IsWhole, HasBasis, KeepsBasis, KeepBases, HasOther}
use Rattle.affc_accept.specs.Same.{same_form, same_forms, same_shape, are_extents, is_identity, is_whole_of, is_whole, has_basis, keeps_basis}

-- ---- Forms

pub form_decides : (f g : Affine) → Decides (same_form f g) (f ≡ g)
form_decides f g =
    let coefs = slice_eq-Decides Decides-int_eq f.coefs g.coefs (pointwise int_eq f.coefs g.coefs) refl in
    let constant = Decides-int_eq f.constant g.constant in (
      λ t. let b = and_parts (int_eq f.constant g.constant) (pointwise int_eq f.coefs g.coefs) t in ap₂ (λ cs k. record { coefs = cs; constant = k }) (coefs.0 b.1) (constant.0 b.0),
      λ e. and_from (int_eq f.constant g.constant) (pointwise int_eq f.coefs g.coefs) (constant.1 (ap (λ (x : Affine). x.constant) e)) (coefs.1 (ap (λ (x : Affine). x.coefs) e)),
    )

forms_decides : (fs gs : List Affine) → Decides (same_forms fs gs) (fs ≡ gs)
forms_decides fs gs = slice_eq-Decides form_decides fs gs (same_forms fs gs) refl

pub shape_decides : (a b : Shape) → Decides (same_shape a b) (a ≡ b)
shape_decides a b =
    let rows = forms_decides a.rows b.rows in
    let inverse = forms_decides a.inverse b.inverse in (
      λ t. let s = and_parts (same_forms a.rows b.rows) (same_forms a.inverse b.inverse) t in ap₂ (λ x y. record { rows = x; inverse = y }) (rows.0 s.0) (inverse.0 s.1),
      λ e. and_from (same_forms a.rows b.rows) (same_forms a.inverse b.inverse) (rows.1 (ap (λ (s : Shape). s.rows) e)) (inverse.1 (ap (λ (s : Shape). s.inverse) e)),
    )

-- the unit rows
pub unit_decides : (s : Shape) → Decides (is_identity s) (s ≡ identity (length s.rows))
unit_decides s = shape_decides s (identity (length s.rows))

-- whether two bases are the same, and whether one has the unit rows, as they are told
pub same_is : (a b : Basis) (r : Bool) → r ≡ same_shape (shape_of a) (shape_of b) → (IsTrue r → shape_of a ≡ shape_of b) × (shape_of a ≡ shape_of b → IsTrue r)
same_is a b r e = subst (λ t. (IsTrue t → shape_of a ≡ shape_of b) × (shape_of a ≡ shape_of b → IsTrue t)) (sym e) (shape_decides (shape_of a) (shape_of b))

unit_is : (b : Basis) (r : Bool) → r ≡ is_identity (shape_of b) → (IsTrue r → shape_of b ≡ identity (length b.rows)) × (shape_of b ≡ identity (length b.rows) → IsTrue r)
unit_is b r e = subst (λ t. (IsTrue t → shape_of b ≡ identity (length b.rows)) × (shape_of b ≡ identity (length b.rows) → IsTrue t)) (sym e) (unit_decides (shape_of b))

pub unit_told : {E : Type 0} (b : Basis) (r : Result Bool E) → IfOk r (λ is. is ≡ is_identity (shape_of b)) → IfOk r (λ is. IsTrue is ↔ (shape_of b ≡ identity (length b.rows)))
unit_told b (Ok is) e = unit_is b is e
unit_told b (Err x) e = e

-- ---- The identity is listed first

pub listed_first : (n : ℕ) (bs : List Basis) (b : Basis) → n ≤ 4 → map shape_of bs ≡ listing n → slice_get bs 0 ≡ Some b → shape_of b ≡ identity n
listed_first n [] b l e at = absurd (none-some b at)
listed_first n (x ∷ bs) b l e at = ap shape_of (sym (same_Some x b at)) ∙ by n l e
  where
    by : (n : ℕ) → n ≤ 4 → shape_of x ∷ map shape_of bs ≡ listing n → shape_of x ≡ identity n
    by zero l e = cc
    by (suc zero) l e = cc
    by (suc (suc zero)) l e = cc
    by (suc (suc (suc zero))) l e = cc
    by (suc (suc (suc (suc zero)))) l e = cc
    by (suc (suc (suc (suc (suc n))))) l e = absurd (omega (arith, l))

pub some_listed : (n : ℕ) (bs : List Basis) → n ≤ 4 → map shape_of bs ≡ listing n → 0 < length bs
some_listed n (b ∷ bs) l e = omega arith
some_listed n [] l e = absurd (by n l e)
  where
    by : (n : ℕ) → n ≤ 4 → [] ≡ listing n → ⊥
    by zero l e = cc
    by (suc zero) l e = cc
    by (suc (suc zero)) l e = cc
    by (suc (suc (suc zero))) l e = cc
    by (suc (suc (suc (suc zero)))) l e = cc
    by (suc (suc (suc (suc (suc n))))) l e = omega (arith, l)

-- ---- Arrays left whole

extents_decide : (ms : List CertModulus) (es : List Affine) → Decides (are_extents ms es) (map (λ (m : CertModulus). m.form) ms ≡ es)
extents_decide [] [] = (λ t. refl, λ e. refl)
extents_decide [] (e ∷ es) = (λ t. absurd (true≢false (sym t)), λ q. absurd (cc))
extents_decide (m ∷ ms) [] = (λ t. absurd (true≢false (sym t)), λ q. absurd (cc))
extents_decide (m ∷ ms) (e ∷ es) =
    let first = form_decides m.form e in
    let more = extents_decide ms es in (
      λ t. let b = and_parts (same_form m.form e) (are_extents ms es) t in ap₂ (λ x xs. x ∷ xs) (first.0 b.0) (more.0 b.1),
      λ q. and_from (same_form m.form e) (are_extents ms es) (first.1 (head_of q)) (more.1 (tail_of q)),
    )
  where
    head_of : m.form ∷ map (λ (m : CertModulus). m.form) ms ≡ e ∷ es → m.form ≡ e
    head_of q = cc

    tail_of : m.form ∷ map (λ (m : CertModulus). m.form) ms ≡ e ∷ es → map (λ (m : CertModulus). m.form) ms ≡ es
    tail_of q = cc

whole_of_decides : (nest : Nest) (c : CertFold) (o : Option ArrayInfo) → slice_get nest.arrays c.array.0 ≡ o → Decides (is_whole_of o c) (IsWhole nest c)
whole_of_decides nest c None at = (λ t. absurd (true≢false (sym t)), λ w. absurd (none-some w.info (sym at ∙ w.declared)))
whole_of_decides nest c (Some info) at =
    let extents = extents_decide c.moduli info.extents in
    let unit = shape_decides (shape_of c.basis) (identity (length c.basis.rows)) in (
      λ t. let b = and_parts (are_extents c.moduli info.extents) (is_identity (shape_of c.basis)) t in record { info = info; declared = at; unit = unit.0 b.1; moduli = extents.0 b.0 },
      λ w.
          let same : w.info ≡ info = same_Some w.info info (sym w.declared ∙ at) in
          and_from (are_extents c.moduli info.extents) (is_identity (shape_of c.basis)) (extents.1 (w.moduli ∙ ap (λ (i : ArrayInfo). i.extents) same)) (unit.1 w.unit),
    )

whole_decides : (nest : Nest) (c : CertFold) → Decides (is_whole nest c) (IsWhole nest c)
whole_decides nest c = whole_of_decides nest c (slice_get nest.arrays c.array.0) refl

-- ---- Bases that are kept

either_first : (a b : Bool) → a ≡ true → (a || b) ≡ true
either_first true b e = refl
either_first false b e = absurd (true≢false (sym e))

either_second : (a b : Bool) → b ≡ true → (a || b) ≡ true
either_second true b e = refl
either_second false b e = e

has_decides : (nest : Nest) (c : CertFold) (given : Option Shape) → Decides (has_basis given nest c) (HasBasis given nest c)
has_decides nest c None = (λ t. tt, λ h. refl)
has_decides nest c (Some shape) =
    let own = shape_decides (shape_of c.basis) shape in
    let whole = whole_decides nest c in (
      λ t. elim (or_cases (same_shape (shape_of c.basis) shape) (is_whole nest c) t) [ inl a ↦ inl (own.0 a) | inr b ↦ inr (whole.0 b) ],
      λ h. elim h [ inl a ↦ either_first (same_shape (shape_of c.basis) shape) (is_whole nest c) (own.1 a) | inr b ↦ either_second (same_shape (shape_of c.basis) shape) (is_whole nest c) (whole.1 b) ],
    )

pub keeps_decides : (nest : Nest) (bases : List (ArrayId × Basis)) (c : CertFold) → Decides (keeps_basis nest bases c) (KeepsBasis nest bases c)
keeps_decides nest bases c = has_decides nest c (given_for bases c.array.0 (length c.basis.rows))

-- ---- The first that isn't

pub all_keep : (nest : Nest) (bases : List (ArrayId × Basis)) (cs : List CertFold) → ((k : ℕ) (c : CertFold) → k < length cs → slice_get cs k ≡ Some c → keeps_basis nest bases c ≡ true) → KeepBases nest bases cs
all_keep nest bases cs h c i = let k = place_of cs c i in (keeps_decides nest bases c).0 (h k.0 c (within cs k.0 c k.1) k.1)
  where
    within : (xs : List CertFold) (k : ℕ) (x : CertFold) → slice_get xs k ≡ Some x → k < length xs
    within [] k x e = absurd (none-some x e)
    within (y ∷ xs) zero x e = omega arith
    within (y ∷ xs) (suc k) x e = let h = within xs k x e in omega (arith, h)

pub first_is : (nest : Nest) (bases : List (ArrayId × Basis)) (cs : List CertFold) (k : ℕ) (c : CertFold) → slice_get cs k ≡ Some c → keeps_basis nest bases c ≡ false
    → ((j : ℕ) (d : CertFold) → j < k → slice_get cs j ≡ Some d → keeps_basis nest bases d ≡ true) → IsFirst (HasOther nest bases) cs k
first_is nest bases cs k c at not before = record {
  item = c;
  there = at;
  holds = λ keeps. true≢false (sym ((keeps_decides nest bases c).1 keeps) ∙ not);
  before = λ j d l e other. other ((keeps_decides nest bases d).0 (before j d l e));
}

-- one more that does
pub next_keeps : (nest : Nest) (bases : List (ArrayId × Basis)) (cs : List CertFold) (number : ℕ) (x : CertFold) → slice_get cs number ≡ Some x → keeps_basis nest bases x ≡ true
    → ((k : ℕ) (c : CertFold) → k < number → slice_get cs k ≡ Some c → keeps_basis nest bases c ≡ true) → (k : ℕ) (c : CertFold) → k < number + 1 → slice_get cs k ≡ Some c → keeps_basis nest bases c ≡ true
next_keeps nest bases cs number x there keeps before k c less at = elim (cases_lt k number) [
  | inl l ↦ before k c l at
  | inr m ↦ (
      let same : k ≡ number = omega (arith, less, m) in
      let one : x ≡ c = same_Some x c (sym there ∙ ap (slice_get cs) (sym same) ∙ at) in
      ap (keeps_basis nest bases) (sym one) ∙ keeps
      )
]
