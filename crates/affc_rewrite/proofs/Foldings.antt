-- What is known of the folds of a program, of their rows and moduli, and of an access.
use Rattle.std.proofs.Common.{◌≡◌, ℕ, zero, suc, ◌+◌, ◌-◌, ◌<◌, ◌≤◌, IsTrue, List, [], ◌∷◌, length, take, drop, min, map, refl, sym, ap, subst, ◌∙◌, arith, length-take, length-drop}
use Rattle.std.specs.List.{All}
use Rattle.std.proofs.lemmas.List.{take_all}
use Rattle.affc_rows.specs.Forms.{Affine}
use Rattle.affc_ast.specs.declared.tree.Ix.{Ix}
use Rattle.affc_domain.specs.Affine.{form_of}
use Rattle.affc_domain.specs.Plain.{all_plain}
use Rattle.affc_domain.proofs.Lists.{length_map}
use Rattle.affc_basis.specs.declared.fold.Fold.{Fold}
use Rattle.affc_basis.specs.declared.fold.Modulus.{Modulus}
use Rattle.affc_basis.specs.Folds.{KeepsLimits, forms_of}
use Rattle.affc_basis.specs.Moduli.{IsModulus}
use Rattle.affc_loops.proofs.Sizes.{all_from}
use Rattle.affc_rewrite.specs.declared.components.Access.{Access}
use Rattle.affc_rewrite.specs.Sizes.{AllSides, IsRow, IsPrintable, IsAccess}
use Rattle.affc_rewrite.proofs.Accesses.{sides_of}
use Rattle.affc_rewrite.proofs.FoldsPrinted.{rows_of}
use Rattle.affc_rewrite.proofs.RowSizes.{modulus_printable}

pub access_fits : (a : Access) (subs : List Ix) → IsTrue (all_plain a.names subs) → a.forms.now ≡ map (form_of a.names 0) subs → 1 ≤ length subs → length subs ≤ 4
    → a.parameters ≤ 4 → a.parameters ≤ a.names → a.names ≤ 16 → IsAccess a
access_fits a subs plain e some few four behind short =
    let long : length a.forms.now ≡ length subs = ap length e ∙ length_map (form_of a.names 0) subs in
    record {
      sides = subst (AllSides a.names) (sym e) (sides_of a.names subs plain);
      some = omega arith;
      few = omega arith;
      parameters = four;
      behind = behind;
      short = short;
    }

pub rows_fit : (fold : Fold) (n : ℕ) → n ≡ length fold.basis.rows → All (IsRow n) fold.basis.rows
rows_fit fold n e = all_from (IsRow n) fold.basis.rows (λ j row f. subst (λ d. IsRow d row) (sym e) (rows_of fold j row f))

pub few_rows : (fold : Fold) → length fold.basis.rows ≤ 4
few_rows fold = ((fold.basis).square).few

all_weaker : {A : Type 0} (P Q : A → Type 0) (xs : List A) → ((x : A) → P x → Q x) → All P xs → All Q xs
all_weaker P Q xs f h = λ i x l. f _ (h i x l)

pub moduli_fit : (parameters : ℕ) (fold : Fold) → parameters ≤ 4 → KeepsLimits parameters fold → All (IsPrintable parameters) (forms_of fold.moduli)
moduli_fit parameters fold few h = all_weaker (IsModulus parameters) (IsPrintable parameters) (forms_of fold.moduli) (λ b is. modulus_printable parameters b few is) h

-- ---- Walks over lists

-- what stands behind the first of a list is shorter
pub shorter : {A : Type 0} (xs : List A) → 1 ≤ length xs → length (take (length xs - 1) (drop 1 xs)) < length xs
shorter xs h =
    let d : length (drop 1 xs) ≡ length xs - 1 = length-drop 1 xs in
    let t : length (take (length xs - 1) (drop 1 xs)) ≡ min (length xs - 1) (length (drop 1 xs)) = length-take (length xs - 1) (drop 1 xs) in
    omega arith

rest_is : {A : Type 0} (x : A) (xs : List A) → take (length (x ∷ xs) - 1) (drop 1 (x ∷ xs)) ≡ xs
rest_is x xs = take_all (length (x ∷ xs) - 1) xs (omega arith)

pub all_rest : {A : Type 0} (P : A → Type 0) (xs : List A) → 1 ≤ length xs → All P xs → All P (take (length xs - 1) (drop 1 xs))
all_rest P [] h a = absurd (omega arith)
all_rest P (x ∷ xs) h a = subst (All P) (sym (rest_is x xs)) (λ i y l. a (suc i) y (omega arith))

pub moduli_rest : (P : Affine → Type 0) (xs : List Modulus) → 1 ≤ length xs → All P (forms_of xs) → All P (forms_of (take (length xs - 1) (drop 1 xs)))
moduli_rest P [] h a = absurd (omega arith)
moduli_rest P (x ∷ xs) h a = subst (λ ys. All P (forms_of ys)) (sym (rest_is x xs)) (λ i y l. a (suc i) y (omega arith))

pub few_left : {A : Type 0} (xs : List A) (k : ℕ) → 1 ≤ length xs → k + length xs ≤ 4 → (k + 1) + length (take (length xs - 1) (drop 1 xs)) ≤ 4
few_left xs k h l = let s : length (take (length xs - 1) (drop 1 xs)) < length xs = shorter xs h in omega arith

-- and so the walk over it ends
pub shorter_than : {A : Type 0} (xs : List A) (t : ℕ) → 1 ≤ length xs → length xs ≡ t → length (take (length xs - 1) (drop 1 xs)) < t
shorter_than xs t h e = subst (λ m. length (take (length xs - 1) (drop 1 xs)) < m) e (shorter xs h)
