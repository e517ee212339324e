-- Distances the other way round: forms with their signs turned.
use Rattle.std.proofs.Common.{◌≡◌, ℕ, zero, suc, ◌<◌, ◌≤◌, ◌*◌, ◌^◌, List, [], ◌∷◌, length, ℤ, neg_ℤ, ◌*ℤ◌, refl, sym, ap, subst, ◌∙◌, arith}
use Rattle.std.specs.Prelude.{map, slice_get, get_or, Some, unsigned_abs}
use Rattle.std.specs.List.{All}
use Rattle.std.proofs.lemmas.Option.{same_Some, slice_get-get_or}
use Rattle.std.proofs.lemmas.List.Elements.{All-map, All-weaker}
use Rattle.affc_rows.specs.Forms.{Affine, dot, value}
use Rattle.affc_rows.specs.Vocabulary.{opposite, HasOpposite}
use Rattle.affc_rows.proofs.IntLemmas.{neg-mul}
use Rattle.affc_rows.proofs.VocabularyLemmas.{within_opposite}
use Rattle.affc_system.specs.declared.pairs.PairSystem.{PairSystem}
use Rattle.affc_domain.proofs.Lists.{neg_size}
use Rattle.affc_conflicts.specs.differences.Differences.{IsSmall}
use Rattle.affc_conflicts.proofs.Turned.{both_turned}
use Rattle.affc_moduli.specs.Distances.{IsForward, IsBackward, AreForward, AreBackward}
use Rattle.affc_moduli.proofs.Apart.{apart-turned}
use Rattle.affc_moduli.proofs.Covers.{some_at}

dot-negated : (xs z : List ℤ) → dot (map neg_ℤ xs) z ≡ neg_ℤ (dot xs z)
dot-negated [] z = refl
dot-negated (x ∷ xs) [] = refl
dot-negated (x ∷ xs) (v ∷ vs) = both_turned (neg_ℤ x *ℤ v) (x *ℤ v) (dot (map neg_ℤ xs) vs) (dot xs vs) (neg-mul x v) (dot-negated xs vs)

value-negated : (f : Affine) (z : List ℤ) → value (opposite f) z ≡ neg_ℤ (value f z)
value-negated f z = both_turned (dot (map neg_ℤ f.coefs) z) (dot f.coefs z) (neg_ℤ f.constant) f.constant (dot-negated f.coefs z) refl

same_length : (xs : List ℤ) → length (map neg_ℤ xs) ≡ length xs
same_length [] = refl
same_length (x ∷ xs) = ap suc (same_length xs)

small_negated : (columns n : ℕ) (f : Affine) → IsSmall columns n f → IsSmall columns n (opposite f)
small_negated columns n f small = record {
  width = same_length f.coefs ∙ small.width;
  coefs_fit = All-map (λ c. unsigned_abs c ≤ n * 2 ^ 25) neg_ℤ f.coefs
      (All-weaker (λ c. unsigned_abs c ≤ n * 2 ^ 25) (λ c. unsigned_abs (neg_ℤ c) ≤ n * 2 ^ 25) (λ c h. subst (λ m. m ≤ n * 2 ^ 25) (sym (neg_size c)) h) f.coefs small.coefs_fit);
  constant_fits = subst (λ m. m ≤ n * 2 ^ 33) (sym (neg_size f.constant)) small.constant_fits;
}

turned : (cs : List ℤ) (s : PairSystem) (f : Affine) → IsForward cs s f → IsBackward cs s (opposite f)
turned cs s f forward = record {
  small = small_negated s.system.columns 4 f forward.small;
  holds = λ z width. value-negated f z ∙ ap neg_ℤ (forward.holds z width) ∙ sym (apart-turned cs s.x.items s.y.items z);
}

turned_at : (fs : List Affine) (i : ℕ) (g : Affine) → slice_get (map opposite fs) i ≡ Some g → (f : Affine) × (slice_get fs i ≡ Some f) × (opposite f ≡ g)
turned_at [] i g e = cc
turned_at (f ∷ fs) zero g e = (f, refl, same_Some (opposite f) g e)
turned_at (f ∷ fs) (suc i) g e = turned_at fs i g e

pub all_turned : (systems : List PairSystem) (cs : List ℤ) (fs : List Affine) → AreForward systems cs fs → AreBackward systems cs (map opposite fs)
all_turned systems cs fs forward i s g at there =
    let f = turned_at fs i g there in
    subst (IsBackward cs s) f.2 (turned cs s f.0 (forward i s f.0 at f.1))

pub turned_length : (fs : List Affine) → length (map opposite fs) ≡ length fs
turned_length [] = refl
turned_length (f ∷ fs) = ap suc (turned_length fs)

-- each of them may be turned
pub may_turn : (systems : List PairSystem) (cs : List ℤ) (fs : List Affine) → length fs ≡ length systems → AreForward systems cs fs → All HasOpposite fs
may_turn systems cs fs each forward i d h =
    let s = some_at systems i (subst (λ n. i < n) each h) in
    let small = (forward i s.0 (get_or fs i d) s.1 (slice_get-get_or fs i d h)).small in
    within_opposite (4 * 2 ^ 25) (4 * 2 ^ 33) (get_or fs i d) (omega arith) (omega arith) small.coefs_fit small.constant_fits
