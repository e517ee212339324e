use Rattle.std.proofs.Common.{◌≡◌, ℕ, zero, suc, ◌^◌, ◌≤◌, ◌≤ℤ◌, ℤ, pos, List, [], ◌∷◌, ◌++◌, Some, slice_get, unsigned_abs, refl, sym, ap, subst, ◌∙◌, arith, lit≤}
use Rattle.std.proofs.lemmas.Int.{ints}
use Rattle.std.proofs.lemmas.List.Elements.{All-nil, All-cons}
use Rattle.std.proofs.lemmas.Option.{same_Some, none-some}
use Rattle.affc_rows.specs.Forms.{Affine}
use Rattle.affc_basis.specs.declared.fold.Modulus.{Modulus}
use Rattle.affc_basis.specs.Folds.{forms_of}
use Rattle.affc_basis.specs.Moduli.{IsModulusAt}
use Rattle.affc_integer_tests.proofs.basis.place.Goals as goal

-- N + n
abbrev more : ℕ → Affine
more n = record { coefs = pos 1 ∷ []; constant = pos n }

at_two : (n : ℕ) → n ≤ 1 → IsModulusAt (pos 2 ∷ []) (more n)
at_two n h = record {
  parameters = refl;
  few = lit≤ tt;
  coefs = All-cons (λ c. unsigned_abs c ≤ 2 ^ 30) (pos 1) [] (lit≤ tt) (All-nil (λ c. unsigned_abs c ≤ 2 ^ 30));
  constant = omega arith;
  low = omega (arith, ints);
  high = omega (arith, ints);
}

each_of_two : (m n : Modulus) → m.form ≡ more 1 → n.form ≡ more 0 → (k : ℕ) (b : Affine) → slice_get (forms_of (m ∷ n ∷ [])) k ≡ Some b → IsModulusAt (pos 2 ∷ []) b
each_of_two m n e f zero b at = subst (IsModulusAt (pos 2 ∷ [])) (sym e ∙ same_Some m.form b at) (at_two 1 (lit≤ tt))
each_of_two m n e f (suc zero) b at = subst (IsModulusAt (pos 2 ∷ [])) (sym f ∙ same_Some n.form b at) (at_two 0 (lit≤ tt))
each_of_two m n e f (suc (suc k)) b at = absurd (none-some b at)

of_pushes : (none one both : List Modulus) (m n : Modulus) → none ≡ [] → one ≡ none ++ m ∷ [] → both ≡ one ++ n ∷ [] → m.form ≡ more 1 → n.form ≡ more 0
    → (k : ℕ) (b : Affine) → slice_get (forms_of both) k ≡ Some b → IsModulusAt (pos 2 ∷ []) b
of_pushes none one both m n a b c e f k =
    let same : both ≡ m ∷ n ∷ [] = c ∙ ap (λ l. l ++ n ∷ []) (b ∙ ap (λ l. l ++ m ∷ []) a) in
    subst (λ l. (b : Affine) → slice_get (forms_of l) k ≡ Some b → IsModulusAt (pos 2 ∷ []) b) (sym same) (each_of_two m n e f k)

pub place-requires-clause-modulus : goal.place-requires-clause-modulus
place-requires-clause-modulus c =
    of_pushes c.new-moduli.result c.push.new.self c.push-2.new.self c.in_ok-modulus.field-0 c.in_ok-modulus-2.field-0 c.new-moduli.ensures c.in_ok-push.ensures.ok c.in_ok-push-2.ensures.ok c.in_ok-modulus.ensures c.in_ok-modulus-2.ensures 0

pub place-requires-2-clause-modulus : goal.place-requires-2-clause-modulus
place-requires-2-clause-modulus c =
    of_pushes c.new-moduli.result c.push.new.self c.push-2.new.self c.in_ok-modulus.field-0 c.in_ok-modulus-2.field-0 c.new-moduli.ensures c.in_ok-push.ensures.ok c.in_ok-push-2.ensures.ok c.in_ok-modulus.ensures c.in_ok-modulus-2.ensures 1
