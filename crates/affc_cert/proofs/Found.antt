-- What whole certificates are, from what the looks into a value gave.
use Rattle.affc_cert.proofs.Keyed.{names}
use Rattle.affc_cert.specs.Drafts.{whole_object}
use Rattle.affc_certvalue.proofs.fold.Found.{is_modulus}
use Rattle.affc_certvalue.proofs.Keyed.{with_keys, these}
use Rattle.affc_certvalue.specs.Keys.{has_keys}
use Rattle.serde_json.specs.Data.{Data, number, unsigned, object}
use Rattle.serde_json.specs.Find.{get}
use Rattle.std.proofs.Common.{◌≡◌, List, [], ◌∷◌, length, Some, true, codes, refl, sym, ap, ◌∙◌, arith}
use Rattle.std.proofs.lemmas.Option.{same_Some}

-- ---- The whole

whole_of : (ds : List Data) (v a b c x : Data) → length ds ≡ 5 → Some v ≡ get (codes "affc") (object (with_keys names ds)) → Some a ≡ get (codes "context") (object (with_keys names ds))
    → Some b ≡ get (codes "flow") (object (with_keys names ds)) → Some c ≡ get (codes "folds") (object (with_keys names ds)) → Some x ≡ get (codes "proofs") (object (with_keys names ds)) → number (unsigned 1) ≡ v
    → whole_object a b c x ≡ object (with_keys names ds)
whole_of [] v a b c x h e f g i j o = absurd (omega arith)
whole_of (p ∷ []) v a b c x h e f g i j o = absurd (omega arith)
whole_of (p ∷ q ∷ []) v a b c x h e f g i j o = absurd (omega arith)
whole_of (p ∷ q ∷ r ∷ []) v a b c x h e f g i j o = absurd (omega arith)
whole_of (p ∷ q ∷ r ∷ s ∷ []) v a b c x h e f g i j o = absurd (omega arith)
whole_of (p ∷ q ∷ r ∷ s ∷ t ∷ []) v a b c x h e f g i j o = rw (same_Some _ _ f, same_Some _ _ g, same_Some _ _ i, same_Some _ _ j, o ∙ same_Some _ _ e) refl
whole_of (p ∷ q ∷ r ∷ s ∷ t ∷ u ∷ ds) v a b c x h e f g i j o = absurd (omega arith)

pub is_whole : (d v a b c x : Data) → has_keys names d ≡ true → Some v ≡ get (codes "affc") d → Some a ≡ get (codes "context") d → Some b ≡ get (codes "flow") d → Some c ≡ get (codes "folds") d
    → Some x ≡ get (codes "proofs") d → number (unsigned 1) ≡ v → whole_object a b c x ≡ d
is_whole d v a b c x k e f g i j o =
    let under = these names d k in
    whole_of under.0 v a b c x under.1 (e ∙ ap (get (codes "affc")) under.2) (f ∙ ap (get (codes "context")) under.2) (g ∙ ap (get (codes "flow")) under.2) (i ∙ ap (get (codes "folds")) under.2)
    (j ∙ ap (get (codes "proofs")) under.2) o ∙ sym under.2

pub ruleset whole_found = (is_whole, is_modulus)
