-- The object of a certificate: what stands under each key.
use Rattle.affc_certvalue.proofs.Keyed.{Field, other_keys, with_keys, these}
use Rattle.affc_certvalue.proofs.Steps.{worse_fine}
use Rattle.affc_certvalue.specs.Keys.{has_keys}
use Rattle.affc_certvalue.specs.Verdicts.{worse, at_key, members}
use Rattle.affc_certvalue.specs.declared.verdict.Verdict.{Verdict}
use Rattle.serde_json.specs.Data.{Data, object}
use Rattle.serde_json.specs.Find.{get}
use Rattle.std.proofs.Common.{◌≡◌, ℕ, List, [], ◌∷◌, length, true, codes, ap, arith}

-- ---- The whole

abbrev pub names : List (List ℕ)
names = codes "affc" ∷ codes "context" ∷ codes "flow" ∷ codes "folds" ∷ codes "proofs" ∷ []

abbrev parts : (f g h i j : Data → Verdict) → List Field
parts f g h i j = (codes "affc", f) ∷ (codes "context", g) ∷ (codes "flow", h) ∷ (codes "folds", i) ∷ (codes "proofs", j) ∷ []

whole_at : (f g h i j : Data → Verdict) (ds : List Data) → length ds ≡ 5
    → members (parts f g h i j) (object (with_keys names ds))
    ≡ worse (at_key f (get (codes "affc") (object (with_keys names ds)))) (worse (at_key g (get (codes "context") (object (with_keys names ds))))
    (worse (at_key h (get (codes "flow") (object (with_keys names ds)))) (worse (at_key i (get (codes "folds") (object (with_keys names ds)))) (at_key j (get (codes "proofs") (object (with_keys names ds)))))))
whole_at f g h i j [] e = absurd (omega arith)
whole_at f g h i j (a ∷ []) e = absurd (omega arith)
whole_at f g h i j (a ∷ b ∷ []) e = absurd (omega arith)
whole_at f g h i j (a ∷ b ∷ c ∷ []) e = absurd (omega arith)
whole_at f g h i j (a ∷ b ∷ c ∷ x ∷ []) e = absurd (omega arith)
whole_at f g h i j (a ∷ b ∷ c ∷ x ∷ y ∷ []) e = ap (λ v. worse (f a) (worse (g b) (worse (h c) (worse (i x) v)))) (worse_fine (j y))
whole_at f g h i j (a ∷ b ∷ c ∷ x ∷ y ∷ z ∷ ds) e = absurd (omega arith)

pub whole_members : (f g h i j : Data → Verdict) (d : Data) → has_keys names d ≡ true
    → members (parts f g h i j) d
    ≡ worse (at_key f (get (codes "affc") d)) (worse (at_key g (get (codes "context") d)) (worse (at_key h (get (codes "flow") d)) (worse (at_key i (get (codes "folds") d)) (at_key j (get (codes "proofs") d)))))
whole_members f g h i j d e = let under = these names d e in rw under.2 (whole_at f g h i j under.0 under.1)

pub ruleset whole_keys = (other_keys, whole_members)
