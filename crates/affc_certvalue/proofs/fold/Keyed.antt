-- The objects of a fold: what stands under each key.
use Rattle.affc_certvalue.proofs.Keyed.{Field, other_keys, with_keys, these}
use Rattle.affc_certvalue.proofs.Steps.{worse_fine}
use Rattle.affc_certvalue.specs.Keys.{has_keys}
use Rattle.affc_certvalue.specs.Verdicts.{worse, at_key, members}
use Rattle.affc_certvalue.specs.declared.verdict.Verdict.{Verdict}
use Rattle.serde_json.specs.Data.{Data, object}
use Rattle.serde_json.specs.Find.{get}
use Rattle.std.proofs.Common.{◌≡◌, ℕ, List, [], ◌∷◌, length, true, codes, ap, arith}

-- ---- A modulus

abbrev pub modulus_names : List (List ℕ)
modulus_names = codes "form" ∷ codes "least" ∷ []

modulus_at : (f g : Data → Verdict) (ds : List Data) → length ds ≡ 2
    → members ((codes "form", f) ∷ (codes "least", g) ∷ []) (object (with_keys modulus_names ds))
    ≡ worse (at_key f (get (codes "form") (object (with_keys modulus_names ds)))) (at_key g (get (codes "least") (object (with_keys modulus_names ds))))
modulus_at f g [] h = absurd (omega arith)
modulus_at f g (a ∷ []) h = absurd (omega arith)
modulus_at f g (a ∷ b ∷ []) h = ap (worse (f a)) (worse_fine (g b))
modulus_at f g (a ∷ b ∷ c ∷ ds) h = absurd (omega arith)

pub modulus_members : (f g : Data → Verdict) (d : Data) → has_keys modulus_names d ≡ true
    → members ((codes "form", f) ∷ (codes "least", g) ∷ []) d ≡ worse (at_key f (get (codes "form") d)) (at_key g (get (codes "least") d))
modulus_members f g d e = let h = these modulus_names d e in rw h.2 (modulus_at f g h.0 h.1)

pub ruleset modulus_keys = (other_keys, modulus_members)

-- ---- What shows that a modulus is least

abbrev pub witness_names : List (List ℕ)
witness_names = codes "clash" ∷ codes "p" ∷ codes "point" ∷ []

witness_at : (f g h : Data → Verdict) (ds : List Data) → length ds ≡ 3
    → members ((codes "clash", f) ∷ (codes "p", g) ∷ (codes "point", h) ∷ []) (object (with_keys witness_names ds))
    ≡ worse (at_key f (get (codes "clash") (object (with_keys witness_names ds)))) (worse (at_key g (get (codes "p") (object (with_keys witness_names ds)))) (at_key h (get (codes "point") (object (with_keys witness_names ds)))))
witness_at f g h [] e = absurd (omega arith)
witness_at f g h (a ∷ []) e = absurd (omega arith)
witness_at f g h (a ∷ b ∷ []) e = absurd (omega arith)
witness_at f g h (a ∷ b ∷ c ∷ []) e = ap (λ v. worse (f a) (worse (g b) v)) (worse_fine (h c))
witness_at f g h (a ∷ b ∷ c ∷ x ∷ ds) e = absurd (omega arith)

pub witness_members : (f g h : Data → Verdict) (d : Data) → has_keys witness_names d ≡ true
    → members ((codes "clash", f) ∷ (codes "p", g) ∷ (codes "point", h) ∷ []) d
    ≡ worse (at_key f (get (codes "clash") d)) (worse (at_key g (get (codes "p") d)) (at_key h (get (codes "point") d)))
witness_members f g h d e = let under = these witness_names d e in rw under.2 (witness_at f g h under.0 under.1)

pub ruleset witness_keys = (other_keys, witness_members)

-- ---- A fold

abbrev pub fold_names : List (List ℕ)
fold_names = codes "array" ∷ codes "inverse" ∷ codes "moduli" ∷ codes "rows" ∷ []

abbrev fold_parts : (f g h i : Data → Verdict) → List Field
fold_parts f g h i = (codes "array", f) ∷ (codes "inverse", g) ∷ (codes "moduli", h) ∷ (codes "rows", i) ∷ []

fold_at : (f g h i : Data → Verdict) (ds : List Data) → length ds ≡ 4
    → members (fold_parts f g h i) (object (with_keys fold_names ds))
    ≡ worse (at_key f (get (codes "array") (object (with_keys fold_names ds)))) (worse (at_key g (get (codes "inverse") (object (with_keys fold_names ds))))
    (worse (at_key h (get (codes "moduli") (object (with_keys fold_names ds)))) (at_key i (get (codes "rows") (object (with_keys fold_names ds))))))
fold_at f g h i [] e = absurd (omega arith)
fold_at f g h i (a ∷ []) e = absurd (omega arith)
fold_at f g h i (a ∷ b ∷ []) e = absurd (omega arith)
fold_at f g h i (a ∷ b ∷ c ∷ []) e = absurd (omega arith)
fold_at f g h i (a ∷ b ∷ c ∷ x ∷ []) e = ap (λ v. worse (f a) (worse (g b) (worse (h c) v))) (worse_fine (i x))
fold_at f g h i (a ∷ b ∷ c ∷ x ∷ y ∷ ds) e = absurd (omega arith)

pub fold_members : (f g h i : Data → Verdict) (d : Data) → has_keys fold_names d ≡ true
    → members (fold_parts f g h i) d
    ≡ worse (at_key f (get (codes "array") d)) (worse (at_key g (get (codes "inverse") d)) (worse (at_key h (get (codes "moduli") d)) (at_key i (get (codes "rows") d))))
fold_members f g h i d e = let under = these fold_names d e in rw under.2 (fold_at f g h i under.0 under.1)

pub ruleset fold_keys = (other_keys, fold_members)
