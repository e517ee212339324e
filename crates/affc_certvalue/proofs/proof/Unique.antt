-- Two proofs with one JSON value are one.
use Rattle.affc_certvalue.specs.proof.Proofs.{Steps, Refuted, Cut, Split}
use Rattle.affc_certvalue.specs.proof.Values.{pair_value, multipliers_value, nodes_of, proof_value}
use Rattle.affc_certvalue.specs.proof.Verdicts.{kind_of}
use Rattle.affc_certvalue.specs.declared.proof.kind.Kind.{Kind}
use Rattle.affc_certvalue.proofs.Unique.{head_same, tail_same, list_same, list_of_same, whole_same, numbers_same, form_same, natural_same, two_same, three_same, four_same}
use Rattle.affc_certvalue.specs.Values.{whole_value}
use Rattle.serde_json.specs.Data.{Data, Items}
use Rattle.serde_json.specs.Find.{as_array}
use Rattle.std.proofs.Common.{◌≡◌, ℕ, pos, List, [], ◌∷◌, ◌++◌, Option, Some, None, refl, sym, ap, ap₂, ◌∙◌, append-nil, append_assoc}

-- ---- Numbers and forms

pair_same : (p q : ℕ × ℕ) → pair_value p ≡ pair_value q → p ≡ q
pair_same p q e =
    let same = list_same (whole_value (pos p.0) ∷ whole_value (pos p.1) ∷ []) (whole_value (pos q.0) ∷ whole_value (pos q.1) ∷ []) e in
    ap₂ (λ x y. (x, y)) (natural_same p.0 q.0 (head_same _ _ _ _ same)) (natural_same p.1 q.1 (head_same _ _ _ _ (tail_same _ _ _ _ same)))

multipliers_same : (xs ys : List (ℕ × ℕ)) → multipliers_value xs ≡ multipliers_value ys → xs ≡ ys
multipliers_same xs ys e = list_of_same pair_value pair_same xs ys e

-- ---- Proofs: a list of nodes begins with one proof alone

abbrev kind_or : Option Items → Kind
kind_or None = Kind.Other
kind_or (Some ds) = kind_of ds

abbrev first_kind : List Data → Kind
first_kind [] = Kind.Other
first_kind (d ∷ ds) = kind_or (as_array d)

abbrev BeginsOne : (p q : Steps) → (xs ys : List Data) → Type 0
BeginsOne p q xs ys = (p ≡ q) × (xs ≡ ys)

begins : (p q : Steps) (xs ys : List Data) → nodes_of p ++ xs ≡ nodes_of q ++ ys → BeginsOne p q xs ys
begins (Refuted by) (Refuted by') xs ys e = (ap Refuted (multipliers_same by by' (two_same _ _ _ _ (head_same _ _ _ _ e))), tail_same _ _ _ _ e)
begins (Refuted by) (Cut by' g row rest) xs ys e = let other : Kind.Leaf ≡ Kind.Cut = ap first_kind e in absurd (cc)
begins (Refuted by) (Split cs at low high) xs ys e = let other : Kind.Leaf ≡ Kind.Split = ap first_kind e in absurd (cc)
begins (Cut by g row rest) (Refuted by') xs ys e = let other : Kind.Cut ≡ Kind.Leaf = ap first_kind e in absurd (cc)
begins (Cut by g row rest) (Cut by' h row' rest') xs ys e =
    let same = four_same _ _ _ _ _ _ _ _ (head_same _ _ _ _ e) in
    let multipliers = multipliers_same by by' same.0 in
    let divisor = whole_same g h same.1 in
    let form = form_same row row' same.2 in
    let below = begins rest rest' xs ys (tail_same _ _ _ _ e) in
    (rw (multipliers, divisor, form, below.0) refl, below.1)
begins (Cut by g row rest) (Split cs at low high) xs ys e = let other : Kind.Cut ≡ Kind.Split = ap first_kind e in absurd (cc)
begins (Split cs at low high) (Refuted by') xs ys e = let other : Kind.Split ≡ Kind.Leaf = ap first_kind e in absurd (cc)
begins (Split cs at low high) (Cut by' h row' rest') xs ys e = let other : Kind.Split ≡ Kind.Cut = ap first_kind e in absurd (cc)
begins (Split cs at low high) (Split ds there low' high') xs ys e =
    let same = three_same _ _ _ _ _ _ (head_same _ _ _ _ e) in
    let behind = sym (append_assoc (nodes_of low) (nodes_of high) xs) ∙ tail_same _ _ _ _ e ∙ append_assoc (nodes_of low') (nodes_of high') ys in
    let first = begins low low' (nodes_of high ++ xs) (nodes_of high' ++ ys) behind in
    let second = begins high high' xs ys first.1 in
    (rw (numbers_same cs ds same.0, whole_same at there same.1, first.0, second.0) refl, second.1)

pub proof_same : (p q : Steps) → proof_value p ≡ proof_value q → p ≡ q
proof_same p q e = (begins p q [] [] (append-nil (nodes_of p) ∙ list_same (nodes_of p) (nodes_of q) e ∙ sym (append-nil (nodes_of q)))).0
