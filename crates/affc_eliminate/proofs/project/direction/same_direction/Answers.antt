use Rattle.std.proofs.Common.{◌≡◌, ◌<◌, ℕ, pos, ◌*ℤ◌, ◌≤ℤ◌, length, get_or, refl, subst, rules}
use Rattle.std.specs.Prelude.{FitsSigned}
use Rattle.std.specs.Int.{w128}
use Rattle.std.proofs.lemmas.Int.{to_z-of_z}
use Rattle.affc_farkas.proofs.Implied.{implied}
use Rattle.affc_eliminate.proofs.project.direction.same_direction.Goals as goal

pub returns : goal.returns
returns c = λ t x d w one met.
    let f = c.args.kept.now in
    let g = c.args.other.now in
    let m = c.first_factors-m.result.m in
    let n = c.first_factors-m.result.n in
    let fm : FitsSigned w128 m = search rules in
    let fn : FitsSigned w128 n = search rules in
    let ef : c.as_slice-coefs.result.now ≡ f.coefs = search rules in
    let eg : c.as_slice-others.result.now ≡ g.coefs = search rules in
    let width : length f.coefs ≡ length g.coefs = subst (λ cs. length cs ≡ length g.coefs) ef (subst (λ es. length c.as_slice-coefs.result.now ≡ length es) eg (c.if-not-same_signs.ensures refl)) in
    let seen : (j : ℕ) → j < length c.as_slice-coefs.result.now → get_or c.as_slice-coefs.result.now j (pos 0) *ℤ m ≡ get_or c.as_slice-others.result.now j (pos 0) *ℤ n =
    simp to_z-of_z at (c.if-not-is_parallel.ensures refl) in
    let parallel : (j : ℕ) → j < length f.coefs → get_or f.coefs j (pos 0) *ℤ m ≡ get_or g.coefs j (pos 0) *ℤ n =
    subst (λ cs. (j : ℕ) → j < length cs → get_or cs j (pos 0) *ℤ m ≡ get_or g.coefs j (pos 0) *ℤ n) ef
    (subst (λ es. (j : ℕ) → j < length c.as_slice-coefs.result.now → get_or c.as_slice-coefs.result.now j (pos 0) *ℤ m ≡ get_or es j (pos 0) *ℤ n) eg seen) in
    let kf : FitsSigned w128 c.kept.inside.constant = search rules in
    let kg : FitsSigned w128 c.other.inside.constant = search rules in
    let cf : c.kept.inside.constant ≡ f.constant = search rules in
    let cg : c.other.inside.constant ≡ g.constant = search rules in
    let less : (c.kept.inside.constant *ℤ m) ≤ℤ (c.other.inside.constant *ℤ n) = simp to_z-of_z at (c.is_at_most.ensures t) in
    let most : (f.constant *ℤ m) ≤ℤ (g.constant *ℤ n) =
    subst (λ z. (z *ℤ m) ≤ℤ (g.constant *ℤ n)) cf (subst (λ z. (c.kept.inside.constant *ℤ m) ≤ℤ (z *ℤ n)) cg less) in
    implied m n f g c.first_factors-m.ensures.first c.first_factors-m.ensures.second width parallel most x d one met
