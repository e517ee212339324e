use Rattle.std.proofs.Common.{◌≡◌, ◌*ℤ◌, ℕ, ◌+◌, ◌<◌, List, [], ◌∷◌, ◌++◌, ℤ, pos, length, get_or, map, take, ap, sym, ◌∙◌, rules}
use Rattle.std.specs.Prelude.{FitsSigned}
use Rattle.std.specs.Int.{w64, w128}
use Rattle.std.proofs.lemmas.Int.{to_z-of_z}
use Rattle.std.proofs.lemmas.List.{map_push, take_more, take_all}
use Rattle.affc_leaf.proofs.cuts.divided_coefs.Goals as goal

one_more : (g : ℤ) (coefs quotients : List ℤ) (i : ℕ) (q : ℤ) → i < length coefs → map (λ q. g *ℤ q) quotients ≡ take i coefs → (g *ℤ q) ≡ get_or coefs i (pos 0)
    → map (λ q. g *ℤ q) (quotients ++ q ∷ []) ≡ take (i + 1) coefs
one_more g coefs quotients i q there so_far here =
    map_push (λ q. g *ℤ q) quotients q ∙ ap (λ l. l ++ (g *ℤ q) ∷ []) so_far ∙ ap (λ z. take i coefs ++ z ∷ []) here ∙ sym (take_more coefs i (pos 0) there)

pub loop-c-preserved : goal.loop-c-preserved
loop-c-preserved c =
    let i = c.loop-c.c-index in
    let coefs = c.args.coefs.now in
    let q = c.in-Some.q in
    let old = c.loop-c.quotients.items in
    let fg : FitsSigned w64 c.args.g = c.ranges.g in
    let fc : FitsSigned w128 (get_or coefs i (pos 0)) = search rules in
    let fq : FitsSigned w128 q = search rules in
    let inv = simp to_z-of_z at c.loop-c.invariant in
    let e = simp to_z-of_z at c.in-Some.ensures in
    let p : c.push.new.self.items ≡ old ++ q ∷ [] = search (rules, to_z-of_z) in
    simp to_z-of_z (ap (λ l. map (λ q. c.args.g *ℤ q) l) p ∙ one_more c.args.g coefs old i q c.loop-c-test.true inv e)

pub returns : goal.returns
returns c =
    let fg : FitsSigned w64 c.args.g = c.ranges.g in
    let inv = simp to_z-of_z at c.loop-c.invariant in
    inv ∙ take_all c.loop-c.c-index c.args.coefs.now c.loop-c-test.false
