use Rattle.std.proofs.Common.{arith, ℕ, ℤ, List, [], ◌∷◌, ◌++◌, ◌≡◌, ◌*◌, ◌+◌, ◌≤ℤ◌, ◌∙◌, sym, pos, get_or, length, length-append, take, ap, ap₂, subst, to_z, of_z, w64}
use Rattle.std.proofs.lemmas.Int.{ints, to_z-of_z}
use Rattle.std.proofs.lemmas.List.Elements.{All-push}
use Rattle.affc_system.specs.Boxes.{IsBox, IsRange}
use Rattle.affc_decide.specs.Blocks.{ends_of}
use Rattle.affc_decide.proofs.Said.{length_ends, ends_more, ordered_at}
use Rattle.affc_decide.proofs.block.box_of.Goals as goal

pub returns-then-ends-count-clause-none : goal.returns-then-ends-count-clause-none
returns-then-ends-count-clause-none c = λ is ranges same box width. absurd (c.if-ends-count.true (ap length (sym same) ∙ length_ends ranges ∙ ap (λ n. 2 * n) width))

pub returns-then-low-high-clause-none : goal.returns-then-low-high-clause-none
returns-then-low-high-clause-none c = λ is ranges same box width. grind (arith, ints, to_z-of_z, ordered_at ranges c.args.ends.now c.loop-i.i same box (omega (arith, c.loop-i-test.true, width)))

pub loop-i-preserved : goal.loop-i-preserved
loop-i-preserved c =
    let xs = c.args.ends.now in
    let i = c.loop-i.i in
    let a : ℤ = get_or xs (2 * i) (pos 0) in
    let b : ℤ = get_or xs (2 * i + 1) (pos 0) in
    let low : to_z w64 (of_z w64 a) ≡ a = grind (arith, ints, to_z-of_z) in
    let high : to_z w64 (of_z w64 b) ≡ b = grind (arith, ints, to_z-of_z) in
    let pushed : c.push.new.self ≡ c.loop-i.ranges ++ (a, b) ∷ [] = c.in-Ok.ensures.ok ∙ ap₂ (λ (x y : ℤ). c.loop-i.ranges ++ (x, y) ∷ []) low high in
    let ordered : a ≤ℤ b = grind (arith, ints, to_z-of_z) in
    let longer : length (c.loop-i.ranges ++ (a, b) ∷ []) ≡ i + 1 = length-append c.loop-i.ranges ((a, b) ∷ []) ∙ ap (λ (n : ℕ). n + 1) c.loop-i.invariant.1 in
    subst (λ (rs : List (ℤ × ℤ)). (ends_of rs ≡ take (2 * (i + 1)) xs) × (length rs ≡ i + 1) × IsBox rs) (sym pushed)
    (ends_more c.loop-i.ranges xs i c.loop-i.invariant.0 (omega (arith, c.if-ends-count.false, c.loop-i-test.true)), longer, All-push IsRange c.loop-i.ranges (a, b) c.loop-i.invariant.2 ordered)
