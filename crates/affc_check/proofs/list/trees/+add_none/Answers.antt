use Rattle.std.proofs.Common.{◌≡◌, ℕ, suc, ◌-◌, ◌∷◌, [], List, None, replicate, refl, sym, ap, arith}
use Rattle.std.proofs.lemmas.Result.{on_ok_weaker}
use Rattle.affc_check.specs.list.Items.{Item}
use Rattle.affc_check.proofs.list.LoadLemmas.{nothing_put, put_same, one_put, put_twice}
use Rattle.affc_check.proofs.list.trees.+add_none.Goals as goal

one_more : (loads k : ℕ) → loads ≡ suc k → ◌≡◌ {A = List (List Item)} ([] ∷ replicate k []) (replicate loads [])
one_more loads k e = ap (λ n. replicate n []) (sym e)

pub returns-then-loads-eq0 : goal.returns-then-loads-eq0
returns-then-loads-eq0 t c = nothing_put c.args.nest.now (replicate c.args.loads []) (λ walk. []) c.args.out.now (ap (λ n. replicate n []) c.if-loads-eq0.true) (λ walk. refl)

pub returns : goal.returns
returns t c =
    let nest = c.args.nest.now in
    let loads = c.if-loads-eq0.false in
    let fewer = c.args.loads - 1 in
    on_ok_weaker c.add_none.result
    (λ h. put_same nest ([] ∷ replicate fewer []) (replicate c.args.loads []) (λ walk. []) (λ walk. []) c.args.out.now c.add_none.new.out (one_more c.args.loads fewer (omega (arith, loads))) (λ walk. refl)
    (put_twice nest ([] ∷ []) (replicate fewer []) (λ walk. []) (λ walk. []) c.args.out.now c.push.new.self c.add_none.new.out
    (one_put nest [] (λ walk. []) None c.args.out.now c.push.new.self c.in_ok-push.ensures.ok refl (λ walk. refl) tt) h))
    c.add_none.ensures
