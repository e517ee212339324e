use Rattle.std.proofs.Common.{◌≡◌, suc, ◌+◌, List, [], ◌∷◌, Ok, length, drop, sum_by, refl, sym, ap, subst, ◌∙◌, arith, add-one, drop-cons}
use Rattle.std.proofs.lemmas.List.{drop_all, append-nil}
use Rattle.std.proofs.lemmas.List.Sums.{sum_by-cons}
use Rattle.affc_ast.specs.declared.tree.Decl.{Decl}
use Rattle.affc_ast.specs.declared.tree.Ix.{Ix}
use Rattle.affc_ast.specs.Index.{nodes_of_ix}
use Rattle.affc_ast.specs.Meaning.{all_extents, extents_of, nodes_of_decls}
use Rattle.affc_interp.specs.Arrays.{AllDeclared, Declared}
use Rattle.affc_interp.proofs.Declares.{declared_both}
use Rattle.affc_interp.proofs.memory.Memory.declare_temps.Goals as goal

pub loop-d-preserved : goal.loop-d-preserved
loop-d-preserved c =
    let d = c.d-item.result in
    let ds = c.args.temps.now in
    let k = c.loop-d.d-index in
    let rest = drop (k + 1) ds in
    let cons : drop k ds ≡ d ∷ rest = drop-cons ds k d c.loop-d-test.true ∙ ap (λ (z : Decl). z ∷ drop (suc k) ds) (sym c.d-item.is) ∙ ap (λ n. d ∷ drop n ds) (sym (add-one k)) in
    let own : c.node_sum-first.result ≡ sum_by nodes_of_ix d.extents = c.node_sum-first.ensures ∙ ap (sum_by nodes_of_ix) c.as_slice-extents.ensures in
    let one = subst (λ (es : List Ix). Declared (Ok tt) c.loop-d.self c.declare.new.self [] (extents_of c.loop-d.number es c.loop-d.first c.args.names.now)) c.as_slice-extents.ensures c.in_ok-declare.ensures in
    record {
      goes_on = λ h new more.
          c.loop-d.invariant.goes_on h new
          (subst (λ (l : List Decl). AllDeclared h c.loop-d.self new [] (all_extents c.loop-d.number l c.loop-d.first c.args.names.now)) (sym cons)
          (declared_both d rest c.loop-d.number c.loop-d.first c.args.names.now h c.loop-d.self c.declare.new.self new [] (c.loop-d.first + c.node_sum-first.result) (ap (λ n. c.loop-d.first + n) own) one more));
      nodes =
          let s = c.loop-d.invariant.nodes in
          let e : nodes_of_decls (drop k ds) ≡ sum_by nodes_of_ix d.extents + nodes_of_decls rest = ap nodes_of_decls cons ∙ sum_by-cons (λ (x : Decl). sum_by nodes_of_ix x.extents) d rest in
          omega (arith, s, e, own);
      arrays = let s = c.loop-d.invariant.arrays in let e : length (drop k ds) ≡ suc (length rest) = ap length cons in omega (arith, s, e);
    }

pub returns : goal.returns
returns c =
    let m = c.loop-d.self in
    let none : drop c.loop-d.d-index c.args.temps.now ≡ [] = drop_all c.loop-d.d-index c.args.temps.now c.loop-d-test.false in
    c.loop-d.invariant.goes_on (Ok tt) m
    (subst (λ (l : List Decl). AllDeclared (Ok tt) m m [] (all_extents c.loop-d.number l c.loop-d.first c.args.names.now)) (sym none) ([], refl, sym (append-nil m.extents), sym (append-nil m.store)))
