use Rattle.std.proofs.Common.{◌≡◌, ◌++◌, List, map, refl, ap, ◌∙◌}
use Rattle.std.proofs.lemmas.Result.{IfOk-weaker}
use Rattle.affc_ast.specs.declared.tree.Decl.{Decl}
use Rattle.affc_nest.specs.declared.nest.ArrayInfo.{ArrayInfo}
use Rattle.affc_rewrite.specs.Rewrite.{decls_from}
use Rattle.affc_rewrite.specs.declared.subscripts.Folding.{Folding}
use Rattle.affc_rewrite.proofs.Whole.{walk_there, temps_are}
use Rattle.affc_rewrite.proofs.rewriting.temporaries.Goals as goal

pub add_decls-requires-clause-folding : goal.add_decls-requires-clause-folding
add_decls-requires-clause-folding c =
    let f : Folding = record { parameters = c.count-parameters.result; arrays = c.as_slice.result; folds = c.args.folds } in
    (walk_there c.args.program.now c.args.nest.now c.args.folds.now c.requires.nest c.requires.plain f c.count-parameters.ensures refl c.requires.limits).folding

pub returns : goal.returns
returns c =
    let f : Folding = record { parameters = c.count-parameters.result; arrays = c.as_slice.result; folds = c.args.folds } in
    let arrays : c.as_slice.result.now ≡ c.args.nest.now.arrays = c.as_slice.ensures in
    let temps : c.as_slice-temps.result.now ≡ c.args.program.now.temps = c.as_slice-temps.ensures in
    IfOk-weaker c.add_decls.result _ _
    (λ ds e.
    e
    ∙ ap (λ (made : List Decl). made ++ decls_from f.parameters (map (λ (a : ArrayInfo). a.extents) f.arrays.now) f.folds.now c.first_temporary-first.result c.as_slice-temps.result.now) c.new.ensures
    ∙ ap (decls_from f.parameters (map (λ (a : ArrayInfo). a.extents) f.arrays.now) f.folds.now c.first_temporary-first.result) temps
    ∙ temps_are c.args.program.now c.args.nest.now c.args.folds.now c.requires.nest c.requires.plain f c.first_temporary-first.result c.count-parameters.ensures refl arrays c.first_temporary-first.ensures.first)
    c.add_decls.ensures
