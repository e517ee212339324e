-- The parts of a program that a text is read as.
use Rattle.std.proofs.Common.{◌≡◌, [], Ok, sym, ap, ◌∙◌}
use Rattle.affc_ast.specs.declared.tree.Program.{Program}
use Rattle.affc_grammar.specs.Draft.{TextDraft}
use Rattle.affc_grammar.specs.Names.{Scope, with_params, outermost, pragmas_tree, function_why, params_tree, temps_tree, stmts_tree, program_tree}
use Rattle.affc_cprint.proofs.Sees.{ok_of, both_ok, allowed_ok}

pub record ProgramParts (d : TextDraft) (p : Program) : Type 0 where
  pub context : pragmas_tree (with_params (outermost d) d.params) [] d.pragmas ≡ Ok p.context
  pub params : params_tree (outermost d) d.pragmas d.params ≡ Ok p.params
  pub inner : Scope
  pub temps : temps_tree (with_params (outermost d) d.params) d.temps ≡ Ok (p.temps, inner)
  pub body : stmts_tree inner d.body ≡ Ok p.body
  pub prelude : p.prelude ≡ d.has_prelude

pub program_parts : (d : TextDraft) (p : Program) → program_tree d ≡ Ok p → ProgramParts d p
program_parts d p e =
    let inside = with_params (outermost d) d.params in
    let conditions = both_ok (pragmas_tree inside [] d.pragmas) _ p e in
    let named = allowed_ok (function_why inside d.function.name) d.function.at _ p conditions.2 in
    let params = both_ok (params_tree (outermost d) d.pragmas d.params) _ p named.1 in
    let temps = both_ok (temps_tree inside d.temps) _ p params.2 in
    let body = both_ok (stmts_tree temps.0.1 d.body) _ p temps.2 in
    let q : ◌≡◌ {A = Program} (record { name = d.function.name; params = params.0; context = conditions.0; temps = temps.0.0; body = body.0; prelude = d.has_prelude }) p = ok_of body.2 in
    record {
      context = conditions.1 ∙ ap (λ (t : Program). Ok t.context) q;
      params = params.1 ∙ ap (λ (t : Program). Ok t.params) q;
      inner = temps.0.1;
      temps = temps.1 ∙ ap (λ (t : Program). Ok (t.temps, temps.0.1)) q;
      body = body.1 ∙ ap (λ (t : Program). Ok t.body) q;
      prelude = sym (ap (λ (t : Program). t.prelude) q);
    }
