-- A printed program keeps the wide limits on tokens, runs, brackets and items, where a text that keeps those of one without the prelude reads as it.
use Rattle.std.proofs.Common.{◌≡◌, ℕ, ◌≤◌, ◌||◌, true, false, not, List, [], ◌∷◌, ◌++◌, length, Ok, IsTrue, arith, length-append}
use Rattle.std.proofs.lemmas.Bool.{and_from, le-leb}
use Rattle.affc_ast.specs.declared.tree.Program.{Program}
use Rattle.affc_grammar.specs.Grammar.{Symbol, LineText, PragmasText, FunctionText, Text, pragmas_symbols, include_symbols, function_symbols, text_symbols, context_calls}
use Rattle.affc_grammar.specs.Draft.{TextDraft, text_draft}
use Rattle.affc_grammar.specs.Limits.{plain_limits, wide_limits, shape_passed, count_token, count_run, count_open, count_item}
use Rattle.affc_grammar.specs.Names.{outermost, with_params, program_tree}
use Rattle.affc_wellnamed.specs.Shape.{lines_shape, function_shape, program_shape, is_bounded}
use Rattle.affc_cprint.proofs.Parts.{program_parts}
use Rattle.affc_wellnamed.proofs.Counts.{after, highest, any_tokens, none_past}
use Rattle.affc_wellnamed.proofs.ShapePrograms.{no_faults, none_of_both}
use Rattle.affc_loopprint.proofs.reprint.Nests.{nest_few}
use Rattle.affc_loopprint.proofs.reprint.Statements.{numbers_of, AtMost, most_both, HasRun, run_left, run_right, items_right}
use Rattle.affc_loopprint.proofs.reprint.Lines.{HasDeep, deep_row, deep_left, deep_right, pragmas_read, lines_most}
use Rattle.affc_loopprint.proofs.reprint.Kept.{Keeps, few_numbers, few_conditions}
use Rattle.affc_loopprint.proofs.reprint.Programs.{function_read}

after_most : (next : ℕ → Symbol → ℕ) (n : ℕ) (ss : List Symbol) → after next n ss ≤ highest next n ss
after_most next n [] = omega arith
after_most next n (s ∷ ss) = let h = after_most next (next n s) ss in omega (arith, h)

record Short (ss : List Symbol) : Type 0 where
  tokens : length ss ≤ 65536
  run : highest count_run 0 ss ≤ 2048
  depth : highest count_open 0 ss ≤ 64
  items : highest count_item 0 ss ≤ 256

short : (ss : List Symbol) → shape_passed plain_limits ss ≡ [] → Short ss
short ss e =
    let p = none_of_both _ _ e in
    let q = none_of_both _ _ p.0 in
    let r = none_of_both _ _ q.0 in
    let t = none_past count_token 65536 0 0 ss (omega arith) (no_faults _ _ r.0) in
    let n = (any_tokens ss).most 0 in
    record {
      tokens = omega (arith, t, n);
      run = none_past count_run 2048 0 0 ss (omega arith) (no_faults _ _ r.1);
      depth = none_past count_open 64 0 0 ss (omega arith) (no_faults _ _ q.1);
      items = none_past count_item 256 0 0 ss (omega arith) (no_faults _ _ p.1);
    }

-- what is printed before the function, and of it
pub record Printed (p : Program) : Type 0 where
  pub lines : AtMost (numbers_of (lines_shape p)) (record { tokens = 65424; run = 65379; depth = 193; items = 0 })
  pub function : AtMost (numbers_of (function_shape p)) (record { tokens = 131072; run = 4096; depth = 230; items = 256 })

pub printed_bounded : (p : Program) → Printed p → is_bounded (program_shape p) ≡ true
printed_bounded p h =
    let a = h.lines in let b = h.function in
    let q = most_both (lines_shape p) (function_shape p) _ _ a b in
    let t = q.tokens in let r = q.run in let d = q.depth in let i = q.items in
    and_from _ _ (and_from _ _ (le-leb (program_shape p).tokens wide_limits.tokens (omega (arith, t))) (le-leb (program_shape p).run wide_limits.run (omega (arith, r))))
    (and_from _ _ (le-leb (program_shape p).depth wide_limits.depth (omega (arith, d))) (le-leb (program_shape p).items wide_limits.items (omega (arith, i))))

module _ (line : LineText) (ps : PragmasText) (k : IsTrue (false || not (context_calls ps))) (f : FunctionText false) (p : Program) where
  abbrev the_text : Text
  the_text = record { line = line; pragmas = ps; has_prelude = false; calls_allowed = k; function = f }

  pub is_printed : program_tree (text_draft the_text) ≡ Ok p → shape_passed plain_limits (text_symbols the_text) ≡ [] → Keeps (text_draft the_text) → Printed p
  is_printed reads shape keep =
      let d : TextDraft = text_draft the_text in
      let front = include_symbols line in
      let lines = pragmas_symbols ps in
      let function = function_symbols f in
      let s = short (text_symbols the_text) shape in
      let sr = s.run in let sd = s.depth in let si = s.items in let st = s.tokens in
      let run_in : (n : ℕ) → HasRun n (front ++ (lines ++ function)) → n ≤ 2048 = λ n h. let m = h.most 0 in omega (arith, m, sr) in
      let deep_in : (n : ℕ) → HasDeep n (front ++ (lines ++ function)) → n ≤ 64 = λ n h. let m = h.most 0 in omega (arith, m, sd) in
      let parts = program_parts d p reads in
      let fit = pragmas_read (with_params (outermost d) d.params) (length front) ps [] p.context parts.context (λ n h. run_in n (run_right n front (lines ++ function) (run_left n lines function h)))
      (λ n h. deep_in n (deep_right n front (lines ++ function) (deep_left n lines function h))) in
      let low = nest_few _ f.stmts keep.loops keep.bodies keep.comparisons in
      let below = function_read d.pragmas (outermost d) (with_params (outermost d) d.params) parts.inner _ _ _ f p parts.prelude parts.params parts.temps parts.body in
      let n1 = run_in below.run (run_right below.run front (lines ++ function) (run_right below.run lines function below.has_run)) in
      let n2 = deep_in below.deep (deep_right below.deep front (lines ++ function) (deep_right below.deep lines function (deep_row below.deep function below.brackets))) in
      let n3 = (items_right below.items front (lines ++ function) (items_right below.items lines function below.has_items)).behind 0 in
      let n4 = after_most count_item 0 (front ++ (lines ++ function)) in
      let l1 = length-append front (lines ++ function) in
      let l2 = length-append lines function in
      let t = below.few in let r = below.short in let h = below.shallow in let i = below.counted in
      record {
        lines = lines_most p fit (few_numbers d p reads keep) (few_conditions d p reads keep);
        function = record { tokens = omega (arith, t, l1, l2, st); run = omega (arith, r, n1); depth = omega (arith, h, n2, low); items = omega (arith, i, n3, n4, si) };
      }
