use Rattle.std.proofs.Common.{◌≡◌, ◌+◌, ◌-◌, suc, length, take, drop, refl, ap, ◌∙◌, arith, rules, to_z-of_z, w64}
use Rattle.std.specs.Prelude.{sum_by}
use Rattle.std.proofs.lemmas.List.Sums.{sum_by-cons}
use mir.Val.{SFits}
use Rattle.affc_ast.specs.Index.{nodes_of_ix}
use Rattle.affc_ast.specs.Meaning.{arrays_of, nodes_of_decls}
use Rattle.affc_interp.specs.DataText.{element_count}
use Rattle.affc_ast.specs.declared.tree.Param.TheVariants.{Number, Array}
use Rattle.affc_interp.specs.Arrays.{values_in}
use Rattle.affc_interp.proofs.Feeds.{empty_list, read_end, number_step, number_stop, array_step, array_stop, counted_so, values_push, wrong_so}
use Rattle.affc_interp.proofs.Lists.{first_and_rest}
use Rattle.affc_interp.proofs.feed.+read_lines.Goals as goal

pub returns-in-empty : goal.returns-in-empty
returns-in-empty t c = read_end c.args.text c.args.params.now c.args.line c.args.numbers.now.items (values_in c.args.arrays.now.items) (empty_list c.args.params.now (omega arith))

pub returns-in_ok-push-in-Some : goal.returns-in_ok-push-in-Some
returns-in_ok-push-in-Some t c =
    let low : SFits w64 c.in-Number.low = search rules in
    let high : SFits w64 c.in-Number.high = search rules in
    let value : SFits w64 c.in-Some.value = search rules in
    let ps = c.args.params.now in
    number_step ps (take (length ps - 1) (drop 1 ps)) c.in-Number.name c.in-Number.low c.in-Number.high c.in-Some.value c.args.text.now c.in-Some.rest.now c.read_lines.result c.args.line c.args.numbers.now.items c.push.new.self.items c.read_lines.new.numbers.items
    (values_in c.args.arrays.now.items) (values_in c.read_lines.new.arrays.items) (first_and_rest ps c.param-item.result (Number c.in-Number.name c.in-Number.low c.in-Number.high) c.in-len1-up.len_at_least c.param-item.is c.in-Number.is)
    (simp to_z-of_z at c.in-Some.ensures) (simp to_z-of_z at c.in_ok-push-in-Some.ensures.items) c.read_lines.ensures

pub returns-in-None : goal.returns-in-None
returns-in-None t c =
    let low : SFits w64 c.in-Number.low = search rules in
    let high : SFits w64 c.in-Number.high = search rules in
    let ps = c.args.params.now in
    number_stop ps (take (length ps - 1) (drop 1 ps)) c.in-Number.name c.in-Number.low c.in-Number.high c.args.text.now c.args.line c.args.numbers.now.items c.args.numbers.now.items (values_in c.args.arrays.now.items) (values_in c.args.arrays.now.items)
    (first_and_rest ps c.param-item.result (Number c.in-Number.name c.in-Number.low c.in-Number.high) c.in-len1-up.len_at_least c.param-item.is c.in-Number.is) (simp to_z-of_z at c.in-None.ensures)

pub returns-in_ok-push-in-Ok : goal.returns-in_ok-push-in-Ok
returns-in_ok-push-in-Ok t c =
    let ps = c.args.params.now in
    let count = counted_so c.element_count-count.result c.as_slice.result.now c.in-Array.decl c.as_slice-in-Array.result.now c.args.numbers.now.items c.as_slice.ensures c.as_slice-in-Array.ensures.value c.element_count-count.ensures in
    array_step ps (take (length ps - 1) (drop 1 ps)) c.in-Array.decl c.in-Ok.values.items c.args.text.now c.in-Ok.rest.now c.read_lines-in-Ok.result c.args.line c.args.numbers.now.items c.args.numbers.now.items c.read_lines-in-Ok.new.numbers.items
    (values_in c.args.arrays.now.items) (values_in c.push-in-Ok.new.self.items) (values_in c.read_lines-in-Ok.new.arrays.items) (first_and_rest ps c.param-item.result (Array c.in-Array.decl) c.in-len1-up.len_at_least c.param-item.is c.in-Array.is)
    (c.in-Ok.ensures _ count) refl (values_push c.args.arrays.now.items c.push-in-Ok.new.self.items c.in-Ok.values c.in_ok-push-in-Ok.ensures.items) c.read_lines-in-Ok.ensures

pub returns-in-Err-Wrong : goal.returns-in-Err-Wrong
returns-in-Err-Wrong t c =
    let ps = c.args.params.now in
    let count = counted_so c.element_count-count.result c.as_slice.result.now c.in-Array.decl c.as_slice-in-Array.result.now c.args.numbers.now.items c.as_slice.ensures c.as_slice-in-Array.ensures.value c.element_count-count.ensures in
    array_stop ps (take (length ps - 1) (drop 1 ps)) c.in-Array.decl c.args.text.now c.args.line c.args.numbers.now.items c.args.numbers.now.items (values_in c.args.arrays.now.items) (values_in c.args.arrays.now.items)
    (first_and_rest ps c.param-item.result (Array c.in-Array.decl) c.in-len1-up.len_at_least c.param-item.is c.in-Array.is) (wrong_so c.in-Err-Wrong.field-0 c.in-Array.decl.name (element_count c.in-Array.decl c.args.numbers.now.items) c.args.text.now c.in-Err-Wrong.field-0-is (c.in-Err-Wrong.ensures _ count))

pub read_lines-requires : goal.read_lines-requires
read_lines-requires t c =
    let ps = c.args.params.now in
    let others = take (length ps - 1) (drop 1 ps) in
    let e = first_and_rest ps c.param-item.result (Number c.in-Number.name c.in-Number.low c.in-Number.high) c.in-len1-up.len_at_least c.param-item.is c.in-Number.is in
    let n : nodes_of_decls (arrays_of ps) ≡ nodes_of_decls (arrays_of others) = ap (λ l. nodes_of_decls (arrays_of l)) e in
    let l : length ps ≡ suc (length others) = ap length e in
    (omega (arith, l), (omega (arith, n), omega (arith, l)))

pub read_lines-requires-in-Ok : goal.read_lines-requires-in-Ok
read_lines-requires-in-Ok t c =
    let ps = c.args.params.now in
    let others = take (length ps - 1) (drop 1 ps) in
    let e = first_and_rest ps c.param-item.result (Array c.in-Array.decl) c.in-len1-up.len_at_least c.param-item.is c.in-Array.is in
    let n : nodes_of_decls (arrays_of ps) ≡ sum_by nodes_of_ix c.in-Array.decl.extents + nodes_of_decls (arrays_of others) =
    ap (λ l. nodes_of_decls (arrays_of l)) e ∙ sum_by-cons (λ d. sum_by nodes_of_ix d.extents) c.in-Array.decl (arrays_of others) in
    let l : length ps ≡ suc (length others) = ap length e in
    (omega (arith, l), (omega (arith, n), omega (arith, l)))

pub element_count-count-requires : goal.element_count-count-requires
element_count-count-requires t c =
    let ps = c.args.params.now in
    let others = take (length ps - 1) (drop 1 ps) in
    let n : nodes_of_decls (arrays_of ps) ≡ sum_by nodes_of_ix c.in-Array.decl.extents + nodes_of_decls (arrays_of others) =
    ap (λ l. nodes_of_decls (arrays_of l)) (first_and_rest ps c.param-item.result (Array c.in-Array.decl) c.in-len1-up.len_at_least c.param-item.is c.in-Array.is)
    ∙ sum_by-cons (λ d. sum_by nodes_of_ix d.extents) c.in-Array.decl (arrays_of others) in
    let s : sum_by nodes_of_ix c.as_slice.result.now ≡ sum_by nodes_of_ix c.in-Array.decl.extents = ap (sum_by nodes_of_ix) c.as_slice.ensures in
    omega (arith, n, s)
