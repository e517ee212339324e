use Rattle.std.proofs.Common.{List, ◌-◌, ◌++◌, length, map, take, drop, sym, ap, ◌∙◌, arith}
use Rattle.std.proofs.lemmas.Result.{on_ok_weaker}
use Rattle.std.proofs.lemmas.List.Elements.{All-take, All-drop}
use Rattle.affc_rows.specs.Forms.{Affine}
use Rattle.affc_domain.proofs.Lists.{first_and_rest}
use Rattle.affc_nest.specs.Wide.{IsWide}
use Rattle.affc_order.specs.Systems.{lex_systems, rows_in}
use Rattle.affc_order.proofs.CodeLemmas.{lex_made}
use Rattle.affc_order.proofs.lex.+add_lex.Goals as goal

pub returns-then-n-eq0 : goal.returns-then-n-eq0
returns-then-n-eq0 t c =
    on_ok_weaker c.add_tie.result
    (λ e. e ∙ ap (λ n. c.args.out.now.items ++ map rows_in (lex_systems c.args.columns n c.args.fs.now c.args.gs.now c.args.equal.now c.args.tie)) (sym c.if-n-eq0.true))
    (c.add_tie.ensures c.args.columns c.args.fs.now c.args.gs.now)

pub add_lex-requires : goal.add_lex-requires
add_lex-requires t c =
    let fs = c.args.fs.now in
    let gs = c.args.gs.now in
    let h = c.if-n-eq0.false in
    (omega (arith, h), (All-take (IsWide c.args.columns) (length fs - 1) (drop 1 fs) (All-drop (IsWide c.args.columns) 1 fs c.requires.firsts), All-take (IsWide c.args.columns) (length gs - 1) (drop 1 gs) (All-drop (IsWide c.args.columns) 1 gs c.requires.seconds)))

pub returns-in_ok-both-in-len1-up-gs : goal.returns-in_ok-both-in-len1-up-gs
returns-in_ok-both-in-len1-up-gs t c =
    let fs = c.args.fs.now in
    let gs = c.args.gs.now in
    let f : Affine = c.f-item.result in
    let g : Affine = c.g-item.result in
    let later_fs : List Affine = take (length fs - 1) (drop 1 fs) in
    let later_gs : List Affine = take (length gs - 1) (drop 1 gs) in
    on_ok_weaker c.add_lex.result
    (λ e. lex_made c.args.columns c.args.n f g fs gs later_fs later_gs c.args.equal.now c.in_ok-both-in-len1-up-gs.both c.args.tie c.args.out.now.items c.add_pair.new.out.items c.add_lex.new.out.items
    c.if-n-eq0.false (first_and_rest fs f c.in-len1-up.len_at_least c.f-item.is) (first_and_rest gs g c.in-len1-up-gs.len_at_least c.g-item.is)
    c.in_ok-both-in-len1-up-gs.ensures.both c.in_ok-both-in-len1-up-gs.ensures.less
    (e ∙ ap (λ r. c.add_pair.new.out.items ++ map rows_in (lex_systems c.args.columns (c.args.n - 1) later_fs later_gs r c.args.tie)) (c.as_slice.ensures)))
    c.add_lex.ensures
