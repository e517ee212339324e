use Rattle.std.proofs.Common.{◌≡◌, ℕ, ◌+◌, true, List, [], ◌∷◌, ◌++◌, length, get_or, map, rules, sym, ap, subst, ◌∙◌}
use Rattle.std.proofs.lemmas.Result.{IfOk-weaker}
use Rattle.affc_ast.specs.declared.tree.Stmt.{Stmt}
use Rattle.affc_ast.specs.Recursion.{by_stmt}
use Rattle.affc_ast.proofs.Outs.{stmt_outs}
use Rattle.affc_foldloops.specs.Refolds.{refold_step, each_under}
use Rattle.affc_rewrite.specs.Sizes.{IsWalk, at, all_under, accesses_step}
use Rattle.affc_rewrite.proofs.Arms.{walk_in, for_plain, if_plain, block_plain, for_made, if_made, block_made, rest_plain, statement_front}
use Rattle.affc_rewrite.proofs.statements.+walk.Goals as goal

pub statement-statements-requires : goal.statement-statements-requires
statement-statements-requires t c =
    let n : ℕ = c.args.names in
    let q = for_plain n c.args.s.now c.in-For.iter c.in-For.low c.in-For.rel c.in-For.high c.in-For.body c.in-For.is c.requires.plain in
    (search (rules, stmt_outs), (walk_in c.args.folding.now n 1 c.requires.walk q.0, subst (λ ss. all_under (map (by_stmt accesses_step) ss) (n + 1) ≡ true) (sym c.as_slice.ensures) q.1))

pub statement-statements-requires-in-If : goal.statement-statements-requires-in-If
statement-statements-requires-in-If t c =
    let n : ℕ = c.args.names in
    let q = if_plain n c.args.s.now c.in-If.cond c.in-If.body c.in-If.other c.in-If.is c.requires.plain in
    (search (rules, stmt_outs), (c.requires.walk, subst (λ ss. all_under (map (by_stmt accesses_step) ss) n ≡ true) (sym c.as_slice-in-If.ensures) q.0))

pub statement-statements-requires-in-If-2 : goal.statement-statements-requires-in-If-2
statement-statements-requires-in-If-2 t c =
    let n : ℕ = c.args.names in
    let q = if_plain n c.args.s.now c.in-If.cond c.in-If.body c.in-If.other c.in-If.is c.requires.plain in
    (search (rules, stmt_outs), (c.requires.walk, subst (λ ss. all_under (map (by_stmt accesses_step) ss) n ≡ true) (sym c.as_slice-in-If-2.ensures) q.1))

pub statement-statements-requires-in-Block : goal.statement-statements-requires-in-Block
statement-statements-requires-in-Block t c =
    let n : ℕ = c.args.names in
    let q = block_plain n c.args.s.now c.in-Block.locals c.in-Block.body c.in-Block.is c.requires.plain in
    let k : c.inside-names.result ≡ n + length c.in-Block.locals = c.inside-names.ensures ∙ ap (λ ls. n + length ls) c.as_slice-in-Block.ensures in (
      search (rules, stmt_outs),
      (
        subst (IsWalk c.args.folding.now) (sym k) (walk_in c.args.folding.now n (length c.in-Block.locals) c.requires.walk q.0),
        subst (λ m. all_under (map (by_stmt accesses_step) c.as_slice-in-Block-2.result.now) m ≡ true) (sym k)
            (subst (λ ss. all_under (map (by_stmt accesses_step) ss) (n + length c.in-Block.locals) ≡ true) (sym c.as_slice-in-Block-2.ensures) q.1),
      ),
    )

pub statement-returns-in_ok-body-in-For : goal.statement-returns-in_ok-body-in-For
statement-returns-in_ok-body-in-For t c =
    IfOk-weaker c.for_loop.result _ _
    (λ s e. for_made (at c.args.folding.now) c.args.names c.args.s.now s c.in-For.body c.as_slice.result.now c.in_ok-body-in-For.body c.as_slice.ensures c.in-For.iter c.in-For.low c.in-For.rel c.in-For.high
    c.in-For.is c.in_ok-body-in-For.ensures e) c.for_loop.ensures

pub statement-returns-in_ok-other-in-If : goal.statement-returns-in_ok-other-in-If
statement-returns-in_ok-other-in-If t c =
    IfOk-weaker c.tested.result _ _
    (λ s e. if_made (at c.args.folding.now) c.args.names c.args.s.now s c.in-If.body c.as_slice-in-If.result.now c.in_ok-body-in-If.body c.as_slice-in-If.ensures c.in-If.cond c.in-If.other c.as_slice-in-If-2.result.now c.in_ok-other-in-If.other
    c.in-If.is c.as_slice-in-If-2.ensures c.in_ok-body-in-If.ensures c.in_ok-other-in-If.ensures e) c.tested.ensures

pub statement-returns-in_ok-body-in-Block : goal.statement-returns-in_ok-body-in-Block
statement-returns-in_ok-body-in-Block t c =
    let k : c.inside-names.result ≡ c.args.names + length c.in-Block.locals = c.inside-names.ensures ∙ ap (λ ls. c.args.names + length ls) c.as_slice-in-Block.ensures in
    IfOk-weaker c.block.result _ _
    (λ s e. block_made (at c.args.folding.now) c.args.names c.args.s.now s c.in-Block.body c.as_slice-in-Block-2.result.now c.in_ok-body-in-Block.body c.as_slice-in-Block-2.ensures c.in-Block.locals c.as_slice-in-Block-3.result.now
    c.inside-names.result c.in-Block.is c.as_slice-in-Block-3.ensures k c.in_ok-body-in-Block.ensures e) c.block.ensures

pub statements-loop-s-preserved : goal.statements-loop-s-preserved
statements-loop-s-preserved t c =
    let n : ℕ = c.args.names in
    let i : ℕ = c.loop-s.s-index in
    let body : List Stmt = c.args.body.now in
    let x : Stmt = c.s-item.result in
    let e : x ≡ get_or body i x = c.s-item.is in
    let pushed : c.push.new.self ≡ c.loop-s.made ++ c.in_ok-statement.field-0 ∷ [] = c.in_ok-push.ensures.ok in
    record {
      plain = rest_plain n i body x c.loop-s-test.true e c.loop-s.invariant.plain;
      made =
          statement_front (at c.args.folding.now) n i body x c.in_ok-statement.field-0 c.loop-s.made c.push.new.self (each_under (map (by_stmt (refold_step (at c.args.folding.now))) body) n)
          c.loop-s-test.true e c.in_ok-statement.ensures pushed c.loop-s.invariant.made;
    }
