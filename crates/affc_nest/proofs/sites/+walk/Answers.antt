use Rattle.std.proofs.Common.{◌≡◌, ℕ, suc, ◌∷◌, ◌++◌, [], ◌+◌, map, ap, sym, ◌∙◌, arith}
use Rattle.affc_ast.specs.Recursion.{by_stmt}
use Rattle.affc_domain.specs.Rounds.{Loop}
use Rattle.affc_nest.specs.Frames.{all_seen}
use Rattle.affc_nest.specs.Sites.{Walked, places, loops_of, in_turn, walked_step}
use Rattle.affc_nest.proofs.SiteLemmas.{for_is, if_is, block_is, both_counted, both_walked}
use Rattle.affc_nest.proofs.sites.+walk.Goals as goal

one_more : (first next : ℕ) → first ≡ next + 1 → first ≡ suc next
one_more first next e = omega arith

behind : (end first next k : ℕ) → end ≡ first + k → first ≡ suc next → end ≡ next + suc k
behind end first next k e f = omega arith

pub walk-returns-in_ok-end-in-For-clause-number : goal.walk-returns-in_ok-end-in-For-clause-number
walk-returns-in_ok-end-in-For-clause-number t c =
    let e = for_is c.args.s.now c.in-For.iter c.in-For.low c.in-For.rel c.in-For.high c.in-For.body c.in-For.is in
    behind c.in_ok-end-in-For.end c.in-Some.first c.args.next (loops_of (map (by_stmt walked_step) c.in-For.body))
    (c.in_ok-end-in-For.ensures.number ∙ ap (λ ss. c.in-Some.first + loops_of (map (by_stmt walked_step) ss)) c.as_slice.ensures) (one_more c.in-Some.first c.args.next c.in-Some.ensures.1)
    ∙ ap (λ (w : Walked). c.args.next + w.loops) (sym e)

pub walk-returns-in_ok-end-in-For-clause-sites : goal.walk-returns-in_ok-end-in-For-clause-sites
walk-returns-in_ok-end-in-For-clause-sites t c =
    let e = for_is c.args.s.now c.in-For.iter c.in-For.low c.in-For.rel c.in-For.high c.in-For.body c.in-For.is in
    let first : c.in-Some.first ≡ suc c.args.next = one_more c.in-Some.first c.args.next c.in-Some.ensures.1 in
    let around : all_seen c.as_slice-in-For.result.now ≡ all_seen c.args.frames.now ++ Loop c.in-For.iter c.in-For.low c.in-For.rel c.in-For.high ∷ [] =
    ap all_seen c.as_slice-in-For.ensures.value ∙ c.in_ok-around-in-For.ensures in
    let numbers : c.as_slice-in-For-2.result.now ≡ c.args.loops.now ++ c.args.next ∷ [] = c.as_slice-in-For-2.ensures.value ∙ c.in_ok-numbers-in-For.ensures in
    c.in_ok-end-in-For.ensures.sites
    ∙ ap (λ ss. places c.args.out.now.items ++ in_turn (map (by_stmt walked_step) ss) (all_seen c.as_slice-in-For.result.now) c.as_slice-in-For-2.result.now c.in-Some.first) c.as_slice.ensures
    ∙ ap (λ rs. places c.args.out.now.items ++ in_turn (map (by_stmt walked_step) c.in-For.body) rs c.as_slice-in-For-2.result.now c.in-Some.first) around
    ∙ ap (λ ns. places c.args.out.now.items ++ in_turn (map (by_stmt walked_step) c.in-For.body) (all_seen c.args.frames.now ++ Loop c.in-For.iter c.in-For.low c.in-For.rel c.in-For.high ∷ []) ns c.in-Some.first) numbers
    ∙ ap (λ n. places c.args.out.now.items ++ in_turn (map (by_stmt walked_step) c.in-For.body) (all_seen c.args.frames.now ++ Loop c.in-For.iter c.in-For.low c.in-For.rel c.in-For.high ∷ []) (c.args.loops.now ++ c.args.next ∷ []) n) first
    ∙ ap (λ (w : Walked). places c.args.out.now.items ++ w.places (all_seen c.args.frames.now) c.args.loops.now c.args.next) (sym e)

pub walk-returns-in_ok-end-in-If-clause-number : goal.walk-returns-in_ok-end-in-If-clause-number
walk-returns-in_ok-end-in-If-clause-number t c =
    let e = if_is c.args.s.now c.in-If.cond c.in-If.body c.in-If.other c.in-If.is in
    let k = loops_of (map (by_stmt walked_step) c.in-If.body) in
    c.in_ok-end-in-If.ensures.number ∙ ap (λ ss. c.in_ok-middle-in-If.middle + loops_of (map (by_stmt walked_step) ss)) c.as_slice-in-If-3.ensures
    ∙ both_counted c.in_ok-middle-in-If.middle c.args.next k (loops_of (map (by_stmt walked_step) c.in-If.other))
    (c.in_ok-middle-in-If.ensures.number ∙ ap (λ ss. c.args.next + loops_of (map (by_stmt walked_step) ss)) c.as_slice-in-If.ensures)
    ∙ ap (λ (w : Walked). c.args.next + w.loops) (sym e)

pub walk-returns-in_ok-end-in-If-clause-sites : goal.walk-returns-in_ok-end-in-If-clause-sites
walk-returns-in_ok-end-in-If-clause-sites t c =
    let e = if_is c.args.s.now c.in-If.cond c.in-If.body c.in-If.other c.in-If.is in
    both_walked (all_seen c.args.frames.now) (all_seen c.as_slice-in-If-2.result.now) (all_seen c.as_slice-in-If-4.result.now) c.in-If.cond
    c.in-If.body c.in-If.other c.as_slice-in-If.result.now c.as_slice-in-If-3.result.now c.args.loops.now c.args.next c.in_ok-middle-in-If.middle (places c.args.out.now.items) _ _
    (ap all_seen c.as_slice-in-If-2.ensures.value ∙ c.in_ok-under-in-If.ensures) (ap all_seen c.as_slice-in-If-4.ensures.value ∙ c.in_ok-beside-in-If.ensures)
    c.as_slice-in-If.ensures c.as_slice-in-If-3.ensures c.in_ok-middle-in-If.ensures.number c.in_ok-middle-in-If.ensures.sites c.in_ok-end-in-If.ensures.sites
    ∙ ap (λ (w : Walked). places c.args.out.now.items ++ w.places (all_seen c.args.frames.now) c.args.loops.now c.args.next) (sym e)

pub walk-returns-in_ok-end-in-Block-clause-number : goal.walk-returns-in_ok-end-in-Block-clause-number
walk-returns-in_ok-end-in-Block-clause-number t c =
    let e = block_is c.args.s.now c.in-Block.locals c.in-Block.body c.in-Block.is in
    c.in_ok-end-in-Block.ensures.number ∙ ap (λ ss. c.args.next + loops_of (map (by_stmt walked_step) ss)) c.as_slice-in-Block.ensures ∙ ap (λ (w : Walked). c.args.next + w.loops) (sym e)

pub walk-returns-in_ok-end-in-Block-clause-sites : goal.walk-returns-in_ok-end-in-Block-clause-sites
walk-returns-in_ok-end-in-Block-clause-sites t c =
    let e = block_is c.args.s.now c.in-Block.locals c.in-Block.body c.in-Block.is in
    c.in_ok-end-in-Block.ensures.sites
    ∙ ap (λ ss. places c.args.out.now.items ++ in_turn (map (by_stmt walked_step) ss) (all_seen c.args.frames.now) c.args.loops.now c.args.next) c.as_slice-in-Block.ensures
    ∙ ap (λ (w : Walked). places c.args.out.now.items ++ w.places (all_seen c.args.frames.now) c.args.loops.now c.args.next) (sym e)
