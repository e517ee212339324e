use Rattle.std.proofs.Common.{rules, ◌≡◌, ◌≤◌, suc, ◌∷◌, ◌++◌, [], ◌+◌, ◌-◌, ℤ, true, false, length, take, drop, get_or, List, ap, sym, ◌∙◌, arith}
use Rattle.std.specs.Prelude.{int_lt, ◌&&◌}
use Rattle.affc_domain.specs.Ranges.{is_near}
use Rattle.affc_domain.specs.Rounds.{Round, loops_in}
use Rattle.affc_domain.proofs.Lists.{tail_is}
use Rattle.affc_nest.specs.declared.frames.Frame.{Frame}
use Rattle.affc_nest.specs.Frames.{seen, all_seen}
use Rattle.affc_nest.proofs.IntervalLemmas.{far_is, fit_outside, again, near_more, one_longer, plain_inside, fewer_inside}
use Rattle.affc_nest.proofs.ranges.+fits.Goals as goal

whole_is : (fs : List Frame) (x y : Frame) → 1 ≤ length fs → x ≡ get_or fs 0 x → x ≡ y → all_seen fs ≡ seen y ∷ all_seen (take (length fs - 1) (drop 1 fs))
whole_is fs x y h e g = ap all_seen (tail_is fs x h) ∙ ap (λ (z : Frame). seen z ∷ all_seen (take (length fs - 1) (drop 1 fs))) (sym e ∙ g)

pub returns-then-not-are_close : goal.returns-then-not-are_close
returns-then-not-are_close t c =
    let x = c.in_ok-first-in-Loop.first in
    let y = c.in_ok-first-in-Loop.end in
    let fs : List Frame = c.args.frames.now in
    let g = whole_is fs c.frame-item.result _ c.in-len1-up.len_at_least c.frame-item.is c.in-Loop.is in
    let p = again x y c.in_ok-first-in-Loop.ensures.small.0 c.in_ok-first-in-Loop.ensures.small.1 in
    let ordered : int_lt y x ≡ false = ap (λ (r : ℤ × ℤ). int_lt r.1 r.0) (sym p) ∙ c.if-end-first.false in
    let far : (is_near x && is_near y) ≡ false = ap (λ (r : ℤ × ℤ). is_near r.0 && is_near r.1) (sym p) ∙ sym c.are_close.ensures ∙ c.if-not-are_close.true in
    (0, far_is c.args.all.now c.in-Loop.iter.now c.in-Loop.low.now c.in-Loop.rel c.in-Loop.high.now (all_seen (take (length fs - 1) (drop 1 fs))) (all_seen fs) (x, y) g c.in_ok-first-in-Loop.ensures.value ordered far, omega arith)

pub fits-requires-in-Loop : goal.fits-requires-in-Loop
fits-requires-in-Loop t c =
    let x = c.in_ok-first-in-Loop.first in
    let y = c.in_ok-first-in-Loop.end in
    let fs : List Frame = c.args.frames.now in
    let rest : List Round = all_seen (take (length fs - 1) (drop 1 fs)) in
    let g = whole_is fs c.frame-item.result _ c.in-len1-up.len_at_least c.frame-item.is c.in-Loop.is in
    let p = again x y c.in_ok-first-in-Loop.ensures.small.0 c.in_ok-first-in-Loop.ensures.small.1 in
    let near : (is_near x && is_near y) ≡ true = ap (λ (r : ℤ × ℤ). is_near r.0 && is_near r.1) (sym p) ∙ sym c.are_close.ensures ∙ c.if-not-are_close.false in
    let all : c.add_both.new.all ≡ c.args.all.now ++ (x, y) ∷ [] = c.in_ok-add_both-in-Loop.ensures.all ∙ ap (λ r. c.args.all.now ++ r ∷ []) p in
    let l : length c.add_both.new.all ≡ suc (length c.args.all.now) = one_longer c.args.all.now c.add_both.new.all (x, y) all in
    let k : loops_in (all_seen fs) ≡ suc (loops_in rest) = ap loops_in g in (
      search rules,
      (
        near_more c.args.all.now c.add_both.new.all (x, y) all c.requires.near near,
        (
          plain_inside (length c.args.all.now) (length c.add_both.new.all) c.in-Loop.iter.now c.in-Loop.low.now c.in-Loop.rel c.in-Loop.high.now rest (all_seen fs) g l c.requires.plain,
          (
            fewer_inside (length c.args.all.now) (length c.add_both.new.all) (loops_in (all_seen fs)) (loops_in rest) k l c.requires.few,
            fewer_inside c.args.depth (c.args.depth + 1) (loops_in (all_seen fs)) (loops_in rest) k (omega arith) c.requires.depth,
          ),
        ),
      ),
    )

pub returns-in_ok-fit-in-Loop : goal.returns-in_ok-fit-in-Loop
returns-in_ok-fit-in-Loop t c =
    let x = c.in_ok-first-in-Loop.first in
    let y = c.in_ok-first-in-Loop.end in
    let fs : List Frame = c.args.frames.now in
    let g = whole_is fs c.frame-item.result _ c.in-len1-up.len_at_least c.frame-item.is c.in-Loop.is in
    let p = again x y c.in_ok-first-in-Loop.ensures.small.0 c.in_ok-first-in-Loop.ensures.small.1 in
    let ordered : int_lt y x ≡ false = ap (λ (r : ℤ × ℤ). int_lt r.1 r.0) (sym p) ∙ c.if-end-first.false in
    let near : (is_near x && is_near y) ≡ true = ap (λ (r : ℤ × ℤ). is_near r.0 && is_near r.1) (sym p) ∙ sym c.are_close.ensures ∙ c.if-not-are_close.false in
    let all : c.add_both.new.all ≡ c.args.all.now ++ (x, y) ∷ [] = c.in_ok-add_both-in-Loop.ensures.all ∙ ap (λ r. c.args.all.now ++ r ∷ []) p in
    let own : c.add_both.new.own ≡ c.args.own.now ++ (x, y) ∷ [] = c.in_ok-add_both-in-Loop.ensures.own ∙ ap (λ r. c.args.own.now ++ r ∷ []) p in
    fit_outside c.in_ok-fit-in-Loop.fit c.args.all.now c.add_both.new.all c.args.own.now c.add_both.new.own c.fits-in-Loop.new.own c.in-Loop.iter.now c.in-Loop.low.now c.in-Loop.rel c.in-Loop.high.now
    (all_seen (take (length fs - 1) (drop 1 fs))) (all_seen fs) (x, y) c.args.depth g c.in_ok-first-in-Loop.ensures.value ordered near all own c.in_ok-fit-in-Loop.ensures
